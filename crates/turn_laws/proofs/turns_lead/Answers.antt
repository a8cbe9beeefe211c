use Rattle.std.specs.Prelude.{ℕ}
use Rattle.rv_words.specs.declared.shared.Cause.TheVariants.{Cut}
use Rattle.elf_image.specs.Image.{Image}
use Rattle.flat_machine.specs.State.{flat_at_start}
use Rattle.turn_model.specs.Board.{Supply, Terms}
use Rattle.turn_model.specs.Laws.{machine_in}
use Rattle.turn_laws.specs.Laws.{IsReachable}
use Rattle.turn_laws.specs.Reached.{Shut}
use Rattle.turn_laws.proofs.ReachedBoards.{reached_is, sound_of}
use Rattle.turn_laws.proofs.ReachedLists.{IsKept, reached_kept, listed_leads, closed_leads, sweep_leads, rounds_lead, last_lead, reached_extend}
use Rattle.turn_laws.proofs.turns_lead.Goals as goal

kept : (terms : Terms) (image : Image) (harts : ℕ) (supply : Supply) → IsKept (machine_in terms) terms harts (λ x. IsReachable terms image harts supply x)
kept terms image harts supply = reached_kept (machine_in terms) terms harts (flat_at_start image harts) supply

pub returns-clause-list : goal.returns-clause-list
returns-clause-list c terms image harts supply list b d from of is =
    listed_leads (machine_in terms) terms harts (λ x. IsReachable terms image harts supply x) (kept terms image harts supply) list b d from of is

pub returns-clause-close : goal.returns-clause-close
returns-clause-close c terms image harts supply b d pages from is =
    closed_leads (machine_in terms) terms harts (λ x. IsReachable terms image harts supply x) (kept terms image harts supply) b d (λ _. Shut Cut b from)
    (sound_of terms image harts supply pages b (reached_is terms image harts supply pages b from)).ordered.tidy.streams from is

pub returns-clause-sweep : goal.returns-clause-sweep
returns-clause-sweep c terms image harts r supply moved hs b d from each is =
    sweep_leads (machine_in terms) terms harts (λ x. IsReachable terms image harts supply x) (kept terms image harts supply) r moved hs b d from each is

pub returns-clause-rounds : goal.returns-clause-rounds
returns-clause-rounds c terms image harts r more supply b d pages from is =
    rounds_lead (machine_in terms) terms harts (λ x. IsReachable terms image harts supply x) (kept terms image harts supply)
    (λ e from'. (sound_of terms image harts supply pages e (reached_is terms image harts supply pages e from')).ordered.tidy.streams) r more b d from is

pub returns-clause-last : goal.returns-clause-last
returns-clause-last c terms image harts supply hs b d from each is =
    last_lead (machine_in terms) terms harts (λ x. IsReachable terms image harts supply x) (kept terms image harts supply) hs b d from each is

pub returns-clause-extend : goal.returns-clause-extend
returns-clause-extend c terms image harts supply x b from spent =
    reached_extend (machine_in terms) terms harts (flat_at_start image harts) supply x b from spent
