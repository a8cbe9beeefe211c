-- A run's legs advance its hart's part.
use Rattle.std.proofs.Common.{◌≡◌, inl, inr, ℕ, ◌<◌, ◌≤◌, List, length, Some, slice_get, slice_set, sym, ap, ◌∙◌, subst, arith}
use Rattle.std.proofs.lemmas.Bool.{cases_eq}
use Rattle.std.proofs.lemmas.List.{length-set}
use Rattle.std.proofs.lemmas.Option.{same_Some, slice_get_within}
use Rattle.shared_types.proofs.Lists.{set_here, set_there}
use Rattle.flat_machine.specs.State.{FlatState}
use Rattle.replay_model.specs.Board.{board}
use Rattle.replay_model.specs.State.{IsCrewState, Replay}
use Rattle.run_model.specs.Run.{Run, number_of}
use Rattle.run_model.specs.Legs.{KeepsPages}
use Rattle.run_model.specs.declared.asked.Pause.{Pause}
use Rattle.hart_run.specs.Calls.{LegAgrees}
use Rattle.replay_parts.specs.Boards.{Plain, state_of}
use Rattle.replay_parts.specs.Laws.{Reaches}
use Rattle.replay_parts.specs.Parts.{IsPart, IsPartAdvanced, until_in}
use Rattle.replay_parts.specs.Turns.{IsTurn, Told}
use Rattle.replay_parts.proofs.Advancing.{goes_there, legs_advance, parts_are_numbered, parts_have_unit}
use Rattle.replay_parts.proofs.Turned.{runs_go_on}
use Rattle.replay_core.specs.Turns.{AreParts, HasTurn, IsPartMoved}

pub leg_advances : (p : Plain) (s : Replay FlatState) (h until : ℕ) (run after : Run) (pause : Pause) → Reaches p s → IsPart p h run → KeepsPages run after
    → LegAgrees run after until pause → until ≤ until_in p.log (state_of p) h → (n : ℕ) × IsPartAdvanced p h n after
leg_advances p s h until run after pause r part keeps agrees within =
    let unit = parts_have_unit p s h run r part in
    let leg = agrees h (state_of p) (subst (λ u. IsCrewState (board u) (state_of p)) (sym unit) (goes_there p s r).good.sound.crew) part in
    (leg.leg.moves, legs_advance p s h until run after pause r part keeps leg within)

-- a run behind a leg of a hart's part
module _ (p : Plain) (s : Replay FlatState) (runs : List Run) (h until : ℕ) (run moved : Run) (pause : Pause) (reaches : Reaches p s) (parts : AreParts p runs)
    (there : slice_get runs h ≡ Some run) (keeps : KeepsPages run moved) (leg : LegAgrees run moved until pause)
    (within : until ≤ until_in p.log (state_of p) h) where
  advanced : (n : ℕ) × IsPartAdvanced p h n moved
  advanced = leg_advances p s h until run moved pause reaches (parts.each h run there) keeps leg within

  number : number_of moved ≡ h
  number = parts_are_numbered p s h advanced.0 moved reaches advanced.1

  pub leg_moves : IsPartMoved p moved
  leg_moves = (advanced.0, subst (λ k. IsPartAdvanced p k advanced.0 moved) (sym number) advanced.1)

  -- its turn leaves each run its hart's part
  pub parts_turned : (q : Plain) (after : Run) (told : Told) → HasTurn p q moved after told → AreParts q (slice_set runs h after)
  unfolding advanced leg_moves
  parts_turned q after told had =
      let did = had leg_moves.0 leg_moves.1 in
      let turn = subst (λ k. IsTurn p q k advanced.0 told) number did.0 in
      let streams : length q.log.streams ≡ length p.log.streams = ap (λ (z : Plain). length z.log.streams) turn.committed_is in
      let inside : h < length p.log.streams =
      (let l = slice_get_within runs h run there in let size = parts.number in omega (arith, l, size)) in
      record {
        number = length-set runs h after ∙ parts.number ∙ sym streams;
        each = λ g x at. elim (cases_eq g h) [
          | inl same ↦
              let now : Some after ≡ Some x =
              sym (set_here runs h after (slice_get_within runs h run there)) ∙ subst (λ k. slice_get (slice_set runs h after) k ≡ Some x) same at in
              subst (λ k. IsPart q k x) (sym same) (subst (λ (z : Run). IsPart q h z) (same_Some _ _ now) (subst (λ k. IsPart q k after) number did.1))
          | inr other ↦
              let was = sym (set_there runs h g after other) ∙ at in
              runs_go_on p q s h g advanced.0 told x reaches inside turn other (parts_have_unit p s g x reaches (parts.each g x was)) (parts.each g x was)
        ];
      }
