-- What the flat machine that is recorded keeps to, and small lemmas on lists of numbers.
use Rattle.std.proofs.Common.{◌≡◌, ◌≢◌, ℕ, inr, ◌∙◌, sym, subst, arith, List, slice_index, slice_set, refl}
use Rattle.std.proofs.lemmas.List.{get_or-set_other}
use Rattle.turn_model.specs.Faithful.{IsFaithful}
use Rattle.turn_model.specs.Laws.{IsPagedBoard}
use Rattle.turn_model.proofs.BoardFacts.{board_faithful}
use Rattle.rv_words.specs.Limits.{page_bytes}
use Rattle.flat_machine.specs.State.{FlatState}
use Rattle.log_entry.specs.declared.log.Entry.{Entry}
use Rattle.replay_model.specs.Board.{board}
use Rattle.replay_model.specs.Items.{effect}
use Rattle.replay_model.specs.State.{Replay}
use Rattle.run_model.specs.Run.{Run}
use Rattle.run_model.specs.Agreement.{Agrees, IsAhead}
use Rattle.run_model.specs.declared.asked.Ahead.{Ahead}
use Rattle.board_backing.specs.declared.backing.Backing.{Backing}
use Rattle.board_backing.specs.Backing.{Leads, IsStoreOf}
use Rattle.board_backing.proofs.Backs.{is_store}
use Rattle.turn_model.specs.Board.{Board}
use Rattle.crew_core.specs.declared.crew.Crew.{Crew}
use Rattle.crew_parts.specs.Boards.{the_board}
use Rattle.crew_core.specs.Standing.{Stands}

pub faithful : (harts pages : ℕ) → IsFaithful the_board harts pages (IsPagedBoard harts pages)
faithful harts pages = board_faithful page_bytes harts pages pages (inr (inr refl)) refl

pub index_there : (xs : List ℕ) (i j x : ℕ) → j ≢ i → slice_index (slice_set xs i x) j ≡ slice_index xs j
index_there xs i j x n = get_or-set_other xs i j x 0 n

-- the store is of a run that agrees, and so the run's pages are the machine's
pub store_of : (c : Crew) (r : Run) (h : ℕ) (b : Board FlatState) → Stands c b → Agrees r h b.at → IsStoreOf c.backing r
store_of c r h b st a = is_store c.backing r h b.at st.backs a (let z = st.some in let w = st.table in omega (arith, z, w))

pub run_unit : (c : Crew) (r : Run) (h : ℕ) (b : Board FlatState) → Stands c b → Agrees r h b.at → r.frames.unit ≡ page_bytes
run_unit c r h b st a = sym (store_of c r h b st a).0 ∙ st.unit_is

-- what a call of the backing leads to
pub leads_here : (old new : Backing) (r : Run) (h : ℕ) (e : Entry) (s : Replay FlatState) → old.pages.unit ≡ page_bytes
    → Leads old new r h (effect (board old.pages.unit) s h e) → Leads old new r h (effect the_board s h e)
leads_here old new r h e s is led = subst (λ u. Leads old new r h (effect (board u) s h e)) is led

-- what is ahead of the run is ahead of its hart on the machine
pub asks_here : (c : Crew) (r : Run) (h : ℕ) (ahead : Ahead) (b : Board FlatState) → Stands c b → Agrees r h b.at
    → ((h : ℕ) (s : Replay FlatState) → Agrees r h s → IsAhead r.frames.unit h s ahead) → IsAhead page_bytes h b.at ahead
asks_here c r h ahead b st a agrees = subst (λ u. IsAhead u h b.at ahead) (run_unit c r h b st a) (agrees h b.at a)
