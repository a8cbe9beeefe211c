-- A stage once a hart had an item.
use Rattle.std.proofs.Common.{◌≡◌, ◌≢◌, inl, inr, ℕ, ◌*◌, length, Some, slice_get, slice_set, sym, ap, ◌∙◌, subst}
use Rattle.std.proofs.lemmas.Bool.{cases_eq}
use Rattle.std.proofs.lemmas.Option.{same_Some}
use Rattle.std.proofs.lemmas.List.{length-set}
use Rattle.elf_image.specs.Image.{Image}
use Rattle.log_entry.specs.declared.log.Log.{Log}
use Rattle.flat_machine.specs.State.{FlatState}
use Rattle.replay_model.specs.State.{Replay}
use Rattle.run_model.specs.Run.{Run}
use Rattle.run_model.specs.Agreement.{Agrees}
use Rattle.std.proofs.lemmas.Option.{slice_get_within}
use Rattle.shared_types.proofs.Lists.{set_here, set_there}
use Rattle.replay_core.specs.declared.replaying.Replaying.{Replaying}
use Rattle.replay_core.specs.declared.went.Went.{Went}
use Rattle.replay_core.specs.Items.{after}
use Rattle.rv_words.specs.Limits.{page_bytes}
use Rattle.board_backing.specs.declared.ends.Ends.{Ends}
use Rattle.board_backing.specs.Ends.{HasPlaces}
use Rattle.replay_core.specs.Standing.{Goes, Stands, IsAt}
use Rattle.replay_core.proofs.StateAfterItem.{reached}
use Rattle.replay_core.proofs.OtherHarts.{others_after}

pub places_on : (old new : Ends) (n m k j : ℕ) → new ≡ old → m ≡ n → j ≡ k → HasPlaces old n k → HasPlaces new m j
places_on old new n m k j is number bytes has = record {
  harts = ap (λ (e : Ends). length e.harts.items) is ∙ has.harts ∙ sym number;
  counts = ap (λ (e : Ends). length e.counts.items) is ∙ has.counts ∙ sym number;
  memory = ap (λ (e : Ends). length e.memory.items) is ∙ has.memory ∙ sym bytes;
}

-- the memory is as long in each state
memory_on : (image : Image) (old new : Replaying) (s t : Replay FlatState) → Stands image old.board s → Stands image new.board t → new.board.log ≡ old.board.log
    → length t.flat.memory ≡ length s.flat.memory
memory_on image old new s t one two log_is =
    (reached image new.board t two).going.good.sound.sized.memory_size ∙ ap (λ (l : Log). page_bytes * l.pages) log_is
    ∙ sym (reached image old.board s one).going.good.sound.sized.memory_size

-- a stage once the run of a hart has gone on from one of its states to another
pub stage_to : (image : Image) (old new : Replaying) (r was : Run) (h : ℕ) (s t : Replay FlatState) → IsAt image old s → slice_get old.runs.items h ≡ Some was
    → Stands image new.board t → Agrees r h t → ((g : ℕ) (q : Run) → g ≢ h → Agrees q g s → Agrees q g t)
    → new.board.log ≡ old.board.log → new.runs.items ≡ slice_set old.runs.items h r → new.ends ≡ old.ends → IsAt image new t
stage_to image old new r was h s t at there stands agrees others log_is runs_is ends_is =
    let inside = slice_get_within old.runs.items h was there in
    record {
      stands = stands;
      runs = ap length runs_is ∙ length-set old.runs.items h r ∙ at.runs ∙ ap (λ (l : Log). length l.streams) (sym log_is);
      agree = λ g k is. elim (cases_eq g h) [
        | inl same ↦
            let here : slice_get new.runs.items g ≡ Some r =
            ap (slice_get new.runs.items) same ∙ ap (λ xs. slice_get xs h) runs_is ∙ set_here old.runs.items h r inside in
            let own : r ≡ k = same_Some _ _ (sym here ∙ is) in
            subst (λ z. Agrees z g t) own (subst (λ z. Agrees r z t) (sym same) agrees)
        | inr n ↦ others g k n (at.agree g k (sym (ap (λ xs. slice_get xs g) runs_is ∙ set_there old.runs.items h g r n) ∙ is))
      ];
      ends = places_on old.ends new.ends _ _ _ _ ends_is (ap (λ (l : Log). length l.streams) log_is) (memory_on image old new s t at.stands stands log_is)
          at.ends;
    }

pub stage_at : (image : Image) (old new : Replaying) (r was : Run) (h : ℕ) (s : Replay FlatState) (answer : Went) → IsAt image old s
    → slice_get old.runs.items h ≡ Some was → Goes image new.board r old.board.log h s answer
    → new.board.log ≡ old.board.log → new.runs.items ≡ slice_set old.runs.items h r → new.ends ≡ old.ends → IsAt image new (after old.board.log h s)
stage_at image old new r was h s answer at there goes log_is runs_is ends_is =
    stage_to image old new r was h s (after old.board.log h s) at there goes.stands goes.agrees
    (λ g q n k. others_after image old.board s g h q at.stands n k) log_is runs_is ends_is
