-- What doesn't see the room of an entry's waits, and lists of entries that are looked at by it.
use Rattle.std.proofs.Common.{◌≡◌, ℕ, Bool, List, Option, Some, None, option_map, refl, ap, ◌∙◌}
use Rattle.std.specs.List.{list_any, list_all, count_by}
use Rattle.std.proofs.Math.Path.{fun_ext}
use Rattle.std.proofs.lemmas.List.Folds.{list_all-map}
use Rattle.rv_words.specs.declared.shared.Mode.{Mode}
use Rattle.log_entry.specs.Waits.{WaitList}
use Rattle.log_entry.specs.declared.log.Entry.{Entry}
use Rattle.log_entry.specs.declared.log.Entry.TheVariants.{Gain, Yield, Poll, Touch, End}
use Rattle.log_entry.specs.Parts.{is_some_and}
use Rattle.log_entry.specs.Room.{entry_without_room, stream_without_room}
use Rattle.room_laws.proofs.Lists.{any_mapped, count_mapped}

-- a function of entries that is the same without room
abbrev pub Unseen : {X : Type 0} → (Entry → X) → Type 0
Unseen f = (λ (e : Entry). f (entry_without_room e)) ≡ f

-- it is enough that it is so of Gains
pub unseen : {X : Type 0} (f : Entry → X)
    → ((count page seq : ℕ) (mode : Mode) (waits : WaitList)
    → f (entry_without_room (Gain count page seq mode waits)) ≡ f (Gain count page seq mode waits))
    → Unseen f
unseen f gain = fun_ext by
  where
    by : (e : Entry) → f (entry_without_room e) ≡ f e
    by (Gain count page seq mode waits) = gain count page seq mode waits
    by (Yield count page seq left) = refl
    by (Poll count ord time bits) = refl
    by (Touch count ord input) = refl
    by (End count) = refl

pub some_unseen : (t : Entry → Bool) → Unseen t → (o : Option Entry) → is_some_and (option_map entry_without_room o) t ≡ is_some_and o t
some_unseen t u None = refl
some_unseen t u (Some e) = λ i. u i e

pub any_unseen : (t : Entry → Bool) → Unseen t → (es : List Entry) → list_any t (stream_without_room es) ≡ list_any t es
any_unseen t u es = any_mapped entry_without_room t es ∙ ap (λ f. list_any f es) u

pub all_unseen : (t : Entry → Bool) → Unseen t → (es : List Entry) → list_all t (stream_without_room es) ≡ list_all t es
all_unseen t u es = list_all-map t entry_without_room es ∙ ap (λ f. list_all f es) u

pub count_unseen : (t : Entry → Bool) → Unseen t → (es : List Entry) → count_by t (stream_without_room es) ≡ count_by t es
count_unseen t u es = count_mapped entry_without_room t es ∙ ap (λ f. count_by f es) u
