-- A replay along a list, one hart further.
use Rattle.std.proofs.Common.{◌≡◌, ℕ, zero, suc, ◌+◌, ◌<◌, ◌++◌, List, [], ◌∷◌, take, length, Some, slice_get, slice_set, refl, sym, ap, ap₂, ◌∙◌}
use Rattle.std.proofs.Common.{subst, arith}
use Rattle.std.proofs.Math.Seq.{take_all}
use Rattle.std.proofs.lemmas.Option.{none-some, same_Some}
use Rattle.log_entry.specs.declared.log.Log.{Log}
use Rattle.flat_machine.specs.State.{FlatState}
use Rattle.replay_model.specs.State.{Replay}
use Rattle.replay_core.specs.declared.replaying.Replaying.{Replaying}
use Rattle.replay_core.specs.declared.went.Went.{Went}
use Rattle.replay_core.specs.Items.{after, answer_of}
use Rattle.replay_core.specs.Lists.{FollowsList, answers_along, state_along}
use Rattle.replay_core.specs.Standing.{AnswersAt, GoesOn, IsAt, LeadsOn}

-- one element more of a list, and of one that was written there
take_next : {X : Type 0} (xs : List X) (n : ℕ) (x : X) → slice_get xs n ≡ Some x → take (suc n) xs ≡ take n xs ++ x ∷ []
take_next [] n x at = absurd (none-some _ at)
take_next (y ∷ xs) zero x at = ap (λ z. z ∷ []) (same_Some _ _ at)
take_next (y ∷ xs) (suc n) x at = ap (λ zs. y ∷ zs) (take_next xs n x at)

take_written : {X : Type 0} (xs : List X) (n : ℕ) (x : X) → n < length xs → take (suc n) (slice_set xs n x) ≡ take n xs ++ x ∷ []
take_written [] n x inside = absurd (omega (arith, inside))
take_written (y ∷ xs) zero x inside = refl
take_written (y ∷ xs) (suc n) x inside = ap (λ zs. y ∷ zs) (take_written xs n x (omega (arith, inside)))

module _ (log : Log) where
  state_further : (hs : List ℕ) (h : ℕ) (s : Replay FlatState) → state_along log s (hs ++ h ∷ []) ≡ after log h (state_along log s hs)
  state_further [] h s = refl
  state_further (g ∷ hs) h s = state_further hs h (after log g s)

  answers_further : (hs : List ℕ) (h : ℕ) (s : Replay FlatState)
      → answers_along log s (hs ++ h ∷ []) ≡ answers_along log s hs ++ answer_of log (state_along log s hs) h ∷ []
  answers_further [] h s = refl
  answers_further (g ∷ hs) h s = ap (λ zs. answer_of log s g ∷ zs) (answers_further hs h (after log g s))

-- one item more
pub followed : (old mid new : Replaying) (list : List ℕ) (answers : List Went) (n h : ℕ) (answer : Went) → slice_get list n ≡ Some h → n < length answers
    → mid.board.log ≡ old.board.log → FollowsList old mid (take n list) (take n answers) → AnswersAt mid h answer → LeadsOn mid new h
    → FollowsList old new (take (n + 1) list) (take (n + 1) (slice_set answers n answer))
followed old mid new list answers n h answer there inside log_is before answers_are leads image s at =
    let b = before image s at in
    let answer_is : answer ≡ answer_of old.board.log (state_along old.board.log s (take n list)) h =
    answers_are image (state_along old.board.log s (take n list)) b.1
    ∙ ap (λ log. answer_of log (state_along old.board.log s (take n list)) h) log_is in
    let more : n + 1 ≡ suc n = omega arith in
    let next = ap (λ k. take k list) more ∙ take_next list n h there in (
      ap (λ k. take k (slice_set answers n answer)) more ∙ take_written answers n answer inside
          ∙ ap₂ (λ (xs : List Went) (x : Went). xs ++ x ∷ []) b.0 answer_is
          ∙ sym (ap (answers_along old.board.log s) next ∙ answers_further old.board.log (take n list) h s),
      subst (IsAt image new) (sym (ap (state_along old.board.log s) next ∙ state_further old.board.log (take n list) h s))
          (subst (λ log. IsAt image new (after log h (state_along old.board.log s (take n list)))) log_is
          (leads image (state_along old.board.log s (take n list)) b.1)),
    )

pub begins_along : (old : Replaying) (list : List ℕ) (answers : List Went) → FollowsList old old (take 0 list) (take 0 answers)
begins_along old list answers image s at = (refl, at)

-- and the whole list
pub all_followed : (old new : Replaying) (list : List ℕ) (answers : List Went) (n : ℕ) → n ≡ length list → length answers ≡ length list
    → FollowsList old new (take n list) (take n answers) → FollowsList old new list answers
all_followed old new list answers n all same follows =
    subst (λ hs. FollowsList old new hs answers) (take_all n list (omega (arith, all)))
    (subst (FollowsList old new (take n list)) (take_all n answers (omega (arith, all, same))) follows)

pub along_on : (old new : Replaying) (list : List ℕ) (answers : List Went) → FollowsList old new list answers → GoesOn old new
along_on old new list answers follows image s at = (state_along old.board.log s list, (follows image s at).1)
