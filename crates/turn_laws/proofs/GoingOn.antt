-- Lists of turns, sweeps and last turns, one behind another; and rounds that end end alike.
use Rattle.std.proofs.Common.{◌≡◌, ℕ, zero, suc, ◌+◌, ◌==◌, not, min, Bool, true, List, [], ◌∷◌, ◌++◌, Option, Some}
use Rattle.std.proofs.Common.{None, refl, sym, ap, ap₂, ◌∙◌, subst, append_assoc, if◌then◌else◌, true≢false}
use Rattle.std.specs.Option.{option_and_then}
use Rattle.std.proofs.Math.Nat.{add_assoc}
use Rattle.std.proofs.lemmas.Option.{same_Some}
use Rattle.shared_types.proofs.Lists.{bound_to, not_chosen, unless}
use Rattle.turn_model.specs.Recordable.{Recordable}
use Rattle.turn_model.specs.Board.{Board, Supply, Terms, harts, is_over}
use Rattle.turn_model.specs.Turn.{turn}
use Rattle.turn_laws.specs.Supplies.{followed_by}
use Rattle.turn_model.specs.Lists.{RecordingEnd, whole_leg, listed, comes_to}
use Rattle.turn_model.specs.Rounds.{with_favoured, sweep, round, rounds, last_turns, IsRecordedInRounds}

-- what is to be given, in three parts
pub joined : (a b c : Supply) → followed_by (followed_by a b) c ≡ followed_by a (followed_by b c)
joined a b c =
    ap₂ (λ xs ts. record { answers = xs; takes = a.takes + b.takes + c.takes; times = ts }) (append_assoc a.answers b.answers c.answers)
    (append_assoc a.times b.times c.times)
    ∙ ap (λ k. record { answers = a.answers ++ (b.answers ++ c.answers); takes = k; times = a.times ++ (b.times ++ c.times) })
    (add_assoc a.takes b.takes c.takes)

-- one behind another, behind a third
behind : {A B C : Type 0} (k : A → Option C) (f : B → Option C) (g : A → Option B) → ((a : A) → k a ≡ option_and_then f (g a)) → (o : Option A)
    → option_and_then k o ≡ option_and_then f (option_and_then g o)
behind k f g same None = refl
behind k f g same (Some a) = same a

module _ {S V : Type 0} (machine : Recordable S V) (terms : Terms) where
  pub listed_behind : (list more : List (ℕ × ℕ)) (b : Board S)
      → listed machine terms (list ++ more) b ≡ option_and_then (listed machine terms more) (listed machine terms list b)
  listed_behind [] more b = refl
  listed_behind (row ∷ list) more b =
      behind (listed machine terms (list ++ more)) (listed machine terms more) (listed machine terms list) (listed_behind list more)
      (turn machine terms row.0 (min row.1 (whole_leg machine terms row.0 b)) b)

  pub sweep_behind : (r : ℕ) (moved : Bool) (hs more : List ℕ) (b : Board S)
      → sweep machine terms r moved (hs ++ more) b ≡ option_and_then (sweep machine terms r moved more) (sweep machine terms r moved hs b)
  sweep_behind r moved [] more b = refl
  sweep_behind r moved (h ∷ hs) more b =
      behind (sweep machine terms r moved (hs ++ more)) (sweep machine terms r moved more) (sweep machine terms r moved hs) (sweep_behind r moved hs more)
      (turn machine terms h (if moved then whole_leg machine terms h b else 0) (with_favoured r b))

  pub last_behind : (hs more : List ℕ) (b : Board S)
      → last_turns machine terms (hs ++ more) b ≡ option_and_then (last_turns machine terms more) (last_turns machine terms hs b)
  last_behind [] more b = refl
  last_behind (h ∷ hs) more b =
      behind (last_turns machine terms (hs ++ more)) (last_turns machine terms more) (last_turns machine terms hs) (last_behind hs more)
      (if whole_leg machine terms h b == 0 then Some b else turn machine terms h (whole_leg machine terms h b) b)

  abbrev next_round : ℕ → ℕ → Board S → Option (Board S)
  next_round r more b = option_and_then (rounds machine terms (r + 1) more) (round machine terms r (not (r == 0)) b)

  -- rounds come to one board that is over
  rounds_one : (r n m : ℕ) (b o p : Board S) → rounds machine terms r n b ≡ Some o → is_over machine terms o ≡ true → rounds machine terms r m b ≡ Some p
      → is_over machine terms p ≡ true → o ≡ p
  rounds_one r zero zero b o p is over is' over' = sym (same_Some _ _ is) ∙ same_Some _ _ is'
  rounds_one r zero (suc m) b o p is over is' over' =
      absurd (true≢false (sym (ap (is_over machine terms) (same_Some _ _ is) ∙ over) ∙ not_chosen (is_over machine terms b) (next_round r m b) p is'))
  rounds_one r (suc n) zero b o p is over is' over' =
      absurd (true≢false (sym (ap (is_over machine terms) (same_Some _ _ is') ∙ over') ∙ not_chosen (is_over machine terms b) (next_round r n b) o is))
  rounds_one r (suc n) (suc m) b o p is over is' over' =
      let x = bound_to (rounds machine terms (r + 1) n) (round machine terms r (not (r == 0)) b) o (unless (is_over machine terms b) (next_round r n b) o is) in
      let y =
      bound_to (rounds machine terms (r + 1) m) (round machine terms r (not (r == 0)) b) p
      (unless (is_over machine terms b) (next_round r m b) p is') in
      rounds_one (r + 1) n m x.0 o p x.2 over (subst (λ z. rounds machine terms (r + 1) m z ≡ Some p) (same_Some _ _ (sym y.1 ∙ x.1)) y.2) over'

  pub recorded_one : (b : Board S) (r s : RecordingEnd S) → IsRecordedInRounds machine terms b r → IsRecordedInRounds machine terms b s → r ≡ s
  recorded_one b r s is is' =
      let same = rounds_one 0 is.number is'.number b is.over is'.over is.are_made is.is_over is'.are_made is'.is_over in
      let closed : is.closed ≡ is'.closed =
      same_Some _ _ (sym is.last ∙ ap (λ (o : Board S). last_turns machine terms (harts o) o) same ∙ is'.last) in
      is.recorded ∙ ap (comes_to machine terms) closed ∙ sym is'.recorded
