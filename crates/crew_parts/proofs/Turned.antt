-- A turn of the board, on its plain data.
use Rattle.std.proofs.Common.{◌≡◌, ◌≢◌, ◌⊎◌, inl, inr, ℕ, zero, suc, ◌+◌, ◌-◌, ◌≤◌, ◌++◌, List, [], ◌∷◌, map, length, Option, Some, None, slice_get}
use Rattle.std.proofs.Common.{slice_index}
use Rattle.std.proofs.Common.{refl, sym, ap, ap₂, ◌∙◌, subst, arith, append-nil, zero-add}
use Rattle.std.specs.Option.{option_map, option_map_or}
use Rattle.std.proofs.lemmas.Option.{get_or_from_slice_get}
use Rattle.rv_words.specs.Limits.{page_bytes}
use Rattle.rv_words.specs.declared.shared.Cause.{Cause}
use Rattle.rv_words.specs.declared.shared.Cause.TheVariants.{Limit, Stop, Full, Fault, Cut}
use Rattle.flat_machine.specs.State.{FlatState, flat_at_start}
use Rattle.flat_machine.specs.declared.results.Step.{Step}
use Rattle.replay_model.specs.Items.{Move, goes, told_of, verdict_on}
use Rattle.replay_model.specs.State.{Replay}
use Rattle.run_model.specs.Run.{Run}
use Rattle.run_model.specs.Agreement.{Agrees}
use Rattle.run_model.specs.Legs.{Runs}
use Rattle.turn_model.specs.Board.{Board, Order, Go, Hold, Rest, Supply, Terms, count}
use Rattle.turn_model.specs.Lists.{leg, leg_by, whole_leg}
use Rattle.turn_model.specs.Turn.{turn}
use Rattle.turn_model.specs.Laws.{IsPagedBoard}
use Rattle.crew_recording.proofs.Items.{by_item, moves}
use Rattle.turn_laws.proofs.ReachedBoards.{faithful_board}
use Rattle.turn_laws.proofs.Legs.{reached_are_crew}
use Rattle.turn_laws.specs.Reached.{Reached}
use Rattle.turn_laws.specs.Supplies.{WithMore, Always, NoAnswer, NotTaken, followed_by}
use Rattle.turn_laws.proofs.MoreAnswers.{turn_carried}
use Rattle.turn_laws.proofs.ReachedLists.{reached_extend}
use Rattle.crew_parts.specs.Boards.{Plain, IsReached, the_board, the_machine, board_of, spent, state_of, terms_of, told_to}
use Rattle.crew_parts.specs.Laws.{IsTurnOf}
use Rattle.run_model.specs.PagesHeld.{pages_in}
use Rattle.run_model.proofs.PagesHeld.{pages_are}
use Rattle.crew_parts.specs.Parts.{until_by}
use Rattle.crew_parts.specs.Turns.{IsSpent}

-- Runs that can be made are of the leg
pub leg_has : (terms : Terms) (h n most : ℕ) (s t : Replay FlatState) → Runs the_board h n s t → n ≤ most → n ≤ leg the_machine terms h most s
leg_has terms h zero most s t runs l = omega arith
leg_has terms h (suc n) zero s t runs l = absurd (omega (arith, l))
leg_has terms h (suc n) (suc most) s t runs l =
    let m = runs.1.0 in
    let one : goes the_board s h Move (verdict_on the_board s h Move) ≡ Some (m, told_of the_board s h Move m) =
    ap (goes the_board s h Move) runs.0 ∙ ap (λ (o : Option (Replay FlatState)). option_map (λ (t : Replay FlatState). (t, told_of the_board s h Move t)) o)
    runs.1.1 in
    let rest = leg_has terms h n most m t runs.1.2 (omega (arith, l)) in
    let is : leg the_machine terms h (suc most) s ≡ suc (leg the_machine terms h most m) =
    ap (λ (o : Option (Replay FlatState × Option (List Step))). option_map_or
    (λ (m : Replay FlatState × Option (List Step)). suc (leg the_machine terms h most m.0)) o 0) one in
    omega (arith, is, rest)

-- so many moves are of the whole leg, where they end no later than the hart was told
pub moves_fit : (terms : Terms) (h n : ℕ) (b : Board FlatState) (t : Replay FlatState) (order : Option Order) → Runs the_board h n b.at t
    → count the_machine terms b h + n ≤ until_by (count the_machine terms b h) order → n ≤ leg_by the_machine terms h b order
moves_fit terms h n b t (Some (Go until)) runs within = leg_has terms h n (until - count the_machine terms b h) b.at t runs (omega (arith, within))
moves_fit terms h n b t (Some (Hold page other)) runs within = omega (arith, within)
moves_fit terms h n b t (Some Rest) runs within = omega (arith, within)
moves_fit terms h n b t None runs within = omega (arith, within)

spent_then : (given left : Supply) → followed_by (followed_by given spent) left ≡ followed_by given left
spent_then given left =
    ap₂ (λ answers times. record { answers = answers ++ left.answers; takes = given.takes + 0 + left.takes; times = times ++ left.times })
    (append-nil given.answers) (append-nil given.times)
    ∙ ap (λ k. record { answers = given.answers ++ left.answers; takes = k; times = given.times ++ left.times }) (omega arith)

pub first_spent : (left : Supply) → followed_by spent left ≡ left
first_spent left = ap (λ k. record { answers = left.answers; takes = k; times = left.times }) (zero-add left.takes)

pub then_spent : (given : Supply) → followed_by given spent ≡ given
then_spent given =
    ap₂ (λ answers times. record { answers = answers; takes = given.takes + 0; times = times }) (append-nil given.answers) (append-nil given.times)
    ∙ ap (λ k. record { answers = given.answers; takes = k; times = given.times }) (omega arith)

abbrev TurnsWith : Terms → Plain → Plain → ℕ → ℕ → Supply → Supply → Type 0
TurnsWith terms p q h n given x = turn the_machine terms h n (board_of p (followed_by (followed_by given spent) x)) ≡ Some (board_of q (followed_by spent x))

-- a turn with nothing left to give behind it is one whatever is given later, but to a console that failed
pub whatever_left : (terms : Terms) (p q : Plain) (h n : ℕ) (given : Supply)
    → turn the_machine terms h n (board_of p (followed_by given spent)) ≡ Some (board_of q spent)
    → (left : Supply) → (q.closed ≡ Some Fault → IsSpent left) → turn the_machine terms h n (board_of p (followed_by given left)) ≡ Some (board_of q left)
whatever_left terms p q h n given is left no_more =
    ap (λ o. turn the_machine terms h n (board_of p o)) (sym (spent_then given left))
    ∙ by (turn_carried the_machine terms h n (board_of p (followed_by given spent)) (board_of q spent) is).extended
    ∙ ap (λ o. Some (board_of q o)) (first_spent left)
  where
    by : WithMore (TurnsWith terms p q h n given) (board_of p (followed_by given spent)) (board_of q spent) → TurnsWith terms p q h n given left
    by (Always f) = f left
    by (NoAnswer failed none f) = f left (no_more failed.1).0
    by (NotTaken failed none f) = f left (no_more failed.1).1

is_fault : (o : Option Cause) → (o ≡ Some Fault) ⊎ (o ≢ Some Fault)
is_fault None = inr (λ e. let bad : ⊥ = cc in absurd bad)
is_fault (Some Limit) = inr (λ e. let bad : ⊥ = cc in absurd bad)
is_fault (Some Stop) = inr (λ e. let bad : ⊥ = cc in absurd bad)
is_fault (Some Full) = inr (λ e. let bad : ⊥ = cc in absurd bad)
is_fault (Some Fault) = inl refl
is_fault (Some Cut) = inr (λ e. let bad : ⊥ = cc in absurd bad)

-- the board that has still to give what a turn takes is reached, too
pub reached_with : (p : Plain) (h n : ℕ) (given : Supply) (c : Board FlatState) → IsReached p
    → turn the_machine (terms_of p) h n (board_of p (followed_by given spent)) ≡ Some c → c.supply ≡ spent
    → (supply : Supply) × Reached the_machine (terms_of p) p.harts (flat_at_start p.image p.harts) supply (board_of p (followed_by given spent))
reached_with p h n given c reached is none = by (is_fault p.closed) where
  by : (p.closed ≡ Some Fault) ⊎ (p.closed ≢ Some Fault)
      → (supply : Supply) × Reached the_machine (terms_of p) p.harts (flat_at_start p.image p.harts) supply (board_of p (followed_by given spent))
  by (inl fault) =
      let same = ((turn_carried the_machine (terms_of p) h n (board_of p (followed_by given spent)) c is).shut Fault fault).1 in
      (reached.0, subst (λ o. Reached the_machine (terms_of p) p.harts (flat_at_start p.image p.harts) reached.0 (board_of p o)) (sym none ∙ same) reached.1)
  by (inr running) = (
    followed_by reached.0 given,
    subst (λ o. Reached the_machine (terms_of p) p.harts (flat_at_start p.image p.harts) (followed_by reached.0 given) (board_of p o))
        (first_spent given ∙ sym (then_spent given))
        (reached_extend the_machine (terms_of p) p.harts (flat_at_start p.image p.harts) reached.0 given (board_of p spent) reached.1
        (λ fault. absurd (running fault))),
  )

-- two states with which one run agrees have the same of its hart
pub record SameSeen (s t : Replay FlatState) (h : ℕ) : Type 0 where
  pub hart : slice_get t.flat.harts h ≡ slice_get s.flat.harts h
  pub count : slice_index t.flat.counts h ≡ slice_index s.flat.counts h
  pub pages : pages_in page_bytes t h ≡ pages_in page_bytes s h

pub same_seen : (x : Run) (h : ℕ) (s t : Replay FlatState) → x.frames.unit ≡ page_bytes → Agrees x h s → Agrees x h t → SameSeen s t h
same_seen x h s t unit a c = record {
  hart = c.hart ∙ sym a.hart;
  count = get_or_from_slice_get t.flat.counts h x.count 0 c.count ∙ sym (get_or_from_slice_get s.flat.counts h x.count 0 a.count);
  pages = pages_are page_bytes x h t c unit ∙ sym (pages_are page_bytes x h s a unit);
}

-- moves stay on the board, and each counts
pub runs_count : (terms : Terms) (harts h n : ℕ) (s t : Replay FlatState) → Runs the_board h n s t → IsPagedBoard harts terms.pages s.flat
    → the_board.count t.flat h ≡ the_board.count s.flat h + n
runs_count terms harts h zero s t is good = let z = ap (λ (x : Replay FlatState). the_board.count x.flat h) is in omega (arith, z)
runs_count terms harts h (suc n) s t is good =
    let steady = (faithful_board terms harts terms.pages).steady in
    let m = is.1.0 in
    let on = by_item the_board harts (IsPagedBoard harts terms.pages) steady s m h Move good is.1.1 in
    let one = moves the_board harts (IsPagedBoard harts terms.pages) steady s m h good is.1.1 in
    let rest = runs_count terms harts h n m t is.1.2 on.good in
    omega (arith, rest, one)

-- a run that is the part advanced counts its moves
pub part_counts : (p : Plain) (h n : ℕ) (r : Run) → IsTurnOf p h n r → r.count ≡ slice_index p.counts h + n
part_counts p h n r is =
    let good = (reached_are_crew (terms_of p) p.image p.harts is.reached.0 is.whole refl (board_of p spent) is.reached.1).0 in
    let counted = runs_count (terms_of p) p.harts h n (state_of p) is.part.led.at is.part.led.runs good in
    let now : the_board.count is.part.led.at.flat h ≡ r.count = get_or_from_slice_get is.part.led.at.flat.counts h r.count 0 is.part.led.agrees.count in
    let before : slice_index p.counts h ≡ the_board.count (state_of p).flat h = ap (λ ks. slice_index ks h) is.counts in
    omega (arith, counted, now, before)

-- and they are of its leg
pub part_fits : (p : Plain) (h n : ℕ) (r : Run) (left : Supply) → IsTurnOf p h n r → n ≤ whole_leg the_machine (terms_of p) h (board_of p left)
part_fits p h n r left is =
    let before : slice_index p.counts h ≡ the_board.count (state_of p).flat h = ap (λ ks. slice_index ks h) is.counts in
    moves_fit (terms_of p) h n (board_of p left) is.part.led.at (told_to p h) is.part.led.runs
    (subst (λ k. k + n ≤ until_by k (told_to p h)) before
    (subst (λ k. k ≤ until_by (slice_index p.counts h) (told_to p h)) (part_counts p h n r is) is.part.within))
