-- Sweeps, turn by turn.
use Rattle.std.proofs.Common.{◌≡◌, ◌≢◌, ◌⊎◌, inl, inr, ℕ, zero, suc, ◌+◌, ◌%◌, ◌<◌, ◌≤◌, ◌==◌, ◌||◌, Bool, true, false, List, [], ◌∷◌, ◌++◌}
use Rattle.std.proofs.Common.{Option, Some, None, refl, sym, ap, ◌∙◌, subst, arith, if◌then◌else◌, eq-or-lt_of_le, le_of_suc-le-suc}
use Rattle.std.proofs.lemmas.Bool.{eq-eqb, ne_eqb, or_from, or_left, or_right}
use Rattle.std.proofs.lemmas.Bool.Decides.{eqb_tells}
use Rattle.std.proofs.lemmas.List.{map-append}
use Rattle.std.proofs.lemmas.List.Folds.{list_any-append}
use Rattle.std.proofs.lemmas.Option.{slice_get_within}
use Rattle.std.proofs.Math.Nat.{mod-lt}
use Rattle.orders_law.specs.Orders.{below}
use Rattle.run_model.specs.Run.{Run}
use Rattle.turn_model.specs.Board as model
use Rattle.turn_model.specs.Board.{Go, Hold, Rest, harts}
use Rattle.turn_model.specs.Lists.{leg_by, whole_leg}
use Rattle.turn_model.specs.Rounds.{sweep}
use Rattle.turn_laws.proofs.LegsAtOnce.{all_come, apart}
use Rattle.crew_parts.specs.Boards.{Plain, IsBoardOf, the_machine, board_of, spent, state_of, terms_of, told_to}
use Rattle.crew_parts.specs.Parts.{IsPartAdvanced}
use Rattle.crew_core.specs.declared.order.Order.{Order}
use Rattle.recorded_turns.specs.Takes.{Takes}
use Rattle.recorded_turns.proofs.Advanced.{favoured_stay_advanced}
use Rattle.recorded_turns.proofs.Loops.{round_is_taken, sweeps_are_taken, terms_stay}
use Rattle.recorded_turns.proofs.Taking.{takes_none}
use Rattle.recorder.specs.Manned.{IsManned, HasTurnOf, leg_in, still, without}
use Rattle.round_run.specs.Legs.{IsReady, ready_moves}
use Rattle.round_run.specs.Sweeps.{SweepsTo, TakesRound, TakesSweep, harts_by, has_come, moves_to_come}

-- the same moves of each hart
pub manned_as : (p : Plain) (runs : List Run) (orders : List (Option Order)) (f k : ℕ → ℕ) → ((h : ℕ) → h < p.harts → f h ≡ k h)
    → IsManned p runs orders f → IsManned p runs orders k
manned_as p runs orders f k same is = record {
  number = is.number;
  places = is.places;
  each = λ h x at.
      let less : h < p.harts = (let l = slice_get_within runs h x at in let n = is.number in omega (arith, l, n)) in
      subst (λ n. IsPartAdvanced p h n x) (same h less) (is.each h x at);
  told = is.told;
}

-- to favour a hart leaves runs and legs
pub favour_leaves : (p : Plain) (f : ℕ) (runs : List Run) (orders : List (Option Order)) (moves : ℕ → ℕ) → IsManned p runs orders moves
    → IsManned (record p { favoured = f }) runs orders moves
favour_leaves p f runs orders moves is = record {
  number = is.number;
  places = is.places;
  each = λ h x at. favoured_stay_advanced p f h (moves h) x (is.each h x at);
  told = is.told;
}

leg_favoured : (p : Plain) (f h : ℕ) → leg_in (record p { favoured = f }) h ≡ leg_in p h
unfolding state_of
leg_favoured p f h = by (told_to p h) where
  by : (o : Option model.Order) → leg_by the_machine (terms_of p) h (board_of (record p { favoured = f }) spent) o
      ≡ leg_by the_machine (terms_of p) h (board_of p spent) o
  by None = refl
  by (Some Rest) = refl
  by (Some (Hold page g)) = refl
  by (Some (Go until)) = refl

-- who has come
come_more : (hs : List ℕ) (h g : ℕ) → has_come (hs ++ h ∷ []) g ≡ (has_come hs g || ((h == g) || false))
come_more hs h g = list_any-append (λ k. k == g) hs (h ∷ [])

by_more : (n r i : ℕ) → harts_by n r (i + 1) ≡ harts_by n r i ++ ((r + i) % n) ∷ []
by_more n r i =
    let next : i + 1 ≡ suc i = omega arith in
    ap (harts_by n r) next ∙ map-append (λ j. (r + j) % n) (below i) (i ∷ [])

not_come : (n r i k : ℕ) → i ≤ k → k < n → has_come (harts_by n r i) ((r + k) % n) ≡ false
not_come n r zero k l less = refl
not_come n r (suc i) k l less =
    let h = (r + k) % n in
    ap (λ hs. has_come hs h) (map-append (λ j. (r + j) % n) (below i) (i ∷ [])) ∙ come_more (harts_by n r i) ((r + i) % n) h
    ∙ or_from (has_come (harts_by n r i) h) ((((r + i) % n) == h) || false) (not_come n r i k (omega (arith, l)) less)
    (or_from (((r + i) % n) == h) false
    (ne_eqb ((r + i) % n) h (λ e. let same = apart n r i k (omega (arith, l, less)) less e in absurd (omega (arith, same, l)))) refl)

come : (n r i k : ℕ) → k < i → has_come (harts_by n r i) ((r + k) % n) ≡ true
come n r zero k l = absurd (omega (arith, l))
come n r (suc i) k l =
    let h = (r + k) % n in
    ap (λ hs. has_come hs h) (map-append (λ j. (r + j) % n) (below i) (i ∷ [])) ∙ come_more (harts_by n r i) ((r + i) % n) h
    ∙ elim (eq-or-lt_of_le (le_of_suc-le-suc l)) [
      | inl same ↦ or_right (has_come (harts_by n r i) h) ((((r + i) % n) == h) || false)
          (or_left (((r + i) % n) == h) false (eq-eqb ((r + i) % n) h (ap (λ j. (r + j) % n) (sym same))))
      | inr less ↦ or_left (has_come (harts_by n r i) h) ((((r + i) % n) == h) || false) (come n r i k less)
    ]

-- all harts come
each_comes : (n r h : ℕ) → h < n → has_come (harts_by n r n) h ≡ true
each_comes n r h less = let i = all_come n r h less in subst (λ k. has_come (harts_by n r n) k ≡ true) i.2 (come n r n i.0 i.1)

pub sweep_begins : (r : ℕ) (moved : Bool) (p : Plain) (runs : List Run) (orders : List (Option Order)) → IsReady p runs orders moved
    → SweepsTo r moved [] p p runs orders
sweep_begins r moved p runs orders is = record {
  takes = takes_none p;
  manned = manned_as p runs orders (ready_moves moved p) (moves_to_come [] moved p) (λ h less. refl) is;
}

-- a turn of the next hart
pub sweep_more : (r i : ℕ) (moved : Bool) (p m q : Plain) (runs runs_then : List Run) (orders orders_then : List (Option Order)) → IsBoardOf m → i < p.harts
    → SweepsTo r moved (harts_by p.harts r i) p m runs orders
    → HasTurnOf (record m { favoured = r % m.harts }) q ((r + i) % p.harts) (moves_to_come (harts_by p.harts r i) moved m) runs_then orders_then
    → SweepsTo r moved (harts_by p.harts r (i + 1)) p q runs_then orders_then
sweep_more r i moved p m q runs runs_then orders orders_then holds inside so turn = record {
  takes =
      subst (λ hs. Takes (terms_of p) (sweep the_machine (terms_of p) r moved hs) p q) (sym (by_more p.harts r i))
      (sweeps_are_taken (terms_of p) r moved (harts_by p.harts r i) p m q h turn.before turn.after turn.order so.takes holds.streams turn.had
      (turn.made ∙ ap (λ b. if b then 0 else ready_moves moved m h) (not_come p.harts r i i (omega arith) inside)
      ∙ ap (λ t. if moved then whole_leg the_machine t h (board_of m spent) else 0) (terms_stay p m so.takes.same)));
  manned =
      manned_as q runs_then orders_then (without h moves) (moves_to_come (harts_by p.harts r (i + 1)) moved q) (λ g less. same g less (eqb_tells g h))
      turn.manned;
} where
  h : ℕ
  h = (r + i) % p.harts

  hs : List ℕ
  hs = harts_by p.harts r i

  moves : ℕ → ℕ
  moves = moves_to_come hs moved m

  later : (g : ℕ) → has_come (harts_by p.harts r (i + 1)) g ≡ (has_come hs g || ((h == g) || false))
  later g = ap (λ ks. has_come ks g) (by_more p.harts r i) ∙ come_more hs h g

  legs : (g : ℕ) → g < q.harts → g ≢ h → ready_moves moved m g ≡ ready_moves moved q g
  legs g less other =
      let inside_too : g < m.harts = (let n = turn.had.terms.harts in omega (arith, less, n)) in
      ap (λ n. if moved then n else 0) (sym (turn.legs g inside_too other ∙ leg_favoured m (r % m.harts) g))

  by : (b : Bool) (g : ℕ) → has_come hs g ≡ b → g < q.harts → (h == g) ≡ false → g ≢ h
      → (if b then 0 else ready_moves moved m g) ≡ (if (b || ((h == g) || false)) then 0 else ready_moves moved q g)
  by true g is less apart_too other = refl
  by false g is less apart_too other =
      legs g less other ∙ ap (λ b. if (b || false) then 0 else ready_moves moved q g) (sym apart_too)

  same : (g : ℕ) → g < q.harts → (((g == h) ≡ true) × (g ≡ h)) ⊎ (((g == h) ≡ false) × (g ≢ h))
      → without h moves g ≡ moves_to_come (harts_by p.harts r (i + 1)) moved q g
  same g less (inl here) =
      ap (λ b. if b then 0 else moves g) here.0
      ∙ sym (ap (λ b. if b then 0 else ready_moves moved q g) (later g
      ∙ or_right (has_come hs g) ((h == g) || false) (or_left (h == g) false (eq-eqb h g (sym here.1)))))
  same g less (inr other) =
      let apart_too : (h == g) ≡ false = ne_eqb h g (λ e. other.1 (sym e)) in
      ap (λ b. if b then 0 else moves g) other.0
      ∙ by (has_come hs g) g refl less apart_too other.1
      ∙ sym (ap (λ b. if b then 0 else ready_moves moved q g) (later g))

-- a whole sweep
pub sweep_ends : (r : ℕ) (moved : Bool) (p q : Plain) (runs : List Run) (orders : List (Option Order))
    → SweepsTo r moved (harts_by p.harts r p.harts) p q runs orders → TakesSweep r moved p q runs orders
sweep_ends r moved p q runs orders so = record {
  takes = so.takes;
  manned =
      manned_as q runs orders (moves_to_come (harts_by p.harts r p.harts) moved q) still
      (λ h less. ap (λ b. if b then 0 else ready_moves moved q h)
      (each_comes p.harts r h (let n = so.takes.same.harts in omega (arith, less, n)))) so.manned;
}

-- three sweeps
pub round_taken : (r : ℕ) (p a b q : Plain) (runs_a runs_b runs : List Run) (orders_a orders_b orders : List (Option Order)) → IsBoardOf p
    → TakesSweep r true p a runs_a orders_a → TakesSweep r false a b runs_b orders_b → TakesSweep r false b q runs orders → TakesRound r p q runs orders
round_taken r p a b q runs_a runs_b runs orders_a orders_b orders holds one two three = record {
  takes = round_is_taken terms r true hs p a b q (ap (λ n. harts_by n r n) (sym holds.streams)) one.takes (at_a two.takes) (at_b three.takes);
  manned = three.manned;
} where
  terms : model.Terms
  terms = terms_of p

  hs : List ℕ
  hs = harts_by p.harts r p.harts

  at_a : Takes (terms_of a) (sweep the_machine (terms_of a) r false (harts_by a.harts r a.harts)) a b → Takes terms (sweep the_machine terms r false hs) a b
  at_a t =
      subst (λ n. Takes terms (sweep the_machine terms r false (harts_by n r n)) a b) one.takes.same.harts
      (subst (λ t. Takes t (sweep the_machine t r false (harts_by a.harts r a.harts)) a b) (terms_stay p a one.takes.same) t)

  at_b : Takes (terms_of b) (sweep the_machine (terms_of b) r false (harts_by b.harts r b.harts)) b q → Takes terms (sweep the_machine terms r false hs) b q
  at_b t =
      subst (λ n. Takes terms (sweep the_machine terms r false (harts_by n r n)) b q) (two.takes.same.harts ∙ one.takes.same.harts)
      (subst (λ t. Takes t (sweep the_machine t r false (harts_by b.harts r b.harts)) b q) (terms_stay a b two.takes.same ∙ terms_stay p a one.takes.same)
      t)

-- some moves, behind the favour
pub some_moves : (p : Plain) (runs : List Run) (orders : List (Option Order)) (moves : ℕ → ℕ) (m : Plain) (f : ℕ) → m ≡ record p { favoured = f }
    → IsManned p runs orders moves → IsManned m runs orders moves
some_moves p runs orders moves m f is manned = subst (λ z. IsManned z runs orders moves) (sym is) (favour_leaves p f runs orders moves manned)

-- the harts that are named are harts of the board
pub mod_inside : (a n m k : ℕ) → n ≡ k → m ≡ k → 1 ≤ k → a % n < m
mod_inside a n m k e f l = subst (λ x. a % n < x) (e ∙ sym f) (mod-lt a (let z = e in omega (arith, z, l)))

-- the next turn, as it is made
pub sweep_step : (r i h f : ℕ) (moved : Bool) (p m q : Plain) (runs runs_then : List Run) (orders orders_then : List (Option Order)) → IsBoardOf m → i < p.harts
    → SweepsTo r moved (harts_by p.harts r i) p m runs orders → f ≡ r % p.harts → h ≡ (r + i) % p.harts
    → HasTurnOf (record m { favoured = f }) q h (moves_to_come (harts_by p.harts r i) moved m) runs_then orders_then
    → SweepsTo r moved (harts_by p.harts r (i + 1)) p q runs_then orders_then
sweep_step r i h f moved p m q runs runs_then orders orders_then holds inside so first next turn =
    sweep_more r i moved p m q runs runs_then orders orders_then holds inside so
    (subst (λ k. HasTurnOf (record m { favoured = r % m.harts }) q k (moves_to_come (harts_by p.harts r i) moved m) runs_then orders_then) next
    (subst (λ k. HasTurnOf (record m { favoured = k }) q h (moves_to_come (harts_by p.harts r i) moved m) runs_then orders_then)
    (first ∙ ap (λ n. r % n) (sym so.takes.same.harts)) turn))

-- none has moved
pub still_ready : (p : Plain) (runs : List Run) (orders : List (Option Order)) → IsManned p runs orders still → IsReady p runs orders false
still_ready p runs orders is = manned_as p runs orders still (ready_moves false p) (λ h less. refl) is
