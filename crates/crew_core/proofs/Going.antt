-- Steps of a turn, one after another.
use Rattle.std.proofs.Common.{◌≡◌, ℕ, zero, suc, ◌+◌, ◌-◌, ◌<◌, ◌++◌, List, [], ◌∷◌, map, length, Option, Some, None, refl, sym, ap, ◌∙◌, subst}
use Rattle.std.proofs.Common.{arith, is_some, true, false, true≢false}
use Rattle.std.proofs.lemmas.List.{map-append}
use Rattle.orders_law.specs.Orders.{below}
use Rattle.flat_machine.specs.State.{FlatState}
use Rattle.run_model.specs.Run.{Run}
use Rattle.run_model.specs.Agreement.{Agrees}
use Rattle.crew_parts.specs.Boards.{the_machine}
use Rattle.turn_model.specs.Board.{Board, Terms}
use Rattle.turn_model.specs.Board as model
use Rattle.turn_model.specs.Ways.{Way, On, Ends, Nowhere, goes}
use Rattle.turn_model.specs.Steps.{yields, yields_to}
use Rattle.crew_core.specs.declared.crew.Crew.{Crew}
use Rattle.crew_core.specs.declared.order.Order.{Order}
use Rattle.crew_core.specs.Orders.{told}
use Rattle.crew_core.specs.Standing.{Stands, IsTied, terms_of}
use Rattle.crew_core.specs.Does.{Does}
use Rattle.crew_core.proofs.Claiming.{streams_size}

abbrev Step : Type 0
Step = Board FlatState → Way FlatState

pub ended : (order : model.Order) (b : Board FlatState) (steps : List Step) → goes steps (Ends order b) ≡ Ends order b
ended order b [] = refl
ended order b (step ∷ steps) = refl

nowhere : (steps : List Step) → goes {S = FlatState} steps Nowhere ≡ Nowhere
nowhere [] = refl
nowhere (step ∷ steps) = refl

pub goes_append : (xs ys : List Step) (way : Way FlatState) → goes (xs ++ ys) way ≡ goes ys (goes xs way)
goes_append [] ys way = refl
goes_append (x ∷ xs) ys (On b) = goes_append xs ys (x b)
goes_append (x ∷ xs) ys (Ends order b) = sym (ended order b ys)
goes_append (x ∷ xs) ys Nowhere = sym (nowhere ys)

one : (f : Step) (c : Board FlatState) (way : Way FlatState) → f c ≡ way → goes (f ∷ []) (On c) ≡ way
one f c way is = is

-- one step more of those for the numbers below
one_more : (f : ℕ → Step) (n : ℕ) (way : Way FlatState) → goes (map f (below (n + 1))) way ≡ goes (f n ∷ []) (goes (map f (below n)) way)
one_more f n way =
    let e : n + 1 ≡ suc n = omega arith in
    ap (λ k. goes (map f (below k)) way) e ∙ ap (λ fs. goes fs way) (map-append f (below n) (n ∷ [])) ∙ goes_append (map f (below n)) (f n ∷ []) way

-- what has ended stays so
stays_ended : (f : ℕ → Step) (m more : ℕ) (way : Way FlatState) (order : model.Order) (b : Board FlatState) → goes (map f (below m)) way ≡ Ends order b
    → goes (map f (below (more + m))) way ≡ Ends order b
stays_ended f m zero way order b is = (let e : 0 + m ≡ m = omega arith in ap (λ k. goes (map f (below k)) way) e ∙ is)
stays_ended f m (suc more) way order b is =
    let e : suc more + m ≡ (more + m) + 1 = omega arith in
    ap (λ k. goes (map f (below k)) way) e ∙ one_more f (more + m) way ∙ ap (goes (f (more + m) ∷ [])) (stays_ended f m more way order b is)

pub yields_on : (first c new : Crew) (r next : Run) (h n : ℕ) (b : Board FlatState) (answer : Option Order)
    → Does first c r h None (goes (map (yields_to the_machine (terms_of first) h) (below n)) (On b)) b.supply
    → ((d : Board FlatState) → Stands c d → Agrees r h d.at → Does c new next h answer (yields_to the_machine (terms_of c) h n d) d.supply)
    → Does first new next h answer (goes (map (yields_to the_machine (terms_of first) h) (below (n + 1))) (On b)) b.supply
yields_on first c new r next h n b answer so_far does =
    let last = does so_far.to so_far.stands so_far.agrees in
    let f = yields_to the_machine (terms_of first) h in
    record {
      to = last.to;
      is = one_more f n (On b) ∙ ap (goes (f n ∷ [])) so_far.is ∙ ap (λ t. yields_to the_machine t h n so_far.to) (sym so_far.terms) ∙ last.is;
      supply = last.supply ∙ so_far.supply;
      stands = last.stands;
      agrees = last.agrees;
      terms = last.terms ∙ so_far.terms;
    }

pub yields_all : (first new : Crew) (next : Run) (h : ℕ) (b : Board FlatState) → Stands first b
    → Does first new next h None (goes (map (yields_to the_machine (terms_of first) h) (below first.harts)) (On b)) b.supply
    → Does first new next h None (yields the_machine (terms_of first) h b) b.supply
yields_all first new next h b st does = subst (λ n. Does first new next h None (goes (map (yields_to the_machine (terms_of first) h) (below n)) (On b))
    b.supply) (sym (streams_size first b st)) does

pub yields_end : (first new : Crew) (next : Run) (h n : ℕ) (b : Board FlatState) (order : Order) → Stands first b → n < first.harts
    → Does first new next h (Some order) (goes (map (yields_to the_machine (terms_of first) h) (below (n + 1))) (On b)) b.supply
    → Does first new next h (Some order) (yields the_machine (terms_of first) h b) b.supply
yields_end first new next h n b order st l does =
    let f = yields_to the_machine (terms_of first) h in
    let rest : (first.harts - (n + 1)) + (n + 1) ≡ length b.streams = (let z = streams_size first b st in omega (arith, z, l)) in
    record {
      to = does.to;
      is = ap (λ k. goes (map f (below k)) (On b)) (sym rest) ∙ stays_ended f (n + 1) (first.harts - (n + 1)) (On b) (told order) does.to does.is;
      supply = does.supply;
      stands = does.stands;
      agrees = does.agrees;
      terms = does.terms;
    }

-- a crew that did a step is tied still
pub still_tied : (c new : Crew) (r next : Run) (h : ℕ) (answer : Option Order) (step : Step) → IsTied c r h
    → ((d : Board FlatState) → Stands c d → Agrees r h d.at → Does c new next h answer (step d) d.supply) → IsTied new next h
still_tied c new r next h answer step tied does = let d = does tied.0 tied.1 tied.2 in (d.to, d.stands, d.agrees)

pub nothing : {X : Type 0} (o : Option X) → is_some o ≡ false → o ≡ None
nothing None e = refl
nothing (Some x) e = absurd (true≢false e)

pub something : {X : Type 0} (o : Option X) → is_some o ≡ true → (x : X) × (o ≡ Some x)
something None e = absurd (true≢false (sym e))
something (Some x) e = (x, refl)
