-- Steps of the crew, one after another.
use Rattle.std.proofs.Common.{◌≡◌, ℕ, ◌+◌, ◌++◌, List, ◌∷◌, Option, Some, None, sym, ap, ◌∙◌, arith}
use Rattle.std.proofs.lemmas.List.{append_assoc}
use Rattle.flat_machine.specs.State.{FlatState}
use Rattle.run_model.specs.Run.{Run}
use Rattle.run_model.specs.Agreement.{Agrees}
use Rattle.turn_model.specs.Board.{Board, Supply, Terms}
use Rattle.turn_model.specs.Ways.{Way, On, goes}
use Rattle.crew_core.specs.declared.crew.Crew.{Crew}
use Rattle.crew_core.specs.declared.order.Order.{Order}
use Rattle.crew_core.specs.Orders.{told}
use Rattle.crew_core.specs.Standing.{Stands, IsTied, terms_of}
use Rattle.crew_core.specs.Does.{Does}
use Rattle.turn_laws.specs.Supplies.{followed_by}
use Rattle.crew_core.proofs.Going.{ended}
use Rattle.crew_core.proofs.Stepping.{stands_outside}

abbrev Step : Type 0
Step = Board FlatState → Way FlatState

-- a step that ends the turn leaves nothing to those behind it
pub stop_at : (c new : Crew) (r : Run) (h : ℕ) (order : Order) (f : Step) (fs : List Step) (b : Board FlatState) (left : Supply)
    → Does c new r h (Some order) (f b) left → Does c new r h (Some order) (goes (f ∷ fs) (On b)) left
stop_at c new r h order f fs b left d = record {
  to = d.to;
  is = ap (goes fs) d.is ∙ ended (told order) d.to fs;
  supply = d.supply;
  stands = d.stands;
  agrees = d.agrees;
  terms = d.terms;
}

-- behind a step that goes on come the others
pub pass : (c mid new : Crew) (r last : Run) (h : ℕ) (answer : Option Order) (f : Step) (fs : Terms → List Step) (b : Board FlatState) (left more : Supply)
    → (d : Does c mid r h None (f b) left) → Does mid new last h answer (goes (fs (terms_of mid)) (On d.to)) more
    → Does c new last h answer (goes (f ∷ fs (terms_of c)) (On b)) more
pass c mid new r last h answer f fs b left more d rest = record {
  to = rest.to;
  is = ap (goes (fs (terms_of c))) d.is ∙ ap (λ t. goes (fs t) (On d.to)) (sym d.terms) ∙ rest.is;
  supply = rest.supply;
  stands = rest.stands;
  agrees = rest.agrees;
  terms = rest.terms ∙ d.terms;
}

pub tie : (c : Crew) (r : Run) (h : ℕ) (b : Board FlatState) → Stands c b → Agrees r h b.at → IsTied c r h
tie c r h b st a = (b, st, a)

-- what was given in two steps
pub given_twice : (one two left : Supply) → followed_by (followed_by one two) left ≡ followed_by one (followed_by two left)
given_twice one two left =
    let n : (one.takes + two.takes) + left.takes ≡ one.takes + (two.takes + left.takes) = omega arith in
    ap (λ xs. record { answers = xs; takes = (one.takes + two.takes) + left.takes; times = (one.times ++ two.times) ++ left.times })
    (append_assoc one.answers two.answers left.answers)
    ∙ ap (λ k. record { answers = one.answers ++ (two.answers ++ left.answers); takes = k; times = (one.times ++ two.times) ++ left.times }) n
    ∙ ap (λ xs. record { answers = one.answers ++ (two.answers ++ left.answers); takes = one.takes + (two.takes + left.takes); times = xs })
    (append_assoc one.times two.times left.times)

-- the crew is tied to whatever board console and clock supply
pub tied_with : (c : Crew) (r : Run) (h : ℕ) (supply : Supply) (t : IsTied c r h) → Stands c (record t.0 { supply = supply })
tied_with c r h supply t = stands_outside c t.0 supply t.1
