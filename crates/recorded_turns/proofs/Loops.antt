-- Lists, sweeps, rounds and last turns, taken turn by turn.
use Rattle.std.proofs.Common.{◌≡◌, ℕ, ◌+◌, ◌%◌, ◌<◌, ◌==◌, not, min, false, [], ◌∷◌, ◌++◌, Option, Some, None, refl, sym, ap}
use Rattle.std.proofs.Common.{ap₂, ◌∙◌, subst, arith, if◌then◌else◌}
use Rattle.std.specs.Option.{option_map, option_and_then}
use Rattle.std.proofs.lemmas.Bool.{eq-eqb, ne_eqb}
use Rattle.flat_machine.specs.State.{FlatState}
use Rattle.turn_model.specs.Board.{Board, Order, Go, Hold, Rest, Supply, Terms, harts}
use Rattle.turn_model.specs.Turn.{turn}
use Rattle.turn_model.specs.Lists.{leg_by, whole_leg, listed, closed_after, comes_to, recorded_by_list}
use Rattle.turn_model.specs.Rounds.{with_favoured, sweep, round, rounds, last_turns, IsRecordedInRounds}
use Rattle.turn_laws.specs.Supplies.{followed_by}
use Rattle.turn_laws.proofs.GoingOn.{listed_behind, sweep_behind, last_behind}
use Rattle.round_progress.proofs.FurtherRounds.{rounds_follow}
use Rattle.crew_parts.specs.Boards.{Plain, the_machine, board_of, spent, terms_of, told_to}
use Rattle.crew_parts.specs.Turns.{GivesNoMore, SameTerms}
use Rattle.recorded_turns.specs.Takes.{Takes}
use Rattle.recorded_turns.specs.Laws.{RowsAreTaken, ListsAreTaken, SweepsAreTaken, RoundIsTaken, RoundsAreTaken, LastTurnsAreTaken, LastTurnsLeave}
use Rattle.recorded_turns.specs.Laws.{RecordingsAreTaken}
use Rattle.recorded_turns.proofs.Taking.{taken_both, takes_both, takes_then, takes_turn, takes_favour}

-- what comes to the same
takes_with : (terms : Terms) (f g : Board FlatState → Option (Board FlatState)) (p q : Plain) (t : Takes terms f p q)
    → ((left : Supply) → GivesNoMore q left → g (board_of p (followed_by t.given left)) ≡ Some (board_of q left)) → Takes terms g p q
takes_with terms f g p q t comes = record {
  of_terms = t.of_terms;
  same = t.same;
  given = t.given;
  gives = t.gives;
  comes = comes;
  shut = t.shut;
  silent = t.silent;
  faults = t.faults;
  sent = t.sent;
}

pub takes_by : (terms : Terms) (f g : Board FlatState → Option (Board FlatState)) (p q : Plain)
    → ((o : Supply) → g (board_of p o) ≡ f (board_of p o)) → Takes terms f p q → Takes terms g p q
takes_by terms f g p q same t =
    takes_with terms f g p q t (λ left no_more. same (followed_by t.given left) ∙ t.comes left no_more)

-- the terms stay
pub terms_stay : (p m : Plain) → SameTerms p m → terms_of m ≡ terms_of p
terms_stay p m same =
    ap (λ i. record (terms_of m) { pages = i.pages; image = (terms_of (record m { image = i })).image }) same.image
    ∙ ap₂ (λ l g. record (terms_of p) { limit = l; log_limit = g }) same.limit same.log_limit

-- the leg doesn't hang on what is left to give
pub leg_left : (terms : Terms) (m : Plain) (h : ℕ) (o : Supply)
    → whole_leg the_machine terms h (board_of m o) ≡ whole_leg the_machine terms h (board_of m spent)
leg_left terms m h o = by (told_to m h) where
  by : (order : Option Order) → leg_by the_machine terms h (board_of m o) order ≡ leg_by the_machine terms h (board_of m spent) order
  by None = refl
  by (Some Rest) = refl
  by (Some (Hold page g)) = refl
  by (Some (Go until)) = refl

-- nothing behind
pub then_none : (o : Option (Board FlatState)) → option_and_then (λ b. Some b) o ≡ o
then_none None = refl
then_none (Some b) = refl

pub rows_are_taken : RowsAreTaken
rows_are_taken terms list p m q h most before after order one is moves =
    takes_by terms (λ b. option_and_then (listed the_machine terms ((h, most) ∷ [])) (listed the_machine terms list b))
    (listed the_machine terms (list ++ (h, most) ∷ [])) p q (λ o. listed_behind the_machine terms list ((h, most) ∷ []) (board_of p o))
    (takes_then terms (listed the_machine terms list) (listed the_machine terms ((h, most) ∷ [])) p m q one
    (takes_by terms (turn the_machine terms h is.moves) (listed the_machine terms ((h, most) ∷ [])) m q same
    (takes_turn terms m q h before after order (terms_stay p m one.same ∙ one.of_terms) is)))
  where
    same : (o : Supply) → listed the_machine terms ((h, most) ∷ []) (board_of m o) ≡ turn the_machine terms h is.moves (board_of m o)
    same o =
        then_none (turn the_machine terms h (min most (whole_leg the_machine terms h (board_of m o))) (board_of m o))
        ∙ ap (λ n. turn the_machine terms h n (board_of m o)) (ap (λ k. min most k) (leg_left terms m h o) ∙ sym moves)

pub lists_are_taken : ListsAreTaken
lists_are_taken terms list p m q one two =
    taken_both terms (listed the_machine terms list) (closed_after the_machine terms) p m q one two
    (λ given left. recorded_by_list the_machine terms list (board_of p given) ≡ Some (comes_to the_machine terms (board_of q left)))
    (λ left first second. ap (λ o. option_map (comes_to the_machine terms) (option_and_then (closed_after the_machine terms) o)) first
    ∙ ap (option_map (comes_to the_machine terms)) second)

pub sweeps_are_taken : SweepsAreTaken
sweeps_are_taken terms r moved hs p m q h before after order one size is moves =
    let of = terms_stay p m one.same ∙ one.of_terms in
    let next = record m { favoured = r % m.harts } in
    takes_by terms (λ b. option_and_then (sweep the_machine terms r moved (h ∷ [])) (sweep the_machine terms r moved hs b))
    (sweep the_machine terms r moved (hs ++ h ∷ [])) p q (λ o. sweep_behind the_machine terms r moved hs (h ∷ []) (board_of p o))
    (takes_then terms (sweep the_machine terms r moved hs) (sweep the_machine terms r moved (h ∷ [])) p m q one
    (takes_by terms (λ b. option_and_then (turn the_machine terms h is.moves) (Some (with_favoured r b))) (sweep the_machine terms r moved (h ∷ [])) m q same
    (takes_then terms (λ b. Some (with_favoured r b)) (turn the_machine terms h is.moves) m next q
    (subst (λ t. Takes t (λ b. Some (with_favoured r b)) m next) of (takes_favour m r size))
    (takes_turn terms next q h before after order of is))))
  where
    same : (o : Supply) → sweep the_machine terms r moved (h ∷ []) (board_of m o) ≡ turn the_machine terms h is.moves (with_favoured r (board_of m o))
    same o =
        then_none (turn the_machine terms h (if moved then whole_leg the_machine terms h (board_of m o) else 0) (with_favoured r (board_of m o)))
        ∙ ap (λ n. turn the_machine terms h n (with_favoured r (board_of m o))) (ap (λ k. if moved then k else 0) (leg_left terms m h o) ∙ sym moves)

pub round_is_taken : RoundIsTaken
round_is_taken terms r moved hs p a b q are one two three =
    takes_by terms (λ x. option_and_then (sweep the_machine terms r false hs)
    (option_and_then (sweep the_machine terms r false hs) (sweep the_machine terms r moved hs x))) (round the_machine terms r moved) p q
    (λ o. ap (λ gs. option_and_then (sweep the_machine terms r false gs)
    (option_and_then (sweep the_machine terms r false gs) (sweep the_machine terms r moved gs (board_of p o)))) (sym are))
    (takes_then terms (λ x. option_and_then (sweep the_machine terms r false hs) (sweep the_machine terms r moved hs x))
    (sweep the_machine terms r false hs) p b q
    (takes_then terms (sweep the_machine terms r moved hs) (sweep the_machine terms r false hs) p a b one two) three)

pub rounds_are_taken : RoundsAreTaken
rounds_are_taken terms n p m q one short two =
    takes_both terms (rounds the_machine terms 0 n) (round the_machine terms n (not (n == 0))) (rounds the_machine terms 0 (n + 1)) p m q one two
    (λ left first second.
    rounds_follow terms n (board_of p (followed_by one.given (followed_by two.given left))) (board_of m (followed_by two.given left)) (board_of q left)
    first (short, second))

-- a hart with a leg, and one without
choice : (n : ℕ) (x y : Option (Board FlatState)) → 0 < n → (if n == 0 then x else y) ≡ y
choice n x y l = ap (λ b. if b then x else y) (ne_eqb n 0 (λ e. absurd (omega (arith, l, e))))

pub last_turns_are_taken : LastTurnsAreTaken
last_turns_are_taken terms hs p m q h before after order one is moves some =
    takes_by terms (λ b. option_and_then (last_turns the_machine terms (h ∷ [])) (last_turns the_machine terms hs b))
    (last_turns the_machine terms (hs ++ h ∷ [])) p q (λ o. last_behind the_machine terms hs (h ∷ []) (board_of p o))
    (takes_then terms (last_turns the_machine terms hs) (last_turns the_machine terms (h ∷ [])) p m q one
    (takes_by terms (turn the_machine terms h is.moves) (last_turns the_machine terms (h ∷ [])) m q same
    (takes_turn terms m q h before after order (terms_stay p m one.same ∙ one.of_terms) is)))
  where
    same : (o : Supply) → last_turns the_machine terms (h ∷ []) (board_of m o) ≡ turn the_machine terms h is.moves (board_of m o)
    same o =
        let k = whole_leg the_machine terms h (board_of m o) in
        let leg : k ≡ is.moves = leg_left terms m h o ∙ sym moves in
        then_none (if k == 0 then Some (board_of m o) else turn the_machine terms h k (board_of m o))
        ∙ choice k (Some (board_of m o)) (turn the_machine terms h k (board_of m o)) (omega (arith, some, leg))
        ∙ ap (λ n. turn the_machine terms h n (board_of m o)) leg

pub last_turns_leave : LastTurnsLeave
last_turns_leave terms hs p m h one none =
    takes_with terms (last_turns the_machine terms hs) (last_turns the_machine terms (hs ++ h ∷ [])) p m one
    (λ left no_more. last_behind the_machine terms hs (h ∷ []) (board_of p (followed_by one.given left))
    ∙ ap (option_and_then (last_turns the_machine terms (h ∷ []))) (one.comes left no_more) ∙ same left)
  where
    same : (o : Supply) → last_turns the_machine terms (h ∷ []) (board_of m o) ≡ Some (board_of m o)
    same o =
        let k = whole_leg the_machine terms h (board_of m o) in
        then_none (if k == 0 then Some (board_of m o) else turn the_machine terms h k (board_of m o))
        ∙ ap (λ b. if b then Some (board_of m o) else turn the_machine terms h k (board_of m o)) (eq-eqb k 0 (leg_left terms m h o ∙ none))

pub recordings_are_taken : RecordingsAreTaken
recordings_are_taken terms n p m q one over two =
    taken_both terms (rounds the_machine terms 0 n) (last_turns the_machine terms (harts (board_of m spent))) p m q one two
    (λ given left. IsRecordedInRounds the_machine terms (board_of p given) (comes_to the_machine terms (board_of q left)))
    (λ left first second. record {
      number = n;
      over = board_of m (followed_by two.given left);
      closed = board_of q left;
      are_made = first;
      is_over = over;
      last = second;
      recorded = refl;
    })
