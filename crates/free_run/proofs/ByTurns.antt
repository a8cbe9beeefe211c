-- Boards that turns alone change.
use Rattle.std.proofs.Common.{◌≡◌, ◌⊎◌, inl, inr, ℕ, ◌<◌, ◌≤◌, min, true, List, [], ◌∷◌, ◌++◌, length, Some, refl, sym, ap, ap₂}
use Rattle.std.proofs.Common.{◌∙◌, subst}
use Rattle.std.proofs.Common.{arith, true≢false}
use Rattle.std.specs.Option.{option_and_then}
use Rattle.std.proofs.lemmas.Option.{slice_get_within}
use Rattle.flat_machine.specs.State.{FlatState}
use Rattle.run_model.specs.Run.{Run}
use Rattle.turn_model.specs.Board.{Board, Order}
use Rattle.turn_model.specs.Laws.{OfHarts}
use Rattle.turn_model.specs.Lists.{listed, whole_leg}
use Rattle.turn_laws.specs.Supplies.{followed_by}
use Rattle.turn_laws.proofs.Legs.{reached_are_crew}
use Rattle.crew_parts.specs.Boards.{Plain, IsBoardOf, the_machine, board_of, spent, state_of, terms_of}
use Rattle.crew_parts.specs.Laws.{IsTurnOf}
use Rattle.crew_parts.specs.Parts.{IsPart, IsPartMoved, number_of}
use Rattle.crew_parts.specs.Turns.{HasTurn, SameTerms}
use Rattle.crew_parts.proofs.Laws.{moves_are_told}
use Rattle.crew_parts.proofs.Turned.{first_spent, then_spent}
use Rattle.recorded_turns.specs.Takes.{Takes}
use Rattle.recorded_turns.proofs.Taking.{takes_none, takes_then, takes_turn, turn_silent}
use Rattle.recorded_turns.proofs.Loops.{rows_are_taken, takes_by, terms_stay, then_none}
use Rattle.recorder.proofs.Manning.{given_none, given_then, room_moved, room_turn, turn_of}
use Rattle.recorder.specs.Manned.{HasGiven}
use Rattle.free_run.specs.RecordBoards.{IsByTurns, abandoned_in, start_of}
use Rattle.free_run.proofs.Unnoted.{noted_or_unchanged}

abbrev ListsTo : List (ℕ × ℕ) → Plain → Plain → Type 0
ListsTo list p q = Takes (terms_of p) (listed the_machine (terms_of p) list) p q

-- before any turn
pub by_no_turns : (p : Plain) → p ≡ start_of p → IsByTurns p
by_no_turns p e = record {
  given = subst (HasGiven p.first) (sym (ap (λ (z : Plain). z.now) e)) (given_none p.first);
  harts = subst (OfHarts p.harts) (sym (ap (λ (z : Plain). z.turns) e)) tt;
  turns = λ whole.
      subst (λ list. Takes (terms_of p) (listed the_machine (terms_of p) list) (start_of p) p) (sym (ap (λ (z : Plain). z.turns) e))
      (subst (λ z. Takes (terms_of p) (listed the_machine (terms_of p) []) z p) e
      (takes_by (terms_of p) (λ b. Some b) (listed the_machine (terms_of p) []) p p (λ o. refl) (takes_none p)));
}

-- for want of memory
pub by_abandoned : (p q : Plain) → IsByTurns p → q ≡ abandoned_in p → IsByTurns q
by_abandoned p q by e =
    subst IsByTurns (sym e) (record { given = by.given; harts = by.harts; turns = λ whole. absurd (true≢false whole) })

-- a board of the same terms begins as this one
pub same_start : (p q : Plain) → SameTerms p q → start_of q ≡ start_of p
same_start p q same =
    ap₂ (λ image harts. start_of (record q { image = image; harts = harts })) same.image same.harts
    ∙ ap₂ (λ limit log_limit. start_of (record q { image = p.image; harts = p.harts; limit = limit; log_limit = log_limit })) same.limit same.log_limit
    ∙ ap (λ first. start_of (record q { image = p.image; harts = p.harts; limit = p.limit; log_limit = p.log_limit; first = first })) same.first

-- what a turn that changed nothing takes
unchanged_takes : (p q : Plain) (h : ℕ) (before after : Run) (order : Order) (is : HasTurn p q h before after order)
    → board_of q spent ≡ board_of p (followed_by is.given spent) → Takes (terms_of p) (λ b. Some b) p q
unchanged_takes p q h before after order is e =
    record {
      of_terms = refl;
      same = is.terms;
      given = is.given;
      gives = is.gives;
      comes = λ left no_more.
          ap (λ o. Some (board_of p (followed_by o left))) given ∙ ap (λ o. Some (board_of p o)) (first_spent left)
          ∙ sym (ap (λ (b : Board FlatState). Some (record b { supply = left })) e);
      shut = (takes_turn (terms_of p) p q h before after order refl is).shut;
      silent = turn_silent p q h before after order is;
      faults = is.faults;
      sent = is.sent;
    }
  where
    given : is.given ≡ spent
    given = sym (then_spent is.given) ∙ sym (ap (λ (b : Board FlatState). b.supply) e)

-- the run's moves are the turn's
pub moves_had : (p q : Plain) (h n : ℕ) (r after : Run) (order : Order) → IsTurnOf p h n r → (is : HasTurn p q h r after order) → is.moves ≡ n
moves_had p q h n r after order from is = let m = is.moved in let t = (moves_are_told p h n r from).0 in omega (arith, m, t)

-- a turn added its row, or changed nothing
abbrev NotesOrNot : (p q : Plain) (h : ℕ) (r after : Run) (order : Order) → HasTurn p q h r after order → Type 0
NotesOrNot p q h r after order is =
    ((board_of q spent).turns ≡ p.turns ++ (h, is.moves) ∷ []) ⊎ (board_of q spent ≡ board_of p (followed_by is.given spent))

notes : (p q : Plain) (h : ℕ) (r after : Run) (order : Order) → h < length p.streams → (is : HasTurn p q h r after order) → NotesOrNot p q h r after order is
notes p q h r after order inside is =
    noted_or_unchanged the_machine (terms_of p) h is.moves (board_of p (followed_by is.given spent)) (board_of q spent) inside
    (is.turned spent (λ _. (refl, refl)))

-- rows of the board's harts, with one more
of_harts_more : (n : ℕ) (list : List (ℕ × ℕ)) (h moves : ℕ) → OfHarts n list → h < n → OfHarts n (list ++ (h, moves) ∷ [])
of_harts_more n [] h moves of inside = (inside, tt)
of_harts_more n (row ∷ list) h moves of inside = (of.0, of_harts_more n list h moves of.1 inside)

more_of_harts : (p q : Plain) (h : ℕ) (r after : Run) (order : Order) → h < p.harts → (is : HasTurn p q h r after order) → OfHarts p.harts p.turns
    → NotesOrNot p q h r after order is → OfHarts q.harts q.turns
more_of_harts p q h r after order inside is of (inl row) =
    subst (λ n. OfHarts n q.turns) (sym is.terms.harts) (subst (OfHarts p.harts) (sym row) (of_harts_more p.harts p.turns h is.moves of inside))
more_of_harts p q h r after order inside is of (inr same) =
    subst (λ n. OfHarts n q.turns) (sym is.terms.harts) (subst (OfHarts p.harts) (sym (ap (λ (b : Board FlatState). b.turns) same)) of)

-- its turns lead to the board behind a turn
further : (p q : Plain) (h n : ℕ) (r after : Run) (order : Order) → IsTurnOf p h n r → h < length p.streams → (is : HasTurn p q h r after order)
    → Takes (terms_of p) (listed the_machine (terms_of p) p.turns) (start_of p) p
    → Takes (terms_of p) (listed the_machine (terms_of p) q.turns) (start_of p) q
further p q h n r after order from inside is so_far =
    by (notes p q h r after order inside is)
  where
    least : (a b : ℕ) → a ≤ b → a ≡ min a b
    least a b l = omega (arith, l)

    most : is.moves ≤ whole_leg the_machine (terms_of p) h (board_of p spent)
    most = let t = (moves_are_told p h n r from).1 spent in let m = moves_had p q h n r after order from is in omega (arith, t, m)

    by : NotesOrNot p q h r after order is
        → Takes (terms_of p) (listed the_machine (terms_of p) q.turns) (start_of p) q
    by (inl row) =
        subst (λ list. Takes (terms_of p) (listed the_machine (terms_of p) list) (start_of p) q) (sym row)
        (rows_are_taken (terms_of p) p.turns (start_of p) p q h is.moves r after order so_far is
        (least is.moves (whole_leg the_machine (terms_of p) h (board_of p spent)) most))
    by (inr same) =
        subst (λ list. Takes (terms_of p) (listed the_machine (terms_of p) list) (start_of p) q) (sym (ap (λ (b : Board FlatState). b.turns) same))
        (takes_by (terms_of p) (λ b. option_and_then (λ c. Some c) (listed the_machine (terms_of p) p.turns b)) (listed the_machine (terms_of p) p.turns)
        (start_of p) q (λ o. sym (then_none (listed the_machine (terms_of p) p.turns (board_of (start_of p) o))))
        (takes_then (terms_of p) (listed the_machine (terms_of p) p.turns) (λ b. Some b) (start_of p) p q so_far
        (unchanged_takes p q h r after order is same)))

pub by_turn : (p q : Plain) (h n : ℕ) (r after : Run) (order : Order) → IsByTurns p → IsBoardOf p → IsTurnOf p h n r → HasTurn p q h r after order
    → IsByTurns q
by_turn p q h n r after order by holds from is = record {
  given = subst (λ w. HasGiven w q.now) (sym is.terms.first) (given_then p.first p.now q.now by.given (is.given, is.gives));
  harts = more_of_harts p q h r after order from.hart is by.harts (notes p q h r after order inside is);
  turns = λ whole.
      subst (λ z. Takes (terms_of q) (listed the_machine (terms_of q) q.turns) z q) (sym (same_start p q is.terms))
      (subst (λ t. Takes t (listed the_machine t q.turns) (start_of p) q) (sym (terms_stay p q is.terms))
      (further p q h n r after order from inside is (by.turns (sym is.abandoned ∙ whole))));
} where
  inside : h < length p.streams
  inside = subst (λ k. h < k) (sym holds.streams) from.hart

-- a hart that has a run as its part is one of the board's
pub inside_by : (p : Plain) (h : ℕ) (r : Run) → IsBoardOf p → IsPart p h r → h < p.harts
inside_by p h r holds part =
    let l = slice_get_within (state_of p).flat.harts h r.hart part.hart in
    let k = (reached_are_crew (terms_of p) p.image p.harts holds.reached.0 holds.whole refl (board_of p spent) holds.reached.1).0.harts_size in
    omega (arith, l, k)

-- ---- the board `b` in a record board `p`, once there is room for a turn, and behind it

pub ready_for : (b p m : Plain) (r : Run) → b ≡ p → m ≡ record b { prepared = true } → IsPartMoved p r → IsPartMoved m r
ready_for b p m r same room moved = room_moved b m r room (subst (λ z. IsPartMoved z r) (sym same) moved)

pub turn_had : (b p m q : Plain) (h : ℕ) (r after : Run) (order : Order) → b ≡ p → m ≡ record b { prepared = true } → HasTurn m q h r after order
    → HasTurn p q h r after order
turn_had b p m q h r after order same room turn = subst (λ z. HasTurn z q h r after order) same (room_turn b m q h r after order room turn)

pub kept_by_turn : (b p m q : Plain) (number : ℕ) (r after : Run) (order : Order) → b ≡ p → m ≡ record b { prepared = true } → number ≡ b.harts → IsByTurns b
    → IsBoardOf b → IsBoardOf q → IsPartMoved p r → HasTurn m q (number_of r) r after order → (number ≡ q.harts) × IsByTurns q
kept_by_turn b p m q number r after order same room is by holds later moved turn =
    let had = room_turn b m q (number_of r) r after order room turn in
    let mine = subst (λ z. IsPartMoved z r) (sym same) moved in
    let there = inside_by q (number_of r) after later had.part in
    let harts = had.terms.harts in
    (is ∙ sym harts, by_turn b q (number_of r) mine.0 r after order by holds (turn_of b (number_of r) mine.0 r holds (omega (arith, there, harts)) mine.1) had)
