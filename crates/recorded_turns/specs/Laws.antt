-- Recordings that a recorder's board makes turn by turn (docs/recorder.md).
use Rattle.std.specs.Prelude.{ℕ, ◌≡◌, ◌≢◌, ◌++◌, ◌∷◌, ◌+◌, ◌*◌, ◌%◌, ◌<◌, ◌≤◌, ◌==◌, not, min}
use Rattle.std.specs.Prelude.{Bool, true, false, List, [], map, length, slice_index, Option, Some, if◌then◌else◌}
use Rattle.std.specs.Option.{option_and_then}
use Rattle.rv_words.specs.Limits.{page_bytes}
use Rattle.elf_image.specs.Image.{Image, IsWhole}
use Rattle.flat_machine.specs.State.{FlatState}
use Rattle.run_model.specs.Run.{Run}
use Rattle.run_model.specs.Legs.{KeepsPages, MakesLeg}
use Rattle.run_model.specs.declared.asked.Pause.{Pause}
use Rattle.turn_model.specs.Board.{Board, Order, Go, Supply, Terms, harts, is_over}
use Rattle.turn_model.specs.Turn.{turn}
use Rattle.turn_model.specs.Lists.{whole_leg, listed, cut, closed_after, comes_to, recorded_by_list}
use Rattle.turn_model.specs.Rounds.{round_from, with_favoured, sweep, round, rounds, last_turns, IsRecordedInRounds}
use Rattle.turn_laws.specs.Supplies.{followed_by}
use Rattle.round_progress.specs.Measure.{rounds_left}
use Rattle.crew_parts.specs.Boards.{Plain, World, IsReached, the_machine, board_of, cut_in, is_over_in, plain_at_start, spent, state_of, terms_of, told_to}
use Rattle.crew_parts.specs.Laws.{IsTurnOf}
use Rattle.crew_parts.specs.Parts.{IsPart, IsPartAdvanced, until_of}
use Rattle.crew_parts.specs.Turns.{CountsFaults, Gives, GivesNoMore, HasTurn, SentIsTaken}
use Rattle.recorded_turns.specs.Takes.{Takes}

-- Where nothing is done, nothing is taken.
abbrev pub TakesNone : Type 0
TakesNone = (p : Plain) → Takes (terms_of p) (λ b. Some b) p p

-- One behind another.
abbrev pub TakesThen : Type 0
TakesThen = (terms : Terms) (f g : Board FlatState → Option (Board FlatState)) (p m q : Plain) → Takes terms f p m → Takes terms g m q
    → Takes terms (λ b. option_and_then g (f b)) p q

-- A turn takes what its hart's turn takes in the definitions.
abbrev pub TakesTurn : Type 0
TakesTurn = (terms : Terms) (p q : Plain) (h : ℕ) (before after : Run) (order : Order) → terms_of p ≡ terms
    → (is : HasTurn p q h before after order) → Takes terms (turn the_machine terms h is.moves) p q

-- And so does naming the favoured hart.
abbrev pub TakesFavour : Type 0
TakesFavour = (p : Plain) (r : ℕ) → length p.streams ≡ p.harts
    → Takes (terms_of p) (λ b. Some (with_favoured r b)) p (record p { favoured = r % p.harts })

-- A list goes on by a turn with so many moves of the hart's leg at most.
abbrev pub RowsAreTaken : Type 0
RowsAreTaken = (terms : Terms) (list : List (ℕ × ℕ)) (p m q : Plain) (h most : ℕ) (before after : Run) (order : Order)
    → Takes terms (listed the_machine terms list) p m → (is : HasTurn m q h before after order)
    → is.moves ≡ min most (whole_leg the_machine terms h (board_of m spent))
    → Takes terms (listed the_machine terms (list ++ (h, most) ∷ [])) p q

-- what console and clock gave from one board to another, whatever they give later
pub record IsTaken (p q : Plain) (P : Supply → Supply → Type 0) : Type 0 where
  pub given : Supply
  pub gives : Gives p.now q.now given
  pub faults : CountsFaults p.closed q.closed p.now.console.faults q.now.console.faults
  pub sent : SentIsTaken p q
  pub so : (left : Supply) → GivesNoMore q left → P (followed_by given left) left

-- A list, and what it is closed with, lead to the recording by it.
abbrev pub ListsAreTaken : Type 0
ListsAreTaken = (terms : Terms) (list : List (ℕ × ℕ)) (p m q : Plain) → Takes terms (listed the_machine terms list) p m
    → Takes terms (closed_after the_machine terms) m q
    → IsTaken p q (λ given left. recorded_by_list the_machine terms list (board_of p given) ≡ Some (comes_to the_machine terms (board_of q left)))

-- A sweep goes on by a turn of the next hart, once the round's hart is favoured.
abbrev pub SweepsAreTaken : Type 0
SweepsAreTaken = (terms : Terms) (r : ℕ) (moved : Bool) (hs : List ℕ) (p m q : Plain) (h : ℕ) (before after : Run) (order : Order)
    → Takes terms (sweep the_machine terms r moved hs) p m → length m.streams ≡ m.harts
    → (is : HasTurn (record m { favoured = r % m.harts }) q h before after order)
    → is.moves ≡ (if moved then whole_leg the_machine terms h (board_of m spent) else 0)
    → Takes terms (sweep the_machine terms r moved (hs ++ h ∷ [])) p q

-- Three sweeps are a round.
abbrev pub RoundIsTaken : Type 0
RoundIsTaken = (terms : Terms) (r : ℕ) (moved : Bool) (hs : List ℕ) (p a b q : Plain) → hs ≡ round_from r (board_of p spent)
    → Takes terms (sweep the_machine terms r moved hs) p a → Takes terms (sweep the_machine terms r false hs) a b
    → Takes terms (sweep the_machine terms r false hs) b q → Takes terms (round the_machine terms r moved) p q

-- Rounds go on by a round, where the board isn't over.
abbrev pub RoundsAreTaken : Type 0
RoundsAreTaken = (terms : Terms) (n : ℕ) (p m q : Plain) → Takes terms (rounds the_machine terms 0 n) p m
    → is_over the_machine terms (board_of m spent) ≡ false → Takes terms (round the_machine terms n (not (n == 0))) m q
    → Takes terms (rounds the_machine terms 0 (n + 1)) p q

-- Last turns go on by a turn of a hart that has a leg, and leave one that has none.
abbrev pub LastTurnsAreTaken : Type 0
LastTurnsAreTaken = (terms : Terms) (hs : List ℕ) (p m q : Plain) (h : ℕ) (before after : Run) (order : Order)
    → Takes terms (last_turns the_machine terms hs) p m → (is : HasTurn m q h before after order)
    → is.moves ≡ whole_leg the_machine terms h (board_of m spent) → 0 < is.moves
    → Takes terms (last_turns the_machine terms (hs ++ h ∷ [])) p q

abbrev pub LastTurnsLeave : Type 0
LastTurnsLeave = (terms : Terms) (hs : List ℕ) (p m : Plain) (h : ℕ) → Takes terms (last_turns the_machine terms hs) p m
    → whole_leg the_machine terms h (board_of m spent) ≡ 0 → Takes terms (last_turns the_machine terms (hs ++ h ∷ [])) p m

-- Rounds until the board is over, and last turns of all harts, lead to the recording in rounds.
abbrev pub RecordingsAreTaken : Type 0
RecordingsAreTaken = (terms : Terms) (n : ℕ) (p m q : Plain) → Takes terms (rounds the_machine terms 0 n) p m
    → is_over the_machine terms (board_of m spent) ≡ true → Takes terms (last_turns the_machine terms (harts (board_of m spent))) m q
    → IsTaken p q (λ given left. IsRecordedInRounds the_machine terms (board_of p given) (comes_to the_machine terms (board_of q left)))

-- A run that is a hart's part, advanced since its turn, is so behind another hart's turn, and its leg is as long.
abbrev pub OthersStayAdvanced : Type 0
OthersStayAdvanced = (p q : Plain) (h n g k : ℕ) (r after x : Run) (order : Order) → IsTurnOf p h n r → HasTurn p q h r after order
    → g < p.harts → g ≢ h → IsPartAdvanced p g k x
    → IsPartAdvanced q g k x × (whole_leg the_machine (terms_of q) g (board_of q spent) ≡ whole_leg the_machine (terms_of p) g (board_of p spent))

-- Nor is another hart told anything.
abbrev pub OthersStayTold : Type 0
OthersStayTold = (p q : Plain) (h n g : ℕ) (r after : Run) (order : Order) → IsTurnOf p h n r → HasTurn p q h r after order
    → g < p.harts → g ≢ h → told_to q g ≡ told_to p g

-- So it is once a hart is favoured.
abbrev pub FavouredStayAdvanced : Type 0
FavouredStayAdvanced = (p : Plain) (favoured g k : ℕ) (x : Run) → IsPartAdvanced p g k x → IsPartAdvanced (record p { favoured = favoured }) g k x

-- A run that is a hart's part, and makes its leg as far as the hart was told, is the part advanced by the whole leg.
abbrev pub LegsAdvance : Type 0
LegsAdvance = (p : Plain) (h until : ℕ) (r new : Run) (pause : Pause) → IsWhole p.image → IsReached p → p.counts ≡ (state_of p).flat.counts
    → told_to p h ≡ Some (Go until) → IsPart p h r → KeepsPages r new → MakesLeg page_bytes new pause h until (state_of p)
    → IsPartAdvanced p h (whole_leg the_machine (terms_of p) h (board_of p spent)) new

-- A run that is a hart's part has made no move since its turn.
abbrev pub PartsAreAdvanced : Type 0
PartsAreAdvanced = (p : Plain) (h : ℕ) (r : Run) → p.counts ≡ (state_of p).flat.counts → r.count ≤ until_of p h → IsPart p h r → IsPartAdvanced p h 0 r

-- One that makes it as far as a row of a list lets it, is the part advanced by so many of its moves.
abbrev pub RowsAdvance : Type 0
RowsAdvance = (p : Plain) (h until most : ℕ) (r new : Run) (pause : Pause) → IsWhole p.image → IsReached p → p.counts ≡ (state_of p).flat.counts
    → told_to p h ≡ Some (Go until) → IsPart p h r → KeepsPages r new
    → MakesLeg page_bytes new pause h (min until (slice_index p.counts h + most)) (state_of p)
    → IsPartAdvanced p h (min most (whole_leg the_machine (terms_of p) h (board_of p spent))) new

-- What is over by plain data is over.
abbrev pub OverIsOver : Type 0
OverIsOver = (p : Plain) (left : Supply) → IsWhole p.image → IsReached p → p.counts ≡ (state_of p).flat.counts
    → is_over the_machine (terms_of p) (board_of p left) ≡ is_over_in p

-- Cutting takes what a cut takes.
abbrev pub CutIsTaken : Type 0
CutIsTaken = (p : Plain) → IsWhole p.image → IsReached p → p.counts ≡ (state_of p).flat.counts
    → Takes (terms_of p) (λ b. Some (cut the_machine (terms_of p) b)) p (cut_in p)

-- A cut, and a turn without moves of each hart, close a list.
abbrev pub ClosesAreTaken : Type 0
ClosesAreTaken = (terms : Terms) (p m q : Plain) → Takes terms (λ b. Some (cut the_machine terms b)) p m
    → Takes terms (listed the_machine terms (map (λ (h : ℕ). (h, 0)) (harts (board_of p spent)))) m q
    → Takes terms (closed_after the_machine terms) p q

-- how much is left of a board
abbrev pub left_in : Plain → ℕ
left_in p = rounds_left the_machine (terms_of p) (board_of p spent)

-- Less is left behind each round that doesn't end the run, and never more than twice the limit for each hart and one.
abbrev pub LessIsLeft : Type 0
LessIsLeft = (image : Image) (harts limit log_limit n : ℕ) (world : World) (p q : Plain) → IsWhole image
    → (let start = plain_at_start image harts limit log_limit world in
    Takes (terms_of start) (rounds the_machine (terms_of start) 0 n) start p
    → is_over the_machine (terms_of p) (board_of p spent) ≡ false
    → Takes (terms_of start) (round the_machine (terms_of start) n (not (n == 0))) p q
    → is_over the_machine (terms_of q) (board_of q spent) ≡ false
    → left_in q < left_in p)

abbrev pub LittleIsLeft : Type 0
LittleIsLeft = (p : Plain) → left_in p ≤ 2 * (length p.streams * p.limit) + 1

-- A turn makes the moves that the part was advanced by; behind it the run is the hart's part, and stands no further than it may go.
abbrev pub TurnsLeaveParts : Type 0
TurnsLeaveParts = (p q : Plain) (h n : ℕ) (r after : Run) (order : Order) → IsTurnOf p h n r → q.counts ≡ (state_of q).flat.counts
    → (is : HasTurn p q h r after order) → (is.moves ≡ n) × IsPartAdvanced q h 0 after

-- In the first round no hart has a leg, so its sweeps may be taken as those of any other.
abbrev pub FirstRoundIsTaken : Type 0
FirstRoundIsTaken = (image : Image) (harts limit log_limit : ℕ) (world : World) (q : Plain) → IsWhole image
    → (let start = plain_at_start image harts limit log_limit world in
    Takes (terms_of start) (round the_machine (terms_of start) 0 true) start q
    → Takes (terms_of start) (round the_machine (terms_of start) 0 (not (0 == 0))) start q)
