-- What holds of the recorder's turns, for code that takes them (docs/recorder.md).
use Rattle.std.specs.Prelude.{ℕ, ◌≡◌, ◌≢◌, ◌++◌, ◌∷◌, ◌+◌, ◌-◌, ◌%◌, ◌<◌, ◌≤◌, ◌==◌, ◌&&◌, not, min, Bool, true, false, List, [], length, replicate, find}
use Rattle.std.specs.Prelude.{Option, Some, None, IsSome, slice_get}
use Rattle.std.specs.Option.{option_and_then}
use Rattle.rv_words.specs.Limits.{poll_distance}
use Rattle.rv_words.specs.declared.shared.Mode.{Mode}
use Rattle.rv_words.specs.declared.shared.Cause.{Cause}
use Rattle.rv_words.specs.declared.shared.Cause.TheVariants.{Stop, Limit, Full, Cut, Fault}
use Rattle.rv_hart.specs.Effects.{fetch_of}
use Rattle.elf_image.specs.Image.{Image, IsWhole}
use Rattle.guest_pages.specs.Pages.{page_of}
use Rattle.flat_machine.specs.State.{FlatState, flat_at_start}
use Rattle.log_entry.specs.declared.log.Entry.{Entry}
use Rattle.log_entry.specs.declared.log.Entry.TheVariants.{Gain, Poll}
use Rattle.log_entry.specs.declared.waits.WaitFor.{WaitFor}
use Rattle.log_entry.specs.Parts.{unit_of, is_poll, page_number, conflict}
use Rattle.log_entry.specs.Size.{size_in, frame_size}
use Rattle.orders_law.specs.Orders.{below}
use Rattle.order_rules.specs.Holders.{held}
use Rattle.order_rules.specs.Rules.{has_poll}
use Rattle.privilege_directory.specs.Directory.{Directory, by_others, clash_of}
use Rattle.replay_model.specs.Board.{board, hart_access}
use Rattle.replay_model.specs.State.{Replay, IsCrewState}
use Rattle.run_model.specs.Run.{Run, IsOneRun, lacks, ahead_of, known_from, claim_of}
use Rattle.run_model.specs.Agreement.{Agrees, Asks}
use Rattle.run_model.specs.Legs.{IsLeg, DifferFor}
use Rattle.turn_model.specs.Board.{Board, Supply, Terms, unit_in, stream, last_order, count, is_over, board_at_start, log_of}
use Rattle.turn_model.specs.Claims.{clash, holds_so, known, needed, claims_against}
use Rattle.turn_model.specs.Ways.{Way, On, goes, entered, log_size}
use Rattle.turn_model.specs.Steps.{runs, next_number, next_poll, gain_of, steps}
use Rattle.turn_model.specs.Turn.{turn}
use Rattle.turn_model.specs.Lists.{RecordingEnd, leg, whole_leg, listed, closed_after, comes_to, recorded_by_list}
use Rattle.turn_model.specs.Rounds.{round_from, sweep, round, rounds, last_turns, IsRecordedInRounds}
use Rattle.turn_model.specs.Laws.{IsPagedBoard, OfHarts, machine_in, first_board, EachBelow}
use Rattle.turn_laws.specs.Supplies.{IsSpent, followed_by, with_more, WithMore, IsCarried, IsCarriedStep, AreCarried}
use Rattle.turn_laws.specs.Reached.{Reached}
use Rattle.turn_laws.specs.GivenLegs.{sweep_with, last_with}
use Rattle.turn_laws.specs.Polls.{IsPolledTo}
use Rattle.turn_laws.specs.Waits.{yields_in, yields_by, AreYields}

-- What a turn comes to, it comes to with more behind what console and clock had to give.
abbrev pub TurnsExtend : Type 0
TurnsExtend = (terms : Terms) (h n : ℕ) (b c : Board FlatState) → turn (machine_in terms) terms h n b ≡ Some c
    → IsCarried (turn (machine_in terms) terms h n) b c

-- So do lists of turns, and what they are closed with.
abbrev pub ListsExtend : Type 0
ListsExtend = (terms : Terms) (list : List (ℕ × ℕ)) (b c : Board FlatState) → listed (machine_in terms) terms list b ≡ Some c
    → IsCarried (listed (machine_in terms) terms list) b c

abbrev pub ClosesExtend : Type 0
ClosesExtend = (terms : Terms) (b c : Board FlatState) → closed_after (machine_in terms) terms b ≡ Some c
    → IsCarried (closed_after (machine_in terms) terms) b c

-- Sweeps, rounds, and the last turns.
abbrev pub SweepsExtend : Type 0
SweepsExtend = (terms : Terms) (r : ℕ) (moved : Bool) (hs : List ℕ) (b c : Board FlatState)
    → sweep (machine_in terms) terms r moved hs b ≡ Some c → IsCarried (sweep (machine_in terms) terms r moved hs) b c

abbrev pub RoundExtends : Type 0
RoundExtends = (terms : Terms) (r : ℕ) (moved : Bool) (b c : Board FlatState) → round (machine_in terms) terms r moved b ≡ Some c
    → IsCarried (round (machine_in terms) terms r moved) b c

abbrev pub RoundsExtend : Type 0
RoundsExtend = (terms : Terms) (r more : ℕ) (b c : Board FlatState) → rounds (machine_in terms) terms r more b ≡ Some c
    → IsCarried (rounds (machine_in terms) terms r more) b c

abbrev pub LastTurnsExtend : Type 0
LastTurnsExtend = (terms : Terms) (hs : List ℕ) (b c : Board FlatState) → last_turns (machine_in terms) terms hs b ≡ Some c
    → IsCarried (last_turns (machine_in terms) terms hs) b c

-- So do the steps of a turn, and any of such steps one after another.
abbrev pub StepsExtend : Type 0
StepsExtend = (terms : Terms) (h : ℕ) → AreCarried (steps (machine_in terms) terms h)

abbrev pub StepsGoOn : Type 0
StepsGoOn = (steps : List (Board FlatState → Way FlatState)) → AreCarried steps → IsCarriedStep (λ b. goes steps (On b))

-- And recordings, of the boards that they come of.
abbrev pub RecordingsExtend : Type 0
RecordingsExtend = (terms : Terms) (list : List (ℕ × ℕ)) (b : Board FlatState) (r : RecordingEnd FlatState)
    → recorded_by_list (machine_in terms) terms list b ≡ Some r
    → (c : Board FlatState) × (r ≡ comes_to (machine_in terms) terms c)
    × WithMore (λ x. recorded_by_list (machine_in terms) terms list (with_more x b) ≡ Some (comes_to (machine_in terms) terms (with_more x c))) b c

abbrev pub RecordingsInRoundsExtend : Type 0
RecordingsInRoundsExtend = (terms : Terms) (b : Board FlatState) (r : RecordingEnd FlatState) → IsRecordedInRounds (machine_in terms) terms b r
    → (c : Board FlatState) × (r ≡ comes_to (machine_in terms) terms c)
    × WithMore (λ x. IsRecordedInRounds (machine_in terms) terms (with_more x b) (comes_to (machine_in terms) terms (with_more x c))) b c

-- A list goes on where another ended.
abbrev pub ListsGoOn : Type 0
ListsGoOn = (terms : Terms) (list more : List (ℕ × ℕ)) (b : Board FlatState)
    → listed (machine_in terms) terms (list ++ more) b ≡ option_and_then (listed (machine_in terms) terms more) (listed (machine_in terms) terms list b)

-- And so do sweeps and last turns.
abbrev pub SweepsGoOn : Type 0
SweepsGoOn = (terms : Terms) (r : ℕ) (moved : Bool) (hs more : List ℕ) (b : Board FlatState)
    → sweep (machine_in terms) terms r moved (hs ++ more) b
    ≡ option_and_then (sweep (machine_in terms) terms r moved more) (sweep (machine_in terms) terms r moved hs b)

abbrev pub LastTurnsGoOn : Type 0
LastTurnsGoOn = (terms : Terms) (hs more : List ℕ) (b : Board FlatState)
    → last_turns (machine_in terms) terms (hs ++ more) b
    ≡ option_and_then (last_turns (machine_in terms) terms more) (last_turns (machine_in terms) terms hs b)

-- What is to be given in three parts may be joined either way.
abbrev pub SuppliesAreJoined : Type 0
SuppliesAreJoined = (a b c : Supply) → followed_by (followed_by a b) c ≡ followed_by a (followed_by b c)

-- A round comes to each hart, once.
abbrev pub HartsComeOnce : Type 0
HartsComeOnce = (harts r i j : ℕ) → i < harts → j < harts → (r + i) % harts ≡ (r + j) % harts → i ≡ j

abbrev pub HartsAllCome : Type 0
HartsAllCome = (harts r h : ℕ) → h < harts → (i : ℕ) × (i < harts) × ((r + i) % harts ≡ h)

-- In the first round no hart has a leg before its turn.
abbrev pub RoundsBeginStill : Type 0
RoundsBeginStill = (terms : Terms) (image : Image) (harts : ℕ) (supply : Supply) → IsWhole image → terms.pages ≡ image.pages
    → round (machine_in terms) terms 0 true (first_board terms image harts supply)
    ≡ round (machine_in terms) terms 0 false (first_board terms image harts supply)

-- a board that turns of so many harts lead to, from the start of an image
abbrev pub IsReachable : Terms → Image → ℕ → Supply → Board FlatState → Type 0
IsReachable terms image harts supply b = Reached (machine_in terms) terms harts (flat_at_start image harts) supply b

-- It is one with more behind what console and clock had to give, which has nothing of the console where that failed.
abbrev pub ReachedExtend : Type 0
ReachedExtend = (terms : Terms) (image : Image) (harts : ℕ) (supply x : Supply) (b : Board FlatState)
    → IsReachable terms image harts supply b → (b.closed ≡ Some Fault → IsSpent x)
    → IsReachable terms image harts (followed_by supply x) (with_more x b)

-- Lists of turns and what they are closed with, sweeps, rounds and last turns lead from such boards to such boards.
abbrev pub ListsLead : Type 0
ListsLead = (terms : Terms) (image : Image) (harts : ℕ) (supply : Supply) (list : List (ℕ × ℕ)) (b c : Board FlatState)
    → IsReachable terms image harts supply b → OfHarts harts list → listed (machine_in terms) terms list b ≡ Some c
    → IsReachable terms image harts supply c

abbrev pub ClosesLead : Type 0
ClosesLead = (terms : Terms) (image : Image) (harts : ℕ) (supply : Supply) (b c : Board FlatState) → terms.pages ≡ image.pages
    → IsReachable terms image harts supply b → closed_after (machine_in terms) terms b ≡ Some c → IsReachable terms image harts supply c

abbrev pub SweepsLead : Type 0
SweepsLead = (terms : Terms) (image : Image) (harts r : ℕ) (supply : Supply) (moved : Bool) (hs : List ℕ) (b c : Board FlatState)
    → IsReachable terms image harts supply b → EachBelow harts hs → sweep (machine_in terms) terms r moved hs b ≡ Some c
    → IsReachable terms image harts supply c

abbrev pub RoundsLead : Type 0
RoundsLead = (terms : Terms) (image : Image) (harts r more : ℕ) (supply : Supply) (b c : Board FlatState) → terms.pages ≡ image.pages
    → IsReachable terms image harts supply b → rounds (machine_in terms) terms r more b ≡ Some c → IsReachable terms image harts supply c

abbrev pub LastTurnsLead : Type 0
LastTurnsLead = (terms : Terms) (image : Image) (harts : ℕ) (supply : Supply) (hs : List ℕ) (b c : Board FlatState)
    → IsReachable terms image harts supply b → EachBelow harts hs → last_turns (machine_in terms) terms hs b ≡ Some c
    → IsReachable terms image harts supply c

-- a run on frames of the terms' unit agrees with a hart of the state
abbrev pub AgreesIn : Terms → Run → ℕ → Replay FlatState → Type 0
AgreesIn terms x h s = (x.frames.unit ≡ unit_in terms) × Agrees x h s

-- The holders of a reached board are CREW, it is of the board's size, and every hart's run is there.
abbrev pub ReachedAreCrew : Type 0
ReachedAreCrew = (terms : Terms) (image : Image) (harts : ℕ) (supply : Supply) (b : Board FlatState)
    → IsWhole image → terms.pages ≡ image.pages → IsReachable terms image harts supply b
    → IsPagedBoard harts terms.pages b.at.flat × (length b.streams ≡ harts) × IsCrewState (board (unit_in terms)) b.at
    × ((h : ℕ) → h < harts → (x : Run) × IsOneRun x × AgreesIn terms x h b.at)

-- a turn of the hart, with so many moves of its leg, leads from a reached board to another board
pub record IsTurnFrom (terms : Terms) (image : Image) (harts : ℕ) (supply : Supply) (g n : ℕ) (b d : Board FlatState) : Type 0 where
  pub reached : IsReachable terms image harts supply b
  pub hart : g < harts
  pub moves : n ≤ whole_leg (machine_in terms) terms g b
  pub made : turn (machine_in terms) terms g n b ≡ Some d

-- A run that agrees with a board agrees with the board behind another hart's turn.
abbrev pub RunsStay : Type 0
RunsStay = (terms : Terms) (image : Image) (harts : ℕ) (supply : Supply) (g n h : ℕ) (b d : Board FlatState) (x : Run)
    → IsWhole image → terms.pages ≡ image.pages → IsTurnFrom terms image harts supply g n b d → h ≢ g
    → AgreesIn terms x h b.at → AgreesIn terms x h d.at

-- Moves of a hart leave all but itself, its count and the pages that it holds in Write, and the holders CREW; and its run is there.
abbrev pub MovesLeaveOthers : Type 0
MovesLeaveOthers = (terms : Terms) (x : Run) (h k : ℕ) (s t : Replay FlatState)
    → IsOneRun x → AgreesIn terms x h s → IsCrewState (board (unit_in terms)) s → runs (machine_in terms) terms h k s ≡ Some t
    → DifferFor (unit_in terms) h s t × IsCrewState (board (unit_in terms)) t × ((y : Run) × IsOneRun y × AgreesIn terms y h t)

-- the hart's run is there, and each that agrees with it in one state agrees with it in the other
pub record AgreesAlike (terms : Terms) (h : ℕ) (s t : Replay FlatState) : Type 0 where
  pub run : (y : Run) × IsOneRun y × AgreesIn terms y h s
  pub each : (y : Run) → AgreesIn terms y h s → AgreesIn terms y h t

-- so many moves of the hart from either lead to states with which its run agrees alike
abbrev pub MovesAgree : Terms → ℕ → Board FlatState → Board FlatState → Type 0
MovesAgree terms h b d = (k : ℕ) (s : Replay FlatState) → runs (machine_in terms) terms h k b.at ≡ Some s
    → (t : Replay FlatState) × (runs (machine_in terms) terms h k d.at ≡ Some t) × AgreesAlike terms h s t

-- what a hart has of two states is the same: itself, its count, its modes of pages, and the bytes of those that it holds
pub record HasSame (terms : Terms) (h : ℕ) (s t : Replay FlatState) : Type 0 where
  pub same_hart : slice_get t.flat.harts h ≡ slice_get s.flat.harts h
  pub same_count : slice_get t.flat.counts h ≡ slice_get s.flat.counts h
  pub same_table : length t.holders ≡ length s.holders
  pub same_modes : (page : ℕ) → held t.holders page h ≡ held s.holders page h
  pub same_bytes : (page : ℕ) → IsSome (held s.holders page h)
      → page_of (unit_in terms) t.flat.memory page ≡ page_of (unit_in terms) s.flat.memory page

-- to this hart the boards are the same: its last order, its entries, its count, what it has, and its leg, move for move
pub record IsSameTo (terms : Terms) (h : ℕ) (b d : Board FlatState) : Type 0 where
  pub same_order : last_order d h ≡ last_order b h
  pub same_entries : stream d h ≡ stream b h
  pub same_count : count (machine_in terms) terms d h ≡ count (machine_in terms) terms b h
  pub same_part : HasSame terms h b.at d.at
  pub same_leg : whole_leg (machine_in terms) terms h d ≡ whole_leg (machine_in terms) terms h b
  pub moves_agree : MovesAgree terms h b d

-- Behind another hart's turn a hart finds the same.
abbrev pub LegsStay : Type 0
LegsStay = (terms : Terms) (image : Image) (harts : ℕ) (supply : Supply) (g n h : ℕ) (b d : Board FlatState)
    → IsWhole image → terms.pages ≡ image.pages → IsTurnFrom terms image harts supply g n b d → h < harts → h ≢ g
    → IsSameTo terms h b d

-- A leg that a run makes up to a count is the hart's leg.
abbrev pub LegsAre : Type 0
LegsAre = (terms : Terms) (harts pages h until : ℕ) (s t : Replay FlatState) (is : IsLeg (board (unit_in terms)) h until s t)
    → IsPagedBoard harts pages s.flat
    → (is.moves ≡ leg (machine_in terms) terms h (until - (board (unit_in terms)).count s.flat h) s)
    × (runs (machine_in terms) terms h is.moves s ≡ Some t)

-- So many moves within a count are of the leg up to it, and are counted.
abbrev pub MovesAreOfLegs : Type 0
MovesAreOfLegs = (terms : Terms) (harts pages h k until : ℕ) (s t : Replay FlatState) → IsPagedBoard harts pages s.flat
    → runs (machine_in terms) terms h k s ≡ Some t → (board (unit_in terms)).count t.flat h ≤ until
    → (k ≤ leg (machine_in terms) terms h (until - (board (unit_in terms)).count s.flat h) s)
    × ((board (unit_in terms)).count s.flat h + k ≡ (board (unit_in terms)).count t.flat h)

-- A leg that ends sooner is so many of its moves.
abbrev pub LegsEndSooner : Type 0
LegsEndSooner = (terms : Terms) (h k most : ℕ) (s : Replay FlatState)
    → leg (machine_in terms) terms h (min k most) s ≡ min k (leg (machine_in terms) terms h most s)

-- So the legs of a round, and those of the last turns, may be taken all at once before its first turn.
abbrev pub LegsAtOnce : Type 0
LegsAtOnce = (terms : Terms) (image : Image) (harts r : ℕ) (supply : Supply) (b : Board FlatState)
    → IsWhole image → terms.pages ≡ image.pages → IsReachable terms image harts supply b
    → sweep (machine_in terms) terms r true (round_from r b) b
    ≡ sweep_with (machine_in terms) terms r (λ h. whole_leg (machine_in terms) terms h b) (round_from r b) b

abbrev pub LastLegsAtOnce : Type 0
LastLegsAtOnce = (terms : Terms) (image : Image) (harts : ℕ) (supply : Supply) (b : Board FlatState)
    → IsWhole image → terms.pages ≡ image.pages → IsReachable terms image harts supply b
    → last_turns (machine_in terms) terms (below (length b.streams)) b
    ≡ last_with (machine_in terms) terms (λ h. whole_leg (machine_in terms) terms h b) (below (length b.streams)) b

-- what closes a board in a turn: a store to STOP, a full log, or a console that fails
abbrev pub IsOfTurn : Option Cause → Type 0
IsOfTurn None = Unit {0}
IsOfTurn (Some Stop) = Unit {0}
IsOfTurn (Some Limit) = ⊥
IsOfTurn (Some Full) = Unit {0}
IsOfTurn (Some Cut) = ⊥
IsOfTurn (Some Fault) = Unit {0}

-- A turn closes a board by one of these.
abbrev pub TurnsClose : Type 0
TurnsClose = (terms : Terms) (image : Image) (harts : ℕ) (supply : Supply) (g n : ℕ) (b d : Board FlatState)
    → terms.pages ≡ image.pages → IsTurnFrom terms image harts supply g n b d → b.closed ≡ None → IsOfTurn d.closed

-- So a recording by a list is cut exactly where the list ended before the board was over.
abbrev pub ListsAreCut : Type 0
ListsAreCut = (terms : Terms) (image : Image) (harts : ℕ) (supply : Supply) (list : List (ℕ × ℕ)) (c : Board FlatState)
    (r : RecordingEnd FlatState) → terms.pages ≡ image.pages → OfHarts harts list
    → listed (machine_in terms) terms list (first_board terms image harts supply) ≡ Some c
    → recorded_by_list (machine_in terms) terms list (first_board terms image harts supply) ≡ Some r
    → (r.log.cause ≡ Cut → is_over (machine_in terms) terms c ≡ false) × (is_over (machine_in terms) terms c ≡ false → r.log.cause ≡ Cut)

-- And one in rounds never is.
abbrev pub RoundsAreNotCut : Type 0
RoundsAreNotCut = (terms : Terms) (image : Image) (harts : ℕ) (supply : Supply) (r : RecordingEnd FlatState) → terms.pages ≡ image.pages
    → IsRecordedInRounds (machine_in terms) terms (first_board terms image harts supply) r → r.log.cause ≢ Cut

-- A board has one recording in rounds at most.
abbrev pub RoundsAreOne : Type 0
RoundsAreOne = (terms : Terms) (b : Board FlatState) (r s : RecordingEnd FlatState) → IsRecordedInRounds (machine_in terms) terms b r
    → IsRecordedInRounds (machine_in terms) terms b s → r ≡ s

-- An entry adds its size to the log's.
abbrev pub SizesGrow : Type 0
SizesGrow = (terms : Terms) (h : ℕ) (e : Entry) (b c : Board FlatState) → h < length b.streams → entered (machine_in terms) terms h e b ≡ Some c
    → log_size (machine_in terms) terms c
    ≡ log_size (machine_in terms) terms b + size_in (unit_of (log_of (machine_in terms) terms b)) (length b.streams) e

-- It begins with the frame, and hangs on the streams alone.
abbrev pub SizesBegin : Type 0
SizesBegin = (terms : Terms) (harts : ℕ) (first : FlatState) (supply : Supply)
    → log_size (machine_in terms) terms (board_at_start terms harts first supply) ≡ frame_size (unit_in terms) harts

abbrev pub SizesStay : Type 0
SizesStay = (terms : Terms) (b c : Board FlatState) → c.streams ≡ b.streams
    → log_size (machine_in terms) terms c ≡ log_size (machine_in terms) terms b

-- A stream's Polls begin at none, stay with other entries, and grow with a Poll at the least multiple that has none.
abbrev pub PollsBegin : Type 0
PollsBegin = IsPolledTo [] 0

abbrev pub PollsGrow : Type 0
PollsGrow = (entries : List Entry) (due ord time bits : ℕ) → IsPolledTo entries due
    → IsPolledTo (entries ++ Poll due ord time bits ∷ []) (due + poll_distance)

abbrev pub PollsStay : Type 0
PollsStay = (entries : List Entry) (due : ℕ) (e : Entry) → is_poll e ≡ false → IsPolledTo entries due → IsPolledTo (entries ++ e ∷ []) due

-- The number tells the next Poll of a count that hasn't passed it, and whether that is due at the count.
abbrev pub PollsTell : Type 0
PollsTell = (entries : List Entry) (count due : ℕ) → IsPolledTo entries due → count ≤ due → due ≤ count + poll_distance
    → (next_poll count entries ≡ due) × (((count % poll_distance == 0) && not (has_poll entries count)) ≡ (count == due))

-- the count at which a hart's next Poll is due
abbrev pub poll_of : Terms → Board FlatState → ℕ → ℕ
poll_of terms b h = next_poll (count (machine_in terms) terms b h) (stream b h)

-- So it is in each stream of a reached board: the number is its hart's next Poll.
abbrev pub ReachedArePolled : Type 0
ReachedArePolled = (terms : Terms) (image : Image) (harts : ℕ) (supply : Supply) (h : ℕ) (b : Board FlatState)
    → terms.pages ≡ image.pages → IsReachable terms image harts supply b → h < harts
    → IsPolledTo (stream b h) (poll_of terms b h) × (count (machine_in terms) terms b h ≤ poll_of terms b h)
    × (poll_of terms b h ≤ count (machine_in terms) terms b h + poll_distance)

-- Before any turn no page has a Yield.
abbrev pub WaitsBegin : Type 0
WaitsBegin = (terms : Terms) (harts : ℕ) (first : FlatState) (supply : Supply)
    → AreYields (machine_in terms) terms (board_at_start terms harts first supply) (replicate terms.pages [])

-- An entry of a page, with its next number: a Gain leaves no Yield of the page, and a Yield is one more; every other entry leaves them.
abbrev pub WaitsFollow : Type 0
WaitsFollow = (terms : Terms) (h : ℕ) (e : Entry) (b c : Board FlatState) (yields : List (List WaitFor))
    → h < length b.streams
    → ((p : ℕ × ℕ) → page_number e ≡ Some p → (p.0 < length yields) × (p.1 ≡ next_number b p.0))
    → entered (machine_in terms) terms h e b ≡ Some c
    → AreYields (machine_in terms) terms b yields → AreYields (machine_in terms) terms c (yields_by h e (page_number e) yields)

-- They hang on the streams and the numbers alone.
abbrev pub WaitsStay : Type 0
WaitsStay = (terms : Terms) (b c : Board FlatState) (yields : List (List WaitFor)) → c.streams ≡ b.streams → c.at.cursor.numbers ≡ b.at.cursor.numbers
    → AreYields (machine_in terms) terms b yields → AreYields (machine_in terms) terms c yields

-- So they tell the Gain of a turn.
abbrev pub WaitsTell : Type 0
WaitsTell = (terms : Terms) (h : ℕ) (n : ℕ × Mode) (b : Board FlatState) (yields : List (List WaitFor)) → n.0 < length yields
    → AreYields (machine_in terms) terms b yields
    → gain_of (machine_in terms) terms h n b
    ≡ Gain (count (machine_in terms) terms b h) n.0 (next_number b n.0) n.1 (record { items = by_others h (yields_in yields n.0); room = 0 })

-- Moves leave numbers and holders.
abbrev pub MovesKeep : Type 0
MovesKeep = (terms : Terms) (h k : ℕ) (s t : Replay FlatState) → runs (machine_in terms) terms h k s ≡ Some t
    → (t.cursor ≡ s.cursor) × (t.holders ≡ s.holders)

-- Who clashes by the board is who clashes by a directory that says the same of holders.
abbrev pub ClashesAreOne : Type 0
ClashesAreOne = (b : Board FlatState) (d : Directory) (h : ℕ) (n : ℕ × Mode) → d.holders ≡ b.at.holders → length d.wants ≡ length b.streams
    → clash b h n ≡ clash_of d h n.0 n.1

-- What a hart holds by the board is what its run holds.
abbrev pub HoldsAreOne : Type 0
HoldsAreOne = (b : Board FlatState) (x : Run) (h : ℕ) (n : ℕ × Mode) → Agrees x h b.at → holds_so b h n ≡ not (lacks x n)

-- The first that it needs and doesn't hold, and the device access of its next move, are what its run has ahead.
abbrev pub NeedsAreOne : Type 0
NeedsAreOne = (terms : Terms) (b : Board FlatState) (x : Run) (h : ℕ) → AgreesIn terms x h b.at
    → Asks (find (λ n. not (holds_so b h n)) (needed (machine_in terms) terms b h)) (hart_access b.at.flat h) (ahead_of x)

-- What it is known to need is what its run knows, and what it claims what its run claims.
abbrev pub ClaimsAreOne : Type 0
ClaimsAreOne = (terms : Terms) (b : Board FlatState) (x : Run) (h page : ℕ) (mode : Mode) → AgreesIn terms x h b.at
    → (known (machine_in terms) terms b h (needed (machine_in terms) terms b h) ≡ known_from x (fetch_of x.hart))
    × (claims_against (machine_in terms) terms b h page mode ≡ (not (x.count == terms.limit) && conflict (claim_of x page) (Some mode)))

-- A hart's leg ends at its next Poll, and so has as many moves at most as lie between two.
abbrev pub LegsAreShort : Type 0
LegsAreShort = (terms : Terms) (image : Image) (harts : ℕ) (supply : Supply) (h : ℕ) (b : Board FlatState)
    → terms.pages ≡ image.pages → IsReachable terms image harts supply b → h < harts
    → (count (machine_in terms) terms b h + whole_leg (machine_in terms) terms h b ≤ poll_of terms b h)
    × (whole_leg (machine_in terms) terms h b ≤ poll_distance)

-- A turn makes at most three entries more than there are harts: a Poll, a Yield to each other hart, two Gains and a Touch.
abbrev pub TurnsAreShort : Type 0
TurnsAreShort = (terms : Terms) (h n : ℕ) (b d : Board FlatState) → h < length b.streams → turn (machine_in terms) terms h n b ≡ Some d
    → length (stream d h) ≤ length (stream b h) + (length b.streams + 3)
