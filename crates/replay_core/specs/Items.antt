-- What came of an item, and the parts of an item that a replay reads.
use Rattle.std.specs.Prelude.{ℕ, ◌≡◌, ◌≢◌, ◌<◌, length, true, false, Option, Some, None}
use Rattle.std.specs.Option.{option_map_or}
use Rattle.log_entry.specs.Parts.{unit_of}
use Rattle.log_entry.specs.Waits.{WaitList}
use Rattle.log_entry.specs.declared.log.Entry.{Entry}
use Rattle.log_entry.specs.declared.log.Entry.TheVariants as entries
use Rattle.log_entry.specs.declared.log.Log.{Log}
use Rattle.order_rules.specs.Cursor.{Cursor, guard_is_met}
use Rattle.flat_machine.specs.State.{FlatState}
use Rattle.replay_model.specs.Board.{board}
use Rattle.replay_model.specs.State.{Replay}
use Rattle.replay_model.specs.Items.{Item, Move, Makes, Verdict, HasEnded, Holds, CanGo, HasDiverged, next_item, verdict, step}
use Rattle.replay_model.specs.Items as items
use Rattle.replay_core.specs.declared.went.Went.{Went}
use Rattle.replay_core.specs.declared.went.Went.TheVariants as went
use Rattle.replay_core.specs.declared.went.Next.{Next}
use Rattle.replay_core.specs.declared.went.Next.TheVariants as next

-- what is answered of an item that is judged so: a Run is a move, and each other item that is made an entry
abbrev pub made_of : Item → Went
made_of items.Ended = went.Ended
made_of Move = went.Moved
made_of (Makes e) = went.Entry

abbrev pub went_of : Item → Verdict → Went
went_of item HasEnded = went.Ended
went_of item Holds = went.Hold
went_of item CanGo = made_of item
went_of item (HasDiverged rule) = went.Diverged rule

-- what is answered of a hart's next item
abbrev pub answer_of : Log → Replay FlatState → ℕ → Went
answer_of log s h = went_of (next_item (board (unit_of log)) log s h) (verdict (board (unit_of log)) log s h)

-- the state once a hart had its turn of one item: as it was where it can't go
abbrev pub after : Log → ℕ → Replay FlatState → Replay FlatState
after log h s = option_map_or (λ m. m.0) (step (board (unit_of log)) log h s) s

-- no hart of the log can go
abbrev pub IsStuck : Log → Replay FlatState → Type 0
IsStuck log s = (h : ℕ) → h < length log.streams → verdict (board (unit_of log)) log s h ≢ CanGo

-- nothing was made
abbrev pub IsStill : Went → Type 0
IsStill went.Moved = ⊥
IsStill went.Entry = ⊥
IsStill other = Unit {0}

-- the rule of a divergence
abbrev pub rule_in : Went → Option ℕ
rule_in (went.Diverged rule) = Some rule
rule_in other = None

-- the item is such an entry, and its guard is met
abbrev pub IsMet : Cursor → Item → Entry → Type 0
IsMet c item e = (item ≡ Makes e) × (guard_is_met c e ≡ true)

-- what a replay reads of an item
abbrev pub IsNext : Cursor → Item → Next → Type 0
IsNext c item next.Ended = item ≡ items.Ended
IsNext c item next.Move = item ≡ Move
IsNext c item next.Hold = (e : Entry) × (item ≡ Makes e) × (guard_is_met c e ≡ false)
IsNext c item (next.Gain page mode) =
    (count : ℕ) × ((seq : ℕ) × ((waits : WaitList) × IsMet c item (entries.Gain count page seq mode waits)))
IsNext c item (next.Yield page left) = (count : ℕ) × ((seq : ℕ) × IsMet c item (entries.Yield count page seq left))
IsNext c item (next.Poll time bits) = (count : ℕ) × ((ord : ℕ) × IsMet c item (entries.Poll count ord time bits))
IsNext c item (next.Touch input) = (count : ℕ) × ((ord : ℕ) × IsMet c item (entries.Touch count ord input))
