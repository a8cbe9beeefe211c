-- The acts of the flat machine: the state after each, and none where its condition fails.
use Rattle.std.specs.Prelude.{ℕ, ◌+◌, ◌<◌, ◌^◌, ◌||◌, nat_lt, if◌then◌else◌, List, map, Option, Some, None, IfSome, is_some, slice_get, slice_set, slice_index}
use Rattle.std.specs.Option.{option_map, option_and_then}
use Rattle.rv_words.specs.declared.shared.Input.{Input}
use Rattle.rv_csr.specs.Traps.{with_lines}
use Rattle.rv_hart.specs.State.{Hart}
use Rattle.rv_hart.specs.Moves.{after, written, need_of, with_reserved, with_csrs}
use Rattle.rv_hart.specs.declared.effect.Effect.{Effect}
use Rattle.rv_hart.specs.declared.effect.Wrote.{Wrote}
use Rattle.device_board.specs.State.{Devices, lines, with_time}
use Rattle.device_board.specs.Accesses.{touched, HasRoom}
use Rattle.flat_machine.specs.State.{FlatState, FlatWithRoom}
use Rattle.flat_machine.specs.Moves.{next_move, loaded_for, access_of, stored_by, lost_by}
use Rattle.flat_machine.specs.declared.act.Act.{Act}
use Rattle.flat_machine.specs.declared.act.Act.TheVariants.{Run, Touch, Poll, Lose}

abbrev pub counted_up : ℕ → List ℕ → List ℕ
counted_up h counts = slice_set counts h (slice_index counts h + 1)

-- a hart moved: each other hart loses its reservation where the move wrote in its word
abbrev pub moved : FlatState → ℕ → Hart → Wrote → FlatState
moved s h x wrote =
    record s {
      harts = slice_set (map (lost_by wrote) s.harts) h x;
      counts = counted_up h s.counts;
      memory = stored_by s.memory wrote;
    }

abbrev pub moved_by : FlatState → ℕ → Hart → Effect → ℕ → FlatState
moved_by s h x effect loaded = moved s h (after x effect loaded) (written effect loaded)

-- the lines of a hart are the devices' lines
abbrev pub with_lines_of : Devices → ℕ → Hart → Hart
with_lines_of d h x = with_csrs (with_lines (lines d h) x.csrs) x

-- a move on the memory, where it is no device access
abbrev pub ran : FlatState → ℕ → Hart → Effect → Option FlatState
ran s h x effect =
    if is_some (access_of (need_of effect)) then None
    else Some (moved_by s h x effect (loaded_for s.memory (need_of effect)))

-- a move on the devices that left them so and loaded that word
abbrev pub accessed : FlatState → ℕ → Hart → Effect → Devices × ℕ → FlatState
accessed s h x effect d =
    record s {
      harts = slice_set s.harts h (with_lines_of d.0 h (after x effect d.1));
      counts = counted_up h s.counts;
      devices = d.0;
    }

-- a device access, where stop isn't set and the input suits it
abbrev pub touch_made : FlatState → ℕ → Input → Hart → Effect → Option FlatState
touch_made s h input x effect =
    if is_some s.devices.stop then None
    else option_map (accessed s h x effect) (option_and_then (λ access. touched s.devices access input) (access_of (need_of effect)))

abbrev pub polled : FlatState → ℕ → Hart → Devices → FlatState
polled s h x d = record s { harts = slice_set s.harts h (with_lines_of d h x); devices = d }

-- a poll, where stop isn't set and the time isn't below mtime
abbrev pub poll_made : FlatState → ℕ → ℕ → Hart → Option FlatState
poll_made s h time x =
    if is_some s.devices.stop || nat_lt time s.devices.mtime then None
    else Some (polled s h x (with_time time s.devices))

abbrev pub lost : FlatState → ℕ → Hart → FlatState
lost s h x = record s { harts = slice_set s.harts h (with_reserved None x) }

-- the state after an act of a hart that the board has
abbrev pub next : Act → FlatState → Option FlatState
next (Run h) s = option_and_then (λ x. ran s h x (next_move x s.memory)) (slice_get s.harts h)
next (Touch h input) s = option_and_then (λ x. touch_made s h input x (next_move x s.memory)) (slice_get s.harts h)
next (Poll h time) s = option_and_then (poll_made s h time) (slice_get s.harts h)
next (Lose h) s = option_map (lost s h) (slice_get s.harts h)

-- the counts of moves stay numbers of 64 bits
abbrev pub CountsFit : Act → FlatState → Type 0
CountsFit (Run h) s = slice_index s.counts h + 1 < 2 ^ 64
CountsFit (Touch h input) s = slice_index s.counts h + 1 < 2 ^ 64
CountsFit (Poll h time) s = Unit {0}
CountsFit (Lose h) s = Unit {0}

-- there is room for the console byte of the hart's next move, where it sends one
abbrev pub NextHasRoom : FlatWithRoom → Hart → Type 0
NextHasRoom m x = IfSome (access_of (need_of (next_move x m.state.memory))) (HasRoom (record { devices = m.state.devices; spare = m.spare }))

-- a Touch that sends has room
abbrev pub SendsWithRoom : Act → FlatWithRoom → Type 0
SendsWithRoom (Run h) m = Unit {0}
SendsWithRoom (Touch h input) m = IfSome (slice_get m.state.harts h) (NextHasRoom m)
SendsWithRoom (Poll h time) m = Unit {0}
SendsWithRoom (Lose h) m = Unit {0}
