-- What a recording that the words ask for comes to (docs/recorder.md).
use Rattle.std.specs.Prelude.{ℕ, ◌≡◌, ◌≢◌, ◌↔◌, ◌<◌, ◌≤◌, ◌++◌, Bool, true, false, List, map, filter_map, slice_index, None, IsSome, IsTrue}
use Rattle.rv_words.specs.declared.shared.Cause.TheVariants as causes
use Rattle.outside.specs.Seen.{Takes}
use Rattle.outside.specs.declared.console.Asked.{Asked}
use Rattle.device_board.specs.Recording.{input_of}
use Rattle.elf_image.specs.Image.{Image}
use Rattle.flat_machine.specs.State.{FlatState}
use Rattle.flat_machine.specs.declared.results.Final.{Final}
use Rattle.log_entry.specs.declared.log.Log.{Log}
use Rattle.log_entry.specs.Parts.{unit_of, time_of}
use Rattle.log_entry.specs.Range.{in_range}
use Rattle.log_entry.specs.Size.{size_of_log}
use Rattle.replay_model.specs.Inputs.{console_input, by_ordinal, times_from}
use Rattle.turn_model.specs.Board.{Board, Terms}
use Rattle.turn_model.specs.Lists.{RecordingEnd}
use Rattle.turn_laws.specs.EndLaws.{IsFull, IsAtConsole}
use Rattle.crew_parts.specs.Boards.{Plain, World, plain_at_start, terms_of}
use Rattle.recorded_turns.specs.Recordings.{Records, InRounds}
use Rattle.free_run.specs.Recordings.{Freely}
use Rattle.revirt_tool.specs.Tasks.{Wish}

-- where console and clock tell them, their answers in the call are the inputs and times of the log, and the bytes that the
-- console took are those sent
pub record Answered (o p : World) (log : Log) (sent : List ℕ) : Type 0 where
  pub answers : IsTrue p.console.tells_answers
      → (asked : List Asked) × (p.console.answers ≡ o.console.answers ++ asked)
      × (map input_of asked ≡ filter_map console_input (by_ordinal log))
  pub times : IsTrue p.clock.tells
      → (times : List ℕ) × (p.clock.answers ≡ o.clock.answers ++ times)
      × (times_from 0 times ≡ filter_map time_of (by_ordinal log))
  pub taken : Takes sent o.console p.console

-- The cause is stop exactly where stop is set, and limit exactly where it isn't and each hart has made as many moves as the limit.
-- It is full only where the greatest entry would pass the log limit, and fault only where stop isn't set and the next move of a
-- hart is one for which the console is called. It is never cut.
pub record EndsBy (start : Plain) (log : Log) (s : FlatState) : Type 0 where
  pub stop : (log.cause ≡ causes.Stop) ↔ IsSome s.devices.stop
  pub limit : (log.cause ≡ causes.Limit)
      ↔ ((s.devices.stop ≡ None) × ((h : ℕ) → h < start.harts → slice_index s.counts h ≡ start.limit))
  pub full : log.cause ≡ causes.Full → IsFull (terms_of start) log
  pub fault : log.cause ≡ causes.Fault → IsAtConsole (terms_of start) start.harts s
  pub cut : log.cause ≢ causes.Cut

-- the board that is asked for, over an image, before any turn
abbrev pub begun : Wish → Image → World → Plain
begun w image o = plain_at_start image w.harts w.limit w.log_limit o

-- the kinds of recordings: with free harts, by their list of turns; and in rounds
abbrev pub KindOf : Bool → List (ℕ × ℕ) → Terms → Board FlatState → RecordingEnd FlatState → Type 0
KindOf true turns = Freely turns
KindOf false turns = InRounds

abbrev pub RecordsAsAsked : Bool → Plain → World → Log → Final → List (ℕ × ℕ) → List (ℕ × ℕ) → Type 0
RecordsAsAsked free start after log ended journal turns = Records (KindOf free turns) start after log ended journal turns

-- the recording that is asked for, with this log, journal and turns: what console and clock were asked for it, and why it ended; its log can be
-- written, within the log limit
pub record Comes (w : Wish) (image : Image) (o p : World) (log : Log) (ended : Final) (journal turns : List (ℕ × ℕ)) : Type 0 where
  pub run : RecordsAsAsked w.free (begun w image o) p log ended journal turns
  pub answered : Answered o p log ended.sent
  pub ends : EndsBy (begun w image o) log run.at
  pub range : in_range log ≡ true
  pub size : size_of_log (unit_of log) log.streams ≤ w.log_limit
