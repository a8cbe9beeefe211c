-- What holds of each recording with free harts (docs/threads.md).
use Rattle.std.specs.Prelude.{ℕ, ◌≢◌, List}
use Rattle.rv_words.specs.declared.shared.Cause.TheVariants.{Cut}
use Rattle.log_entry.specs.declared.log.Log.{Log}
use Rattle.flat_machine.specs.declared.results.Final.{Final}
use Rattle.crew_parts.specs.Boards.{Plain, World}
use Rattle.recorded_turns.specs.Recordings.{IsRightBy, RecordsByList}
use Rattle.free_run.specs.Recordings.{RecordsFreely}

-- The recording by its turns on one thread is the same, but for the list of turns: what closes that list may add rows.
abbrev pub FreelyIsByList : Type 0
FreelyIsByList = (start : Plain) (after : World) (log : Log) (ended : Final) (journal turns : List (ℕ × ℕ))
    → RecordsFreely start after log ended journal turns
    → (rows : List (ℕ × ℕ)) × RecordsByList turns start after log ended journal rows

-- The log is orderly, the journal obeys it, is full and lean, and the rest that holds of each recording by a list.
abbrev pub FreelyIsRight : Type 0
FreelyIsRight = (start : Plain) (after : World) (log : Log) (ended : Final) (journal turns : List (ℕ × ℕ))
    (is : RecordsFreely start after log ended journal turns) → IsRightBy start is.given log journal turns is.at

-- It is never cut.
abbrev pub FreelyIsNotCut : Type 0
FreelyIsNotCut = (start : Plain) (after : World) (log : Log) (ended : Final) (journal turns : List (ℕ × ℕ))
    → RecordsFreely start after log ended journal turns → log.cause ≢ Cut
