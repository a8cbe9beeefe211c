-- What a log says, apart from the room that its waits have in memory.
use Rattle.std.specs.Prelude.{List, map}
use Rattle.log_entry.specs.declared.log.Entry.{Entry}
use Rattle.log_entry.specs.declared.log.Entry.TheVariants.{Gain, Yield, Poll, Touch, End}
use Rattle.log_entry.specs.declared.log.Log.{Log}

-- the same entry, whose waits have no room told
abbrev pub entry_without_room : Entry → Entry
entry_without_room (Gain count page seq mode waits) = Gain count page seq mode (record { items = waits.items; room = 0 })
entry_without_room (Yield count page seq left) = Yield count page seq left
entry_without_room (Poll count ord time bits) = Poll count ord time bits
entry_without_room (Touch count ord input) = Touch count ord input
entry_without_room (End count) = End count

abbrev pub stream_without_room : List Entry → List Entry
stream_without_room = map entry_without_room

abbrev pub log_without_room : Log → Log
log_without_room log = record log { streams = map stream_without_room log.streams }
