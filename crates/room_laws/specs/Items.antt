-- The items of a replay apart from the room that waits have in memory.
use Rattle.log_entry.specs.Room.{entry_without_room}
use Rattle.replay_model.specs.Items.{Item, Ended, Move, Makes}

-- the same item, whose waits have no room told
abbrev pub item_without_room : Item → Item
item_without_room Ended = Ended
item_without_room Move = Move
item_without_room (Makes e) = Makes (entry_without_room e)
