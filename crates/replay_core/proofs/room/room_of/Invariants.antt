use Rattle.std.proofs.Common.{◌≡◌, ℕ, ◌<◌, Some}
use Rattle.log_entry.specs.declared.log.Entry.{Entry}
use Rattle.log_entry.specs.Parts.{ordinal_of}
use Rattle.order_rules.specs.Places.{entry_at}
use Rattle.replay_core.proofs.room.room_of.Given as goal

-- the ordinals of the streams so far are below it
abbrev pub invariant-loop-s : goal.invariant-loop-s
invariant-loop-s l = (h i k : ℕ) (e : Entry) → h < l.s-index → entry_at l.l h i ≡ Some e → ordinal_of e ≡ Some k → k < l.most
