use Rattle.std.proofs.Common.{◌≡◌, ℕ, ◌≤◌, ◌<◌, Some, slice_get}
use Rattle.log_entry.specs.declared.log.Entry.{Entry}
use Rattle.log_entry.specs.Parts.{ordinal_of}
use Rattle.replay_core.proofs.room.above_stream.Given as goal

-- the ordinals so far are below it
abbrev pub invariant-loop-e : goal.invariant-loop-e
invariant-loop-e l = record {
  least : l.initial.most ≤ l.most;
  above : (i k : ℕ) (e : Entry) → i < l.e-index → slice_get l.s i ≡ Some e → ordinal_of e ≡ Some k → k < l.most;
}
