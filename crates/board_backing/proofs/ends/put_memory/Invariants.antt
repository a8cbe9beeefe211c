use Rattle.std.proofs.Common.{◌≡◌, ◌*◌, take, length}
use Rattle.flat_machine.specs.State.{FlatState}
use Rattle.replay_model.specs.State.{Replay}
use Rattle.board_backing.specs.Ends.{Have}
use Rattle.board_backing.proofs.ends.put_memory.Given as goal

-- the bytes of the pages so far are the state's
abbrev pub invariant-loop-page : goal.invariant-loop-page
invariant-loop-page l = record {
  size : length l.memory ≡ length l.backing.pages.pages * l.backing.pages.unit;
  same : (s : Replay FlatState) → Have l.runs l.backing s → take (l.page * l.backing.pages.unit) l.memory ≡ take (l.page * l.backing.pages.unit) s.flat.memory;
}
