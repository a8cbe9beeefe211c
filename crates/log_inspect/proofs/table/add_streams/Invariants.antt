use Rattle.std.proofs.Common.{◌≡◌, ◌++◌, take}
use Rattle.log_inspect.specs.Table.{hand_overs_in}
use Rattle.log_inspect.proofs.table.add_streams.Given as goal

abbrev pub invariant-loop-hart : goal.invariant-loop-hart
invariant-loop-hart l = l.gains.items ≡ l.initial.gains.items ++ hand_overs_in (take l.hart l.streams)
