use Rattle.std.proofs.Common.{◌≡◌, ◌+◌, ◌*◌, ◌++◌, take, length}
use Rattle.std.specs.List.{flat_map}
use Rattle.log_format.specs.Grammar.{wait_format}
use Rattle.log_format.proofs.buffer.Buffer.put_wait_list.Given as goal

abbrev pub invariant-loop-wait : goal.invariant-loop-wait
invariant-loop-wait l = record {
  bytes : l.self ≡ l.initial.self ++ flat_map (wait_format 0).spell (take l.wait-index l.waits);
  count : length l.self ≡ length l.initial.self + 9 * l.wait-index;
}
