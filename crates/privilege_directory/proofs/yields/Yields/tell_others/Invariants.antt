use Rattle.std.proofs.Common.{◌≡◌, take}
use Rattle.privilege_directory.specs.Directory.{by_others}
use Rattle.privilege_directory.proofs.yields.Yields.tell_others.Given as goal

abbrev pub invariant-loop-wait : goal.invariant-loop-wait
invariant-loop-wait l = record {
  told : l.waits.items ≡ by_others l.hart (take l.wait-index l.wait-items);
  room : l.waits.room ≡ l.fn.waits.room;
}
