use Rattle.std.proofs.Common.{rules}
use Rattle.flat_machine.proofs.StateAfterMove.{touch_has_room}
use Rattle.flat_machine.proofs.machine.tests.Bench.touch.Goals as goal

pub act-requires-clause-room : goal.act-requires-clause-room
act-requires-clause-room g c = touch_has_room c.args.self.now.flat c.args.h c.args.input (search rules)
