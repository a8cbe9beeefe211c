use Rattle.std.proofs.Common.{rules, ◌≡◌, [], ◌∷◌, ◌++◌}
use Rattle.rv_hart.specs.Moves.{hart_at_start}
use Rattle.flat_machine.proofs.FirstState.{one_more}
use Rattle.flat_machine.proofs.machine.harts_at_start.Goals as goal

pub loop-id-preserved : goal.loop-id-preserved
loop-id-preserved c =
    let more : c.push.new.self.items ≡ c.loop-id.list.items ++ c.start.result ∷ [] = search rules in
    let started : c.start.result ≡ hart_at_start c.loop-id.id c.args.harts c.args.pages c.args.entry = search rules in
    one_more c.args.harts c.args.pages c.args.entry c.loop-id.id c.loop-id.list.items c.push.new.self.items c.start.result c.loop-id.invariant more started
