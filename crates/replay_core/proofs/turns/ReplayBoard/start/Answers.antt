use Rattle.std.proofs.Common.{rules, ◌≡◌, length, replicate, sym, subst}
use Rattle.replay_core.specs.Turns.{AreParts, plain_of}
use Rattle.replay_core.proofs.TurnsTaken.{first_parts}
use Rattle.replay_core.proofs.turns.ReplayBoard.start.Goals as goal

pub returns-clause-runs : goal.returns-clause-runs
returns-clause-runs c =
    let image : c.of.result.value ≡ c.args.image.now = search rules in
    let none : c.in-Ok.counts.items ≡ replicate (length c.in_ok-board.field-0.runs.items) 0 = search rules in
    subst (λ i. AreParts (plain_of c.in_ok-board.field-0.board i c.in-Ok.counts.items) c.in_ok-board.field-0.runs.items) (sym image)
    (first_parts c.args.orderly c.args.image.now c.in_ok-board.field-0 c.in-Ok.counts.items c.in_ok-board.ensures none)
