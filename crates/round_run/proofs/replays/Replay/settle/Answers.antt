use Rattle.std.proofs.Common.{length, subst}
use Rattle.round_run.specs.Replays.{HadTurns}
use Rattle.round_run.proofs.Settling.{sweeps_begin, sweeps_end, sweeps_more}
use Rattle.round_run.proofs.replays.Replay.settle.Goals as goal

pub sweeps-init : goal.sweeps-init
sweeps-init c = sweeps_begin c.args.self.now.board c.args.self.now.runs.items c.args.self.now.untils c.requires.led c.requires.places

pub sweep-requires-clause-led : goal.sweep-requires-clause-led
sweep-requires-clause-led c = c.sweeps.invariant.led

pub sweep-requires-clause-places : goal.sweep-requires-clause-places
sweep-requires-clause-places c = c.sweeps.invariant.places

pub sweeps-smaller : goal.sweeps-smaller
sweeps-smaller c = c.sweep.ensures.less c.sweeps-test.true

pub sweeps-preserved : goal.sweeps-preserved
sweeps-preserved c =
    let p = c.args.self.now in
    let m = c.sweeps.self in
    let q = c.sweep.new.self in
    sweeps_more (length m.board.log.streams) p.board m.board q.board p.runs.items m.runs.items q.runs.items m.untils q.untils c.sweeps.invariant
    (subst (HadTurns (length m.board.log.streams) m.board q.board m.runs.items q.runs.items q.untils) c.sweeps-test.true c.sweep.ensures)

pub returns : goal.returns
returns c =
    let p = c.args.self.now in
    let m = c.sweeps.self in
    let q = c.sweep.new.self in
    sweeps_end p.board m.board q.board p.runs.items m.runs.items q.runs.items m.untils q.untils c.sweeps.invariant
    (subst (HadTurns (length m.board.log.streams) m.board q.board m.runs.items q.runs.items q.untils) c.sweeps-test.false c.sweep.ensures)
