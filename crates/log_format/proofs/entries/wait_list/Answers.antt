use Rattle.std.proofs.lemmas.Result.{err_from_is_err_and}
use Rattle.log_format.specs.Format.{repeat_at}
use Rattle.log_format.specs.Grammar.{wait_format}
use Rattle.log_format.proofs.Loop.{goes_on, ends, is_done}
use Rattle.log_format.proofs.entries.wait_list.Goals as goal

pub returns-in_err-wait : goal.returns-in_err-wait
returns-in_err-wait c =
    let p = err_from_is_err_and c.from_residual-in_err-wait.result c.from_residual-in_err-wait.ensures.1 in
    rw (p.1, p.2)
    (ends (wait_format c.args.harts).read c.in_err-wait.field-0.0 c.loop.waits.items c.args.count c.loop.counter c.loop.rest.now
    (repeat_at (wait_format c.args.harts).read c.args.count c.args.bytes.now) c.loop-test.true c.in_err-wait.ensures c.loop.invariant)

pub loop-preserved : goal.loop-preserved
loop-preserved c =
    rw c.in_ok-push.ensures.items
    (goes_on (wait_format c.args.harts).read c.loop.waits.items c.args.count c.loop.counter c.loop.rest.now c.in_ok-wait.wait c.in_ok-wait.after.now
    (repeat_at (wait_format c.args.harts).read c.args.count c.args.bytes.now) c.loop-test.true c.in_ok-wait.ensures c.loop.invariant)

pub returns : goal.returns
returns c = is_done (wait_format c.args.harts).read c.loop.waits.items c.args.count c.loop.counter c.loop.rest.now
    (repeat_at (wait_format c.args.harts).read c.args.count c.args.bytes.now) c.loop-test.false c.loop.invariant
