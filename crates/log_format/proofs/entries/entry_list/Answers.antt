use Rattle.std.proofs.Common.{map}
use Rattle.std.proofs.lemmas.Result.{err_from_is_err_and}
use Rattle.log_entry.specs.Room.{entry_without_room}
use Rattle.log_format.specs.Format.{repeat_at}
use Rattle.log_format.specs.Grammar.{entry_format}
use Rattle.log_format.proofs.Loop.{goes_on_by, ends, is_done}
use Rattle.log_format.proofs.entries.entry_list.Goals as goal

pub returns-in_err-entry : goal.returns-in_err-entry
returns-in_err-entry c =
    let p = err_from_is_err_and c.from_residual-in_err-entry.result c.from_residual-in_err-entry.ensures.1 in
    rw (p.1, p.2)
    (ends (entry_format c.args.harts c.args.units).read c.in_err-entry.field-0.0
    (map entry_without_room c.loop.entries.items) c.args.count c.loop.counter c.loop.rest.now
    (repeat_at (entry_format c.args.harts c.args.units).read c.args.count c.args.bytes.now) c.loop-test.true c.in_err-entry.ensures c.loop.invariant)

pub loop-preserved : goal.loop-preserved
loop-preserved c =
    rw c.in_ok-push.ensures.items
    (goes_on_by entry_without_room
    (entry_format c.args.harts c.args.units).read c.loop.entries.items c.args.count c.loop.counter c.loop.rest.now c.in_ok-entry.entry
    c.in_ok-entry.after.now
    (repeat_at (entry_format c.args.harts c.args.units).read c.args.count c.args.bytes.now) c.loop-test.true c.in_ok-entry.ensures c.loop.invariant)

pub returns : goal.returns
returns c = is_done (entry_format c.args.harts c.args.units).read (map entry_without_room c.loop.entries.items) c.args.count c.loop.counter c.loop.rest.now
    (repeat_at (entry_format c.args.harts c.args.units).read c.args.count c.args.bytes.now) c.loop-test.false c.loop.invariant
