use Rattle.std.proofs.Common.{map}
use Rattle.std.proofs.lemmas.Result.{err_from_is_err_and}
use Rattle.log_entry.specs.Room.{stream_without_room}
use Rattle.log_format.specs.Format.{repeat_at}
use Rattle.log_format.specs.Grammar.{stream_format}
use Rattle.log_format.proofs.Loop.{goes_on_by, ends, is_done}
use Rattle.log_format.proofs.reading.stream_list.Goals as goal

pub returns-in_err-stream : goal.returns-in_err-stream
returns-in_err-stream c =
    let p = err_from_is_err_and c.from_residual-in_err-stream.result c.from_residual-in_err-stream.ensures.1 in
    rw (p.1, p.2)
    (ends (stream_format c.args.harts c.args.units).read c.in_err-stream.field-0.0
    (map stream_without_room c.loop.streams.items) c.args.harts c.loop.counter c.loop.rest.now
    (repeat_at (stream_format c.args.harts c.args.units).read c.args.harts c.args.bytes.now) c.loop-test.true c.in_err-stream.ensures c.loop.invariant)

pub loop-preserved : goal.loop-preserved
loop-preserved c =
    rw c.in_ok-push.ensures.items
    (goes_on_by stream_without_room
    (stream_format c.args.harts c.args.units).read c.loop.streams.items c.args.harts c.loop.counter c.loop.rest.now c.in_ok-stream.stream
    c.in_ok-stream.after.now
    (repeat_at (stream_format c.args.harts c.args.units).read c.args.harts c.args.bytes.now) c.loop-test.true c.in_ok-stream.ensures c.loop.invariant)

pub returns : goal.returns
returns c = is_done (stream_format c.args.harts c.args.units).read (map stream_without_room c.loop.streams.items) c.args.harts c.loop.counter c.loop.rest.now
    (repeat_at (stream_format c.args.harts c.args.units).read c.args.harts c.args.bytes.now) c.loop-test.false c.loop.invariant
