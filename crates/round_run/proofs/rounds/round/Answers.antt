use Rattle.std.proofs.Common.{true, false}
use Rattle.recorder.proofs.Manning.{given_then}
use Rattle.round_run.proofs.Sweeping.{round_taken, still_ready}
use Rattle.round_run.proofs.rounds.round.Goals as goal

pub sweep-requires-2-clause-ready : goal.sweep-requires-2-clause-ready
sweep-requires-2-clause-ready g c κs within =
    let a = c.sweep.new.recording in
    (false, still_ready a.board a.runs.items a.orders (c.in_ok-sweep.ensures.taken true c.requires.ready).manned)

pub sweep-requires-3-clause-ready : goal.sweep-requires-3-clause-ready
sweep-requires-3-clause-ready g c κs within =
    let a = c.sweep.new.recording in
    let b = c.sweep-2.new.recording in
    let one = c.in_ok-sweep.ensures.taken true c.requires.ready in
    let two = c.in_ok-sweep-2.ensures.taken false (still_ready a.board a.runs.items a.orders one.manned) in
    (false, still_ready b.board b.runs.items b.orders two.manned)

pub returns-clause-taken : goal.returns-clause-taken
returns-clause-taken g c =
    let a = c.sweep.new.recording in
    let b = c.sweep-2.new.recording in
    let q = c.sweep-3.new.recording in
    let one = c.in_ok-sweep.ensures.taken true c.requires.ready in
    let two = c.in_ok-sweep-2.ensures.taken false (still_ready a.board a.runs.items a.orders one.manned) in
    let three = c.in_ok-sweep-3.ensures.taken false (still_ready b.board b.runs.items b.orders two.manned) in
    round_taken c.args.number c.args.recording.now.board a.board b.board q.board a.runs.items b.runs.items q.runs.items a.orders b.orders q.orders
    c.harts.ensures.holds one two three

pub returns-in_err-sweep-2-clause-given : goal.returns-in_err-sweep-2-clause-given
returns-in_err-sweep-2-clause-given g c =
    given_then c.args.recording.now.board.now c.sweep.new.recording.board.now c.sweep-2.new.recording.board.now c.sweep.ensures.given
    c.sweep-2.ensures.given

pub returns-in_err-sweep-3-clause-given : goal.returns-in_err-sweep-3-clause-given
returns-in_err-sweep-3-clause-given g c =
    given_then c.args.recording.now.board.now c.sweep-2.new.recording.board.now c.sweep-3.new.recording.board.now
    (given_then c.args.recording.now.board.now c.sweep.new.recording.board.now c.sweep-2.new.recording.board.now c.sweep.ensures.given
    c.sweep-2.ensures.given) c.sweep-3.ensures.given

pub returns-clause-given : goal.returns-clause-given
returns-clause-given g c =
    given_then c.args.recording.now.board.now c.sweep-2.new.recording.board.now c.sweep-3.new.recording.board.now
    (given_then c.args.recording.now.board.now c.sweep.new.recording.board.now c.sweep-2.new.recording.board.now c.sweep.ensures.given
    c.sweep-2.ensures.given) c.sweep-3.ensures.given
