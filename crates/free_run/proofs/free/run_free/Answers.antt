use Rattle.std.proofs.Common.{arith, length, subst, sym, ◌≡◌}
use Rattle.std.specs.Prelude.{Contains}
use Rattle.free_run.specs.Parts.{parts_of}
use Rattle.free_run.proofs.Closing.{closed_parts, closed_terms, opened_ready}
use Rattle.free_run.proofs.Freed.{ran_from}
use Rattle.free_run.proofs.Pairing.{all_idle, same_harts}
use Rattle.free_run.proofs.Parts.{parts_number}
use Rattle.free_run.proofs.free.run_free.Goals as goal

pub open-requires-clause-some : goal.open-requires-clause-some
open-requires-clause-some g c =
    let n = c.harts-harts.ensures in let k = parts_number c.args.board in let s = c.over.ensures.holds.some in omega (arith, n, k, s)

pub run_all-refused-requires-clause-ready : goal.run_all-refused-requires-clause-ready
run_all-refused-requires-clause-ready g c κs within =
    let b = c.args.board in
    let ps = c.in-Ok.passes in
    let o = c.in-Ok.ensures in
    let number : length ps.items ≡ length c.args.runs.items =
    (let n = c.harts-harts.ensures in let k = parts_number b in let l = ps.ok.0 in let m = o.count in let r = c.requires.number in
    omega (arith, n, k, l, m, r)) in
    opened_ready c.in-Ok.table b ps.items c.args.runs.items c.over.ensures.holds c.requires number o.table o.each

pub run_all-refused-requires-clause-count : goal.run_all-refused-requires-clause-count
run_all-refused-requires-clause-count g c κs within =
    let n = c.harts-harts.ensures in let k = parts_number c.args.board in let m = c.in-Ok.ensures.count in let r = c.requires.number in
    let l = c.args.runs.ok.0 in omega (arith, n, k, m, r, l)

pub run_all-refused-requires-clause-room : goal.run_all-refused-requires-clause-room
run_all-refused-requires-clause-room g c κs within =
    let n = c.harts-harts.ensures in let k = parts_number c.args.board in let r = c.requires.number in let l = c.args.runs.ok.0 in
    let one = c.in-Some.ensures.room.0 in let two = c.in-Some.ensures.room.1 in
    ((omega (arith, n, k, r, l, one)), (omega (arith, n, k, r, l, two)))

pub close-board-requires-clause-table : goal.close-board-requires-clause-table
close-board-requires-clause-table g c =
    all_idle c.in-Ok.table c.in-Ok.passes.items c.run_all-refused.new.passes.items c.run_all-refused.ensures.led

pub close-board-requires-clause-every : goal.close-board-requires-clause-every
close-board-requires-clause-every g c =
    let o = c.in-Ok.ensures in
    let same = same_harts c.in-Ok.table c.in-Ok.passes.items c.run_all-refused.new.passes.items c.run_all-refused.ensures.led in
    λ h lt. subst (λ hs. Contains hs h) (sym same) (o.every h (let k = o.harts in omega (arith, lt, k)))

pub end_run-requires-after_bounds : goal.end_run-requires-after_bounds
end_run-requires-after_bounds g c κs within = λ none.
    let b = c.args.board in
    let ps = c.in-Ok.passes in
    let o = c.in-Ok.ensures in
    let run = c.run_all-refused in
    let z = c.close-board.ensures in
    let holds = c.over-in-Ok.ensures.holds in
    let number : length ps.items ≡ length (parts_of c.close-board.result) =
    (let l = ps.ok.0 in let m = o.count in let h = o.harts in let k = z.count in omega (arith, l, m, h, k)) in
    closed_parts c.in-Ok.table b c.close-board.result ps.items run.new.passes.items run.new.runs.items holds number o.each run.ensures.led z.parts
    (run.ensures.runs none)

pub returns-in-Ok : goal.returns-in-Ok
returns-in-Ok g c =
    let b = c.args.board in
    let ps = c.in-Ok.passes in
    let o = c.in-Ok.ensures in
    let run = c.run_all-refused in
    let z = c.close-board.ensures in
    let number : length ps.items ≡ b.harts =
    (let n = c.harts-harts.ensures in let k = parts_number b in let l = ps.ok.0 in let m = o.count in omega (arith, n, k, l, m)) in
    ran_from b c.close-board.result c.end_run.result.0 c.end_run.result.1.items
    (closed_terms c.in-Ok.table b c.close-board.result ps.items run.new.passes.items c.over.ensures.holds.some number o.each run.ensures.led z.parts)
    c.end_run.ensures
