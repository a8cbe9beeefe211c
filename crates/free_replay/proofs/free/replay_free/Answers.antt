use Rattle.std.proofs.Common.{length, ap, sym, subst, ◌∙◌, arith}
use Rattle.std.specs.Prelude.{Contains}
use Rattle.replay_parts.specs.Boards.{Plain}
use Rattle.replay_parts.specs.Laws.{Reaches}
use Rattle.replay_core.specs.Turns.{AreParts}
use Rattle.free_replay.proofs.Parts.{parts_number}
use Rattle.free_replay.proofs.Working.{all_idle, closed_behind, comes_to, harts_stay, opened_ready, some_harts}
use Rattle.free_replay.proofs.free.replay_free.Goals as goal

pub open-requires-clause-some : goal.open-requires-clause-some
open-requires-clause-some g c =
    let some = some_harts c.args.orderly c.log.ensures.range in
    let same = ap (λ (p : Plain). length p.log.streams) c.in_ok-board.ensures.board in
    let number = c.harts-harts.ensures.number in
    omega (arith, some, same, number)

pub run_list-passes-requires-clause-ready : goal.run_list-passes-requires-clause-ready
run_list-passes-requires-clause-ready g c κs within =
    let ps = c.in-Ok-open.passes in
    let o = c.in-Ok-open.ensures in
    let s = c.harts-harts.ensures.reached in
    let rs = c.in_ok-board.runs.items in
    let same = ap (λ (p : Plain). length p.log.streams) c.of.ensures in
    opened_ready c.in-Ok-open.table c.of.result s.0 ps.items rs (subst (λ z. Reaches z s.0) (sym c.of.ensures) s.1)
    (subst (λ z. AreParts z rs) (sym c.of.ensures) c.in_ok-board.ensures.runs)
    (omega (arith, ps.ok.0, o.count, c.harts-harts.ensures.number, same)) o.table o.each

pub close-requires-clause-table : goal.close-requires-clause-table
close-requires-clause-table g c =
    all_idle c.in-Ok-open.table c.run_list-passes.result.0.items c.run_list-passes.result.1.items c.run_list-passes.ensures.ready

pub close-requires-clause-every : goal.close-requires-clause-every
close-requires-clause-every g c =
    let o = c.in-Ok-open.ensures in
    let same = harts_stay c.in-Ok-open.table c.in-Ok-open.passes.items c.run_list-passes.result.0.items c.run_list-passes.ensures.continued in
    λ h lt. subst (λ hs. Contains hs h) (sym same) (o.every h (omega (arith, lt, o.harts)))

pub open-requires-clause-count : goal.open-requires-clause-count
open-requires-clause-count g c =
    c.harts-harts.ensures.number ∙ sym (ap (λ (p : Plain). length p.log.streams) c.of.ensures) ∙ sym (parts_number c.of.result)

pub stage-requires : goal.stage-requires
stage-requires g c =
    let o = c.in-Ok-open.ensures in
    let r = c.run_list-passes in
    let some = some_harts c.args.orderly c.log.ensures.range in
    let same = ap (λ (p : Plain). length p.log.streams) c.in_ok-board.ensures.board in
    (closed_behind c.in-Ok-open.table c.of.result c.board-closed.result c.close.result c.harts.ensures.reached.0 c.in-Ok-open.passes.items
    r.result.0.items r.result.1.items c.harts-harts.result c.harts.ensures.reached.1 c.board-closed.ensures
    (let number = c.harts-harts.ensures.number in omega (arith, some, same, number))
    (let long = c.in-Ok-open.passes.ok.0 in omega (arith, long, o.count)) (c.close.ensures.count ∙ o.harts) o.each r.ensures.continued r.ensures.ready
    c.close.ensures.parts).parts

pub returns-in-Ok-open : goal.returns-in-Ok-open
returns-in-Ok-open g c =
    let o = c.in-Ok-open.ensures in
    let r = c.run_list-passes in
    let some = some_harts c.args.orderly c.log.ensures.range in
    let same = ap (λ (p : Plain). length p.log.streams) c.in_ok-board.ensures.board in
    let closed =
    closed_behind c.in-Ok-open.table c.of.result c.board-closed.result c.close.result c.harts.ensures.reached.0 c.in-Ok-open.passes.items
    r.result.0.items r.result.1.items c.harts-harts.result c.harts.ensures.reached.1 c.board-closed.ensures
    (let number = c.harts-harts.ensures.number in omega (arith, some, same, number))
    (let long = c.in-Ok-open.passes.ok.0 in omega (arith, long, o.count)) (c.close.ensures.count ∙ o.harts) o.each r.ensures.continued r.ensures.ready
    c.close.ensures.parts in
    comes_to c.args.orderly c.args.image.now c.of.result c.board-closed.result c.stage.result c.finish.result (c.of.ensures ∙ c.in_ok-board.ensures.board)
    closed.log closed.image c.stage.ensures.at c.stage.ensures.log c.finish.ensures
