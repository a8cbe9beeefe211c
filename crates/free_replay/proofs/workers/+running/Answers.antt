use mir.Syntax.{named}
use denote.Param.Send.{param_send, shr_send, sendable}
use Rattle.std.proofs.Common.{[]}
use Rattle.std.proofs.sync.atomic.AtomicBool.TheSendSync as flag
use Rattle.turn_table.proofs.table.TurnTable.TheSendSync as table
use Rattle.free_replay.specs.contracts.board.ReplayTurns as ReplayTurns
use Rattle.free_replay.specs.contracts.board.ReplayPart as ReplayPart
use Rattle.free_replay.specs.contracts.board.ReplayTurnsParted.TheImpl.{ghosts}
use Rattle.free_run.proofs.events.EventCount.TheSendSync as events
use Rattle.free_run.proofs.Sent.{captures_send}
use Rattle.free_replay.proofs.Sent.{turns_send, worker_send}
use Rattle.free_replay.proofs.workers.+running.Lts-fn-run_last-scope.{arg-1-2}
use Rattle.std.proofs.Common.{ap, ◌∙◌, arith, rules}
use Rattle.free_replay.proofs.Working.{added, apart, changed_last, promised, all_ready_with, taken_back}
use Rattle.free_replay.proofs.workers.+running.Goals as goal

pub run_last-scope-spawn_with-requires-send-F : goal.run_last-scope-spawn_with-requires-send-F
run_last-scope-spawn_with-requires-send-F g t c κs within =
    let captured =
    captures_send [] _ _ (shr_send (named 6) κs.1.1.1.1.1.1.0 _ flag.the_sync) (shr_send (named 7) κs.1.1.1.1.1.1.1.0 _ c.requires.sync.0) _ _ _ _
    (shr_send (named 8) κs.1.1.1.1.1.1.1.1.0 _ (table.the_sync ReplayTurns.the_row ReplayPart.the_row ghosts turns_send))
    (shr_send (named 9) κs.1.1.1.1.1.1.1.1.1.0 _ c.requires.sync.1) (shr_send (named 10) κs.1.1.1.1.1.1.1.1.1.1.0 _ events.the_sync) worker_send in
    param_send 2 (arg-1-2 g.row.T g.row.G g.T.laws g.G.laws g.T.Threads-dict g.T.Wait-dict g.G.Gate-dict κs)
    (record { owned = captured.owned; leaving = captured.leaving })

pub run_last-scope-spawn_with-requires-send-T : goal.run_last-scope-spawn_with-requires-send-T
run_last-scope-spawn_with-requires-send-T g t c κs within = search (sendable, worker_send) depth 20

pub run_last-scope-returns-in-Ok : goal.run_last-scope-returns-in-Ok
run_last-scope-returns-in-Ok g t c =
    let table = c.captures.table.now in
    let promise = c.in-Ok.child.promise in
    let kept = promised table promise.table.value c.captures.worker promise.worker.value c.join.result
    (ap (λ p. p.table.value) c.in-Ok.ensures.ok ∙ c.of-promise.ensures.table) (ap (λ p. p.worker.value) c.in-Ok.ensures.ok ∙ c.of-promise.ensures.worker)
    c.join.ensures in
    let r = c.run_list-lists in
    let w = c.with_last in
    let a = added table c.captures.passes.items c.captures.worker c.join.result r.result.0.items w.result.0.items r.result.1.items w.result.1.items
    r.ensures.ready r.ensures.continued kept w.ensures.passes w.ensures.runs in
    let ready = a.ready in
    let continued = a.continued in
    record {
      ready = ready;
      continued = continued;
      mine = search rules;
      passes = ((omega (arith, w.ensures.count, r.ensures.passes)), (omega (arith, w.ensures.room, r.ensures.passes)));
      runs = ((omega (arith, w.ensures.count, r.ensures.runs)), (omega (arith, w.ensures.room, r.ensures.runs)));
      mine_count = search rules;
    }

pub run_last-scope-returns-in-Err : goal.run_last-scope-returns-in-Err
run_last-scope-returns-in-Err g t c =
    let table = c.captures.table.now in
    let f = c.in-Err.back.value in
    let r = c.run_here in
    let kept = promised table f.2.now c.captures.worker f.5 c.run-worker.result (ap (λ x. x.2.now) c.in-Err.ensures.err) (ap (λ x. x.5) c.in-Err.ensures.err)
    c.run-worker.ensures in
    record {
      ready = r.ensures.ready;
      continued = changed_last table c.captures.passes.items r.result.0.items c.captures.worker c.run-worker.result r.ensures.continued kept;
      mine = r.ensures.mine;
      passes = r.ensures.passes;
      runs = r.ensures.runs;
      mine_count = r.ensures.mine_count;
    }

pub run_here-run_list-passes-requires-clause-mine : goal.run_here-run_list-passes-requires-clause-mine
run_here-run_list-passes-requires-clause-mine g t c κs within =
    all_ready_with c.args.table.now c.args.mine.items c.put.new.list.items c.args.worker c.requires.mine c.requires.one c.put.ensures.items

pub run_here-returns : goal.run_here-returns
run_here-returns g t c =
    let table = c.args.table.now in
    let r = c.run_list-passes in
    let w = c.with_last in
    let back = taken_back table c.args.mine.items c.put.new.list.items r.result.2.items c.pop.new.self.items c.args.worker c.in-Some.worker r.ensures.mine
    c.put.ensures.items c.in-Some.ensures.items in
    let a = added table c.args.passes.items c.args.worker c.in-Some.worker r.result.0.items w.result.0.items r.result.1.items w.result.1.items
    r.ensures.ready r.ensures.continued back.1 w.ensures.passes w.ensures.runs in
    let ready = a.ready in
    let continued = a.continued in
    let mine = back.0 in
    search rules

pub run_list-worker_of-worker-requires : goal.run_list-worker_of-worker-requires
run_list-worker_of-worker-requires g t c =
    (apart c.args.table.now c.args.passes.items c.pop.new.self.items c.args.runs.items c.pop-2.new.self.items c.in-Some.pass c.in-Some-pop.run'
    c.in-Some.ensures.items c.in-Some-pop.ensures.items c.requires.ready).1

pub run_list-run_last-requires-clause-ready : goal.run_list-run_last-requires-clause-ready
run_list-run_last-requires-clause-ready g t c κs within =
    (apart c.args.table.now c.args.passes.items c.pop.new.self.items c.args.runs.items c.pop-2.new.self.items c.in-Some.pass c.in-Some-pop.run'
    c.in-Some.ensures.items c.in-Some-pop.ensures.items c.requires.ready).0
