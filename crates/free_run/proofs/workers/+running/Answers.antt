use denote.Param.Send.{param_send, shr_send, sendable}
use denote.Param.{param}
use mir.Syntax.{named}
use Rattle.free_run.specs.contracts.board.RecordBoard as RecordBoard
use Rattle.free_run.specs.contracts.board.RecordPart as RecordPart
use Rattle.free_run.specs.contracts.board.RecordBoardParted.TheImpl.{ghosts, no_dict}
use Rattle.std.proofs.sync.atomic.AtomicBool.TheSendSync as flag
use Rattle.std.proofs.alloc.Global.TheSendSync as heap
use Rattle.turn_table.proofs.table.TurnTable.TheSendSync as table
use Rattle.free_run.proofs.workers.+running.Lts-fn-run_list-scope.{arg-1-2}
use Rattle.std.proofs.Crossing.{crosses}
use Rattle.std.proofs.Common.{[], ap, ◌∙◌, arith, rules}
use Rattle.turn_table.proofs.table.Pass.TheSendSync as pass
use Rattle.free_run.proofs.events.EventCount.TheSendSync as events
use Rattle.free_run.proofs.worker.Job.TheSendSync as job
use Rattle.free_run.proofs.Sent.{more_captures_send, pair_send, record_board_send}
use Rattle.free_run.proofs.Working.{added, all_ready_with, changed_last, promised, ready_apart, taken_back}
use Rattle.free_run.proofs.workers.+running.Goals as goal

pub run_list-scope-spawn_with-requires-send-F : goal.run_list-scope-spawn_with-requires-send-F
run_list-scope-spawn_with-requires-send-F g t c κs within =
    let C = param 1 g.row.C in
    let K = param 2 g.row.K in
    let B = RecordBoard.the_row C K g.C.Console g.K.Clock in
    let board = record_board_send C K g.C.Console g.K.Clock c.requires.sync.2 c.requires.sync.3 in
    let parts = ghosts C K g.C.Console no_dict g.K.Clock no_dict no_dict no_dict in
    let captured =
    more_captures_send [] _ _ (shr_send (named 6) κs.1.1.1.1.1.1.0 _ flag.the_sync) (shr_send (named 7) κs.1.1.1.1.1.1.1.0 _ c.requires.sync.0) _ _ _ _ _
    heap.the_send (shr_send (named 8) κs.1.1.1.1.1.1.1.1.0 _ (table.the_sync B RecordPart.the_row parts board))
    (shr_send (named 9) κs.1.1.1.1.1.1.1.1.1.0 _ c.requires.sync.1) (shr_send (named 10) κs.1.1.1.1.1.1.1.1.1.1.0 _ events.the_sync)
    (pair_send [] _ _ (pass.the_send B RecordPart.the_row board) job.the_send)
    in
    param_send 2
    (arg-1-2 g.row.T g.row.C g.row.K g.row.G g.T.laws g.C.laws g.K.laws g.G.laws g.T.Threads g.T.Threads-dict g.T.Wait g.T.Wait-dict g.C.Console
    g.C.Console-dict g.K.Clock g.K.Clock-dict g.G.Gate g.G.Gate-dict g.C.Destruct-dict g.K.Destruct-dict κs)
    (record { owned = captured.owned; leaving = captured.leaving })

pub run_list-scope-spawn_with-requires-send-T : goal.run_list-scope-spawn_with-requires-send-T
run_list-scope-spawn_with-requires-send-T g t c κs within = search (sendable, crosses, pass.the_field_send, job.the_send, record_board_send) depth 20

pub run_list-scope-returns-in-Ok : goal.run_list-scope-returns-in-Ok
run_list-scope-returns-in-Ok g t c =
    let table = c.captures.table.now in
    let promise = c.in-Ok.child.promise in
    let kept =
    promised table promise.table.value c.captures.worker.0 promise.pass.value c.join.result.0 c.join.result.1
    (ap (λ p. p.table.value) c.in-Ok.ensures.ok ∙ c.of-promise.ensures.table) (ap (λ p. p.pass.value) c.in-Ok.ensures.ok ∙ c.of-promise.ensures.pass)
    c.join.ensures in
    let r = c.run_list-lists in
    record {
      worked =
          added table c.captures.workers.items r.result.0.items c.with_last.result.0.items c.captures.worker c.join.result r.ensures.worked kept
          c.with_last.ensures.workers;
      mine = search rules;
      count = ((omega (arith, c.with_last.ensures.count, r.ensures.count)), (omega (arith, c.with_last.ensures.room, r.ensures.count)));
      mine_count = search rules;
    }

pub run_list-scope-returns-in-Err : goal.run_list-scope-returns-in-Err
run_list-scope-returns-in-Err g t c =
    let table = c.captures.table.now in
    let f = c.in-Err.back.value in
    let r = c.run_here in
    let kept =
    promised table f.3.now c.captures.worker.0 f.6.0 c.run-worker.result.0 c.run-worker.result.1 (ap (λ x. x.3.now) c.in-Err.ensures.err)
    (ap (λ x. x.6.0) c.in-Err.ensures.err) c.run-worker.ensures in
    record {
      worked = changed_last table c.captures.workers.items r.result.0.items c.captures.worker c.run-worker.result r.ensures.worked kept;
      mine = r.ensures.mine;
      count = r.ensures.count;
      mine_count = r.ensures.mine_count;
    }

pub run_here-run_list-workers-requires-clause-mine : goal.run_here-run_list-workers-requires-clause-mine
run_here-run_list-workers-requires-clause-mine g t c κs within =
    all_ready_with c.args.table.now c.args.mine.items c.put.new.list.items c.args.worker c.requires.mine c.requires.one c.put.ensures.items

pub run_here-returns-clause-worked : goal.run_here-returns-clause-worked
run_here-returns-clause-worked g t c =
    let r = c.run_list-workers in
    let back = taken_back c.args.table.now c.args.mine.items c.put.new.list.items r.result.1.items c.pop.new.self.items c.args.worker c.in-Some.worker
    r.ensures.mine c.put.ensures.items c.in-Some.ensures.items in
    added c.args.table.now c.args.workers.items r.result.0.items c.with_last.result.0.items c.args.worker c.in-Some.worker r.ensures.worked back.1
    c.with_last.ensures.workers

pub run_here-returns-clause-mine : goal.run_here-returns-clause-mine
run_here-returns-clause-mine g t c =
    let r = c.run_list-workers in
    let back = taken_back c.args.table.now c.args.mine.items c.put.new.list.items r.result.1.items c.pop.new.self.items c.args.worker c.in-Some.worker
    r.ensures.mine c.put.ensures.items c.in-Some.ensures.items in
    let mine = back.0 in
    search rules

pub run_list-scoped-requires : goal.run_list-scoped-requires
run_list-scoped-requires g t c =
    let both = ready_apart c.args.table.now c.args.workers.items c.pop.new.self.items c.in-Some.worker c.in-Some.ensures.items c.requires.ready in
    let ready = both.0 in
    let one = both.1 in
    search rules
