use Rattle.free_run.proofs.Pairing.{begin_all, led_out, on_record_out}
use Rattle.free_run.proofs.free.run_all.Goals as goal

pub run_list-workers-requires-clause-ready : goal.run_list-workers-requires-clause-ready
run_list-workers-requires-clause-ready g c κs within =
    begin_all c.args.table.now c.pair-workers.result.items c.args.passes.now.items c.args.runs.now.items c.pair-workers.ensures.passes
    c.pair-workers.ensures.jobs c.requires.ready

pub returns-clause-led : goal.returns-clause-led
returns-clause-led g c =
    led_out c.args.table.now c.pair-workers.result.items c.run_list-workers.result.0.items c.args.passes.now.items c.unpair.new.passes.items
    c.pair-workers.ensures.passes c.unpair.ensures.passes c.run_list-workers.ensures.worked

pub returns-clause-runs : goal.returns-clause-runs
returns-clause-runs g c = λ none.
    on_record_out c.args.table.now c.pair-workers.result.items c.run_list-workers.result.0.items c.unpair.new.passes.items c.unpair.new.runs.items
    c.unpair.ensures.passes c.unpair.ensures.runs c.run_list-workers.ensures.worked (c.unpair.ensures.refused none)
