use Rattle.command_words.specs.Texts.{texts}
use Rattle.std.proofs.Common.{Some, sym, ap, ap₂, subst, ◌∙◌}
use Rattle.crew_parts.specs.Boards.{world}
use Rattle.revirt_tool.specs.Tasks.{wish_by, replay_by, trace_by, task_by, IsAllowed}
use Rattle.revirt_tool.proofs.Wishes.{fetches, runs_free, fetches_log, fetches_image, ends_as, replays_as, traces_as, lists_as, samples_as}
use Rattle.revirt_tool.proofs.top.serve.Goals as goal

pub record-requires-clause-has : goal.record-requires-clause-has
record-requires-clause-has g c = λ _ _.
    let x = c.in-Ok-Record in
    c.requires.has _ (fetches (texts c.args.words.now) (wish_by x.request) (x.ensures.task ∙ ap (λ a. Some (task_by a)) x.field-0-is))

pub record-requires-clause-allowed : goal.record-requires-clause-allowed
record-requires-clause-allowed g c = λ _ _. let x = c.in-Ok-Record in subst IsAllowed x.field-0-is x.ensures.allowed

pub record-requires-clause-rounds : goal.record-requires-clause-rounds
record-requires-clause-rounds g c = λ _ _.
    let x = c.in-Ok-Record in
    sym (runs_free (texts c.args.words.now) (wish_by x.request) (x.ensures.task ∙ ap (λ a. Some (task_by a)) x.field-0-is)) ∙ c.requires.still

pub returns-in-Ok-Record-clause-ends : goal.returns-in-Ok-Record-clause-ends
returns-in-Ok-Record-clause-ends g c =
    let x = c.in-Ok-Record in
    ends_as (texts c.args.words.now) (wish_by x.request) _ _ _ _ c.record.result.ending
    (x.ensures.task ∙ ap (λ a. Some (task_by a)) x.field-0-is) c.record.ensures.records

pub returns-in-Ok-Record-clause-as_handed_in : goal.returns-in-Ok-Record-clause-as_handed_in
returns-in-Ok-Record-clause-as_handed_in g c = λ asks_none.
    let x = c.in-Ok-Record in
    absurd (asks_none (wish_by x.request) (x.ensures.task ∙ ap (λ a. Some (task_by a)) x.field-0-is))

pub replay-requires-clause-log : goal.replay-requires-clause-log
replay-requires-clause-log g c = λ _ _.
    let x = c.in-Ok-Replay in
    c.requires.has _ (fetches_log (texts c.args.words.now) (replay_by x.request) (x.ensures.task ∙ ap (λ a. Some (task_by a)) x.field-0-is))

pub replay-requires-clause-image : goal.replay-requires-clause-image
replay-requires-clause-image g c = λ _ _.
    let x = c.in-Ok-Replay in
    c.requires.has _ (fetches_image (texts c.args.words.now) (replay_by x.request) (x.ensures.task ∙ ap (λ a. Some (task_by a)) x.field-0-is))

pub returns-in-Ok-Replay-clause-ends : goal.returns-in-Ok-Replay-clause-ends
returns-in-Ok-Replay-clause-ends g c =
    let x = c.in-Ok-Replay in
    replays_as (texts c.args.words.now) (replay_by x.request) _ _ _ _ c.replay.result.ending (x.ensures.task ∙ ap (λ a. Some (task_by a)) x.field-0-is)
    c.replay.ensures.replays
    (ap₂ (λ a b. world (g.C.Console.seen a) (g.K.Clock.seen b)) c.replay.ensures.console c.replay.ensures.clock)

pub returns-in-Ok-Trace-clause-ends : goal.returns-in-Ok-Trace-clause-ends
returns-in-Ok-Trace-clause-ends g c =
    let x = c.in-Ok-Trace in
    traces_as (texts c.args.words.now) (trace_by x.request) _ _ _ _ c.trace.result.ending (x.ensures.task ∙ ap (λ a. Some (task_by a)) x.field-0-is)
    c.trace.ensures.traces
    (ap₂ (λ a b. world (g.C.Console.seen a) (g.K.Clock.seen b)) c.trace.ensures.console c.trace.ensures.clock)

pub returns-in-Ok-Inspect-clause-ends : goal.returns-in-Ok-Inspect-clause-ends
returns-in-Ok-Inspect-clause-ends g c =
    let x = c.in-Ok-Inspect in
    lists_as (texts c.args.words.now) x.log.now _ _ _ _ c.inspect.result.ending (x.ensures.task ∙ ap (λ a. Some (task_by a)) x.field-0-is)
    c.inspect.ensures.lists
    (ap₂ (λ a b. world (g.C.Console.seen a) (g.K.Clock.seen b)) c.inspect.ensures.console c.inspect.ensures.clock)

pub returns-in-Ok-Sample-clause-ends : goal.returns-in-Ok-Sample-clause-ends
returns-in-Ok-Sample-clause-ends g c =
    let x = c.in-Ok-Sample in
    samples_as (texts c.args.words.now) x.number _ _ _ c.sample.result.ending (x.ensures.task ∙ ap (λ a. Some (task_by a)) x.field-0-is)
    c.sample.ensures.samples
    (ap₂ (λ a b. world (g.C.Console.seen a) (g.K.Clock.seen b)) c.sample.ensures.console c.sample.ensures.clock)
