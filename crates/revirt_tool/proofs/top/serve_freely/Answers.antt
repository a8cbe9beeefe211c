use Rattle.command_words.specs.Texts.{texts}
use Rattle.std.proofs.Common.{Some, sym, ap, ap₂, subst, ◌∙◌}
use Rattle.crew_parts.specs.Boards.{world}
use Rattle.revirt_tool.specs.Tasks.{wish_by, replay_by, trace_by, task_by, IsAllowed}
use Rattle.revirt_tool.proofs.Wishes.{fetches, runs_free, fetches_log, fetches_image, ends_as, replays_as, traces_as, lists_as, samples_as}
use Rattle.revirt_tool.proofs.top.serve_freely.Goals as goal

pub record_freely-requires-clause-has : goal.record_freely-requires-clause-has
record_freely-requires-clause-has g c = λ _ _.
    let x = c.in-Ok-Record in
    c.requires.has _ (fetches (texts c.args.words.now) (wish_by x.request) (x.ensures.task ∙ ap (λ a. Some (task_by a)) x.field-0-is))

pub record_freely-requires-clause-allowed : goal.record_freely-requires-clause-allowed
record_freely-requires-clause-allowed g c = λ _ _. let x = c.in-Ok-Record in subst IsAllowed x.field-0-is x.ensures.allowed

pub record_freely-requires-clause-free : goal.record_freely-requires-clause-free
record_freely-requires-clause-free g c = λ _ _.
    let x = c.in-Ok-Record in
    sym (runs_free (texts c.args.words.now) (wish_by x.request) (x.ensures.task ∙ ap (λ a. Some (task_by a)) x.field-0-is)) ∙ c.requires.free

pub returns-in-Ok-Record-clause-ends : goal.returns-in-Ok-Record-clause-ends
returns-in-Ok-Record-clause-ends g c =
    let x = c.in-Ok-Record in
    ends_as (texts c.args.words.now) (wish_by x.request) _ _ _ _ c.record_freely.result.ending
    (x.ensures.task ∙ ap (λ a. Some (task_by a)) x.field-0-is) c.record_freely.ensures.records

pub returns-in-Ok-Record-clause-as_handed_in : goal.returns-in-Ok-Record-clause-as_handed_in
returns-in-Ok-Record-clause-as_handed_in g c = λ asks_none.
    let x = c.in-Ok-Record in
    absurd (asks_none (wish_by x.request) (x.ensures.task ∙ ap (λ a. Some (task_by a)) x.field-0-is))

pub replay_freely-requires-clause-log : goal.replay_freely-requires-clause-log
replay_freely-requires-clause-log g c = λ _ _.
    let x = c.in-Ok-Replay in
    c.requires.has _ (fetches_log (texts c.args.words.now) (replay_by x.request) (x.ensures.task ∙ ap (λ a. Some (task_by a)) x.field-0-is))

pub replay_freely-requires-clause-image : goal.replay_freely-requires-clause-image
replay_freely-requires-clause-image g c = λ _ _.
    let x = c.in-Ok-Replay in
    c.requires.has _ (fetches_image (texts c.args.words.now) (replay_by x.request) (x.ensures.task ∙ ap (λ a. Some (task_by a)) x.field-0-is))

pub returns-in-Ok-Replay-clause-ends : goal.returns-in-Ok-Replay-clause-ends
returns-in-Ok-Replay-clause-ends g c =
    let x = c.in-Ok-Replay in
    replays_as (texts c.args.words.now) (replay_by x.request) _ _ _ _ c.replay_freely.result.ending (x.ensures.task ∙ ap (λ a. Some (task_by a)) x.field-0-is)
    c.replay_freely.ensures.replays
    (ap₂ (λ a b. world (g.C.Console.seen a) (g.K.Clock.seen b)) c.replay_freely.ensures.console c.replay_freely.ensures.clock)
