use Rattle.std.proofs.Common.{◌∙◌, sym, subst, arith}
use Rattle.replay_law.specs.Laws.{first_replay}
use Rattle.replay_core.specs.Ends.{IsOutcomeOf}
use Rattle.replay_core.specs.Stories.{IsStoryOf}
use Rattle.replay_core.proofs.StagesGoOn.{somewhere_on}
use Rattle.replay_core.proofs.StoriesTold.{nobody_told, story_told}
use Rattle.replay_core.proofs.telling.story.Goals as goal

pub outcome-requires-clause-at : goal.outcome-requires-clause-at
outcome-requires-clause-at c =
    somewhere_on c.in_ok-replaying.replaying c.run_out.new.self c.run_out.ensures.on
    (c.args.image.now, (first_replay c.args.orderly c.args.image.now, c.in_ok-replaying.ensures.1))

pub returns-clause-outcome : goal.returns-clause-outcome
returns-clause-outcome c =
    let t = c.run_out.ensures.on c.args.image.now (first_replay c.args.orderly c.args.image.now) c.in_ok-replaying.ensures.1 in
    subst (λ log. IsOutcomeOf log c.args.image.now c.outcome.result) (c.run_out.ensures.log ∙ c.in_ok-replaying.ensures.0)
    (c.outcome.ensures c.args.image.now t.0 t.1)

pub returns-clause-steps : goal.returns-clause-steps
returns-clause-steps c =
    let aim = c.start-notes.ensures.aim in
    let told =
    story_told c.args.orderly c.args.image.now c.in_ok-replaying.replaying c.run_out.new.self c.start-notes.result c.run_out.new.notes
    c.in_ok-replaying.ensures (c.run_out.ensures.noted c.if-missed.false).1 c.run_out.ensures.log c.start-notes.ensures.nothing c.run_out.ensures.aim
    c.run_out.ensures.stuck in
    subst (IsStoryOf c.args.orderly c.args.image.now c.args.hart c.args.from c.args.to) (sym c.of.ensures)
    (subst (λ k. IsStoryOf c.args.orderly c.args.image.now c.args.hart c.args.from k c.run_out.new.notes.steps.items) aim.1.1
    (subst (λ k. IsStoryOf c.args.orderly c.args.image.now c.args.hart k c.start-notes.result.to c.run_out.new.notes.steps.items) aim.1.0
    (subst (λ k. IsStoryOf c.args.orderly c.args.image.now k c.start-notes.result.from c.start-notes.result.to c.run_out.new.notes.steps.items) aim.0 told)))

pub returns-clause-nobody : goal.returns-clause-nobody
returns-clause-nobody c = λ past.
    let hart = c.start-notes.ensures.aim.0 in
    c.of.ensures
    ∙ nobody_told c.args.orderly c.args.image.now c.in_ok-replaying.replaying c.run_out.new.self c.start-notes.result c.run_out.new.notes
    c.in_ok-replaying.ensures (c.run_out.ensures.noted c.if-missed.false).1 c.run_out.ensures.log c.start-notes.ensures.nothing c.run_out.ensures.aim
    (omega (arith, past, hart))
