use Rattle.std.proofs.Common.{subst}
use Rattle.replay_core.specs.Ends.{IsOutcomeOf}
use Rattle.replay_core.specs.Stories.{IsStoryOf}
use Rattle.replay_core.specs.declared.outcome.Outcome.TheVariants as told
use Rattle.revirt_tool.proofs.Replayed.{ends_at, diverges_at}
use Rattle.revirt_tool.proofs.Told.{story_told, story_short}
use Rattle.revirt_tool.proofs.tracing.moves_told.Goals as goal

pub trace_text-requires-clause-words : goal.trace_text-requires-clause-words
trace_text-requires-clause-words c =
    let r = c.args.request.now in
    story_told c.in_ok-orderly.orderly c.args.image.now r.hart r.from r.to c.in-Ok.told.steps c.in-Ok.ensures.steps

pub trace_text-requires-clause-counts : goal.trace_text-requires-clause-counts
trace_text-requires-clause-counts c =
    let r = c.args.request.now in
    story_short c.in_ok-orderly.orderly c.args.image.now r.hart r.from r.to c.in-Ok.told.steps c.in-Ok.ensures.steps c.requires.from c.requires.to

pub returns-in-Ok-trace_text : goal.returns-in-Ok-trace_text
returns-in-Ok-trace_text c =
    let r = c.args.request.now in
    let image = c.args.image.now in
    record {
      end = c.in-Done.field-0;
      ends = (ends_at c.args.log image (record { orderly = c.in_ok-orderly.ensures.0; whole = c.requires.whole; pages = c.requires.pages }) c.in-Done.field-0
          (subst (λ l. IsOutcomeOf l image (told.Done c.in-Done.field-0)) c.in_ok-orderly.ensures.1
          (subst (λ a. IsOutcomeOf c.in_ok-orderly.orderly image a) c.in-Done.is c.in-Ok.ensures.outcome))).0;
      steps = c.in-Ok.told.steps;
      moves = subst (λ l. IsStoryOf l image r.hart r.from r.to c.in-Ok.told.steps) c.in_ok-orderly.ensures.1 c.in-Ok.ensures.steps;
      told = c.in-Ok-trace_text.ensures;
    }

pub returns : goal.returns
returns c =
    let image = c.args.image.now in
    let x = c.in-Diverged in
    diverges_at c.args.log image (record { orderly = c.in_ok-orderly.ensures.0; whole = c.requires.whole; pages = c.requires.pages }) x.hart x.count x.why x.state
    (subst (λ l. IsOutcomeOf l image (told.Diverged x.hart x.count x.why x.state)) c.in_ok-orderly.ensures.1
    (subst (λ a. IsOutcomeOf c.in_ok-orderly.orderly image a) x.is c.in-Ok.ensures.outcome))
