use Rattle.std.proofs.lemmas.Result.{IfOk-weaker}
use Rattle.revirt_tool.proofs.Samples.{no_memory_alone, same_report}
use Rattle.revirt_tool.proofs.sampling.replayed.Goals as goal

pub no_memory_in-requires : goal.no_memory_in-requires
no_memory_in-requires g c =
    no_memory_alone c.args.image.now c.requires.spelled.0 c.args.bytes.now c.requires.spelled.1
    c.in-Ok.log c.in-Ok.ensures.answer c.in-Err.ending c.in-Err.ensures

pub returns-in-Ok-outcome_of : goal.returns-in-Ok-outcome_of
returns-in-Ok-outcome_of g c =
    IfOk-weaker c.report_text.result _ _ (λ text told ended of. same_report c.args.image.now ended c.args.bytes.now of c.in-Ok.log c.in-Ok.ensures.answer
    text.items c.in-Ok-outcome_of.end c.in-Ok-outcome_of.ensures.0 told) c.report_text.ensures
