use Rattle.std.proofs.Common.{rules, [], ◌∷◌}
use Rattle.command_words.specs.Options.{options, AnOption}
use Rattle.command_words.specs.Tables.{record_option, no_record_option, recording}
use Rattle.command_words.specs.Grammar.{job_from}
use Rattle.command_words.proofs.record.record_words.Goals as goal

pub returns-in_err-image-clause-reads : goal.returns-in_err-image-clause-reads
returns-in_err-image-clause-reads c =
    let refused = c.in_err-image.ensures.refused
    (λ image log words. job_from recording (options record_option (image ∷ log ∷ []) (AnOption no_record_option) 3 words)) in
    search (rules, refused)
