use Rattle.std.proofs.Common.{rules, [], ◌∷◌}
use Rattle.command_words.specs.Options.{options, AnOption}
use Rattle.command_words.specs.Tables.{replay_option, no_replay_option, replaying}
use Rattle.command_words.specs.Grammar.{job_from}
use Rattle.command_words.proofs.replay.replay_words.Goals as goal

pub returns-in_err-image-clause-reads : goal.returns-in_err-image-clause-reads
returns-in_err-image-clause-reads c =
    let refused = c.in_err-image.ensures.refused
    (λ image log words. job_from replaying (options replay_option (image ∷ log ∷ []) (AnOption no_replay_option) 3 words)) in
    search (rules, refused)
