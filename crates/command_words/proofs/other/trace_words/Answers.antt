use Rattle.std.proofs.Common.{rules}
use Rattle.command_words.specs.Grammar.{moves_of}
use Rattle.command_words.proofs.other.trace_words.Goals as goal

pub returns-in_err-rest-clause-reads : goal.returns-in_err-rest-clause-reads
returns-in_err-rest-clause-reads c =
    let refused = c.in_err-rest.ensures.refused (λ image log words. moves_of words) in
    search (rules, refused)
