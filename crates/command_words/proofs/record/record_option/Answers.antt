use Rattle.std.proofs.Common.{rules, ◌≡◌, [], ◌∷◌, string_bytes, Some}
use Rattle.command_words.specs.Texts.{texts}
use Rattle.command_words.specs.Options.{ANumber, AName, once}
use Rattle.command_words.specs.Tables.{record_option}
use Rattle.command_words.proofs.OptionValues.{number_refused, name_refused}
use Rattle.command_words.proofs.record.record_option.Goals as goal

pub returns-in_err-number_behind-in-text-3-clause-reads : goal.returns-in_err-number_behind-in-text-3-clause-reads
returns-in_err-number_behind-in-text-3-clause-reads c =
    let row : record_option c.args.given (string_bytes c.args.option.now)
    ≡ once c.is_some-in-text-3.result (ANumber 0 1000000000000 (λ n. record c.args.given { limit = Some n })) = search rules in
    let refused =
    number_refused record_option (string_bytes c.args.image.now ∷ string_bytes c.args.log.now ∷ []) c.args.given c.args.place
    (string_bytes c.args.option.now) (texts c.args.words.now) c.is_some-in-text-3.result 0 1000000000000
    (λ n. record c.args.given { limit = Some n }) _ row c.in_err-number_behind-in-text-3.ensures.value in
    search (rules, refused)

pub returns-in_err-number_behind-in-text-4-clause-reads : goal.returns-in_err-number_behind-in-text-4-clause-reads
returns-in_err-number_behind-in-text-4-clause-reads c =
    let row : record_option c.args.given (string_bytes c.args.option.now)
    ≡ once c.is_some-again.result (ANumber 1024 536870912 (λ n. record c.args.given { log_limit = Some n })) = search rules in
    let refused =
    number_refused record_option (string_bytes c.args.image.now ∷ string_bytes c.args.log.now ∷ []) c.args.given c.args.place
    (string_bytes c.args.option.now) (texts c.args.words.now) c.is_some-again.result 1024 536870912
    (λ n. record c.args.given { log_limit = Some n }) _ row c.in_err-number_behind-in-text-4.ensures.value in
    search (rules, refused)

pub returns-in_err-name_behind-in-text-5-clause-reads : goal.returns-in_err-name_behind-in-text-5-clause-reads
returns-in_err-name_behind-in-text-5-clause-reads c =
    let row : record_option c.args.given (string_bytes c.args.option.now)
    ≡ once c.is_some-in-text-5.result (AName (λ place. record c.args.given { dump = Some place })) = search rules in
    let refused =
    name_refused record_option (string_bytes c.args.image.now ∷ string_bytes c.args.log.now ∷ []) c.args.given c.args.place
    (string_bytes c.args.option.now) (texts c.args.words.now) c.is_some-in-text-5.result
    (λ place. record c.args.given { dump = Some place }) _ row c.in_err-name_behind-in-text-5.ensures.value in
    search (rules, refused)
