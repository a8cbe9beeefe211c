use Rattle.std.proofs.Common.{◌≡◌, ◌∙◌, sym, ap, subst, Err, arith}
use Rattle.log_entry.specs.Room.{log_without_room}
use Rattle.log_format.specs.Format.{whole}
use Rattle.log_format.specs.Answers.{Fails}
use Rattle.log_format.specs.Grammar.{log_format}
use Rattle.log_format.proofs.Exact.{whole-takes, whole-again, ok_is, err_not_ok}
use Rattle.log_format.proofs.Grammar.{log-exact}
use Rattle.log_format.proofs.Ranges.{range-from_fits}
use Rattle.log_format.proofs.Spelling.{spelling-room}
use Rattle.log_format.proofs.reading.read_log.Goals as goal

pub returns-in-Ok-clause-found : goal.returns-in-Ok-clause-found
returns-in-Ok-clause-found c =
    let taken = whole-takes 14 log_format log-exact c.args.bytes.now (log_without_room c.in-Ok.log) (λ i. omega (arith, c.type_inv.bytes i)) c.in-Ok.ensures in
    (range-from_fits c.in-Ok.log taken.1, taken.0 ∙ spelling-room c.in-Ok.log)

pub returns-in-Ok-clause-only : goal.returns-in-Ok-clause-only
returns-in-Ok-clause-only c = λ l fits e.
    ok_is (log_without_room c.in-Ok.log) (log_without_room l)
    (sym c.in-Ok.ensures ∙ ap (whole 14 log_format) (e ∙ sym (spelling-room l)) ∙ whole-again 14 log_format log-exact (log_without_room l) fits)

pub returns-in-Err-Bad-clause-only : goal.returns-in-Err-Bad-clause-only
returns-in-Err-Bad-clause-only c = λ l fits e.
    let bad : whole 14 log_format c.args.bytes.now ≡ Err (c.in-Err-Bad.left, c.in-Err-Bad.rule) =
    subst (λ z. Fails z (whole 14 log_format c.args.bytes.now)) c.in-Err-Bad.field-0-is c.in-Err-Bad.ensures in
    absurd (err_not_ok _ (log_without_room l)
    (sym bad ∙ ap (whole 14 log_format) (e ∙ sym (spelling-room l)) ∙ whole-again 14 log_format log-exact (log_without_room l) fits))
