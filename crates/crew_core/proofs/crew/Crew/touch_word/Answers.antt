use Rattle.std.proofs.Common.{refl, sym, subst, ◌∙◌, ap, [], Some, length, unwrap_or, append-nil}
use Rattle.rv_words.specs.declared.shared.Cause.TheVariants.{Fault}
use Rattle.device_board.specs.Recording.{answers_taken, bytes_given}
use Rattle.run_model.specs.Run.{Run}
use Rattle.crew_parts.specs.Boards.{the_machine}
use Rattle.turn_model.specs.Steps.{touches_with, console_gives}
use Rattle.crew_core.specs.declared.crew.Crew.{Crew}
use Rattle.crew_core.specs.declared.order.Order.TheVariants.{Rest}
use Rattle.crew_core.specs.Standing.{terms_of}
use Rattle.board_backing.specs.declared.backing.Backing.{Backing}
use Rattle.crew_core.specs.Does.{Does, times_taken, bytes_sent}
use Rattle.crew_core.proofs.SentBytes.{counts_calm, counts_rise}
use Rattle.crew_core.proofs.Touching.{at_some}
use Rattle.crew_core.proofs.Accessing.{touch_does, touch_fails}
use Rattle.crew_core.proofs.crew.Crew.touch_word.Goals as goal

pub returns-in-Ok-clause-does : goal.returns-in-Ok-clause-does
returns-in-Ok-clause-does g c =
    let p = at_some _ c.args.word _ c.requires.word c.in-Ok.ensures.enters in
    let q = at_some _ c.args.word _ c.requires.word c.in-Ok.ensures.given in (
      record {
        answers = answers_taken c.args.word c.args.access.store p.0;
        takes = length (bytes_given c.args.word c.args.access.store);
        times = times_taken
            c.args.word c.args.access.store c.time_for-now.result;
      },
      p.1,
      λ t. (bytes_given c.args.word c.args.access.store, refl, q t),
      c.time_for-now.ensures.times,
      λ b left st a no_more outside.
          touch_does c.args.self.now c.touch_now.new.self _ c.args.run.now c.touch_now.new.run c.args.hart c.time_for-now.result c.args.word
          c.args.access.store p.0 c.behind_touch.result b left st a (ap terms_of c.in-Ok.ensures.frame) c.time_for-now.ensures.asked outside
          (λ d sd ad. p.2 d sd ad) c.behind_touch.ensures.does,
    )

pub returns-in-Err-clause-does : goal.returns-in-Err-clause-does
returns-in-Err-clause-does g c =
    let uses = at_some _ c.args.word _ c.requires.word c.in-Err.ensures.asks in
    let before = c.in-Err.ensures.as_before in
    let closed = c.close.ensures ∙ ap (λ (z : Crew). record z { closed = Some (unwrap_or z.closed Fault) }) before.0 in (
      record { answers = []; takes = 0; times = times_taken c.args.word c.args.access.store c.time_for-now.result },
      λ t. c.in-Err.ensures.no_answer t ∙ sym (append-nil _),
      λ t. ([], refl, c.in-Err.ensures.no_byte t ∙ sym (append-nil _)),
      c.time_for-now.ensures.times,
      λ b left st a no_more outside.
          subst (λ (r : Run). Does c.args.self.now c.close.new.self r c.args.hart (Some Rest)
          (touches_with the_machine (terms_of c.args.self.now) c.args.hart c.args.word c.args.access.store b
          (console_gives c.args.word c.args.access.store b.supply)) left) (sym before.1)
          (touch_fails c.args.self.now c.close.new.self c.args.run.now c.args.hart c.time_for-now.result c.args.word c.args.access.store b left st a
          c.requires.unclosed closed uses no_more outside),
    )

pub returns-in-Ok-clause-faults : goal.returns-in-Ok-clause-faults
returns-in-Ok-clause-faults g c =
    counts_calm c.args.self.now.closed c.behind_touch.new.self.closed _ _
    (λ closed. sym (ap (λ (z : Crew). z.closed) c.in-Ok.ensures.frame) ∙ c.behind_touch.ensures.calm closed) c.in-Ok.ensures.cause.kept

pub returns-in-Ok-clause-sent : goal.returns-in-Ok-clause-sent
returns-in-Ok-clause-sent g c = λ t.
    let takes = at_some _ c.args.word _ c.requires.word c.in-Ok.ensures.given in
    let sends = at_some _ c.args.word _ c.requires.word c.in-Ok.ensures.sent in
    (bytes_given c.args.word c.args.access.store, takes t, ap (λ (z : Backing). z.devices.devices.sent) c.behind_touch.ensures.backing ∙ sends)

pub returns-in-Err-clause-faults : goal.returns-in-Err-clause-faults
returns-in-Err-clause-faults g c =
    let before = c.in-Err.ensures.as_before in
    let closed = ap (λ (z : Crew). z.closed) c.close.ensures ∙ ap (λ (z : Crew). Some (unwrap_or z.closed Fault)) before.0
    ∙ ap (λ o. Some (unwrap_or o Fault)) c.requires.unclosed in
    counts_rise c.args.self.now.closed c.close.new.self.closed _ _ c.requires.unclosed closed c.in-Err.ensures.cause.failed

pub returns-in-Err-clause-sent : goal.returns-in-Err-clause-sent
returns-in-Err-clause-sent g c = λ t.
    let before = c.in-Err.ensures.as_before in (
      [],
      c.in-Err.ensures.no_byte t ∙ sym (append-nil _),
      ap bytes_sent c.close.ensures ∙ ap bytes_sent before.0 ∙ sym (append-nil _),
    )
