use Rattle.std.proofs.Common.{rules, ◌≡◌, sym, ◌∙◌, ap, subst, true, false, [], ◌∷◌, append-nil}
use Rattle.run_model.specs.Agreement.{Agrees}
use Rattle.crew_core.specs.Standing.{terms_of}
use Rattle.crew_core.proofs.Polling.{none_due, due_fills, due_polls}
use Rattle.crew_core.proofs.crew.Crew.polls.Goals as goal

pub returns-then-not-is_due-clause-does : goal.returns-then-not-is_due-clause-does
returns-then-not-is_due-clause-does g c =
    let due : c.is_due.result ≡ false = search rules in (
      [],
      λ tells. sym (append-nil _),
      λ b left st a times. none_due c.args.self.now c.args.run.now c.args.hart b left st a
          (sym (c.is_due.ensures.model b st a) ∙ due) times,
    )

pub returns-then-not-has_room-clause-does : goal.returns-then-not-has_room-clause-does
returns-then-not-has_room-clause-does g c =
    let due : c.is_due.result ≡ true = search rules in
    let room : c.has_room.result ≡ false = search rules in (
      [],
      λ tells. sym (append-nil _),
      λ b left st a times. due_fills c.args.self.now _ c.args.run.now c.args.hart b left st a
          (sym (c.is_due.ensures.model b st a) ∙ due) (sym c.has_room.ensures ∙ room) c.close.ensures times,
    )

pub returns-clause-does : goal.returns-clause-does
returns-clause-does g c =
    let due : c.is_due.result ≡ true = search rules in
    let room : c.has_room.result ≡ true = search rules in
    let p = c.poll_now.ensures.enters in (
      p.0 ∷ [],
      p.1,
      λ b left st a times.
          due_polls c.args.self.now _ c.args.run.now _ c.args.hart p.0 b left st (sym (c.is_due.ensures.model b st a) ∙ due) (sym c.has_room.ensures ∙ room)
          (ap terms_of c.poll_now.ensures.frame) times
          (λ d sd same. p.2 d sd (subst (Agrees c.args.run.now c.args.hart) (sym same) a)),
    )
