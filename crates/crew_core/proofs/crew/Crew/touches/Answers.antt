use Rattle.std.proofs.Common.{rules, ◌≡◌, ◌∙◌, sym, refl, [], None, true, false, append-nil, ap}
use Rattle.run_model.specs.declared.asked.Ahead.TheVariants.{AtDevice}
use Rattle.rv_words.specs.Addresses.{device_word}
use Rattle.crew_core.proofs.Dispatching.{no_device, no_touch, no_word, full_touch, touch_there}
use Rattle.rv_words.specs.declared.shared.Cause.TheVariants.{Full}
use Rattle.crew_core.specs.declared.crew.Crew.{Crew}
use Rattle.crew_core.specs.Does.{bytes_sent}
use Rattle.crew_core.proofs.SentBytes.{counts_calm, sends_nothing, calm_close, no_full}
use Rattle.crew_core.proofs.Machine.{asks_here}
use Rattle.crew_core.proofs.crew.Crew.touches.Goals as goal

pub returns-in_default-clause-does : goal.returns-in_default-clause-does
returns-in_default-clause-does g c = (
  record { answers = []; takes = 0; times = [] },
  λ t. sym (append-nil _),
  λ t. ([], refl, sym (append-nil _)),
  λ t. sym (append-nil _),
  λ b left st a no_more outside. no_touch c.args.self.now c.args.run.now c.args.hart b left st a (no_device c.ahead.result _ _
      (λ page mode e. c.requires.held page mode (sym c.ahead.ensures.ahead ∙ e)) c.in_default.not-AtDevice
      (asks_here c.args.self.now c.args.run.now c.args.hart c.ahead.result b st a c.ahead.ensures.agrees)) outside,
)

pub returns-in_default-device_word-clause-does : goal.returns-in_default-device_word-clause-does
returns-in_default-device_word-clause-does g c =
    let none : device_word c.args.self.now.harts c.in-AtDevice.access.at ≡ None = search rules in (
      record { answers = []; takes = 0; times = [] },
      λ t. sym (append-nil _),
      λ t. ([], refl, sym (append-nil _)),
      λ t. sym (append-nil _),
      λ b left st a no_more outside. no_word c.args.self.now c.args.run.now c.args.hart c.in-AtDevice.access b left st a
          (asks_here c.args.self.now c.args.run.now c.args.hart (AtDevice c.in-AtDevice.access) b st a c.in-AtDevice.ensures.agrees).1 none outside,
    )

pub returns-then-not-has_room-clause-does : goal.returns-then-not-has_room-clause-does
returns-then-not-has_room-clause-does g c =
    let room : c.has_room.result ≡ false = search rules in (
      record { answers = []; takes = 0; times = [] },
      λ t. sym (append-nil _),
      λ t. ([], refl, sym (append-nil _)),
      λ t. sym (append-nil _),
      λ b left st a no_more outside.
          full_touch c.args.self.now _ c.args.run.now c.args.hart c.in-AtDevice.access c.in-Some.word b left st a
          (asks_here c.args.self.now c.args.run.now c.args.hart (AtDevice c.in-AtDevice.access) b st a c.in-AtDevice.ensures.agrees).1
          (sym c.in-Some.ensures.word) (sym c.has_room.ensures ∙ room) c.close.ensures outside,
    )

pub returns-clause-does : goal.returns-clause-does
returns-clause-does g c =
    let room : c.has_room.result ≡ true = search rules in
    let d = c.touch_word.ensures.does in (
      d.0,
      d.1,
      d.2,
      d.3,
      λ b left st a no_more outside.
          touch_there c.args.self.now _ c.args.run.now _ c.args.hart c.in-AtDevice.access c.in-Some.word b left c.touch_word.result st
          (asks_here c.args.self.now c.args.run.now c.args.hart (AtDevice c.in-AtDevice.access) b st a c.in-AtDevice.ensures.agrees).1
          (sym c.in-Some.ensures.word) (sym c.has_room.ensures ∙ room) (d.4 b left st a no_more outside),
    )

pub returns-in_default-clause-faults : goal.returns-in_default-clause-faults
returns-in_default-clause-faults g c = counts_calm c.args.self.now.closed c.args.self.now.closed _ _ (λ closed. closed) refl

pub returns-in_default-clause-sent : goal.returns-in_default-clause-sent
returns-in_default-clause-sent g c = sends_nothing c.args.self.now c.args.self.now (g.C.Console.seen c.args.console.now) refl

pub returns-in_default-device_word-clause-faults : goal.returns-in_default-device_word-clause-faults
returns-in_default-device_word-clause-faults g c = counts_calm c.args.self.now.closed c.args.self.now.closed _ _ (λ closed. closed) refl

pub returns-in_default-device_word-clause-sent : goal.returns-in_default-device_word-clause-sent
returns-in_default-device_word-clause-sent g c = sends_nothing c.args.self.now c.args.self.now (g.C.Console.seen c.args.console.now) refl

pub returns-then-not-has_room-clause-faults : goal.returns-then-not-has_room-clause-faults
returns-then-not-has_room-clause-faults g c =
    counts_calm c.args.self.now.closed c.close.new.self.closed _ _
    (λ closed. calm_close c.args.self.now.closed Full no_full (sym (ap (λ (z : Crew). z.closed) c.close.ensures) ∙ closed)) refl

pub returns-then-not-has_room-clause-sent : goal.returns-then-not-has_room-clause-sent
returns-then-not-has_room-clause-sent g c = sends_nothing c.args.self.now c.close.new.self (g.C.Console.seen c.args.console.now) (ap bytes_sent c.close.ensures)
