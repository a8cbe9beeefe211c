use Rattle.std.proofs.Common.{◌∙◌, refl, sym, ap, [], append-nil}
use Rattle.device_board.specs.State.{DevicesWithRoom}
use Rattle.crew_core.specs.Calls.{last_of}
use Rattle.crew_core.proofs.SentBytes.{counts_calm, counts_behind, sends_nothing, sends_behind, gains_calm}
use Rattle.crew_core.proofs.Dispatching.{nothing_given, all_left}
use Rattle.crew_core.proofs.Sequence.{tie}
use Rattle.crew_core.proofs.StepOrder.{relabel, last_gains, last_pass}
use Rattle.crew_core.proofs.crew.Crew.last_steps.Goals as goal

pub returns-in-Some-clause-does : goal.returns-in-Some-clause-does
returns-in-Some-clause-does g c = (
  nothing_given,
  λ t. sym (append-nil _),
  λ t. ([], refl, sym (append-nil _)),
  λ t. sym (append-nil _),
  λ b left st a no_more outside.
      relabel c.args.self.now _ _ c.args.hart _ (last_of c.args.self.now c.args.hart b) b.supply left (all_left b.supply left outside)
      (last_gains c.args.hart c.args.self.now _ _ c.in-Some.order b (c.in-Some.ensures.does b st a)),
)

pub device_steps-requires-clause-tied : goal.device_steps-requires-clause-tied
device_steps-requires-clause-tied g c =
    let t = c.requires.tied in
    let gain = c.in-None.ensures.does t.0 t.1 t.2 in
    λ κs l. tie _ _ _ gain.to gain.stands gain.agrees

pub returns-in-None-clause-does : goal.returns-in-None-clause-does
returns-in-None-clause-does g c =
    let d = c.device_steps.ensures.does in (
      d.0,
      d.1,
      d.2,
      d.3,
      λ b left st a no_more outside.
          let gain = c.in-None.ensures.does b st a in
          last_pass c.args.hart c.args.self.now _ _ _ _ _ b left gain (d.4 gain.to left gain.stands gain.agrees no_more (gain.supply ∙ outside)),
    )

pub returns-in-Some-clause-faults : goal.returns-in-Some-clause-faults
returns-in-Some-clause-faults g c =
    let t = c.requires.tied in
    counts_calm c.args.self.now.closed c.gains.new.self.closed _ _
    (gains_calm c.args.self.now c.gains.new.self c.gains.new.run c.args.hart c.in-Some.order t.0 t.0.supply t.1 (c.in-Some.ensures.does t.0 t.1 t.2)) refl

pub returns-in-Some-clause-sent : goal.returns-in-Some-clause-sent
returns-in-Some-clause-sent g c =
    sends_nothing c.args.self.now c.gains.new.self (g.C.Console.seen c.args.console.now)
    (ap (λ (d : DevicesWithRoom). d.devices.sent) c.in-Some.ensures.devices)

pub returns-in-None-clause-faults : goal.returns-in-None-clause-faults
returns-in-None-clause-faults g c =
    counts_behind c.args.self.now.closed c.gains.new.self.closed c.device_steps.new.self.closed _ _ (c.in-None.ensures.closed refl)
    c.device_steps.ensures.faults

pub returns-in-None-clause-sent : goal.returns-in-None-clause-sent
returns-in-None-clause-sent g c =
    sends_behind c.args.self.now c.gains.new.self c.device_steps.new.self (g.C.Console.seen c.args.console.now) (g.C.Console.seen c.device_steps.new.console)
    (ap (λ (d : DevicesWithRoom). d.devices.sent) c.in-None.ensures.devices)
    c.device_steps.ensures.sent
