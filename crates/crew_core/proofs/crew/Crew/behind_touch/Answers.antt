use Rattle.std.proofs.Common.{rules, ◌≡◌, false, true, eq-eqb, sym, ap, ◌∙◌}
use Rattle.std.specs.Prelude.{is_some}
use Rattle.rv_words.specs.declared.shared.Cause.TheVariants.{Stop}
use Rattle.crew_core.specs.declared.crew.Crew.{Crew}
use Rattle.crew_core.proofs.SentBytes.{calm_close, no_stop}
use Rattle.crew_core.proofs.Accessing.{favour_passed, stopped}
use Rattle.crew_core.proofs.crew.Crew.behind_touch.Goals as goal

pub returns-then-hart-self-clause-does : goal.returns-then-hart-self-clause-does
returns-then-hart-self-clause-does c = λ r b st a.
    let stop : is_some c.args.self.now.backing.devices.devices.stop ≡ false = search rules in
    favour_passed c.args.self.now r c.args.hart b st a c.requires.hart stop (eq-eqb c.args.hart c.args.self.now.favoured c.if-hart-self.true)

pub returns-then-is_some-clause-does : goal.returns-then-is_some-clause-does
returns-then-is_some-clause-does c = λ r b st a.
    let stop : is_some c.args.self.now.backing.devices.devices.stop ≡ true = search rules in
    stopped c.args.self.now c.close.new.self r c.args.hart b st a stop c.close.ensures

pub returns-then-is_some-clause-calm : goal.returns-then-is_some-clause-calm
returns-then-is_some-clause-calm c = λ closed. calm_close c.args.self.now.closed Stop no_stop (sym (ap (λ (z : Crew). z.closed) c.close.ensures) ∙ closed)
