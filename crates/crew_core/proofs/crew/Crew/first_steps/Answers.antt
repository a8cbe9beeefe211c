use Rattle.std.proofs.Common.{◌∙◌, ◌++◌, [], ap, sym, refl, append-nil}
use Rattle.turn_model.specs.Board.{Supply}
use Rattle.crew_core.proofs.Going.{nothing, something}
use Rattle.crew_core.proofs.Stepping.{stands_outside}
use Rattle.crew_core.proofs.StepOrder.{answers_so, first_rests, first_polls, first_yields, first_all}
use Rattle.crew_core.proofs.crew.Crew.first_steps.Goals as goal

pub returns-then-is_some-clause-does : goal.returns-then-is_some-clause-does
returns-then-is_some-clause-does g c =
    let order = something c.rests_where_closed-rests.result (sym c.is_some.ensures ∙ c.if-is_some.true) in (
      [],
      λ t. sym (append-nil _),
      λ b left st a times.
          answers_so _ _ _ _ _ _ _ _ (sym order.1)
          (first_rests c.args.hart c.args.self.now c.args.run.now order.0 b left times
          (answers_so _ _ _ _ _ _ _ _ order.1 (c.rests_where_closed-rests.ensures.does c.args.hart c.args.run.now b st a))),
    )

pub returns-then-is_some-2-clause-does : goal.returns-then-is_some-2-clause-does
returns-then-is_some-2-clause-does g c =
    let none = nothing c.rests_where_closed-rests.result (sym c.is_some.ensures ∙ c.if-is_some.false) in
    let order = something c.polls-polled.result (sym c.is_some-2.ensures ∙ c.if-is_some-2.true) in
    let p = c.polls-polled.ensures.does in (
      p.0,
      p.1,
      λ b left st a times.
          let rest = answers_so _ _ _ _ _ _ _ _ none (c.rests_where_closed-rests.ensures.does c.args.hart c.args.run.now b st a) in
          answers_so _ _ _ _ _ _ _ _ (sym order.1)
          (first_polls c.args.hart c.args.self.now c.args.run.now b left rest c.polls-polled.new.self c.polls-polled.new.run order.0
          (answers_so _ _ _ _ _ _ _ _ order.1 (p.2 rest.to left rest.stands rest.agrees (ap (λ (o : Supply). o.times) rest.supply ∙ times)))),
    )

pub yields-yielded-requires-clause-tied : goal.yields-yielded-requires-clause-tied
yields-yielded-requires-clause-tied g c =
    let t = c.requires.tied in
    let none = nothing c.rests_where_closed-rests.result (sym c.is_some.ensures ∙ c.if-is_some.false) in
    let p = c.polls-polled.ensures.does in
    let o : Supply = record t.0.supply { times = p.0 ++ [] } in
    let poll = p.2 (record t.0 { supply = o }) [] (stands_outside c.args.self.now t.0 o t.1) t.2 refl in
    (poll.to, poll.stands, poll.agrees)

pub yields-yielded-requires-clause-room : goal.yields-yielded-requires-clause-room
yields-yielded-requires-clause-room g c = c.polls-polled.ensures.room 11 c.requires.room

pub returns-then-is_some-3-clause-does : goal.returns-then-is_some-3-clause-does
returns-then-is_some-3-clause-does g c =
    let none = nothing c.rests_where_closed-rests.result (sym c.is_some.ensures ∙ c.if-is_some.false) in
    let no_poll = nothing c.polls-polled.result (sym c.is_some-2.ensures ∙ c.if-is_some-2.false) in
    let order = something c.yields-yielded.result (sym c.is_some-3.ensures ∙ c.if-is_some-3.true) in
    let p = c.polls-polled.ensures.does in (
      p.0,
      p.1,
      λ b left st a times.
          let rest = answers_so _ _ _ _ _ _ _ _ none (c.rests_where_closed-rests.ensures.does c.args.hart c.args.run.now b st a) in
          let poll = answers_so _ _ _ _ _ _ _ _ no_poll (p.2 rest.to left rest.stands rest.agrees (ap (λ (o : Supply). o.times) rest.supply ∙ times)) in
          answers_so _ _ _ _ _ _ _ _ (sym order.1)
          (first_yields c.args.hart c.args.self.now c.args.run.now b left rest c.polls-polled.new.self c.polls-polled.new.run poll
          c.yields-yielded.new.self c.yields-yielded.new.run order.0
          (answers_so _ _ _ _ _ _ _ _ order.1 (c.yields-yielded.ensures.does poll.to poll.stands poll.agrees))),
    )

pub returns-clause-does : goal.returns-clause-does
returns-clause-does g c =
    let none = nothing c.rests_where_closed-rests.result (sym c.is_some.ensures ∙ c.if-is_some.false) in
    let no_poll = nothing c.polls-polled.result (sym c.is_some-2.ensures ∙ c.if-is_some-2.false) in
    let no_yield = nothing c.yields-yielded.result (sym c.is_some-3.ensures ∙ c.if-is_some-3.false) in
    let p = c.polls-polled.ensures.does in (
      p.0,
      p.1,
      λ b left st a times.
          let rest = answers_so _ _ _ _ _ _ _ _ none (c.rests_where_closed-rests.ensures.does c.args.hart c.args.run.now b st a) in
          let poll = answers_so _ _ _ _ _ _ _ _ no_poll (p.2 rest.to left rest.stands rest.agrees (ap (λ (o : Supply). o.times) rest.supply ∙ times)) in
          let yield = answers_so _ _ _ _ _ _ _ _ no_yield (c.yields-yielded.ensures.does poll.to poll.stands poll.agrees) in
          first_all c.args.hart c.args.self.now c.args.run.now b left rest c.polls-polled.new.self c.polls-polled.new.run poll
          c.yields-yielded.new.self c.yields-yielded.new.run c.rests_at_limit.result yield
          (c.rests_at_limit.ensures.does c.args.hart yield.to yield.stands yield.agrees),
    )
