use Rattle.std.proofs.Common.{◌≡◌, ◌++◌, ◌+◌, ◌∙◌, ap, sym, refl, arith, [], Some, append-nil}
use Rattle.std.proofs.lemmas.List.{append_assoc}
use Rattle.turn_model.specs.Board.{Supply}
use Rattle.crew_core.specs.Calls.{all_of}
use Rattle.crew_core.proofs.Stepping.{stands_outside}
use Rattle.crew_core.proofs.Resting.{under}
use Rattle.crew_core.proofs.Sequence.{tie}
use Rattle.crew_core.proofs.SentBytes.{counts_calm, counts_behind, sends_nothing, sends_behind, first_calm}
use Rattle.crew_core.proofs.StepOrder.{all_first, all_last, relabel, times_given}
use Rattle.crew_core.proofs.crew.Crew.steps.Goals as goal

pub returns-in-Some-clause-does : goal.returns-in-Some-clause-does
returns-in-Some-clause-does g c =
    let d = c.in-Some.ensures.does in (
      record { answers = []; takes = 0; times = d.0 },
      λ t. sym (append-nil _),
      λ t. ([], refl, sym (append-nil _)),
      d.1,
      λ b left st a no_more outside.
          relabel c.args.self.now _ _ c.args.hart (Some c.in-Some.order) (all_of c.args.self.now c.args.hart b) (record b.supply { times = left.times }) left
          (times_given b.supply left d.0 outside)
          (all_first c.args.hart c.args.self.now _ _ c.in-Some.order b (record b.supply { times = left.times })
          (d.2 b left.times st a (ap (λ (z : Supply). z.times) outside))),
    )

pub last_steps-requires-clause-tied : goal.last_steps-requires-clause-tied
last_steps-requires-clause-tied g c =
    let t = c.requires.tied in
    let d = c.in-None.ensures.does in
    let o : Supply = record t.0.supply { times = d.0 ++ [] } in
    let first = d.2 (record t.0 { supply = o }) [] (stands_outside c.args.self.now t.0 o t.1) t.2 refl in
    λ κs l. tie _ _ _ first.to first.stands first.agrees

pub returns-in-None-clause-does : goal.returns-in-None-clause-does
returns-in-None-clause-does g c =
    let d = c.in-None.ensures.does in
    let e = c.last_steps.ensures.does in (
      record { answers = e.0.answers; takes = e.0.takes; times = d.0 ++ e.0.times },
      e.1,
      e.2,
      λ t. e.3 t ∙ ap (λ xs. xs ++ e.0.times) (d.1 (c.last_steps.ensures.tells_times t)) ∙ append_assoc _ d.0 e.0.times,
      λ b left st a no_more outside.
          let times : b.supply.times ≡ d.0 ++ (e.0.times ++ left.times) = ap (λ (z : Supply). z.times) outside ∙ append_assoc d.0 e.0.times left.times in
          let first = d.2 b (e.0.times ++ left.times) st a times in
          let between : first.to.supply ≡ record { answers = e.0.answers ++ left.answers; takes = e.0.takes + left.takes; times = e.0.times ++ left.times } =
          first.supply ∙ ap (λ (z : Supply). record z { times = e.0.times ++ left.times }) outside in
          all_last c.args.hart c.args.self.now _ _ _ _ _ b _ left first (e.4 first.to left first.stands first.agrees no_more between),
    )

pub last_steps-requires-clause-below : goal.last_steps-requires-clause-below
last_steps-requires-clause-below g c = λ κs l.
    let count = c.in-None.ensures.count in
    let limit = c.in-None.ensures.limit in
    under c.first_steps.new.run.count c.first_steps.new.self.limit (c.in-None.ensures.below refl) (omega (arith, count, limit, c.requires.within))

pub last_steps-requires-clause-count : goal.last_steps-requires-clause-count
last_steps-requires-clause-count g c = λ κs l.
    let count = c.in-None.ensures.count in
    let limit = c.in-None.ensures.limit in
    let bound = c.in-None.ensures.bound refl in
    let below = under c.first_steps.new.run.count c.first_steps.new.self.limit (c.in-None.ensures.below refl)
    (omega (arith, count, limit, c.requires.within)) in
    omega (arith, below, bound)

pub returns-in-Some-clause-faults : goal.returns-in-Some-clause-faults
returns-in-Some-clause-faults g c =
    let t = c.requires.tied in
    let d = c.in-Some.ensures.does in
    let o : Supply = record t.0.supply { times = d.0 ++ [] } in
    let st = stands_outside c.args.self.now t.0 o t.1 in
    counts_calm c.args.self.now.closed c.first_steps.new.self.closed _ _
    (first_calm c.args.self.now c.first_steps.new.self c.first_steps.new.run c.args.hart c.in-Some.order (record t.0 { supply = o }) (record o { times = [] })
    st
    (d.2 (record t.0 { supply = o }) [] st t.2 refl)) refl

pub returns-in-Some-clause-sent : goal.returns-in-Some-clause-sent
returns-in-Some-clause-sent g c = sends_nothing c.args.self.now c.first_steps.new.self (g.C.Console.seen c.args.console.now) c.in-Some.ensures.sent

pub returns-in-None-clause-faults : goal.returns-in-None-clause-faults
returns-in-None-clause-faults g c =
    counts_behind c.args.self.now.closed c.first_steps.new.self.closed c.last_steps.new.self.closed _ _ (c.in-None.ensures.closed refl)
    c.last_steps.ensures.faults

pub returns-in-None-clause-sent : goal.returns-in-None-clause-sent
returns-in-None-clause-sent g c = sends_behind c.args.self.now c.first_steps.new.self c.last_steps.new.self (g.C.Console.seen c.args.console.now)
    (g.C.Console.seen c.last_steps.new.console)
    c.in-None.ensures.sent c.last_steps.ensures.sent
