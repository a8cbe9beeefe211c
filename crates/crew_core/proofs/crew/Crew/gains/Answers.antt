use Rattle.std.proofs.Common.{◌∙◌, sym, arith}
use Rattle.run_model.specs.declared.asked.Ahead.TheVariants.{Wants}
use Rattle.crew_core.proofs.Going.{nothing, something}
use Rattle.crew_core.proofs.Needing.{gains_nothing, gains_stop, gains_first, gains_both, want_tells, lacks_run, no_want, gains_leave_none, not_wanting}
use Rattle.crew_core.proofs.Machine.{asks_here}
use Rattle.crew_core.proofs.crew.Crew.gains.Goals as goal

pub returns-in_default-clause-does : goal.returns-in_default-clause-does
returns-in_default-clause-does c = λ b st a. gains_nothing c.args.self.now c.args.run.now c.args.hart b st a
    (no_want c.ahead.result _ _ c.in_default.not-Wants (asks_here c.args.self.now c.args.run.now c.args.hart c.ahead.result b st a c.ahead.ensures.agrees))

pub gains_page-order-requires-clause-page : goal.gains_page-order-requires-clause-page
gains_page-order-requires-clause-page c =
    let t = c.requires.tied in (want_tells c.args.self.now t.0 c.args.hart (c.in-Wants.page, c.in-Wants.mode) t.1
    (asks_here c.args.self.now c.args.run.now c.args.hart (Wants c.in-Wants.page c.in-Wants.mode) t.0 t.1 t.2 c.in-Wants.ensures.agrees)).0

pub gains_page-order-requires-clause-lacks : goal.gains_page-order-requires-clause-lacks
gains_page-order-requires-clause-lacks c =
    let t = c.requires.tied in
    lacks_run c.args.run.now t.0 c.args.hart (c.in-Wants.page, c.in-Wants.mode) t.2 (want_tells c.args.self.now t.0 c.args.hart
    (c.in-Wants.page, c.in-Wants.mode) t.1 (asks_here c.args.self.now c.args.run.now c.args.hart (Wants c.in-Wants.page c.in-Wants.mode) t.0 t.1 t.2
    c.in-Wants.ensures.agrees)).1

pub returns-then-is_some-clause-does : goal.returns-then-is_some-clause-does
returns-then-is_some-clause-does c = λ b st a.
    let order = something c.gains_page-order.result (sym c.is_some.ensures ∙ c.if-is_some.true) in
    gains_stop c.args.self.now _ c.args.run.now _ c.args.hart (c.in-Wants.page, c.in-Wants.mode) b order.0 c.gains_page-order.result order.1
    (asks_here c.args.self.now c.args.run.now c.args.hart (Wants c.in-Wants.page c.in-Wants.mode) b st a c.in-Wants.ensures.agrees)
    (c.gains_page-order.ensures.does b st a)

pub returns-in_default-ahead-clause-does : goal.returns-in_default-ahead-clause-does
returns-in_default-ahead-clause-does c = λ b st a.
    let none = nothing c.gains_page-order.result (sym c.is_some.ensures ∙ c.if-is_some.false) in
    let d = c.gains_page-order.ensures.does b st a in
    gains_first c.args.self.now _ c.args.run.now _ c.args.hart (c.in-Wants.page, c.in-Wants.mode) b c.gains_page-order.result none st a
    (asks_here c.args.self.now c.args.run.now c.args.hart (Wants c.in-Wants.page c.in-Wants.mode) b st a c.in-Wants.ensures.agrees) d
    (no_want c.ahead-2.result _ _ c.in_default-ahead.not-Wants (asks_here c.gains_page-order.new.self c.gains_page-order.new.run c.args.hart c.ahead-2.result
    d.to d.stands d.agrees c.ahead-2.ensures.agrees))

pub gains_page-requires-clause-tied : goal.gains_page-requires-clause-tied
gains_page-requires-clause-tied c = let t = c.requires.tied in let d = c.gains_page-order.ensures.does t.0 t.1 t.2 in (d.to, d.stands, d.agrees)

pub gains_page-requires-clause-page : goal.gains_page-requires-clause-page
gains_page-requires-clause-page c =
    let t = c.requires.tied in
    let d = c.gains_page-order.ensures.does t.0 t.1 t.2 in
    (want_tells c.gains_page-order.new.self d.to c.args.hart (c.in-Wants-ahead.further, c.in-Wants-ahead.other_mode) d.stands
    (asks_here c.gains_page-order.new.self c.gains_page-order.new.run c.args.hart (Wants c.in-Wants-ahead.further c.in-Wants-ahead.other_mode) d.to
    d.stands d.agrees c.in-Wants-ahead.ensures.agrees)).0

pub gains_page-requires-clause-lacks : goal.gains_page-requires-clause-lacks
gains_page-requires-clause-lacks c =
    let t = c.requires.tied in
    let d = c.gains_page-order.ensures.does t.0 t.1 t.2 in
    lacks_run c.gains_page-order.new.run d.to c.args.hart (c.in-Wants-ahead.further, c.in-Wants-ahead.other_mode) d.agrees
    (want_tells c.gains_page-order.new.self d.to c.args.hart (c.in-Wants-ahead.further, c.in-Wants-ahead.other_mode) d.stands
    (asks_here c.gains_page-order.new.self c.gains_page-order.new.run c.args.hart (Wants c.in-Wants-ahead.further c.in-Wants-ahead.other_mode) d.to
    d.stands d.agrees c.in-Wants-ahead.ensures.agrees)).1

pub gains_page-requires-clause-room : goal.gains_page-requires-clause-room
gains_page-requires-clause-room c = let r = c.gains_page-order.ensures.room 2 c.requires.room in omega (arith, r)

pub returns-clause-does : goal.returns-clause-does
returns-clause-does c = λ b st a.
    let none = nothing c.gains_page-order.result (sym c.is_some.ensures ∙ c.if-is_some.false) in
    let d = c.gains_page-order.ensures.does b st a in
    gains_both c.args.self.now c.gains_page-order.new.self _ c.args.run.now c.gains_page-order.new.run _ c.args.hart (c.in-Wants.page, c.in-Wants.mode)
    (c.in-Wants-ahead.further, c.in-Wants-ahead.other_mode) b c.gains_page-order.result c.gains_page.result none st a
    (asks_here c.args.self.now c.args.run.now c.args.hart (Wants c.in-Wants.page c.in-Wants.mode) b st a c.in-Wants.ensures.agrees) d
    (asks_here c.gains_page-order.new.self c.gains_page-order.new.run c.args.hart (Wants c.in-Wants-ahead.further c.in-Wants-ahead.other_mode) d.to
    d.stands d.agrees c.in-Wants-ahead.ensures.agrees) (c.gains_page.ensures.does d.to d.stands d.agrees)

pub returns-in_default-ahead-clause-room : goal.returns-in_default-ahead-clause-room
returns-in_default-ahead-clause-room c = λ none. let r = c.gains_page-order.ensures.room 2 c.requires.room in omega (arith, r)

pub returns-clause-room : goal.returns-clause-room
returns-clause-room c = λ none. c.gains_page.ensures.room 1 (let r = c.gains_page-order.ensures.room 2 c.requires.room in r)

pub returns-clause-held : goal.returns-clause-held
returns-clause-held c = λ last.
    let none = nothing c.gains_page-order.result (sym c.is_some.ensures ∙ c.if-is_some.false) in
    let t = c.requires.tied in
    let d = c.gains_page-order.ensures.does t.0 t.1 t.2 in
    let f = c.gains_page.ensures.does d.to d.stands d.agrees in
    not_wanting c.gains_page.new.self c.gains_page.new.run c.args.hart f.to f.stands f.agrees
    (gains_leave_none c.args.self.now c.gains_page-order.new.self c.gains_page.new.self c.args.run.now c.gains_page-order.new.run c.gains_page.new.run
    c.args.hart (c.in-Wants.page, c.in-Wants.mode) (c.in-Wants-ahead.further, c.in-Wants-ahead.other_mode) t.0 c.gains_page-order.result
    c.gains_page.result none last t.1 t.2
    (asks_here c.args.self.now c.args.run.now c.args.hart (Wants c.in-Wants.page c.in-Wants.mode) t.0 t.1 t.2 c.in-Wants.ensures.agrees) d
    (asks_here c.gains_page-order.new.self c.gains_page-order.new.run c.args.hart (Wants c.in-Wants-ahead.further c.in-Wants-ahead.other_mode) d.to d.stands
    d.agrees c.in-Wants-ahead.ensures.agrees) f)
