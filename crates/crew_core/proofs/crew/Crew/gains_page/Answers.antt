use Rattle.std.proofs.Common.{rules, ◌≡◌, ◌∙◌, ap, sym, true, false, None, ◌+◌, ◌*◌}
use Rattle.crew_core.specs.Standing.{terms_of}
use Rattle.crew_core.proofs.Gaining.{gain_size}
use Rattle.crew_core.proofs.Keeping.{waits_for, full_gain, gains_it}
use Rattle.crew_core.proofs.crew.Crew.gains_page.Goals as goal

pub returns-in-Some-clause-does : goal.returns-in-Some-clause-does
returns-in-Some-clause-does c = λ b st a.
    waits_for c.args.self.now c.ask.new.self c.args.run.now c.args.hart c.args.page c.in-Some.other c.args.mode b st a c.requires.hart c.requires.page
    c.requires.lacks (c.in-Some.ensures.model b st) c.ask.ensures

pub returns-then-not-has_room-clause-does : goal.returns-then-not-has_room-clause-does
returns-then-not-has_room-clause-does c = λ b st a.
    let none : c.kept_by.result ≡ None = search rules in
    let room : c.has_room.result ≡ false = search rules in
    full_gain c.args.self.now _ c.args.run.now c.args.hart c.args.page (17 + 9 * c.waiting.result) c.args.mode b st a c.requires.lacks
    (sym none ∙ c.kept_by.ensures.model b st)
    (gain_size c.args.self.now b c.args.hart c.args.page (17 + 9 * c.waiting.result) c.args.mode st c.requires.page
    (ap (λ n. 17 + 9 * n) c.waiting.ensures.number)) (sym c.has_room.ensures ∙ room) c.close.ensures

pub returns-clause-does : goal.returns-clause-does
returns-clause-does c = λ b st a.
    let none : c.kept_by.result ≡ None = search rules in
    let room : c.has_room.result ≡ true = search rules in
    gains_it c.args.self.now _ c.args.run.now _ c.args.hart c.args.page (17 + 9 * c.waiting.result) c.args.mode b st a c.requires.lacks
    (sym none ∙ c.kept_by.ensures.model b st)
    (gain_size c.args.self.now b c.args.hart c.args.page (17 + 9 * c.waiting.result) c.args.mode st c.requires.page
    (ap (λ n. 17 + 9 * n) c.waiting.ensures.number)) (sym c.has_room.ensures ∙ room)
    (ap terms_of c.gain_page.ensures.frame) (c.gain_page.ensures.enters b st a)
