use Rattle.std.proofs.Common.{rules, ◌≡◌, sym, ◌∙◌, ap, subst, slice_index, true, false, Some, None, slice_get, unwrap_or}
use Rattle.log_entry.specs.declared.log.Entry.TheVariants.{Yield}
use Rattle.crew_parts.specs.Boards.{the_board}
use Rattle.crew_core.specs.Does.{Enters}
use Rattle.crew_core.specs.Standing.{terms_of}
use Rattle.crew_core.proofs.Stepping.{keeps_on, fills, gives_up}
use Rattle.crew_core.proofs.crew.Crew.yields_to.Goals as goal

pub returns-then-not-yields_now-clause-does : goal.returns-then-not-yields_now-clause-does
returns-then-not-yields_now-clause-does c = λ b st a.
    let asked : unwrap_or (slice_get c.args.self.now.directory.wants c.args.other) None ≡ Some (c.in-Some.page, c.in-Some.mode) = search rules in
    let now : c.yields_now.result ≡ false = search rules in
    keeps_on c.args.self.now c.args.run.now c.args.hart c.args.other c.in-Some.page c.in-Some.mode b st a c.if-other-hart.false asked
    (sym (c.yields_now.ensures.model b st a) ∙ now)

pub returns-then-not-has_room-clause-does : goal.returns-then-not-has_room-clause-does
returns-then-not-has_room-clause-does c = λ b st a.
    let asked : unwrap_or (slice_get c.args.self.now.directory.wants c.args.other) None ≡ Some (c.in-Some.page, c.in-Some.mode) = search rules in
    let now : c.yields_now.result ≡ true = search rules in
    let room : c.has_room.result ≡ false = search rules in
    fills c.args.self.now _ c.args.run.now c.args.hart c.args.other c.in-Some.page c.in-Some.mode b st a c.if-other-hart.false asked
    (sym (c.yields_now.ensures.model b st a) ∙ now) (sym c.has_room.ensures ∙ room) c.close.ensures

pub returns-clause-does : goal.returns-clause-does
returns-clause-does c = λ b st a.
    let asked : unwrap_or (slice_get c.args.self.now.directory.wants c.args.other) None ≡ Some (c.in-Some.page, c.in-Some.mode) = search rules in
    let now : c.yields_now.result ≡ true = search rules in
    let room : c.has_room.result ≡ true = search rules in
    gives_up c.args.self.now _ c.args.run.now _ c.args.hart c.args.other c.in-Some.page c.in-Some.mode b st a c.if-other-hart.false asked
    (sym (c.yields_now.ensures.model b st a) ∙ now) (sym c.has_room.ensures ∙ room)
    (ap terms_of c.yield_page.ensures.frame)
    (subst (λ left. Enters c.args.self.now c.yield_page.new.self c.yield_page.new.run c.args.hart
    (Yield (the_board.count b.at.flat c.args.hart) c.in-Some.page (slice_index b.at.cursor.numbers c.in-Some.page) left) b) c.left_for.ensures
    (c.yield_page.ensures.enters b st a))
