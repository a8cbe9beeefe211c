use Rattle.std.proofs.Common.{◌≡◌, true, List, get_or, length, ap, sym, subst, ◌∙◌}
use Rattle.std.specs.Prelude.{nat_lt}
use Rattle.log_entry.specs.declared.log.Entry.{Entry}
use Rattle.log_format.specs.Pieces.{Adds}
use Rattle.log_format.specs.Given.{parts_at, place_after}
use Rattle.log_format.proofs.Places.{adds_part}
use Rattle.log_format.proofs.pieces.LogPieces.add_of_stream.Goals as goal

pub returns-clause-adds : goal.returns-clause-adds
returns-clause-adds c =
    let log = c.args.l.now in
    let place = c.args.self.now.place in
    let s = c.index-items-self.result in
    let is : s ≡ get_or log.streams place.hart s = c.index-items-self.is ∙ ap (λ (ss : List (List Entry)). get_or ss place.hart s) c.items.ensures in
    let next = c.after-self.ensures ∙ ap (λ (es : List Entry). place_after (nat_lt place.next (length es)) place) c.items-2.ensures in
    subst (λ q. Adds c.args.self.now.buffer (parts_at place log) true c.add_part.new.self (parts_at q log)) (sym next)
    (adds_part log place s c.requires.hart is c.requires.at.place c.args.self.now.buffer c.add_part.new.self c.if-not-add_part.ensures)
