use Rattle.std.proofs.Common.{◌∙◌, sym, subst}
use Rattle.std.proofs.lemmas.Bool.{or_parts}
use Rattle.replay_core.specs.Standing.{HasGone}
use Rattle.replay_core.proofs.NotesKept.{told_by, told_on}
use Rattle.replay_core.proofs.StagesGoOn.{gone_then, hart_on, on_then, somewhere_on}
use Rattle.replay_core.proofs.replaying.Replaying.go_leg.Goals as goal

pub go_noting-made-requires-clause-at : goal.go_noting-made-requires-clause-at
go_noting-made-requires-clause-at c = somewhere_on c.args.self.now c.leg-ran.new.self c.leg-ran.ensures.on c.requires.at

pub go_noting-made-requires-clause-hart : goal.go_noting-made-requires-clause-hart
go_noting-made-requires-clause-hart c =
    hart_on c.args.self.now c.leg-ran.new.self c.args.hart c.requires.at (somewhere_on c.args.self.now c.leg-ran.new.self c.leg-ran.ensures.on c.requires.at)
    c.leg-ran.ensures.log c.requires.hart

pub returns-clause-on : goal.returns-clause-on
returns-clause-on c = on_then c.args.self.now c.leg-ran.new.self c.go_noting-made.new.self c.leg-ran.ensures.on c.go_noting-made.ensures.on

pub returns-clause-gone : goal.returns-clause-gone
returns-clause-gone c =
    subst (λ went. HasGone went c.args.self.now c.go_noting-made.new.self) (sym c.either.ensures)
    (gone_then c.leg-ran.result c.go_noting-made.result c.args.self.now c.leg-ran.new.self c.go_noting-made.new.self c.leg-ran.ensures.gone
    c.go_noting-made.ensures.gone)

pub returns-clause-stuck : goal.returns-clause-stuck
returns-clause-stuck c = λ none. c.go_noting-made.ensures.stuck (or_parts c.go_noting-made.result c.leg-ran.result (sym c.either.ensures ∙ none)).0

pub returns-clause-noted : goal.returns-clause-noted
returns-clause-noted c =
    told_on c.args.self.now c.leg-ran.new.self c.go_noting-made.new.self c.args.notes.now c.args.notes.now c.go_noting-made.new.notes
    (told_by c.args.self.now c.leg-ran.new.self c.args.notes.now c.leg-ran.ensures.noted)
    c.go_noting-made.ensures.noted
