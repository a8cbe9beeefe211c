use Rattle.std.proofs.Common.{◌≡◌, Some, slice_get, ap, ◌∙◌, sym, subst, arith}
use Rattle.std.specs.Prelude.{slice_index_or}
use Rattle.std.proofs.lemmas.Option.{slice_get-get_or}
use Rattle.replay_core.specs.Telling.{HasAll, NotesItem}
use Rattle.replay_core.proofs.NotesKept.{item_told}
use Rattle.replay_core.proofs.StagesGoOn.{hart_on, has_gone, has_no_item, on_item, somewhere_on}
use Rattle.replay_core.proofs.replaying.Replaying.go_noting.Goals as goal

pub index-requires-2 : goal.index-requires-2
index-requires-2 c =
    let inside =
    hart_on c.args.self.now c.go-went.new.self c.args.hart c.requires.at
    (somewhere_on c.args.self.now c.go-went.new.self (on_item c.args.self.now c.go-went.new.self c.args.hart c.go-went.ensures.at) c.requires.at)
    c.go-went.ensures.log c.requires.hart in
    let here = c.from-2.ensures in
    let size = c.go-went.new.self.runs.ok.0 in
    omega (arith, inside, here, size)

pub returns-clause-on : goal.returns-clause-on
returns-clause-on c = on_item c.args.self.now c.go-went.new.self c.args.hart c.go-went.ensures.at

pub returns-clause-gone : goal.returns-clause-gone
returns-clause-gone c =
    has_gone c.is_made.result c.args.self.now c.go-went.new.self c.args.hart c.go-went.result c.requires.at c.requires.hart
    c.go-went.ensures.answer c.go-went.ensures.at c.go-went.ensures.log c.go-went.ensures.still c.is_made.ensures.still c.is_made.ensures.made

pub returns-clause-stuck : goal.returns-clause-stuck
returns-clause-stuck c = λ none.
    let quiet = c.is_made.ensures.still none in
    has_no_item c.args.self.now c.go-went.new.self c.args.hart c.go-went.result c.go-went.ensures.answer quiet (c.go-went.ensures.still quiet)

pub returns-clause-noted : goal.returns-clause-noted
returns-clause-noted c =
    let there : slice_get c.args.self.now.runs.items c.args.hart ≡ Some c.index.result.now =
    slice_get-get_or c.args.self.now.runs.items c.args.hart c.index.result.now c.requires.hart
    ∙ ap Some (ap (λ i. slice_index_or c.args.self.now.runs.items i c.index.result.now) (sym c.from.ensures) ∙ sym c.index.ensures) in
    let inside =
    hart_on c.args.self.now c.go-went.new.self c.args.hart c.requires.at
    (somewhere_on c.args.self.now c.go-went.new.self (on_item c.args.self.now c.go-went.new.self c.args.hart c.go-went.ensures.at) c.requires.at)
    c.go-went.ensures.log c.requires.hart in
    let then_there : slice_get c.go-went.new.self.runs.items c.args.hart ≡ Some c.index-2.result.now =
    slice_get-get_or c.go-went.new.self.runs.items c.args.hart c.index-2.result.now inside
    ∙ ap Some (ap (λ i. slice_index_or c.go-went.new.self.runs.items i c.index-2.result.now) (sym c.from-2.ensures) ∙ sym c.index-2.ensures) in
    item_told c.args.self.now c.go-went.new.self c.args.hart c.index.result.now c.index-2.result.now c.args.notes.now c.note.new.self
    c.go-went.ensures.at c.go-went.ensures.log there then_there c.note.ensures.aim
    (subst (λ seen. HasAll c.args.notes.now c.note.new.self (NotesItem c.args.notes.now c.note.new.self c.args.hart seen c.index-2.result.now))
    c.look-before.ensures c.note.ensures.noted)
