use Rattle.std.proofs.Common.{◌≡◌, ◌<◌, ◌∙◌, Some, slice_get, slice_set, length, subst, sym, ap, arith}
use Rattle.std.proofs.lemmas.Option.{slice_get-get_or}
use Rattle.crew_core.specs.Hands.{AreHanded}
use Rattle.crew_core.proofs.Hands.{handed_on}
use Rattle.crew_core.proofs.tests.step.Goals as goal

pub hand-order-requires-clause-part : goal.hand-order-requires-clause-part
hand-order-requires-clause-part g c =
    let are = c.table.invariant in
    let number = are.parts.number in
    let here : c.from-place.result ≡ c.args.hart = c.from-place.ensures in
    let inside : c.from-place.result < length c.table.inside.runs.items = omega (arith, number, here) in
    are.parts.each c.args.hart c.index_mut.result.now (subst (λ k. slice_get c.table.inside.runs.items k ≡ Some c.index_mut.result.now) here
    (slice_get-get_or c.table.inside.runs.items c.from-place.result c.index_mut.result.now inside ∙ ap Some (sym c.index_mut.ensures.value)))

pub hand-order-requires-clause-until : goal.hand-order-requires-clause-until
hand-order-requires-clause-until g c =
    let are = c.table.invariant in
    let number = are.number in
    let here : c.from-place.result ≡ c.args.hart = c.from-place.ensures in
    let inside : c.from-place.result < length c.table.inside.untils.items = omega (arith, number, here) in
    are.told c.args.hart c.index-until.result.now (subst (λ k. slice_get c.table.inside.untils.items k ≡ Some c.index-until.result.now) here
    (slice_get-get_or c.table.inside.untils.items c.from-place.result c.index-until.result.now inside ∙ ap Some (sym c.index-until.ensures)))

pub invariant_of-table : goal.invariant_of-table
invariant_of-table g c =
    let are = c.table.invariant in
    let number = are.parts.number in
    let here : c.from-place.result ≡ c.args.hart = c.from-place.ensures in
    let inside : c.args.hart < length c.table.inside.runs.items = omega (arith, number) in
    subst
    (λ k. AreHanded c.hand-order.new.board (slice_set c.table.inside.runs.items k c.hand-order.new.run)
    (slice_set c.table.inside.untils.items k c.hand-order.result.1))
    (sym here)
    (handed_on c.table.inside.board c.hand-order.new.board c.table.inside.runs.items c.table.inside.untils.items c.args.hart c.hand-order.new.run
    c.hand-order.result.1 are inside c.hand-order.ensures)
