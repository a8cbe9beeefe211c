use Rattle.std.proofs.Common.{◌≡◌, ◌<◌, length, slice_get, slice_index, Some, ap, ◌∙◌, sym, subst, arith}
use Rattle.std.proofs.lemmas.Option.{get_or_from_slice_get, slice_get-get_or}
use Rattle.replay_parts.specs.Boards.{Plain}
use Rattle.replay_core.proofs.TurnsTaken.{counts_size}
use Rattle.replay_core.proofs.turns.ReplayBoard.count.Goals as goal

pub index-requires : goal.index-requires
index-requires c =
    let size = counts_size c.self.inside.board c.self.inside.ends c.self.inside.image.value c.self.inside.counts.items c.self.invariant in
    let l = subst (λ (p : Plain). c.args.hart < length p.log.streams) (sym c.self.view_is) c.requires in
    let place = c.from.ensures in
    omega (arith, l, size, place)

pub returns : goal.returns
returns c =
    let size = counts_size c.self.inside.board c.self.inside.ends c.self.inside.image.value c.self.inside.counts.items c.self.invariant in
    let l = subst (λ (p : Plain). c.args.hart < length p.log.streams) (sym c.self.view_is) c.requires in
    let place = c.from.ensures in
    let there : slice_get c.self.inside.counts.items c.from.result ≡ Some c.index.result.now =
    slice_get-get_or c.self.inside.counts.items c.from.result c.index.result.now (omega (arith, l, size, place)) ∙ ap Some (sym c.index.ensures) in
    sym (get_or_from_slice_get c.self.inside.counts.items c.from.result c.index.result.now 0 there)
    ∙ ap (slice_index c.self.inside.counts.items) c.from.ensures ∙ ap (λ (p : Plain). slice_index p.counts c.args.hart) c.self.view_is
