use Rattle.std.proofs.Common.{◌<◌, length, sym, subst, arith}
use Rattle.replay_parts.specs.Boards.{Plain}
use Rattle.replay_core.proofs.TurnsTaken.{places_size}
use Rattle.replay_core.proofs.turns.ReplayBoard.place.Goals as goal

pub place-requires : goal.place-requires
place-requires c =
    let size = places_size c.self.inside.board c.self.inside.ends c.self.inside.image.value c.self.inside.counts.items c.self.invariant in
    let l = subst (λ (p : Plain). c.args.hart < length p.log.streams) (sym c.self.view_is) c.requires in
    let place = c.from.ensures in
    omega (arith, l, size, place)
