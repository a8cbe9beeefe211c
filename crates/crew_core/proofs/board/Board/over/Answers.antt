use Rattle.std.proofs.Common.{◌==◌, ◌||◌, Bool, map, ◌∙◌, ap, sym}
use Rattle.std.specs.List.{list_all}
use Rattle.crew_parts.specs.Boards.{is_over_in}
use Rattle.crew_core.specs.declared.seat.Seat.{Seat}
use Rattle.crew_core.proofs.Sets.{all_counts}
use Rattle.crew_core.proofs.board.Board.over.Goals as goal

pub returns-else-is_some-clause-over : goal.returns-else-is_some-clause-over
returns-else-is_some-clause-over g c =
    let limit = c.self.inside.crew.limit in
    let counts = map (λ (s : Seat). s.count) c.self.inside.crew.seats in
    c.are_at.ensures ∙ all_counts limit c.self.inside.crew.seats
    ∙ ap (λ (b : Bool). b || list_all (λ n. n == limit) counts) (sym c.if-is_some.false ∙ c.is_some.ensures) ∙ ap is_over_in c.self.view_is
