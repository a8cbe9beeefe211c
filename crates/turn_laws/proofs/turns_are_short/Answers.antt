use Rattle.std.proofs.Common.{arith}
use Rattle.turn_model.specs.Board.{unit_in}
use Rattle.turn_model.specs.Laws.{machine_in}
use Rattle.turn_laws.proofs.ReachedBoards.{reached_is, sound_of}
use Rattle.turn_laws.proofs.Polls.{tidy_polls}
use Rattle.turn_laws.proofs.TurnSizes.{turn_adds, board_short, leg_within}
use Rattle.turn_laws.proofs.turns_are_short.Goals as goal

pub returns-clause-legs : goal.returns-clause-legs
returns-clause-legs c terms image harts supply h b pages reached inside =
    let r = reached_is terms image harts supply pages b reached in
    let p = tidy_polls terms.limit _ _ ((sound_of terms image harts supply pages b r).ordered.each h inside) in
    let l = leg_within (machine_in terms) terms h b _ p.0 p.1 (λ until is n low high. (r.orders h inside _ is n low high).1) in
    let k = p.2 in
    (l, omega (arith, l, k))

pub returns-clause-turns : goal.returns-clause-turns
returns-clause-turns c terms h n b d l is = turn_adds (machine_in terms) terms h n b d l (λ s. board_short (unit_in terms) s h) is
