use Rattle.std.proofs.Common.{subst, sym}
use Rattle.recorder.specs.Manned.{HasGiven, HasTurnOf}
use Rattle.recorder.proofs.Manning.{given_none, given_then}
use Rattle.round_run.proofs.Sweeping.{some_moves}
use Rattle.round_run.proofs.rounds.favoured_turn.Goals as goal

pub turn-requires-clause-manned : goal.turn-requires-clause-manned
turn-requires-clause-manned g c κs within =
    let s = c.args.recording.now in (
      c.requires.manned.0,
      some_moves s.board s.runs.items s.orders c.requires.manned.0 c.favour.new.self c.args.favoured c.favour.ensures c.requires.manned.1,
    )

pub returns-clause-turn : goal.returns-clause-turn
returns-clause-turn g c = λ moves is.
    let s = c.args.recording.now in
    subst (λ z. HasTurnOf z c.turn.new.self.board c.args.hart moves c.turn.new.self.runs.items c.turn.new.self.orders) c.favour.ensures
    (c.in_ok-turn.ensures.turn moves (some_moves s.board s.runs.items s.orders moves c.favour.new.self c.args.favoured c.favour.ensures is))

pub returns-in_err-turn-clause-given : goal.returns-in_err-turn-clause-given
returns-in_err-turn-clause-given g c =
    let s = c.args.recording.now in
    given_then s.board.now c.favour.new.self.now c.turn.new.self.board.now
    (subst (λ z. HasGiven s.board.now z.now) (sym c.favour.ensures) (given_none s.board.now)) c.turn.ensures.given

pub returns-clause-given : goal.returns-clause-given
returns-clause-given g c =
    let s = c.args.recording.now in
    given_then s.board.now c.favour.new.self.now c.turn.new.self.board.now
    (subst (λ z. HasGiven s.board.now z.now) (sym c.favour.ensures) (given_none s.board.now)) c.turn.ensures.given
