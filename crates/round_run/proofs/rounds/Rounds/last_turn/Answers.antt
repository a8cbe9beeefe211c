use Rattle.std.proofs.Common.{slice_index, sym, ap, ◌∙◌}
use Rattle.recorder.proofs.Manning.{given_none, run_there}
use Rattle.round_run.specs.Rounds.{last_moves}
use Rattle.round_run.proofs.Rounding.{last_moves_on, last_rests}
use Rattle.round_run.proofs.rounds.Rounds.last_turn.Goals as goal

pub returns-then-count-self-clause-turn : goal.returns-then-count-self-clause-turn
returns-then-count-self-clause-turn g c =
    let s = c.args.self.now in
    let r = c.index.result.now in
    last_rests s.recording.board s.recording.runs.items s.recording.orders c.args.hart (slice_index s.stood c.from-place.result) r c.harts.ensures.holds
    c.requires.hart c.requires.manned
    (run_there s.recording.board s.recording.runs.items s.recording.orders (last_moves c.args.hart s.recording.board) c.args.hart c.from-place.result r
    c.requires.manned c.requires.hart c.from-place.ensures c.index.ensures)
    (ap (slice_index s.stood) c.from-place.ensures ∙ c.requires.stood) (sym c.count.ensures ∙ c.if-count-self.true)

pub returns-clause-turn : goal.returns-clause-turn
returns-clause-turn g c =
    let s = c.args.self.now in
    let r = c.index.result.now in
    last_moves_on s.recording.board c.turn.new.self.board s.recording.runs.items c.turn.new.self.runs.items s.recording.orders
    c.turn.new.self.orders c.args.hart (slice_index s.stood c.from-place.result) r c.harts.ensures.holds c.requires.hart c.requires.manned
    (run_there s.recording.board s.recording.runs.items s.recording.orders (last_moves c.args.hart s.recording.board) c.args.hart c.from-place.result r
    c.requires.manned c.requires.hart c.from-place.ensures c.index.ensures)
    (ap (slice_index s.stood) c.from-place.ensures ∙ c.requires.stood) (λ e. c.if-count-self.false (c.count.ensures ∙ e))
    (c.in_ok-turn.ensures.turn (last_moves c.args.hart s.recording.board) c.requires.manned)

pub returns-then-count-self-clause-given : goal.returns-then-count-self-clause-given
returns-then-count-self-clause-given g c = given_none c.args.self.now.recording.board.now
