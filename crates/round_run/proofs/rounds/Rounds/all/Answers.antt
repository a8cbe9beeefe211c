use Rattle.recorder.proofs.Manning.{given_then}
use Rattle.round_run.proofs.Rounding.{all_taken}
use Rattle.round_run.proofs.rounds.Rounds.all.Goals as goal

pub returns-clause-taken : goal.returns-clause-taken
returns-clause-taken g c =
    let m = c.rounds.new.self in
    let q = c.last_turns.new.self.recording in
    all_taken c.args.self.now.recording.board m.recording.board q.board m.recording.runs.items q.runs.items m.recording.orders q.orders m.stood
    c.harts.ensures.holds c.in_ok-rounds.ensures.taken c.in_ok-last_turns.ensures.taken

pub returns-in_err-last_turns-clause-given : goal.returns-in_err-last_turns-clause-given
returns-in_err-last_turns-clause-given g c =
    given_then c.args.self.now.recording.board.now c.rounds.new.self.recording.board.now c.last_turns.new.self.recording.board.now
    c.rounds.ensures.given c.last_turns.ensures.given

pub returns-clause-given : goal.returns-clause-given
returns-clause-given g c =
    given_then c.args.self.now.recording.board.now c.rounds.new.self.recording.board.now c.last_turns.new.self.recording.board.now
    c.rounds.ensures.given c.last_turns.ensures.given
