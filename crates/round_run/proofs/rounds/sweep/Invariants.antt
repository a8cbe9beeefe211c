use Rattle.std.proofs.Common.{Bool}
use Rattle.round_run.specs.Legs.{IsReady}
use Rattle.round_run.specs.Sweeps.{SweepsTo, harts_by}
use Rattle.round_run.proofs.rounds.sweep.Given as goal

abbrev pub invariant-loop-place : goal.invariant-loop-place
invariant-loop-place g l = (moved : Bool)
    → IsReady l.initial.recording.board l.initial.recording.runs.items l.initial.recording.orders moved
    → SweepsTo l.round moved (harts_by l.initial.recording.board.harts l.round l.place) l.initial.recording.board l.recording.board
    l.recording.runs.items l.recording.orders
