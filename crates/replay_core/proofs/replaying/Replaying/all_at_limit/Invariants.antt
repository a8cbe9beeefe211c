use Rattle.std.proofs.Common.{◌≡◌, ◌==◌, true, take}
use Rattle.std.specs.List.{list_all}
use Rattle.run_model.specs.Run.{Run}
use Rattle.replay_core.proofs.replaying.Replaying.all_at_limit.Given as goal

-- the harts so far are at the limit
abbrev pub invariant-loop-run : goal.invariant-loop-run
invariant-loop-run l = list_all (λ (r : Run). r.count == l.limit) (take l.run-index l.self.runs.items) ≡ true
