use Rattle.std.proofs.Common.{◌≡◌, take}
use Rattle.replay_core.specs.Lists.{FollowsList}
use Rattle.replay_core.proofs.list.go_along.Given as goal

abbrev pub invariant-loop-place : goal.invariant-loop-place
invariant-loop-place l = record {
  log : l.stage.board.log ≡ l.initial.stage.board.log;
  follows : FollowsList l.initial.stage l.stage (take l.place l.list) (take l.place l.answers);
}
