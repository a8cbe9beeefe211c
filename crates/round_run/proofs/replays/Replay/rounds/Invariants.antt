use Rattle.std.proofs.Common.{◌≡◌, length}
use Rattle.round_run.specs.Replays.{AreAllParts, MayAllMove, SameReplay, left_in}
use Rattle.round_run.proofs.replays.Replay.rounds.Given as goal

abbrev pub invariant-rounds : goal.invariant-rounds
invariant-rounds g l = record {
  same : SameReplay l.fn.self.board l.self.board;
  parts : AreAllParts l.self.board l.self.runs.items;
  places : length l.self.untils ≡ 8;
  told : MayAllMove l.self.board l.self.untils;
}

abbrev pub decreases-rounds : goal.decreases-rounds
decreases-rounds g l = left_in l.self.board
