use Rattle.std.proofs.Common.{◌≡◌}
use Rattle.replay_core.specs.Entries.{ComesToEntries, left_of}
use Rattle.replay_core.proofs.position.Position.make_all.Given as goal

abbrev pub invariant-entries : goal.invariant-entries
invariant-entries l = record {
  comes : ComesToEntries l.initial.self l.self l.initial.run l.run l.hart;
  log : l.self.log ≡ l.initial.self.log;
  hart : l.hart ≡ l.initial.hart;
}

abbrev pub decreases-entries : goal.decreases-entries
decreases-entries l = left_of l.self l.run l.hart
