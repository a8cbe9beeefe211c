use Rattle.std.proofs.Common.{◌≡◌}
use Rattle.std.specs.Arc.{arc_value}
use Rattle.side_work.specs.Places.{IsLent}
use Rattle.side_work.proofs.hand.fetch.Given as goal

abbrev pub invariant-loop : goal.invariant-loop
invariant-loop g l = IsLent (arc_value l.place).table l.pass l.asked.value × (l.asked.value ≡ l.initial.asked.value)
