use Rattle.std.proofs.Common.{◌-◌, ◌≤◌}
use Rattle.elf_image.specs.Layers.{Fills, given_at, start_of}
use Rattle.elf_image.proofs.layer.Layer.lay.Given as goal

abbrev pub invariant-loop-at : goal.invariant-loop-at
invariant-loop-at l = record {
  fills : Fills (given_at l.file l.segment) (start_of l.segment) l.at l.initial.self l.self;
  from : start_of l.segment ≤ l.at;
  to : l.at ≤ l.end;
}

abbrev pub decreases-loop-at : goal.decreases-loop-at
decreases-loop-at l = l.end - l.at
