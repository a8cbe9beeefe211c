use Rattle.std.proofs.Common.{◌≡◌, take}
use Rattle.std.specs.Prelude.{fold}
use Rattle.rv_asm.specs.Scan.{start, step}
use Rattle.rv_asm.proofs.scan.scan_line.Given as goal

abbrev pub invariant-loop-b : goal.invariant-loop-b
invariant-loop-b l = l.s ≡ fold step start (take l.b-index l.line)
