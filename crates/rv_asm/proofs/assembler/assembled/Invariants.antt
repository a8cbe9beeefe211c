use Rattle.std.proofs.Common.{length}
use Rattle.rv_asm.specs.Grammar.{Spells}
use Rattle.rv_asm.proofs.assembler.assembled.Given as goal

abbrev pub invariant-loop-rest : goal.invariant-loop-rest
invariant-loop-rest l = Spells l.words.items l.rest l.fn.text

abbrev pub decreases-loop-rest : goal.decreases-loop-rest
decreases-loop-rest l = length l.rest
