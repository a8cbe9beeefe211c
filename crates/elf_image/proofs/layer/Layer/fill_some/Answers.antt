use Rattle.std.proofs.Common.{ℕ, ◌≡◌, ◌≤◌, ◌<◌, true, arith}
use Rattle.elf_image.specs.Layers.{given_at, is_written}
use Rattle.elf_image.proofs.Layers.{fills_next}
use Rattle.elf_image.proofs.layer.Layer.fill_some.Goals as goal
use Rattle.elf_image.proofs.layer.Layer.fill_some.Goals.{then-word-from, else-word-from, then-word-to, else-word-to}

pub returns-clause-fills : goal.returns-clause-fills
returns-clause-fills c =
    let from = c.args.from in
    let first = c.if-word-from.first in
    let forward = c.skip-word.ensures.forward in
    let up : from ≤ first = elim c.if-word-from.branch [ then-word-from w ↦ omega arith | else-word-from w ↦ omega arith ] in
    let on : first ≤ c.if-word-to.last = elim c.if-word-to.branch [
      | then-word-to w ↦ elim c.if-word-from.branch [ then-word-from v ↦ omega arith | else-word-from v ↦ omega (arith, forward) ]
      | else-word-to w ↦ omega arith
    ] in
    let all : (at : ℕ) → from ≤ at → at < first → is_written c.args.self.now at ≡ true =
    λ at a b. elim c.if-word-from.branch [
      | then-word-from w ↦ c.skip-word.ensures.full at (omega (arith, a)) (omega (arith, b))
      | else-word-from w ↦ absurd (omega (arith, a, b))
    ] in
    rw c.settle.ensures (fills_next (given_at c.args.file.now c.args.segment) from first c.if-word-to.last c.args.self.now c.fill.new.self _ up on
    c.skip-word.ensures.same all c.fill.ensures)
