use Rattle.std.proofs.Common.{◌≡◌, ◌++◌, ◌+◌, ◌*◌}
use Rattle.std.specs.Prelude.{vec_len}
use Rattle.guest_maker.specs.Draws.{after_blocks}
use Rattle.guest_maker.specs.Code.{bytes_of, blocks}
use Rattle.guest_maker.proofs.code.put_blocks.Given as goal

abbrev pub invariant-loop-n : goal.invariant-loop-n
invariant-loop-n l =
    (l.out.items ≡ l.initial.out.items ++ bytes_of (blocks l.number l.n))
    × (vec_len l.out ≡ vec_len l.initial.out + 12 * l.n)
    × (l.s ≡ after_blocks l.number l.n)
