-- The size of a memory after a write.
use Rattle.std.proofs.Common.{◌≡◌, ℕ, ◌+◌, ◌≤◌, List, ◌++◌, take, drop, length, arith, length-append, length-drop}
use Rattle.std.proofs.Math.ListN.{length-take}
use Rattle.rv_words.specs.Memory.{put}

pub length_put : (mem bytes : List ℕ) (place : ℕ) → place + length bytes ≤ length mem → length (put mem place bytes) ≡ length mem
length_put mem bytes place fits =
    omega (
      arith,
      length-append (take place mem ++ bytes) (drop (place + length bytes) mem),
      length-append (take place mem) bytes,
      length-take place mem,
      length-drop (place + length bytes) mem,
    )
