-- Atomic moves that were worked out by hand: which moves count, of which hart, and what they stored.
use Rattle.std.specs.Prelude.{ℕ, ◌≡◌, ◌++◌, List, [], ◌∷◌, replicate, Option, Some, None}
use Rattle.rv_decode.specs.declared.AmoOp.TheVariants.{Add}
use Rattle.rv_decode.specs.declared.LoadOp.TheVariants.{Lw}
use Rattle.rv_hart.specs.State.{Hart}
use Rattle.rv_hart.specs.Moves.{hart_at_start}
use Rattle.rv_hart.specs.declared.effect.Effect.TheVariants.{Loads, Stores, Reserves, Commits, Fails, Updates}
use Rattle.device_board.specs.State.{devices_at_start}
use Rattle.flat_machine.specs.State.{FlatState}
use Rattle.replay_law.specs.Atomics.{Atomic, on_word, next_atomic}

-- one atomic move of a hart at a count, with what it stored
abbrev pub by : ℕ → ℕ → Option ℕ → List Atomic
by hart count stored = record { hart = hart; count = count; stored = stored } ∷ []

-- two harts with counts 3 and 5, each about to make an LR of the word at 0x80000008
abbrev pub loading : ℕ → Hart
loading id = record (hart_at_start id 2 1 0x80000000) { regs = replicate 5 0 ++ 0x80000008 ∷ replicate 25 0 }

-- the machine that they make, with that LR in memory
abbrev pub two_harts : FlatState
two_harts = record {
  harts = loading 0 ∷ loading 1 ∷ [];
  counts = 3 ∷ 5 ∷ [];
  memory = 0xAF ∷ 0x22 ∷ 0x03 ∷ 0x10 ∷ replicate 12 0;
  devices = devices_at_start 2;
}

-- what each effect is on the word at place 8, and what each of the two harts is about to do
pub record AreAtomic : Type 0 where
  pub reserved : on_word 8 1 5 (Reserves 3 8) 7 ≡ by 1 5 None
  pub committed : on_word 8 1 5 (Commits 3 8 9) 7 ≡ by 1 5 (Some 9)
  pub failed : on_word 8 1 5 (Fails 3 8) 7 ≡ by 1 5 None
  pub updated : on_word 8 1 5 (Updates Add 3 8 2) 7 ≡ by 1 5 (Some 9)
  pub load : on_word 8 1 5 (Loads Lw 3 8) 7 ≡ []
  pub store : on_word 8 1 5 (Stores 8 4 9) 7 ≡ []
  pub elsewhere : on_word 8 1 5 (Reserves 3 12) 7 ≡ []
  pub first : next_atomic 0x80000008 two_harts 0 ≡ by 0 3 None
  pub second : next_atomic 0x80000008 two_harts 1 ≡ by 1 5 None
  pub nobody : next_atomic 0x80000008 two_harts 2 ≡ []
