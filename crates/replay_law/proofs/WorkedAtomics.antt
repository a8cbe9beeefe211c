-- Atomic moves that were worked out by hand, by computation.
use Rattle.std.proofs.Common.{refl}
use Rattle.rv_decode.specs.Table.{table, meaning}
use Rattle.rv_hart.specs.Effects.{instr_effect}
use Rattle.replay_law.specs.Worked.{AreAtomic}

pub are_atomic : AreAtomic
unfolding table meaning instr_effect
are_atomic = record {
  reserved = refl;
  committed = refl;
  failed = refl;
  updated = refl;
  load = refl;
  store = refl;
  elsewhere = refl;
  first = refl;
  second = refl;
  nobody = refl;
}
