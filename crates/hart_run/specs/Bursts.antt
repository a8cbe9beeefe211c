-- Moves one after another on what the run holds, and moves whose count is put off.
use Rattle.std.specs.Prelude.{ℕ, zero, suc, ◌≡◌, ◌+◌, Bool, true, false, is_some}
use Rattle.rv_csr.specs.Traps.{pending}
use Rattle.rv_hart.specs.Bursts.{with_counted}
use Rattle.run_model.specs.Run.{Run, moved_by, move_held, ahead_of}
use Rattle.run_model.specs.declared.asked.Ahead.TheVariants.{Free}

-- so many moves that ask for nothing lead from one run to another
abbrev pub MovesFreely : ℕ → Run → Run → Type 0
MovesFreely zero r t = t ≡ r
MovesFreely (suc n) r t = (m : Run) × MovesFreely n r m × (ahead_of m ≡ Free) × (t ≡ moved_by m (move_held m))

-- some number of such moves lead from one to the other
pub record HasGone (old new : Run) : Type 0 where
  pub moves : ℕ
  pub goes : MovesFreely moves old new

-- the run once so many moves are counted that it made uncounted
abbrev pub lagged : ℕ → Run → Run
lagged n r = record r { hart = with_counted n r.hart; count = r.count + n }

-- a move that was made uncounted, however many of them before it, is the next move
pub record Passed (old new : Run) : Type 0 where
  pub csrs : new.hart.csrs ≡ old.hart.csrs
  pub count : new.count ≡ old.count
  pub free : (n : ℕ) → is_some (pending old.hart.csrs) ≡ false → ahead_of (lagged n old) ≡ Free
  pub move : (n : ℕ) → is_some (pending old.hart.csrs) ≡ false → lagged (suc n) new ≡ moved_by (lagged n old) (move_held (lagged n old))

-- what an uncounted move leaves: the next move made, where it passes, and else the run as it was
abbrev pub Passes : Run → Run → Bool → Type 0
Passes old new false = new ≡ old
Passes old new true = Passed old new
