-- The waits of a gain as contracts see them.
use Rattle.std.specs.Prelude.{ℕ, List}
use Rattle.log_entry.specs.declared.waits.WaitFor.{WaitFor}

-- the waits, and how many there is room for
pub record WaitList : Type 0 where
  pub items : List WaitFor
  pub room : ℕ
