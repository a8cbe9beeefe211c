-- What a refusal of a log says.
use Rattle.std.specs.Prelude.{ℕ, ◌≡◌, Option, Some, None, Result, Ok, Err}
use Rattle.log_entry.specs.declared.log.Log.{Log}
use Rattle.order_rules.specs.Orderly.{Spot, Keeps, IsLeastBreak, o1, o2, o3, o4, o5, o6, o7}
use Rattle.log_order.specs.declared.order_error.OrderError.{OrderError}
use Rattle.log_order.specs.declared.order_error.OrderError.TheVariants as errors

-- the rule, hart and entry are the least; want of memory may come at any time
abbrev pub Refuses : Log → OrderError → Type 0
Refuses log (errors.Disorderly rule hart entry) = IsLeastBreak log rule hart entry
Refuses log errors.NoMemory = Unit {0}

-- the first spot that breaks a rule, if one does, is told with the rule's number
abbrev pub IsTold : ℕ → Option Spot → Result (Unit {0}) OrderError → Type 0
IsTold rule found (Ok u) = found ≡ None
IsTold rule found (Err (errors.Disorderly r hart entry)) = (r ≡ rule) × (found ≡ Some (hart, entry))
IsTold rule found (Err errors.NoMemory) = ⊥

-- the rules of single streams
pub record KeepsStreams (log : Log) : Type 0 where
  pub o1 : Keeps log o1
  pub o2 : Keeps log o2
  pub o3 : Keeps log o3
  pub o4 : Keeps log o4

-- the rules of pages
pub record KeepsPages (log : Log) : Type 0 where
  pub o5 : Keeps log o5
  pub o6 : Keeps log o6
  pub o7 : Keeps log o7
