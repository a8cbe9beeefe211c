-- The least entry so far that breaks a rule.
use Rattle.std.specs.Prelude.{ℕ, ◌≡◌, ◌<◌, ◌==◌, ◌&&◌, ◌||◌, ◌⊎◌, nat_lt, Bool, true, Option, Some, None, if◌then◌else◌}
use Rattle.log_entry.specs.declared.log.Entry.{Entry}
use Rattle.log_entry.specs.declared.log.Log.{Log}
use Rattle.order_rules.specs.Places.{entry_at}
use Rattle.order_rules.specs.Orderly.{Spot}
use Rattle.order_rules.specs.Laws.{IsBefore}
use Rattle.log_order.specs.declared.orderly.Leg.{Leg}
use Rattle.log_order.specs.declared.series.Series.{Series}
use Rattle.log_order.specs.Rows.{key_of, spot_of}

abbrev pub is_before : Leg → Leg → Bool
is_before a b = nat_lt a.hart b.hart || ((a.hart == b.hart) && nat_lt a.entry b.entry)

-- the lesser of the least so far and an entry
abbrev pub lesser : Option Leg → Leg → Option Leg
lesser None leg = Some leg
lesser (Some p) leg = if is_before leg p then Some leg else Some p

-- the least so far, after an entry that may break the rule
abbrev pub least_with : Bool → Option Leg → Leg → Option Leg
least_with breaks best leg = if breaks then lesser best leg else best

-- an entry that stands before a number of a row, or in a row before it
abbrev pub IsNumberedBelow : Series → Log → ℕ → ℕ → Spot → Type 0
IsNumberedBelow series log row number q =
    (e : Entry) × ((n : ℕ × ℕ) × (entry_at log q.0 q.1 ≡ Some e) × (key_of series e ≡ Some n) × ((n.0 < row) ⊎ ((n.0 ≡ row) × (n.1 < number))))

-- of the entries seen, the least that breaks the rule
pub record IsLeastSoFar (log : Log) (test : Spot → Bool) (seen : Spot → Type 0) (best : Option Leg) : Type 0 where
  pub stands : (p : Leg) → best ≡ Some p → (e : Entry) × (entry_at log p.hart p.entry ≡ Some e) × (test (spot_of p) ≡ true)
  pub least : (q : Spot) → seen q → test q ≡ true → (p : Leg) × (best ≡ Some p) × (IsBefore q (spot_of p) → ⊥)
