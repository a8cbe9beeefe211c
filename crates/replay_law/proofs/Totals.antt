-- The counts of a stream, together: no entry's count is more.
use Rattle.std.proofs.Common.{◌≡◌, ℕ, zero, suc, ◌≤◌, List, [], ◌∷◌, map, Some, slice_get, ap, arith}
use Rattle.std.proofs.lemmas.Option.{none-some, same_Some}
use Rattle.log_entry.specs.declared.log.Entry.{Entry}
use Rattle.log_entry.specs.Parts.{count_of}
use Rattle.orders_law.specs.Orders.{total}

-- the counts of a stream's entries, together
abbrev pub most : List Entry → ℕ
most s = total (map count_of s)

pub at_most : (s : List Entry) (i : ℕ) (e : Entry) → slice_get s i ≡ Some e → count_of e ≤ most s
at_most [] i e at = absurd (none-some _ at)
at_most (x ∷ s) zero e at = let same : count_of x ≡ count_of e = ap count_of (same_Some _ _ at) in omega (arith, same)
at_most (x ∷ s) (suc i) e at = let rest = at_most s i e at in omega (arith, rest)
