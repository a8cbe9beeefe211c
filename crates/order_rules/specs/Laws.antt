-- What the reports of logs have in common.
use Rattle.std.specs.Prelude.{ℕ, ◌≡◌, ◌≢◌, ◌+◌, ◌<◌, ◌⊎◌, Bool, true, false, List, find, length, slice_get, slice_index, slice_set, Some, None}
use Rattle.log_entry.specs.declared.log.Entry.{Entry}
use Rattle.log_entry.specs.declared.log.Log.{Log}
use Rattle.order_rules.specs.Orderly.{Spot, spots, Keeps, o5, o6, o8, LeastOrderLeaves, IsOrderly, IsLeastBreak}
use Rattle.log_entry.specs.Parts.{page_number, holds_then, conflict}
use Rattle.order_rules.specs.Rules as rules
use Rattle.order_rules.specs.Holders.{Holders, row, held, with_held, IsCrew}
use Rattle.orders_law.specs.Orders.{IsFull}
use Rattle.order_rules.specs.Places.{entry_at, numbered}
use Rattle.order_rules.specs.Cursor.{Cursor, start, take_one, least_left}

pub record ReportsAreOne : Type 0 where
  pub none : (log : Log) (rule hart entry : ℕ) → IsOrderly log → IsLeastBreak log rule hart entry → ⊥
  pub one : (log : Log) (rule hart entry rule' hart' entry' : ℕ) → IsLeastBreak log rule hart entry → IsLeastBreak log rule' hart' entry'
      → (rule ≡ rule') × (hart ≡ hart') × (entry ≡ entry')

-- a spot of the log: of a hart that it has, at one of its entries or at the end of the stream
abbrev pub IsSpot : List (List Entry) → Spot → Type 0
IsSpot streams p = (stream : List Entry) × (slice_get streams p.0 ≡ Some stream) × (p.1 < length stream + 1)

-- of a lesser hart, or of the same hart at a lesser place
abbrev pub IsBefore : Spot → Spot → Type 0
IsBefore a b = (a.0 < b.0) ⊎ ((a.0 ≡ b.0) × (a.1 < b.1))

-- passes the test, and no spot before it does
pub record IsLeastSpot (streams : List (List Entry)) (test : Spot → Bool) (p : Spot) : Type 0 where
  pub spot : IsSpot streams p
  pub passes : test p ≡ true
  pub least : (q : Spot) → IsSpot streams q → IsBefore q p → test q ≡ false

pub record FirstIsLeast : Type 0 where
  pub found : (log : Log) (test : Spot → Bool) (p : Spot) → find test (spots log) ≡ Some p → IsLeastSpot log.streams test p
  pub none : (log : Log) (test : Spot → Bool) (p : Spot) → find test (spots log) ≡ None → IsSpot log.streams p → test p ≡ false
  pub first : (log : Log) (test : Spot → Bool) (p : Spot) → IsLeastSpot log.streams test p → find test (spots log) ≡ Some p
  pub no_first : (log : Log) (test : Spot → Bool) → ((p : Spot) → IsSpot log.streams p → test p ≡ false) → find test (spots log) ≡ None

-- an entry of a page, in a log that keeps O5, is the one that its number names
abbrev pub NumbersName : Type 0
NumbersName =
    (log : Log) (h i page k : ℕ) (e : Entry) → Keeps log o5 → entry_at log h i ≡ Some e → page_number e ≡ Some (page, k) → numbered log page k ≡ Some (h, e)

-- before each number of a page no two harts hold it in conflict, in a log that keeps O6
abbrev pub CrewBefore : Type 0
CrewBefore = (log : Log) (page k g h : ℕ) → Keeps log o6 → g ≢ h → conflict (rules.held log page g k) (rules.held log page h k) ≡ false

-- where some order takes all entries of a log with right numbers and ordinals, the least order does
abbrev pub LeastTakesAll : Type 0
LeastTakesAll =
    (log : Log) (xs : List (ℕ × ℕ)) (c : Cursor) → Keeps log o5 → Keeps log o8 → IsFull (take_one log) (start log) xs c → least_left log c ≡ None
    → LeastOrderLeaves log None

-- each hart holds of each page what it holds in the log before the page's next number
abbrev pub Follow : Log → Holders → List ℕ → Type 0
Follow log holders numbers = (page h : ℕ) → held holders page h ≡ rules.held log page h (slice_index numbers page)

-- where a hart takes the entry of a page with the page's next number, the holders still follow
abbrev pub StillFollow : Type 0
StillFollow =
    (log : Log) (holders : Holders) (numbers : List ℕ) (h i page k : ℕ) (e : Entry) → Keeps log o5 → entry_at log h i ≡ Some e → page_number e ≡ Some (page, k)
    → slice_get numbers page ≡ Some k → page < length holders → h < length (row holders page)
    → Follow log holders numbers → Follow log (with_held holders page h (holds_then e)) (slice_set numbers page (k + 1))

-- and they are CREW, in a log that keeps O6
abbrev pub FollowIsCrew : Type 0
FollowIsCrew = (log : Log) (holders : Holders) (numbers : List ℕ) → Keeps log o6 → Follow log holders numbers → IsCrew holders
