-- A directory along a log: what its calls leave and give is what the log asks for.
use Rattle.std.specs.Prelude.{ℕ, ◌≡◌, ◌<◌, List, [], ◌∷◌, length, slice_index, Some, IsTrue}
use Rattle.std.specs.Option.{option_map_or}
use Rattle.orders_law.specs.Orders.{Leads}
use Rattle.log_entry.specs.declared.log.Entry.{Entry}
use Rattle.log_entry.specs.declared.log.Entry.TheVariants.{Gain, Yield}
use Rattle.log_entry.specs.declared.log.Log.{Log}
use Rattle.log_entry.specs.Parts.{strength, units_of}
use Rattle.order_rules.specs.Places.{entry_at}
use Rattle.order_rules.specs.Rules.{waits_due}
use Rattle.order_rules.specs.Orderly.{Keeps, o5, o6, o7}
use Rattle.order_rules.specs.Cursor.{Cursor, start, take_one}
use Rattle.order_rules.specs.Holders.{held}
use Rattle.order_rules.specs.Laws.{Follow}
use Rattle.privilege_directory.specs.Directory.{Directory, directory_at_start, may_gain, gained, yielded, by_others, yields_of}

-- what the call for an entry of a hart leaves: `gain` for a Gain, `yield_to` for a Yield
abbrev pub left_by : Directory → ℕ → Entry → Directory
left_by d h (Gain count page seq mode waits) = gained d h page mode
left_by d h (Yield count page seq left) = yielded d h page count left
left_by d h entry = d

-- the calls for these entries of a log, each by its hart and place
abbrev pub left_by_all : Log → Directory → List (ℕ × ℕ) → Directory
left_by_all log d [] = d
left_by_all log d (x ∷ xs) = left_by_all log (option_map_or (left_by d x.0) (entry_at log x.0 x.1) d) xs

-- from a directory's start, as its log's entries are taken in this order
abbrev pub directory_along : Log → List (ℕ × ℕ) → Directory
directory_along log order = left_by_all log (directory_at_start (length log.streams) (units_of log)) order

-- the entries of a log can be taken in this order, which leads to the cursor
abbrev pub AreTaken : Log → List (ℕ × ℕ) → Cursor → Type 0
AreTaken log order c = Leads (take_one log) (start log) order c

-- the directory has of each page the next number, what each hart holds before it, and the Yields that a Gain by any hart with
-- that number has to wait for, beside its own
pub record StandsAt (log : Log) (c : Cursor) (d : Directory) : Type 0 where
  pub numbers : d.numbers ≡ c.numbers
  pub holders : Follow log d.holders d.numbers
  pub waits : (page h : ℕ) → page < length d.yields → waits_due log page h (slice_index d.numbers page) ≡ by_others h (yields_of d page)

-- the call for an entry gives what the entry has: `gain` its number and its waits, `yield_to` its number
abbrev pub IsGiven : Directory → ℕ → Entry → Type 0
IsGiven d h (Gain count page seq mode waits) = (slice_index d.numbers page ≡ seq) × (by_others h (yields_of d page) ≡ waits.items)
IsGiven d h (Yield count page seq left) = slice_index d.numbers page ≡ seq
IsGiven d h entry = Unit {0}

-- no hold stands against an entry: a Gain is allowed, and a Yield leaves less than is held
abbrev pub MayCall : Directory → ℕ → Entry → Type 0
MayCall d h (Gain count page seq mode waits) = IsTrue (may_gain d h page mode)
MayCall d h (Yield count page seq left) = strength left < strength (held d.holders page h)
MayCall d h entry = Unit {0}

-- in a log that keeps O5
abbrev pub AlongOrders : Type 0
AlongOrders = (log : Log) (order : List (ℕ × ℕ)) (c : Cursor) → Keeps log o5 → AreTaken log order c → StandsAt log c (directory_along log order)

-- a hart can take this entry next, after these were taken
pub record IsNext (log : Log) (order : List (ℕ × ℕ)) (h : ℕ) (e : Entry) : Type 0 where
  pub before : Cursor
  pub after : Cursor
  pub place : ℕ
  pub taken : AreTaken log order before
  pub next : take_one log h before ≡ Some (after, place)
  pub entry : entry_at log h place ≡ Some e

-- in a log that keeps O5 and O7, the next entry is what the directory gives
abbrev pub GivesEntries : Type 0
GivesEntries =
    (log : Log) (order : List (ℕ × ℕ)) (h : ℕ) (e : Entry) → Keeps log o5 → Keeps log o7 → IsNext log order h e → IsGiven (directory_along log order) h e

-- in a log that keeps O5 and O6, no hold stands against it
abbrev pub AllowsEntries : Type 0
AllowsEntries =
    (log : Log) (order : List (ℕ × ℕ)) (h : ℕ) (e : Entry) → Keeps log o5 → Keeps log o6 → IsNext log order h e → MayCall (directory_along log order) h e
