-- Orderly logs, and what is reported of another.
use Rattle.std.specs.Prelude.{ℕ, ◌≡◌, ◌+◌, ◌||◌, ◌⊎◌, Bool, List, [], ◌∷◌, map, flat_map, find, length, Option, Some, None}
use Rattle.std.specs.List.{enumerate_from}
use Rattle.std.specs.Option.{option_map_or}
use Rattle.orders_law.specs.Orders.{below}
use Rattle.log_entry.specs.declared.log.Log.{Log}
use Rattle.log_entry.specs.Parts.{is_some_and}
use Rattle.order_rules.specs.Places.{Placed, entry_at}
use Rattle.order_rules.specs.Cursor.{Cursor, IsLeastOrder, least_left}
use Rattle.order_rules.specs.Rules.{breaks_o1, lacks_end, breaks_o2, breaks_o3, breaks_o4, breaks_o5, breaks_o6, breaks_o7, breaks_o8}

-- a hart and a place in its stream
abbrev pub Spot : Type 0
Spot = ℕ × ℕ

-- each place of each stream, and the one at its end, by hart and then by place
abbrev pub spots : Log → List Spot
spots log = flat_map (λ s. map (λ i. (s.0, i)) (below (length s.1 + 1))) (enumerate_from 0 log.streams)

-- the entry that stands there, if one does, passes the test
abbrev pub at_entry : (Placed → Bool) → Log → Spot → Bool
at_entry test log p = is_some_and (entry_at log p.0 p.1) (λ e. test (record { hart = p.0; place = p.1; entry = e }))

-- the rules O1 to O8, each with the spots that break it
abbrev pub o1 : Log → Spot → Bool
o1 log p = at_entry (breaks_o1 log) log p || lacks_end log p.0 p.1

abbrev pub o2 : Log → Spot → Bool
o2 log = at_entry (breaks_o2 log) log

abbrev pub o3 : Log → Spot → Bool
o3 log = at_entry (breaks_o3 log) log

abbrev pub o4 : Log → Spot → Bool
o4 log = at_entry (breaks_o4 log) log

abbrev pub o5 : Log → Spot → Bool
o5 log = at_entry (breaks_o5 log) log

abbrev pub o6 : Log → Spot → Bool
o6 log = at_entry (breaks_o6 log) log

abbrev pub o7 : Log → Spot → Bool
o7 log = at_entry (breaks_o7 log) log

abbrev pub o8 : Log → Spot → Bool
o8 log = at_entry (breaks_o8 log) log

abbrev pub rules : List (Log → Spot → Bool)
rules = o1 ∷ o2 ∷ o3 ∷ o4 ∷ o5 ∷ o6 ∷ o7 ∷ o8 ∷ []

-- no spot of the log breaks the rule
abbrev pub Keeps : Log → (Log → Spot → Bool) → Type 0
Keeps log rule = find (rule log) (spots log) ≡ None

-- O9: what the least order leaves, the least entry of it, or nothing
abbrev pub LeastOrderLeaves : Log → Option Spot → Type 0
LeastOrderLeaves log p = (legs : List (ℕ × ℕ)) × ((c : Cursor) × IsLeastOrder log legs c × (least_left log c ≡ p))

-- an orderly log
pub record IsOrderly (log : Log) : Type 0 where
  pub counts_rise_to_the_end : Keeps log o1
  pub kinds_in_order_at_a_count : Keeps log o2
  pub polls_where_due : Keeps log o3
  pub touches_go_on : Keeps log o4
  pub pages_are_numbered : Keeps log o5
  pub holders_are_crew : Keeps log o6
  pub gains_name_their_waits : Keeps log o7
  pub ordinals_and_times_rise : Keeps log o8
  pub least_order_takes_all : LeastOrderLeaves log None

-- the least of these rules that is broken, the first of them having this number, and the first spot that breaks it
abbrev pub first_broken : Log → ℕ → List (Log → Spot → Bool) → Option (ℕ × Spot)
first_broken log n [] = None
first_broken log n (rule ∷ others) = option_map_or (λ p. Some (n, p)) (find (rule log) (spots log)) (first_broken log (n + 1) others)

-- the least rule that a log breaks, and the least hart and entry that break it
abbrev pub IsLeastBreak : Log → ℕ → ℕ → ℕ → Type 0
IsLeastBreak log rule hart entry =
    (first_broken log 1 rules ≡ Some (rule, (hart, entry)))
    ⊎ ((rule ≡ 9) × (first_broken log 1 rules ≡ None) × LeastOrderLeaves log (Some (hart, entry)))
