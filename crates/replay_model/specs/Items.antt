-- The next item of a hart, and whether it goes.
use Rattle.std.specs.Prelude.{ℕ, ◌≡◌, ◌==◌, ◌&&◌, not, Bool, List, [], ◌∷◌, find, map, filter_map, Option, Some, None, is_some, option_map, if◌then◌else◌}
use Rattle.rv_words.specs.declared.shared.Mode.{Mode}
use Rattle.log_entry.specs.declared.log.Entry.{Entry}
use Rattle.log_entry.specs.declared.log.Entry.TheVariants as entries
use Rattle.log_entry.specs.declared.log.Log.{Log}
use Rattle.log_entry.specs.Parts.{count_of, is_end, strength}
use Rattle.orders_law.specs.Orders.{Leads, IsFull}
use Rattle.order_rules.specs.Places.{is_number}
use Rattle.order_rules.specs.Cursor.{first_left, guard_is_met, taken}
use Rattle.replay_model.specs.Flat.{Flat}
use Rattle.flat_machine.specs.declared.act.Act.{Act}
use Rattle.flat_machine.specs.declared.act.Act.TheVariants.{Run, Touch, Poll, Lose}
use Rattle.order_rules.specs.Holders.{held, with_held}
use Rattle.replay_model.specs.State.{Replay, want}

pub data Item : Type 0 where
  Ended : Item
  Move : Item
  Makes : Entry → Item

pub data Verdict : Type 0 where
  HasEnded : Verdict
  Holds : Verdict
  CanGo : Verdict
  HasDiverged : ℕ → Verdict

-- the next entry where its count is the hart's, and else a move without device access
abbrev pub item_at : ℕ → Option Entry → Item
item_at count None = Move
item_at count (Some e) = if not (count_of e == count) then Move else if is_end e then Ended else Makes e

-- what is asked of an item, and what it does: neither depends on the log
module _ {S V : Type 0} (flat : Flat S V) where
  -- the rules that the item may break, rising, each with whether it does
  abbrev pub tests : Replay S → ℕ → Item → List (ℕ × Bool)
  tests s h Move =
      (1, is_some (want flat s h)) ∷ (2, flat.is_at_device s.flat h) ∷ []
  tests s h (Makes (entries.Touch count ord input)) =
      (1, is_some (want flat s h)) ∷ (3, not (flat.is_at_device s.flat h)) ∷ (4, not (flat.suits s.flat h input)) ∷ (6, flat.is_stopped s.flat) ∷ []
  tests s h (Makes (entries.Poll count ord time bits)) =
      (5, not (flat.lines_at s.flat h time == bits)) ∷ (6, flat.is_stopped s.flat) ∷ []
  tests s h _ = []

  -- the least rule that it breaks
  abbrev pub broken_rule : Replay S → ℕ → Item → Option ℕ
  broken_rule s h item = option_map (λ t. t.0) (find (λ t. t.1) (tests s h item))

  abbrev pub judged : Option ℕ → Verdict
  judged None = CanGo
  judged (Some rule) = HasDiverged rule

  abbrev pub verdict_on : Replay S → ℕ → Item → Verdict
  verdict_on s h Ended = HasEnded
  verdict_on s h Move = judged (broken_rule s h Move)
  verdict_on s h (Makes e) = if guard_is_met s.cursor e then judged (broken_rule s h (Makes e)) else Holds

  abbrev pub acted : Replay S → Act → Option (Replay S)
  acted s act = option_map (λ f. record s { flat = f }) (flat.next s.flat act)

  abbrev pub holds : ℕ → ℕ → Option Mode → Replay S → Replay S
  holds page h hold s = record s { holders = with_held s.holders page h hold }

  -- a hart yields from Write the page of its reservation
  abbrev pub ends_reservation : Replay S → ℕ → ℕ → Bool
  ends_reservation s h page = (strength (held s.holders page h) == 2) && is_number page (flat.reserved_page s.flat h)

  -- what an entry does, but for the cursor
  abbrev pub effect : Replay S → ℕ → Entry → Option (Replay S)
  effect s h (entries.Gain count page seq mode waits) = Some (holds page h (Some mode) s)
  effect s h (entries.Yield count page seq left) = option_map (holds page h left) (if ends_reservation s h page then acted s (Lose h) else Some s)
  effect s h (entries.Poll count ord time bits) = acted s (Poll h time)
  effect s h (entries.Touch count ord input) = acted s (Touch h input)
  effect s h (entries.End count) = None

  abbrev pub past : ℕ → Entry → Replay S → Replay S
  past h e s = record s { cursor = taken s.cursor h e }

  -- the state after the item
  abbrev pub made : Replay S → ℕ → Item → Option (Replay S)
  made s h Ended = None
  made s h Move = acted s (Run h)
  made s h (Makes e) = option_map (past h e) (effect s h e)

  -- a Run or a Touch is a move, of which a story tells
  abbrev pub told_of : Replay S → ℕ → Item → Replay S → Option V
  told_of s h Move t = Some (flat.told s.flat h t.flat)
  told_of s h (Makes (entries.Touch count ord input)) t = Some (flat.told s.flat h t.flat)
  told_of s h _ t = None

  abbrev pub goes : Replay S → ℕ → Item → Verdict → Option (Replay S × Option V)
  goes s h item CanGo = option_map (λ t. (t, told_of s h item t)) (made s h item)
  goes s h item _ = None

-- a replay under a log
module _ {S V : Type 0} (flat : Flat S V) (log : Log) where
  abbrev pub next_item : Replay S → ℕ → Item
  next_item s h = item_at (flat.count s.flat h) (first_left log s.cursor h)

  abbrev pub verdict : Replay S → ℕ → Verdict
  verdict s h = verdict_on flat s h (next_item s h)

  -- a hart that can go makes its next item; with it stands the move that a story tells of, if it is one
  abbrev pub step : ℕ → Replay S → Option (Replay S × Option V)
  step h s = goes flat s h (next_item s h) (verdict s h)

  -- each hart in turn can go, and they lead from s to t
  abbrev pub Obeys : Replay S → List ℕ → Replay S → Type 0
  Obeys s order t = (made : List (ℕ × Option V)) × (map (λ m. m.0) made ≡ order) × Leads step s made t

  -- such an order, at whose end no hart can go
  abbrev pub IsFullOrder : Replay S → List ℕ → Replay S → Type 0
  IsFullOrder s order t = (made : List (ℕ × Option V)) × (map (λ m. m.0) made ≡ order) × IsFull step s made t

  -- the moves of a hart along an order
  abbrev pub story : ℕ → List (ℕ × Option V) → List V
  story h made = filter_map (λ m. if m.0 == h then m.1 else None) made
