-- What a hart that gains a page waits for, by the Yields of pages since their latest Gains.
use Rattle.std.specs.Prelude.{ℕ, ◌≡◌, ◌<◌, ◌≤◌, List, [], length, slice_get, slice_set, Option, Some, None, unwrap_or}
use Rattle.log_entry.specs.declared.waits.WaitFor.{WaitFor}
use Rattle.log_entry.specs.declared.log.Entry.{Entry}
use Rattle.order_rules.specs.Places.{numbered}
use Rattle.order_rules.specs.Rules.{waits_due, yields_after}
use Rattle.privilege_directory.specs.Directory.{by_others}
use Rattle.turn_model.specs.Recordable.{Recordable}
use Rattle.turn_model.specs.Board.{Board, Terms, log_of}
use Rattle.turn_model.specs.Steps.{next_number}

abbrev pub yields_in : List (List WaitFor) → ℕ → List WaitFor
yields_in yields page = unwrap_or (slice_get yields page) []

-- those of all pages, after an entry by a hart, of this page and number, if of any
abbrev pub yields_by : ℕ → Entry → Option (ℕ × ℕ) → List (List WaitFor) → List (List WaitFor)
yields_by h e None yields = yields
yields_by h e (Some p) yields = slice_set yields p.0 (yields_after h e (yields_in yields p.0))

-- no entry of a page has its next number or a greater one, and a Gain with the next number waits for the Yields by others
pub record AreYields {S V : Type 0} (machine : Recordable S V) (terms : Terms) (b : Board S) (yields : List (List WaitFor)) : Type 0 where
  pub size : length yields ≡ length b.at.cursor.numbers
  pub none_yet : (page k : ℕ) → next_number b page ≤ k → numbered (log_of machine terms b) page k ≡ None
  pub waits : (page h : ℕ) → page < length yields
      → waits_due (log_of machine terms b) page h (next_number b page) ≡ by_others h (yields_in yields page)
