-- A log agrees with the console and the clock that were asked for it.
use Rattle.std.specs.Prelude.{ℕ, ◌≡◌, max, List, [], ◌∷◌, map, count_by, filter_map, Option, Some, None, is_some}
use Rattle.rv_words.specs.declared.shared.Input.{Input}
use Rattle.rv_words.specs.declared.shared.Input.TheVariants as inputs
use Rattle.log_entry.specs.declared.log.Entry.{Entry}
use Rattle.log_entry.specs.declared.log.Entry.TheVariants.{Touch}
use Rattle.log_entry.specs.declared.log.Log.{Log}
use Rattle.log_entry.specs.Parts.{ordinal_of, time_of}
use Rattle.outside.specs.declared.console.Asked.{Asked}
use Rattle.device_board.specs.Recording.{input_of}
use Rattle.orders_law.specs.Orders.{below}
use Rattle.order_rules.specs.Places.{entries}
use Rattle.order_rules.specs.Rules.{with_ordinal}
use Rattle.replay_model.specs.Flat.{Flat}

-- the input of a load of RX
abbrev pub console_input : Entry → Option Input
console_input (Touch count ord (inputs.Byte b)) = Some (inputs.Byte b)
console_input (Touch count ord inputs.Empty) = Some inputs.Empty
console_input _ = None

-- the Polls and Touches, in the order of their ordinals
abbrev pub by_ordinal : Log → List Entry
by_ordinal log = filter_map (with_ordinal log) (below (count_by (λ e. is_some (ordinal_of e)) (entries log)))

-- the times that answers of a clock make: each the greater of the answer and the time before it
abbrev pub times_from : ℕ → List ℕ → List ℕ
times_from time [] = []
times_from time (answer ∷ answers) = max answer time ∷ times_from (max answer time) answers

-- the time that the answers come to
abbrev pub time_after : ℕ → List ℕ → ℕ
time_after time [] = time
time_after time (answer ∷ answers) = time_after (max answer time) answers

-- a log that leads to a flat state agrees with what console and clock answered, and with the bytes that the console took
pub record Agree {S V : Type 0} (flat : Flat S V) (log : Log) (end : S) (asked : List Asked) (times : List ℕ) (took : List ℕ) : Type 0 where
  pub console : map input_of asked ≡ filter_map console_input (by_ordinal log)
  pub clock : times_from 0 times ≡ filter_map time_of (by_ordinal log)
  pub bytes : took ≡ flat.sent end
