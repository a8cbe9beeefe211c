-- How a turn goes on, and how an entry is made in it (docs/recorder.md).
use Rattle.std.specs.Prelude.{ℕ, ◌+◌, ◌++◌, ◌∷◌, nat_le, Bool, List, [], length, slice_set, Option, Some, None, if◌then◌else◌}
use Rattle.std.specs.Option.{option_map}
use Rattle.rv_words.specs.declared.shared.Cause.TheVariants.{Full}
use Rattle.log_entry.specs.Parts.{unit_of}
use Rattle.log_entry.specs.Size.{size_in, size_of_log}
use Rattle.log_entry.specs.declared.log.Entry.{Entry}
use Rattle.replay_model.specs.Items.{Makes, made}
use Rattle.turn_model.specs.Recordable.{Recordable}
use Rattle.turn_model.specs.Board.{Board, Order, Rest, Terms, stream, closes, ended_streams, log_of}

-- a turn goes on, or has ended with an order; or there is none, since the clock has no answer left or an item can't be made
pub data Way (S : Type 0) : Type 0 where
  On : Board S → Way S
  Ends : Order → Board S → Way S
  Nowhere : Way S

-- the steps of a turn, one after another, as long as it goes on
abbrev pub goes : {S : Type 0} → List (Board S → Way S) → Way S → Way S
goes [] way = way
goes (step ∷ steps) (On b) = goes steps (step b)
goes (step ∷ steps) way = way

abbrev pub on : {S : Type 0} → Option (Board S) → Way S
on None = Nowhere
on (Some b) = On b

module _ {S V : Type 0} (machine : Recordable S V) (terms : Terms) where
  -- the bytes of the log, were the run to end here
  abbrev pub log_size : Board S → ℕ
  log_size b = size_of_log (unit_of (log_of machine terms b)) (ended_streams machine terms b)

  -- it stays within the log limit with this entry
  abbrev pub has_room : Entry → Board S → Bool
  has_room e b = nat_le (log_size b + size_in (unit_of (log_of machine terms b)) (length b.streams) e) terms.log_limit

  -- a step that makes an entry of this size; without room for it the board closes, and nothing is made or asked
  abbrev pub with_room : Entry → (Board S → Way S) → Board S → Way S
  with_room e step b = if has_room e b then step b else Ends Rest (closes Full b)

  -- the hart makes the entry, which is then the last of its stream
  abbrev pub entered : ℕ → Entry → Board S → Option (Board S)
  entered h e b = option_map (λ s. record b { at = s; streams = slice_set b.streams h (stream b h ++ e ∷ []) }) (made machine.flat b.at h (Makes e))
