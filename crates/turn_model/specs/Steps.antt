-- The steps of a turn, in their order (docs/recorder.md).
use Rattle.std.specs.Prelude.{ℕ, zero, suc, ◌+◌, ◌-◌, ◌*◌, ◌/◌, ◌%◌, ◌==◌, ◌&&◌, ◌||◌, not, nat_lt, max, min, Bool, List, [], ◌∷◌, map, length, slice_index}
use Rattle.std.specs.Prelude.{slice_set, Option, Some, None, is_some, if◌then◌else◌}
use Rattle.std.specs.Option.{option_map, option_and_then}
use Rattle.rv_words.specs.Limits.{poll_distance}
use Rattle.rv_words.specs.declared.shared.Mode.{Mode}
use Rattle.rv_words.specs.declared.shared.Input.{Input}
use Rattle.rv_words.specs.declared.shared.Input.TheVariants.{Nothing}
use Rattle.rv_words.specs.declared.shared.Cause.TheVariants as causes
use Rattle.rv_words.specs.declared.shared.DeviceWord.{DeviceWord}
use Rattle.rv_words.specs.declared.shared.DeviceWord.TheVariants.{TimeLow, TimeHigh, Rx, Tx}
use Rattle.log_entry.specs.declared.log.Entry.{Entry}
use Rattle.log_entry.specs.declared.log.Entry.TheVariants.{Gain, Yield, Poll, Touch}
use Rattle.log_entry.specs.Parts.{conflict}
use Rattle.outside.specs.declared.console.Asked.{Asked}
use Rattle.outside.specs.declared.console.Asked.TheVariants as said
use Rattle.device_board.specs.Recording.{recorded_input}
use Rattle.order_rules.specs.Rules.{has_poll, waits_due}
use Rattle.order_rules.specs.Holders.{held}
use Rattle.replay_model.specs.State.{Replay}
use Rattle.replay_model.specs.Items.{Move, goes, verdict_on}
use Rattle.replay_model.specs.Journal.{left_for}
use Rattle.turn_model.specs.Recordable.{Recordable}
use Rattle.turn_model.specs.Board.{Board, Go, Hold, Rest, Supply, Terms, harts, stream, wanted, closes, count, is_at_limit, log_of}
use Rattle.turn_model.specs.Claims.{stands_before, holds_so, kept_by, needed, claims_against}
use Rattle.turn_model.specs.Ways.{Way, On, Ends, Nowhere, on, with_room, entered}
use Rattle.turn_model.specs.Ways as ways

-- the favoured hart is the one after h
abbrev pub passes_favour : {S : Type 0} → ℕ → Board S → Board S
passes_favour h b = record b { favoured = (h + 1) % length b.streams }

abbrev pub with_want : {S : Type 0} → ℕ → Option (ℕ × Mode) → Board S → Board S
with_want h want b = record b { wants = slice_set b.wants h want }

abbrev pub next_number : {S : Type 0} → Board S → ℕ → ℕ
next_number b page = slice_index b.at.cursor.numbers page

-- what the console answers an access, where what it has left covers this
abbrev pub console_gives : DeviceWord → Option ℕ → Supply → Option (Asked × Supply)
console_gives Rx None o = first o.answers where
  first : List Asked → Option (Asked × Supply)
  first [] = None
  first (answer ∷ answers) = Some (answer, record o { answers = answers })
console_gives Tx (Some v) o = one o.takes where
  one : ℕ → Option (Asked × Supply)
  one zero = None
  one (suc takes) = Some (said.Nothing, record o { takes = takes })
console_gives word store o = Some (said.Nothing, o)

abbrev pub clock_answers : List ℕ → Supply → Option (ℕ × Supply)
clock_answers [] o = None
clock_answers (time ∷ times) o = Some (time, record o { times = times })

-- what the clock answers an access: it is asked for a load of a half of mtime alone
abbrev pub clock_gives : DeviceWord → Option ℕ → Supply → Option (ℕ × Supply)
clock_gives TimeLow None o = clock_answers o.times o
clock_gives TimeHigh None o = clock_answers o.times o
clock_gives word store o = Some (0, o)

-- the least count at which a Poll is due, not below this one, that has none yet: no greater one has
abbrev pub next_poll : ℕ → List Entry → ℕ
next_poll count entries = from ((count + (poll_distance - 1)) / poll_distance * poll_distance) where
  from : ℕ → ℕ
  from due = if has_poll entries due then due + poll_distance else due

module _ {S V : Type 0} (machine : Recordable S V) (terms : Terms) where
  -- so many Runs of a hart, that need only pages held so and touch no device
  abbrev pub runs : ℕ → ℕ → Replay S → Option (Replay S)
  runs h zero s = Some s
  runs h (suc n) s = option_and_then (λ m. runs h n m.0) (goes machine.flat s h Move (verdict_on machine.flat s h Move))

  abbrev pub passes : ℕ → ℕ → Board S → Board S
  passes h n b = if (h == b.favoured) && (nat_lt 0 n || is_at_limit machine terms b h) then passes_favour h b else b

  -- the moves since the last turn are made; the favoured hart passes the favour on, where it made one or is at the limit; and
  -- the stored want is cleared
  abbrev pub commits : ℕ → ℕ → Board S → Option (Board S)
  commits h n b = option_map (λ s. with_want h None (passes h n (record b { at = s }))) (runs h n b.at)

  abbrev pub rests_where_closed : Board S → Way S
  rests_where_closed b = if is_some b.closed || machine.flat.is_stopped b.at.flat then Ends Rest b else On b

  abbrev pub rests_at_limit : ℕ → Board S → Way S
  rests_at_limit h b = if is_at_limit machine terms b h then Ends Rest b else On b

  abbrev pub is_due : ℕ → Board S → Bool
  is_due h b = nat_lt (count machine terms b h) terms.limit
      && ((count machine terms b h % poll_distance == 0) && not (has_poll (stream b h) (count machine terms b h)))

  abbrev pub poll_at : ℕ → Board S → ℕ → Entry
  poll_at h b time = Poll (count machine terms b h) b.at.cursor.ordinal time (machine.flat.lines_at b.at.flat h time)

  -- at the greater of the clock's answer and mtime
  abbrev pub polls_with : ℕ → Board S → Option (ℕ × Supply) → Way S
  polls_with h b None = Nowhere
  polls_with h b (Some (time, left)) = on (entered machine terms h (poll_at h b (max time (machine.flat.time b.at.flat))) (record b { supply = left }))

  -- a Poll that is due
  abbrev pub polls : ℕ → Board S → Way S
  polls h b = if is_due h b then with_room machine terms (poll_at h b 0) (λ c. polls_with h c (clock_answers c.supply.times c.supply)) b else On b

  abbrev pub yield_of : ℕ → ℕ × Mode → Board S → Entry
  yield_of h n b = Yield (count machine terms b h) n.0 (next_number b n.0) (left_for n.1)

  -- a want that conflicts with what h holds, unless h claims the page against it and stands before the hart that wants it
  abbrev pub yields_now : ℕ → ℕ → ℕ × Mode → Board S → Bool
  yields_now h g n b = conflict (held b.at.holders n.0 h) (Some n.1) && not (claims_against machine terms b h n.0 n.1 && stands_before b h g)

  abbrev pub yields_for : ℕ → ℕ → Option (ℕ × Mode) → Board S → Way S
  yields_for h g None b = On b
  yields_for h g (Some n) b = if yields_now h g n b then with_room machine terms (yield_of h n b)
      (λ c. on (entered machine terms h (yield_of h n c) c)) b else On b

  -- a page is yielded to another hart that has stored a want of it
  abbrev pub yields_to : ℕ → ℕ → Board S → Way S
  yields_to h g b = if g == h then On b else yields_for h g (wanted b g) b

  abbrev pub yields : ℕ → Board S → Way S
  yields h b = ways.goes (map (yields_to h) (harts b)) (On b)

  abbrev pub gain_of : ℕ → ℕ × Mode → Board S → Entry
  gain_of h n b = Gain (count machine terms b h) n.0 (next_number b n.0) n.1
      (record { items = waits_due (log_of machine terms b) n.0 h (next_number b n.0); room = 0 })

  abbrev pub gains_unless : Option ℕ → ℕ → ℕ × Mode → Board S → Way S
  gains_unless None h n b = with_room machine terms (gain_of h n b) (λ c. on (entered machine terms h (gain_of h n c) c)) b
  gains_unless (Some g) h n b = Ends (Hold n.0 g) (with_want h (Some n) b)

  -- a page that isn't held so is gained, or the want is stored where another hart keeps it
  abbrev pub gains_page : ℕ → ℕ × Mode → Board S → Way S
  gains_page h n b = if holds_so b h n then On b else gains_unless (kept_by b h n) h n b

  -- the fetch page comes first
  abbrev pub gains : ℕ → Board S → Way S
  gains h b = ways.goes (map (gains_page h) (needed machine terms b h)) (On b)

  abbrev pub touch_of : ℕ → Board S → Input → Entry
  touch_of h b input = Touch (count machine terms b h) b.at.cursor.ordinal input

  -- behind a Touch: a store to STOP closes the board, else the favoured hart passes the favour on
  abbrev pub behind_touch : ℕ → Board S → Way S
  behind_touch h b = if machine.flat.is_stopped b.at.flat then Ends Rest (closes causes.Stop b) else On (if h == b.favoured then passes_favour h b else b)

  abbrev pub touched : ℕ → Option (Board S) → Way S
  touched h None = Nowhere
  touched h (Some b) = behind_touch h b

  abbrev pub touches_at : ℕ → DeviceWord → Option ℕ → Asked → Board S → Option (ℕ × Supply) → Way S
  touches_at h word store answer b None = Nowhere
  touches_at h word store answer b (Some (now, left)) =
      touched h (entered machine terms h (touch_of h b (recorded_input word store (machine.flat.time b.at.flat) now answer)) (record b { supply = left }))

  -- a console that fails closes the board
  abbrev pub touches_with : ℕ → DeviceWord → Option ℕ → Board S → Option (Asked × Supply) → Way S
  touches_with h word store b None = Ends Rest (closes causes.Fault b)
  touches_with h word store b (Some (answer, left)) = touches_at h word store answer b (clock_gives word store left)

  abbrev pub accesses : ℕ → Option (DeviceWord × Option ℕ) → Board S → Way S
  accesses h None b = On b
  accesses h (Some (word, store)) b = with_room machine terms (touch_of h b Nothing) (λ c. touches_with h word store c (console_gives word store c.supply)) b

  -- a device access is made, with its input
  abbrev pub touches : ℕ → Board S → Way S
  touches h b = accesses h (machine.access b.at.flat h) b

  -- up to the lesser of the limit and the next Poll that is due
  abbrev pub goes_on : ℕ → Board S → Way S
  goes_on h b = Ends (Go (min terms.limit (next_poll (count machine terms b h) (stream b h)))) b

  -- what follows the moves, in this order
  abbrev pub steps : ℕ → List (Board S → Way S)
  steps h = rests_where_closed ∷ polls h ∷ yields h ∷ rests_at_limit h ∷ gains h ∷ touches h ∷ rests_at_limit h ∷ goes_on h ∷ []
