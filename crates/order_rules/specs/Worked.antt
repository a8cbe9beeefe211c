-- Logs that were worked out by hand.
use Rattle.std.specs.Prelude.{ℕ, ◌≡◌, ◌*◌, ◌++◌, map, drop, List, [], ◌∷◌, Option, Some, None, replicate}
use Rattle.rv_words.specs.declared.shared.Mode.{Mode}
use Rattle.rv_words.specs.declared.shared.Mode.TheVariants.{Read, Write}
use Rattle.rv_words.specs.declared.shared.Input.{Input}
use Rattle.rv_words.specs.declared.shared.Input.TheVariants.{Nothing, Time}
use Rattle.rv_words.specs.Limits.{poll_distance}
use Rattle.orders_law.specs.Orders.{below}
use Rattle.rv_words.specs.declared.shared.Cause.{Cause}
use Rattle.rv_words.specs.declared.shared.Cause.TheVariants.{Stop, Limit, Full}
use Rattle.log_entry.specs.declared.waits.WaitFor.{WaitFor}
use Rattle.log_entry.specs.declared.log.Entry.{Entry}
use Rattle.log_entry.specs.declared.log.Entry.TheVariants.{Gain, Yield, Poll, Touch, End}
use Rattle.log_entry.specs.declared.log.Log.{Log}
use Rattle.order_rules.specs.Holders.{nobody, with_held}
use Rattle.order_rules.specs.Orderly.{Spot, rules, first_broken, IsOrderly, IsLeastBreak}

abbrev pub log_of : ℕ → ℕ → Cause → List (List Entry) → Log
log_of pages limit cause streams = record { pages = pages; limit = limit; image = replicate 32 0; streams = streams; cause = cause }

abbrev pub gain : ℕ → ℕ → ℕ → Mode → List WaitFor → Entry
gain count page seq mode waits = Gain count page seq mode (record { items = waits; room = 0 })

abbrev pub from : ℕ → ℕ → WaitFor
from hart count = record { hart = hart; count = count }

-- one hart that stores to STOP, with this limit, number of its Gain and ordinal of its Touch
abbrev pub smallest_log : ℕ → ℕ → ℕ → Log
smallest_log limit seq ord = log_of 1 limit Stop ((Poll 0 0 5 0 ∷ gain 0 0 seq Read [] ∷ Touch 2 ord Nothing ∷ End 3 ∷ []) ∷ [])

-- two harts that race for a word of page 1
abbrev pub race_log : Log
race_log = log_of 2 8 Limit (
    (Poll 0 0 5 0 ∷ gain 0 0 0 Read [] ∷ gain 1 1 0 Read [] ∷ gain 3 1 3 Write (from 1 3 ∷ []) ∷ Yield 8 1 4 None ∷ End 8 ∷ [])
    ∷ (Poll 0 1 5 0 ∷ gain 0 0 1 Read [] ∷ gain 1 1 1 Read [] ∷ Yield 3 1 2 None ∷ gain 3 1 5 Write (from 0 8 ∷ []) ∷ End 8 ∷ [])
    ∷ [])

-- two harts that gain a page with one number
abbrev pub twice_log : Log
twice_log = log_of 1 0 Limit ((gain 0 0 0 Read [] ∷ End 0 ∷ []) ∷ (gain 0 0 0 Read [] ∷ End 0 ∷ []) ∷ [])

-- two harts of which each waits for the other
abbrev pub crossed_log : Log
crossed_log = log_of 2 0 Limit ((gain 0 0 1 Read [] ∷ gain 0 1 0 Read [] ∷ End 0 ∷ []) ∷ (gain 0 1 1 Read [] ∷ gain 0 0 0 Read [] ∷ End 0 ∷ []) ∷ [])

-- one hart with this stream, of a board with two pages
abbrev pub alone : ℕ → List Entry → Log
alone limit entries = log_of 2 limit Limit (entries ∷ [])

abbrev pub beside : List Entry → List Entry → Log
beside a b = log_of 2 9000 Limit (a ∷ b ∷ [])

abbrev pub poll : ℕ → ℕ → ℕ → Entry
poll count ord time = Poll count ord time 0

abbrev pub touch : ℕ → ℕ → Input → Entry
touch count ord input = Touch count ord input

-- two harts of which one sends the other a software interrupt
abbrev pub interrupt_log : Log
interrupt_log = log_of 1 4102 Limit (
    (poll 0 0 5 ∷ gain 0 0 0 Read [] ∷ touch 4 2 Nothing ∷ poll 4096 5 5 ∷ End 4102 ∷ [])
    ∷ (poll 0 1 5 ∷ gain 0 0 1 Read [] ∷ Poll 4096 3 5 1 ∷ touch 4098 4 Nothing ∷ End 4102 ∷ [])
    ∷ [])

-- two harts of which one writes the code of the other
abbrev pub code_log : Log
code_log = log_of 1 12 Limit (
    (poll 0 0 5 ∷ gain 0 0 0 Read [] ∷ gain 4 0 3 Write (from 1 4 ∷ []) ∷ Yield 5 0 4 (Some Read) ∷ End 12 ∷ [])
    ∷ (poll 0 1 5 ∷ gain 0 0 1 Read [] ∷ Yield 4 0 2 None ∷ gain 4 0 5 Read (from 0 5 ∷ []) ∷ End 12 ∷ [])
    ∷ [])

-- three harts of which two gain page 0 in Read and yield it, and the third then gains it with these waits
abbrev pub third_waits : List WaitFor → Log
third_waits waits = log_of 1 9 Limit (
    (poll 0 0 5 ∷ gain 0 0 0 Read [] ∷ Yield 3 0 2 None ∷ End 9 ∷ [])
    ∷ (poll 0 1 5 ∷ gain 0 0 1 Read [] ∷ Yield 5 0 3 None ∷ End 9 ∷ [])
    ∷ (poll 0 2 5 ∷ gain 0 0 4 Write waits ∷ End 9 ∷ [])
    ∷ [])

-- three harts of which the first yields page 0 and the second gains it in Read, then in Write with its own waits; once it
-- has left Read, the third gains the page with the other waits
abbrev pub gained_again : List WaitFor → List WaitFor → Log
gained_again own other = log_of 1 9 Limit (
    (poll 0 0 5 ∷ gain 0 0 0 Write [] ∷ Yield 1 0 1 None ∷ End 9 ∷ [])
    ∷ (poll 0 1 5 ∷ gain 0 0 2 Read (from 0 1 ∷ []) ∷ gain 3 0 3 Write own ∷ Yield 4 0 4 (Some Read) ∷ End 9 ∷ [])
    ∷ (poll 0 2 5 ∷ gain 0 0 5 Read other ∷ End 9 ∷ [])
    ∷ [])

-- Polls at the first so many multiples of `poll_distance`
abbrev pub polls : ℕ → List Entry
polls n = map (λ k. poll (k * poll_distance) k 5) (below n)

abbrev pub full_log : Log
full_log = log_of 1 1000000 Full ((poll 0 0 5 ∷ gain 0 0 0 Read [] ∷ drop 1 (polls 42) ++ End 172032 ∷ []) ∷ [])

abbrev pub breaks_first : Log → Option (ℕ × Spot)
breaks_first log = first_broken log 1 rules

abbrev pub Breaks : Log → ℕ → ℕ → ℕ → Type 0
Breaks log rule hart entry = breaks_first log ≡ Some (rule, (hart, entry))

-- each rule from O1 to O8, broken in its several ways
pub record AreBroken : Type 0 where
  pub no_entry : Breaks (alone 9 []) 1 0 0
  pub no_end : Breaks (alone 9 (poll 0 0 5 ∷ [])) 1 0 1
  pub count_falls : Breaks (alone 9 (poll 1 0 5 ∷ gain 0 0 0 Read [] ∷ End 2 ∷ [])) 1 0 1
  pub end_in_mid_stream : Breaks (alone 9 (End 2 ∷ End 2 ∷ [])) 1 0 0
  pub poll_after_gain : Breaks (alone 9 (gain 0 0 0 Read [] ∷ poll 0 0 5 ∷ End 2 ∷ [])) 2 0 1
  pub two_polls : Breaks (alone 9 (poll 0 0 5 ∷ poll 0 1 5 ∷ End 2 ∷ [])) 2 0 1
  pub gain_after_touch : Breaks (alone 9 (poll 0 0 5 ∷ touch 0 1 Nothing ∷ gain 0 0 0 Read [] ∷ End 2 ∷ [])) 2 0 2
  pub two_touches : Breaks (alone 9 (poll 0 0 5 ∷ touch 0 1 Nothing ∷ touch 0 2 Nothing ∷ End 2 ∷ [])) 2 0 2
  pub end_at_touch : Breaks (alone 9 (poll 0 0 5 ∷ touch 0 1 Nothing ∷ End 0 ∷ [])) 2 0 2
  pub no_poll_at_first : Breaks (alone 9 (gain 0 0 0 Read [] ∷ gain 0 1 0 Read [] ∷ gain 1 1 1 Write [] ∷ End 3 ∷ [])) 3 0 2
  pub no_poll_later : Breaks (alone 9000 (poll 0 0 5 ∷ End 4097 ∷ [])) 3 0 1
  pub stray_poll : Breaks (alone 9 (poll 0 0 5 ∷ poll 1 1 5 ∷ End 2 ∷ [])) 3 0 1
  pub poll_at_limit : Breaks (alone 4096 (poll 0 0 5 ∷ poll 4096 1 5 ∷ End 4096 ∷ [])) 3 0 1
  pub poll_at_end : breaks_first (alone 9000 (poll 0 0 5 ∷ poll 4096 1 5 ∷ End 4096 ∷ [])) ≡ None
  pub number_left_out : Breaks (alone 9 (poll 0 0 5 ∷ gain 0 0 0 Read [] ∷ gain 0 0 2 Write [] ∷ End 2 ∷ [])) 5 0 2
  pub write_beside_read : Breaks (beside (poll 0 0 5 ∷ gain 0 0 0 Read [] ∷ End 1 ∷ []) (poll 0 1 5 ∷ gain 0 0 1 Write [] ∷ End 1 ∷ [])) 6 1 1
  pub read_beside_write : Breaks (beside (poll 0 0 5 ∷ gain 0 0 1 Read [] ∷ End 1 ∷ []) (poll 0 1 5 ∷ gain 0 0 0 Write [] ∷ End 1 ∷ [])) 6 0 1
  pub gains_no_more : Breaks (alone 9 (poll 0 0 5 ∷ gain 0 0 0 Write [] ∷ gain 0 0 1 Read [] ∷ End 2 ∷ [])) 6 0 2
  pub yields_nothing : Breaks (alone 9 (poll 0 0 5 ∷ gain 0 0 0 Read [] ∷ Yield 1 0 1 (Some Read) ∷ End 2 ∷ [])) 6 0 2
  pub yields_not_held : Breaks (alone 9 (poll 0 0 5 ∷ Yield 1 0 0 None ∷ End 2 ∷ [])) 6 0 1
  pub no_wait : Breaks (beside (poll 0 0 5 ∷ gain 0 0 0 Read [] ∷ Yield 1 0 1 None ∷ End 1 ∷ []) (poll 0 1 5 ∷ gain 0 0 2 Write [] ∷ End 1 ∷ [])) 7 1 1
  pub own_wait : Breaks (alone 9 (poll 0 0 5 ∷ gain 0 0 0 Write [] ∷ Yield 1 0 1 None ∷ gain 1 0 2 Read (from 0 1 ∷ []) ∷ End 2 ∷ [])) 7 0 3
  pub own_yield : breaks_first (alone 9 (poll 0 0 5 ∷ gain 0 0 0 Write [] ∷ Yield 1 0 1 None ∷ gain 1 0 2 Read [] ∷ End 2 ∷ [])) ≡ None
  pub waits_in_order : breaks_first (third_waits (from 0 3 ∷ from 1 5 ∷ [])) ≡ None
  pub wait_too_few : Breaks (third_waits (from 0 3 ∷ [])) 7 2 1
  pub wait_too_many : Breaks (third_waits (from 0 3 ∷ from 1 5 ∷ from 1 5 ∷ [])) 7 2 1
  pub wrong_count_of_a_wait : Breaks (third_waits (from 0 3 ∷ from 1 4 ∷ [])) 7 2 1
  pub wrong_hart_of_a_wait : Breaks (third_waits (from 1 3 ∷ from 1 5 ∷ [])) 7 2 1
  pub swapped_waits : Breaks (third_waits (from 1 5 ∷ from 0 3 ∷ [])) 7 2 1
  pub waits_of_the_latest : breaks_first (gained_again [] (from 1 4 ∷ [])) ≡ None
  pub yield_before_its_own_gain : Breaks (gained_again (from 0 1 ∷ []) (from 1 4 ∷ [])) 7 1 2
  pub yield_before_another_gain : Breaks (gained_again [] (from 0 1 ∷ from 1 4 ∷ [])) 7 2 1
  pub ordinal_twice : Breaks (beside (poll 0 0 5 ∷ End 1 ∷ []) (poll 0 0 5 ∷ End 1 ∷ [])) 8 1 0
  pub ordinal_left_out : Breaks (beside (poll 0 0 5 ∷ touch 1 1 (Time 4) ∷ End 2 ∷ []) (poll 0 3 5 ∷ End 1 ∷ [])) 8 1 0
  pub time_falls : Breaks (beside (poll 0 1 4 ∷ End 1 ∷ []) (poll 0 0 5 ∷ End 1 ∷ [])) 8 0 0
  pub input_falls : Breaks (alone 9 (poll 0 0 5 ∷ touch 0 1 Nothing ∷ touch 1 2 (Time 4) ∷ End 2 ∷ [])) 8 0 2
  pub nothing_has_no_time : breaks_first (alone 9 (poll 0 0 5 ∷ touch 0 1 Nothing ∷ touch 1 2 (Time 5) ∷ End 2 ∷ [])) ≡ None
  pub interrupt : breaks_first interrupt_log ≡ None
  pub code : breaks_first code_log ≡ None
  pub full : breaks_first full_log ≡ None

-- what each of three harts holds of two pages, once hart 2 has gained page 1 and hart 0 both pages
pub record HoldersAreKept : Type 0 where
  pub one : with_held (nobody 2 3) 1 2 (Some Read) ≡ (None ∷ None ∷ None ∷ []) ∷ (None ∷ None ∷ Some Read ∷ []) ∷ []
  pub three :
      with_held (with_held (with_held (nobody 2 3) 1 2 (Some Read)) 0 0 (Some Write)) 1 0 (Some Read)
      ≡ (Some Write ∷ None ∷ None ∷ []) ∷ (Some Read ∷ None ∷ Some Read ∷ []) ∷ []
  pub given_back : with_held (with_held (nobody 1 2) 0 1 (Some Write)) 0 1 None ≡ nobody 1 2

pub record AreJudged : Type 0 where
  pub broken : AreBroken
  pub held : HoldersAreKept
  pub smallest : IsOrderly (smallest_log 100 0 1)
  pub race : IsOrderly race_log
  pub twice : IsLeastBreak twice_log 5 1 0
  pub crossed : IsLeastBreak crossed_log 9 0 0
  pub end_above_limit : IsLeastBreak (smallest_log 2 0 1) 1 0 3
  pub number_of_gain : IsLeastBreak (smallest_log 100 1 1) 5 0 1
  pub ordinal_of_touch : IsLeastBreak (smallest_log 100 0 2) 8 0 2
