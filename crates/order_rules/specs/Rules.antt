-- The order rules: which entries of a log break them.
use Rattle.std.specs.Prelude.{ℕ, zero, suc, ◌==◌, ◌+◌, ◌*◌, ◌-◌, ◌/◌, ◌%◌, ◌&&◌, ◌||◌, not, nat_lt, nat_le, Bool, false, List, [], ◌∷◌, ◌++◌, map, count_by}
use Rattle.std.specs.Prelude.{find, length, slice_get, Option, Some, None, is_some, unwrap_or, option_and_then, if◌then◌else◌}
use Rattle.std.specs.List.{list_any, list_all}
use Rattle.std.specs.Option.{option_map_or}
use lib.Pointwise.{pointwise}
use Rattle.rv_words.specs.declared.shared.Mode.{Mode}
use Rattle.rv_words.specs.Limits.{poll_distance}
use Rattle.log_entry.specs.declared.waits.WaitFor.{WaitFor}
use Rattle.log_entry.specs.declared.log.Entry.{Entry}
use Rattle.log_entry.specs.declared.log.Entry.TheVariants.{Gain, Yield}
use Rattle.orders_law.specs.Orders.{below}
use Rattle.log_entry.specs.declared.log.Log.{Log}
use Rattle.log_entry.specs.Parts.{count_of, is_end, is_poll, is_touch, page_number, ordinal_of, time_of, holds_then, strength, conflict, is_some_and}
use Rattle.order_rules.specs.Places.{Placed, placed, harts, stream, before, previous, entries, earlier, is_number, number_on, numbered}

abbrev pub last_of : List Entry → Option Entry
last_of s = slice_get s (length s - 1)

-- O1. Counts in a stream don't fall; End stands last, once, and is at most the limit.
abbrev pub breaks_o1 : Log → Placed → Bool
breaks_o1 log x =
    is_some_and (previous log x) (λ p. nat_lt (count_of x.entry) (count_of p))
    || (is_end x.entry && (not (x.place + 1 == length (stream log x.hart)) || nat_lt log.limit (count_of x.entry)))

-- the stream has no End at its end, and this place is its length
abbrev pub lacks_end : Log → ℕ → ℕ → Bool
lacks_end log h i = (i == length (stream log h)) && not (is_some_and (last_of (stream log h)) is_end)

-- O2. At one count stand at most one Poll first, then Gains and Yields, then at most one Touch or End.
abbrev pub breaks_o2 : Log → Placed → Bool
breaks_o2 log x = list_any (λ e. (count_of e == count_of x.entry) && (is_touch e || is_end e || is_poll x.entry)) (before log x)

-- the multiples of `poll_distance` below a count
abbrev pub polls_due : ℕ → List ℕ
polls_due count = map (λ k. k * poll_distance) (below ((count + (poll_distance - 1)) / poll_distance))

-- the count of the stream's last entry, which is its End
abbrev pub end_count : List Entry → ℕ
end_count s = option_map_or count_of (last_of s) 0

abbrev pub has_poll : List Entry → ℕ → Bool
has_poll s count = list_any (λ e. is_poll e && (count_of e == count)) s

-- a Poll may stand at each multiple of `poll_distance` below the End's count, and at the End's own count below the limit
abbrev pub may_poll : Log → ℕ → ℕ → Bool
may_poll log end count = (count % poll_distance == 0) && (nat_lt count end || ((count == end) && nat_lt count log.limit))

-- the first entry of its stream with a count above this one
abbrev pub is_first_above : Log → Placed → ℕ → Bool
is_first_above log x count = nat_lt count (count_of x.entry) && list_all (λ e. nat_le (count_of e) count) (before log x)

-- O3. Each multiple of `poll_distance` below the End's count has one Poll, and a Poll stands nowhere else but where it may.
abbrev pub breaks_o3 : Log → Placed → Bool
breaks_o3 log x =
    let s = stream log x.hart in
    (is_poll x.entry && not (may_poll log (end_count s) (count_of x.entry)))
    || list_any (λ due. not (has_poll s due) && is_first_above log x due) (polls_due (end_count s))

-- O4. The entry after a Touch has a greater count.
abbrev pub breaks_o4 : Log → Placed → Bool
breaks_o4 log x = is_some_and (previous log x) (λ p. is_touch p && nat_le (count_of x.entry) (count_of p))

-- Numbers are 0, 1, 2 and so on, each once: one is wrong where it isn't below how many there are, or stands already earlier.
abbrev pub is_misnumbered : (Entry → Option ℕ) → Log → Placed → Bool
is_misnumbered number log x = is_some_and (number x.entry) (λ n.
    nat_le (count_by (λ e. is_some (number e)) (entries log)) n || list_any (λ e. is_number n (number e)) (earlier log x))

-- O5. The Gains and Yields of a page carry 0, 1, 2 and so on, each once.
abbrev pub breaks_o5 : Log → Placed → Bool
breaks_o5 log x = is_some_and (page_number x.entry) (λ p. is_misnumbered (number_on p.0) log x)

-- what a hart holds after an entry of the page by some hart, where it held this before it
abbrev pub held_after : ℕ → Option Mode → Option (ℕ × Entry) → Option Mode
held_after h before None = before
held_after h before (Some (g, e)) = if g == h then holds_then e else before

-- what a hart holds of a page after the entries of the page with numbers below this one
abbrev pub held : Log → ℕ → ℕ → ℕ → Option Mode
held log page h zero = None
held log page h (suc k) = held_after h (held log page h k) (numbered log page k)

-- O6. A Gain gives more than its hart held and conflicts with no other holder; a Yield leaves less than its hart held.
abbrev pub breaks_o6 : Log → Placed → Bool
breaks_o6 log x = breaks x.entry where
  breaks : Entry → Bool
  breaks (Gain count page seq mode waits) =
      nat_le (strength (Some mode)) (strength (held log page x.hart seq))
      || list_any (λ g. not (g == x.hart) && conflict (Some mode) (held log page g seq)) (harts log)
  breaks (Yield count page seq left) = nat_le (strength (held log page x.hart seq)) (strength left)
  breaks _ = false

-- the Yields of a page since its latest Gain, after an entry of it by a hart
abbrev pub yields_after : ℕ → Entry → List WaitFor → List WaitFor
yields_after h (Yield count page seq left) yields = yields ++ record { hart = h; count = count } ∷ []
yields_after h entry yields = []

-- the Yields by harts other than h since the latest Gain, after an entry of the page
abbrev pub waits_after : ℕ → List WaitFor → Option (ℕ × Entry) → List WaitFor
waits_after h waits (Some (g, Yield count page seq left)) = if g == h then waits else waits ++ record { hart = g; count = count } ∷ []
waits_after h waits _ = []

-- the waits of a Gain by h with this number: the Yields of the page by other harts since the latest earlier Gain
abbrev pub waits_due : Log → ℕ → ℕ → ℕ → List WaitFor
waits_due log page h zero = []
waits_due log page h (suc k) = waits_after h (waits_due log page h k) (numbered log page k)

abbrev pub same_wait : WaitFor → WaitFor → Bool
same_wait a b = (a.hart == b.hart) && (a.count == b.count)

-- O7. A Gain's waits are the Yields of its page by other harts since the page's latest Gain, in order of numbers.
abbrev pub breaks_o7 : Log → Placed → Bool
breaks_o7 log x = breaks x.entry where
  breaks : Entry → Bool
  breaks (Gain count page seq mode waits) = not (pointwise same_wait waits.items (waits_due log page x.hart seq))
  breaks _ = false

-- the entry with an ordinal
abbrev pub with_ordinal : Log → ℕ → Option Entry
with_ordinal log k = find (λ e. is_number k (ordinal_of e)) (entries log)

-- the time of the Poll or Time input next before an ordinal, and 0 where there is none
abbrev pub time_before : Log → ℕ → ℕ
time_before log zero = 0
time_before log (suc k) = unwrap_or (option_and_then time_of (with_ordinal log k)) (time_before log k)

-- all ordinals are right
abbrev pub ordinals_are_right : Log → Bool
ordinals_are_right log = list_all (λ x. not (is_misnumbered ordinal_of log x)) (placed log)

-- the time of an entry that has one is below the time before it
abbrev pub time_falls : Log → Entry → Bool
time_falls log e = is_some_and (time_of e) (λ time. is_some_and (ordinal_of e) (λ k. nat_lt time (time_before log k)))

-- O8. The ordinals of Polls and Touches are 0, 1, 2 and so on, each once. Where all are right, the times along them don't fall.
abbrev pub breaks_o8 : Log → Placed → Bool
breaks_o8 log x = is_misnumbered ordinal_of log x || (ordinals_are_right log && time_falls log x.entry)
