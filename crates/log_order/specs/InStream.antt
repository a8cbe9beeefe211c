-- The rules that a stream keeps by itself, on the stream and a place of it.
use Rattle.std.specs.Prelude.{ℕ, ◌≡◌, ◌<◌, ◌==◌, ◌-◌, ◌+◌, ◌%◌, ◌&&◌, ◌||◌, not, nat_lt, nat_le, Bool, true, false, List, length, take, slice_get, Option}
use Rattle.std.specs.Prelude.{Some, None, if◌then◌else◌}
use Rattle.rv_words.specs.Limits.{poll_distance}
use Rattle.log_entry.specs.declared.log.Entry.{Entry}
use Rattle.std.specs.List.{list_any, list_all}
use Rattle.log_entry.specs.Parts.{count_of, is_end, is_poll, is_touch, is_some_and}
use Rattle.order_rules.specs.Rules.{end_count, has_poll, polls_due}

abbrev pub previous_in : List Entry → ℕ → Option Entry
previous_in s i = if i == 0 then None else slice_get s (i - 1)

abbrev pub falls_at : List Entry → ℕ → Entry → Bool
falls_at s i e = is_some_and (previous_in s i) (λ p. nat_lt (count_of e) (count_of p))

abbrev pub falls : List Entry → ℕ → Bool
falls s i = is_some_and (slice_get s i) (falls_at s i)

abbrev pub o1_in : ℕ → List Entry → ℕ → Bool
o1_in limit s i =
    is_some_and (slice_get s i) (λ e. falls_at s i e || (is_end e && (not (i + 1 == length s) || nat_lt limit (count_of e))))
    || ((i == length s) && not (is_some_and (slice_get s (length s - 1)) is_end))

-- no count is below the one before it
abbrev pub NoFall : List Entry → Type 0
NoFall s = (j : ℕ) → j < length s → falls s j ≡ false

-- O2 on one stream
abbrev pub o2_in : List Entry → ℕ → Bool
o2_in s i = is_some_and (slice_get s i) (λ x. list_any (λ e. (count_of e == count_of x) && (is_touch e || is_end e || is_poll x)) (take i s))

-- the same, by the entry before alone: where counts don't fall, the first place that breaks O2 is the first that breaks this
abbrev pub steps_wrongly : List Entry → ℕ → Bool
steps_wrongly s i = is_some_and (slice_get s i) (λ x. is_some_and (previous_in s i) (λ p. (count_of p == count_of x) && (is_touch p || is_end p || is_poll x)))

-- where a Poll may stand in a stream that ends at this count
abbrev pub may_poll_in : ℕ → ℕ → ℕ → Bool
may_poll_in limit end count = (count % poll_distance == 0) && (nat_lt count end || ((count == end) && nat_lt count limit))

-- O3 on one stream
abbrev pub o3_in : ℕ → List Entry → ℕ → Bool
o3_in limit s i = is_some_and (slice_get s i) (λ x.
    (is_poll x && not (may_poll_in limit (end_count s) (count_of x)))
    || list_any (λ due. not (has_poll s due) && (nat_lt due (count_of x) && list_all (λ e. nat_le (count_of e) due) (take i s))) (polls_due (end_count s)))

-- the same by the least multiple of `poll_distance` that has had no Poll
abbrev pub polls_wrongly : ℕ → ℕ → ℕ → Entry → Bool
polls_wrongly limit end due e = nat_lt due (count_of e) || (is_poll e && not (may_poll_in limit end (count_of e)))

-- that multiple after an entry
abbrev pub due_after : ℕ → Entry → ℕ
due_after due e = if is_poll e && (count_of e == due) then due + poll_distance else due

-- the first place below a bound that passes a test, or nothing where none does
abbrev pub IsFirst : (ℕ → Bool) → ℕ → Option ℕ → Type 0
IsFirst test n None = (j : ℕ) → j < n → test j ≡ false
IsFirst test n (Some i) = (i < n) × (test i ≡ true) × ((j : ℕ) → j < i → test j ≡ false)
