-- Each rule is broken at the same spots of a log without room.
use Rattle.std.proofs.Common.{◌≡◌, ℕ, zero, suc, ◌+◌, ◌-◌, ◌==◌, ◌&&◌, ◌||◌, not, find, length, slice_get, Option, Some, None}
use Rattle.std.proofs.Common.{option_map, refl, ap, ◌∙◌}
use Rattle.std.specs.Prelude.{nat_lt, nat_le, is_some, unwrap_or, option_and_then, if◌then◌else◌}
use Rattle.std.specs.List.{list_any, list_all}
use Rattle.std.specs.Option.{option_map_or}
use lib.Pointwise.{pointwise}
use Rattle.std.proofs.lemmas.List.Folds.{list_all-map}
use Rattle.std.proofs.lemmas.Option.{slice_get-map}
use Rattle.log_entry.specs.declared.log.Entry.{Entry}
use Rattle.log_entry.specs.declared.log.Entry.TheVariants.{Gain, Yield, Poll, Touch, End}
use Rattle.log_entry.specs.declared.log.Log.{Log}
use Rattle.log_entry.specs.Parts.{count_of, is_end, is_poll, is_touch, page_number, ordinal_of, time_of, holds_then, strength, conflict, is_some_and}
use Rattle.log_entry.specs.Room.{entry_without_room, log_without_room}
use Rattle.order_rules.specs.Places.{Placed, stream, entries, placed, is_number, number_on, numbered}
use Rattle.order_rules.specs.Rules.{last_of, breaks_o1, lacks_end, breaks_o2, end_count, polls_due, has_poll, may_poll, is_first_above, breaks_o3, breaks_o4}
use Rattle.order_rules.specs.Rules.{is_misnumbered, breaks_o5}
use Rattle.order_rules.specs.Rules.{held_after, held, breaks_o6, waits_after, waits_due, same_wait, breaks_o7, with_ordinal, time_before, ordinals_are_right}
use Rattle.order_rules.specs.Rules.{breaks_o8}
use Rattle.order_rules.specs.Orderly.{o1, o2, o3, o4, o5, o6, o7, o8}
use Rattle.room_laws.proofs.Lists.{find_mapped}
use Rattle.room_laws.proofs.Entries.{Unseen, unseen, some_unseen}
use Rattle.room_laws.proofs.Places.{placed_without_room, of_hart, harts_are, stream_is, size_of_stream_is, entries_are, placed_are, numbered_is}
use Rattle.room_laws.proofs.Places.{test_previous, any_before, all_before, any_earlier, any_in, count_in, test_at}

module _ (log : Log) where
  abbrev bare : Log
  bare = log_without_room log

  last_is : (h : ℕ) → last_of (stream bare h) ≡ option_map entry_without_room (last_of (stream log h))
  last_is h = (λ i. slice_get (stream_is log h i) (size_of_stream_is log h i - 1))
      ∙ slice_get-map entry_without_room (stream log h) (length (stream log h) - 1)

  o1_by : (x : Placed) → breaks_o1 bare x ≡ breaks_o1 log x
  o1_by x = λ i. test_previous log (λ p. nat_lt (count_of x.entry) (count_of p)) (unseen _ (λ c p s m w. refl)) x i
      || (is_end x.entry && (not (x.place + 1 == size_of_stream_is log x.hart i) || nat_lt log.limit (count_of x.entry)))

  lacks_by : (h k : ℕ) → lacks_end bare h k ≡ lacks_end log h k
  lacks_by h k = λ i. (k == size_of_stream_is log h i) && not (ends i)
    where
      ends : is_some_and (last_of (stream bare h)) is_end ≡ is_some_and (last_of (stream log h)) is_end
      ends = ap (λ o. is_some_and o is_end) (last_is h) ∙ some_unseen is_end (unseen is_end (λ c p s m w. refl)) (last_of (stream log h))

  pub o1_same : o1 bare ≡ o1 log
  o1_same = λ i. λ p. test_at log (breaks_o1 bare) (breaks_o1 log) (λ h k. unseen _ (λ c p s m w. refl)) o1_by i p || lacks_by p.0 p.1 i

  pub o2_same : o2 bare ≡ o2 log
  o2_same = test_at log (breaks_o2 bare) (breaks_o2 log) (λ h k. unseen _ (λ c p s m w. refl)) (λ x.
      any_before log (λ e. (count_of e == count_of x.entry) && (is_touch e || is_end e || is_poll x.entry)) (unseen _ (λ c p s m w. refl)) x)

  end_is : (h : ℕ) → end_count (stream bare h) ≡ end_count (stream log h)
  end_is h = ap (λ o. option_map_or count_of o 0) (last_is h) ∙ by (last_of (stream log h))
    where
      by : (o : Option Entry) → option_map_or count_of (option_map entry_without_room o) 0 ≡ option_map_or count_of o 0
      by None = refl
      by (Some e) = λ i. unseen count_of (λ c p s m w. refl) i e

  polls_are : (h due : ℕ) → has_poll (stream bare h) due ≡ has_poll (stream log h) due
  polls_are h due = any_in log (λ e. is_poll e && (count_of e == due)) (unseen _ (λ c p s m w. refl)) h

  first_above_is : (x : Placed) (count : ℕ) → is_first_above bare x count ≡ is_first_above log x count
  first_above_is x count = ap (λ b. nat_lt count (count_of x.entry) && b) (all_before log (λ e. nat_le (count_of e) count) (unseen _ (λ c p s m w. refl)) x)

  pub o3_same : o3 bare ≡ o3 log
  o3_same = test_at log (breaks_o3 bare) (breaks_o3 log) (λ h k. unseen _ (λ c p s m w. refl)) (λ x. λ i.
      (is_poll x.entry && not (may_poll log (end_is x.hart i) (count_of x.entry)))
      || list_any (λ due. not (polls_are x.hart due i) && first_above_is x due i) (polls_due (end_is x.hart i)))

  pub o4_same : o4 bare ≡ o4 log
  o4_same = test_at log (breaks_o4 bare) (breaks_o4 log) (λ h k. unseen _ (λ c p s m w. refl)) (λ x.
      test_previous log (λ p. is_touch p && nat_le (count_of x.entry) (count_of p)) (unseen _ (λ c p s m w. refl)) x)

  misnumbered_is : (number : Entry → Option ℕ) → Unseen number → (x : Placed) → is_misnumbered number bare x ≡ is_misnumbered number log x
  misnumbered_is number u x = λ i. is_some_and (number x.entry) (λ n.
      nat_le (count_in log (λ e. is_some (number e)) (λ j. λ e. is_some (u j e)) i) n
      || any_earlier log (λ e. is_number n (number e)) (λ j. λ e. is_number n (u j e)) x i)

  pub o5_same : o5 bare ≡ o5 log
  o5_same = test_at log (breaks_o5 bare) (breaks_o5 log) (λ h k. unseen _ (λ c p s m w. refl)) (λ x. λ i.
      is_some_and (page_number x.entry) (λ p. misnumbered_is (number_on p.0) (unseen _ (λ c p s m w. refl)) x i))

  pub held_is : (page h k : ℕ) → held bare page h k ≡ held log page h k
  held_is page h zero = refl
  held_is page h (suc k) = (λ i. held_after h (held_is page h k i) (numbered_is log page k i)) ∙ by (numbered log page k)
    where
      by : (o : Option (ℕ × Entry)) → held_after h (held log page h k) (option_map of_hart o) ≡ held_after h (held log page h k) o
      by None = refl
      by (Some x) = λ i. if x.0 == h then unseen holds_then (λ c p s m w. refl) i x.1 else held log page h k

  o6_by : (h k : ℕ) (e : Entry) → breaks_o6 bare (record { hart = h; place = k; entry = e }) ≡ breaks_o6 log (record { hart = h; place = k; entry = e })
  o6_by h k (Gain count page seq mode waits) = λ i. nat_le (strength (Some mode)) (strength (held_is page h seq i))
      || list_any (λ g. not (g == h) && conflict (Some mode) (held_is page g seq i)) (harts_are log i)
  o6_by h k (Yield count page seq left) = λ i. nat_le (strength (held_is page h seq i)) (strength left)
  o6_by h k (Poll count ord time bits) = refl
  o6_by h k (Touch count ord input) = refl
  o6_by h k (End count) = refl

  pub o6_same : o6 bare ≡ o6 log
  o6_same = test_at log (breaks_o6 bare) (breaks_o6 log) (λ h k. unseen _ (λ c p s m w. refl)) (λ x. o6_by x.hart x.place x.entry)

  waits_are : (page h k : ℕ) → waits_due bare page h k ≡ waits_due log page h k
  waits_are page h zero = refl
  waits_are page h (suc k) = (λ i. waits_after h (waits_are page h k i) (numbered_is log page k i)) ∙ by (numbered log page k)
    where
      by : (o : Option (ℕ × Entry)) → waits_after h (waits_due log page h k) (option_map of_hart o) ≡ waits_after h (waits_due log page h k) o
      by None = refl
      by (Some x) = λ i. unseen (λ e. waits_after h (waits_due log page h k) (Some (x.0, e))) (λ c p s m w. refl) i x.1

  o7_by : (h k : ℕ) (e : Entry) → breaks_o7 bare (record { hart = h; place = k; entry = e }) ≡ breaks_o7 log (record { hart = h; place = k; entry = e })
  o7_by h k (Gain count page seq mode waits) = λ i. not (pointwise same_wait waits.items (waits_are page h seq i))
  o7_by h k (Yield count page seq left) = refl
  o7_by h k (Poll count ord time bits) = refl
  o7_by h k (Touch count ord input) = refl
  o7_by h k (End count) = refl

  pub o7_same : o7 bare ≡ o7 log
  o7_same = test_at log (breaks_o7 bare) (breaks_o7 log) (λ h k. unseen _ (λ c p s m w. refl)) (λ x. o7_by x.hart x.place x.entry)

  pub ordinal_is : (k : ℕ) → with_ordinal bare k ≡ option_map entry_without_room (with_ordinal log k)
  ordinal_is k =
      ap (find (λ e. is_number k (ordinal_of e))) (entries_are log)
      ∙ find_mapped entry_without_room (λ e. is_number k (ordinal_of e)) (entries log)
      ∙ (λ i. option_map entry_without_room (find (unseen (λ e. is_number k (ordinal_of e)) (λ c p s m w. refl) i) (entries log)))

  time_is : (k : ℕ) → time_before bare k ≡ time_before log k
  time_is zero = refl
  time_is (suc k) = (λ i. unwrap_or (option_and_then time_of (ordinal_is k i)) (time_is k i)) ∙ by (with_ordinal log k)
    where
      by : (o : Option Entry) → unwrap_or (option_and_then time_of (option_map entry_without_room o)) (time_before log k)
          ≡ unwrap_or (option_and_then time_of o) (time_before log k)
      by None = refl
      by (Some e) = λ i. unwrap_or (unseen time_of (λ c p s m w. refl) i e) (time_before log k)

  ordinals_are : ordinals_are_right bare ≡ ordinals_are_right log
  ordinals_are =
      ap (list_all (λ x. not (is_misnumbered ordinal_of bare x))) (placed_are log)
      ∙ list_all-map (λ x. not (is_misnumbered ordinal_of bare x)) placed_without_room (placed log)
      ∙ (λ i. list_all (λ x. not (each x i)) (placed log))
    where
      each : (x : Placed) → is_misnumbered ordinal_of bare (placed_without_room x) ≡ is_misnumbered ordinal_of log x
      each x = (λ i. unseen (λ e. is_misnumbered ordinal_of bare (record x { entry = e })) (λ c p s m w. refl) i x.entry)
          ∙ misnumbered_is ordinal_of (unseen _ (λ c p s m w. refl)) x

  o8_by : (x : Placed) → breaks_o8 bare x ≡ breaks_o8 log x
  o8_by x = λ i. misnumbered_is ordinal_of (unseen _ (λ c p s m w. refl)) x i
      || (ordinals_are i && is_some_and (time_of x.entry) (λ time. is_some_and (ordinal_of x.entry) (λ k. nat_lt time (time_is k i))))

  pub o8_same : o8 bare ≡ o8 log
  o8_same = test_at log (breaks_o8 bare) (breaks_o8 log) (λ h k. unseen _ (λ c p s m w. refl)) o8_by
