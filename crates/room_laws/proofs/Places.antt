-- Where the entries of a log without room stand.
use Rattle.std.proofs.Common.{◌≡◌, ℕ, ◌+◌, ◌-◌, ◌++◌, ◌==◌, Bool, true, false, cond, List, [], map, find, take, length, slice_get, Option, Some, None}
use Rattle.std.proofs.Common.{option_map, refl, sym, ap, ◌∙◌}
use Rattle.std.specs.Prelude.{unwrap_or}
use Rattle.std.specs.List.{list_any, list_all, count_by, flat_map, enumerate_from}
use Rattle.std.proofs.Math.Path.{fun_ext}
use Rattle.std.proofs.lemmas.List.{length-map, take-map, map-append}
use Rattle.std.proofs.lemmas.List.Folds.{flat_map-map}
use Rattle.std.proofs.lemmas.Option.{slice_get-map}
use Rattle.orders_law.specs.Orders.{below}
use Rattle.log_entry.specs.declared.log.Entry.{Entry}
use Rattle.log_entry.specs.declared.log.Log.{Log}
use Rattle.log_entry.specs.Parts.{is_some_and}
use Rattle.log_entry.specs.Room.{entry_without_room, stream_without_room, log_without_room}
use Rattle.order_rules.specs.Places.{Placed, harts, stream, entry_at, before, previous, entries, earlier, by_hart, placed, is_number, number_on, numbered}
use Rattle.order_rules.specs.Orderly.{Spot, spots, at_entry}
use Rattle.room_laws.proofs.Lists.{find_mapped, joined_mapped, numbered_mapped, map_twice, map_each}
use Rattle.room_laws.proofs.Entries.{Unseen, unseen, some_unseen, any_unseen, all_unseen, count_unseen}

-- a placed entry, and an entry with its hart
abbrev pub placed_without_room : Placed → Placed
placed_without_room x = record x { entry = entry_without_room x.entry }

abbrev pub of_hart : ℕ × Entry → ℕ × Entry
of_hart x = (x.0, entry_without_room x.1)

abbrev with_hart : ℕ × List Entry → List (ℕ × Entry)
with_hart s = map (λ e. (s.0, e)) s.1

abbrev placed_at : ℕ → ℕ × Entry → Placed
placed_at h e = record { hart = h; place = e.0; entry = e.1 }

abbrev rows : ℕ × List Entry → List Placed
rows s = map (placed_at s.0) (enumerate_from 0 s.1)

abbrev spots_of : ℕ × List Entry → List Spot
spots_of s = map (λ k. (s.0, k)) (below (length s.1 + 1))

module _ (log : Log) where
  pub harts_are : harts (log_without_room log) ≡ harts log
  harts_are = ap below (length-map log.streams stream_without_room)

  pub stream_is : (h : ℕ) → stream (log_without_room log) h ≡ stream_without_room (stream log h)
  stream_is h = ap (λ o. unwrap_or o []) (slice_get-map stream_without_room log.streams h) ∙ by (slice_get log.streams h)
    where
      by : (o : Option (List Entry)) → unwrap_or (option_map stream_without_room o) [] ≡ stream_without_room (unwrap_or o [])
      by None = refl
      by (Some s) = refl

  pub size_of_stream_is : (h : ℕ) → length (stream (log_without_room log) h) ≡ length (stream log h)
  size_of_stream_is h = ap length (stream_is h) ∙ length-map (stream log h) entry_without_room

  pub entry_is : (h i : ℕ) → entry_at (log_without_room log) h i ≡ option_map entry_without_room (entry_at log h i)
  entry_is h i = ap (λ s. slice_get s i) (stream_is h) ∙ slice_get-map entry_without_room (stream log h) i

  pub before_is : (x : Placed) → before (log_without_room log) x ≡ stream_without_room (before log x)
  before_is x = ap (take x.place) (stream_is x.hart) ∙ take-map entry_without_room x.place (stream log x.hart)

  pub previous_is : (x : Placed) → previous (log_without_room log) x ≡ option_map entry_without_room (previous log x)
  previous_is x = ap (cond (x.place == 0) None) (entry_is x.hart (x.place - 1)) ∙ by (x.place == 0) (entry_at log x.hart (x.place - 1))
    where
      by : (b : Bool) (o : Option Entry) → cond b None (option_map entry_without_room o) ≡ option_map entry_without_room (cond b None o)
      by true o = refl
      by false o = refl

  pub entries_are : entries (log_without_room log) ≡ stream_without_room (entries log)
  entries_are = joined_mapped entry_without_room log.streams

  pub earlier_are : (x : Placed) → earlier (log_without_room log) x ≡ stream_without_room (earlier log x)
  earlier_are x =
      (λ i. flat_map (λ s. s) (take-map stream_without_room x.hart log.streams i) ++ before_is x i)
      ∙ ap (λ es. es ++ stream_without_room (before log x)) (joined_mapped entry_without_room (take x.hart log.streams))
      ∙ sym (map-append entry_without_room (flat_map (λ s. s) (take x.hart log.streams)) (before log x))

  pub by_hart_is : by_hart (log_without_room log) ≡ map of_hart (by_hart log)
  by_hart_is =
      ap (flat_map with_hart) (numbered_mapped stream_without_room 0 log.streams)
      ∙ flat_map-map with_hart (λ (s : ℕ × List Entry). (s.0, stream_without_room s.1)) (enumerate_from 0 log.streams)
      ∙ (λ i. flat_map (λ s. each s i) (enumerate_from 0 log.streams))
      ∙ map_each of_hart with_hart (enumerate_from 0 log.streams)
    where
      each : (s : ℕ × List Entry) → with_hart (s.0, stream_without_room s.1) ≡ map of_hart (with_hart s)
      each s = map_twice entry_without_room (λ (e : Entry). (s.0, e)) s.1 ∙ sym (map_twice (λ (e : Entry). (s.0, e)) of_hart s.1)

  pub placed_are : placed (log_without_room log) ≡ map placed_without_room (placed log)
  placed_are =
      ap (flat_map rows) (numbered_mapped stream_without_room 0 log.streams)
      ∙ flat_map-map rows (λ (s : ℕ × List Entry). (s.0, stream_without_room s.1)) (enumerate_from 0 log.streams)
      ∙ (λ i. flat_map (λ s. each s i) (enumerate_from 0 log.streams))
      ∙ map_each placed_without_room rows (enumerate_from 0 log.streams)
    where
      each : (s : ℕ × List Entry) → rows (s.0, stream_without_room s.1) ≡ map placed_without_room (rows s)
      each s = ap (map (placed_at s.0)) (numbered_mapped entry_without_room 0 s.1)
          ∙ map_twice (λ (e : ℕ × Entry). (e.0, entry_without_room e.1)) (placed_at s.0) (enumerate_from 0 s.1)
          ∙ sym (map_twice (placed_at s.0) placed_without_room (enumerate_from 0 s.1))

  pub numbered_is : (page k : ℕ) → numbered (log_without_room log) page k ≡ option_map of_hart (numbered log page k)
  numbered_is page k =
      ap (find (λ (x : ℕ × Entry). is_number k (number_on page x.1))) by_hart_is
      ∙ find_mapped of_hart (λ (x : ℕ × Entry). is_number k (number_on page x.1)) (by_hart log)
      ∙ (λ i. option_map of_hart (find (λ (x : ℕ × Entry). unseen (λ e. is_number k (number_on page e)) (λ c p s m w. refl) i x.1) (by_hart log)))

  pub spots_are : spots (log_without_room log) ≡ spots log
  spots_are =
      ap (flat_map spots_of) (numbered_mapped stream_without_room 0 log.streams)
      ∙ flat_map-map spots_of (λ (s : ℕ × List Entry). (s.0, stream_without_room s.1)) (enumerate_from 0 log.streams)
      ∙ (λ i. flat_map (λ s. map (λ k. (s.0, k)) (below (length-map s.1 entry_without_room i + 1))) (enumerate_from 0 log.streams))

  -- a test of the entry at a place, of its placed entry and of some before it
  pub test_there : (t : Entry → Bool) → Unseen t → (h i : ℕ)
      → is_some_and (entry_at (log_without_room log) h i) t ≡ is_some_and (entry_at log h i) t
  test_there t u h i = ap (λ o. is_some_and o t) (entry_is h i) ∙ some_unseen t u (entry_at log h i)

  pub test_previous : (t : Entry → Bool) → Unseen t → (x : Placed)
      → is_some_and (previous (log_without_room log) x) t ≡ is_some_and (previous log x) t
  test_previous t u x = ap (λ o. is_some_and o t) (previous_is x) ∙ some_unseen t u (previous log x)

  pub any_before : (t : Entry → Bool) → Unseen t → (x : Placed) → list_any t (before (log_without_room log) x) ≡ list_any t (before log x)
  any_before t u x = ap (list_any t) (before_is x) ∙ any_unseen t u (before log x)

  pub all_before : (t : Entry → Bool) → Unseen t → (x : Placed) → list_all t (before (log_without_room log) x) ≡ list_all t (before log x)
  all_before t u x = ap (list_all t) (before_is x) ∙ all_unseen t u (before log x)

  pub any_earlier : (t : Entry → Bool) → Unseen t → (x : Placed) → list_any t (earlier (log_without_room log) x) ≡ list_any t (earlier log x)
  any_earlier t u x = ap (list_any t) (earlier_are x) ∙ any_unseen t u (earlier log x)

  pub any_in : (t : Entry → Bool) → Unseen t → (h : ℕ) → list_any t (stream (log_without_room log) h) ≡ list_any t (stream log h)
  any_in t u h = ap (list_any t) (stream_is h) ∙ any_unseen t u (stream log h)

  pub count_in : (t : Entry → Bool) → Unseen t → count_by t (entries (log_without_room log)) ≡ count_by t (entries log)
  count_in t u = ap (count_by t) entries_are ∙ count_unseen t u (entries log)

  -- the spots at which a test of placed entries stands, where it sees no room, and where it is the same of the two logs
  pub test_at : (test other : Placed → Bool) → ((h i : ℕ) → Unseen (λ e. test (record { hart = h; place = i; entry = e })))
      → ((x : Placed) → test x ≡ other x)
      → at_entry test (log_without_room log) ≡ at_entry other log
  test_at test other u same = fun_ext (λ p.
      test_there (λ e. test (record { hart = p.0; place = p.1; entry = e })) (u p.0 p.1) p.0 p.1
      ∙ (λ i. is_some_and (entry_at log p.0 p.1) (λ e. same (record { hart = p.0; place = p.1; entry = e }) i)))
