-- A log and the same log without room are judged alike.
use Rattle.std.proofs.Common.{◌≡◌, ℕ, ◌+◌, ◌&&◌, Bool, List, map, find, length, Option, Some, None, is_some, option_map, replicate, refl, sym, ap, subst}
use Rattle.std.proofs.Common.{◌∙◌, inl, inr}
use Rattle.std.specs.Prelude.{◌↔◌, nat_lt, nat_le, ◌^◌, sum_by, slice_index, option_and_then, if◌then◌else◌}
use Rattle.std.specs.List.{list_all}
use Rattle.std.specs.Option.{option_map_or}
use Rattle.std.proofs.Math.Path.{subst₃}
use Rattle.std.proofs.lemmas.List.{length-map}
use Rattle.std.proofs.lemmas.List.Folds.{list_all-map, fold-map}
use Rattle.orders_law.specs.Orders.{IsLeast}
use Rattle.rv_words.specs.Limits.{most_pages}
use Rattle.log_entry.specs.declared.log.Entry.{Entry}
use Rattle.log_entry.specs.declared.log.Log.{Log}
use Rattle.log_entry.specs.Parts.{units_of, count_of, page_number, ordinal_of, time_of, holds_then}
use Rattle.log_entry.specs.Range.{is_entry, is_stream, in_range}
use Rattle.log_entry.specs.Room.{entry_without_room, stream_without_room, log_without_room}
use Rattle.log_entry.specs.Size.{size_of, size_in, size_of_stream, size_of_log}
use Rattle.order_rules.specs.Places.{harts}
use Rattle.order_rules.specs.Cursor.{Cursor, start, first_left, guard_is_met, taken, take_one, least_left, IsLeastOrder}
use Rattle.order_rules.specs.Orderly as judged
use Rattle.order_rules.specs.Orderly.{Spot, spots, Keeps, LeastOrderLeaves, rules, first_broken, IsOrderly, IsLeastBreak}
use Rattle.room_laws.specs.Laws.{EntriesSeeNoRoom, IsJudgedAlike, OrderSeesNoRoom}
use Rattle.room_laws.proofs.Entries.{unseen, all_unseen}
use Rattle.room_laws.proofs.Places.{harts_are, stream_is, entry_is, spots_are}
use Rattle.room_laws.proofs.Rules.{o1_same, o2_same, o3_same, o4_same, o5_same, o6_same, o7_same, o8_same, held_is}

pub entries_see_no_room : EntriesSeeNoRoom
entries_see_no_room e = record {
  size_is = λ i. unseen size_of (λ c p s m w. refl) i e;
  count_is = λ i. unseen count_of (λ c p s m w. refl) i e;
  number_is = λ i. unseen page_number (λ c p s m w. refl) i e;
  ordinal_is = λ i. unseen ordinal_of (λ c p s m w. refl) i e;
  time_is = λ i. unseen time_of (λ c p s m w. refl) i e;
  hold_is = λ i. unseen holds_then (λ c p s m w. refl) i e;
  guard_is = λ cursor i. unseen (guard_is_met cursor) (λ c p s m w. refl) i e;
  cursor_is = λ cursor h i. unseen (taken cursor h) (λ c p s m w. refl) i e;
}

-- a type that follows a path, both ways
pub both_ways : {X : Type 0} (P : X → Type 0) {a b : X} → a ≡ b → P a ↔ P b
both_ways P e = (subst P e, subst P (sym e))

-- and one that follows three
pub along_three : {X Y Z : Type 0} (P : X → Y → Z → Type 0) {a b : X} {c d : Y} {e f : Z} → a ≡ b → c ≡ d → e ≡ f → P a c e ↔ P b d f
along_three P p q r = (subst₃ P p q r, subst₃ P (sym p) (sym q) (sym r))

size_of_stream_is : (unit harts : ℕ) (es : List Entry) → size_of_stream unit harts (stream_without_room es) ≡ size_of_stream unit harts es
size_of_stream_is unit harts es = ap (λ n. 4 + n) (fold-map (λ n e. n + size_in unit harts e) entry_without_room 0 es
    ∙ (λ i. sum_by (unseen (size_in unit harts) (λ c p s m w. refl) i) es))

pub size_is : (unit : ℕ) (streams : List (List Entry)) → size_of_log unit (map stream_without_room streams) ≡ size_of_log unit streams
size_is unit streams = ap (λ n. 49 + n)
    (fold-map (λ n s. n + size_of_stream unit (length (map stream_without_room streams)) s) stream_without_room 0 streams
    ∙ (λ i. sum_by (λ s. size_of_stream_is unit (length-map streams stream_without_room i) s i) streams))

stream_range_is : (harts units : ℕ) (es : List Entry) → is_stream harts units (stream_without_room es) ≡ is_stream harts units es
stream_range_is harts units es =
    λ i. nat_lt (length-map es entry_without_room i) (2 ^ 32) && all_unseen (is_entry harts units) (unseen _ (λ c p s m w. refl)) es i

pub range_is : (log : Log) → in_range (log_without_room log) ≡ in_range log
range_is log = λ i.
    nat_le 1 (size i) && nat_le (size i) 8 && nat_le 1 log.pages && nat_le log.pages most_pages && nat_le log.limit 1000000000000 && all i
  where
    size : length (map stream_without_room log.streams) ≡ length log.streams
    size = length-map log.streams stream_without_room

    all : list_all (is_stream (length (map stream_without_room log.streams)) log.pages) (map stream_without_room log.streams)
        ≡ list_all (is_stream (length log.streams) log.pages) log.streams
    all = list_all-map (is_stream (length (map stream_without_room log.streams)) log.pages) stream_without_room log.streams
        ∙ (λ i. list_all (λ s. stream_range_is (size i) log.pages s i) log.streams)

module _ (log : Log) where
  abbrev bare : Log
  bare = log_without_room log

  pub start_is : start bare ≡ start log
  start_is = ap (λ n. record { places = replicate n 0; numbers = replicate (units_of log) 0; ordinal = 0 }) (length-map log.streams stream_without_room)

  pub first_is : (c : Cursor) (h : ℕ) → first_left bare c h ≡ option_map entry_without_room (first_left log c h)
  first_is c h = entry_is log h (slice_index c.places h)

  abbrev taking : ℕ → Cursor → Entry → Option (Cursor × ℕ)
  taking h c e = if guard_is_met c e then Some (taken c h e, slice_index c.places h) else None

  pub take_is : take_one bare ≡ take_one log
  take_is = λ i h c. each h c i
    where
      by : (h : ℕ) (c : Cursor) (o : Option Entry) → option_and_then (taking h c) (option_map entry_without_room o) ≡ option_and_then (taking h c) o
      by h c None = refl
      by h c (Some e) = λ i. unseen (taking h c) (λ c p s m w. refl) i e

      each : (h : ℕ) (c : Cursor) → take_one bare h c ≡ take_one log h c
      each h c = ap (option_and_then (taking h c)) (first_is c h) ∙ by h c (first_left log c h)

  pub least_left_is : (c : Cursor) → least_left bare c ≡ least_left log c
  least_left_is c = λ i. option_map (λ h. (h, slice_index c.places h)) (find (λ h. left h i) (harts_are log i))
    where
      by : (o : Option Entry) → is_some (option_map entry_without_room o) ≡ is_some o
      by None = refl
      by (Some e) = refl

      left : (h : ℕ) → is_some (first_left bare c h) ≡ is_some (first_left log c h)
      left h = ap is_some (first_is c h) ∙ by (first_left log c h)

  least_is : (legs : List (ℕ × ℕ)) (c : Cursor) → IsLeastOrder bare legs c ↔ IsLeastOrder log legs c
  least_is legs c = along_three (λ f n s. IsLeast f n s legs c) take_is (length-map log.streams stream_without_room) start_is

  leaves_is : (p : Option Spot) → LeastOrderLeaves bare p ↔ LeastOrderLeaves log p
  leaves_is p = (
    λ l. (l.0, (l.1.0, (least_is l.0 l.1.0).0 l.1.1, sym (least_left_is l.1.0) ∙ l.1.2)),
    λ l. (l.0, (l.1.0, (least_is l.0 l.1.0).1 l.1.1, least_left_is l.1.0 ∙ l.1.2)),
  )

  -- a rule that has the same spots finds the same, and is kept alike
  finds : (rule : Log → Spot → Bool) → rule bare ≡ rule log → find (rule bare) (spots bare) ≡ find (rule log) (spots log)
  finds rule same = λ i. find (same i) (spots_are log i)

  kept : (rule : Log → Spot → Bool) → rule bare ≡ rule log → Keeps bare rule → Keeps log rule
  kept rule same keeps = sym (finds rule same) ∙ keeps

  kept_back : (rule : Log → Spot → Bool) → rule bare ≡ rule log → Keeps log rule → Keeps bare rule
  kept_back rule same keeps = finds rule same ∙ keeps

  orderly_is : IsOrderly bare ↔ IsOrderly log
  orderly_is = (there, back)
    where
      there : IsOrderly bare → IsOrderly log
      there o = record {
        counts_rise_to_the_end = kept judged.o1 (o1_same log) o.counts_rise_to_the_end;
        kinds_in_order_at_a_count = kept judged.o2 (o2_same log) o.kinds_in_order_at_a_count;
        polls_where_due = kept judged.o3 (o3_same log) o.polls_where_due;
        touches_go_on = kept judged.o4 (o4_same log) o.touches_go_on;
        pages_are_numbered = kept judged.o5 (o5_same log) o.pages_are_numbered;
        holders_are_crew = kept judged.o6 (o6_same log) o.holders_are_crew;
        gains_name_their_waits = kept judged.o7 (o7_same log) o.gains_name_their_waits;
        ordinals_and_times_rise = kept judged.o8 (o8_same log) o.ordinals_and_times_rise;
        least_order_takes_all = (leaves_is None).0 o.least_order_takes_all;
      }

      back : IsOrderly log → IsOrderly bare
      back o = record {
        counts_rise_to_the_end = kept_back judged.o1 (o1_same log) o.counts_rise_to_the_end;
        kinds_in_order_at_a_count = kept_back judged.o2 (o2_same log) o.kinds_in_order_at_a_count;
        polls_where_due = kept_back judged.o3 (o3_same log) o.polls_where_due;
        touches_go_on = kept_back judged.o4 (o4_same log) o.touches_go_on;
        pages_are_numbered = kept_back judged.o5 (o5_same log) o.pages_are_numbered;
        holders_are_crew = kept_back judged.o6 (o6_same log) o.holders_are_crew;
        gains_name_their_waits = kept_back judged.o7 (o7_same log) o.gains_name_their_waits;
        ordinals_and_times_rise = kept_back judged.o8 (o8_same log) o.ordinals_and_times_rise;
        least_order_takes_all = (leaves_is None).1 o.least_order_takes_all;
      }

  abbrev or_next : ℕ → Option Spot → Option (ℕ × Spot) → Option (ℕ × Spot)
  or_next n p others = option_map_or (λ q. Some (n, q)) p others

  broken_is : first_broken bare 1 rules ≡ first_broken log 1 rules
  broken_is = λ i.
      or_next 1 (finds judged.o1 (o1_same log) i) (or_next 2 (finds judged.o2 (o2_same log) i) (or_next 3 (finds judged.o3 (o3_same log) i)
      (or_next 4 (finds judged.o4 (o4_same log) i) (or_next 5 (finds judged.o5 (o5_same log) i) (or_next 6 (finds judged.o6 (o6_same log) i)
      (or_next 7 (finds judged.o7 (o7_same log) i) (or_next 8 (finds judged.o8 (o8_same log) i) None)))))))

  breaks_is : (rule hart entry : ℕ) → IsLeastBreak bare rule hart entry ↔ IsLeastBreak log rule hart entry
  breaks_is rule hart entry = (there, back)
    where
      there : IsLeastBreak bare rule hart entry → IsLeastBreak log rule hart entry
      there (inl e) = inl (sym broken_is ∙ e)
      there (inr r) = inr (r.0, sym broken_is ∙ r.1, (leaves_is (Some (hart, entry))).0 r.2)

      back : IsLeastBreak log rule hart entry → IsLeastBreak bare rule hart entry
      back (inl e) = inl (broken_is ∙ e)
      back (inr r) = inr (r.0, broken_is ∙ r.1, (leaves_is (Some (hart, entry))).1 r.2)

  judged_alike : IsJudgedAlike log
  judged_alike = record {
    streams_are = stream_is log;
    size_is = λ unit. size_is unit log.streams;
    range_is = range_is log;
    spots_are = spots_are log;
    broken_is = broken_is;
    holds_are = held_is log;
    least = least_is;
    orderly = orderly_is;
    breaks = breaks_is;
  }

pub order_sees_no_room : OrderSeesNoRoom
order_sees_no_room log = judged_alike log
