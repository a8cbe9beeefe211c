-- The listing of a log doesn't hang on the room that its waits have in memory.
use Rattle.std.proofs.Common.{◌≡◌, ℕ, ◌==◌, ◌++◌, Bool, true, false, List, [], Option, Some, None, option_map, refl, sym, ap, ◌∙◌, subst}
use Rattle.std.specs.Option.{option_map_or}
use Rattle.std.specs.List.{flat_map, filter_map, enumerate_from, range_with_len}
use Rattle.std.proofs.lemmas.List.{length-map}
use Rattle.std.proofs.lemmas.List.Folds.{flat_map-map}
use Rattle.log_entry.specs.declared.log.Entry.{Entry}
use Rattle.log_entry.specs.declared.log.Log.{Log}
use Rattle.log_entry.specs.Room.{entry_without_room, stream_without_room, log_without_room}
use Rattle.log_entry.specs.Parts.{is_some_and}
use Rattle.order_rules.specs.Places.{entry_at}
use Rattle.room_laws.proofs.Lists.{numbered_mapped, kept_mapped}
use Rattle.room_laws.proofs.Entries.{Unseen, unseen}
use Rattle.room_laws.proofs.Places.{entry_is, count_in}
use Rattle.room_laws.proofs.Judged.{order_sees_no_room}
use Rattle.log_inspect.specs.Listing.{listing, lines_of_harts, hart_lines, hart_line, entry_lines, entry_line, entry_text, head_line, image_line}
use Rattle.log_inspect.specs.Totals.{totals, total_line, gained, yielded}
use Rattle.log_inspect.specs.Table.{hand_over_lines, hand_overs_of, hand_overs, hand_over, in_order, lines_of, table_line, table_head, yields_text, waits_in}
use Rattle.log_inspect.specs.Listing.{newline}
use Rattle.revirt_tool.specs.Listings.{IsListing, Judges}

entry_line_is : (n : ℕ) → Unseen (entry_line n)
unfolding entry_line entry_text
entry_line_is n = unseen (entry_line n) (λ c p q m w. refl)

-- the lines of a hart's entries
entry_lines_are : (s : List Entry) → entry_lines (stream_without_room s) ≡ entry_lines s
entry_lines_are s =
    ap (flat_map (λ (x : ℕ × Entry). entry_line x.0 x.1)) (numbered_mapped entry_without_room 0 s)
    ∙ flat_map-map (λ (x : ℕ × Entry). entry_line x.0 x.1) (λ (x : ℕ × Entry). (x.0, entry_without_room x.1)) (enumerate_from 0 s)
    ∙ (λ i. flat_map (λ x. entry_line_is x.0 i x.1) (enumerate_from 0 s))

hart_lines_are : (h : ℕ) (s : List Entry) → hart_lines h (stream_without_room s) ≡ hart_lines h s
unfolding hart_lines
hart_lines_are h s = λ i. hart_line h (length-map s entry_without_room i) ++ entry_lines_are s i

listing_is : (log : Log) → listing (log_without_room log) ≡ listing log
listing_is log = λ i. head_line (length-map log.streams stream_without_room i) log.pages log.limit log.cause ++ (image_line log.image ++ lines_are i)
  where
    lines_are : lines_of_harts (log_without_room log).streams ≡ lines_of_harts log.streams
    lines_are =
        ap (flat_map (λ (x : ℕ × List Entry). hart_lines x.0 x.1)) (numbered_mapped stream_without_room 0 log.streams)
        ∙ flat_map-map (λ (x : ℕ × List Entry). hart_lines x.0 x.1) (λ (x : ℕ × List Entry). (x.0, stream_without_room x.1)) (enumerate_from 0 log.streams)
        ∙ (λ i. flat_map (λ x. hart_lines_are x.0 x.1 i) (enumerate_from 0 log.streams))

-- what pages have of Gains, and of Yields
abbrev is_on : (Entry → Option ℕ) → ℕ → Entry → Bool
is_on of page e = is_some_and (of e) (λ p. p == page)

totals_are : (log : Log) → totals (log_without_room log) ≡ totals log
totals_are log =
    λ i. flat_map (λ page. total_line page
    (count_in log (is_on gained page) (unseen (is_on gained page) (λ c p q m w. refl)) i)
    (count_in log (is_on yielded page) (unseen (is_on yielded page) (λ c p q m w. refl)) i)) (range_with_len 0 log.pages)

-- the hand-overs, and what each waits for
hand_overs_are : (log : Log) → hand_overs (log_without_room log) ≡ hand_overs log
hand_overs_are log =
    ap (flat_map (λ (x : ℕ × List Entry). hand_overs_of x.0 x.1)) (numbered_mapped stream_without_room 0 log.streams)
    ∙ flat_map-map (λ (x : ℕ × List Entry). hand_overs_of x.0 x.1) (λ (x : ℕ × List Entry). (x.0, stream_without_room x.1)) (enumerate_from 0 log.streams)
    ∙ (λ i. flat_map (λ x. of_hart x.0 x.1 i) (enumerate_from 0 log.streams))
  where
    of_hart : (h : ℕ) (s : List Entry) → hand_overs_of h (stream_without_room s) ≡ hand_overs_of h s
    of_hart h s =
        ap (filter_map (λ (x : ℕ × Entry). hand_over h x.0 x.1)) (numbered_mapped entry_without_room 0 s)
        ∙ kept_mapped (λ (x : ℕ × Entry). (x.0, entry_without_room x.1)) (λ (x : ℕ × Entry). hand_over h x.0 x.1) (enumerate_from 0 s)
        ∙ (λ i. filter_map (λ x. unseen (hand_over h x.0) (λ c p q m w. refl) i x.1) (enumerate_from 0 s))

waits_are : (log : Log) (h i : ℕ)
    → option_map_or waits_in (entry_at (log_without_room log) h i) [] ≡ option_map_or waits_in (entry_at log h i) []
waits_are log h i = ap (λ o. option_map_or waits_in o []) (entry_is log h i) ∙ by (entry_at log h i)
  where
    by : (o : Option Entry) → option_map_or waits_in (option_map entry_without_room o) [] ≡ option_map_or waits_in o []
    by None = refl
    by (Some e) = λ i. unseen waits_in (λ c p q m w. refl) i e

hand_over_lines_are : (log : Log) → hand_over_lines (log_without_room log) ≡ hand_over_lines log
unfolding table_line
hand_over_lines_are log =
    ap (λ xs. lines_of (log_without_room log) (in_order xs)) (hand_overs_are log)
    ∙ (λ i. flat_map (λ x. table_head x ++ (yields_text (waits_are log x.hart x.entry i) ++ newline)) (in_order (hand_overs log)))

-- logs that say the same have the same lines
lines_alike : (one other : Log) → log_without_room one ≡ log_without_room other
    → listing one ++ (totals one ++ hand_over_lines one) ≡ listing other ++ (totals other ++ hand_over_lines other)
lines_alike one other same =
    sym (bare one) ∙ ap (λ l. listing l ++ (totals l ++ hand_over_lines l)) same ∙ bare other
  where
    bare : (log : Log) → listing (log_without_room log) ++ (totals (log_without_room log) ++ hand_over_lines (log_without_room log))
        ≡ listing log ++ (totals log ++ hand_over_lines log)
    bare log = λ i. listing_is log i ++ (totals_are log i ++ hand_over_lines_are log i)

-- and are judged alike
roomy_judged : (log : Log) (line : List ℕ) (orderly : Bool) → Judges (log_without_room log) line orderly → Judges log line orderly
roomy_judged log line true j = ((order_sees_no_room log).orderly.0 j.0, j.1)
roomy_judged log line false j = record {
  rule = j.rule;
  hart = j.hart;
  entry = j.entry;
  breaks = ((order_sees_no_room log).breaks j.rule j.hart j.entry).0 j.breaks;
  told = j.told;
}

bare_judged : (log : Log) (line : List ℕ) (orderly : Bool) → Judges log line orderly → Judges (log_without_room log) line orderly
bare_judged log line true j = ((order_sees_no_room log).orderly.1 j.0, j.1)
bare_judged log line false j = record {
  rule = j.rule;
  hart = j.hart;
  entry = j.entry;
  breaks = ((order_sees_no_room log).breaks j.rule j.hart j.entry).1 j.breaks;
  told = j.told;
}

-- so a listing of the one is one of the other
pub listed_alike : (one other : Log) (text : List ℕ) (orderly : Bool) → log_without_room one ≡ log_without_room other → IsListing other text orderly
    → IsListing one text orderly
listed_alike one other text orderly same is = record {
  line = is.line;
  judged = roomy_judged one is.line orderly
      (subst (λ l. Judges l is.line orderly) (sym same) (bare_judged other is.line orderly is.judged));
  lines = is.lines ∙ ap (λ xs. xs ++ is.line) (sym (lines_alike one other same));
}
