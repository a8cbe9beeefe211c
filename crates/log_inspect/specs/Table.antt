-- For each Gain with waits a line: the page, the number there, the hart, and the yields that it waits for. Lines stand by
-- page, number, hart and entry.
use Rattle.std.specs.Prelude.{ℕ, List, [], ◌∷◌, ◌++◌, flat_map, codes, Option, Some, None}
use Rattle.std.specs.Option.{option_map_or}
use Rattle.std.specs.List.{filter_map, enumerate_from}
use Rattle.std.specs.Fmt.{decimal}
use Rattle.log_entry.specs.declared.waits.WaitFor.{WaitFor}
use Rattle.log_entry.specs.declared.log.Entry.{Entry}
use Rattle.log_entry.specs.declared.log.Entry.TheVariants.{Gain}
use Rattle.log_entry.specs.declared.log.Log.{Log}
use Rattle.order_rules.specs.Places.{entry_at}
use Rattle.log_inspect.specs.declared.table.HandOver.{HandOver}
use Rattle.log_inspect.specs.ByNumber.{by_number}
use Rattle.log_inspect.specs.Listing.{newline, yield_text}

-- a Gain with waits, by its page, its number there, its hart and its place in that hart's stream
abbrev pub gain_with : ℕ → ℕ → ℕ → ℕ → List WaitFor → Option HandOver
gain_with h i page seq [] = None
gain_with h i page seq (w ∷ ws) = Some (record { page = page; seq = seq; hart = h; entry = i })

abbrev pub hand_over : ℕ → ℕ → Entry → Option HandOver
hand_over h i (Gain count page seq mode waits) = gain_with h i page seq waits.items
hand_over h i _ = None

abbrev pub hand_overs_of : ℕ → List Entry → List HandOver
hand_overs_of h s = filter_map (λ x. hand_over h x.0 x.1) (enumerate_from 0 s)

abbrev pub hand_overs_in : List (List Entry) → List HandOver
hand_overs_in streams = flat_map (λ x. hand_overs_of x.0 x.1) (enumerate_from 0 streams)

-- all of them, by hart and entry
abbrev pub hand_overs : Log → List HandOver
hand_overs log = hand_overs_in log.streams

-- by page, number, hart and entry: a stable order by numbers, and then by pages
abbrev pub in_order : List HandOver → List HandOver
in_order gains = by_number (λ x. x.page) (by_number (λ x. x.seq) gains)

abbrev pub waits_in : Entry → List WaitFor
waits_in (Gain count page seq mode waits) = waits.items
waits_in _ = []

-- what the Gain waits for
abbrev pub waits_of : Log → HandOver → List WaitFor
waits_of log x = option_map_or waits_in (entry_at log x.hart x.entry) []

unfoldable pub next_yield : WaitFor → List ℕ
next_yield w = codes " " ++ yield_text w

unfoldable pub table_head : HandOver → List ℕ
table_head x = codes "page " ++ (decimal x.page ++ (codes " seq " ++ (decimal x.seq ++ (codes " hart " ++ (decimal x.hart ++ codes " from")))))

-- each yield stands behind a blank
abbrev pub yields_text : List WaitFor → List ℕ
yields_text waits = flat_map (λ w. next_yield w) waits

unfoldable pub table_line : Log → HandOver → List ℕ
table_line log x = table_head x ++ (yields_text (waits_of log x) ++ newline)

abbrev pub lines_of : Log → List HandOver → List ℕ
lines_of log gains = flat_map (λ x. table_line log x) gains

-- a line for each Gain with waits
abbrev pub hand_over_lines : Log → List ℕ
hand_over_lines log = lines_of log (in_order (hand_overs log))
