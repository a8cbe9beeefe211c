-- For each page that has entries a line: how many Gains and how many Yields. Pages are those that entries number.
use Rattle.std.specs.Prelude.{ℕ, ◌≡◌, ◌<◌, ◌==◌, ◌&&◌, if◌then◌else◌, Bool, List, [], ◌++◌, flat_map, count_by, codes, Option, Some, None}
use Rattle.std.specs.List.{range_with_len}
use Rattle.std.specs.Fmt.{decimal}
use Rattle.log_entry.specs.declared.log.Entry.{Entry}
use Rattle.log_entry.specs.declared.log.Entry.TheVariants.{Gain, Yield}
use Rattle.log_entry.specs.declared.log.Log.{Log}
use Rattle.log_entry.specs.Parts.{is_some_and, units_of}
use Rattle.order_rules.specs.Places.{entries, entry_at}
use Rattle.log_inspect.specs.declared.totals.Kind.{Kind}
use Rattle.log_inspect.specs.declared.totals.Kind.TheVariants.{Gains, Yields}
use Rattle.log_inspect.specs.Listing.{newline}

abbrev pub gained : Entry → Option ℕ
gained (Gain count page seq mode waits) = Some page
gained _ = None

abbrev pub yielded : Entry → Option ℕ
yielded (Yield count page seq left) = Some page
yielded _ = None

-- the page that an entry of the kind is of
abbrev pub page_of : Kind → Entry → Option ℕ
page_of Gains e = gained e
page_of Yields e = yielded e

abbrev pub is_of : Kind → ℕ → Entry → Bool
is_of kind page e = is_some_and (page_of kind e) (λ p. p == page)

-- how many entries of the kind a page has
abbrev pub total : Kind → Log → ℕ → ℕ
total kind log page = count_by (is_of kind page) (entries log)

-- nothing for a page without entries
unfoldable pub total_line : ℕ → ℕ → ℕ → List ℕ
total_line page gains yields =
    if (gains == 0) && (yields == 0) then []
    else codes "page " ++ (decimal page ++ (codes " gains " ++ (decimal gains ++ (codes " yields " ++ (decimal yields ++ newline)))))

abbrev pub line_of_page : Log → ℕ → List ℕ
line_of_page log page = total_line page (total Gains log page) (total Yields log page)

-- of so many pages
abbrev pub totals_below : Log → ℕ → List ℕ
totals_below log n = flat_map (λ page. line_of_page log page) (range_with_len 0 n)

abbrev pub totals : Log → List ℕ
totals log = totals_below log (units_of log)

-- entries of the kind are of pages below this
abbrev pub PagesBelow : Kind → Log → ℕ → Type 0
PagesBelow kind log width = (h i : ℕ) (e : Entry) (p : ℕ) → entry_at log h i ≡ Some e → page_of kind e ≡ Some p → p < width
