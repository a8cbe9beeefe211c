-- Who holds, has yielded and wants the pages of a board (docs/pages.md).
use Rattle.std.specs.Prelude.{ℕ, ◌≡◌, ◌+◌, ◌-◌, ◌<◌, ◌≤◌, ◌==◌, ◌&&◌, not, nat_lt, is_none, Bool, All, List, [], ◌∷◌, ◌++◌, filter, find, length, replicate}
use Rattle.std.specs.Prelude.{sum_by, slice_get, slice_index, slice_set, Option, Some, None, unwrap_or}
use Rattle.std.specs.List.{range_with_len}
use Rattle.rv_words.specs.declared.shared.Mode.{Mode}
use Rattle.rv_words.specs.declared.shared.TheConstants.{MAX_HARTS}
use Rattle.log_entry.specs.declared.waits.WaitFor.{WaitFor}
use Rattle.log_entry.specs.Parts.{strength, conflict}
use Rattle.order_rules.specs.Holders.{Holders, nobody, held, with_held, row, IsCrew}

-- `numbers` has the next number of each page, `yields` the Yields of each page since its latest Gain, in the order of their
-- numbers, and `wants` what each hart has asked for
pub record Directory : Type 0 where
  pub holders : Holders
  pub numbers : List ℕ
  pub yields : List (List WaitFor)
  pub wants : List (Option (ℕ × Mode))

abbrev pub directory_at_start : ℕ → ℕ → Directory
directory_at_start harts pages =
    record { holders = nobody pages harts; numbers = replicate pages 0; yields = replicate pages []; wants = replicate harts None }

-- the least other of so many harts whose hold conflicts with the mode
abbrev pub clash_in : List (Option Mode) → ℕ → ℕ → Mode → Option ℕ
clash_in holds harts h mode =
    find (λ g. not (g == h) && conflict (Some mode) (unwrap_or (slice_get holds g) None)) (range_with_len 0 harts)

-- the least other hart that holds the page in conflict with the mode
abbrev pub clash_of : Directory → ℕ → ℕ → Mode → Option ℕ
clash_of d h page mode = clash_in (row d.holders page) (length d.wants) h mode

-- no other hart holds the page in conflict, and the mode is more than what the hart holds
abbrev pub may_gain : Directory → ℕ → ℕ → Mode → Bool
may_gain d h page mode = is_none (clash_of d h page mode) && nat_lt (strength (held d.holders page h)) (strength (Some mode))

abbrev pub yields_of : Directory → ℕ → List WaitFor
yields_of d page = unwrap_or (slice_get d.yields page) []

-- the Yields by other harts
abbrev pub by_others : ℕ → List WaitFor → List WaitFor
by_others h yields = filter (λ wait. not (wait.hart == h)) yields

-- the hart gains the page; a Gain after it waits for later Yields alone
abbrev pub gained : Directory → ℕ → ℕ → Mode → Directory
gained d h page mode =
    record d {
      holders = with_held d.holders page h (Some mode);
      numbers = slice_set d.numbers page (slice_index d.numbers page + 1);
      yields = slice_set d.yields page [];
    }

-- the hart yields the page at its count, and keeps what is left
abbrev pub yielded : Directory → ℕ → ℕ → ℕ → Option Mode → Directory
yielded d h page count left =
    record d {
      holders = with_held d.holders page h left;
      numbers = slice_set d.numbers page (slice_index d.numbers page + 1);
      yields = slice_set d.yields page (yields_of d page ++ record { hart = h; count = count } ∷ []);
    }

abbrev pub weight : List (Option Mode) → ℕ
weight holds = sum_by strength holds

-- a page has had no more Yields since its latest Gain than its holders then could make, and a hart waits for fewer than a board
-- has harts
pub record AreFew (holds : List (Option Mode)) (yields : List WaitFor) : Type 0 where
  pub all : length yields + weight holds ≤ MAX_HARTS
  pub others : (h : ℕ) → h < length holds → length (by_others h yields) + weight (slice_set holds h None) ≤ MAX_HARTS - 1

-- the parts are of one board, and the holders are CREW: concurrent readers or one exclusive writer
pub record IsDirectory (d : Directory) : Type 0 where
  pub crew : IsCrew d.holders
  pub harts : length d.wants ≤ MAX_HARTS
  pub rows : All (λ holds. length holds ≡ length d.wants) d.holders
  pub numbers_size : length d.numbers ≡ length d.holders
  pub yields_size : length d.yields ≡ length d.holders
  pub few : (page : ℕ) → page < length d.holders → AreFew (row d.holders page) (yields_of d page)
