-- Which hart holds which page, in which mode.
use Rattle.std.specs.Prelude.{ℕ, ◌≡◌, ◌≢◌, false, List, [], replicate, slice_get, slice_set, Option, None, unwrap_or}
use Rattle.rv_words.specs.declared.shared.Mode.{Mode}
use Rattle.log_entry.specs.Parts.{conflict}

-- by page and then by hart
abbrev pub Holders : Type 0
Holders = List (List (Option Mode))

abbrev pub nobody : ℕ → ℕ → Holders
nobody pages harts = replicate pages (replicate harts None)

abbrev pub row : Holders → ℕ → List (Option Mode)
row holders page = unwrap_or (slice_get holders page) []

abbrev pub held : Holders → ℕ → ℕ → Option Mode
held holders page h = unwrap_or (slice_get (row holders page) h) None

-- the table once a hart holds this of a page
abbrev pub with_held : Holders → ℕ → ℕ → Option Mode → Holders
with_held holders page h hold = slice_set holders page (slice_set (row holders page) h hold)

-- concurrent readers or one exclusive writer: no two harts hold a page in conflict
abbrev pub IsCrew : Holders → Type 0
IsCrew holders = (page g h : ℕ) → g ≢ h → conflict (held holders page g) (held holders page h) ≡ false
