-- A run beside the part of its hart that is on record (docs/threads.md).
use Rattle.std.specs.Prelude.{ℕ, ◌≡◌, ◌≤◌, false, List, [], map, length, slice_get, Option, Some, None, unwrap_or}
use Rattle.rv_words.specs.Limits.{page_bytes}
use Rattle.rv_words.specs.declared.shared.Mode.{Mode}
use Rattle.guest_pages.specs.Pages.{bytes_of}
use Rattle.orders_law.specs.Orders.{below}
use Rattle.run_model.specs.Run.{Run, hold_of}
use Rattle.run_model.specs.PagesHeld.{with_bytes}
use Rattle.crew_parts.specs.Boards.{Plain, world}
use Rattle.crew_parts.specs.Parts.{Part, part_of}

-- the parts of a board's harts, in their order
abbrev pub parts_of : Plain → List Part
parts_of p = map (part_of p) (below p.harts)

-- a part that no board has
abbrev pub blank_part : Part
blank_part = record {
  hart = None;
  count = 0;
  pages = [];
  entries = [];
  until = 0;
  image = record { entry = 0; pages = 0; unit = 0; bytes = [] };
  harts = 0;
  limit = 0;
  log_limit = 0;
  first = world
      (record { tells_answers = false; answers = []; tells_taken = false; taken = []; faults = 0 })
      (record { tells = false; answers = [] });
}

-- what the run holds of a page, with its frame's bytes
abbrev pub page_held : Run → ℕ → Option (Mode × List ℕ)
page_held r page = with_bytes (bytes_of r.frames page) (hold_of r page)

-- what the part has of a page
abbrev pub page_in : Part → ℕ → Option (Mode × List ℕ)
page_in x page = unwrap_or (slice_get x.pages page) None

-- The run is the part: its hart and count, and the pages that it holds with their modes and bytes, are the part's, and it was made for as many
-- harts and pages as the board has, and for its unit.
pub record IsRunOf (x : Part) (r : Run) : Type 0 where
  pub hart : x.hart ≡ Some r.hart
  pub count : x.count ≡ r.count
  pub pages : (page : ℕ) → page_in x page ≡ page_held r page
  pub harts : r.hart.harts ≡ x.harts
  pub number : length r.frames.pages ≡ x.image.pages
  pub unit : r.frames.unit ≡ page_bytes

-- the run is the part that is on record
pub record IsOnRecord (o : Option Part) (r : Run) : Type 0 where
  pub part : Part
  pub is : o ≡ Some part
  pub run : IsRunOf part r

-- the run may move up to this count before its hart's next turn
pub record MayMoveTo (o : Option Part) (r : Run) (until : ℕ) : Type 0 where
  pub part : Part
  pub is : o ≡ Some part
  pub least : r.count ≤ until
  pub most : until ≤ part.until
