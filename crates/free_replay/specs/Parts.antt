-- A run beside the part of its hart that is on record (docs/threads.md).
use Rattle.std.specs.Prelude.{ℕ, ◌≡◌, ◌≤◌, List, [], map, length, slice_get, Option, Some, None, unwrap_or}
use Rattle.rv_words.specs.declared.shared.Cause.TheVariants.{Stop}
use Rattle.rv_words.specs.declared.shared.Mode.{Mode}
use Rattle.log_entry.specs.Parts.{unit_of}
use Rattle.orders_law.specs.Orders.{below}
use Rattle.run_model.specs.Run.{Run}
use Rattle.replay_parts.specs.Boards.{Plain}
use Rattle.replay_parts.specs.Parts.{Part, part_of}
use Rattle.free_run.specs.Parts.{page_held}

-- the parts of a replay's board, one for each hart, in their order
abbrev pub parts_of : Plain → List Part
parts_of p = map (part_of p) (below (length p.log.streams))

-- a part that no board has
abbrev pub blank_part : Part
blank_part = record {
  hart = None;
  count = 0;
  pages = [];
  place = 0;
  until = 0;
  log = record { pages = 0; limit = 0; image = []; streams = []; cause = Stop };
  image = record { entry = 0; pages = 0; unit = 0; bytes = [] };
}

-- what the part has of a page
abbrev pub page_in : Part → ℕ → Option (Mode × List ℕ)
page_in x page = unwrap_or (slice_get x.pages page) None

-- The run is the part: its hart and count, and the pages that it holds with their modes and bytes, are the part's, and it was made for as many
-- harts as the log has streams, for as many pages as the image has, and for the log's unit.
pub record IsRunOf (x : Part) (r : Run) : Type 0 where
  pub hart : x.hart ≡ Some r.hart
  pub count : x.count ≡ r.count
  pub pages : (page : ℕ) → page_in x page ≡ page_held r page
  pub harts : r.hart.harts ≡ length x.log.streams
  pub number : length r.frames.pages ≡ x.image.pages
  pub unit : r.frames.unit ≡ unit_of x.log

-- the run is the part that is on record
pub record IsOnRecord (o : Option Part) (r : Run) : Type 0 where
  pub part : Part
  pub is : o ≡ Some part
  pub run : IsRunOf part r

-- the run may move up to this count before its hart's next turn
pub record MayMoveTo (o : Option Part) (r : Run) (until : ℕ) : Type 0 where
  pub part : Part
  pub is : o ≡ Some part
  pub least : r.count ≤ until
  pub most : until ≤ part.until
