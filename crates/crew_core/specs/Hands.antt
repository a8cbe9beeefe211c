-- Turns by hand: a run that was its part moves as far as it was told, and has its turn.
use Rattle.std.specs.Prelude.{ℕ, ◌≡◌, ◌≢◌, ◌<◌, List, length, slice_get, Some}
use Rattle.run_model.specs.Run.{Run}
use Rattle.crew_parts.specs.Boards.{Plain, until_of}
use Rattle.crew_parts.specs.Parts.{AreParts, IsPart}

pub record HasHand (old new : Plain) (h : ℕ) (after : Run) (until : ℕ) : Type 0 where
  pub part : IsPart new h after
  pub told : until_of new h ≡ until
  pub others : (g : ℕ) (x : Run) → g < old.harts → g ≢ h → IsPart old g x → IsPart new g x
  pub untils : (g : ℕ) → g < old.harts → g ≢ h → until_of new g ≡ until_of old g
  pub harts : new.harts ≡ old.harts

-- the runs are the parts of the harts, and up to there each may move
pub record AreHanded (p : Plain) (runs : List Run) (untils : List ℕ) : Type 0 where
  pub parts : AreParts p runs
  pub number : length untils ≡ p.harts
  pub told : (h n : ℕ) → slice_get untils h ≡ Some n → until_of p h ≡ n
