-- What the worker of a hart has, and what it promises when it is joined (docs/threads.md).
use Rattle.std.specs.Prelude.{ℕ, ◌≡◌, true, false, Option, Some, List, All}
use Rattle.std.specs.List.{AllZip}
use Rattle.run_model.specs.Run.{Run}
use Rattle.turn_table.specs.declared.table.Pass.{Pass}
use Rattle.turn_table.specs.declared.table.TurnTable.{TurnTable}
use Rattle.turn_table.specs.Passes.{IsPassOf, IsIdle, hart_of, part_of}
use Rattle.crew_parts.specs.Boards.{Plain}
use Rattle.crew_parts.specs.Parts.{Part}
use Rattle.free_run.specs.Parts.{IsOnRecord, MayMoveTo}
use Rattle.free_run.specs.RecordLegs.{HasGoneTo}
use Rattle.free_run.specs.declared.worker.Job.{Job}

-- a hart's job before its worker's first leg
abbrev pub first_job : Run → Job
first_job r = record { run = r; until = r.count; legs = 0; refused = false }

-- the parts are of boards with the same terms
pub record AreOfOneBoard (x y : Part) : Type 0 where
  pub image : y.image ≡ x.image
  pub harts : y.harts ≡ x.harts
  pub limit : y.limit ≡ x.limit
  pub log_limit : y.log_limit ≡ x.log_limit
  pub first : y.first ≡ x.first

-- the run is the part on record, and may move as far as it was told; where memory was refused it is that part, advanced by a leg
pub record Stands (o : Option Part) (j : Job) : Type 0 where
  pub on_record : j.refused ≡ false → IsOnRecord o j.run × MayMoveTo o j.run j.until
  pub ahead : j.refused ≡ true → (r : Run) × (to : ℕ) × IsOnRecord o r × MayMoveTo o r to × HasGoneTo to r j.run

-- the pass is this table's, doesn't hold the board, and has the part of the job's run on record
pub record IsReady (t : TurnTable Plain Part) (p : Pass Plain Part) (j : Job) : Type 0 where
  pub table : IsPassOf t p
  pub idle : IsIdle p
  pub stands : Stands (part_of p) j

-- the pass is the same hart's, and the terms of its part are the same
pub record Continues (old new : Pass Plain Part) : Type 0 where
  pub hart : hart_of new ≡ hart_of old
  pub before : Part
  pub after : Part
  pub was : part_of old ≡ Some before
  pub is : part_of new ≡ Some after
  pub terms : AreOfOneBoard before after

-- what a worker promises: it is ready again, and continues
pub record HasWorked (t : TurnTable Plain Part) (old new : Pass Plain Part) (j : Job) : Type 0 where
  pub ready : IsReady t new j
  pub continues : Continues old new

-- workers of which each is ready
abbrev pub AreReady : TurnTable Plain Part → List (Pass Plain Part × Job) → Type 0
AreReady t workers = All (λ w. IsReady t w.0 w.1) workers

-- workers of which each has worked
abbrev pub HaveWorked : TurnTable Plain Part → List (Pass Plain Part × Job) → List (Pass Plain Part × Job) → Type 0
HaveWorked t old new = AllZip (λ a b. HasWorked t a.0 b.0 b.1) old new

-- what is left of that once pass and run are apart: the pass is this table's, doesn't hold the board, and continues
pub record IsBack (t : TurnTable Plain Part) (old new : Pass Plain Part) : Type 0 where
  pub table : IsPassOf t new
  pub idle : IsIdle new
  pub continues : Continues old new
