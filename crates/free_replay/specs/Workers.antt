-- What the worker of a hart has, and what it promises when it is joined (docs/threads.md).
use Rattle.std.specs.Prelude.{ℕ, ◌≡◌, Some}
use Rattle.turn_table.specs.declared.table.Pass.{Pass}
use Rattle.turn_table.specs.declared.table.TurnTable.{TurnTable}
use Rattle.turn_table.specs.Passes.{hart_of, part_of}
use Rattle.replay_core.specs.declared.went.Pace.{Pace}
use Rattle.replay_core.specs.declared.went.Pace.TheVariants.{Go}
use Rattle.replay_parts.specs.Boards.{Plain}
use Rattle.replay_parts.specs.Parts.{Part}
use Rattle.free_replay.specs.Parts.{MayMoveTo}
use Rattle.free_replay.specs.ReplayLegs.{IsReady}
use Rattle.free_replay.specs.declared.worker.Worker.{Worker}

-- up to which count a run at this count may move that was told this
abbrev pub until_told : Pace → ℕ → ℕ
until_told (Go until) count = until
until_told pace count = count

-- pass and run are ready for a leg, and the run may move as far as it was told
pub record IsReadyWorker (t : TurnTable Plain Part) (w : Worker) : Type 0 where
  pub ready : IsReady t w.pass w.run
  pub told : MayMoveTo (part_of w.pass) w.run w.until

-- the pass is the same hart's, and its part is of a replay of the same log over the same image
pub record Continues (old new : Pass Plain Part) : Type 0 where
  pub hart : hart_of new ≡ hart_of old
  pub before : Part
  pub after : Part
  pub was : part_of old ≡ Some before
  pub is : part_of new ≡ Some after
  pub log : after.log ≡ before.log
  pub image : after.image ≡ before.image

-- what a worker promises: it is ready again, and continues
pub record HasWorked (t : TurnTable Plain Part) (old new : Worker) : Type 0 where
  pub ready : IsReadyWorker t new
  pub continues : Continues old.pass new.pass
