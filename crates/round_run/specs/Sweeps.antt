-- Sweeps and rounds (docs/recorder.md).
use Rattle.std.specs.Prelude.{ℕ, ◌+◌, ◌%◌, ◌==◌, Bool, true, List, map, Option, if◌then◌else◌}
use Rattle.std.specs.List.{list_any}
use Rattle.orders_law.specs.Orders.{below}
use Rattle.run_model.specs.Run.{Run}
use Rattle.turn_model.specs.Rounds.{sweep, round}
use Rattle.crew_parts.specs.Boards.{Plain, the_machine, terms_of}
use Rattle.crew_core.specs.declared.order.Order.{Order}
use Rattle.recorded_turns.specs.Takes.{Takes}
use Rattle.recorder.specs.Manned.{IsManned, still}
use Rattle.round_run.specs.Legs.{ready_moves}

-- the first harts of a sweep, so many
abbrev pub harts_by : ℕ → ℕ → ℕ → List ℕ
harts_by harts r i = map (λ j. (r + j) % harts) (below i)

abbrev pub has_come : List ℕ → ℕ → Bool
has_come hs h = list_any (λ g. g == h) hs

-- the moves of the harts whose turns are still to come
abbrev pub moves_to_come : List ℕ → Bool → Plain → ℕ → ℕ
moves_to_come hs moved p h = if has_come hs h then 0 else ready_moves moved p h

-- a sweep, as far as these harts
pub record SweepsTo (r : ℕ) (moved : Bool) (hs : List ℕ) (p q : Plain) (runs : List Run) (orders : List (Option Order)) : Type 0 where
  pub takes : Takes (terms_of p) (sweep the_machine (terms_of p) r moved hs) p q
  pub manned : IsManned q runs orders (moves_to_come hs moved q)

-- a whole one
pub record TakesSweep (r : ℕ) (moved : Bool) (p q : Plain) (runs : List Run) (orders : List (Option Order)) : Type 0 where
  pub takes : Takes (terms_of p) (sweep the_machine (terms_of p) r moved (harts_by p.harts r p.harts)) p q
  pub manned : IsManned q runs orders still

-- a round behind legs of all harts
pub record TakesRound (r : ℕ) (p q : Plain) (runs : List Run) (orders : List (Option Order)) : Type 0 where
  pub takes : Takes (terms_of p) (round the_machine (terms_of p) r true) p q
  pub manned : IsManned q runs orders still
