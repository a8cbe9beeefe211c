-- Turns by a list (docs/recorder.md).
use Rattle.std.specs.Prelude.{ℕ, ◌≡◌, min, List, Option, Some}
use Rattle.run_model.specs.Run.{Run}
use Rattle.turn_model.specs.Board as model
use Rattle.turn_model.specs.Lists.{listed, comes_to, recorded_by_list}
use Rattle.crew_parts.specs.Boards.{Plain, the_machine, board_of, terms_of}
use Rattle.crew_parts.specs.Turns.{HasTurn}
use Rattle.crew_core.specs.declared.order.Order.{Order}
use Rattle.recorded_turns.specs.Laws.{IsTaken}
use Rattle.recorded_turns.specs.Takes.{Takes}
use Rattle.recorder.specs.Manned.{IsManned, leg_in, still}

-- a turn of the hart, with so many moves of its leg at most
pub record HasRow (p q : Plain) (h most : ℕ) (runs : List Run) (orders : List (Option Order)) : Type 0 where
  pub before : Run
  pub after : Run
  pub order : model.Order
  pub had : HasTurn p q h before after order
  pub made : had.moves ≡ min most (leg_in p h)
  pub manned : IsManned q runs orders still

-- the turns of a list
pub record TakesRows (list : List (ℕ × ℕ)) (p q : Plain) (runs : List Run) (orders : List (Option Order)) : Type 0 where
  pub takes : Takes (terms_of p) (listed the_machine (terms_of p) list) p q
  pub manned : IsManned q runs orders still

-- the recording by a list, whatever console and clock give later
pub record TakesList (list : List (ℕ × ℕ)) (p q : Plain) (runs : List Run) (orders : List (Option Order)) : Type 0 where
  pub taken : IsTaken p q (λ given left.
      recorded_by_list the_machine (terms_of p) list (board_of p given) ≡ Some (comes_to the_machine (terms_of p) (board_of q left)))
  pub terms : terms_of q ≡ terms_of p
  pub manned : IsManned q runs orders still
