-- The laws of boards as plain data, and nothing else.
use Rattle.std.proofs.Common.{refl}
use Rattle.crew_parts.specs.Boards.{board_of, spent, terms_of}
use Rattle.crew_parts.specs.Laws.{StatesAre, FirstBoards, BoardsAreSound, NothingIsChanged, LeftIsFree, TurnsReach, MovesAreTold, PartsStay, RunsGoOn}
use Rattle.crew_parts.specs.Laws.{BoardsSet}
use Rattle.crew_parts.specs.Laws.{OrdersAreExact, PartsUnmoved, LegsAdvance, PartsHaveUnit, PartsAreNumbered}
use Rattle.turn_laws.specs.Reached.{Turned}
use Rattle.turn_laws.specs.Supplies.{followed_by}
use Rattle.turn_laws.proofs.Legs.{reached_are_crew}
use Rattle.crew_parts.proofs.Reaching.{part_number, reached_numbered, reached_state}
use Rattle.crew_parts.proofs.Setting.{closing_set, favour_set, first_board, first_reached, nothing_changed}
use Rattle.crew_parts.proofs.Turned.{part_counts, part_fits, reached_with, whatever_left}
use Rattle.crew_parts.proofs.Advancing.{leg_advances, part_unmoved}
use Rattle.crew_parts.proofs.Frames.{part_unit}
use Rattle.crew_parts.proofs.Holding.{told_exactly}
use Rattle.crew_parts.proofs.OtherParts.{others_stay, runs_go_on}

pub states_are : StatesAre
states_are = reached_state

pub first_boards : FirstBoards
first_boards image harts limit log_limit world left =
    (first_board image harts limit log_limit world left, first_reached image harts limit log_limit world)

pub boards_are_sound : BoardsAreSound
boards_are_sound p whole reached =
    let crew = reached_are_crew (terms_of p) p.image p.harts reached.0 whole refl (board_of p spent) reached.1 in
    record {
      streams = crew.1;
      crew = crew.2;
      numbered = reached_numbered (terms_of p) p.image p.harts reached.0 refl (board_of p spent) reached.1;
    }

pub boards_set : BoardsSet
boards_set p reached = (λ r l. favour_set p r reached l, λ cause. closing_set p cause reached)

pub left_is_free : LeftIsFree
left_is_free p q h n given is left no_more = whatever_left (terms_of p) p q h n given is left no_more

pub turns_reach : TurnsReach
turns_reach p h n r given c turned is none =
    let with = reached_with p h n given c turned.reached is none in
    (with.0, Turned h n (board_of p (followed_by given spent)) c with.1 turned.hart (part_fits p h n r (followed_by given spent) turned) is)

pub moves_are_told : MovesAreTold
moves_are_told p h n r is = (part_counts p h n r is, λ left. part_fits p h n r left is)

pub orders_are_exact : OrdersAreExact
orders_are_exact = told_exactly

pub parts_stay : PartsStay
parts_stay p q h n g r given turned is counts terms there other =
    let with = reached_with p h n given (board_of q spent) turned.reached is refl in
    others_stay p q with.0 (followed_by given spent) h n g turned.whole with.1 turned.hart (part_fits p h n r (followed_by given spent) turned) spent is
    turned.counts counts terms there other

pub nothing_is_changed : NothingIsChanged
nothing_is_changed = nothing_changed

pub runs_stay_parts : RunsGoOn
runs_stay_parts p q h n g r x given turned is there other agrees =
    let with = reached_with p h n given (board_of q spent) turned.reached is refl in
    runs_go_on p q with.0 (followed_by given spent) h n g x turned.whole with.1 turned.hart (part_fits p h n r (followed_by given spent) turned) spent is
    other (part_unit p g x turned.whole turned.reached there agrees) agrees

pub parts_have_unit : PartsHaveUnit
parts_have_unit = part_unit

pub parts_unmoved : PartsUnmoved
parts_unmoved = part_unmoved

pub legs_advance : LegsAdvance
legs_advance = leg_advances

pub parts_are_numbered : PartsAreNumbered
parts_are_numbered = part_number
