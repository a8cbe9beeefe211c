use Rattle.turn_laws.proofs.Legs.{reached_are_crew, runs_stay, legs_stay, leg_is, leg_sooner, moves_of_leg, runs_leave}
use Rattle.turn_laws.proofs.LegsAtOnce.{legs_at_once, last_at_once}
use Rattle.turn_laws.proofs.legs_stay.Goals as goal

pub returns-clause-crew : goal.returns-clause-crew
returns-clause-crew c terms image harts supply b whole pages reached = reached_are_crew terms image harts supply whole pages b reached

pub returns-clause-runs : goal.returns-clause-runs
returns-clause-runs c terms image harts supply g n h b d x whole pages is other a =
    runs_stay terms image harts supply whole pages g n h b d x is.reached is.hart is.moves is.made other a

pub returns-clause-legs : goal.returns-clause-legs
returns-clause-legs c terms image harts supply g n h b d whole pages is there other =
    legs_stay terms image harts supply whole pages g n h b d is.reached is.hart is.moves is.made there other

pub returns-clause-are : goal.returns-clause-are
returns-clause-are c terms harts pages h until s t is good = leg_is terms harts pages h until t is.moves s good is.runs is.within is.ends

pub returns-clause-moves : goal.returns-clause-moves
returns-clause-moves c terms harts pages h k until s t good is within = moves_of_leg terms harts pages h until t k s good is within

pub returns-clause-sooner : goal.returns-clause-sooner
returns-clause-sooner c terms h k most s = leg_sooner terms h k most s

pub returns-clause-others : goal.returns-clause-others
returns-clause-others c terms x h k s t one a crew is = runs_leave terms h k x s t one (a, crew) is

pub returns-clause-at_once : goal.returns-clause-at_once
returns-clause-at_once c terms image harts r supply b whole pages reached = legs_at_once terms image harts supply whole pages r b reached

pub returns-clause-last_at_once : goal.returns-clause-last_at_once
returns-clause-last_at_once c terms image harts supply b whole pages reached = last_at_once terms image harts supply whole pages b reached
