use Rattle.std.proofs.Common.{Some, None, subst}
use Rattle.replay_core.specs.Standing.{AgreesOnCause}
use Rattle.replay_core.proofs.StagesGoOn.{on_same, somewhere_on}
use Rattle.replay_core.proofs.OutcomesTold.{comes_back, found_on, stuck_on, tells_cause, tells_done, tells_first}
use Rattle.replay_core.proofs.replaying.Replaying.outcome.Goals as goal

pub diverged-requires-clause-at : goal.diverged-requires-clause-at
diverged-requires-clause-at c =
    somewhere_on c.args.self c.first_diverged-diverged.new.self (on_same c.args.self c.first_diverged-diverged.new.self c.first_diverged-diverged.ensures.same)
    c.requires.at

pub cause_agrees-requires : goal.cause_agrees-requires
cause_agrees-requires c =
    somewhere_on c.args.self c.first_diverged-diverged.new.self (on_same c.args.self c.first_diverged-diverged.new.self c.first_diverged-diverged.ensures.same)
    c.requires.at

pub into_end-requires : goal.into_end-requires
into_end-requires c =
    somewhere_on c.args.self c.first_diverged-diverged.new.self (on_same c.args.self c.first_diverged-diverged.new.self c.first_diverged-diverged.ensures.same)
    c.requires.at

pub diverged-requires-else-cause_agrees-clause-at : goal.diverged-requires-else-cause_agrees-clause-at
diverged-requires-else-cause_agrees-clause-at c =
    somewhere_on c.args.self c.first_diverged-diverged.new.self (on_same c.args.self c.first_diverged-diverged.new.self c.first_diverged-diverged.ensures.same)
    c.requires.at

pub returns-in-Some : goal.returns-in-Some
returns-in-Some c =
    let same = c.first_diverged-diverged.ensures.same in
    let now = c.first_diverged-diverged.new.self in
    comes_back c.args.self now _ same
    (tells_first now c.in-Some.hart c.in-Some.why _ (stuck_on c.args.self now same c.requires.stuck)
    (found_on c.args.self now (Some (c.in-Some.hart, c.in-Some.why)) same c.in-Some.ensures.first)
    c.diverged.ensures)

pub returns-then-cause_agrees : goal.returns-then-cause_agrees
returns-then-cause_agrees c =
    let same = c.first_diverged-diverged.ensures.same in
    let now = c.first_diverged-diverged.new.self in
    comes_back c.args.self now _ same
    (tells_done now c.into_end.result (stuck_on c.args.self now same c.requires.stuck) (found_on c.args.self now None same c.in-None.ensures.first)
    (subst (AgreesOnCause now) c.if-cause_agrees.true c.cause_agrees.ensures) c.into_end.ensures)

pub returns-else-cause_agrees : goal.returns-else-cause_agrees
returns-else-cause_agrees c =
    let same = c.first_diverged-diverged.ensures.same in
    let now = c.first_diverged-diverged.new.self in
    comes_back c.args.self now _ same
    (tells_cause now _ (stuck_on c.args.self now same c.requires.stuck) (found_on c.args.self now None same c.in-None.ensures.first)
    (subst (AgreesOnCause now) c.if-cause_agrees.false c.cause_agrees.ensures) c.diverged-else-cause_agrees.ensures)
