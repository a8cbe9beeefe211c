use Rattle.std.proofs.Common.{slice_set, sym, subst, arith}
use Rattle.run_model.specs.Run.{number_of}
use Rattle.run_model.specs.Agreement.{Agrees}
use Rattle.replay_parts.specs.Boards.{Plain}
use Rattle.replay_parts.specs.Parts.{IsPartAdvanced}
use Rattle.replay_parts.specs.Turns.{IsTurn}
use Rattle.replay_core.specs.Turns.{IsPartMoved, plain_of, told}
use Rattle.replay_parts.proofs.Advancing.{part_number}
use Rattle.replay_core.proofs.TurnsTaken.{counted, few, led_there, place_left, turn_done}
use Rattle.replay_core.proofs.turns.ReplayBoard.turn.Goals as goal

pub number_of-hart-requires : goal.number_of-hart-requires
number_of-hart-requires c =
    let moved = subst (λ (z : Plain). IsPartMoved z c.args.run.now) (sym c.self.view_is) c.requires in
    few c.self.inside.board c.self.inside.ends c.self.inside.image.value c.self.inside.counts.items c.args.run.now
    (number_of c.args.run.now) moved.0 c.self.invariant moved.1

pub make_all-went-requires : goal.make_all-went-requires
make_all-went-requires c =
    let moved = subst (λ (z : Plain). IsPartMoved z c.args.run.now) (sym c.self.view_is) c.requires in
    record {
      tied = (
        c.self.inside.image.value,
        (
          moved.1.led.at,
          led_there c.self.inside.board c.self.inside.ends c.self.inside.image.value c.self.inside.counts.items c.args.run.now
              (number_of c.args.run.now) moved.0 c.self.invariant moved.1,
          subst (λ h. Agrees c.args.run.now h moved.1.led.at) (sym c.number_of-hart.ensures) moved.1.led.agrees,
        ),
      );
    }

pub index_mut-requires : goal.index_mut-requires
index_mut-requires c =
    let moved = subst (λ (z : Plain). IsPartMoved z c.args.run.now) (sym c.self.view_is) c.requires in
    let l = counted c.self.inside.board c.self.inside.ends c.self.inside.image.value c.self.inside.counts.items c.args.run.now
    (number_of c.args.run.now) moved.0 c.self.invariant moved.1 in
    let place = c.from.ensures in
    let number = c.number_of-hart.ensures in
    omega (arith, l, number, place)

pub until-requires : goal.until-requires
until-requires c =
    let moved = subst (λ (z : Plain). IsPartMoved z c.args.run.now) (sym c.self.view_is) c.requires in
    place_left c.self.inside.board c.make_all-went.new.self c.self.inside.ends c.self.inside.image.value c.self.inside.counts.items c.args.run.now
    c.make_all-went.new.run c.number_of-hart.result moved.0 c.make_all-went.result c.self.invariant
    (subst (λ h. IsPartAdvanced (plain_of c.self.inside.board c.self.inside.image.value c.self.inside.counts.items) h moved.0 c.args.run.now)
    (sym c.number_of-hart.ensures)
    moved.1) c.make_all-went.ensures.makes

pub invariant_of-self : goal.invariant_of-self
invariant_of-self c =
    let moved = subst (λ (z : Plain). IsPartMoved z c.args.run.now) (sym c.self.view_is) c.requires in
    (turn_done c.self.inside.board c.make_all-went.new.self c.self.inside.ends c.self.inside.image.value c.self.inside.counts.items c.args.run.now
    c.make_all-went.new.run c.number_of-hart.result c.from.result moved.0 c.count-count.result c.until.result c.make_all-went.result c.pace_of.result
    c.self.invariant moved.1 c.number_of-hart.ensures c.from.ensures c.make_all-went.ensures.makes c.make_all-went.ensures.log c.count-count.ensures
    c.until.ensures
    c.pace_of.ensures).0

pub returns-clause-turned : goal.returns-clause-turned
returns-clause-turned c = λ n part.
    let moved : IsPartAdvanced (plain_of c.self.inside.board c.self.inside.image.value c.self.inside.counts.items) (number_of c.args.run.now) n
    c.args.run.now =
    subst (λ (z : Plain). IsPartAdvanced z (number_of c.args.run.now) n c.args.run.now) (sym c.self.view_is) part in
    let done =
    turn_done c.self.inside.board c.make_all-went.new.self c.self.inside.ends c.self.inside.image.value c.self.inside.counts.items c.args.run.now
    c.make_all-went.new.run c.number_of-hart.result c.from.result n c.count-count.result c.until.result c.make_all-went.result c.pace_of.result
    c.self.invariant moved c.number_of-hart.ensures c.from.ensures c.make_all-went.ensures.makes c.make_all-went.ensures.log c.count-count.ensures
    c.until.ensures
    c.pace_of.ensures in (
      subst (λ (z : Plain). IsTurn z (plain_of c.make_all-went.new.self c.self.inside.image.value
          (slice_set c.self.inside.counts.items c.from.result c.count-count.result)) (number_of c.args.run.now) n (told c.pace_of.result))
          c.self.view_is done.1,
      done.2,
    )

pub returns-clause-number : goal.returns-clause-number
returns-clause-number c =
    let moved = subst (λ (z : Plain). IsPartMoved z c.args.run.now) (sym c.self.view_is) c.requires in
    let done =
    turn_done c.self.inside.board c.make_all-went.new.self c.self.inside.ends c.self.inside.image.value c.self.inside.counts.items c.args.run.now
    c.make_all-went.new.run c.number_of-hart.result c.from.result moved.0 c.count-count.result c.until.result c.make_all-went.result c.pace_of.result
    c.self.invariant moved.1 c.number_of-hart.ensures c.from.ensures c.make_all-went.ensures.makes c.make_all-went.ensures.log c.count-count.ensures
    c.until.ensures c.pace_of.ensures in
    part_number (plain_of c.make_all-went.new.self c.self.inside.image.value (slice_set c.self.inside.counts.items c.from.result c.count-count.result))
    done.0.at (number_of c.args.run.now) c.make_all-went.new.run done.0.reaches done.2
