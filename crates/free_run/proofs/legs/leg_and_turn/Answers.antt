use Rattle.std.proofs.Common.{◌==◌, not, ap, ap₂}
use Rattle.turn_table.specs.Passes.{hart_of, part_of}
use Rattle.crew_core.specs.Orders.{told}
use Rattle.free_run.proofs.OneTurn.{taken_by, had_by, hart_changes, turned_once, on_record, may_go, may_stay, abandoned_changes, no_turn, gone_to, one_more}
use Rattle.free_run.proofs.OneTurn.{same_hart}
use Rattle.free_run.proofs.legs.leg_and_turn.Goals as goal

pub turn-requires-after_bounds : goal.turn-requires-after_bounds
turn-requires-after_bounds g c κs within =
    (taken_by c.take_board-board.result (hart_of c.args.pass.now) (part_of c.args.pass.now) c.args.run.now c.advance.new.self c.args.until c.advance.result
    c.over.ensures.holds c.take_board-board.ensures.part c.requires.part c.requires.until c.advance.ensures.kept c.advance.ensures.leg).moved

pub give-requires-clause-parts : goal.give-requires-clause-parts
give-requires-clause-parts g c =
    let b = c.take_board-board.result in
    let P = c.args.pass.now in
    let taken =
    taken_by b (hart_of P) (part_of P) c.args.run.now c.advance.new.self c.args.until c.advance.result
    c.over.ensures.holds c.take_board-board.ensures.part c.requires.part c.requires.until c.advance.ensures.kept c.advance.ensures.leg in
    let had =
    had_by P c.take_board-board.new.pass c.take_board-board.new.pass b c.turn.new.self c.args.run.now c.advance.new.self c.turn.new.run c.args.until
    c.advance.result
    (told c.in-Ok.order) c.over-over.result taken c.in-Ok.ensures.turn in
    hart_changes P c.take_board-board.new.pass c.take_board-board.new.pass b c.turn.new.self c.take_board-board.ensures.same
    c.take_board-board.ensures.holds had.terms.harts
    had.others

pub returns-in-Ok-clause-led : goal.returns-in-Ok-clause-led
returns-in-Ok-clause-led g c =
    let b = c.take_board-board.result in
    let q = c.turn.new.self in
    let P = c.args.pass.now in
    let M = c.take_board-board.new.pass in
    let N = c.give.new.pass in
    let before = c.args.run.now in
    let led = c.advance.new.self in
    let after = c.turn.new.run in
    let until = c.args.until in
    let pause = c.advance.result in
    let order = told c.in-Ok.order in
    let over = c.over-over.result in
    let holds = c.over.ensures.holds in
    let later = c.over-over.ensures.holds in
    let take = c.take_board-board.ensures in
    let give = c.give.ensures in
    let had = c.in-Ok.ensures.turn in
    let kept = c.advance.ensures.kept in
    let taken = taken_by b (hart_of P) (part_of P) before led until pause holds take.part c.requires.part c.requires.until kept c.advance.ensures.leg in
    record {
      table = give.table;
      idle = give.idle;
      hart = same_hart P M N give.hart take.same;
      turn =
          turned_once P M N b q before led after until pause order over holds later taken had kept take.same take.holds take.part give.part give.turn
          c.over-over.ensures.over;
      part = on_record P M N b q before led after until pause order over later taken had take.same give.part;
      go = λ to goes. may_go P M N b q before led after until pause order over to holds later taken had take.same give.part (ap told goes);
      here = may_stay P M N b q before led after until pause order over holds later taken had take.same give.part;
    }

pub returns-in-Ok-clause-changed : goal.returns-in-Ok-clause-changed
returns-in-Ok-clause-changed g c =
    let take = c.take_board-board.ensures in
    record {
      taken = c.take_board-board.result;
      given = c.turn.new.self;
      turns =
          one_more c.args.pass.now c.take_board-board.new.pass c.give.new.pass c.take_board-board.result c.turn.new.self take.same take.holds
          c.give.ensures.turn;
      is = ap₂ (λ n m. not (n == m)) c.rows.ensures c.rows-rows.ensures;
    }

pub give-requires-in-Err-clause-parts : goal.give-requires-in-Err-clause-parts
give-requires-in-Err-clause-parts g c =
    abandoned_changes c.args.pass.now c.take_board-board.new.pass c.take_board-board.new.pass c.take_board-board.result c.turn.new.self
    c.take_board-board.ensures.same
    c.take_board-board.ensures.holds c.in-Err.ensures.refused

pub returns-in-Err-clause-refused : goal.returns-in-Err-clause-refused
returns-in-Err-clause-refused g c =
    let b = c.take_board-board.result in
    let P = c.args.pass.now in
    let take = c.take_board-board.ensures in
    let give = c.give-in-Err.ensures in
    let taken =
    taken_by b (hart_of P) (part_of P) c.args.run.now c.advance.new.self c.args.until c.advance.result c.over.ensures.holds take.part c.requires.part
    c.requires.until c.advance.ensures.kept c.advance.ensures.leg in
    record {
      table = give.table;
      idle = give.idle;
      hart = same_hart P c.take_board-board.new.pass c.give-in-Err.new.pass give.hart take.same;
      none =
          no_turn P c.take_board-board.new.pass c.give-in-Err.new.pass b c.turn.new.self take.same take.holds c.in-Err.ensures.refused taken.inside
          take.part give.part give.turn;
      leg =
          gone_to c.args.until c.args.run.now c.advance.new.self c.turn.new.run c.advance.result c.in-Err.ensures.run c.advance.ensures.kept
          c.advance.ensures.leg;
    }
