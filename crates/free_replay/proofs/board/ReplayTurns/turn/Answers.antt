use Rattle.std.proofs.Common.{◌<◌, ◌∙◌, sym, ap, subst, arith, length, not}
use Rattle.run_model.specs.Run.{number_of}
use Rattle.replay_parts.specs.Boards.{Plain}
use Rattle.replay_core.specs.Turns.{HasTurn, IsPartMoved, told}
use Rattle.free_replay.specs.ReplayTurns.{IsMarkedAs}
use Rattle.free_replay.proofs.Still.{inside_behind, marks_behind, not_false, same_behind}
use Rattle.free_replay.proofs.board.ReplayTurns.turn.Goals as goal

pub number_of-hart-requires : goal.number_of-hart-requires
number_of-hart-requires c =
    let few = c.harts.ensures.few in
    let number = c.harts.ensures.number in
    let view = ap (λ (z : Plain). length z.log.streams) c.self.view_is in
    let inside = c.requires.inside in
    omega (arith, few, number, view, inside)

pub committed-requires : goal.committed-requires
committed-requires c =
    let b = c.self.inside.board in
    let moved : IsPartMoved b c.args.run.now = subst (λ z. IsPartMoved z c.args.run.now) (sym c.self.view_is) c.requires.moved in
    let inside : number_of c.args.run.now < length b.log.streams =
    subst (λ (z : Plain). number_of c.args.run.now < length z.log.streams) (sym c.self.view_is) c.requires.inside in
    let reached = c.harts.ensures.reached in
    inside_behind b c.turn-pace.new.self c.args.run.now c.turn-pace.new.run c.number_of-hart.result c.turn-pace.result reached.0 reached.1 moved
    c.number_of-hart.ensures inside c.turn-pace.ensures.turned

pub invariant_of-self : goal.invariant_of-self
invariant_of-self c =
    let b = c.self.inside.board in
    let moved : IsPartMoved b c.args.run.now = subst (λ z. IsPartMoved z c.args.run.now) (sym c.self.view_is) c.requires.moved in
    let inside : number_of c.args.run.now < length b.log.streams =
    subst (λ (z : Plain). number_of c.args.run.now < length z.log.streams) (sym c.self.view_is) c.requires.inside in
    let reached = c.harts.ensures.reached in
    marks_behind b c.turn-pace.new.self c.args.run.now c.turn-pace.new.run c.number_of-hart.result c.turn-pace.result reached.0 reached.1 moved
    c.number_of-hart.ensures inside c.turn-pace.ensures.turned c.eq-same.result c.committed-before.result.0 c.committed.result.0
    c.committed-before.result.1 c.committed.result.1 c.self.inside.ended c.self.inside.still c.kept-still.result c.marked-self-inside.result
    c.marked-self-inside-2.result (not c.goes_by.result) c.eq-same.ensures c.committed-before.ensures.place c.committed.ensures.place
    c.committed-before.ensures.count
    c.committed.ensures.count (ap not c.goes_by.ensures) c.self.invariant.0 c.self.invariant.1 c.kept-still.ensures c.marked-self-inside.ensures
    (subst (λ mark. IsMarkedAs c.number_of-hart.result mark c.self.inside.ended c.marked-self-inside-2.result) c.ends_by.ensures
    c.marked-self-inside-2.ensures)

pub returns-clause-turned : goal.returns-clause-turned
returns-clause-turned c =
    subst (λ z. HasTurn z c.turn-pace.new.self c.args.run.now c.turn-pace.new.run (told c.turn-pace.result)) c.self.view_is c.turn-pace.ensures.turned

pub returns-clause-changed : goal.returns-clause-changed
returns-clause-changed c e =
    let b = c.self.inside.board in
    let moved : IsPartMoved b c.args.run.now = subst (λ z. IsPartMoved z c.args.run.now) (sym c.self.view_is) c.requires.moved in
    let inside : number_of c.args.run.now < length b.log.streams =
    subst (λ (z : Plain). number_of c.args.run.now < length z.log.streams) (sym c.self.view_is) c.requires.inside in
    let reached = c.harts.ensures.reached in
    same_behind b c.turn-pace.new.self c.args.run.now c.turn-pace.new.run c.number_of-hart.result c.turn-pace.result reached.0 reached.1 moved
    c.number_of-hart.ensures inside c.turn-pace.ensures.turned c.eq-same.result c.committed-before.result.0 c.committed.result.0
    c.committed-before.result.1 c.committed.result.1 c.eq-same.ensures c.committed-before.ensures.place c.committed.ensures.place
    c.committed-before.ensures.count c.committed.ensures.count (not_false c.eq-same.result e) ∙ c.self.view_is
