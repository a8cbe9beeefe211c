use Rattle.std.proofs.Common.{arith, ◌≡◌, ◌∙◌, ◌+◌, ◌-◌, subst, sym, None, Some, map}
use Rattle.orders_law.specs.Orders.{below}
use Rattle.crew_parts.specs.Boards.{the_machine}
use Rattle.turn_model.specs.Ways.{On, goes}
use Rattle.turn_model.specs.Steps.{yields, yields_to}
use Rattle.crew_core.specs.Seats.{HasRoomFor}
use Rattle.crew_core.specs.Standing.{terms_of}
use Rattle.crew_core.specs.Does.{Does}
use Rattle.crew_core.proofs.Going.{yields_on, yields_all, yields_end, nothing, something}
use Rattle.crew_core.proofs.crew.Crew.yields.Goals as goal

pub loop-other-preserved : goal.loop-other-preserved
loop-other-preserved c =
    let none = nothing c.yields_to-order.result (sym c.is_some.ensures ∙ c.if-is_some.false) in
    let t = c.loop-other.invariant.tied in
    let few = c.requires.tied.1.few in
    let l = c.loop-other-test.true in
    let one : 11 - c.loop-other.other ≡ (11 - (c.loop-other.other + 1)) + 1 = omega (arith, few, l) in
    record {
      tied = (let d = c.yields_to-order.ensures.does t.0 t.1 t.2 in (d.to, d.stands, d.agrees));
      harts = c.yields_to-order.ensures.harts ∙ c.loop-other.invariant.harts;
      closed = c.yields_to-order.ensures.closed none ∙ c.loop-other.invariant.closed;
      devices = c.yields_to-order.ensures.devices ∙ c.loop-other.invariant.devices;
      limit = c.yields_to-order.ensures.limit ∙ c.loop-other.invariant.limit;
      count = c.yields_to-order.ensures.count ∙ c.loop-other.invariant.count;
      room = c.yields_to-order.ensures.room (11 - (c.loop-other.other + 1))
          (subst (λ n. HasRoomFor n c.loop-other.self.seats c.args.hart) one c.loop-other.invariant.room);
      does = λ b st a. yields_on c.args.self.now c.loop-other.self _ c.loop-other.run _ c.args.hart c.loop-other.other b None
          (c.loop-other.invariant.does b st a)
          (λ d sd ad. subst (λ o. Does c.loop-other.self c.yields_to-order.new.self c.yields_to-order.new.run c.args.hart o
          (yields_to the_machine (terms_of c.loop-other.self) c.args.hart c.loop-other.other d) d.supply) none (c.yields_to-order.ensures.does d sd ad));
    }

pub returns-then-is_some-clause-does : goal.returns-then-is_some-clause-does
returns-then-is_some-clause-does c = λ b st a.
    let order = something c.yields_to-order.result (sym c.is_some.ensures ∙ c.if-is_some.true) in
    subst (λ o. Does c.args.self.now c.yields_to-order.new.self c.yields_to-order.new.run c.args.hart o
    (yields the_machine (terms_of c.args.self.now) c.args.hart b) b.supply) (sym order.1)
    (yields_end c.args.self.now _ _ c.args.hart c.loop-other.other b order.0 st c.loop-other-test.true
    (yields_on c.args.self.now c.loop-other.self _ c.loop-other.run _ c.args.hart c.loop-other.other b (Some order.0) (c.loop-other.invariant.does b st a)
    (λ d sd ad. subst (λ o. Does c.loop-other.self c.yields_to-order.new.self c.yields_to-order.new.run c.args.hart o
    (yields_to the_machine (terms_of c.loop-other.self) c.args.hart c.loop-other.other d) d.supply) order.1 (c.yields_to-order.ensures.does d sd ad))))

pub returns-clause-does : goal.returns-clause-does
returns-clause-does c = λ b st a.
    let all : c.loop-other.other ≡ c.args.self.now.harts = omega arith in
    yields_all c.args.self.now c.loop-other.self c.loop-other.run c.args.hart b st
    (subst (λ n. Does c.args.self.now c.loop-other.self c.loop-other.run c.args.hart None
    (goes (map (yields_to the_machine (terms_of c.args.self.now) c.args.hart) (below n)) (On b)) b.supply) all (c.loop-other.invariant.does b st a))

pub returns-clause-room : goal.returns-clause-room
returns-clause-room c = λ none.
    let all : c.loop-other.other ≡ c.args.self.now.harts = omega arith in
    let few = c.requires.tied.1.few in
    let room = c.loop-other.invariant.room in
    omega (arith, all, few, room)
