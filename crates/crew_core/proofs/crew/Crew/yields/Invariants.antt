use Rattle.std.proofs.Common.{◌≡◌, ◌-◌, map, None}
use Rattle.orders_law.specs.Orders.{below}
use Rattle.flat_machine.specs.State.{FlatState}
use Rattle.run_model.specs.Agreement.{Agrees}
use Rattle.crew_parts.specs.Boards.{the_machine}
use Rattle.turn_model.specs.Board.{Board}
use Rattle.turn_model.specs.Ways.{On, goes}
use Rattle.turn_model.specs.Steps.{yields_to}
use Rattle.crew_core.specs.Seats.{HasRoomFor}
use Rattle.crew_core.specs.Standing.{Stands, IsTied, terms_of}
use Rattle.crew_core.specs.Does.{Does}
use Rattle.crew_core.proofs.crew.Crew.yields.Given as goal

abbrev pub invariant-loop-other : goal.invariant-loop-other
invariant-loop-other l = record {
  tied : IsTied l.self l.run l.hart;
  harts : l.self.harts ≡ l.fn.self.harts;
  closed : l.self.closed ≡ l.fn.self.closed;
  devices : l.self.backing.devices ≡ l.fn.self.backing.devices;
  limit : l.self.limit ≡ l.fn.self.limit;
  count : l.run.count ≡ l.fn.run.count;
  room : HasRoomFor (11 - l.other) l.self.seats l.hart;
  does : (b : Board FlatState) → Stands l.fn.self b → Agrees l.fn.run l.hart b.at
      → Does l.fn.self l.self l.run l.hart None (goes (map (yields_to the_machine (terms_of l.fn.self) l.hart) (below l.other)) (On b)) b.supply;
}
