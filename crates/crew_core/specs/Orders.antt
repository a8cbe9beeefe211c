-- Orders, and the steps of a turn, as the code answers them.
use Rattle.std.specs.Prelude.{Option, Some, None, option_map}
use Rattle.turn_model.specs.Board as model
use Rattle.turn_model.specs.Board.{Board}
use Rattle.turn_model.specs.Ways.{Way, On, Ends}
use Rattle.crew_core.specs.declared.order.Order.{Order}
use Rattle.crew_core.specs.declared.order.Order.TheVariants.{Go, Hold, Rest}

abbrev pub told : Order → model.Order
told (Go until) = model.Go until
told (Hold page other) = model.Hold page other
told Rest = model.Rest

abbrev pub told_of : Option Order → Option model.Order
told_of = option_map told

-- where a turn is after a step that answered this: it goes on, or it has ended with an order
abbrev pub way_of : {S : Type 0} → Option Order → Board S → Way S
way_of None b = On b
way_of (Some order) b = Ends (told order) b
