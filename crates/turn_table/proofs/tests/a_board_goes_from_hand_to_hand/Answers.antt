use Rattle.std.proofs.Common.{arith}
use Rattle.turn_table.proofs.TestPasses.{all_from, all_ready, contains_each}
use Rattle.turn_table.proofs.tests.a_board_goes_from_hand_to_hand.Goals as goal

pub last_two-high-requires-clause-each : goal.last_two-high-requires-clause-each
last_two-high-requires-clause-each g c =
    all_from c.in-Ok.opened.0 0 c.in-Ok.opened.1.items c.in-Ok.ensures.table (λ h p at. let is = (c.in-Ok.ensures.each h p at).0 in omega (arith, is))

pub close-board-requires-clause-table : goal.close-board-requires-clause-table
close-board-requires-clause-table g c = all_ready _ 0 _ c.put_back-2.ensures.each

pub close-board-requires-clause-every : goal.close-board-requires-clause-every
close-board-requires-clause-every g c = λ h less. contains_each _ 0 h _ c.put_back-2.ensures.each (omega arith)
    (omega (
      arith,
      less,
      c.harts.ensures,
      c.in-Ok.ensures.harts,
      c.in-Ok.ensures.count,
      c.last_two-high.ensures.count,
      c.last_two-low.ensures.count,
      c.put_back.ensures.count,
      c.put_back-2.ensures.count,
      c.put_back-2.new.passes.ok.0,
    ))
