-- What a worker does behind a turn (docs/threads.md).
use Rattle.std.specs.Prelude.{Bool, true, false}
use Rattle.crew_core.specs.declared.order.Order.{Order}
use Rattle.crew_core.specs.declared.order.Order.TheVariants.{Go, Hold, Rest}
use Rattle.free_run.specs.declared.next.Next.{Next}
use Rattle.free_run.specs.declared.next.Next.TheVariants.{Moves, Waits, Ends}

-- what a thread does that has two workers: it moves on where one does, and ends where both have ended
abbrev pub both : Next → Next → Next
both Moves other = Moves
both Waits Moves = Moves
both Waits Waits = Waits
both Waits Ends = Waits
both Ends other = other

-- what a worker does that was told this by a board that is over, or isn't
abbrev pub next_by : Order → Bool → Next
next_by (Go until) over = Moves
next_by (Hold page other) over = Waits
next_by Rest true = Ends
next_by Rest false = Waits
