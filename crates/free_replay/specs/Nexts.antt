-- What a worker does behind a turn (docs/threads.md).
use Rattle.std.specs.Prelude.{Bool, true, false}
use Rattle.free_run.specs.declared.next.Next.{Next}
use Rattle.free_run.specs.declared.next.Next.TheVariants.{Moves, Waits, Ends}
use Rattle.replay_core.specs.declared.went.Pace.{Pace}
use Rattle.replay_core.specs.declared.went.Pace.TheVariants.{Go, Hold, Diverged, Ended}

-- what a worker does that was told this by a board where no hart can go on, or where that isn't known
abbrev pub next_by : Pace → Bool → Next
next_by pace true = Ends
next_by (Go until) false = Moves
next_by Hold false = Waits
next_by (Diverged rule) false = Waits
next_by Ended false = Ends
