-- Laws of replays.
use Rattle.std.specs.Prelude.{ℕ, ◌≡◌, List, map, flat_map, Option, Some}
use Rattle.log_entry.specs.declared.log.Log.{Log}
use Rattle.flat_machine.specs.State.{FlatState}
use Rattle.flat_machine.specs.Runs as runs
use Rattle.flat_machine.specs.Runs.{run_from}
use Rattle.flat_machine.specs.declared.results.Step.{Step}
use Rattle.orders_law.specs.Orders.{Leads}
use Rattle.replay_model.specs.Board.{board}
use Rattle.replay_model.specs.State.{Replay}
use Rattle.replay_model.specs.Items.{Obeys, step, story}
use Rattle.replay_model.specs.Acts.{acts_of}

-- whatever the unit, an order that obeys the log drives the flat machine, by the acts of its items, to the flat state to which it leads
abbrev pub OrdersDrive : Type 0
OrdersDrive = (unit : ℕ) (log : Log) (s t : Replay FlatState) (order : List ℕ) → Obeys (board unit) log s order t
    → run_from s.flat (acts_of (board unit) log s order) ≡ Some t.flat

-- and the moves of a hart along the order are its story on the flat machine
abbrev pub OrdersTell : Type 0
OrdersTell = (unit : ℕ) (log : Log) (s t : Replay FlatState) (made : List (ℕ × Option (List Step))) (h : ℕ) → Leads (step (board unit) log) s made t
    → flat_map (λ told. told) (story (board unit) log h made) ≡ runs.story h s.flat (acts_of (board unit) log s (map (λ m. m.0) made))
