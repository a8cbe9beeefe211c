-- What the replays of an orderly log have in common.
use Rattle.std.specs.Prelude.{ℕ, ◌≡◌, ◌≢◌, ◌<◌, ◌==◌, List, filter, length, Option, Some}
use Rattle.log_entry.specs.declared.log.Log.{Log}
use Rattle.log_entry.specs.Parts.{unit_of}
use Rattle.elf_image.specs.Image.{Image, IsWhole}
use Rattle.flat_machine.specs.State.{FlatState, flat_at_start}
use Rattle.flat_machine.specs.declared.results.Step.{Step}
use Rattle.orders_law.specs.Orders.{IsLeast}
use Rattle.order_rules.specs.Orderly.{IsOrderly}
use Rattle.replay_model.specs.Board.{board}
use Rattle.replay_model.specs.State.{Replay, start}
use Rattle.replay_model.specs.Items.{CanGo, Obeys, IsFullOrder, verdict, step, story}
use Rattle.replay_model.specs.Outcome.{Outcome, IsOutcome, outcome_at}
use Rattle.replay_law.specs.Atomics.{atomics_along}

-- an orderly log is replayed over an image that has its number of pages
pub record IsReplayable (log : Log) (image : Image) : Type 0 where
  pub orderly : IsOrderly log
  pub whole : IsWhole image
  pub pages : log.pages ≡ image.pages

-- where its replay begins
abbrev pub first_flat : Log → Image → FlatState
first_flat log image = flat_at_start image (length log.streams)

abbrev pub first_replay : Log → Image → Replay FlatState
first_replay log image = start log (first_flat log image)

-- where an order has led and two harts can go, each still makes its item after the other, and the two ways meet
abbrev pub ItemsCommute : Type 0
ItemsCommute = (log : Log) (image : Image) (order : List ℕ) (s a b : Replay FlatState) (e f : Option (List Step)) (g h : ℕ) → IsReplayable log image
    → Obeys (board (unit_of log)) log (first_replay log image) order s
    → g ≢ h → step (board (unit_of log)) log g s ≡ Some (a, e) → step (board (unit_of log)) log h s ≡ Some (b, f)
    → (t : Replay FlatState) × (step (board (unit_of log)) log h a ≡ Some (t, f)) × (step (board (unit_of log)) log g b ≡ Some (t, e))

-- two orders that obey the log, in which each hart goes equally often, lead to one state, with the same moves of each hart
abbrev pub EqualSharesAgree : Type 0
EqualSharesAgree = (log : Log) (image : Image) (order other : List ℕ) (s t : Replay FlatState) → IsReplayable log image
    → (one : Obeys (board (unit_of log)) log (first_replay log image) order s) (two : Obeys (board (unit_of log)) log (first_replay log image) other t)
    → ((h : ℕ) → length (filter (λ g. g == h) order) ≡ length (filter (λ g. g == h) other))
    → (s ≡ t) × ((h : ℕ) → story (board (unit_of log)) log h one.0 ≡ story (board (unit_of log)) log h two.0)

-- any two full orders that obey the log end in one state, with the same moves of each hart
abbrev pub AllOrdersAgree : Type 0
AllOrdersAgree = (log : Log) (image : Image) (order other : List ℕ) (s t : Replay FlatState) → IsReplayable log image
    → (one : IsFullOrder (board (unit_of log)) log (first_replay log image) order s)
    (two : IsFullOrder (board (unit_of log)) log (first_replay log image) other t)
    → (s ≡ t) × ((h : ℕ) → story (board (unit_of log)) log h one.0 ≡ story (board (unit_of log)) log h two.0)

-- and with the same atomic moves on each word, in the same order
abbrev pub AtomicsAgree : Type 0
AtomicsAgree = (log : Log) (image : Image) (order other : List ℕ) (s t : Replay FlatState) (word : ℕ) → IsReplayable log image
    → IsFullOrder (board (unit_of log)) log (first_replay log image) order s → IsFullOrder (board (unit_of log)) log (first_replay log image) other t
    → atomics_along word log (first_replay log image) order ≡ atomics_along word log (first_replay log image) other

-- where an order has led, a hart of the log that can go makes its item
abbrev pub CanGoGoes : Type 0
CanGoGoes = (log : Log) (image : Image) (order : List ℕ) (s : Replay FlatState) (h : ℕ) → IsReplayable log image
    → Obeys (board (unit_of log)) log (first_replay log image) order s → h < length log.streams → verdict (board (unit_of log)) log s h ≡ CanGo
    → (m : Replay FlatState × Option (List Step)) × (step (board (unit_of log)) log h s ≡ Some m)

-- there is a full order
abbrev pub FullOrderIsThere : Type 0
FullOrderIsThere = (log : Log) (image : Image) → IsReplayable log image
    → (order : List ℕ) × ((s : Replay FlatState) × IsFullOrder (board (unit_of log)) log (first_replay log image) order s)

-- where there is a full order, the least order is one too, and it ends in the same state
abbrev pub LeastEndsThere : Type 0
LeastEndsThere = (log : Log) (image : Image) (order : List ℕ) (s : Replay FlatState) → IsReplayable log image
    → IsFullOrder (board (unit_of log)) log (first_replay log image) order s
    → (made : List (ℕ × Option (List Step))) × IsLeast (step (board (unit_of log)) log) (length log.streams) (first_replay log image) made s

-- so the outcome of a replay is read off the end of any full order
abbrev pub OrdersTellOutcome : Type 0
OrdersTellOutcome = (log : Log) (image : Image) (order : List ℕ) (s : Replay FlatState) (outcome : Outcome FlatState) → IsReplayable log image
    → IsFullOrder (board (unit_of log)) log (first_replay log image) order s
    → outcome_at (board (unit_of log)) log s ≡ Some outcome → IsOutcome (board (unit_of log)) log (first_flat log image) outcome
