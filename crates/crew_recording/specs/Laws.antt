-- What holds of each recording of a board.
use Rattle.std.specs.Prelude.{ℕ, ◌≡◌, true, List, map, length}
use Rattle.rv_words.specs.declared.shared.Cause.{Cause}
use Rattle.flat_machine.specs.State.{FlatState}
use Rattle.replay_model.specs.Board.{board}
use Rattle.replay_model.specs.State.{start}
use Rattle.replay_model.specs.Items.{Item, IsFullOrder}
use Rattle.replay_model.specs.Outcome.{all_ended}
use Rattle.order_rules.specs.Orderly.{IsOrderly}
use Rattle.crew_recording.specs.Allowed.{AreAllowed}
use Rattle.crew_recording.specs.Recording.{Recording, Records, first_recording, log_of_recording}

-- a board with so many harts, each with a count
pub record IsBoard (harts : ℕ) (s : FlatState) : Type 0 where
  pub harts_size : length s.harts ≡ harts
  pub counts_size : length s.counts ≡ harts

-- whatever the unit, the order that names each item's hart obeys the log, leads to the recorded state, and is full, with whatever cause the run ended;
-- and every hart has ended there
abbrev pub RunsAreObeyed : Type 0
RunsAreObeyed = (unit pages limit harts : ℕ) (image : List ℕ) (cause : Cause) (first : FlatState) (items : List (ℕ × Item)) (r : Recording FlatState)
    → IsBoard harts first → Records (board unit) (first_recording pages harts first) items r
    → IsFullOrder (board unit) (log_of_recording (board unit) pages limit image cause r)
    (start (log_of_recording (board unit) pages limit image cause r) first) (map (λ x. x.0) items) r.at
    × (all_ended (board unit) (log_of_recording (board unit) pages limit image cause r) r.at ≡ true)

-- where each item is allowed, the log is orderly
abbrev pub RunsAreOrderly : Type 0
RunsAreOrderly = (unit pages limit harts : ℕ) (image : List ℕ) (cause : Cause) (first : FlatState) (items : List (ℕ × Item)) (r : Recording FlatState)
    (is : Records (board unit) (first_recording pages harts first) items r)
    → IsBoard harts first → ((h : ℕ) → (board unit).count first h ≡ 0) → AreAllowed (board unit) pages limit (first_recording pages harts first) r items is
    → IsOrderly (log_of_recording (board unit) pages limit image cause r)
