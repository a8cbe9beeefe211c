-- A whole turn, and what is noted of it.
use Rattle.std.specs.Prelude.{ℕ, ◌≡◌, ◌≤◌, ◌==◌, ◌||◌, ◌++◌, not, Bool, IsTrue, length, slice_get, Option, Some, None, unwrap_or, is_some}
use Rattle.std.specs.Option.{option_eq}
use Rattle.rv_words.specs.declared.shared.Mode.{Mode}
use Rattle.outside.specs.Seen.{SeenConsole, SeenClock}
use Rattle.flat_machine.specs.State.{FlatState}
use Rattle.replay_model.specs.Outcome.{same}
use Rattle.run_model.specs.Run.{Run}
use Rattle.run_model.specs.Agreement.{Agrees}
use Rattle.turn_model.specs.Board as model
use Rattle.turn_model.specs.Board.{Board, Supply, last_order}
use Rattle.turn_model.specs.Turn.{turn, same_want, same_order, with_row}
use Rattle.crew_core.specs.declared.crew.Crew.{Crew}
use Rattle.crew_core.specs.declared.turned.Noted.{Noted}
use Rattle.crew_core.specs.declared.turned.Turned.{Turned}
use Rattle.crew_parts.specs.Boards.{the_machine}
use Rattle.crew_core.specs.Orders.{told_of}
use Rattle.crew_core.specs.Seats.{seat_of, reach}
use Rattle.crew_core.specs.Standing.{Stands, terms_of}
use Rattle.crew_core.specs.Does.{GivesNoMore}
use Rattle.crew_parts.specs.Turns.{Gave, Took}
use Rattle.crew_parts.specs.Parts.{IsLed}
use Rattle.turn_laws.specs.Supplies.{followed_by}

-- a turn with so many items, of a hart that had this want and this last order and has those, where the favoured hart was this one and
-- is that, and the board was closed or not and is or isn't
abbrev pub changed : ℕ → Option (ℕ × Mode) → Option (ℕ × Mode) → Option model.Order → Option model.Order → ℕ → ℕ → Bool → Bool → Bool
changed items want new_want order new_order favoured new_favoured closed new_closed =
    not (items == 0) || not (option_eq same_want want new_want) || not (option_eq same_order order new_order)
    || not (favoured == new_favoured) || not (same closed new_closed)

abbrev pub noted_by : Noted → Noted → ℕ → Bool
noted_by before after items =
    changed items before.want after.want (told_of before.order) (told_of after.order) before.favoured after.favoured before.closed after.closed

abbrev pub noted_in : Crew → ℕ → Noted
noted_in c h = record {
  want = unwrap_or (slice_get c.directory.wants h) None;
  order = (seat_of c.seats h).order;
  favoured = c.favoured;
  closed = is_some c.closed;
  entries = length (seat_of c.seats h).lane.entries;
}

-- the turn with so many moves is the model's, and this is what it came to; the hart may not go on to less than its count
pub record ComesTo (old new : Crew) (run : Run) (h n : ℕ) (t : Turned) (b : Board FlatState) (left : Supply) : Type 0 where
  pub to : Board FlatState
  pub made : turn the_machine (terms_of old) h n b ≡ Some to
  pub supply : to.supply ≡ left
  pub stands : Stands new to
  pub agrees : Agrees run h to.at
  pub terms : terms_of new ≡ terms_of old
  pub order : (seat_of new.seats h).order ≡ Some t.order
  pub ahead : (seat_of new.seats h).count ≤ reach (seat_of new.seats h)
  pub moves : t.moves ≡ n
  pub journal : to.journal ≡ with_row (not (t.items == 0)) (h, t.items) b.journal
  pub turns : to.turns ≡ with_row t.noted (h, t.moves) b.turns

-- so it is of each board that the crew stands for, where what console and clock still give begins with what they gave
abbrev pub TurnDoes : Crew → Crew → Run → Run → ℕ → Turned → SeenConsole → SeenConsole → SeenClock → SeenClock → Type 0
TurnDoes old new before after h t c d k l =
    (given : Supply) × (IsTrue d.tells_answers → d.answers ≡ c.answers ++ given.answers)
    × (IsTrue d.tells_taken → Took given.takes c.taken d.taken) × Gave given.times k l
    × ((b : Board FlatState) (n : ℕ) (left : Supply) → Stands old b → IsLed before h n b.at → GivesNoMore new left → b.supply ≡ followed_by given left
    → ComesTo old new after h n t b left)
