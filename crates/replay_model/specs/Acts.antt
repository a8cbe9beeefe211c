-- The acts of the flat machine that an order makes.
use Rattle.std.specs.Prelude.{ℕ, List, [], ◌∷◌, ◌++◌, Option, Some, if◌then◌else◌}
use Rattle.std.specs.Option.{option_and_then, option_map_or}
use Rattle.log_entry.specs.declared.log.Entry.TheVariants as entries
use Rattle.log_entry.specs.declared.log.Log.{Log}
use Rattle.flat_machine.specs.declared.act.Act.{Act}
use Rattle.flat_machine.specs.declared.act.Act.TheVariants.{Run, Touch, Poll, Lose}
use Rattle.replay_model.specs.Flat.{Flat}
use Rattle.replay_model.specs.State.{Replay}
use Rattle.replay_model.specs.Items.{Item, Move, Makes, ends_reservation, next_item, step}

module _ {S V : Type 0} (flat : Flat S V) where
  -- an item is one act at most: a Gain is none, and a Yield is one only where it ends the reservation
  abbrev pub acts_of_item : Replay S → ℕ → Item → List Act
  acts_of_item s h Move = Run h ∷ []
  acts_of_item s h (Makes (entries.Touch count ord input)) = Touch h input ∷ []
  acts_of_item s h (Makes (entries.Poll count ord time bits)) = Poll h time ∷ []
  acts_of_item s h (Makes (entries.Yield count page seq left)) = if ends_reservation flat s h page then Lose h ∷ [] else []
  acts_of_item s h _ = []

  -- the state after acts, where each of them can be made; of the board this is the flat machine's `run_from`
  abbrev pub run_along : S → List Act → Option S
  run_along s [] = Some s
  run_along s (act ∷ acts) = option_and_then (λ t. run_along t acts) (flat.next s act)

module _ {S V : Type 0} (flat : Flat S V) (log : Log) where
  -- the acts of the items of an order, as far as each hart in turn can go
  abbrev pub acts_of : Replay S → List ℕ → List Act
  acts_of s [] = []
  acts_of s (h ∷ order) = option_map_or (λ m. acts_of_item flat s h (next_item flat log s h) ++ acts_of m.0 order) (step flat log h s) []
