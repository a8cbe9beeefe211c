-- What a turn comes to where console and clock have more to give (docs/recorder.md).
use Rattle.std.specs.Prelude.{◌≡◌, ◌+◌, ◌++◌, ◌∷◌, List, [], Option, Some, None}
use Rattle.rv_words.specs.declared.shared.Cause.{Cause}
use Rattle.rv_words.specs.declared.shared.Cause.TheVariants.{Fault}
use Rattle.turn_model.specs.Board.{Board, Order, Supply}
use Rattle.turn_model.specs.Ways.{Way, On, Ends}

-- the console has no answer to give and takes no byte
abbrev pub IsSpent : Supply → Type 0
IsSpent o = (o.answers ≡ []) × (o.takes ≡ 0)

-- what console and clock have to give, and this behind it
abbrev pub followed_by : Supply → Supply → Supply
followed_by o x = record { answers = o.answers ++ x.answers; takes = o.takes + x.takes; times = o.times ++ x.times }

abbrev pub with_more : {S : Type 0} → Supply → Board S → Board S
with_more x b = record b { supply = followed_by b.supply x }

-- the console's failure closed the board in between
abbrev pub HasFailed : {S : Type 0} → Board S → Board S → Type 0
HasFailed b c = (b.closed ≡ None) × (c.closed ≡ Some Fault)

-- with more behind what console and clock had to give, this comes to the same board, with as much more left
abbrev pub Extends : {S : Type 0} → (Board S → Option (Board S)) → Board S → Board S → Supply → Type 0
Extends run b c x = run (with_more x b) ≡ Some (with_more x c)

-- this holds with any more; where the console failed on the way from b to c, with none of what it failed to give: an answer, or a
-- byte taken
pub data WithMore {S : Type 0} (Holds : Supply → Type 0) (b c : Board S) : Type 0 where
  Always : ((x : Supply) → Holds x) → WithMore Holds b c
  NoAnswer : HasFailed b c → c.supply.answers ≡ [] → ((x : Supply) → x.answers ≡ [] → Holds x) → WithMore Holds b c
  NotTaken : HasFailed b c → c.supply.takes ≡ 0 → ((x : Supply) → x.takes ≡ 0 → Holds x) → WithMore Holds b c

abbrev pub IsExtended : {S : Type 0} → (Board S → Option (Board S)) → Board S → Board S → Type 0
IsExtended run b c = WithMore (Extends run b c) b c

-- and a board that was closed stays as it was closed, and nothing is asked
pub record IsCarried {S : Type 0} (run : Board S → Option (Board S)) (b c : Board S) : Type 0 where
  pub extended : IsExtended run b c
  pub shut : (cause : Cause) → b.closed ≡ Some cause → (c.closed ≡ Some cause) × (c.supply ≡ b.supply)

-- a step of a turn on a board that isn't closed goes on or ends alike with more
pub record IsCarriedStep {S : Type 0} (step : Board S → Way S) : Type 0 where
  pub on : (b c : Board S) → b.closed ≡ None → step b ≡ On c
      → (c.closed ≡ None) × ((x : Supply) → step (with_more x b) ≡ On (with_more x c))
  pub ends : (b c : Board S) (order : Order) → b.closed ≡ None → step b ≡ Ends order c
      → WithMore (λ x. step (with_more x b) ≡ Ends order (with_more x c)) b c

abbrev pub AreCarried : {S : Type 0} → List (Board S → Way S) → Type 0
AreCarried [] = Unit {0}
AreCarried (step ∷ steps) = IsCarriedStep step × AreCarried steps
