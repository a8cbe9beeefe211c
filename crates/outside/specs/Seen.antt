-- What contracts see of the things outside: what they tell, and their counts of faults. A thing tells its content where it says
-- so, and what has begun to tell nothing tells nothing from then on.
use Rattle.std.specs.Prelude.{ℕ, ◌≡◌, ◌≢◌, ◌++◌, ◌∷◌, [], take, List, Bool, Option, Some, None, IsTrue, IfSome}
use Rattle.outside.specs.Fetching.{IsPast}
use Rattle.outside.specs.declared.console.Asked.{Asked}

-- a shelf: what each name holds and what is being written under which name, where it tells; and whether something is being written
pub record SeenShelf : Type 0 where
  pub tells : Bool
  pub held : List ℕ → Option (List ℕ)
  pub draft : Option (List ℕ × List ℕ)
  pub writing : Bool
  pub faults : ℕ

-- a console: the answers that it gave and the bytes that it took, in order, where it tells them
pub record SeenConsole : Type 0 where
  pub tells_answers : Bool
  pub answers : List Asked
  pub tells_taken : Bool
  pub taken : List ℕ
  pub faults : ℕ

-- a clock: the answers that it gave, in order, where it tells them
pub record SeenClock : Type 0 where
  pub tells : Bool
  pub answers : List ℕ

-- a sink: what was written, in order, where it tells
pub record SeenSink : Type 0 where
  pub tells : Bool
  pub written : List ℕ
  pub faults : ℕ

-- what tells now told before
abbrev pub ToldBefore : Bool → Bool → Type 0
ToldBefore before now = IsTrue now → IsTrue before

-- the name holds these bytes
abbrev pub Holds : SeenShelf → List ℕ → List ℕ → Type 0
Holds s name bytes = IsTrue s.tells → s.held name ≡ Some bytes

-- it tells that the name holds nothing
abbrev pub IsAbsent : SeenShelf → List ℕ → Type 0
IsAbsent s name = IsTrue s.tells × (s.held name ≡ None)

-- the name holds more than this many bytes
abbrev pub HoldsMore : SeenShelf → List ℕ → ℕ → Type 0
HoldsMore s name most = IsTrue s.tells → IsPast most (s.held name)

-- every name holds what it held
abbrev pub HoldsAsBefore : SeenShelf → SeenShelf → Type 0
HoldsAsBefore s t = IsTrue t.tells → (n : List ℕ) → t.held n ≡ s.held n

-- every name but this one holds what it held
abbrev pub OthersHold : List ℕ → SeenShelf → SeenShelf → Type 0
OthersHold name s t = IsTrue t.tells → (n : List ℕ) → n ≢ name → t.held n ≡ s.held n

-- this is being written, under this name
abbrev pub Drafts : SeenShelf → List ℕ → List ℕ → Type 0
Drafts s name bytes = IsTrue s.tells → s.draft ≡ Some (name, bytes)

-- what is being written is what was being written
abbrev pub DraftsAsBefore : SeenShelf → SeenShelf → Type 0
DraftsAsBefore s t = IsTrue t.tells → t.draft ≡ s.draft

-- these bytes came behind those being written
abbrev pub Appends : List ℕ → SeenShelf → SeenShelf → Type 0
Appends bytes s t = IsTrue t.tells → IfSome s.draft (λ d. t.draft ≡ Some (d.0, d.1 ++ bytes))

-- what was being written is held under its name
abbrev pub KeepsDraft : SeenShelf → SeenShelf → Type 0
KeepsDraft s t = IsTrue t.tells → IfSome s.draft (λ d. t.held d.0 ≡ Some d.1)

-- every name but the one being written under holds what it held
abbrev pub OthersOfDraftHold : SeenShelf → SeenShelf → Type 0
OthersOfDraftHold s t = IsTrue t.tells → IfSome s.draft (λ d. (n : List ℕ) → n ≢ d.0 → t.held n ≡ s.held n)

-- the console gave this answer
abbrev pub Answers : Asked → SeenConsole → SeenConsole → Type 0
Answers a c d = IsTrue d.tells_answers → d.answers ≡ c.answers ++ a ∷ []

-- the console gave no answer
abbrev pub AnswersNothing : SeenConsole → SeenConsole → Type 0
AnswersNothing c d = IsTrue d.tells_answers → d.answers ≡ c.answers

-- the console took these bytes
abbrev pub Takes : List ℕ → SeenConsole → SeenConsole → Type 0
Takes bytes c d = IsTrue d.tells_taken → d.taken ≡ c.taken ++ bytes

-- the console took no byte
abbrev pub TakesNothing : SeenConsole → SeenConsole → Type 0
TakesNothing c d = IsTrue d.tells_taken → d.taken ≡ c.taken

-- the clock gave this answer
abbrev pub Tells : ℕ → SeenClock → SeenClock → Type 0
Tells time k l = IsTrue l.tells → l.answers ≡ k.answers ++ time ∷ []

-- the sink took these bytes
abbrev pub Writes : List ℕ → SeenSink → SeenSink → Type 0
Writes bytes s t = IsTrue t.tells → t.written ≡ s.written ++ bytes

-- the sink took some first part of these bytes
abbrev pub WritesPart : List ℕ → SeenSink → SeenSink → Type 0
WritesPart bytes s t = IsTrue t.tells → (n : ℕ) × (t.written ≡ s.written ++ take n bytes)
