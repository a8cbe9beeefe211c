-- What a replay asks of the flat machine.
use Rattle.std.specs.Prelude.{ℕ, Bool, List, Option}
use Rattle.rv_words.specs.declared.shared.Mode.{Mode}
use Rattle.rv_words.specs.declared.shared.Input.{Input}
use Rattle.flat_machine.specs.declared.act.Act.{Act}

-- S: its states; V: what a story tells of one move
pub record Flat (S V : Type 0) : Type 0 where
  -- the state after an act, where its condition holds
  pub next : S → Act → Option S
  pub harts : S → ℕ
  pub count : S → ℕ → ℕ
  -- the pages that the next move of a hart needs, in order, each with the mode
  pub need : S → ℕ → List (ℕ × Mode)
  -- the next move of a hart is a device access, and this input suits it
  pub is_at_device : S → ℕ → Bool
  pub suits : S → ℕ → Input → Bool
  -- the devices' lines of a hart, were mtime this time
  pub lines_at : S → ℕ → ℕ → ℕ
  -- mtime
  pub time : S → ℕ
  pub is_stopped : S → Bool
  pub sent : S → List ℕ
  -- the page in which a hart's reservation lies
  pub reserved_page : S → ℕ → Option ℕ
  -- what a story tells of the move that a hart makes next, and that leads there
  pub told : S → ℕ → S → V
