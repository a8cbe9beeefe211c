-- What clauses say of a table and of its passes.
use Rattle.std.specs.Prelude.{◌≡◌, ◌≢◌, ℕ, List, [], ◌∷◌, true, false, Option, Some, None, length, slice_get}
use Rattle.turn_table.specs.declared.table.Pass.{Pass}
use Rattle.turn_table.specs.declared.table.TurnTable.{TurnTable}
use Rattle.turn_table.specs.Turns.{first_hart, first_part, AreOnRecord}

module _ {B P : Type 0} where
  -- the number of harts for which it was opened
  abbrev pub harts_of : TurnTable B P → ℕ
  harts_of t = t.table.shared.key.harts

  -- the pass's hart
  abbrev pub hart_of : Pass B P → ℕ
  hart_of p = first_hart p.seat.me.0.records

  -- the part that the pass has on record for its hart
  abbrev pub part_of : Pass B P → Option P
  part_of p = first_part p.seat.me.0.records

  -- the parts of the board that it took last, as they were then
  abbrev pub noted_of : Pass B P → List P
  noted_of p = p.seat.me.0.noted

  -- what each of its exchanges for the board found in the place, the latest last
  abbrev pub found_of : Pass B P → List ℕ
  found_of p = p.seat.me.0.found

  -- the board that it holds, as it took it
  abbrev pub taken_of : Pass B P → List B
  taken_of p = p.seat.me.0.taken

  -- its turns: each board that it took, with the one that it gave back
  abbrev pub turns_of : Pass B P → List (B × B)
  turns_of p = p.seat.me.0.turns

  -- the pass is this table's
  pub record IsPassOf (t : TurnTable B P) (p : Pass B P) : Type 0 where
    pub table : p.seat.table_id ≡ t.table.shared.table_id
    pub harts : p.seat.me.0.harts ≡ t.table.shared.key.harts

  -- the pass has one hart, and doesn't hold the board
  pub record IsIdle (p : Pass B P) : Type 0 where
    pub alone : length p.seat.me.0.records ≡ 1
    pub holds : p.seat.me.0.holds ≡ false
    pub slots : p.seat.me.1 ≡ []

  -- the pass has one hart, and holds the board
  pub record IsHolding (p : Pass B P) : Type 0 where
    pub alone : length p.seat.me.0.records ≡ 1
    pub holds : p.seat.me.0.holds ≡ true
    pub slots : p.seat.me.1 ≡ (0, None) ∷ []
    pub agrees : AreOnRecord p.seat.me.0.noted p.seat.me.0.records

  -- the pass has not looked for the board yet
  pub record IsFresh (p : Pass B P) : Type 0 where
    pub found : found_of p ≡ []
    pub turns : turns_of p ≡ []

  -- the pass took this board, whose parts it noted
  pub record HoldsBoard (parts : B → List P) (board : B) (p : Pass B P) : Type 0 where
    pub holding : IsHolding p
    pub noted : noted_of p ≡ parts board
    pub taken : taken_of p ≡ board ∷ []

  -- the passes of the harts in their order, each with its hart's part on record
  abbrev pub AreOf : List P → List (Pass B P) → Type 0
  AreOf parts passes = (h : ℕ) (p : Pass B P) → slice_get passes h ≡ Some p → (hart_of p ≡ h) × (part_of p ≡ slice_get parts h)

  -- its hart, what it has on record and its turns are the same
  pub record IsSame (old new : Pass B P) : Type 0 where
    pub hart : hart_of new ≡ hart_of old
    pub part : part_of new ≡ part_of old
    pub turns : turns_of new ≡ turns_of old

module _ {P : Type 0} where
  -- a board with the new parts has as many as with the old, and differs in the part of this hart alone
  pub record ChangesOnly (hart : ℕ) (old new : List P) : Type 0 where
    pub count : length new ≡ length old
    pub others : (k : ℕ) → k ≢ hart → slice_get new k ≡ slice_get old k
