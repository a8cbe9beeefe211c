-- On the board, what a hart's next move needs is in units that there are.
use Rattle.std.proofs.Common.{◌≡◌, ℕ, ◌+◌, ◌*◌, ◌%◌, ◌<◌, ◌≤◌, ◌==◌, ◌&&◌, Bool, true, false, not, List, [], Option, Some, None, nat_lt, nat_le, is_some, refl}
use Rattle.std.proofs.Common.{sym, subst, inl, inr, arith, if◌then◌else◌}
use Rattle.std.specs.Option.{option_map_or}
use Rattle.std.proofs.lemmas.Bool.{and_parts, leb-true, ltb-true}
use Rattle.rv_words.specs.Addresses.{in_memory}
use Rattle.rv_words.specs.Limits.{page_bytes, IsUnit}
use Rattle.rv_csr.specs.Registers.{csr_read, is_read_only}
use Rattle.rv_csr.specs.Traps.{pending}
use Rattle.rv_decode.specs.declared.Instr.{Instr}
use Rattle.rv_decode.specs.declared.Instr.TheVariants as instr
use Rattle.rv_decode.specs.declared.LoadOp.{LoadOp}
use Rattle.rv_decode.specs.declared.StoreOp.{StoreOp}
use Rattle.rv_decode.specs.declared.UpperOp.{UpperOp}
use Rattle.rv_decode.specs.declared.UpperOp.TheVariants.{Lui, Auipc}
use Rattle.rv_decode.specs.declared.CsrOp.{CsrOp}
use Rattle.rv_decode.specs.Table.{meaning}
use Rattle.rv_hart.specs.State.{Hart}
use Rattle.rv_hart.specs.Values.{load_size, store_size, branch_taken, does_write}
use Rattle.rv_hart.specs.Effects.{reg, is_device, load_effect, store_effect, atomic_effect, is_reserved, conditional_effect, jump, upper_effect, csr_effect}
use Rattle.rv_hart.specs.Effects.{instr_effect, decoded_effect, address, word_plus, without_bit_0}
use Rattle.rv_hart.specs.Moves.{need_of}
use Rattle.rv_hart.specs.Needs.{page_at, data_pages, pages_needed}
use Rattle.rv_hart.specs.declared.effect.Effect.{Effect}
use Rattle.rv_hart.specs.declared.effect.Effect.TheVariants.{Sets, Jumps, Loads, Stores, Reserves, Commits, Fails, Updates, DeviceLoads, DeviceStores, Traps}
use Rattle.rv_hart.specs.declared.effect.Fetch.TheVariants as fetch
use Rattle.flat_machine.specs.Moves.{fetched, fetched_by}
use Rattle.turn_model.specs.Faithful.{AllBelow}

-- a unit that is owned together divides the pages into so many
abbrev pub Divides : ℕ → ℕ → ℕ → Type 0
Divides unit pages units = page_bytes * pages ≡ unit * units

-- the unit of an address in memory is there
unit_there : (unit pages units at : ℕ) → IsUnit unit → Divides unit pages units → in_memory pages at ≡ true → page_at unit at < units
unit_there unit pages units at is divides e =
    let inside = and_parts (nat_le 0x80000000 at) (nat_lt at (0x80000000 + page_bytes * pages)) e in
    by is divides (leb-true 0x80000000 at inside.0) (ltb-true at (0x80000000 + page_bytes * pages) inside.1)
  where
    by : IsUnit unit → Divides unit pages units → 0x80000000 ≤ at → at < 0x80000000 + page_bytes * pages → page_at unit at < units
    by (inl small) divides l m = let k = subst (λ u. Divides u pages units) small divides in
        subst (λ u. page_at u at < units) (sym small) (omega (arith, k, l, m))
    by (inr (inl middle)) divides l m = let k = subst (λ u. Divides u pages units) middle divides in
        subst (λ u. page_at u at < units) (sym middle) (omega (arith, k, l, m))
    by (inr (inr whole)) divides l m = let k = subst (λ u. Divides u pages units) whole divides in
        subst (λ u. page_at u at < units) (sym whole) (omega (arith, k, l, m))

module _ (unit units : ℕ) (x : Hart) (there : (at : ℕ) → in_memory x.pages at ≡ true → page_at unit at < units) where
  -- what an effect needs is in units that there are
  abbrev Inside : Effect → Type 0
  Inside effect = AllBelow units (data_pages unit (need_of effect))

  in_either : (b : Bool) (x y : Effect) → (b ≡ true → Inside x) → Inside y → Inside (if b then x else y)
  in_either true x y f g = f refl
  in_either false x y f g = g

  load_inside : (op : LoadOp) (rd at : ℕ) → Inside (load_effect x op rd at)
  load_inside op rd at =
      in_either (not (at % load_size op == 0)) _ _ (λ _. tt)
      (in_either (in_memory x.pages at) (Loads op rd at) _ (λ e. (there at e, tt))
      (in_either (load_size op == 4 && is_device x at) (DeviceLoads rd at) (Traps 5 at) (λ _. tt) tt))

  store_inside : (op : StoreOp) (at value : ℕ) → Inside (store_effect x op at value)
  store_inside op at value =
      in_either (not (at % store_size op == 0)) _ _ (λ _. tt)
      (in_either (in_memory x.pages at) (Stores at (store_size op) value) _ (λ e. (there at e, tt))
      (in_either (store_size op == 4 && is_device x at) (DeviceStores at value) (Traps 7 at) (λ _. tt) tt))

  atomic_inside : (misaligned at : ℕ) (effect : Effect) → (in_memory x.pages at ≡ true → Inside effect) → Inside (atomic_effect x misaligned at effect)
  atomic_inside misaligned at effect f =
      in_either (not (at % 4 == 0)) (Traps misaligned at) _ (λ _. tt) (in_either (in_memory x.pages at) effect (Traps (misaligned + 1) at) f tt)

  jump_inside : (rd target : ℕ) → Inside (jump rd target)
  jump_inside rd target = in_either (target % 4 == 0) (Jumps rd target) (Traps 0 target) (λ _. tt) tt

  csr_inside : (op : CsrOp) (rd rs1 number word : ℕ) (o : Option ℕ) → Inside (csr_effect x op rd rs1 number word o)
  csr_inside op rd rs1 number word None = tt
  csr_inside op rd rs1 number word (Some old) =
      in_either (not (does_write op rs1)) (Sets rd old) _ (λ _. tt) (in_either (is_read_only number) (Traps 2 word) _ (λ _. tt) tt)

  upper_inside : (op : UpperOp) (rd imm : ℕ) → Inside (upper_effect x op rd imm)
  upper_inside Lui rd imm = tt
  upper_inside Auipc rd imm = tt

  instr_inside : (i : Instr) (word : ℕ) → Inside (instr_effect x i word)
  unfolding instr_effect
  instr_inside (instr.Upper op rd imm) word = upper_inside op rd imm
  instr_inside (instr.Jal rd offset) word = jump_inside rd (word_plus x.pc offset)
  instr_inside (instr.Jalr rd rs1 offset) word = jump_inside rd (without_bit_0 (address x rs1 offset))
  instr_inside (instr.Branch op rs1 rs2 offset) word =
      in_either (branch_taken op (reg x rs1) (reg x rs2)) (jump 0 (word_plus x.pc offset)) (Sets 0 0) (λ _. jump_inside 0 (word_plus x.pc offset)) tt
  instr_inside (instr.Load op rd rs1 offset) word = load_inside op rd (address x rs1 offset)
  instr_inside (instr.Store op rs1 rs2 offset) word = store_inside op (address x rs1 offset) (reg x rs2)
  instr_inside (instr.Imm op rd rs1 imm) word = tt
  instr_inside (instr.Shift op rd rs1 amount) word = tt
  instr_inside (instr.Reg op rd rs1 rs2) word = tt
  instr_inside (instr.Fence w) word = tt
  instr_inside (instr.FenceI w) word = tt
  instr_inside instr.Ecall word = tt
  instr_inside instr.Ebreak word = tt
  instr_inside instr.Mret word = tt
  instr_inside instr.Wfi word = tt
  instr_inside (instr.Csr op rd rs1 number) word = csr_inside op rd rs1 number word (csr_read number x.csrs)
  instr_inside (instr.LoadReserved rd rs1 order) word = atomic_inside 4 (reg x rs1) (Reserves rd (reg x rs1)) (λ e. (there (reg x rs1) e, tt))
  instr_inside (instr.StoreConditional rd rs1 rs2 order) word =
      atomic_inside 6 (reg x rs1) (conditional_effect x rd (reg x rs1) (reg x rs2)) (λ e.
      in_either (is_reserved x (reg x rs1)) (Commits rd (reg x rs1) (reg x rs2)) (Fails rd (reg x rs1)) (λ _. (there (reg x rs1) e, tt))
      (there (reg x rs1) e, tt))
  instr_inside (instr.Amo op rd rs1 rs2 order) word = atomic_inside 6 (reg x rs1) (Updates op rd (reg x rs1) (reg x rs2)) (λ e. (there (reg x rs1) e, tt))

  decoded_inside : (o : Option Instr) (word : ℕ) → Inside (decoded_effect x o word)
  decoded_inside None word = tt
  decoded_inside (Some i) word = instr_inside i word

  -- and so is what the next move of a hart needs
  needs_inside : (memory : List ℕ) → AllBelow units (pages_needed unit x (fetched x memory))
  needs_inside memory = by (is_some (pending x.csrs)) where
    in_place : (m : Bool) → in_memory x.pages x.pc ≡ m → AllBelow units (pages_needed unit x (fetched_by memory (if m then fetch.At x.pc else fetch.Fault)))
    in_place true e = (there x.pc e, decoded_inside (meaning _) _)
    in_place false e = tt

    by : (b : Bool) → AllBelow units
        (pages_needed unit x (fetched_by memory (if b then fetch.Interrupt else if in_memory x.pages x.pc then fetch.At x.pc else fetch.Fault)))
    by true = tt
    by false = in_place (in_memory x.pages x.pc) refl

pub need_of_hart : (unit pages units : ℕ) (memory : List ℕ) (o : Option Hart) → IsUnit unit → Divides unit pages units
    → ((x : Hart) → o ≡ Some x → x.pages ≡ pages)
    → AllBelow units (option_map_or (λ x. pages_needed unit x (fetched x memory)) o [])
need_of_hart unit pages units memory None is divides all = tt
need_of_hart unit pages units memory (Some x) is divides all =
    needs_inside unit units x (λ at e. unit_there unit pages units at is divides (subst (λ p. in_memory p at ≡ true) (all x refl) e)) memory
