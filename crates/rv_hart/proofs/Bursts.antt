-- Moves that read no control register and change none but the counters.
use Rattle.std.proofs.Common.{◌≡◌, ℕ, Bool, true, false, cond, Some, None, refl, ap, ◌∙◌}
use Rattle.std.specs.Prelude.{is_some}
use Rattle.rv_words.specs.Addresses.{in_memory}
use Rattle.rv_decode.specs.declared.Instr.{Instr}
use Rattle.rv_decode.specs.declared.Instr.TheVariants as instr
use Rattle.rv_csr.specs.State.{Csrs}
use Rattle.rv_csr.specs.Traps.{counted, pending}
use Rattle.rv_csr.proofs.Counts.{times_pending}
use Rattle.rv_hart.specs.State.{Hart}
use Rattle.rv_hart.specs.Effects.{instr_effect, fetch_of}
use Rattle.rv_hart.specs.Moves.{after, with_csrs}
use Rattle.rv_hart.specs.Bursts.{reads_csr, is_quiet, fetch_place, with_counted}
use Rattle.rv_hart.specs.declared.effect.Fetch.TheVariants as fetch
use Rattle.rv_hart.specs.declared.effect.Effect.{Effect}
use Rattle.rv_hart.specs.declared.effect.Effect.TheVariants.{Sets, Jumps, Loads, Stores, Reserves, Commits, Fails, Updates, DeviceLoads, DeviceStores}
use Rattle.rv_hart.specs.declared.effect.Effect.TheVariants.{WritesCsr, Returns, Traps}

-- such an effect is the same whatever the control registers are
pub effect_apart : (h : Hart) (c : Csrs) (i : Instr) (word : ℕ) → reads_csr i ≡ false → instr_effect (with_csrs c h) i word ≡ instr_effect h i word
unfolding instr_effect
effect_apart h c (instr.Upper op rd imm) word e = refl
effect_apart h c (instr.Jal rd offset) word e = refl
effect_apart h c (instr.Jalr rd rs1 offset) word e = refl
effect_apart h c (instr.Branch op rs1 rs2 offset) word e = refl
effect_apart h c (instr.Load op rd rs1 offset) word e = refl
effect_apart h c (instr.Store op rs1 rs2 offset) word e = refl
effect_apart h c (instr.Imm op rd rs1 imm) word e = refl
effect_apart h c (instr.Shift op rd rs1 amount) word e = refl
effect_apart h c (instr.Reg op rd rs1 rs2) word e = refl
effect_apart h c (instr.Fence w) word e = refl
effect_apart h c (instr.FenceI w) word e = refl
effect_apart h c instr.Ecall word e = refl
effect_apart h c instr.Ebreak word e = refl
effect_apart h c instr.Mret word e = refl
effect_apart h c instr.Wfi word e = refl
effect_apart h c (instr.Csr op rd rs1 number) word e = let bad : ⊥ = cc in absurd bad
effect_apart h c (instr.LoadReserved rd rs1 order) word e = refl
effect_apart h c (instr.StoreConditional rd rs1 rs2 order) word e = refl
effect_apart h c (instr.Amo op rd rs1 rs2 order) word e = refl

-- and what it leaves but for them
pub after_apart : (h : Hart) (c : Csrs) (e : Effect) (loaded : ℕ) → is_quiet e ≡ true
    → after (with_csrs c h) e loaded ≡ with_csrs (counted true None c) (after h e loaded)
after_apart h c (Sets rd value) loaded q = refl
after_apart h c (Jumps rd target) loaded q = refl
after_apart h c (Loads op rd at) loaded q = refl
after_apart h c (Stores at size value) loaded q = refl
after_apart h c (Reserves rd at) loaded q = refl
after_apart h c (Commits rd at value) loaded q = refl
after_apart h c (Fails rd at) loaded q = refl
after_apart h c (Updates op rd at operand) loaded q = refl
after_apart h c (DeviceLoads rd at) loaded q = refl
after_apart h c (DeviceStores at value) loaded q = refl
after_apart h c (WritesCsr rd old number value) loaded q = let bad : ⊥ = cc in absurd bad
after_apart h c Returns loaded q = let bad : ⊥ = cc in absurd bad
after_apart h c (Traps cause value) loaded q = let bad : ⊥ = cc in absurd bad

-- one move counted then makes it the whole move
pub after_counted : (h : Hart) (e : Effect) (loaded : ℕ) → is_quiet e ≡ true
    → with_csrs (counted true None h.csrs) (with_csrs h.csrs (after h e loaded)) ≡ after h e loaded
after_counted h (Sets rd value) loaded q = refl
after_counted h (Jumps rd target) loaded q = refl
after_counted h (Loads op rd at) loaded q = refl
after_counted h (Stores at size value) loaded q = refl
after_counted h (Reserves rd at) loaded q = refl
after_counted h (Commits rd at value) loaded q = refl
after_counted h (Fails rd at) loaded q = refl
after_counted h (Updates op rd at operand) loaded q = refl
after_counted h (DeviceLoads rd at) loaded q = refl
after_counted h (DeviceStores at value) loaded q = refl
after_counted h (WritesCsr rd old number value) loaded q = let bad : ⊥ = cc in absurd bad
after_counted h Returns loaded q = let bad : ⊥ = cc in absurd bad
after_counted h (Traps cause value) loaded q = let bad : ⊥ = cc in absurd bad

by_pending : (h : Hart) (b : Bool) (pc : ℕ) → cond b fetch.Interrupt (cond (in_memory h.pages h.pc) (fetch.At h.pc) fetch.Fault) ≡ fetch.At pc → b ≡ false
by_pending h true pc e = let bad : ⊥ = cc in absurd bad
by_pending h false pc e = refl

-- where a hart fetches, no interrupt is pending
pub none_pending : (h : Hart) (pc : ℕ) → fetch_of h ≡ fetch.At pc → is_some (pending h.csrs) ≡ false
none_pending h pc e = by_pending h (is_some (pending h.csrs)) pc e

by_place : (h : Hart) (b : Bool) (pc : ℕ) → cond b (Some h.pc) None ≡ Some pc → cond b (fetch.At h.pc) fetch.Fault ≡ fetch.At pc
by_place h true pc e = let same : h.pc ≡ pc = cc in ap fetch.At same
by_place h false pc e = let bad : ⊥ = cc in absurd bad

-- so a hart fetches from its place, whatever moves it counts
pub fetches_at : (n : ℕ) (h : Hart) (pc : ℕ) → is_some (pending h.csrs) ≡ false → fetch_place h ≡ Some pc → fetch_of (with_counted n h) ≡ fetch.At pc
fetches_at n h pc none at =
    ap (λ o. cond (is_some o) fetch.Interrupt (cond (in_memory h.pages h.pc) (fetch.At h.pc) fetch.Fault)) (times_pending n h.csrs)
    ∙ ap (λ b. cond b fetch.Interrupt (cond (in_memory h.pages h.pc) (fetch.At h.pc) fetch.Fault)) none
    ∙ by_place h (in_memory h.pages h.pc) pc at
