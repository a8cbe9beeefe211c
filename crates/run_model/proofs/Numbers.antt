-- Each hart of a flat machine has its number in mhartid, whatever acts were made.
use Rattle.std.proofs.Common.{◌≡◌, ℕ, ◌||◌, Bool, true, false, List, [], ◌∷◌, map, Some, None, slice_get, slice_set, nat_lt, is_some}
use Rattle.std.proofs.Common.{unwrap_or, cond, refl, sym, ap, ◌∙◌, subst, inl, inr, if◌then◌else◌, ◌<◌, length, arith, zero-add}
use Rattle.std.specs.List.{find, range_with_len}
use Rattle.std.specs.Option.{option_map}
use Rattle.std.proofs.lemmas.List.FromFn.{length-range_with_len, get_or-range_with_len}
use Rattle.std.proofs.lemmas.Option.{get_or_from_slice_get, same_Some, slice_get_within}
use Rattle.std.proofs.lemmas.Bool.Decides.{eqb_tells}
use Rattle.shared_types.proofs.Lists.{bound_to, chosen, get_map, map_at, mapped, set_here, set_there, unless}
use Rattle.rv_csr.specs.State.{Csrs}
use Rattle.rv_csr.specs.Registers.{Register, has_number, is_read_only, register, registers, csr_written}
use Rattle.rv_hart.specs.State.{Hart}
use Rattle.rv_hart.specs.Moves.{after, hart_at_start, need_of}
use Rattle.rv_hart.specs.declared.effect.Effect.{Effect}
use Rattle.rv_hart.specs.declared.effect.Effect.TheVariants.{Sets, Jumps, Loads, Stores, Reserves, Commits, Fails, Updates, DeviceLoads, DeviceStores}
use Rattle.rv_hart.specs.declared.effect.Effect.TheVariants.{WritesCsr, Returns, Traps}
use Rattle.rv_hart.specs.declared.effect.Wrote.{Wrote}
use Rattle.rv_hart.specs.declared.effect.Wrote.TheVariants as wrote
use Rattle.elf_image.specs.Image.{Image}
use Rattle.flat_machine.specs.State.{FlatState, flat_at_start}
use Rattle.flat_machine.specs.Moves.{next_move, access_of, lost_by, writes_in}
use Rattle.flat_machine.specs.Acts.{next, ran, accessed, touch_made, poll_made, lost}
use Rattle.flat_machine.specs.declared.act.Act.{Act}
use Rattle.flat_machine.specs.declared.act.Act.TheVariants.{Run, Touch, Poll, Lose}
use Rattle.run_model.specs.Numbers.{AreNumbered}

abbrev Leaves : Register → Type 0
Leaves r = (v : ℕ) (s : Csrs) → (r.write v s).hart ≡ s.hart

abbrev All : List Register → Type 0
All [] = Unit {0}
All (r ∷ rows) = Leaves r × All rows

all_leave : All registers
all_leave = (
  λ v s. refl,
  (
    λ v s. refl,
    (
      λ v s. refl,
      (
        λ v s. refl,
        (
          λ v s. refl,
          (
            λ v s. refl,
            (
              λ v s. refl,
              (
                λ v s. refl,
                (
                  λ v s. refl,
                  (
                    λ v s. refl,
                    (
                      λ v s.
                          refl,
                      (λ v s. refl, (λ v s. refl, (λ v s. refl, (λ v s. refl, (λ v s. refl, (λ v s. refl, (λ v s. refl, (λ v s. refl, tt)))))))),
                    ),
                  ),
                ),
              ),
            ),
          ),
        ),
      ),
    ),
  ),
)

found_leaves : (n v : ℕ) (s : Csrs) (rows : List Register) → All rows
    → (unwrap_or (option_map (λ (r : Register). r.write v s) (find (has_number n) rows)) s).hart ≡ s.hart
found_leaves n v s [] all = refl
found_leaves n v s (r ∷ rows) all = by (has_number n r) (found_leaves n v s rows all.1) where
  by : (b : Bool) → (unwrap_or (option_map (λ (r : Register). r.write v s) (find (has_number n) rows)) s).hart ≡ s.hart
      → (unwrap_or (option_map (λ (r : Register). r.write v s) (cond b (Some r) (find (has_number n) rows))) s).hart ≡ s.hart
  by true rest = all.0 v s
  by false rest = rest

written_leaves : (n v : ℕ) (s : Csrs) → (unwrap_or (csr_written n v s) s).hart ≡ s.hart
written_leaves n v s = by (is_read_only n) where
  by : (b : Bool) → (unwrap_or (if b then None else option_map (λ (r : Register). r.write v s) (register n)) s).hart ≡ s.hart
  by true = refl
  by false = found_leaves n v s registers all_leave

after_number : (x : Hart) (e : Effect) (loaded : ℕ) → (after x e loaded).csrs.hart ≡ x.csrs.hart
after_number x (Sets rd value) loaded = refl
after_number x (Jumps rd target) loaded = refl
after_number x (Loads op rd at) loaded = refl
after_number x (Stores at size value) loaded = refl
after_number x (Reserves rd at) loaded = refl
after_number x (Commits rd at value) loaded = refl
after_number x (Fails rd at) loaded = refl
after_number x (Updates op rd at operand) loaded = refl
after_number x (DeviceLoads rd at) loaded = refl
after_number x (DeviceStores at value) loaded = refl
after_number x (WritesCsr rd old number value) loaded = written_leaves number value x.csrs
after_number x Returns loaded = refl
after_number x (Traps cause value) loaded = refl

lost_number : (w : Wrote) (x : Hart) → (lost_by w x).csrs.hart ≡ x.csrs.hart
lost_number wrote.Nothing x = refl
lost_number (wrote.Bytes at size value) x = by (writes_in at x.reserved) where
  by : (b : Bool) → (if b then record x { reserved = None } else x).csrs.hart ≡ x.csrs.hart
  by true = refl
  by false = refl

abbrev Numbers : List Hart → Type 0
Numbers harts = (h : ℕ) (x : Hart) → slice_get harts h ≡ Some x → x.csrs.hart ≡ h

set_number : (harts : List Hart) (h : ℕ) (x y : Hart) → slice_get harts h ≡ Some x → Numbers harts → y.csrs.hart ≡ x.csrs.hart
    → Numbers (slice_set harts h y)
set_number harts h x y at all same g z is = elim (eqb_tells g h) [
  | inl (t, e) ↦
      let now : Some y ≡ Some z = sym (set_here harts h y (slice_get_within harts h x at)) ∙ subst (λ k. slice_get (slice_set harts h y) k ≡ Some z) e is in
      ap (λ (w : Hart). w.csrs.hart) (sym (same_Some _ _ now)) ∙ same ∙ all h x at ∙ sym e
  | inr (f, n) ↦ all g z (sym (set_there harts h g y n) ∙ is)
]

lost_all : (w : Wrote) (harts : List Hart) → Numbers harts → Numbers (map (lost_by w) harts)
lost_all w harts all h y is =
    let x = map_at (lost_by w) harts h y is in
    ap (λ (z : Hart). z.csrs.hart) (sym x.2) ∙ lost_number w x.0 ∙ all h x.0 x.1

pub numbers_kept : (s t : FlatState) (act : Act) → AreNumbered s → next act s ≡ Some t → AreNumbered t
numbers_kept s t (Run h) all is =
    let x = bound_to (λ x. ran s h x (next_move x s.memory)) (slice_get s.harts h) t is in
    let c = (chosen (is_some (access_of (need_of (next_move x.0 s.memory)))) _ t x.2).1 in
    subst (λ (u : FlatState). Numbers u.harts) c
    (set_number (map (lost_by _) s.harts) h (lost_by _ x.0) _ (get_map (lost_by _) s.harts h x.0 x.1) (lost_all _ s.harts all)
    (after_number x.0 (next_move x.0 s.memory) _ ∙ sym (lost_number _ x.0)))
numbers_kept s t (Touch h input) all is =
    let x = bound_to (λ x. touch_made s h input x (next_move x s.memory)) (slice_get s.harts h) t is in
    let d = mapped (accessed s h x.0 (next_move x.0 s.memory)) _ t (unless (is_some s.devices.stop) _ t x.2) in
    subst (λ (u : FlatState). Numbers u.harts) d.2 (set_number s.harts h x.0 _ x.1 all (after_number x.0 (next_move x.0 s.memory) d.0.1))
numbers_kept s t (Poll h time) all is =
    let x = bound_to (poll_made s h time) (slice_get s.harts h) t is in
    subst (λ (u : FlatState). Numbers u.harts) ((chosen (is_some s.devices.stop || nat_lt time s.devices.mtime) _ t x.2).1)
    (set_number s.harts h x.0 _ x.1 all refl)
numbers_kept s t (Lose h) all is =
    let x = mapped (lost s h) (slice_get s.harts h) t is in
    subst (λ (u : FlatState). Numbers u.harts) x.2 (set_number s.harts h x.0 _ x.1 all refl)

-- and each has it at the start
pub numbered_first : (image : Image) (harts : ℕ) → AreNumbered (flat_at_start image harts)
numbered_first image harts h x is =
    let m = map_at (λ id. hart_at_start id harts image.pages image.entry) (range_with_len 0 harts) h x is in
    let l : h < harts = (let w = slice_get_within (range_with_len 0 harts) h m.0 m.1 in let n = length-range_with_len 0 harts in omega (arith, w, n)) in
    ap (λ (z : Hart). z.csrs.hart) (sym m.2) ∙ sym (get_or_from_slice_get (range_with_len 0 harts) h m.0 0 m.1) ∙ get_or-range_with_len 0 harts h 0 l
    ∙ zero-add h
