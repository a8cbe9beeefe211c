-- What is known where no rule is broken.
use Rattle.std.proofs.Common.{ℕ, ◌≡◌, ◌+◌, ◌%◌, ◌≤◌, Bool, true, false, List, [], ◌∷◌, None, drop, zero, suc, refl, sym, arith}
use Rattle.std.proofs.lemmas.Grind.{common_steps}
use Rattle.std.proofs.lemmas.Option.{none-some}
use Rattle.elf_image.specs.Elf.{is_elf, entry}
use Rattle.elf_image.specs.Image.{memory_size}
use Rattle.elf_image.specs.Rules.{least_broken, broken_rule, elf_rules, entry_is_broken}

first_kept : (n : ℕ) (b : Bool) (rules : List (ℕ × Bool)) → least_broken ((n, b) ∷ rules) ≡ None → (b ≡ false) × (least_broken rules ≡ None)
first_kept n true rules e = absurd (none-some n (sym e))
first_kept n false rules e = (refl, e)

later_kept : (k : ℕ) (rules : List (ℕ × Bool)) → least_broken rules ≡ None → least_broken (drop k rules) ≡ None
later_kept zero rules e = e
later_kept (suc k) [] e = refl
later_kept (suc k) (r ∷ rules) e = later_kept k rules (first_kept r.0 r.1 rules e).1

pub entry_kept : (pages : ℕ) (file : List ℕ) → is_elf file ≡ true → broken_rule pages file ≡ None → entry_is_broken pages (entry file) ≡ false
entry_kept pages file is e =
    let kept : least_broken (elf_rules pages file) ≡ None = rw is at e in
    (first_kept 12 (entry_is_broken pages (entry file)) [] (later_kept 10 (elf_rules pages file) kept)).0

pub entry_inside : (pages at : ℕ) → entry_is_broken pages at ≡ false → (at % 4 ≡ 0) × ((0x80000000 ≤ at) × (at + 4 ≤ 0x80000000 + memory_size pages))
entry_inside pages at e = grind (arith, common_steps, e)
