-- Tests over all entries with their places.
use Rattle.std.proofs.Common.{◌≡◌, ℕ, zero, suc, ◌+◌, Bool, true, List, [], ◌∷◌, map, flat_map, Some, refl, sym, ap, ◌∙◌, subst, arith, add-zero, zero-add}
use Rattle.std.specs.Prelude.{slice_get, unwrap_or}
use Rattle.std.specs.List.{list_all, enumerate_from}
use Rattle.std.proofs.lemmas.Bool.{and_from, and_parts}
use Rattle.std.proofs.lemmas.List.Folds.{list_all-append}
use Rattle.std.proofs.lemmas.Option.{none-some, same_Some}
use Rattle.log_entry.specs.declared.log.Entry.{Entry}
use Rattle.log_entry.specs.declared.log.Log.{Log}
use Rattle.order_rules.specs.Places.{Placed, entry_at, placed, stream}
use Rattle.order_rules.proofs.Numbers.{in_stream}

module _ (f : Placed → Bool) where
  all_in_row : (h n : ℕ) (s : List Entry) → ((i : ℕ) (e : Entry) → slice_get s i ≡ Some e → f (record { hart = h; place = n + i; entry = e }) ≡ true)
      → list_all f (map (λ (e : ℕ × Entry). record { hart = h; place = e.0; entry = e.1 }) (enumerate_from n s)) ≡ true
  all_in_row h n [] each = refl
  all_in_row h n (x ∷ s) each =
      and_from (f (record { hart = h; place = n; entry = x }))
      (list_all f (map (λ (e : ℕ × Entry). record { hart = h; place = e.0; entry = e.1 }) (enumerate_from (n + 1) s)))
      (subst (λ (k : ℕ). f (record { hart = h; place = k; entry = x }) ≡ true) (add-zero n) (each 0 x refl))
      (all_in_row h (n + 1) s
      (λ i e at. let k : n + suc i ≡ n + 1 + i = omega arith in
      subst (λ (k : ℕ). f (record { hart = h; place = k; entry = e }) ≡ true) k (each (suc i) e at)))

  all_in_rows : (n : ℕ) (streams : List (List Entry))
      → ((h i : ℕ) (s : List Entry) (e : Entry) → slice_get streams h ≡ Some s → slice_get s i ≡ Some e
      → f (record { hart = n + h; place = i; entry = e }) ≡ true)
      → list_all f
      (flat_map (λ (s : ℕ × List Entry). map (λ (e : ℕ × Entry). record { hart = s.0; place = e.0; entry = e.1 }) (enumerate_from 0 s.1))
      (enumerate_from n streams)) ≡ true
  all_in_rows n [] each = refl
  all_in_rows n (s ∷ streams) each =
      list_all-append f (map (λ (e : ℕ × Entry). record { hart = n; place = e.0; entry = e.1 }) (enumerate_from 0 s))
      (flat_map (λ (s : ℕ × List Entry). map (λ (e : ℕ × Entry). record { hart = s.0; place = e.0; entry = e.1 }) (enumerate_from 0 s.1))
      (enumerate_from (n + 1) streams))
      ∙ and_from (list_all f (map (λ (e : ℕ × Entry). record { hart = n; place = e.0; entry = e.1 }) (enumerate_from 0 s)))
      (list_all f (flat_map (λ (s : ℕ × List Entry). map (λ (e : ℕ × Entry). record { hart = s.0; place = e.0; entry = e.1 }) (enumerate_from 0 s.1))
      (enumerate_from (n + 1) streams)))
      (all_in_row n 0 s (λ i e at.
      let here = each 0 i s e refl at in
      let one = subst (λ (k : ℕ). f (record { hart = k; place = i; entry = e }) ≡ true) (add-zero n) here in
      subst (λ (k : ℕ). f (record { hart = n; place = k; entry = e }) ≡ true) (sym (zero-add i)) one))
      (all_in_rows (n + 1) streams (λ h i t e there at.
      let k : n + suc h ≡ n + 1 + h = omega arith in subst (λ (k : ℕ). f (record { hart = k; place = i; entry = e }) ≡ true) k (each (suc h) i t e there at)))

  at_in_row : (h n : ℕ) (s : List Entry) (i : ℕ) (e : Entry) → slice_get s i ≡ Some e
      → list_all f (map (λ (e : ℕ × Entry). record { hart = h; place = e.0; entry = e.1 }) (enumerate_from n s)) ≡ true
      → f (record { hart = h; place = n + i; entry = e }) ≡ true
  at_in_row h n [] i e at all = absurd (none-some _ at)
  at_in_row h n (x ∷ s) zero e at all =
      let both = and_parts (f (record { hart = h; place = n; entry = x }))
      (list_all f (map (λ (e : ℕ × Entry). record { hart = h; place = e.0; entry = e.1 }) (enumerate_from (n + 1) s))) all in
      subst (λ (k : ℕ). f (record { hart = h; place = k; entry = e }) ≡ true) (sym (add-zero n))
      (subst (λ (z : Entry). f (record { hart = h; place = n; entry = z }) ≡ true) (same_Some x e at) both.0)
  at_in_row h n (x ∷ s) (suc i) e at all =
      let both = and_parts (f (record { hart = h; place = n; entry = x }))
      (list_all f (map (λ (e : ℕ × Entry). record { hart = h; place = e.0; entry = e.1 }) (enumerate_from (n + 1) s))) all in
      let k : n + 1 + i ≡ n + suc i = omega arith in
      subst (λ (k : ℕ). f (record { hart = h; place = k; entry = e }) ≡ true) k (at_in_row h (n + 1) s i e at both.1)

  at_in_rows : (n : ℕ) (streams : List (List Entry)) (h i : ℕ) (s : List Entry) (e : Entry) → slice_get streams h ≡ Some s → slice_get s i ≡ Some e
      → list_all f
      (flat_map (λ (s : ℕ × List Entry). map (λ (e : ℕ × Entry). record { hart = s.0; place = e.0; entry = e.1 }) (enumerate_from 0 s.1))
      (enumerate_from n streams)) ≡ true
      → f (record { hart = n + h; place = i; entry = e }) ≡ true
  at_in_rows n [] h i s e there at all = absurd (none-some _ there)
  at_in_rows n (x ∷ streams) zero i s e there at all =
      let both = and_parts (list_all f (map (λ (e : ℕ × Entry). record { hart = n; place = e.0; entry = e.1 }) (enumerate_from 0 x)))
      (list_all f (flat_map (λ (s : ℕ × List Entry). map (λ (e : ℕ × Entry). record { hart = s.0; place = e.0; entry = e.1 }) (enumerate_from 0 s.1))
      (enumerate_from (n + 1) streams)))
      (sym (list_all-append f (map (λ (e : ℕ × Entry). record { hart = n; place = e.0; entry = e.1 }) (enumerate_from 0 x))
      (flat_map (λ (s : ℕ × List Entry). map (λ (e : ℕ × Entry). record { hart = s.0; place = e.0; entry = e.1 }) (enumerate_from 0 s.1))
      (enumerate_from (n + 1) streams))) ∙ all) in
      let here = at_in_row n 0 x i e (ap (λ z. slice_get z i) (same_Some x s there) ∙ at) both.0 in
      let one = subst (λ (k : ℕ). f (record { hart = n; place = k; entry = e }) ≡ true) (zero-add i) here in
      subst (λ (k : ℕ). f (record { hart = k; place = i; entry = e }) ≡ true) (sym (add-zero n)) one
  at_in_rows n (x ∷ streams) (suc h) i s e there at all =
      let both = and_parts (list_all f (map (λ (e : ℕ × Entry). record { hart = n; place = e.0; entry = e.1 }) (enumerate_from 0 x)))
      (list_all f (flat_map (λ (s : ℕ × List Entry). map (λ (e : ℕ × Entry). record { hart = s.0; place = e.0; entry = e.1 }) (enumerate_from 0 s.1))
      (enumerate_from (n + 1) streams)))
      (sym (list_all-append f (map (λ (e : ℕ × Entry). record { hart = n; place = e.0; entry = e.1 }) (enumerate_from 0 x))
      (flat_map (λ (s : ℕ × List Entry). map (λ (e : ℕ × Entry). record { hart = s.0; place = e.0; entry = e.1 }) (enumerate_from 0 s.1))
      (enumerate_from (n + 1) streams))) ∙ all) in
      let k : n + 1 + h ≡ n + suc h = omega arith in
      subst (λ (k : ℕ). f (record { hart = k; place = i; entry = e }) ≡ true) k (at_in_rows (n + 1) streams h i s e there at both.1)

  pub all_placed : (log : Log) → ((h i : ℕ) (e : Entry) → entry_at log h i ≡ Some e → f (record { hart = h; place = i; entry = e }) ≡ true)
      → list_all f (placed log) ≡ true
  all_placed log each = all_in_rows 0 log.streams (λ h i s e there at.
      subst (λ (k : ℕ). f (record { hart = k; place = i; entry = e }) ≡ true) (sym (zero-add h))
      (each h i e (ap (λ o. slice_get (unwrap_or o []) i) there ∙ at)))

  pub at_placed : (log : Log) (h i : ℕ) (e : Entry) → entry_at log h i ≡ Some e → list_all f (placed log) ≡ true
      → f (record { hart = h; place = i; entry = e }) ≡ true
  at_placed log h i e at all =
      subst (λ (k : ℕ). f (record { hart = k; place = i; entry = e }) ≡ true) (zero-add h)
      (at_in_rows 0 log.streams h i (stream log h) e (in_stream log h i e at) at all)
