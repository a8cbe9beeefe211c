-- Counts of entries, one more at a time.
use Rattle.std.proofs.Common.{◌≡◌, ℕ, zero, suc, ◌+◌, Bool, cond, List, [], ◌∷◌, flat_map, take, Some, sym, ap, ◌∙◌, inl, inr, arith, add-zero, zero-add}
use Rattle.std.proofs.Common.{add_assoc}
use Rattle.std.specs.Prelude.{slice_get, count_by}
use Rattle.std.proofs.lemmas.Bool.{cases_Bool}
use Rattle.std.proofs.lemmas.Option.{none-some, same_Some, slice_get_within, get_or_from_slice_get}
use Rattle.std.proofs.lemmas.List.Sums.{count_by_more_yes, count_by_more_no, sum_by-append}

pub one_counted : {X : Type 0} (f : X → Bool) (s : List X) (i : ℕ) (e : X) → slice_get s i ≡ Some e
    → count_by f (take (i + 1) s) ≡ count_by f (take i s) + cond (f e) 1 0
one_counted f s i e at =
    let l = slice_get_within s i e at in
    let same = get_or_from_slice_get s i e e at in
    elim (cases_Bool (f e)) [
      | inl t ↦ count_by_more_yes f s i e l (ap f same ∙ t) ∙ ap (λ b. count_by f (take i s) + cond b 1 0) (sym t)
      | inr n ↦ count_by_more_no f s i e l (ap f same ∙ n) ∙ sym (add-zero (count_by f (take i s))) ∙ ap (λ b. count_by f (take i s) + cond b 1 0) (sym n)
    ]

pub stream_counted : {X : Type 0} (f : X → Bool) (streams : List (List X)) (h : ℕ) (t : List X) → slice_get streams h ≡ Some t
    → count_by f (flat_map (λ s. s) (take (h + 1) streams)) ≡ count_by f (flat_map (λ s. s) (take h streams)) + count_by f t
stream_counted f [] h t at = absurd (none-some _ at)
stream_counted f (x ∷ streams) zero t at =
    sum_by-append (λ z. cond (f z) 1 0) x [] ∙ add-zero (count_by f x) ∙ ap (count_by f) (same_Some _ _ at) ∙ sym (zero-add (count_by f t))
stream_counted f (x ∷ streams) (suc h) t at =
    let n : suc h + 1 ≡ suc (h + 1) = omega arith in
    let whole : ℕ → ℕ = λ k. count_by f (flat_map (λ s. s) (take k (x ∷ streams))) in
    let rest : ℕ → ℕ = λ k. count_by f (flat_map (λ s. s) (take k streams)) in
    ap whole n
    ∙ sum_by-append (λ z. cond (f z) 1 0) x (flat_map (λ s. s) (take (h + 1) streams))
    ∙ ap (λ k. count_by f x + k) (stream_counted f streams h t at)
    ∙ sym (add_assoc (count_by f x) (rest h) (count_by f t))
    ∙ ap (λ k. k + count_by f t) (sym (sum_by-append (λ z. cond (f z) 1 0) x (flat_map (λ s. s) (take h streams))))
