-- What the rules of single streams say of each other.
use Rattle.std.proofs.Common.{◌≡◌, ℕ, suc, ◌+◌, ◌-◌, ◌<◌, ◌≤◌, Bool, true, false, List, [], length, Some, None, refl, sym, ap, ◌∙◌, inl, inr, arith}
use Rattle.std.proofs.Common.{eq-or-lt_of_le, le_of_suc-le-suc}
use Rattle.std.specs.Prelude.{◌&&◌, ◌||◌, ◌==◌, not, nat_lt, slice_get, unwrap_or, Option}
use Rattle.std.specs.Option.{option_map_or}
use Rattle.std.proofs.lemmas.Bool.{or_parts, eq-eqb, not-false, ltb-false}
use Rattle.std.proofs.lemmas.Option.{slice_get_past, slice_get_within}
use Rattle.log_entry.specs.declared.log.Entry.{Entry}
use Rattle.log_entry.specs.declared.log.Log.{Log}
use Rattle.log_entry.specs.Parts.{count_of, is_end, is_some_and}
use Rattle.order_rules.specs.Orderly.{Keeps, o1}
use Rattle.order_rules.proofs.Least.{first_is_least}
use Rattle.order_rules.specs.Rules.{last_of, end_count}
use Rattle.log_order.specs.InStream.{falls_at, o1_in, o2_in, o3_in, NoFall, IsFirst}

first_part : (o : Option Entry) (f g : Entry → Bool) → is_some_and o (λ e. f e || g e) ≡ false → is_some_and o f ≡ false
first_part None f g h = refl
first_part (Some e) f g h = (or_parts (f e) (g e) h).0

-- where O1 is kept, no count falls
pub no_fall : (log : Log) → Keeps log o1 → (h : ℕ) (t : List Entry) → slice_get log.streams h ≡ Some t → NoFall t
no_fall log keeps h t got j lt =
    let kept : o1 log (h, j) ≡ false = first_is_least.none log (o1 log) (h, j) keeps (t, got, omega (arith, lt)) in
    let here : o1_in log.limit t j ≡ false = ap (λ (o : Option (List Entry)). o1_in log.limit (unwrap_or o []) j) (sym got) ∙ kept in
    let end : Bool = (j == length t) && not (is_some_and (slice_get t (length t - 1)) is_end) in
    let last : Entry → Bool = λ e. is_end e && (not (j + 1 == length t) || nat_lt log.limit (count_of e)) in
    first_part (slice_get t j) (falls_at t j) last (or_parts (is_some_and (slice_get t j) (λ e. falls_at t j e || last e)) end here).0

-- no entry stands at the length of a stream
pub widen : (test : ℕ → Bool) (n : ℕ) → test n ≡ false → (r : Option ℕ) → IsFirst test n r → IsFirst test (n + 1) r
widen test n past None none = λ j lt.
    let m : j < suc n = omega (arith, lt) in
    elim (eq-or-lt_of_le (le_of_suc-le-suc m)) [
      | inl e ↦ ap test e ∙ past
      | inr less ↦ none j less
    ]
widen test n past (Some i) first = let lt = first.0 in (omega (arith, lt), first.1, first.2)

pub o2_past : (t : List Entry) → o2_in t (length t) ≡ false
o2_past t = rw (slice_get_past t (length t) (omega arith)) refl

pub o3_past : (limit : ℕ) (t : List Entry) → o3_in limit t (length t) ≡ false
o3_past limit t = rw (slice_get_past t (length t) (omega arith)) refl

-- where O1 is kept, a stream's End is at most the limit
pub end_within : (log : Log) → Keeps log o1 → (h : ℕ) (t : List Entry) → slice_get log.streams h ≡ Some t → end_count t ≤ log.limit
end_within log keeps h t got = by (last_of t) refl
  where
    kept : (j : ℕ) → j < length t + 1 → o1_in log.limit t j ≡ false
    kept j lt = ap (λ (o : Option (List Entry)). o1_in log.limit (unwrap_or o []) j) (sym got) ∙ first_is_least.none log (o1 log) (h, j) keeps (t, got, lt)

    low : (e : Entry) → last_of t ≡ Some e → is_end e ≡ true → count_of e ≤ log.limit
    low e is ends =
        let l = slice_get_within t (length t - 1) e is in
        let k = kept (length t - 1) (omega (arith, l)) in
        let falls : Entry → Bool = falls_at t (length t - 1) in
        let last : Entry → Bool = λ z. is_end z && (not (length t - 1 + 1 == length t) || nat_lt log.limit (count_of z)) in
        let end : Bool = (length t - 1 == length t) && not (is_some_and (last_of t) is_end) in
        let one = (or_parts (is_some_and (slice_get t (length t - 1)) (λ z. falls z || last z)) end k).0 in
        let two : (falls e || last e) ≡ false = sym (ap (λ (o : Option Entry). is_some_and o (λ z. falls z || last z)) is) ∙ one in
        let three = (or_parts (falls e) (last e) two).1 in
        let four : (not (length t - 1 + 1 == length t) || nat_lt log.limit (count_of e)) ≡ false =
        sym (ap (λ b. b && (not (length t - 1 + 1 == length t) || nat_lt log.limit (count_of e))) ends) ∙ three in
        ltb-false log.limit (count_of e) (or_parts (not (length t - 1 + 1 == length t)) (nat_lt log.limit (count_of e)) four).1

    end_stands : is_some_and (last_of t) is_end ≡ true
    end_stands =
        let k = kept (length t) (omega arith) in
        let one = (or_parts
        (is_some_and (slice_get t (length t))
        (λ z. falls_at t (length t) z || (is_end z && (not (length t + 1 == length t) || nat_lt log.limit (count_of z)))))
        ((length t == length t) && not (is_some_and (last_of t) is_end)) k).1 in
        let two : not (is_some_and (last_of t) is_end) ≡ false =
        sym (ap (λ b. b && not (is_some_and (last_of t) is_end)) (eq-eqb (length t) (length t) refl)) ∙ one in
        not-false (is_some_and (last_of t) is_end) two

    by : (o : Option Entry) → last_of t ≡ o → end_count t ≤ log.limit
    by None is = let e : end_count t ≡ 0 = ap (λ (o : Option Entry). option_map_or count_of o 0) is in omega (arith, e)
    by (Some x) is =
        let e : end_count t ≡ count_of x = ap (λ (o : Option Entry). option_map_or count_of o 0) is in
        let l = low x is (sym (ap (λ (o : Option Entry). is_some_and o is_end) is) ∙ end_stands) in
        omega (arith, e, l)
