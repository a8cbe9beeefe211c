-- An entry is misplaced exactly where its number breaks O5, or the first part of O8.
use Rattle.std.proofs.Common.{◌≡◌, ℕ, Bool, true, false, cond, Option, Some, None, refl, sym, ap, ◌∙◌}
use Rattle.std.specs.Prelude.{◌&&◌, ◌||◌, nat_le, count_by, is_some, option_map, option_and_then, ◌==◌, if◌then◌else◌}
use Rattle.std.specs.List.{list_any}
use Rattle.std.proofs.Math.Path.{fun_ext}
use Rattle.std.proofs.lemmas.Bool.{eq-eqb}
use Rattle.log_entry.specs.declared.log.Log.{Log}
use Rattle.log_entry.specs.Parts.{is_some_and, ordinal_of, page_number}
use Rattle.order_rules.specs.Places.{Placed, entries, earlier, is_number, number_on}
use Rattle.order_rules.specs.Rules.{is_misnumbered, breaks_o5}
use Rattle.order_rules.specs.Orderly.{at_entry, o5}
use Rattle.log_order.specs.declared.series.Series.TheVariants.{Pages, Ordinals}
use Rattle.log_order.specs.Rows.{has_key, is_in_row, is_misplaced, misplaced}

same_size : (o : Option (ℕ × ℕ)) (g : ℕ) → is_some (option_and_then (λ (x : ℕ × ℕ). if x.0 == g then Some x.1 else None) o) ≡ is_some_and o (λ x. x.0 == g)
same_size None g = refl
same_size (Some x) g = by (x.0 == g)
  where
    by : (b : Bool) → is_some (cond b (Some x.1) None) ≡ b
    by true = refl
    by false = refl

same_key : (o : Option (ℕ × ℕ)) (n : ℕ × ℕ)
    → is_number n.1 (option_and_then (λ (x : ℕ × ℕ). if x.0 == n.0 then Some x.1 else None) o) ≡ is_some_and o (λ x. (x.0 == n.0) && (x.1 == n.1))
same_key None n = refl
same_key (Some x) n = by (x.0 == n.0)
  where
    by : (b : Bool) → is_number n.1 (cond b (Some x.1) None) ≡ (b && (x.1 == n.1))
    by true = refl
    by false = refl

misnumbered_page : (log : Log) (x : Placed) → breaks_o5 log x ≡ is_misplaced Pages log x
misnumbered_page log x = by (page_number x.entry) refl
  where
    test : ℕ × ℕ → Bool
    test p = is_misnumbered (number_on p.0) log x

    by : (o : Option (ℕ × ℕ)) → page_number x.entry ≡ o → is_some_and (page_number x.entry) (λ p. is_misnumbered (number_on p.0) log x)
        ≡ is_some_and (page_number x.entry) (λ n. nat_le (count_by (is_in_row Pages n.0) (entries log)) n.1 || list_any (has_key Pages n) (earlier log x))
    by None is = ap (λ o. is_some_and o (λ p. is_misnumbered (number_on p.0) log x)) is
        ∙ ap (λ o. is_some_and o (λ n. nat_le (count_by (is_in_row Pages n.0) (entries log)) n.1 || list_any (has_key Pages n) (earlier log x))) (sym is)
    by (Some n) is =
        let number : number_on n.0 x.entry ≡ Some n.1 =
        ap (option_and_then (λ (z : ℕ × ℕ). if z.0 == n.0 then Some z.1 else None)) is ∙ ap (λ b. cond b (Some n.1) None) (eq-eqb n.0 n.0 refl) in
        ap (λ o. is_some_and o (λ p. is_misnumbered (number_on p.0) log x)) is
        ∙ ap (λ o. is_some_and o
        (λ k. nat_le (count_by (λ e. is_some (number_on n.0 e)) (entries log)) k || list_any (λ e. is_number k (number_on n.0 e)) (earlier log x))) number
        ∙ ap (λ f. nat_le (count_by f (entries log)) n.1 || list_any (λ e. is_number n.1 (number_on n.0 e)) (earlier log x))
        (fun_ext (λ e. same_size (page_number e) n.0))
        ∙ ap (λ f. nat_le (count_by (is_in_row Pages n.0) (entries log)) n.1 || list_any f (earlier log x)) (fun_ext (λ e. same_key (page_number e) n))
        ∙ ap (λ o. is_some_and o (λ n. nat_le (count_by (is_in_row Pages n.0) (entries log)) n.1 || list_any (has_key Pages n) (earlier log x))) (sym is)

pub o5_misplaces : (log : Log) → o5 log ≡ misplaced Pages log
o5_misplaces log = ap (λ test. at_entry test log) (fun_ext (misnumbered_page log))

own_row : (o : Option ℕ) → is_some o ≡ is_some_and {X = ℕ × ℕ} (option_map (λ k. (0, k)) o) (λ x. x.0 == 0)
own_row None = refl
own_row (Some k) = refl

own_number : (o : Option ℕ) (n : ℕ) → is_number n o ≡ is_some_and {X = ℕ × ℕ} (option_map (λ k. (0, k)) o) (λ x. (x.0 == 0) && (x.1 == n))
own_number None n = refl
own_number (Some k) n = refl

misnumbered_ordinal : (log : Log) (x : Placed) → is_misnumbered ordinal_of log x ≡ is_misplaced Ordinals log x
misnumbered_ordinal log x = by (ordinal_of x.entry)
  where
    of_ordinal : Option ℕ → Bool
    of_ordinal o =
        is_some_and o (λ n. nat_le (count_by (λ e. is_some (ordinal_of e)) (entries log)) n || list_any (λ e. is_number n (ordinal_of e)) (earlier log x))

    by : (o : Option ℕ)
        → is_some_and o (λ n. nat_le (count_by (λ e. is_some (ordinal_of e)) (entries log)) n || list_any (λ e. is_number n (ordinal_of e)) (earlier log x))
        ≡ is_some_and {X = ℕ × ℕ} (option_map (λ k. (0, k)) o)
        (λ n. nat_le (count_by (is_in_row Ordinals n.0) (entries log)) n.1 || list_any (has_key Ordinals n) (earlier log x))
    by None = refl
    by (Some n) =
        ap (λ f. nat_le (count_by f (entries log)) n || list_any (λ e. is_number n (ordinal_of e)) (earlier log x)) (fun_ext (λ e. own_row (ordinal_of e)))
        ∙ ap (λ f. nat_le (count_by (is_in_row Ordinals 0) (entries log)) n || list_any f (earlier log x)) (fun_ext (λ e. own_number (ordinal_of e) n))

pub ordinals_misplace : (log : Log) → is_misnumbered ordinal_of log ≡ is_misplaced Ordinals log
ordinals_misplace log = fun_ext (misnumbered_ordinal log)
