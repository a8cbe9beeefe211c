-- In a log that keeps O5, an entry of a page is the one that its number names.
use Rattle.std.proofs.Common.{◌≡◌, ℕ, zero, suc, ◌+◌, ◌<◌, Bool, true, false, ◌||◌, cond, List, [], ◌∷◌, ◌++◌, map, flat_map, length, take, Option, Some}
use Rattle.std.proofs.Common.{None, find, slice_get, refl, sym, ap, ◌∙◌, subst, arith, add-zero, zero-add, append_assoc, nat_le, count_by, is_some}
use Rattle.std.proofs.Common.{unwrap_or, ◌==◌, if◌then◌else◌}
use Rattle.std.proofs.lemmas.Bool.{eq-eqb, or_parts}
use Rattle.std.specs.List.{list_any, enumerate_from}
use Rattle.std.specs.Option.{option_or, option_and_then}
use Rattle.std.proofs.lemmas.Option.{none-some, same_Some, slice_get-get_or, unwrap_or-slice_get}
use Rattle.std.proofs.lemmas.List.Folds.{find-append}
use Rattle.log_entry.specs.declared.log.Entry.{Entry}
use Rattle.log_entry.specs.declared.log.Log.{Log}
use Rattle.log_entry.specs.Parts.{page_number, is_some_and}
use Rattle.order_rules.specs.Places.{Placed, stream, entry_at, entries, earlier, is_number, number_on}
use Rattle.order_rules.specs.Rules.{is_misnumbered, breaks_o5}
use Rattle.order_rules.specs.Orderly.{spots, at_entry, Keeps, o5}
use Rattle.order_rules.specs.Laws.{NumbersName}
use Rattle.order_rules.proofs.Least.{none_passes}

-- the stream of a hart of the log
pub stream_there : (log : Log) (h : ℕ) → h < length log.streams → slice_get log.streams h ≡ Some (stream log h)
stream_there log h l = slice_get-get_or log.streams h [] l ∙ ap Some (sym (unwrap_or-slice_get log.streams h []))

module _ (test : Entry → Bool) where
  abbrev pub of_hart : ℕ × Entry → Bool
  of_hart x = test x.1

  row : ℕ → List Entry → List (ℕ × Entry)
  row k s = map (λ e. (k, e)) s

  found_in_row : (k : ℕ) (s : List Entry) (i : ℕ) (e : Entry) → slice_get s i ≡ Some e → list_any test (take i s) ≡ false → test e ≡ true
      → find of_hart (row k s) ≡ Some (k, e)
  unfolding row
  found_in_row k [] i e at none passes = absurd (none-some _ at)
  found_in_row k (x ∷ s) zero e at none passes =
      let same : x ≡ e = same_Some _ _ at in
      subst (λ z. cond (test z) (Some (k, z)) (find of_hart (row k s)) ≡ Some (k, e)) (sym same)
      (ap (λ b. cond b (Some (k, e)) (find of_hart (row k s))) passes)
  found_in_row k (x ∷ s) (suc i) e at none passes =
      let both = or_parts (test x) (list_any test (take i s)) none in
      ap (λ b. cond b (Some (k, x)) (find of_hart (row k s))) both.0 ∙ found_in_row k s i e at both.1 passes

  none_in_row : (k : ℕ) (s more : List Entry) → list_any test (s ++ more) ≡ false → (find of_hart (row k s) ≡ None) × (list_any test more ≡ false)
  unfolding row
  none_in_row k [] more none = (refl, none)
  none_in_row k (x ∷ s) more none =
      let both = or_parts (test x) (list_any test (s ++ more)) none in
      let later = none_in_row k s more both.1 in
      (ap (λ b. cond b (Some (k, x)) (find of_hart (row k s))) both.0 ∙ later.0, later.1)

  abbrev pub rows_from : ℕ → List (List Entry) → List (ℕ × Entry)
  rows_from n streams = flat_map (λ s. map (λ e. (s.0, e)) s.1) (enumerate_from n streams)

  rows-cons : (n : ℕ) (s : List Entry) (streams : List (List Entry))
      → find of_hart (rows_from n (s ∷ streams)) ≡ option_or (find of_hart (row n s)) (find of_hart (rows_from (n + 1) streams))
  unfolding row
  rows-cons n s streams = find-append of_hart (row n s) (rows_from (n + 1) streams)

  -- the first entry of all that passes a test, none of those before it doing so
  pub found_from : (n : ℕ) (streams : List (List Entry)) (h i : ℕ) (s : List Entry) (e : Entry) → slice_get streams h ≡ Some s → slice_get s i ≡ Some e
      → list_any test (flat_map (λ z. z) (take h streams) ++ take i s) ≡ false → test e ≡ true → find of_hart (rows_from n streams) ≡ Some (n + h, e)
  found_from n [] h i s e there at none passes = absurd (none-some _ there)
  found_from n (x ∷ streams) zero i s e there at none passes =
      let same : x ≡ s = same_Some _ _ there in
      let here : find of_hart (row n x) ≡ Some (n, e) =
      found_in_row n x i e (subst (λ z. slice_get z i ≡ Some e) (sym same) at) (subst (λ z. list_any test (take i z) ≡ false) (sym same) none) passes in
      rows-cons n x streams ∙ ap (λ o. option_or o (find of_hart (rows_from (n + 1) streams))) here ∙ ap (λ k. Some (k, e)) (sym (add-zero n))
  found_from n (x ∷ streams) (suc h) i s e there at none passes =
      let regrouped : list_any test (x ++ (flat_map (λ z. z) (take h streams) ++ take i s)) ≡ false =
      ap (list_any test) (sym (append_assoc x (flat_map (λ z. z) (take h streams)) (take i s))) ∙ none in
      let both = none_in_row n x (flat_map (λ z. z) (take h streams) ++ take i s) regrouped in
      let later = found_from (n + 1) streams h i s e there at both.1 passes in
      let k : (n + 1) + h ≡ n + suc h = omega arith in
      rows-cons n x streams ∙ ap (λ o. option_or o (find of_hart (rows_from (n + 1) streams))) both.0 ∙ later ∙ ap (λ z. Some (z, e)) k

pub in_stream : (log : Log) (h i : ℕ) (e : Entry) → entry_at log h i ≡ Some e → slice_get log.streams h ≡ Some (stream log h)
in_stream log h i e at = by (slice_get log.streams h) refl
  where
    by : (o : Option (List Entry)) → slice_get log.streams h ≡ o → slice_get log.streams h ≡ Some (stream log h)
    by None is = let nothing : entry_at log h i ≡ None = ap (λ o. slice_get (unwrap_or o []) i) is in absurd (none-some _ (sym nothing ∙ at))
    by (Some s) is = is ∙ ap Some (sym (ap (λ o. unwrap_or o []) is))

pub below_length : (s : List Entry) (i : ℕ) (e : Entry) → slice_get s i ≡ Some e → i < length s + 1
below_length [] i e at = absurd (none-some _ at)
below_length (x ∷ s) zero e at = omega arith
below_length (x ∷ s) (suc i) e at = let l = below_length s i e at in omega (arith, l)

-- an entry of a log doesn't break a rule of entries that the log keeps
pub kept_at : (log : Log) (test : Placed → Bool) (h i : ℕ) (e : Entry) → find (at_entry test log) (spots log) ≡ None → entry_at log h i ≡ Some e
    → test (record { hart = h; place = i; entry = e }) ≡ false
kept_at log test h i e kept at =
    sym (ap (λ o. is_some_and o (λ z. test (record { hart = h; place = i; entry = z }))) at)
    ∙ none_passes log (at_entry test log) (h, i) kept (stream log h, in_stream log h i e at, below_length (stream log h) i e at)

-- the number on its page isn't one that stands earlier
not_earlier : (log : Log) (h i page k : ℕ) (e : Entry) → Keeps log o5 → entry_at log h i ≡ Some e → page_number e ≡ Some (page, k)
    → (number_on page e ≡ Some k) × (list_any (λ z. is_number k (number_on page z)) (earlier log (record { hart = h; place = i; entry = e })) ≡ false)
not_earlier log h i page k e kept at is =
    let x : Placed = record { hart = h; place = i; entry = e } in
    let here : breaks_o5 log x ≡ false = kept_at log (breaks_o5 log) h i e kept at in
    let numbered_right : is_misnumbered (number_on page) log x ≡ false = sym (ap (λ o. is_some_and o (λ p. is_misnumbered (number_on p.0) log x)) is) ∙ here in
    let number : number_on page e ≡ Some k =
    ap (option_and_then (λ z. if z.0 == page then Some z.1 else None)) is ∙ ap (λ b. if b then Some k else None) (eq-eqb page page refl) in
    let open_up : (nat_le (count_by (λ z. is_some (number_on page z)) (entries log)) k || list_any (λ z. is_number k (number_on page z)) (earlier log x))
    ≡ false =
    sym (ap (λ o. is_some_and o
    (λ n. nat_le (count_by (λ z. is_some (number_on page z)) (entries log)) n || list_any (λ z. is_number n (number_on page z)) (earlier log x))) number)
    ∙ numbered_right in
    (number, (or_parts _ _ open_up).1)

pub numbers_name : NumbersName
numbers_name log h i page k e kept at is =
    let found = not_earlier log h i page k e kept at is in
    found_from (λ z. is_number k (number_on page z)) 0 log.streams h i (stream log h) e (in_stream log h i e at) at found.1
    (ap (is_number k) found.0 ∙ eq-eqb k k refl)
    ∙ ap (λ g. Some (g, e)) (zero-add h)
