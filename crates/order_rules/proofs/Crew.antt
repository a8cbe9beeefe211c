-- In a log that keeps O6 the holders are CREW before each number of a page.
use Rattle.std.proofs.Common.{◌≡◌, ◌≢◌, ℕ, zero, suc, ◌+◌, ◌<◌, ◌≤◌, Bool, true, false, not, ◌||◌, ◌&&◌, cond, List, [], ◌∷◌, map, length, Option, Some}
use Rattle.std.proofs.Common.{None, find, slice_get, unwrap_or, nat_le, refl, sym, ap, ◌∙◌, subst, inl, inr, ◌⊎◌, arith, add-zero, zero-add, eq-or-lt_of_le}
use Rattle.std.proofs.Common.{le_of_suc-le-suc, subst₂, true≢false, ◌==◌, if◌then◌else◌}
use Rattle.std.specs.List.{list_any}
use Rattle.std.specs.Option.{option_or}
use Rattle.std.proofs.lemmas.Option.{none-some, same_Some, slice_get_within}
use Rattle.std.proofs.lemmas.List.Folds.{find-append, list_any-append}
use Rattle.std.proofs.lemmas.Bool.Decides.{eqb_tells}
use Rattle.std.proofs.lemmas.Bool.{eqb-true, or_parts}
use Rattle.rv_words.specs.declared.shared.Mode.{Mode}
use Rattle.rv_words.specs.declared.shared.Mode.TheVariants.{Read, Write}
use Rattle.log_entry.specs.declared.log.Entry.{Entry}
use Rattle.log_entry.specs.declared.log.Entry.TheVariants.{Gain, Yield, Poll, Touch, End}
use Rattle.log_entry.specs.declared.log.Log.{Log}
use Rattle.log_entry.specs.Parts.{holds_then, strength, conflict}
use Rattle.orders_law.specs.Orders.{below}
use Rattle.order_rules.specs.Places.{harts, entry_at, is_number, number_on, numbered}
use Rattle.order_rules.specs.Rules.{held, held_after, breaks_o6}
use Rattle.order_rules.specs.Orderly.{Keeps, o6}
use Rattle.order_rules.specs.Laws.{CrewBefore}
use Rattle.order_rules.proofs.Numbers.{kept_at, rows_from, of_hart}

-- where an entry was found in the streams from a hart on
pub record Found (test : Entry → Bool) (n : ℕ) (streams : List (List Entry)) (x : ℕ × Entry) : Type 0 where
  pub hart : ℕ
  pub place : ℕ
  pub same : n + hart ≡ x.0
  pub stream : List Entry
  pub there : slice_get streams hart ≡ Some stream
  pub at : slice_get stream place ≡ Some x.1
  pub passes : test x.1 ≡ true

pub record FoundInRow (test : Entry → Bool) (k : ℕ) (s : List Entry) (x : ℕ × Entry) : Type 0 where
  pub place : ℕ
  pub same : k ≡ x.0
  pub at : slice_get s place ≡ Some x.1
  pub passes : test x.1 ≡ true

module _ (test : Entry → Bool) where
  in_row : (k : ℕ) (s : List Entry) (x : ℕ × Entry) → find (of_hart test) (map (λ e. (k, e)) s) ≡ Some x → FoundInRow test k s x
  in_row k [] x e = absurd (none-some _ e)
  in_row k (y ∷ s) x e = by (test y) refl e (λ d. in_row k s x d)
    where
      later : FoundInRow test k s x → FoundInRow test k (y ∷ s) x
      later r = record { place = suc r.place; same = r.same; at = r.at; passes = r.passes }

      by : (b : Bool) → test y ≡ b → cond b (Some (k, y)) (find (of_hart test) (map (λ e. (k, e)) s)) ≡ Some x
          → (find (of_hart test) (map (λ e. (k, e)) s) ≡ Some x → FoundInRow test k s x) → FoundInRow test k (y ∷ s) x
      by true t e' rest =
          let same : (k, y) ≡ x = same_Some _ _ e' in
          record {
            place = 0;
            same = ap (λ (z : ℕ × Entry). z.0) same;
            at = ap (λ (z : ℕ × Entry). Some z.1) same;
            passes = subst (λ (z : ℕ × Entry). test z.1 ≡ true) same t;
          }
      by false t e' rest = later (rest e')

  in_rows : (n : ℕ) (streams : List (List Entry)) (x : ℕ × Entry) → find (of_hart test) (rows_from test n streams) ≡ Some x → Found test n streams x
  in_rows n [] x e = absurd (none-some _ e)
  in_rows n (s ∷ streams) x e =
      by (find (of_hart test) (map (λ e. (n, e)) s)) refl (sym (find-append (of_hart test) (map (λ e. (n, e)) s) (rows_from test (n + 1) streams)) ∙ e)
      (λ d. in_rows (n + 1) streams x d)
    where
      later : Found test (n + 1) streams x → Found test n (s ∷ streams) x
      later r = let same = r.same in
          record { hart = suc r.hart; place = r.place; same = omega (arith, same); stream = r.stream; there = r.there; at = r.at; passes = r.passes }

      by : (o : Option (ℕ × Entry)) → find (of_hart test) (map (λ e. (n, e)) s) ≡ o
          → option_or o (find (of_hart test) (rows_from test (n + 1) streams)) ≡ Some x
          → (find (of_hart test) (rows_from test (n + 1) streams) ≡ Some x → Found test (n + 1) streams x) → Found test n (s ∷ streams) x
      by None f e' rest = later (rest e')
      by (Some y) f e' rest = let r = in_row n s x (f ∙ e') in
          record { hart = 0; place = r.place; same = add-zero n ∙ r.same; stream = s; there = refl; at = r.at; passes = r.passes }

pub conflict_turned : (a b : Option Mode) → conflict a b ≡ conflict b a
conflict_turned None None = refl
conflict_turned None (Some Read) = refl
conflict_turned None (Some Write) = refl
conflict_turned (Some Read) None = refl
conflict_turned (Some Write) None = refl
conflict_turned (Some Read) (Some Read) = refl
conflict_turned (Some Read) (Some Write) = refl
conflict_turned (Some Write) (Some Read) = refl
conflict_turned (Some Write) (Some Write) = refl

-- what conflicts with less conflicts with more
weaker : (a b c : Option Mode) → nat_le (strength a) (strength b) ≡ false → conflict a c ≡ false → conflict b c ≡ false
weaker a None c l n = refl
weaker None (Some Read) c l n = absurd (true≢false l)
weaker (Some Read) (Some Read) c l n = absurd (true≢false l)
weaker (Some Write) (Some Read) None l n = refl
weaker (Some Write) (Some Read) (Some m) l n = absurd (true≢false n)
weaker None (Some Write) c l n = absurd (true≢false l)
weaker (Some Read) (Some Write) c l n = absurd (true≢false l)
weaker (Some Write) (Some Write) c l n = absurd (true≢false l)

-- where none of the numbers below one passes
pub any_below : (test : ℕ → Bool) (n : ℕ) → list_any test (below n) ≡ false → (i : ℕ) → i < n → test i ≡ false
any_below test zero e i l = absurd (omega arith)
any_below test (suc n) e i l =
    let both = or_parts (list_any test (below n)) (test n || false) (sym (list_any-append test (below n) (n ∷ [])) ∙ e) in
    elim (eq-or-lt_of_le (le_of_suc-le-suc l)) [
      | inl same ↦ subst (λ j. test j ≡ false) (sym same) ((or_parts (test n) false both.1).0)
      | inr less ↦ any_below test n both.0 i less
    ]

found_of : (log : Log) (page k x : ℕ) (e : Entry) → numbered log page k ≡ Some (x, e) → Found (λ z. is_number k (number_on page z)) 0 log.streams (x, e)
found_of log page k x e is = in_rows (λ z. is_number k (number_on page z)) 0 log.streams (x, e) is

-- its hart is a hart of the log
hart_there : (log : Log) (page k x : ℕ) (e : Entry) → numbered log page k ≡ Some (x, e) → x < length log.streams
hart_there log page k x e is =
    let f = found_of log page k x e is in
    let l = slice_get_within log.streams f.hart f.stream f.there in
    let same = f.same in omega (arith, l, same)

-- a hart that the log hasn't holds nothing
holds_nothing : (log : Log) (page h k : ℕ) → length log.streams ≤ h → held log page h k ≡ None
holds_nothing log page h zero l = refl
holds_nothing log page h (suc k) l = by (numbered log page k) refl (holds_nothing log page h k l)
  where
    by : (o : Option (ℕ × Entry)) → numbered log page k ≡ o → held log page h k ≡ None → held_after h (held log page h k) o ≡ None
    by None is rest = rest
    by (Some x) is rest = elim (eqb_tells x.0 h) [
      | inl (t, same) ↦ let m = hart_there log page k x.0 x.1 is in absurd (omega (arith, m, same, l))
      | inr (f, n) ↦ ap (λ b. if b then holds_then x.1 else held log page h k) f ∙ rest
    ]

-- the entry keeps O6
keeps_o6 : (log : Log) (page k x : ℕ) (e : Entry) → Keeps log o6 → numbered log page k ≡ Some (x, e)
    → (i : ℕ) × (breaks_o6 log (record { hart = x; place = i; entry = e }) ≡ false) × (is_number k (number_on page e) ≡ true)
keeps_o6 log page k x e kept is =
    let f = found_of log page k x e is in
    let same : f.hart ≡ x = sym (zero-add f.hart) ∙ f.same in
    let there : slice_get log.streams x ≡ Some f.stream = subst (λ h. slice_get log.streams h ≡ Some f.stream) same f.there in
    let at : entry_at log x f.place ≡ Some e = ap (λ o. slice_get (unwrap_or o []) f.place) there ∙ f.at in
    (f.place, kept_at log (breaks_o6 log) x f.place e kept at, f.passes)

-- a page and a number that are found are those of the entry
named : (page k p seq : ℕ) → is_number k (if p == page then Some seq else None) ≡ true → (p ≡ page) × (seq ≡ k)
named page k p seq passes = elim (eqb_tells p page) [
  | inl (t, same) ↦ (same, eqb-true seq k (sym (ap (λ b. is_number k (if b then Some seq else None)) t) ∙ passes))
  | inr (f, n) ↦ absurd (true≢false (sym passes ∙ ap (λ b. is_number k (if b then Some seq else None)) f))
]

-- after the entry of a number its hart holds nothing in conflict with another, if it did so before
apart : (log : Log) (page k x i : ℕ) (e : Entry) → breaks_o6 log (record { hart = x; place = i; entry = e }) ≡ false → is_number k (number_on page e) ≡ true
    → (h : ℕ) → x ≢ h → conflict (held log page x k) (held log page h k) ≡ false → conflict (holds_then e) (held log page h k) ≡ false
apart log page k x i (Gain count p seq mode waits) right passes h n rest =
    let name = named page k p seq passes in
    let others =
    (or_parts (nat_le (strength (Some mode)) (strength (held log p x seq)))
    (list_any (λ g. not (g == x) && conflict (Some mode) (held log p g seq)) (harts log)) right).1 in
    let here : list_any (λ g. not (g == x) && conflict (Some mode) (held log page g k)) (harts log) ≡ false =
    subst₂ (λ q j. list_any (λ g. not (g == x) && conflict (Some mode) (held log q g j)) (harts log) ≡ false) name.0 name.1 others in
    elim (lt_or_le h (length log.streams)) [
      | inl l ↦ from_test (h == x) (conflict (Some mode) (held log page h k)) (eqb_tells h x)
          (any_below (λ g. not (g == x) && conflict (Some mode) (held log page g k)) (length log.streams) here h l)
      | inr l ↦ ap (conflict (Some mode)) (holds_nothing log page h k l) ∙ with_nothing mode
    ]
  where
    with_nothing : (m : Mode) → conflict (Some m) None ≡ false
    with_nothing Read = refl
    with_nothing Write = refl

    lt_or_le : (a b : ℕ) → (a < b) ⊎ (b ≤ a)
    lt_or_le zero zero = inr (omega arith)
    lt_or_le zero (suc b) = inl (omega arith)
    lt_or_le (suc a) zero = inr (omega arith)
    lt_or_le (suc a) (suc b) = elim (lt_or_le a b) [ inl l ↦ inl (omega (arith, l)) | inr l ↦ inr (omega (arith, l)) ]

    from_test : (b c : Bool) → ((b ≡ true) × (h ≡ x)) ⊎ ((b ≡ false) × (h ≢ x)) → (not b && c) ≡ false → c ≡ false
    from_test b c (inl (t, same)) e = absurd (n (sym same))
    from_test b c (inr (f, d)) e = sym (ap (λ z. not z && c) f) ∙ e
apart log page k x i (Yield count p seq left) right passes h n rest =
    let name = named page k p seq passes in
    weaker (held log page x k) left (held log page h k) (subst₂ (λ q j. nat_le (strength (held log q x j)) (strength left) ≡ false) name.0 name.1 right) rest
apart log page k x i (Poll count ord time bits) right passes h n rest = absurd (true≢false (sym passes))
apart log page k x i (Touch count ord input) right passes h n rest = absurd (true≢false (sym passes))
apart log page k x i (End count) right passes h n rest = absurd (true≢false (sym passes))

-- what two harts hold after the entry of a number doesn't conflict, if nothing did so before
step_apart : (log : Log) (page k g h : ℕ) (x : ℕ × Entry) → Keeps log o6 → numbered log page k ≡ Some x → g ≢ h
    → ((a b : ℕ) → a ≢ b → conflict (held log page a k) (held log page b k) ≡ false)
    → conflict (held_after g (held log page g k) (Some x)) (held_after h (held log page h k) (Some x)) ≡ false
step_apart log page k g h x kept is n rest = two (eqb_tells x.0 g) (eqb_tells x.0 h)
  where
    okay : (i : ℕ) × (breaks_o6 log (record { hart = x.0; place = i; entry = x.1 }) ≡ false) × (is_number k (number_on page x.1) ≡ true)
    okay = keeps_o6 log page k x.0 x.1 kept is

    held_by : Bool → ℕ → Option Mode
    held_by b z = if b then holds_then x.1 else held log page z k

    two : (((x.0 == g) ≡ true) × (x.0 ≡ g)) ⊎ (((x.0 == g) ≡ false) × (x.0 ≢ g)) → (((x.0 == h) ≡ true) × (x.0 ≡ h)) ⊎ (((x.0 == h) ≡ false) × (x.0 ≢ h))
        → conflict (held_by (x.0 == g) g) (held_by (x.0 == h) h) ≡ false
    two (inl (t, a)) (inl (u, b)) = absurd (n (sym a ∙ b))
    two (inl (t, a)) (inr (u, b)) = ap (λ c. conflict (held_by c g) (held_by (x.0 == h) h)) t ∙ ap (λ c. conflict (holds_then x.1) (held_by c h)) u
        ∙ apart log page k x.0 okay.0 x.1 okay.1 okay.2 h b (rest x.0 h b)
    two (inr (t, a)) (inl (u, b)) = ap (λ c. conflict (held_by c g) (held_by (x.0 == h) h)) t ∙ ap (λ c. conflict (held log page g k) (held_by c h)) u
        ∙ conflict_turned (held log page g k) (holds_then x.1) ∙ apart log page k x.0 okay.0 x.1 okay.1 okay.2 g a (rest x.0 g a)
    two (inr (t, a)) (inr (u, b)) =
        ap (λ c. conflict (held_by c g) (held_by (x.0 == h) h)) t ∙ ap (λ c. conflict (held log page g k) (held_by c h)) u ∙ rest g h n

pub crew_before : CrewBefore
crew_before log page zero g h kept n = refl
crew_before log page (suc k) g h kept n = by (numbered log page k) refl (λ a b d. crew_before log page k a b kept d)
  where
    by : (o : Option (ℕ × Entry)) → numbered log page k ≡ o → ((a b : ℕ) → a ≢ b → conflict (held log page a k) (held log page b k) ≡ false)
        → conflict (held_after g (held log page g k) o) (held_after h (held log page h k) o) ≡ false
    by None is rest = rest g h n
    by (Some x) is rest = step_apart log page k g h x kept is n rest
