-- Takings of entries by two harts don't disturb each other, in a log whose numbers and ordinals are right.
use Rattle.std.proofs.Common.{◌≡◌, ◌≢◌, ℕ, ◌+◌, ◌≤◌, ◌==◌, Bool, true, false, List, [], length, Option, Some, None, find, slice_get, slice_index, slice_set}
use Rattle.std.proofs.Common.{is_some, count_by, nat_le, ◌||◌, unwrap_or, refl, sym, ap, ◌∙◌, subst, if◌then◌else◌, true≢false, zero-add}
use Rattle.std.specs.List.{list_any}
use Rattle.std.specs.Option.{option_and_then}
use Rattle.std.proofs.lemmas.Option.{none-some, same_Some, slice_get_past}
use Rattle.std.proofs.lemmas.Bool.{eqb-true, eq-eqb, or_parts}
use Rattle.std.proofs.lemmas.List.{get_or-set_other}
use Rattle.shared_types.proofs.Lists.{set_there, sets_swap}
use Rattle.orders_law.specs.Orders.{Lasts, Commutes, IsFull}
use Rattle.orders_law.proofs.Existence.{least_is_there}
use Rattle.log_entry.specs.declared.log.Entry.{Entry}
use Rattle.log_entry.specs.declared.log.Entry.TheVariants.{Gain, Yield, Poll, Touch, End}
use Rattle.log_entry.specs.declared.log.Log.{Log}
use Rattle.log_entry.specs.Parts.{page_number, ordinal_of, is_some_and}
use Rattle.order_rules.specs.Places.{Placed, stream, entry_at, entries, earlier, by_hart, is_number}
use Rattle.order_rules.specs.Cursor.{Cursor, start, first_left, guard_is_met, counted, taken, take_one, least_left}
use Rattle.order_rules.specs.Rules.{is_misnumbered, breaks_o8}
use Rattle.order_rules.specs.Orderly.{Keeps, o5, o8, LeastOrderLeaves}
use Rattle.order_rules.specs.Laws.{LeastTakesAll}
use Rattle.order_rules.proofs.Numbers.{numbers_name, found_from, in_stream, kept_at}

-- an entry with an ordinal is the one that the ordinal names
pub ordinals_name : (log : Log) (h i k : ℕ) (e : Entry) → Keeps log o8 → entry_at log h i ≡ Some e → ordinal_of e ≡ Some k
    → find (λ x. is_number k (ordinal_of x.1)) (by_hart log) ≡ Some (h, e)
ordinals_name log h i k e kept at is =
    let x : Placed = record { hart = h; place = i; entry = e } in
    let here : breaks_o8 log x ≡ false = kept_at log (breaks_o8 log) h i e kept at in
    let number : is_misnumbered ordinal_of log x ≡ false = (or_parts (is_misnumbered ordinal_of log x) _ here).0 in
    let open_up : (nat_le (count_by (λ z. is_some (ordinal_of z)) (entries log)) k || list_any (λ z. is_number k (ordinal_of z)) (earlier log x)) ≡ false =
    sym (ap (λ o. is_some_and o
    (λ n. nat_le (count_by (λ z. is_some (ordinal_of z)) (entries log)) n || list_any (λ z. is_number n (ordinal_of z)) (earlier log x))) is) ∙ number in
    found_from (λ z. is_number k (ordinal_of z)) 0 log.streams h i (stream log h) e (in_stream log h i e at) at (or_parts _ _ open_up).1
    (ap (is_number k) is ∙ eq-eqb k k refl)
    ∙ ap (λ g. Some (g, e)) (zero-add h)

same_first : (g h : ℕ) (x y : Entry) (o : Option (ℕ × Entry)) → o ≡ Some (g, x) → o ≡ Some (h, y) → g ≡ h
same_first g h x y o a b = let p : ℕ × Entry = (g, x) in let q : ℕ × Entry = (h, y) in ap (λ (z : ℕ × Entry). z.0) (same_Some p q (sym a ∙ b))

-- the numbers and the ordinal once an entry is taken, and its guard, by its page and number and by its ordinal
abbrev pub numbers_by : Option (ℕ × ℕ) → List ℕ → List ℕ
numbers_by None ns = ns
numbers_by (Some p) ns = slice_set ns p.0 (p.1 + 1)

abbrev pub ordinal_by : Option ℕ → ℕ → ℕ
ordinal_by None o = o
ordinal_by (Some k) o = k + 1

abbrev pub met_by : Option (ℕ × ℕ) → Option ℕ → List ℕ → ℕ → Bool
met_by (Some p) k ns o = is_number p.1 (slice_get ns p.0)
met_by None (Some k) ns o = k == o
met_by None None ns o = true

counted_is : (c : Cursor) (e : Entry)
    → counted c e ≡ record { places = c.places; numbers = numbers_by (page_number e) c.numbers; ordinal = ordinal_by (ordinal_of e) c.ordinal }
counted_is c (Gain count page seq mode waits) = refl
counted_is c (Yield count page seq left) = refl
counted_is c (Poll count ord time bits) = refl
counted_is c (Touch count ord input) = refl
counted_is c (End count) = refl

pub guard_is : (c : Cursor) (e : Entry) → guard_is_met c e ≡ met_by (page_number e) (ordinal_of e) c.numbers c.ordinal
guard_is c (Gain count page seq mode waits) = refl
guard_is c (Yield count page seq left) = refl
guard_is c (Poll count ord time bits) = refl
guard_is c (Touch count ord input) = refl
guard_is c (End count) = refl

-- the cursor once a hart took an entry of this page and number, or with this ordinal
abbrev pub after : Cursor → ℕ → Option (ℕ × ℕ) → Option ℕ → Cursor
after c h p k = record { places = slice_set c.places h (slice_index c.places h + 1); numbers = numbers_by p c.numbers; ordinal = ordinal_by k c.ordinal }

pub taken_is : (c : Cursor) (h : ℕ) (e : Entry) → taken c h e ≡ after c h (page_number e) (ordinal_of e)
taken_is c h e = ap (λ (d : Cursor). record d { places = slice_set c.places h (slice_index c.places h + 1) }) (counted_is c e)

-- a number that is met is that one
pub number_met : (k : ℕ) (o : Option ℕ) → is_number k o ≡ true → o ≡ Some k
number_met k None e = absurd (true≢false (sym e))
number_met k (Some m) e = ap Some (eqb-true m k e)

-- two entries that don't have one page and number, nor one ordinal
pub record AreApart (p q : Option (ℕ × ℕ)) (k l : Option ℕ) : Type 0 where
  pub pages : (page n : ℕ) → p ≡ Some (page, n) → q ≡ Some (page, n) → ⊥
  pub ordinals : (n : ℕ) → k ≡ Some n → l ≡ Some n → ⊥

-- of entries that both have their guards met, the pages differ
pages_differ : (ns : List ℕ) (p q : ℕ × ℕ) → is_number p.1 (slice_get ns p.0) ≡ true → is_number q.1 (slice_get ns q.0) ≡ true
    → ((page n : ℕ) → p ≡ (page, n) → q ≡ (page, n) → ⊥) → q.0 ≢ p.0
pages_differ ns p q a b apart same =
    let n = same_Some _ _ (sym (number_met p.1 (slice_get ns p.0) a) ∙ ap (slice_get ns) (sym same) ∙ number_met q.1 (slice_get ns q.0) b) in
    apart p.0 p.1 refl (λ i. (same i, sym n i))

stays_met : (ns : List ℕ) (o : ℕ) (p q : Option (ℕ × ℕ)) (k l : Option ℕ) → AreApart p q k l → met_by p k ns o ≡ true → met_by q l ns o ≡ true
    → (p ≡ None → k ≡ None → Unit {0}) → ((pp : ℕ × ℕ) → p ≡ Some pp → k ≡ None)
    → met_by q l (numbers_by p ns) (ordinal_by k o) ≡ true
stays_met ns o None None None None apart a b u one = refl
stays_met ns o None None None (Some l) apart a b u one = b
stays_met ns o None None (Some k) None apart a b u one = refl
stays_met ns o None None (Some k) (Some l) apart a b u one = absurd (apart.ordinals k refl (ap Some (eqb-true l o b ∙ sym (eqb-true k o a))))
stays_met ns o None (Some q) k l apart a b u one = b
stays_met ns o (Some p) None k None apart a b u one = refl
stays_met ns o (Some p) None k (Some l) apart a b u one = subst (λ z. (l == ordinal_by z o) ≡ true) (sym (one p refl)) b
stays_met ns o (Some p) (Some q) k l apart a b u one =
    ap (is_number q.1) (set_there ns p.0 q.0 (p.1 + 1) (pages_differ ns p q a b (λ page n e f. apart.pages page n (ap Some e) (ap Some f)))) ∙ b

numbers_swap : (ns : List ℕ) (p q : Option (ℕ × ℕ)) (k l : Option ℕ) (o : ℕ) → AreApart p q k l → met_by p k ns o ≡ true → met_by q l ns o ≡ true
    → numbers_by q (numbers_by p ns) ≡ numbers_by p (numbers_by q ns)
numbers_swap ns None q k l o apart a b = refl
numbers_swap ns (Some p) None k l o apart a b = refl
numbers_swap ns (Some p) (Some q) k l o apart a b =
    sets_swap ns p.0 q.0 (p.1 + 1) (q.1 + 1) (λ e. pages_differ ns p q a b (λ page n x y. apart.pages page n (ap Some x) (ap Some y)) (sym e))

ordinals_swap : (ns : List ℕ) (p q : Option (ℕ × ℕ)) (k l : Option ℕ) (o : ℕ) → AreApart p q k l → ((pp : ℕ × ℕ) → p ≡ Some pp → k ≡ None)
    → ((qq : ℕ × ℕ) → q ≡ Some qq → l ≡ None) → met_by p k ns o ≡ true → met_by q l ns o ≡ true → ordinal_by l (ordinal_by k o) ≡ ordinal_by k (ordinal_by l o)
ordinals_swap ns p q None l o apart one two a b = refl
ordinals_swap ns p q (Some k) None o apart one two a b = refl
ordinals_swap ns (Some p) q (Some k) (Some l) o apart one two a b = absurd (none-some _ (sym (one p refl)))
ordinals_swap ns None (Some q) (Some k) (Some l) o apart one two a b = absurd (none-some _ (sym (two q refl)))
ordinals_swap ns None None (Some k) (Some l) o apart one two a b = absurd (apart.ordinals k refl (ap Some (eqb-true l o b ∙ sym (eqb-true k o a))))

-- no entry has both a page and an ordinal
pub one_kind : (e : Entry) (p : ℕ × ℕ) → page_number e ≡ Some p → ordinal_of e ≡ None
one_kind (Gain count page seq mode waits) p is = refl
one_kind (Yield count page seq left) p is = refl
one_kind (Poll count ord time bits) p is = absurd (none-some _ is)
one_kind (Touch count ord input) p is = absurd (none-some _ is)
one_kind (End count) p is = refl

-- what a hart took
pub record Took (log : Log) (h : ℕ) (c m : Cursor) (i : ℕ) : Type 0 where
  pub entry : Entry
  pub first : first_left log c h ≡ Some entry
  pub guard : guard_is_met c entry ≡ true
  pub cursor : taken c h entry ≡ m
  pub place : slice_index c.places h ≡ i

took_by : (log : Log) (h : ℕ) (c m : Cursor) (i : ℕ) (o : Option Entry) → first_left log c h ≡ o
    → option_and_then {U = Cursor × ℕ} (λ e. if guard_is_met c e then Some (taken c h e, slice_index c.places h) else None) o ≡ Some (m, i) → Took log h c m i
took_by log h c m i None is e = absurd (none-some _ e)
took_by log h c m i (Some x) is e = guarded (guard_is_met c x) refl e where
  here : Cursor × ℕ
  here = (taken c h x, slice_index c.places h)

  guarded : (b : Bool) → guard_is_met c x ≡ b → (if b then Some here else None) ≡ Some (m, i) → Took log h c m i
  guarded true g f =
      let s = same_Some here (m, i) f in
      record { entry = x; first = is; guard = g; cursor = ap (λ (z : Cursor × ℕ). z.0) s; place = ap (λ (z : Cursor × ℕ). z.1) s }
  guarded false g f = absurd (none-some _ f)

pub took : (log : Log) (h : ℕ) (c m : Cursor) (i : ℕ) → take_one log h c ≡ Some (m, i) → Took log h c m i
took log h c m i e = took_by log h c m i (first_left log c h) refl e

pub takes : (log : Log) (h : ℕ) (c : Cursor) (e : Entry) → first_left log c h ≡ Some e → guard_is_met c e ≡ true
    → take_one log h c ≡ Some (taken c h e, slice_index c.places h)
takes log h c e first guard =
    ap (option_and_then (λ x. if guard_is_met c x then Some (taken c h x, slice_index c.places h) else None)) first
    ∙ ap (λ b. if b then Some (taken c h e, slice_index c.places h) else None) guard

module _ (log : Log) (pages_right : Keeps log o5) (ordinals_right : Keeps log o8) where
  abbrev pub Any : Cursor → Type 0
  Any c = Unit {0}

  apart : (c : Cursor) (g h : ℕ) (x y : Entry) → g ≢ h → first_left log c g ≡ Some x → first_left log c h ≡ Some y
      → AreApart (page_number x) (page_number y) (ordinal_of x) (ordinal_of y)
  apart c g h x y n a b = record {
    pages = λ page k p q. n
        (same_first g h x y _ (numbers_name log g (slice_index c.places g) page k x pages_right a p)
        (numbers_name log h (slice_index c.places h) page k y pages_right b q));
    ordinals = λ k p q. n
        (same_first g h x y _ (ordinals_name log g (slice_index c.places g) k x ordinals_right a p)
        (ordinals_name log h (slice_index c.places h) k y ordinals_right b q));
  }

  -- a hart's entry can still be taken when another hart took one
  still : (c : Cursor) (g h : ℕ) (x y : Entry) → g ≢ h → first_left log c g ≡ Some x → guard_is_met c x ≡ true → first_left log c h ≡ Some y
      → guard_is_met c y ≡ true
      → take_one log h (taken c g x) ≡ Some (taken (taken c g x) h y, slice_index c.places h)
  still c g h x y n first_x guard_x first_y guard_y =
      let there : slice_index (taken c g x).places h ≡ slice_index c.places h = get_or-set_other c.places g h (slice_index c.places g + 1) 0 (λ e. n (sym e)) in
      let first : first_left log (taken c g x) h ≡ Some y = ap (entry_at log h) there ∙ first_y in
      let met : guard_is_met (taken c g x) y ≡ true =
      guard_is (taken c g x) y ∙ ap (λ (d : Cursor). met_by (page_number y) (ordinal_of y) d.numbers d.ordinal) (taken_is c g x)
      ∙ stays_met c.numbers c.ordinal (page_number x) (page_number y) (ordinal_of x) (ordinal_of y) (apart c g h x y n first_x first_y)
      (sym (guard_is c x) ∙ guard_x) (sym (guard_is c y) ∙ guard_y) (λ _ _. tt) (one_kind x) in
      takes log h (taken c g x) y first met ∙ ap (λ i. Some (taken (taken c g x) h y, i)) there

  both_ways : (c : Cursor) (g h : ℕ) (x y : Entry) → g ≢ h → first_left log c g ≡ Some x → guard_is_met c x ≡ true → first_left log c h ≡ Some y
      → guard_is_met c y ≡ true
      → taken (taken c g x) h y ≡ taken (taken c h y) g x
  both_ways c g h x y n first_x guard_x first_y guard_y =
      let a = sym (guard_is c x) ∙ guard_x in
      let b = sym (guard_is c y) ∙ guard_y in
      let far = apart c g h x y n first_x first_y in
      let places : slice_set (slice_set c.places g (slice_index c.places g + 1)) h (slice_index (slice_set c.places g (slice_index c.places g + 1)) h + 1)
      ≡ slice_set (slice_set c.places h (slice_index c.places h + 1)) g (slice_index (slice_set c.places h (slice_index c.places h + 1)) g + 1) =
      ap (λ k. slice_set (slice_set c.places g (slice_index c.places g + 1)) h (k + 1))
      (get_or-set_other c.places g h (slice_index c.places g + 1) 0 (λ e. n (sym e)))
      ∙ sets_swap c.places g h (slice_index c.places g + 1) (slice_index c.places h + 1) n
      ∙ ap (λ k. slice_set (slice_set c.places h (slice_index c.places h + 1)) g (k + 1))
      (sym (get_or-set_other c.places h g (slice_index c.places h + 1) 0 n)) in
      let numbers = numbers_swap c.numbers (page_number x) (page_number y) (ordinal_of x) (ordinal_of y) c.ordinal far a b in
      let ordinal = ordinals_swap c.numbers (page_number x) (page_number y) (ordinal_of x) (ordinal_of y) c.ordinal far (one_kind x) (one_kind y) a b in
      ap (λ (d : Cursor). taken d h y) (taken_is c g x) ∙ taken_is (after c g (page_number x) (ordinal_of x)) h y
      ∙ (λ i. record { places = places i; numbers = numbers i; ordinal = ordinal i })
      ∙ sym (ap (λ (d : Cursor). taken d g x) (taken_is c h y) ∙ taken_is (after c h (page_number y) (ordinal_of y)) g x)

  pub takings_commute : Commutes (take_one log) Any
  takings_commute c a b i j g h ok n did_g did_h =
      let x = took log g c a i did_g in
      let y = took log h c b j did_h in
      let one : take_one log h a ≡ Some (taken (taken c g x.entry) h y.entry, j) =
      subst (λ m. take_one log h m ≡ Some (taken (taken c g x.entry) h y.entry, j)) x.cursor
      (still c g h x.entry y.entry n x.first x.guard y.first y.guard ∙ ap (λ k. Some (taken (taken c g x.entry) h y.entry, k)) y.place) in
      let two : take_one log g b ≡ Some (taken (taken c h y.entry) g x.entry, i) =
      subst (λ m. take_one log g m ≡ Some (taken (taken c h y.entry) g x.entry, i)) y.cursor
      (still c h g y.entry x.entry (λ e. n (sym e)) y.first y.guard x.first x.guard ∙ ap (λ k. Some (taken (taken c h y.entry) g x.entry, k)) x.place) in
      (taken (taken c g x.entry) h y.entry, one, two ∙ ap (λ m. Some (m, i)) (sym (both_ways c g h x.entry y.entry n x.first x.guard y.first y.guard)))

  pub takings_last : Lasts (take_one log) Any
  takings_last s a e g ok is = tt

  pub no_more_harts : (h : ℕ) (c : Cursor) → length log.streams ≤ h → take_one log h c ≡ None
  no_more_harts h c l = ap (option_and_then _) (ap (λ o. slice_get (unwrap_or o []) (slice_index c.places h)) (slice_get_past log.streams h l))

  -- where some order takes all entries, the least order does
  pub least_takes_all : (xs : List (ℕ × ℕ)) (c : Cursor) → IsFull (take_one log) (start log) xs c → least_left log c ≡ None → LeastOrderLeaves log None
  least_takes_all xs c full none =
      let l = least_is_there (take_one log) Any takings_last takings_commute (length log.streams) (start log) c xs tt no_more_harts full in
      (l.0, (c, l.1, none))

pub least_takes_the_whole : LeastTakesAll
least_takes_the_whole log xs c pages_right ordinals_right full none = least_takes_all log pages_right ordinals_right xs c full none
