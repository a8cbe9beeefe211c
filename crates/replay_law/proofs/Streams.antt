-- In an orderly log each stream goes on to its End, at counts that don't fall and that rise behind a Touch.
use Rattle.std.proofs.Common.{◌≡◌, ℕ, ◌+◌, ◌-◌, ◌<◌, ◌≤◌, ◌==◌, ◌&&◌, not, nat_lt, nat_le, true, false, List, [], ◌∷◌, length, Some, None}
use Rattle.std.proofs.Common.{slice_get, true≢false, refl, sym, ap, ◌∙◌, inl, inr, arith, if◌then◌else◌}
use Rattle.std.proofs.lemmas.Bool.{cases_lt, not-false, or_parts, ltb-false, leb-false, eq-eqb, ne_eqb}
use Rattle.std.proofs.lemmas.Option.{slice_get-get_or}
use Rattle.log_entry.specs.declared.log.Entry.{Entry}
use Rattle.log_entry.specs.declared.log.Log.{Log}
use Rattle.log_entry.specs.Parts.{count_of, is_end, is_touch, is_some_and}
use Rattle.order_rules.specs.Places.{Placed, stream, entry_at, previous}
use Rattle.order_rules.specs.Rules.{breaks_o1, breaks_o4, last_of}
use Rattle.order_rules.specs.Orderly.{Keeps, o1, o4}
use Rattle.order_rules.proofs.Least.{none_passes}
use Rattle.order_rules.proofs.Numbers.{in_stream, below_length, stream_there}
use Rattle.std.proofs.lemmas.Option.{slice_get_within}

module _ (log : Log) (rises : Keeps log o1) where
  -- the last entry of a stream is an End
  ends : (h : ℕ) → h < length log.streams → is_some_and (last_of (stream log h)) is_end ≡ true
  ends h l =
      let s = stream log h in
      let right = none_passes log (o1 log) (h, length (stream log h)) rises (stream log h, stream_there log h l, omega arith) in
      let here : ((length (stream log h) == length (stream log h)) && not (is_some_and (last_of (stream log h)) is_end)) ≡ false =
      (or_parts _ _ right).1 in
      not-false (is_some_and (last_of (stream log h)) is_end) (sym
      (ap (λ b. b && not (is_some_and (last_of (stream log h)) is_end)) (eq-eqb (length (stream log h)) (length (stream log h)) refl)) ∙ here)

  pub first_there : (h : ℕ) → h < length log.streams → (e : Entry) × (entry_at log h 0 ≡ Some e)
  first_there h l = by (stream log h) (ends h l) where
    by : (s : List Entry) → is_some_and (last_of s) is_end ≡ true → (e : Entry) × (slice_get s 0 ≡ Some e)
    by [] end = absurd (true≢false (sym end))
    by (e ∷ s) end = (e, refl)

  -- behind an entry that is no End stands another
  pub next_there : (h i : ℕ) (e : Entry) → entry_at log h i ≡ Some e → is_end e ≡ false → (f : Entry) × (entry_at log h (i + 1) ≡ Some f)
  next_there h i e at goes_on = elim (cases_lt (i + 1) (length (stream log h))) [
    | inl l ↦ (_, slice_get-get_or (stream log h) (i + 1) e l)
    | inr m ↦
        let inside = slice_get_within (stream log h) i e at in
        let hart = slice_get_within log.streams h (stream log h) (in_stream log h i e at) in
        let place : length (stream log h) - 1 ≡ i = omega (arith, m, inside) in
        let last : last_of (stream log h) ≡ Some e = ap (slice_get (stream log h)) place ∙ at in
        let end : is_end e ≡ true = sym (ap (λ o. is_some_and o is_end) last) ∙ ends h hart in
        absurd (true≢false (sym end ∙ goes_on))
  ]

  before_is : (h i : ℕ) (e f : Entry) → entry_at log h i ≡ Some e → previous log (record { hart = h; place = i + 1; entry = f }) ≡ Some e
  before_is h i e f at =
      let not_first : (i + 1 == 0) ≡ false = ne_eqb (i + 1) 0 (λ z. omega (arith, z)) in
      let place : i + 1 - 1 ≡ i = omega arith in
      ap (λ b. if b then None else entry_at log h (i + 1 - 1)) not_first ∙ ap (entry_at log h) place ∙ at

  -- its count is no less
  pub next_rises : (h i : ℕ) (e f : Entry) → entry_at log h i ≡ Some e → entry_at log h (i + 1) ≡ Some f → count_of e ≤ count_of f
  next_rises h i e f at then_at =
      let x : Placed = record { hart = h; place = i + 1; entry = f } in
      let right = none_passes log (o1 log) (h, i + 1) rises (stream log h, in_stream log h i e at, below_length (stream log h) (i + 1) f then_at) in
      let here : breaks_o1 log x ≡ false = sym (ap (λ o. is_some_and o (λ z. breaks_o1 log (record { hart = h; place = i + 1; entry = z }))) then_at)
      ∙ (or_parts _ _ right).0 in
      let falls : nat_lt (count_of f) (count_of e) ≡ false = sym (ap (λ o. is_some_and o (λ p. nat_lt (count_of f) (count_of p))) (before_is h i e f at))
      ∙ (or_parts _ _ here).0 in
      ltb-false (count_of f) (count_of e) falls

  -- and more behind a Touch
  pub touch_rises : Keeps log o4 → (h i : ℕ) (e f : Entry) → entry_at log h i ≡ Some e → is_touch e ≡ true → entry_at log h (i + 1) ≡ Some f
      → count_of e < count_of f
  touch_rises goes_on h i e f at touch then_at =
      let x : Placed = record { hart = h; place = i + 1; entry = f } in
      let right = none_passes log (o4 log) (h, i + 1) goes_on (stream log h, in_stream log h i e at, below_length (stream log h) (i + 1) f then_at) in
      let here : breaks_o4 log x ≡ false = sym (ap (λ o. is_some_and o (λ z. breaks_o4 log (record { hart = h; place = i + 1; entry = z }))) then_at)
      ∙ right in
      let stays : (is_touch e && nat_le (count_of f) (count_of e)) ≡ false =
      sym (ap (λ o. is_some_and o (λ p. is_touch p && nat_le (count_of f) (count_of p))) (before_is h i e f at)) ∙ here in
      leb-false (count_of f) (count_of e) (sym (ap (λ b. b && nat_le (count_of f) (count_of e)) touch) ∙ stays)
