-- The Polls of a stream, as one number.
use Rattle.std.proofs.Common.{◌-◌, ◌≡◌, inl, inr, ℕ, suc, ◌+◌, ◌*◌, ◌/◌, ◌%◌, ◌<◌, ◌≤◌, ◌==◌, ◌&&◌, ◌||◌, not, nat_lt, Bool, true, false, List, [], ◌∷◌, ◌++◌}
use Rattle.std.proofs.Common.{Some, slice_get, refl, sym, ap, ◌∙◌, subst, arith, if◌then◌else◌, true≢false}
use Rattle.std.proofs.lemmas.Bool.{eq-eqb, ne_eqb, lt-ltb, le-ltb, ltb-true, ltb-false}
use Rattle.std.proofs.lemmas.Bool.Decides.{eqb_tells, leb_tells}
use Rattle.rv_words.specs.Limits.{poll_distance}
use Rattle.log_entry.specs.declared.log.Entry.{Entry}
use Rattle.log_entry.specs.declared.log.Entry.TheVariants.{Poll}
use Rattle.log_entry.specs.Parts.{is_poll, count_of}
use Rattle.order_rules.specs.Rules.{has_poll}
use Rattle.crew_recording.proofs.Single.{IsTidyStream}
use Rattle.turn_model.specs.Steps.{next_poll}
use Rattle.turn_laws.specs.Polls.{IsPolledTo}

or_last : (x : Bool) → (x || false) ≡ x
or_last true = refl
or_last false = refl

or_before : (x y z : Bool) → (x || (y || z)) ≡ ((x || y) || z)
or_before true y z = refl
or_before false y z = refl

polls_more : (entries : List Entry) (e : Entry) (n : ℕ) → has_poll (entries ++ e ∷ []) n ≡ (has_poll entries n || (is_poll e && (count_of e == n)))
polls_more [] e n = or_last (is_poll e && (count_of e == n))
polls_more (x ∷ entries) e n =
    ap (λ b. (is_poll x && (count_of x == n)) || b) (polls_more entries e n)
    ∙ or_before (is_poll x && (count_of x == n)) (has_poll entries n) (is_poll e && (count_of e == n))

pub polls_begin : IsPolledTo [] 0
polls_begin = record { multiple = refl; below = λ n m. sym (le-ltb n 0 (omega arith)) }

pub polls_stay : (entries : List Entry) (due : ℕ) (e : Entry) → is_poll e ≡ false → IsPolledTo entries due → IsPolledTo (entries ++ e ∷ []) due
polls_stay entries due e plain is = record {
  multiple = is.multiple;
  below = λ n m. polls_more entries e n ∙ ap (λ b. has_poll entries n || (b && (count_of e == n))) plain ∙ or_last (has_poll entries n) ∙ is.below n m;
}

pub polls_grow : (entries : List Entry) (due ord time bits : ℕ) → IsPolledTo entries due
    → IsPolledTo (entries ++ Poll due ord time bits ∷ []) (due + poll_distance)
polls_grow entries due ord time bits is = record {
  multiple = let m = is.multiple in omega (arith, m);
  below = λ n m. polls_more entries (Poll due ord time bits) n ∙ ap (λ b. b || (due == n)) (is.below n m) ∙ one n m;
} where
  one : (n : ℕ) → n % poll_distance ≡ 0 → (nat_lt n due || (due == n)) ≡ nat_lt n (due + poll_distance)
  one n m = elim (leb_tells (suc n) due) [
    | inl (t, l) ↦ ap (λ b. b || (due == n)) t ∙ sym (lt-ltb n (due + poll_distance) (omega (arith, l)))
    | inr (f, l) ↦ ap (λ b. b || (due == n)) f ∙ elim (eqb_tells due n) [
      | inl (t, same) ↦ t ∙ sym (lt-ltb n (due + poll_distance) (omega (arith, same)))
      | inr (g, other) ↦ g ∙ sym (le-ltb n (due + poll_distance) (let k = is.multiple in omega (arith, l, other, m, k)))
    ]
  ]

-- the least multiple, not below a count
abbrev ceil : ℕ → ℕ
ceil count = (count + (poll_distance - 1)) / poll_distance * poll_distance

pub polls_tell : (entries : List Entry) (count due : ℕ) → IsPolledTo entries due → count ≤ due → due ≤ count + poll_distance → (next_poll count entries ≡ due)
    × (((count % poll_distance == 0) && not (has_poll entries count)) ≡ (count == due))
polls_tell entries count due is low high = (
  ap (λ b. if b then ceil count + poll_distance else ceil count) (is.below (ceil count) (multiple (ceil count) refl))
      ∙ by (nat_lt (ceil count) due) (ceil count) refl refl,
  at,
) where
  multiple : (m : ℕ) → ceil count ≡ m → m % poll_distance ≡ 0
  multiple m e = omega (arith, e)

  by : (b : Bool) (m : ℕ) → nat_lt (ceil count) due ≡ b → ceil count ≡ m → (if b then m + poll_distance else m) ≡ due
  by true m e k = let l = ltb-true (ceil count) due e in let z = is.multiple in omega (arith, l, k, z, low, high)
  by false m e k = let l = ltb-false (ceil count) due e in let z = is.multiple in omega (arith, l, k, z, low, high)

  at : ((count % poll_distance == 0) && not (has_poll entries count)) ≡ (count == due)
  at = elim (eqb_tells (count % poll_distance) 0) [
    | inl (t, m) ↦ ap (λ b. b && not (has_poll entries count)) t ∙ ap not (is.below count m) ∙ elim (leb_tells (suc count) due) [
      | inl (u, l) ↦ ap not u ∙ sym (ne_eqb count due (λ e. absurd (omega (arith, l, e))))
      | inr (u, l) ↦ ap not u ∙ sym (eq-eqb count due (omega (arith, l, low)))
    ]
    | inr (f, n) ↦ ap (λ b. b && not (has_poll entries count)) f ∙ sym (ne_eqb count due (λ e. absurd (let z = is.multiple in omega (arith, n, e, z))))
  ]

-- no Poll stands above all counts
none_above : (entries : List Entry) (count n : ℕ) → ((i : ℕ) (e : Entry) → slice_get entries i ≡ Some e → count_of e ≤ count) → count < n
    → has_poll entries n ≡ false
none_above [] count n below l = refl
none_above (e ∷ entries) count n below l =
    ap (λ b. (is_poll e && b) || has_poll entries n) (ne_eqb (count_of e) n (λ z. absurd (let k = below 0 e refl in omega (arith, z, k, l))))
    ∙ ap (λ b. b || has_poll entries n) (no_and (is_poll e)) ∙ none_above entries count n (λ i x at. below (suc i) x at) l
  where
    no_and : (x : Bool) → (x && false) ≡ false
    no_and true = refl
    no_and false = refl

-- the Polls of a tidy stream
pub tidy_polls : (limit : ℕ) (entries : List Entry) (count : ℕ) → IsTidyStream limit entries count → IsPolledTo entries (next_poll count entries)
    × (count ≤ next_poll count entries) × (next_poll count entries ≤ count + poll_distance)
tidy_polls limit entries count tidy = by (has_poll entries (ceil count)) (ceil count) refl refl where
  above : (n : ℕ) → count < n → has_poll entries n ≡ false
  above n l = none_above entries count n tidy.below l

  under : (n : ℕ) → n % poll_distance ≡ 0 → n < count → has_poll entries n ≡ true
  under n m l = subst (λ k. has_poll entries k ≡ true) (whole n m) (tidy.due (n / poll_distance) (omega (arith, m, l))) where
    whole : (n : ℕ) → n % poll_distance ≡ 0 → n / poll_distance * poll_distance ≡ n
    whole n m = omega (arith, m)

  by : (b : Bool) (m : ℕ) → has_poll entries m ≡ b → ceil count ≡ m → IsPolledTo entries (if b then m + poll_distance else m)
      × (count ≤ (if b then m + poll_distance else m))
      × ((if b then m + poll_distance else m) ≤ count + poll_distance)
  by true m has k =
      let here : m ≤ count = elim (leb_tells (suc count) m) [ inl (t, l) ↦ absurd (true≢false (sym has ∙ above m l)) | inr (f, l) ↦ omega (arith, l) ] in (
        record {
          multiple = omega (arith, k);
          below = λ n z. elim (leb_tells (suc n) count) [
            | inl (t, l) ↦ under n z l ∙ sym (lt-ltb n (m + poll_distance) (omega (arith, l, k)))
            | inr (f, l) ↦ elim (eqb_tells n m) [
              | inl (t, same) ↦ ap (has_poll entries) same ∙ has ∙ sym (lt-ltb n (m + poll_distance) (omega (arith, same)))
              | inr (g, other) ↦ above n (omega (arith, l, other, here, k)) ∙ sym (le-ltb n (m + poll_distance) (omega (arith, l, other, here, k, z)))
            ]
          ];
        },
        omega (arith, k),
        omega (arith, here),
      )
  by false m has k = (
    record {
      multiple = omega (arith, k);
      below = λ n z. elim (leb_tells (suc n) count) [
        | inl (t, l) ↦ under n z l ∙ sym (lt-ltb n m (omega (arith, l, k)))
        | inr (f, l) ↦ elim (eqb_tells n m) [
          | inl (t, same) ↦ ap (has_poll entries) same ∙ has ∙ sym (le-ltb n m (omega (arith, same)))
          | inr (g, other) ↦ above n (omega (arith, l, other, k, z)) ∙ sym (le-ltb n m (omega (arith, l, other, k, z)))
        ]
      ];
    },
    omega (arith, k),
    omega (arith, k),
  )
