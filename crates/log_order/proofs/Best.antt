-- The least entry that breaks a rule, found in any order.
use Rattle.std.proofs.Common.{◌≡◌, Bool, true, false, cond, Option, Some, None, refl, sym, ap, ◌∙◌, subst, inl, inr, ◌⊎◌, arith, find}
use Rattle.std.specs.Prelude.{◌==◌, ◌&&◌, nat_lt, option_map, if◌then◌else◌}
use Rattle.std.proofs.lemmas.Bool.{or_left, or_right, or_cases, and_from, and_parts, eqb-true, eq-eqb, ltb-true, lt-ltb, false_from_ne_true, true≢false}
use Rattle.std.proofs.lemmas.Option.{none-some, same_Some}
use Rattle.log_entry.specs.declared.log.Entry.{Entry}
use Rattle.log_entry.specs.declared.log.Log.{Log}
use Rattle.order_rules.specs.Places.{entry_at, stream}
use Rattle.order_rules.specs.Orderly.{Spot, spots}
use Rattle.order_rules.specs.Laws.{IsSpot, IsBefore}
use Rattle.order_rules.proofs.Least.{first_is_least}
use Rattle.order_rules.proofs.Numbers.{in_stream, below_length}
use Rattle.log_order.specs.declared.orderly.Leg.{Leg}
use Rattle.log_order.specs.Rows.{spot_of}
use Rattle.log_order.specs.Least.{is_before, lesser, least_with, IsLeastSoFar}

before_is : (a b : Leg) → is_before a b ≡ true → IsBefore (spot_of a) (spot_of b)
before_is a b t = elim (or_cases (nat_lt a.hart b.hart) ((a.hart == b.hart) && nat_lt a.entry b.entry) t) [
  | inl l ↦ inl (ltb-true a.hart b.hart l)
  | inr both ↦ let p = and_parts (a.hart == b.hart) (nat_lt a.entry b.entry) both in inr (eqb-true a.hart b.hart p.0, ltb-true a.entry b.entry p.1)
]

is_before_from : (a b : Leg) → IsBefore (spot_of a) (spot_of b) → is_before a b ≡ true
is_before_from a b before = elim before [
  | inl l ↦ or_left (nat_lt a.hart b.hart) ((a.hart == b.hart) && nat_lt a.entry b.entry) (lt-ltb a.hart b.hart l)
  | inr p ↦ or_right (nat_lt a.hart b.hart) ((a.hart == b.hart) && nat_lt a.entry b.entry)
      (and_from (a.hart == b.hart) (nat_lt a.entry b.entry) (eq-eqb a.hart b.hart p.0) (lt-ltb a.entry b.entry p.1))
]

before_both : (a b c : Spot) → IsBefore a b → IsBefore b c → IsBefore a c
before_both a b c one two = elim one [
  | inl l ↦ elim two [
    | inl m ↦ inl (omega (arith, l, m))
    | inr m ↦ let e = m.0 in inl (omega (arith, l, e))
  ]
  | inr l ↦ elim two [
    | inl m ↦ let e = l.0 in inl (omega (arith, e, m))
    | inr m ↦ let x = l.1 in let y = m.1 in inr (l.0 ∙ m.0, omega (arith, x, y))
  ]
]

never_itself : (a : Spot) → IsBefore a a → ⊥
never_itself a before = elim before [
  | inl l ↦ omega (arith, l)
  | inr p ↦ let l = p.1 in omega (arith, l)
]

-- where nothing broke the rule so far
pub none_with : (breaks : Bool) (best : Option Leg) (leg : Leg) → least_with breaks best leg ≡ None → (breaks ≡ false) × (best ≡ None)
none_with true None leg e = absurd (none-some leg (sym e))
none_with true (Some p) leg e = by (is_before leg p) e
  where
    by : (b : Bool) → cond b (Some leg) (Some p) ≡ None → (true ≡ false) × (Some p ≡ None)
    by true e = absurd (none-some leg (sym e))
    by false e = absurd (none-some p (sym e))
none_with false best leg e = (refl, e)

module _ (log : Log) (test : Spot → Bool) where
  pub nothing_seen : (seen : Spot → Type 0) → ((q : Spot) → seen q → ⊥) → IsLeastSoFar log test seen None
  nothing_seen seen none = record {
    stands = λ p is. absurd (none-some p is);
    least = λ q s t. absurd (none q s);
  }

  -- no more is seen that breaks the rule
  pub same_seen : (seen now : Spot → Type 0) (best : Option Leg) → IsLeastSoFar log test seen best → ((q : Spot) → now q → test q ≡ true → seen q)
      → IsLeastSoFar log test now best
  same_seen seen now best b old = record { stands = b.stands; least = λ q s t. b.least q (old q s t) t }

  -- one that breaks the rule is seen
  more_seen : (seen now : Spot → Type 0) (best : Option Leg) (leg : Leg) (e : Entry) → IsLeastSoFar log test seen best
      → entry_at log leg.hart leg.entry ≡ Some e → test (spot_of leg) ≡ true
      → ((q : Spot) → now q → seen q ⊎ (q ≡ spot_of leg)) → IsLeastSoFar log test now (lesser best leg)
  more_seen seen now None leg e b at t old = record {
    stands = λ p is. let same = same_Some leg p is in
        subst (λ (z : Leg). (x : Entry) × (entry_at log z.hart z.entry ≡ Some x) × (test (spot_of z) ≡ true)) same (e, at, t);
    least = λ q s tq. elim (old q s) [
      | inl before ↦ absurd (let l = b.least q before tq in none-some l.0 l.1)
      | inr same ↦ (leg, refl, λ before. never_itself (spot_of leg) (subst (λ (z : Spot). IsBefore z (spot_of leg)) same before))
    ];
  }
  more_seen seen now (Some m) leg e b at t old = by (is_before leg m) refl
    where
      stands : Leg → Type 0
      stands z = (x : Entry) × (entry_at log z.hart z.entry ≡ Some x) × (test (spot_of z) ≡ true)

      by : (c : Bool) → is_before leg m ≡ c → IsLeastSoFar log test now (lesser (Some m) leg)
      by true is =
          let chosen : lesser (Some m) leg ≡ Some leg = ap (λ c. cond c (Some leg) (Some m)) is in
          let z : IsLeastSoFar log test now (Some leg) = record {
            stands = λ p is. let same = same_Some leg p is in
                subst (λ (z : Leg). (x : Entry) × (entry_at log z.hart z.entry ≡ Some x) × (test (spot_of z) ≡ true)) same (e, at, t);
            least = λ q s tq. elim (old q s) [
              | inl before ↦
                  let l = b.least q before tq in
                  let same = same_Some m l.0 l.1 in (
                    leg,
                    refl,
                    λ first. l.2
                        (subst (λ (z : Leg). IsBefore q (spot_of z)) same (before_both q (spot_of leg) (spot_of m) first (before_is leg m is))),
                  )
              | inr same ↦ (leg, refl, λ before. never_itself (spot_of leg) (subst (λ (z : Spot). IsBefore z (spot_of leg)) same before))
            ];
          } in
          subst (λ o. IsLeastSoFar log test now o) (sym chosen) z
      by false is =
          let chosen : lesser (Some m) leg ≡ Some m = ap (λ c. cond c (Some leg) (Some m)) is in
          let z : IsLeastSoFar log test now (Some m) = record {
            stands = b.stands;
            least = λ q s tq. elim (old q s) [
              | inl before ↦ b.least q before tq
              | inr same ↦ (m, refl, λ before. true≢false (sym (is_before_from leg m (subst (λ (z : Spot). IsBefore z (spot_of m)) same before)) ∙ is))
            ];
          } in
          subst (λ o. IsLeastSoFar log test now o) (sym chosen) z

  -- one more is seen
  pub one_seen : (seen now : Spot → Type 0) (best : Option Leg) (leg : Leg) (e : Entry) (breaks : Bool) → IsLeastSoFar log test seen best
      → entry_at log leg.hart leg.entry ≡ Some e → test (spot_of leg) ≡ breaks
      → ((q : Spot) → now q → seen q ⊎ (q ≡ spot_of leg)) → IsLeastSoFar log test now (if breaks then lesser best leg else best)
  one_seen seen now best leg e true b at t old = more_seen seen now best leg e b at t old
  one_seen seen now best leg e false b at t old = same_seen seen now best b (λ q s tq. elim (old q s) [
    | inl before ↦ before
    | inr same ↦ absurd (true≢false (sym tq ∙ ap test same ∙ t))
  ])

  -- all that break the rule are seen
  pub all_seen : (seen : Spot → Type 0) (best : Option Leg) → IsLeastSoFar log test seen best → ((q : Spot) → IsSpot log.streams q → test q ≡ true → seen q)
      → find test (spots log) ≡ option_map spot_of best
  all_seen seen None b whole =
      first_is_least.no_first log test (λ q spot. false_from_ne_true (test q) (λ t. let l = b.least q (whole q spot t) t in none-some l.0 l.1))
  all_seen seen (Some p) b whole =
      let s = b.stands p refl in
      first_is_least.first log test (spot_of p) (record {
        spot = (stream log p.hart, in_stream log p.hart p.entry s.0 s.1, below_length (stream log p.hart) p.entry s.0 s.1);
        passes = s.2;
        least = λ q spot before. false_from_ne_true (test q) (λ t.
            let l = b.least q (whole q spot t) t in
            l.2 (subst (λ (z : Leg). IsBefore q (spot_of z)) (same_Some p l.0 l.1) before));
      })
