-- From the first place in each stream to the first spot of a log.
use Rattle.std.proofs.Common.{◌≡◌, ℕ, suc, ◌+◌, ◌<◌, Bool, false, List, [], length, get_or, find, Some, None, refl, sym, ap, ◌∙◌, subst, inl, inr, arith}
use Rattle.std.proofs.Common.{eq-or-lt_of_le, le_of_suc-le-suc}
use Rattle.std.specs.Prelude.{slice_get, unwrap_or, Option}
use Rattle.std.proofs.lemmas.Option.{same_Some, slice_get_read, slice_get_within}
use Rattle.log_entry.specs.declared.log.Entry.{Entry}
use Rattle.log_entry.specs.declared.log.Log.{Log}
use Rattle.order_rules.specs.Places.{stream}
use Rattle.order_rules.specs.Orderly.{Spot, spots}
use Rattle.order_rules.specs.Laws.{IsSpot}
use Rattle.order_rules.proofs.Least.{first_is_least}
use Rattle.log_order.specs.InStream.{IsFirst}

-- the stream of a hart, as code reads it
pub reading : (streams given : List (List Entry)) (h : ℕ) (s t : List Entry) → given ≡ streams → h < length given → s ≡ get_or given h s → t ≡ s
    → slice_get streams h ≡ Some t
reading streams given h s t same lt read shown =
    ap (λ (xs : List (List Entry)). slice_get xs h) (sym same) ∙ slice_get_read given (length given) h s refl lt read ∙ ap Some (sym shown)

-- row by row of the spots
module _ (log : Log) (rule : Spot → Bool) where
  pub found_row : (h : ℕ) (t : List Entry) (i : ℕ) → slice_get log.streams h ≡ Some t → IsFirst (λ j. rule (h, j)) (length t + 1) (Some i)
      → ((q : Spot) → IsSpot log.streams q → q.0 < h → rule q ≡ false) → find rule (spots log) ≡ Some (h, i)
  found_row h t i got first before = first_is_least.first log rule (h, i) (record {
    spot = (t, got, first.0);
    passes = first.1;
    least = λ q spot b. elim b [
      | inl l ↦ before q spot l
      | inr e ↦ subst (λ (g : ℕ). rule (g, q.1) ≡ false) (sym e.0) (first.2 q.1 e.1)
    ];
  })

  pub none_row : (h : ℕ) (t : List Entry) → slice_get log.streams h ≡ Some t → IsFirst (λ j. rule (h, j)) (length t + 1) None
      → ((q : Spot) → IsSpot log.streams q → q.0 < h → rule q ≡ false) → (q : Spot) → IsSpot log.streams q → q.0 < h + 1 → rule q ≡ false
  none_row h t got none before q spot lt =
      let m : q.0 < suc h = omega (arith, lt) in
      elim (eq-or-lt_of_le (le_of_suc-le-suc m)) [
        | inl e ↦
            let s : spot.0 ≡ t = same_Some _ _ (sym spot.1 ∙ ap (λ (g : ℕ). slice_get log.streams g) e ∙ got) in
            let within : q.1 < length t + 1 = subst (λ (z : List Entry). q.1 < length z + 1) s spot.2 in
            subst (λ (g : ℕ). rule (g, q.1) ≡ false) (sym e) (none q.1 within)
        | inr less ↦ before q spot less
      ]

  pub none_left : ((q : Spot) → IsSpot log.streams q → q.0 < length log.streams → rule q ≡ false) → find rule (spots log) ≡ None
  none_left before = first_is_least.no_first log rule (λ q spot. before q spot (slice_get_within log.streams q.0 spot.0 spot.1))

pub first_along : (test other : ℕ → Bool) → ((j : ℕ) → other j ≡ test j) → (n : ℕ) (r : Option ℕ) → IsFirst test n r → IsFirst other n r
first_along test other same n None f = λ j l. same j ∙ f j l
first_along test other same n (Some i) f = (f.0, same i ∙ f.1, λ j l. same j ∙ f.2 j l)

-- a rule whose test looks at one stream alone
module _ (log : Log) (rule : Spot → Bool) (test : List Entry → ℕ → Bool) (same : (p : Spot) → rule p ≡ test (stream log p.0) p.1) where
  pub in_row : (h : ℕ) (t : List Entry) → slice_get log.streams h ≡ Some t → (r : Option ℕ) → IsFirst (test t) (length t + 1) r
      → IsFirst (λ j. rule (h, j)) (length t + 1) r
  in_row h t got r f =
      first_along (test t) (λ j. rule (h, j)) (λ j. same (h, j) ∙ ap (λ (o : Option (List Entry)). test (unwrap_or o []) j) got) (length t + 1) r f
