-- One step of the least order.
use Rattle.std.proofs.Common.{◌≡◌, ℕ, zero, suc, ◌+◌, ◌<◌, Bool, true, false, cond, List, [], ◌∷◌, length, Option, Some, None, refl, sym, ap, ◌∙◌, subst}
use Rattle.std.proofs.Common.{inl, inr, arith, find, eq-or-lt_of_le, le_of_suc-le-suc}
use Rattle.std.specs.Prelude.{slice_get, slice_set, slice_index, option_and_then, if◌then◌else◌}
use Rattle.std.specs.Option.{option_or}
use Rattle.std.proofs.Math.ListN.{length-set}
use Rattle.std.proofs.lemmas.List.Folds.{find-append}
use Rattle.std.proofs.lemmas.Option.{none-some, same_Some, slice_get_within}
use Rattle.orders_law.specs.Orders.{below}
use Rattle.log_entry.specs.declared.log.Entry.{Entry}
use Rattle.log_entry.specs.declared.log.Log.{Log}
use Rattle.order_rules.specs.Places.{entry_at, stream}
use Rattle.order_rules.specs.Cursor.{Cursor, first_left, guard_is_met, taken, take_one}
use Rattle.order_rules.proofs.Numbers.{in_stream}
use Rattle.log_order.specs.Steps.{left}

module _ (test : ℕ → Bool) where
  find-suc : (n : ℕ) → find test (below (suc n)) ≡ option_or (find test (below n)) (cond (test n) (Some n) None)
  find-suc n = find-append test (below n) (n ∷ [])

  pub none_below : (n : ℕ) → ((i : ℕ) → i < n → test i ≡ false) → find test (below n) ≡ None
  none_below zero h = refl
  none_below (suc n) h =
      find-suc n ∙ ap (λ o. option_or o (cond (test n) (Some n) None)) (none_below n (λ i l. h i (omega (arith, l))))
      ∙ ap (λ b. cond b (Some n) None) (h n (omega arith))

  pub first_below : (n i : ℕ) → i < n → test i ≡ true → ((j : ℕ) → j < i → test j ≡ false) → find test (below n) ≡ Some i
  first_below zero i l t before = absurd (omega (arith, l))
  first_below (suc n) i l t before = find-suc n ∙ elim (eq-or-lt_of_le (le_of_suc-le-suc l)) [
    | inl same ↦
        ap (λ o. option_or o (cond (test n) (Some n) None)) (none_below n (λ j m. before j (omega (arith, same, m))))
        ∙ ap (λ b. cond b (Some n) None) (ap test (sym same) ∙ t) ∙ ap Some (sym same)
    | inr less ↦ ap (λ o. option_or o (cond (test n) (Some n) None)) (first_below n i less t before)
  ]

-- what a hart took
pub record Taking (log : Log) (h : ℕ) (c m : Cursor) (p : ℕ) : Type 0 where
  pub entry : Entry
  pub at : entry_at log h p ≡ Some entry
  pub place : slice_index c.places h ≡ p
  pub now : taken c h entry ≡ m

pub taking : (log : Log) (h : ℕ) (c m : Cursor) (p : ℕ) → take_one log h c ≡ Some (m, p) → Taking log h c m p
taking log h c m p is = by (first_left log c h) refl is
  where
    met : (e : Entry) (b : Bool) → first_left log c h ≡ Some e
        → cond {A = Option (Cursor × ℕ)} b (Some (taken c h e, slice_index c.places h)) None ≡ Some (m, p) → Taking log h c m p
    met e false there is = absurd (none-some _ is)
    met e true there is =
        let same : (taken c h e, slice_index c.places h) ≡ (m, p) = same_Some _ _ is in
        let place : slice_index c.places h ≡ p = ap (λ (z : Cursor × ℕ). z.1) same in
        record {
          entry = e;
          at = ap (λ (k : ℕ). entry_at log h k) (sym place) ∙ there;
          place = place;
          now = ap (λ (z : Cursor × ℕ). z.0) same;
        }

    by : (o : Option Entry) → first_left log c h ≡ o
        → option_and_then {U = Cursor × ℕ} (λ e. if guard_is_met c e then Some (taken c h e, slice_index c.places h) else None) o ≡ Some (m, p)
        → Taking log h c m p
    by None there is = absurd (none-some _ is)
    by (Some e) there is = met e (guard_is_met c e) there is

left_falls : (streams : List (List Entry)) (places : List ℕ) (h : ℕ) (s : List Entry) → slice_get streams h ≡ Some s → h < length places
    → slice_index places h < length s
    → left streams (slice_set places h (slice_index places h + 1)) < left streams places
left_falls [] places h s there l less = absurd (none-some _ there)
left_falls (x ∷ streams) [] h s there l less = absurd (omega (arith, l))
left_falls (x ∷ streams) (p ∷ places) zero s there l less =
    let size : length x ≡ length s = ap length (same_Some x s there) in
    omega (arith, size, less)
left_falls (x ∷ streams) (p ∷ places) (suc h) s there l less =
    let rest = left_falls streams places h s there (omega (arith, l)) less in
    omega (arith, rest)

pub places_after : (c : Cursor) (h : ℕ) (e : Entry) → (taken c h e).places ≡ slice_set c.places h (slice_index c.places h + 1)
places_after c h e = refl

pub places_stay : (log : Log) (h : ℕ) (c m : Cursor) (p : ℕ) → take_one log h c ≡ Some (m, p) → length m.places ≡ length c.places
places_stay log h c m p is =
    let t = taking log h c m p is in
    ap (λ (z : Cursor). length z.places) (sym t.now) ∙ length-set c.places h (slice_index c.places h + 1)

pub place_within : (log : Log) (h : ℕ) (c m : Cursor) (p : ℕ) → take_one log h c ≡ Some (m, p) → p < length (stream log h)
place_within log h c m p is = let t = taking log h c m p is in slice_get_within (stream log h) p t.entry t.at

pub fewer_left : (log : Log) (h : ℕ) (c m : Cursor) (p : ℕ) → h < length c.places → take_one log h c ≡ Some (m, p)
    → left log.streams m.places < left log.streams c.places
fewer_left log h c m p l is =
    let t = taking log h c m p is in
    let within = slice_get_within (stream log h) p t.entry t.at in
    let place = t.place in
    subst (λ (z : Cursor). left log.streams z.places < left log.streams c.places) t.now
    (left_falls log.streams c.places h (stream log h) (in_stream log h p t.entry t.at) l (omega (arith, within, place)))
