-- Reading values one after the other, as a loop does.
use Rattle.std.proofs.Common.{◌≡◌, ℕ, suc, ◌-◌, ◌+◌, ◌≤◌, ◌<◌, List, [], ◌∷◌, ◌++◌, Result, Ok, Err, refl, sym, ap, ◌∙◌, append_assoc, arith, map}
use Rattle.std.proofs.lemmas.List.{append-nil, map-append}
use Rattle.log_format.specs.declared.fault.Stop.{Stop}
use Rattle.log_format.specs.declared.fault.Stop.TheVariants as stops
use Rattle.log_format.specs.Format.{Bad, ◌>>=◌, repeat_at}
use Rattle.log_format.specs.Answers.{Fails}

module _ {A : Type 0} where
  -- what was read before, and what is still read
  abbrev pub with_front : List A → Result (List A × List ℕ) Bad → Result (List A × List ℕ) Bad
  with_front front read = read >>= λ x. Ok (front ++ x.0, x.1)

  regroup : (front : List A) (a : A) (read : Result (List A × List ℕ) Bad)
      → with_front front (read >>= λ x. Ok (a ∷ x.0, x.1)) ≡ with_front (front ++ a ∷ []) read
  regroup front a (Ok x) = ap (λ (xs : List A). Ok (xs, x.1)) (simp append_assoc)
  regroup front a (Err f) = refl

  pub goes_on : (read : List ℕ → Result (A × List ℕ) Bad) (front : List A) (count i : ℕ) (bytes : List ℕ) (a : A) (after : List ℕ)
      (total : Result (List A × List ℕ) Bad) → i < count → read bytes ≡ Ok (a, after)
      → with_front front (repeat_at read (count - i) bytes) ≡ total → with_front (front ++ a ∷ []) (repeat_at read (count - (i + 1)) after) ≡ total
  goes_on read front count i bytes a after total lt h so_far =
      let k : count - i ≡ suc (count - (i + 1)) = omega arith in
      let one : with_front front (repeat_at read (count - i) bytes) ≡ with_front (front ++ a ∷ []) (repeat_at read (count - (i + 1)) after) =
      rw (k, h) (regroup front a (repeat_at read (count - (i + 1)) after)) in
      sym one ∙ so_far

  pub ends : (read : List ℕ → Result (A × List ℕ) Bad) (e : Stop) (front : List A) (count i : ℕ) (bytes : List ℕ) (total : Result (List A × List ℕ) Bad)
      → i < count → Fails e (read bytes)
      → with_front front (repeat_at read (count - i) bytes) ≡ total → Fails e total
  ends read stops.NoMemory front count i bytes total lt h so_far = tt
  ends read (stops.Bad left rule) front count i bytes total lt h so_far =
      let k : count - i ≡ suc (count - (i + 1)) = omega arith in
      let one : with_front front (repeat_at read (count - i) bytes) ≡ Err (left, rule) = rw (k, h) refl in
      sym so_far ∙ one

  pub is_done : (read : List ℕ → Result (A × List ℕ) Bad) (front : List A) (count i : ℕ) (bytes : List ℕ) (total : Result (List A × List ℕ) Bad) → count ≤ i
      → with_front front (repeat_at read (count - i) bytes) ≡ total → total ≡ Ok (front, bytes)
  is_done read front count i bytes total le so_far =
      let k : count - i ≡ 0 = omega arith in
      let one : with_front front (repeat_at read (count - i) bytes) ≡ Ok (front, bytes) = rw k (ap (λ (xs : List A). Ok (xs, bytes)) (append-nil front)) in
      sym so_far ∙ one

  -- the same, where the loop keeps values of which only a view is compared
  pub goes_on_by : {X : Type 0} (view : X → A) (read : List ℕ → Result (A × List ℕ) Bad) (front : List X) (count i : ℕ) (bytes : List ℕ) (x : X)
      (after : List ℕ) (total : Result (List A × List ℕ) Bad) → i < count → read bytes ≡ Ok (view x, after)
      → with_front (map view front) (repeat_at read (count - i) bytes) ≡ total
      → with_front (map view (front ++ x ∷ [])) (repeat_at read (count - (i + 1)) after) ≡ total
  goes_on_by view read front count i bytes x after total lt h so_far =
      rw (map-append view front (x ∷ [])) (goes_on read (map view front) count i bytes (view x) after total lt h so_far)
