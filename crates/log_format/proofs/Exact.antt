-- Each format is exact: what is read is spelled so, and what is spelled so is read.
use Rattle.std.proofs.Common.{◌≡◌, ℕ, zero, suc, ◌+◌, ◌-◌, ◌^◌, ◌%◌, ◌<◌, ◌≤◌, Bool, true, false, cond, eqb, ltb, List, [], ◌∷◌, ◌++◌, length, get_or, take}
use Rattle.std.proofs.Common.{drop, Result, Ok, Err, refl, sym, ap, subst, ◌∙◌, append_assoc, arith, inl, inr}
use Rattle.std.specs.List.{flat_map, AllByRecursion}
use Rattle.std.specs.Int.{Width, w8, w16, w32, w64, byte_len, from_le_bytes, to_le_bytes}
use Rattle.std.proofs.lemmas.Bool.{cases_lt, ltb-false, le-ltb, eqb-true}
use Rattle.std.proofs.lemmas.List.{take_at, drop_at, take-append-drop, length-append, length-take, get_or-drop, get_or-take, get_or_past, append-nil}
use Rattle.std.proofs.lemmas.List.{nil_from_length}
use Rattle.std.proofs.lemmas.List.Concat.{flat_map-cons}
use Rattle.std.proofs.lemmas.Nat.{le_bytes_2, le_bytes_4, le_bytes_8, from_le_bytes-to_le_bytes_2, from_le_bytes-to_le_bytes_4, from_le_bytes-to_le_bytes_8}
use mathlib.Core.Logic.{◌⊎◌}
use Rattle.log_format.specs.Format.{Bad, ◌>>=◌, Format, number_at, number, block, bind, as_value, tagged, repeat_at, repeat, counted, whole}

abbrev pub IsBytes : List ℕ → Type 0
IsBytes bytes = (i : ℕ) → get_or bytes i 0 < 256

IsBytes-drop : (n : ℕ) (bytes : List ℕ) → IsBytes bytes → IsBytes (drop n bytes)
IsBytes-drop n bytes h i = rw get_or-drop (h (n + i))

IsBytes-take : (n : ℕ) (bytes : List ℕ) → IsBytes bytes → IsBytes (take n bytes)
IsBytes-take n bytes h i =
    elim (cases_lt i n) [
      | inl lt ↦ rw (get_or-take n bytes i 0 lt) (h i)
      | inr le ↦ rw (get_or_past (take n bytes) i 0 (omega (arith, length-take n bytes))) (omega arith)
    ]

-- a value was read that is spelled so, and what is left are bytes
pub record Reads {A : Type 0} (f : Format A) (bytes : List ℕ) (x : A × List ℕ) : Type 0 where
  pub parts : bytes ≡ f.spell x.0 ++ x.1
  pub rest_fits : IsBytes x.1
  pub fits : f.Fits x.0

pub record IsExact {A : Type 0} (f : Format A) : Type 0 where
  pub takes : (bytes : List ℕ) (x : A × List ℕ) → IsBytes bytes → f.read bytes ≡ Ok x → Reads f bytes x
  pub again : (a : A) (rest : List ℕ) → f.Fits a → f.read (f.spell a ++ rest) ≡ Ok (a, rest)
  -- a bad field begins among the bytes
  pub blames : (bytes : List ℕ) (bad : Bad) → IsBytes bytes → f.read bytes ≡ Err bad → bad.0 ≤ length bytes

bind_ok : {A B : Type 0} (r : Result A Bad) (f : A → Result B Bad) (y : B) → (r >>= f) ≡ Ok y → (x : A) × (r ≡ Ok x) × (f x ≡ Ok y)
bind_ok (Ok x) f y e = (x, refl, e)
bind_ok (Err d) f y e = absurd cc

abbrev pub done : {A : Type 0} → A → Result A Bad
done x = Ok x

abbrev pub failed : {A : Type 0} → Bad → Result A Bad
failed x = Err x

pub ok_is : {A : Type 0} (x y : A) → done x ≡ done y → x ≡ y
ok_is x y e = cc

guard_ok : {A : Type 0} (b : Bool) (d : Bad) (r : Result A Bad) (y : A) → cond b (Err d) r ≡ Ok y → (b ≡ false) × (r ≡ Ok y)
guard_ok true d r y e = absurd cc
guard_ok false d r y e = (refl, e)

guard_ended : {A : Type 0} (b : Bool) (d : Bad) (x y : A) → cond b (Ok x) (Err d) ≡ Ok y → (b ≡ true) × (x ≡ y)
guard_ended true d x y e = (refl, cc)
guard_ended false d x y e = absurd cc

err_is : {B : Type 0} (b d : Bad) → failed {A = B} b ≡ failed {A = B} d → b ≡ d
err_is b d e = cc

bind_err : {A B : Type 0} (r : Result A Bad) (f : A → Result B Bad) (d : Bad) → (r >>= f) ≡ Err d → (r ≡ Err d) ⊎ ((x : A) × (r ≡ Ok x) × (f x ≡ Err d))
bind_err (Ok x) f d e = inr (x, refl, e)
bind_err {B = B} (Err b) f d e = inl (ap (λ (z : Bad). Err z) (err_is {B = B} b d e))

Reads-short : {A : Type 0} (f : Format A) (bytes : List ℕ) (x : A × List ℕ) → Reads f bytes x → length x.1 ≤ length bytes
Reads-short f bytes x r = rw r.parts (omega (arith, length-append (f.spell x.0) x.1))

-- ---- numbers

pub record IsWide (w : Width) (limit : ℕ) : Type 0 where
  pub len : (n : ℕ) → length (to_le_bytes w n) ≡ byte_len w
  pub back : (bytes : List ℕ) → length bytes ≡ byte_len w → IsBytes bytes → to_le_bytes w (from_le_bytes w bytes) ≡ bytes
  pub again : (n : ℕ) → n < limit → from_le_bytes w (to_le_bytes w n) ≡ n
  pub below : (bytes : List ℕ) → IsBytes bytes → from_le_bytes w bytes < limit

pub wide16 : IsWide w16 (2 ^ 16)
wide16 = record {
  len = λ n. refl;
  back = λ bytes len fits. le_bytes_2 bytes _ len fits refl;
  again = from_le_bytes-to_le_bytes_2;
  below = λ bytes fits. omega (arith, fits 0, fits 1);
}

pub wide32 : IsWide w32 (2 ^ 32)
wide32 = record {
  len = λ n. refl;
  back = λ bytes len fits. le_bytes_4 bytes _ len fits refl;
  again = from_le_bytes-to_le_bytes_4;
  below = λ bytes fits. omega (arith, fits 0, fits 1, fits 2, fits 3);
}

pub wide64 : IsWide w64 (2 ^ 64)
wide64 = record {
  len = λ n. refl;
  back = λ bytes len fits. le_bytes_8 bytes _ len fits refl;
  again = from_le_bytes-to_le_bytes_8;
  below = λ bytes fits. omega (arith, fits 0, fits 1, fits 2, fits 3, fits 4, fits 5, fits 6, fits 7);
}

small : (n : ℕ) → n < 256 → n % 256 ≡ n
small n h = grind arith

one_byte : (bytes : List ℕ) → length bytes ≡ 1 → IsBytes bytes → to_le_bytes w8 (from_le_bytes w8 bytes) ≡ bytes
one_byte [] len fits = absurd (omega (arith, len))
one_byte (b ∷ []) len fits = ap (λ x. x ∷ []) (small b (fits 0))
one_byte (b ∷ c ∷ bs) len fits = absurd (omega (arith, len))

pub wide8 : IsWide w8 (2 ^ 8)
wide8 = record { len = λ n. refl; back = one_byte; again = small; below = λ bytes fits. omega (arith, fits 0) }

number_blames : {X : Type 0} (w : Width) (rule : ℕ) (good short : Bool) (bytes : List ℕ) (x : X) (bad : Bad)
    → cond short (failed (length bytes, 1)) (cond good (Ok x) (Err (length bytes, rule))) ≡ Err bad → bad.0 ≤ length bytes
number_blames {X = X} w rule good true bytes x bad e = let h = err_is {B = X} (length bytes, 1) bad e in omega (arith, ap (λ (z : Bad). z.0) h)
number_blames {X = X} w rule true false bytes x bad e = absurd cc
number_blames {X = X} w rule false false bytes x bad e = let h = err_is {B = X} (length bytes, rule) bad e in omega (arith, ap (λ (z : Bad). z.0) h)

block_blames : {X : Type 0} (short : Bool) (bytes : List ℕ) (x : X) (bad : Bad) → cond short (failed (length bytes, 1)) (Ok x) ≡ Err bad → bad.0 ≤ length bytes
block_blames {X = X} true bytes x bad e = let h = err_is {B = X} (length bytes, 1) bad e in omega (arith, ap (λ (z : Bad). z.0) h)
block_blames {X = X} false bytes x bad e = absurd cc

-- the two tests of a number, one after the other
number_at-is : (w : Width) (rule : ℕ) (ok : ℕ → Bool) (bytes : List ℕ)
    → number_at w rule ok bytes
    ≡ cond (ltb (length bytes) (byte_len w)) (Err (length bytes, 1))
    (cond (ok (from_le_bytes w (take (byte_len w) bytes))) (Ok (from_le_bytes w (take (byte_len w) bytes), drop (byte_len w) bytes)) (Err (length bytes, rule)))
number_at-is w rule ok bytes = by (ltb (length bytes) (byte_len w))
  where
    n : ℕ
    n = from_le_bytes w (take (byte_len w) bytes)

    found : Result (ℕ × List ℕ) Bad
    found = Ok (n, drop (byte_len w) bytes)

    misfit : Result (ℕ × List ℕ) Bad
    misfit = Err (length bytes, rule)

    missing : Result (ℕ × List ℕ) Bad
    missing = Err (length bytes, 1)

    by : (short : Bool) → (cond short missing found >>= λ x. cond (ok x.0) (Ok x) misfit) ≡ cond short missing (cond (ok n) found misfit)
    by true = refl
    by false = refl

pub number-exact : (w : Width) (limit rule : ℕ) (ok : ℕ → Bool) → IsWide w limit → IsExact (number w limit rule ok)
number-exact w limit rule ok wide = record {
  takes = λ bytes x fits e.
      let n : ℕ = from_le_bytes w (take (byte_len w) bytes) in
      let g = guard_ok (ltb (length bytes) (byte_len w)) (length bytes, 1) (cond (ok n) (Ok (n, drop (byte_len w) bytes)) (Err (length bytes, rule))) x
      (sym (number_at-is w rule ok bytes) ∙ e) in
      let h = guard_ended (ok n) (length bytes, rule) (n, drop (byte_len w) bytes) x g.1 in
      let long : byte_len w ≤ length bytes = ltb-false _ _ g.0 in
      let front : to_le_bytes w n ≡ take (byte_len w) bytes =
      wide.back (take (byte_len w) bytes) (omega (arith, length-take (byte_len w) bytes)) (IsBytes-take (byte_len w) bytes fits) in
      let made : Reads (number w limit rule ok) bytes (n, drop (byte_len w) bytes) = record {
        parts = rw front (sym (take-append-drop (byte_len w) bytes));
        rest_fits = IsBytes-drop (byte_len w) bytes fits;
        fits = (wide.below (take (byte_len w) bytes) (IsBytes-take (byte_len w) bytes fits), h.0);
      } in
      subst (λ y. Reads (number w limit rule ok) bytes y) h.1 made;
  again = λ n rest fits.
      let len = wide.len n in
      let long : ltb (length (to_le_bytes w n ++ rest)) (byte_len w) ≡ false = le-ltb _ _ (omega (arith, length-append (to_le_bytes w n) rest)) in
      rw (long, take_at (to_le_bytes w n) rest (byte_len w) len, drop_at (to_le_bytes w n) rest (byte_len w) len, wide.again n fits.0, fits.1) refl;
  blames = λ bytes bad fits e. number_blames w rule (ok (from_le_bytes w (take (byte_len w) bytes))) (ltb (length bytes) (byte_len w)) bytes
      (from_le_bytes w (take (byte_len w) bytes), drop (byte_len w) bytes) bad (sym (number_at-is w rule ok bytes) ∙ e);
}

pub block-exact : (size : ℕ) → IsExact (block size)
block-exact size = record {
  takes = λ bytes x fits e.
      let g = guard_ok (ltb (length bytes) size) (length bytes, 1) (Ok (take size bytes, drop size bytes)) x e in
      let long : size ≤ length bytes = ltb-false _ _ g.0 in
      let made : Reads (block size) bytes (take size bytes, drop size bytes) = record {
        parts = sym (take-append-drop size bytes);
        rest_fits = IsBytes-drop size bytes fits;
        fits = omega (arith, length-take size bytes);
      } in
      subst (λ y. Reads (block size) bytes y) (ok_is (take size bytes, drop size bytes) x g.1) made;
  again = λ value rest fits.
      let long : ltb (length (value ++ rest)) size ≡ false = le-ltb _ _ (omega (arith, fits, length-append value rest)) in
      rw (long, take_at value rest size fits, drop_at value rest size fits) refl;
  blames = λ bytes bad fits e. block_blames (ltb (length bytes) size) bytes (take size bytes, drop size bytes) bad e;
}

-- a number that was read passes its test
pub number-passes : (w : Width) (rule : ℕ) (ok : ℕ → Bool) (bytes : List ℕ) (x : ℕ × List ℕ) → number_at w rule ok bytes ≡ Ok x → ok x.0 ≡ true
number-passes w rule ok bytes x e =
    let n : ℕ = from_le_bytes w (take (byte_len w) bytes) in
    let g = guard_ok (ltb (length bytes) (byte_len w)) (length bytes, 1) (cond (ok n) (Ok (n, drop (byte_len w) bytes)) (Err (length bytes, rule))) x
    (sym (number_at-is w rule ok bytes) ∙ e) in
    let h = guard_ended (ok n) (length bytes, rule) (n, drop (byte_len w) bytes) x g.1 in
    subst (λ (y : ℕ × List ℕ). ok y.0 ≡ true) h.1 h.0

-- ---- formats of formats

pub bind-exact : {A B : Type 0} (f : Format A) (g : A → Format B) → IsExact f → ((a : A) → IsExact (g a)) → IsExact (bind f g)
bind-exact f g p q = record {
  takes = λ bytes x fits e.
      let a = bind_ok (f.read bytes) (λ a. (g a.0).read a.1 >>= λ b. Ok ((a.0, b.0), b.1)) x e in
      let b = bind_ok ((g a.0.0).read a.0.1) (λ b. Ok ((a.0.0, b.0), b.1)) x a.2 in
      let one = p.takes bytes a.0 fits a.1 in
      let two = (q a.0.0).takes a.0.1 b.0 one.rest_fits b.1 in
      let made : Reads (bind f g) bytes ((a.0.0, b.0.0), b.0.1) = record {
        parts = one.parts ∙ ap (λ (t : List ℕ). f.spell a.0.0 ++ t) two.parts ∙ sym (append_assoc (f.spell a.0.0) ((g a.0.0).spell b.0.0) b.0.1);
        rest_fits = two.rest_fits;
        fits = (one.fits, two.fits);
      } in
      subst (λ y. Reads (bind f g) bytes y) (ok_is ((a.0.0, b.0.0), b.0.1) x b.2) made;
  again = λ x rest fits.
      ap (λ y. f.read y >>= λ a. (g a.0).read a.1 >>= λ b. Ok ((a.0, b.0), b.1)) (append_assoc (f.spell x.0) ((g x.0).spell x.1) rest)
      ∙ rw (p.again x.0 ((g x.0).spell x.1 ++ rest) fits.0, (q x.0).again x.1 rest fits.1) refl;
  blames = λ bytes bad fits e.
      elim (bind_err (f.read bytes) (λ a. (g a.0).read a.1 >>= λ b. Ok ((a.0, b.0), b.1)) bad e) [
        | inl h ↦ p.blames bytes bad fits h
        | inr a ↦
            let one = p.takes bytes a.0 fits a.1 in
            let short = Reads-short f bytes a.0 one in
            elim (bind_err ((g a.0.0).read a.0.1) (λ b. Ok ((a.0.0, b.0), b.1)) bad a.2) [
              | inl h ↦ omega (arith, (q a.0.0).blames a.0.1 bad one.rest_fits h)
              | inr b ↦ absurd (let never = b.2 in cc)
            ]
      ];
}

pub as_value-exact : {A B : Type 0} (to : A → B) (from : B → A) (f : Format A) → IsExact f → ((a : A) → f.Fits a → from (to a) ≡ a)
    → IsExact (as_value to from f)
as_value-exact to from f p back = record {
  takes = λ bytes x fits e.
      let a = bind_ok (f.read bytes) (λ a. Ok (to a.0, a.1)) x e in
      let one = p.takes bytes a.0 fits a.1 in
      let same = back a.0.0 one.fits in
      let made : Reads (as_value to from f) bytes (to a.0.0, a.0.1) = record {
        parts = rw same one.parts;
        rest_fits = one.rest_fits;
        fits = (rw same one.fits, ap to same);
      } in
      subst (λ y. Reads (as_value to from f) bytes y) (ok_is (to a.0.0, a.0.1) x a.2) made;
  again = λ b rest fits. rw (p.again (from b) rest fits.0, fits.1) refl;
  blames = λ bytes bad fits e.
      elim (bind_err (f.read bytes) (λ a. Ok (to a.0, a.1)) bad e) [
        | inl h ↦ p.blames bytes bad fits h
        | inr a ↦ absurd (let never = a.2 in cc)
      ];
}

pub tagged-exact : {T B : Type 0} (f : Format T) (g : T → Format B) (tag_of : B → T) → IsExact f → ((t : T) → f.Fits t → IsExact (g t))
    → ((t : T) (b : B) → f.Fits t → (g t).Fits b → tag_of b ≡ t) → IsExact (tagged f g tag_of)
tagged-exact f g tag_of p q tags = record {
  takes = λ bytes x fits e.
      let t = bind_ok (f.read bytes) (λ t. (g t.0).read t.1) x e in
      let one = p.takes bytes t.0 fits t.1 in
      let two = (q t.0.0 one.fits).takes t.0.1 x one.rest_fits t.2 in
      let same = tags t.0.0 x.0 one.fits two.fits in
      record {
        parts = rw same (one.parts ∙ ap (λ (r : List ℕ). f.spell t.0.0 ++ r) two.parts ∙ sym (append_assoc (f.spell t.0.0) ((g t.0.0).spell x.0) x.1));
        rest_fits = two.rest_fits;
        fits = rw same (one.fits, two.fits);
      };
  again = λ b rest fits.
      ap (λ y. f.read y >>= λ t. (g t.0).read t.1) (append_assoc (f.spell (tag_of b)) ((g (tag_of b)).spell b) rest)
      ∙ rw (p.again (tag_of b) ((g (tag_of b)).spell b ++ rest) fits.0) ((q (tag_of b) fits.0).again b rest fits.1);
  blames = λ bytes bad fits e.
      elim (bind_err (f.read bytes) (λ t. (g t.0).read t.1) bad e) [
        | inl h ↦ p.blames bytes bad fits h
        | inr t ↦
            let one = p.takes bytes t.0 fits t.1 in
            let short = Reads-short f bytes t.0 one in
            omega (arith, (q t.0.0 one.fits).blames t.0.1 bad one.rest_fits t.2)
      ];
}

repeat-takes : {A : Type 0} (f : Format A) → IsExact f → (n : ℕ) (bytes : List ℕ) (x : List A × List ℕ) → IsBytes bytes → repeat_at f.read n bytes ≡ Ok x
    → Reads (repeat n f) bytes x
repeat-takes f p zero bytes x fits e =
    subst (λ y. Reads (repeat zero f) bytes y) (ok_is ([], bytes) x e) (record { parts = refl; rest_fits = fits; fits = (refl, tt) })
repeat-takes f p (suc n) bytes x fits e =
    let a = bind_ok (f.read bytes) (λ first. repeat_at f.read n first.1 >>= λ others. Ok (first.0 ∷ others.0, others.1)) x e in
    let b = bind_ok (repeat_at f.read n a.0.1) (λ others. Ok (a.0.0 ∷ others.0, others.1)) x a.2 in
    let one = p.takes bytes a.0 fits a.1 in
    let two = repeat-takes f p n a.0.1 b.0 one.rest_fits b.1 in
    let made : Reads (repeat (suc n) f) bytes (a.0.0 ∷ b.0.0, b.0.1) = record {
      parts = rw flat_map-cons
          (one.parts ∙ ap (λ (t : List ℕ). f.spell a.0.0 ++ t) two.parts ∙ sym (append_assoc (f.spell a.0.0) (flat_map f.spell b.0.0) b.0.1));
      rest_fits = two.rest_fits;
      fits = (ap suc two.fits.0, (one.fits, two.fits.1));
    } in
    subst (λ y. Reads (repeat (suc n) f) bytes y) (ok_is (a.0.0 ∷ b.0.0, b.0.1) x b.2) made

repeat-again : {A : Type 0} (f : Format A) → IsExact f → (xs : List A) (rest : List ℕ) → AllByRecursion f.Fits xs
    → repeat_at f.read (length xs) (flat_map f.spell xs ++ rest) ≡ Ok (xs, rest)
repeat-again f p [] rest fits = refl
repeat-again f p (x ∷ xs) rest fits =
    let regrouped : flat_map f.spell (x ∷ xs) ++ rest ≡ f.spell x ++ (flat_map f.spell xs ++ rest) =
    ap (λ (y : List ℕ). y ++ rest) (flat_map-cons f.spell x xs) ∙ append_assoc (f.spell x) (flat_map f.spell xs) rest in
    ap (repeat_at f.read (suc (length xs))) regrouped ∙ rw (p.again x (flat_map f.spell xs ++ rest) fits.0, repeat-again f p xs rest fits.1) refl

repeat-blames : {A : Type 0} (f : Format A) → IsExact f → (n : ℕ) (bytes : List ℕ) (bad : Bad) → IsBytes bytes → repeat_at f.read n bytes ≡ Err bad
    → bad.0 ≤ length bytes
repeat-blames f p zero bytes bad fits e = absurd cc
repeat-blames f p (suc n) bytes bad fits e =
    elim (bind_err (f.read bytes) (λ first. repeat_at f.read n first.1 >>= λ others. Ok (first.0 ∷ others.0, others.1)) bad e) [
      | inl h ↦ p.blames bytes bad fits h
      | inr a ↦
          let one = p.takes bytes a.0 fits a.1 in
          let short = Reads-short f bytes a.0 one in
          elim (bind_err (repeat_at f.read n a.0.1) (λ others. Ok (a.0.0 ∷ others.0, others.1)) bad a.2) [
            | inl h ↦ omega (arith, repeat-blames f p n a.0.1 bad one.rest_fits h)
            | inr b ↦ absurd (let never = b.2 in cc)
          ]
    ]

pub repeat-exact : {A : Type 0} (n : ℕ) (f : Format A) → IsExact f → IsExact (repeat n f)
repeat-exact n f p = record {
  takes = repeat-takes f p n;
  again = λ xs rest fits. subst (λ k. repeat_at f.read k (flat_map f.spell xs ++ rest) ≡ Ok (xs, rest)) fits.0 (repeat-again f p xs rest fits.1);
  blames = λ bytes bad fits e. repeat-blames f p n bytes bad fits e;
}

pub counted-exact : {A : Type 0} (count : Format ℕ) (f : Format A) → IsExact count → IsExact f → IsExact (counted count f)
counted-exact count f p q =
    as_value-exact (λ x. x.1) (λ xs. (length xs, xs)) (bind count (λ n. repeat n f)) (bind-exact count (λ n. repeat n f) p (λ n. repeat-exact n f q))
    (λ a fits. λ i. (fits.1.0 i, a.1))

-- so many values are read as were asked for
pub repeat-length : {A : Type 0} (read : List ℕ → Result (A × List ℕ) Bad) (n : ℕ) (bytes : List ℕ) (x : List A × List ℕ) → repeat_at read n bytes ≡ Ok x
    → length x.0 ≡ n
repeat-length {A = A} read zero bytes x e = sym (ap (λ (y : List A × List ℕ). length y.0) (ok_is ([], bytes) x e))
repeat-length {A = A} read (suc n) bytes x e =
    let a = bind_ok (read bytes) (λ first. repeat_at read n first.1 >>= λ others. Ok (first.0 ∷ others.0, others.1)) x e in
    let b = bind_ok (repeat_at read n a.0.1) (λ others. Ok (a.0.0 ∷ others.0, others.1)) x a.2 in
    sym (ap (λ (y : List A × List ℕ). length y.0) (ok_is (a.0.0 ∷ b.0.0, b.0.1) x b.2)) ∙ ap suc (repeat-length read n a.0.1 b.0 b.1)

-- ---- all of the bytes

ended-blames : {A : Type 0} (b : Bool) (d bad : Bad) (x : A) → cond b (Ok x) (failed d) ≡ Err bad → bad.0 ≡ d.0
ended-blames true d bad x e = absurd cc
ended-blames {A = A} false d bad x e = ap (λ (z : Bad). z.0) (sym (err_is {B = A} d bad e))

pub whole-takes : {A : Type 0} (rule : ℕ) (f : Format A) → IsExact f → (bytes : List ℕ) (a : A) → IsBytes bytes → whole rule f bytes ≡ Ok a
    → (bytes ≡ f.spell a) × f.Fits a
whole-takes rule f p bytes a fits e =
    let x = bind_ok (f.read bytes) (λ x. cond (eqb (length x.1) 0) (Ok x.0) (Err (length x.1, rule))) a e in
    let g = guard_ended (eqb (length x.0.1) 0) (length x.0.1, rule) x.0.0 a x.2 in
    let one = p.takes bytes x.0 fits x.1 in
    let nothing : x.0.1 ≡ [] = nil_from_length x.0.1 (eqb-true _ _ g.0) in
    let all : bytes ≡ f.spell x.0.0 = one.parts ∙ ap (λ (r : List ℕ). f.spell x.0.0 ++ r) nothing ∙ append-nil (f.spell x.0.0) in
    subst (λ y. (bytes ≡ f.spell y) × f.Fits y) g.1 (all, one.fits)

pub whole-again : {A : Type 0} (rule : ℕ) (f : Format A) → IsExact f → (a : A) → f.Fits a → whole rule f (f.spell a) ≡ Ok a
whole-again rule f p a fits =
    let read : f.read (f.spell a) ≡ Ok (a, []) = ap f.read (sym (append-nil (f.spell a))) ∙ p.again a [] fits in
    rw read refl

pub whole-blames : {A : Type 0} (rule : ℕ) (f : Format A) → IsExact f → (bytes : List ℕ) (bad : Bad) → IsBytes bytes → whole rule f bytes ≡ Err bad
    → bad.0 ≤ length bytes
whole-blames rule f p bytes bad fits e =
    elim (bind_err (f.read bytes) (λ x. cond (eqb (length x.1) 0) (Ok x.0) (Err (length x.1, rule))) bad e) [
      | inl h ↦ p.blames bytes bad fits h
      | inr x ↦
          let short = Reads-short f bytes x.0 (p.takes bytes x.0 fits x.1) in
          omega (arith, ended-blames (eqb (length x.0.1) 0) (length x.0.1, rule) bad x.0.0 x.2)
    ]

-- the offset of a bad field, from the bytes that are left
pub refused : {A : Type 0} (read : Result A Bad) (n left rule offset : ℕ) → offset ≡ n - left → left ≤ n → read ≡ Err (left, rule)
    → (offset ≤ n) × (read ≡ Err (n - offset, rule))
refused read n left rule offset e le h =
    let same : left ≡ n - offset = omega arith in
    (omega arith, h ∙ ap (λ (z : ℕ). Err (z, rule)) same)

pub err_not_ok : {A : Type 0} (d : Bad) (x : A) → failed d ≡ Ok x → ⊥
err_not_ok d x e = cc
