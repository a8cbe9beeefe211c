-- Numbers that entries of all streams carry: 0, 1, 2 and so on, each once.
use Rattle.std.proofs.Common.{◌≡◌, ◌≢◌, ◌⊎◌, ℕ, zero, suc, ◌+◌, ◌<◌, ◌==◌, ◌||◌, Bool, true, false, cond, List, [], ◌∷◌, ◌++◌, length, take, map, flat_map}
use Rattle.std.proofs.Common.{find, Option, Some, None, slice_get, slice_set, is_some, count_by, refl, sym, ap, ap₂, ◌∙◌, subst, inl, inr, ⊎_elim, arith}
use Rattle.std.specs.List.{list_any, enumerate_from}
use Rattle.std.specs.Option.{option_or}
use Rattle.std.proofs.lemmas.Option.{none-some, same_Some}
use Rattle.std.proofs.lemmas.Bool.{ne_eqb, lt-leb, or_from}
use Rattle.std.proofs.lemmas.Bool.Decides.{eqb_tells}
use Rattle.std.proofs.lemmas.List.Folds.{find-append, list_any-append}
use Rattle.std.proofs.lemmas.List.Sums.{sum_by-append}
use Rattle.shared_types.proofs.Lists.{at_front, at_one_more, find_place, in_take, none_there}
use Rattle.log_entry.specs.declared.log.Entry.{Entry}
use Rattle.log_entry.specs.declared.log.Entry.TheVariants.{End}
use Rattle.log_entry.specs.declared.log.Log.{Log}
use Rattle.order_rules.specs.Places.{stream, entry_at, is_number}
use Rattle.order_rules.specs.Rules.{is_misnumbered}
use Rattle.crew_recording.proofs.Tests.{some_and_false}
use Rattle.crew_recording.specs.Recording.{stream_in}
use Rattle.crew_recording.proofs.Streams.{stream_here, stream_there}

-- an entry at a place of a hart's stream
abbrev pub At : List (List Entry) → ℕ → ℕ → Entry → Type 0
At streams h i e = slice_get (stream_in streams h) i ≡ Some e

abbrev pub pushed : ℕ → Entry → List (List Entry) → List (List Entry)
pushed h e streams = slice_set streams h (stream_in streams h ++ e ∷ [])

-- what stands in the streams once an entry was pushed: what stood there, and that entry
pub at_pushed : (streams : List (List Entry)) (h : ℕ) (e : Entry) → h < length streams → (g i : ℕ) (x : Entry) → At (pushed h e streams) g i x
    → (At streams g i x) ⊎ ((g ≡ h) × (i ≡ length (stream_in streams h)) × (e ≡ x))
at_pushed streams h e l g i x at = by (eqb_tells g h) where
  by : (((g == h) ≡ true) × (g ≡ h)) ⊎ (((g == h) ≡ false) × (g ≢ h)) → (At streams g i x) ⊎ ((g ≡ h) × (i ≡ length (stream_in streams h)) × (e ≡ x))
  by (inr (f, n)) = inl (subst (λ s. slice_get s i ≡ Some x) (stream_there streams h g (stream_in streams h ++ e ∷ []) n) at)
  by (inl (t, same)) =
      let here : slice_get (stream_in streams h ++ e ∷ []) i ≡ Some x =
      subst (λ s. slice_get s i ≡ Some x) (stream_here streams h (stream_in streams h ++ e ∷ []) l) (subst (λ k. At (pushed h e streams) k i x) same at) in
      ⊎_elim (λ a. inl (subst (λ k. At streams k i x) (sym same) a.1)) (λ b. inr (same, b.0, b.1)) (at_one_more (stream_in streams h) e x i here)

pub stays_at : (streams : List (List Entry)) (h : ℕ) (e : Entry) → h < length streams → (g i : ℕ) (x : Entry) → At streams g i x → At (pushed h e streams) g i x
stays_at streams h e l g i x at = by (eqb_tells g h) where
  by : (((g == h) ≡ true) × (g ≡ h)) ⊎ (((g == h) ≡ false) × (g ≢ h)) → At (pushed h e streams) g i x
  by (inr (f, n)) = subst (λ s. slice_get s i ≡ Some x) (sym (stream_there streams h g (stream_in streams h ++ e ∷ []) n)) at
  by (inl (t, same)) =
      subst (λ k. At (pushed h e streams) k i x) (sym same)
      (subst (λ s. slice_get s i ≡ Some x) (sym (stream_here streams h (stream_in streams h ++ e ∷ []) l))
      (at_front (stream_in streams h) (e ∷ []) x i (subst (λ k. At streams k i x) same at)))

pub last_at : (streams : List (List Entry)) (h : ℕ) (e : Entry) → h < length streams → At (pushed h e streams) h (length (stream_in streams h)) e
last_at streams h e l = subst (λ s. slice_get s (length (stream_in streams h)) ≡ Some e) (sym (stream_here streams h (stream_in streams h ++ e ∷ []) l))
    (end_of (stream_in streams h)) where
      end_of : (xs : List Entry) → slice_get (xs ++ e ∷ []) (length xs) ≡ Some e
      end_of [] = refl
      end_of (x ∷ xs) = end_of xs

-- how many entries of all streams pass a test
abbrev pub many : (Entry → Bool) → List (List Entry) → ℕ
many test streams = count_by test (flat_map (λ s. s) streams)

count_append : (test : Entry → Bool) (xs ys : List Entry) → count_by test (xs ++ ys) ≡ count_by test xs + count_by test ys
count_append test xs ys = sum_by-append (λ x. cond {A = ℕ} (test x) 1 0) xs ys

many_pushed : (test : Entry → Bool) (streams : List (List Entry)) (h : ℕ) (e : Entry) → h < length streams
    → many test (pushed h e streams) ≡ many test streams + count_by test (e ∷ [])
many_pushed test [] h e l = absurd (omega (arith, l))
many_pushed test (s ∷ streams) zero e l =
    let a = count_append test (s ++ e ∷ []) (flat_map (λ s. s) streams) in
    let b = count_append test s (e ∷ []) in
    let c = count_append test s (flat_map (λ s. s) streams) in
    omega (arith, a, b, c)
many_pushed test (s ∷ streams) (suc h) e l =
    let a = count_append test s (flat_map (λ s. s) (pushed h e streams)) in
    let b = many_pushed test streams h e (omega (arith, l)) in
    let c = count_append test s (flat_map (λ s. s) streams) in
    omega (arith, a, b, c)

count_one : (test : Entry → Bool) (e : Entry) → test e ≡ true → count_by test (e ∷ []) ≡ 1
count_one test e t = ap (λ (b : Bool). 0 + cond {A = ℕ} b 1 0) t

count_none : (test : Entry → Bool) (e : Entry) → test e ≡ false → count_by test (e ∷ []) ≡ 0
count_none test e t = ap (λ (b : Bool). 0 + cond {A = ℕ} b 1 0) t

-- the Ends pass no test that is false of them
pub many_ended : (test : Entry → Bool) (count : ℕ → ℕ) (n : ℕ) (streams : List (List Entry)) → ((c : ℕ) → test (End c) ≡ false)
    → many test (map (λ (s : ℕ × List Entry). s.1 ++ End (count s.0) ∷ []) (enumerate_from n streams)) ≡ many test streams
many_ended test count n [] none = refl
many_ended test count n (s ∷ streams) none =
    let a = count_append test (s ++ End (count n) ∷ [])
    (flat_map (λ s. s) (map (λ (s : ℕ × List Entry). s.1 ++ End (count s.0) ∷ []) (enumerate_from (n + 1) streams))) in
    let b = count_append test s (End (count n) ∷ []) in
    let c = count_append test s (flat_map (λ s. s) streams) in
    let d = count_none test (End (count n)) (none (count n)) in
    let e = many_ended test count (n + 1) streams none in
    omega (arith, a, b, c, d, e)

-- numbers below the next one, each carried by one entry
pub record IsNumbered (number : Entry → Option ℕ) (next : ℕ) (streams : List (List Entry)) : Type 0 where
  pub below : (g i k : ℕ) (e : Entry) → At streams g i e → number e ≡ Some k → k < next
  pub once : (g i h j k : ℕ) (e f : Entry) → At streams g i e → At streams h j f → number e ≡ Some k → number f ≡ Some k → (g ≡ h) × (i ≡ j)
  pub each : (k : ℕ) → k < next → (g : ℕ) × (i : ℕ) × (e : Entry) × (At streams g i e) × (number e ≡ Some k)
  pub count : many (λ e. is_some (number e)) streams ≡ next

pub numbered_more : (number : Entry → Option ℕ) (next : ℕ) (streams : List (List Entry)) (h : ℕ) (e : Entry) → h < length streams → number e ≡ Some next
    → IsNumbered number next streams → IsNumbered number (next + 1) (pushed h e streams)
numbered_more number next streams h e l is numbered = record {
  below = λ g i k x at n. ⊎_elim (λ a. let z = numbered.below g i k x a n in omega (arith, z))
      (λ b. let z = same_Some _ _ (sym is ∙ ap number b.2 ∙ n) in omega (arith, z)) (at_pushed streams h e l g i x at);
  once = λ g i f j k x y at_x at_y n m. alone g i f j k x y n m (at_pushed streams h e l g i x at_x) (at_pushed streams h e l f j y at_y);
  each = λ k less. found k less (eqb_tells k next);
  count = (let a = many_pushed (λ e. is_some (number e)) streams h e l in let b = count_one (λ e. is_some (number e)) e (ap is_some is) in
      let c = numbered.count in omega (arith, a, b, c));
}
  where
    alone : (g i f j k : ℕ) (x y : Entry) → number x ≡ Some k → number y ≡ Some k
        → (At streams g i x) ⊎ ((g ≡ h) × (i ≡ length (stream_in streams h)) × (e ≡ x))
        → (At streams f j y) ⊎ ((f ≡ h) × (j ≡ length (stream_in streams h)) × (e ≡ y)) → (g ≡ f) × (i ≡ j)
    alone g i f j k x y n m (inl a) (inl b) = numbered.once g i f j k x y a b n m
    alone g i f j k x y n m (inl a) (inr b) = let z = numbered.below g i k x a n in let w = same_Some _ _ (sym is ∙ ap number b.2 ∙ m) in
        absurd (omega (arith, z, w))
    alone g i f j k x y n m (inr a) (inl b) = let z = numbered.below f j k y b m in let w = same_Some _ _ (sym is ∙ ap number a.2 ∙ n) in
        absurd (omega (arith, z, w))
    alone g i f j k x y n m (inr a) (inr b) = (a.0 ∙ sym b.0, a.1 ∙ sym b.1)

    found : (k : ℕ) → k < next + 1 → (((k == next) ≡ true) × (k ≡ next)) ⊎ (((k == next) ≡ false) × (k ≢ next))
        → (g : ℕ) × (i : ℕ) × (x : Entry) × (At (pushed h e streams) g i x) × (number x ≡ Some k)
    found k less (inl (t, same)) = (h, length (stream_in streams h), e, last_at streams h e l, is ∙ ap Some (sym same))
    found k less (inr (f, n)) = let z = numbered.each k (omega (arith, less, n)) in (z.0, z.1, z.2, stays_at streams h e l z.0 z.1 z.2 z.3, z.4)

pub numbered_still : (number : Entry → Option ℕ) (next : ℕ) (streams : List (List Entry)) (h : ℕ) (e : Entry) → h < length streams → number e ≡ None
    → IsNumbered number next streams → IsNumbered number next (pushed h e streams)
numbered_still number next streams h e l is numbered = record {
  below = λ g i k x at n. ⊎_elim (λ a. numbered.below g i k x a n) (λ b. absurd (none-some _ (sym is ∙ ap number b.2 ∙ n))) (at_pushed streams h e l g i x at);
  once = λ g i f j k x y at_x at_y n m. alone g i f j k x y n m (at_pushed streams h e l g i x at_x) (at_pushed streams h e l f j y at_y);
  each = λ k less. let z = numbered.each k less in (z.0, z.1, z.2, stays_at streams h e l z.0 z.1 z.2 z.3, z.4);
  count = (let a = many_pushed (λ e. is_some (number e)) streams h e l in let b = count_none (λ e. is_some (number e)) e (ap is_some is) in
      let c = numbered.count in omega (arith, a, b, c));
}
  where
    alone : (g i f j k : ℕ) (x y : Entry) → number x ≡ Some k → number y ≡ Some k
        → (At streams g i x) ⊎ ((g ≡ h) × (i ≡ length (stream_in streams h)) × (e ≡ x))
        → (At streams f j y) ⊎ ((f ≡ h) × (j ≡ length (stream_in streams h)) × (e ≡ y)) → (g ≡ f) × (i ≡ j)
    alone g i f j k x y n m (inl a) (inl b) = numbered.once g i f j k x y a b n m
    alone g i f j k x y n m (inl a) (inr b) = absurd (none-some _ (sym is ∙ ap number b.2 ∙ m))
    alone g i f j k x y n m (inr a) other = absurd (none-some _ (sym is ∙ ap number a.2 ∙ n))

-- no entry of some streams passes a test that is false of each
pub none_in_all : (test : Entry → Bool) (streams : List (List Entry)) → ((g i : ℕ) (e : Entry) → At streams g i e → test e ≡ false)
    → list_any test (flat_map (λ s. s) streams) ≡ false
none_in_all test [] each = refl
none_in_all test (s ∷ streams) each =
    list_any-append test s (flat_map (λ s. s) streams)
    ∙ ap₂ (λ a b. a || b) (none_there test s (λ i e at. each 0 i e at)) (none_in_all test streams (λ g i e at. each (suc g) i e at))

-- what was found in all streams stands in one of them
pub found_in_all : (test : Entry → Bool) (streams : List (List Entry)) (e : Entry) → find test (flat_map (λ s. s) streams) ≡ Some e
    → (g : ℕ) × (i : ℕ) × (At streams g i e) × (test e ≡ true)
found_in_all test [] e f = absurd (none-some _ f)
found_in_all test (s ∷ streams) e f = by (find test s) refl (sym (find-append test s (flat_map (λ s. s) streams)) ∙ f)
    (λ d. found_in_all test streams e d) where
      by : (o : Option Entry) → find test s ≡ o → option_or o (find test (flat_map (λ s. s) streams)) ≡ Some e
          → (find test (flat_map (λ s. s) streams) ≡ Some e → (g : ℕ) × (i : ℕ) × (At streams g i e) × (test e ≡ true))
          → (g : ℕ) × (i : ℕ) × (At (s ∷ streams) g i e) × (test e ≡ true)
      by None is f rest = let r = rest f in (suc r.0, r.1, r.2, r.3)
      by (Some x) is f rest = let r = find_place test s e (is ∙ f) in (0, r.0, r.1, r.2)

at_first : (n : ℕ) (streams : List (List Entry)) (g i : ℕ) (e : Entry) → At (take n streams) g i e → (g < n) × (At streams g i e)
at_first zero streams g i e at = absurd (none-some _ at)
at_first (suc n) [] g i e at = absurd (none-some _ at)
at_first (suc n) (s ∷ streams) zero i e at = (omega arith, at)
at_first (suc n) (s ∷ streams) (suc g) i e at = let r = at_first n streams g i e at in let l = r.0 in (omega (arith, l), r.1)

-- numbers of a log that are carried once and are below their count are right
pub numbers_right : (log : Log) (number : Entry → Option ℕ) (next h i : ℕ) (e : Entry) → entry_at log h i ≡ Some e
    → ((g j k : ℕ) (x : Entry) → At log.streams g j x → number x ≡ Some k → k < next)
    → ((g j f l k : ℕ) (x y : Entry) → At log.streams g j x → At log.streams f l y → number x ≡ Some k → number y ≡ Some k → (g ≡ f) × (j ≡ l))
    → many (λ x. is_some (number x)) log.streams ≡ next
    → is_misnumbered number log (record { hart = h; place = i; entry = e }) ≡ false
numbers_right log number next h i e at below once count = some_and_false (number e) _ (λ n is.
    or_from _ _
    (lt-leb (many (λ x. is_some (number x)) log.streams) n (let l = below h i n e at is in omega (arith, l, count)))
    (list_any-append _ (flat_map (λ s. s) (take h log.streams)) (take i (stream log h))
    ∙ ap₂ (λ a b. a || b)
    (none_in_all _ (take h log.streams)
    (λ g j x at_x. let r = at_first h log.streams g j x at_x in
    differs n is (number x) x refl (λ m. let s = once g j h i n x e r.1 at m is in let l = r.0 in let z = s.0 in omega (arith, l, z))))
    (none_there _ (take i (stream log h))
    (λ j x at_x. let r = in_take (stream log h) i j x at_x in
    differs n is (number x) x refl (λ m. let s = once h j h i n x e r.1 at m is in let l = r.0 in let z = s.1 in omega (arith, l, z))))))
  where
    differs : (n : ℕ) → number e ≡ Some n → (o : Option ℕ) (x : Entry) → number x ≡ o → (number x ≡ Some n → ⊥) → is_number n o ≡ false
    differs n is None x m f = refl
    differs n is (Some k) x m f = ne_eqb k n (λ same. f (m ∙ ap Some same))
