-- The Polls and Touches of a log in the order of their ordinals, as the log grows.
use Rattle.std.proofs.Common.{◌≡◌, ℕ, zero, suc, ◌+◌, ◌<◌, Bool, true, false, cond, List, [], ◌∷◌, ◌++◌, length, map, flat_map, find, Option, Some, None}
use Rattle.std.proofs.Common.{slice_get, is_some, count_by, refl, sym, ap, ap₂, ◌∙◌, arith, true≢false}
use Rattle.std.specs.List.{enumerate_from, filter_map}
use Rattle.std.specs.Option.{option_or}
use Rattle.std.proofs.lemmas.Option.{none-some, same_Some}
use Rattle.std.proofs.lemmas.Bool.{eq-eqb}
use Rattle.std.proofs.lemmas.List.Folds.{find-append}
use Rattle.std.proofs.lemmas.List.Elements.{filter_map-append}
use Rattle.order_rules.proofs.Takings.{number_met}
use Rattle.log_entry.specs.declared.log.Entry.{Entry}
use Rattle.log_entry.specs.declared.log.Entry.TheVariants.{End}
use Rattle.log_entry.specs.Parts.{ordinal_of}
use Rattle.orders_law.specs.Orders.{below}
use Rattle.order_rules.specs.Places.{is_number}
use Rattle.crew_recording.specs.Recording.{stream_in}
use Rattle.crew_recording.proofs.Numbers.{At, pushed, stays_at, last_at, many_ended, IsNumbered, numbered_more, numbered_still, found_in_all}

abbrev found : List (List Entry) → ℕ → Option Entry
found streams k = find (λ e. is_number k (ordinal_of e)) (flat_map (λ s. s) streams)

-- the entries with ordinals below this one
abbrev pub in_order : List (List Entry) → ℕ → List Entry
in_order streams n = filter_map (found streams) (below n)

find_some : (test : Entry → Bool) (s : List Entry) (i : ℕ) (e : Entry) → slice_get s i ≡ Some e → test e ≡ true → (x : Entry) × (find test s ≡ Some x)
find_some test [] i e at t = absurd (none-some _ at)
find_some test (y ∷ s) i e at t = by (test y) refl i at (λ j there. find_some test s j e there t) where
  by : (b : Bool) → test y ≡ b → (i : ℕ) → slice_get (y ∷ s) i ≡ Some e → ((j : ℕ) → slice_get s j ≡ Some e → (x : Entry) × (find test s ≡ Some x))
      → (x : Entry) × (find test (y ∷ s) ≡ Some x)
  by true is i at later = (y, ap (λ b. cond b (Some y) (find test s)) is)
  by false is zero at later = absurd (true≢false (sym t ∙ ap test (sym (same_Some _ _ at)) ∙ is))
  by false is (suc i) at later = let r = later i at in (r.0, ap (λ b. cond b (Some y) (find test s)) is ∙ r.1)

find_in : (test : Entry → Bool) (streams : List (List Entry)) (g i : ℕ) (e : Entry) → At streams g i e → test e ≡ true
    → (x : Entry) × (find test (flat_map (λ s. s) streams) ≡ Some x)
find_in test [] g i e at t = absurd (none-some _ at)
find_in test (s ∷ streams) zero i e at t = let r = find_some test s i e at t in
    (r.0, find-append test s (flat_map (λ s. s) streams) ∙ ap (λ o. option_or o (find test (flat_map (λ s. s) streams))) r.1)
find_in test (s ∷ streams) (suc g) i e at t = by (find test s) refl (find_in test streams g i e at t) where
  by : (o : Option Entry) → find test s ≡ o → (x : Entry) × (find test (flat_map (λ s. s) streams) ≡ Some x)
      → (x : Entry) × (find test (flat_map (λ s. s) (s ∷ streams)) ≡ Some x)
  by None is r = (r.0, find-append test s (flat_map (λ s. s) streams) ∙ ap (λ o. option_or o (find test (flat_map (λ s. s) streams))) is ∙ r.1)
  by (Some x) is r = (x, find-append test s (flat_map (λ s. s) streams) ∙ ap (λ o. option_or o (find test (flat_map (λ s. s) streams))) is)

-- the entry with an ordinal is the one that carries it
found_is : (next : ℕ) (streams : List (List Entry)) (g i k : ℕ) (e : Entry) → IsNumbered ordinal_of next streams → At streams g i e → ordinal_of e ≡ Some k
    → found streams k ≡ Some e
found_is next streams g i k e numbered at is =
    let f = find_in (λ x. is_number k (ordinal_of x)) streams g i e at (ap (is_number k) is ∙ eq-eqb k k refl) in
    let w = found_in_all (λ x. is_number k (ordinal_of x)) streams f.0 f.1 in
    let one = numbered.once w.0 w.1 g i k f.0 e w.2 at (number_met k (ordinal_of f.0) w.3) is in
    f.1 ∙ (sym w.2 ∙ ap₂ (λ h j. slice_get (stream_in streams h) j) one.0 one.1 ∙ at)

same_below : (one other : List (List Entry)) (n : ℕ) → ((k : ℕ) → k < n → found one k ≡ found other k) → in_order one n ≡ in_order other n
same_below one other zero each = refl
same_below one other (suc n) each =
    filter_map-append (found one) (below n) (n ∷ [])
    ∙ ap₂ (λ xs o. xs ++ filter_map (λ (x : Option Entry). x) (o ∷ [])) (same_below one other n (λ k l. each k (omega (arith, l)))) (each n (omega arith))
    ∙ sym (filter_map-append (found other) (below n) (n ∷ []))

pub in_order_still : (n : ℕ) (streams : List (List Entry)) (h : ℕ) (e : Entry) → h < length streams → ordinal_of e ≡ None → IsNumbered ordinal_of n streams
    → in_order (pushed h e streams) n ≡ in_order streams n
in_order_still n streams h e l none numbered = same_below (pushed h e streams) streams n (λ k less.
    let z = numbered.each k less in
    found_is n (pushed h e streams) z.0 z.1 k z.2 (numbered_still ordinal_of n streams h e l none numbered) (stays_at streams h e l z.0 z.1 z.2 z.3) z.4
    ∙ sym (found_is n streams z.0 z.1 k z.2 numbered z.3 z.4))

pub in_order_more : (n : ℕ) (streams : List (List Entry)) (h : ℕ) (e : Entry) → h < length streams → ordinal_of e ≡ Some n → IsNumbered ordinal_of n streams
    → in_order (pushed h e streams) (n + 1) ≡ in_order streams n ++ e ∷ []
in_order_more n streams h e l is numbered =
    let more = numbered_more ordinal_of n streams h e l is numbered in
    let next : n + 1 ≡ suc n = omega arith in
    ap (in_order (pushed h e streams)) next
    ∙ filter_map-append (found (pushed h e streams)) (below n) (n ∷ [])
    ∙ ap₂ (λ xs o. xs ++ filter_map (λ (x : Option Entry). x) (o ∷ []))
    (same_below (pushed h e streams) streams n (λ k less.
    let z = numbered.each k less in
    found_is (n + 1) (pushed h e streams) z.0 z.1 k z.2 more (stays_at streams h e l z.0 z.1 z.2 z.3) z.4
    ∙ sym (found_is n streams z.0 z.1 k z.2 numbered z.3 z.4)))
    (found_is (n + 1) (pushed h e streams) h (length (stream_in streams h)) n e more (last_at streams h e l) is)

-- the Ends carry no ordinals
find_ended : (k : ℕ) (count : ℕ → ℕ) (n : ℕ) (streams : List (List Entry))
    → found (map (λ (s : ℕ × List Entry). s.1 ++ End (count s.0) ∷ []) (enumerate_from n streams)) k ≡ found streams k
find_ended k count n [] = refl
find_ended k count n (s ∷ streams) =
    let test : Entry → Bool = λ e. is_number k (ordinal_of e) in
    let rest = flat_map (λ s. s) (map (λ (s : ℕ × List Entry). s.1 ++ End (count s.0) ∷ []) (enumerate_from (n + 1) streams)) in
    find-append test (s ++ End (count n) ∷ []) rest
    ∙ ap₂ option_or (find-append test s (End (count n) ∷ []) ∙ last (find test s)) (find_ended k count (n + 1) streams)
    ∙ sym (find-append test s (flat_map (λ s. s) streams))
  where
    last : (o : Option Entry) → option_or o None ≡ o
    last None = refl
    last (Some x) = refl

pub by_ordinal_is : (count : ℕ → ℕ) (n : ℕ) (streams : List (List Entry)) → IsNumbered ordinal_of n streams
    → filter_map (found (map (λ (s : ℕ × List Entry). s.1 ++ End (count s.0) ∷ []) (enumerate_from 0 streams)))
    (below (count_by (λ e. is_some (ordinal_of e))
    (flat_map (λ s. s) (map (λ (s : ℕ × List Entry). s.1 ++ End (count s.0) ∷ []) (enumerate_from 0 streams))))) ≡ in_order streams n
by_ordinal_is count n streams numbered =
    let log = map (λ (s : ℕ × List Entry). s.1 ++ End (count s.0) ∷ []) (enumerate_from 0 streams) in
    ap (in_order log) (many_ended (λ e. is_some (ordinal_of e)) count 0 streams (λ c. refl) ∙ numbered.count)
    ∙ same_below log streams n (λ k less. find_ended k count 0 streams)
