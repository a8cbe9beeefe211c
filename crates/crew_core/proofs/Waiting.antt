-- Numbers and waits, as entries are added to the streams.
use Rattle.std.proofs.Common.{◌≡◌, ◌≢◌, ◌⊎◌, inl, inr, ℕ, zero, suc, ◌+◌, ◌<◌, ◌==◌, ◌++◌, Bool, true, false, cond, List, [], ◌∷◌, length, map}
use Rattle.std.proofs.Common.{flat_map, find, Option, Some, None, slice_get, slice_index, slice_set, unwrap_or, refl, sym, ap, ap₂, ◌∙◌, subst, arith}
use Rattle.std.proofs.Common.{if◌then◌else◌}
use Rattle.std.specs.List.{enumerate_from}
use Rattle.std.specs.Option.{option_or, option_and_then}
use Rattle.std.proofs.lemmas.Option.{none-some, same_Some}
use Rattle.std.proofs.lemmas.Bool.{cases_eq, eq-eqb, ne_eqb}
use Rattle.std.proofs.lemmas.List.{length-set, map-append}
use Rattle.std.proofs.lemmas.List.Folds.{find-append}
use Rattle.log_entry.specs.declared.waits.WaitFor.{WaitFor}
use Rattle.log_entry.specs.declared.log.Entry.{Entry}
use Rattle.log_entry.specs.declared.log.Log.{Log}
use Rattle.log_entry.specs.Parts.{page_number, is_some_and}
use Rattle.order_rules.specs.Places.{is_number, number_on, numbered}
use Rattle.order_rules.specs.Rules.{waits_due, waits_after, yields_after}
use Rattle.std.proofs.lemmas.Option.{get_or_from_slice_get}
use Rattle.privilege_directory.specs.Directory.{by_others}
use Rattle.crew_core.specs.Standing.{WaitsFollow}
use Rattle.shared_types.proofs.Lists.{set_here, set_there}
use Rattle.crew_recording.specs.Recording.{stream_in}
use Rattle.crew_core.proofs.Machine.{index_there}
use Rattle.crew_recording.proofs.Numbers.{At, pushed, at_pushed}
use Rattle.turn_model.specs.Board.{Terms}
use Rattle.crew_core.specs.Standing.{AreNumbered, log_so_far}
use Rattle.privilege_directory.proofs.Follow.{after_entry}

-- all entries, each with its hart, from this hart on
abbrev all : ℕ → List (List Entry) → List (ℕ × Entry)
all n streams = flat_map (λ (s : ℕ × List Entry). map (λ e. (s.0, e)) s.1) (enumerate_from n streams)

abbrev named : ℕ → List Entry → List (ℕ × Entry)
named n s = map (λ e. (n, e)) s

found_or : (a b : Option (ℕ × Entry)) → b ≡ None → option_or a b ≡ a
found_or None b e = e
found_or (Some x) b e = refl

one_or : (t : Bool) (x : ℕ × Entry) → t ≡ false → cond t (Some x) None ≡ None
one_or true x e = absurd (let bad : ⊥ = cc in bad)
one_or false x e = refl

-- an entry that doesn't pass is not found
find_other : (test : ℕ × Entry → Bool) (n : ℕ) (streams : List (List Entry)) (h : ℕ) (e : Entry) → ((m : ℕ) → test (m, e) ≡ false)
    → find test (all n (pushed h e streams)) ≡ find test (all n streams)
find_other test n [] h e fails = refl
find_other test n (s ∷ streams) zero e fails =
    find-append test (named n (s ++ e ∷ [])) (all (n + 1) streams)
    ∙ ap (λ o. option_or o (find test (all (n + 1) streams)))
    (ap (find test) (map-append (λ (x : Entry). (n, x)) s (e ∷ [])) ∙ find-append test (named n s) ((n, e) ∷ [])
    ∙ found_or (find test (named n s)) _ (one_or (test (n, e)) (n, e) (fails n)))
    ∙ sym (find-append test (named n s) (all (n + 1) streams))
find_other test n (s ∷ streams) (suc h) e fails =
    find-append test (named n s) (all (n + 1) (pushed h e streams))
    ∙ ap (option_or (find test (named n s))) (find_other test (n + 1) streams h e fails)
    ∙ sym (find-append test (named n s) (all (n + 1) streams))

none_named : (test : ℕ × Entry → Bool) (n : ℕ) (s : List Entry) → ((i : ℕ) (x : Entry) → slice_get s i ≡ Some x → test (n, x) ≡ false) → find test (named n s)
    ≡ None
none_named test n [] fails = refl
none_named test n (x ∷ s) fails = ap (λ t. if t then Some (n, x) else find test (named n s)) (fails 0 x refl)
    ∙ none_named test n s (λ i y at. fails (suc i) y at)

one_found : (t : Bool) (x : ℕ × Entry) → t ≡ true → cond t (Some x) None ≡ Some x
one_found true x e = refl
one_found false x e = absurd (let bad : ⊥ = cc in bad)

-- the one that passes is found
find_here : (test : ℕ × Entry → Bool) (n : ℕ) (streams : List (List Entry)) (h : ℕ) (e : Entry) → h < length streams
    → ((g i : ℕ) (x : Entry) → At streams g i x → (m : ℕ) → test (m, x) ≡ false) → ((m : ℕ) → test (m, e) ≡ true)
    → find test (all n (pushed h e streams)) ≡ Some (n + h, e)
find_here test n [] h e l fails passes = absurd (omega (arith, l))
find_here test n (s ∷ streams) zero e l fails passes =
    find-append test (named n (s ++ e ∷ [])) (all (n + 1) streams)
    ∙ ap (λ o. option_or o (find test (all (n + 1) streams)))
    (ap (find test) (map-append (λ (x : Entry). (n, x)) s (e ∷ [])) ∙ find-append test (named n s) ((n, e) ∷ [])
    ∙ ap (λ o. option_or o (cond (test (n, e)) (Some (n, e)) None)) (none_named test n s (λ i x at. fails 0 i x at n))
    ∙ one_found (test (n, e)) (n, e) (passes n))
    ∙ ap (λ m. Some (m, e)) (let z : n ≡ n + 0 = omega arith in z)
find_here test n (s ∷ streams) (suc h) e l fails passes =
    find-append test (named n s) (all (n + 1) (pushed h e streams))
    ∙ ap (λ o. option_or o (find test (all (n + 1) (pushed h e streams)))) (none_named test n s (λ i x at. fails 0 i x at n))
    ∙ find_here test (n + 1) streams h e (omega (arith, l)) (λ g i x at. fails (suc g) i x at) passes
    ∙ ap (λ m. Some (m, e)) (let z : n + 1 + h ≡ n + suc h = omega arith in z)

-- waits are those of the entries with lesser numbers
waits_same : (one other : Log) (page g k : ℕ) → ((j : ℕ) → j < k → numbered other page j ≡ numbered one page j) → waits_due other page g k
    ≡ waits_due one page g k
waits_same one other page g zero same = refl
waits_same one other page g (suc k) same = ap₂ (waits_after g) (waits_same one other page g k (λ j l. same j (omega (arith, l)))) (same k (omega arith))

-- whether an entry has a number of a page
tests : (page j : ℕ) (e : Entry) (o : Option (ℕ × ℕ)) → page_number e ≡ o → is_number j (number_on page e)
    ≡ is_some_and (option_and_then (λ (x : ℕ × ℕ). if x.0 == page then Some x.1 else None) o) (λ m. m == j)
tests page j e o is = ap (λ z. is_some_and (option_and_then (λ (x : ℕ × ℕ). if x.0 == page then Some x.1 else None) z) (λ m. m == j)) is

no_number : (page j : ℕ) (e : Entry) → page_number e ≡ None → is_number j (number_on page e) ≡ false
no_number page j e is = tests page j e None is

pub other_page : (page q k j : ℕ) (e : Entry) → page_number e ≡ Some (q, k) → q ≢ page → is_number j (number_on page e) ≡ false
other_page page q k j e is n = tests page j e (Some (q, k)) is ∙ ap (λ t. is_some_and (if t then Some k else None) (λ m. m == j)) (ne_eqb q page n)

other_number : (page k j : ℕ) (e : Entry) → page_number e ≡ Some (page, k) → k ≢ j → is_number j (number_on page e) ≡ false
other_number page k j e is n = tests page j e (Some (page, k)) is ∙ ap (λ t. is_some_and (if t then Some k else None) (λ m. m == j)) (eq-eqb page page refl)
    ∙ ne_eqb k j n

this_number : (page k : ℕ) (e : Entry) → page_number e ≡ Some (page, k) → is_number k (number_on page e) ≡ true
this_number page k e is = tests page k e (Some (page, k)) is ∙ ap (λ t. is_some_and (if t then Some k else None) (λ m. m == k)) (eq-eqb page page refl)
    ∙ eq-eqb k k refl

-- no entry so far has a page's next number
not_yet : (streams : List (List Entry)) (numbers : List ℕ) (page : ℕ) → AreNumbered streams numbers → (g i : ℕ) (x : Entry) → At streams g i x
    → is_number (slice_index numbers page) (number_on page x) ≡ false
not_yet streams numbers page below g i x at = by (page_number x) refl where
  by : (o : Option (ℕ × ℕ)) → page_number x ≡ o → is_number (slice_index numbers page) (number_on page x) ≡ false
  by None is = no_number page (slice_index numbers page) x is
  by (Some (q, k)) is = elim (cases_eq q page) [
    | inl e ↦
        let l = below g i q k x at is in
        other_number page k (slice_index numbers page) x (is ∙ ap (λ z. Some (z, k)) e)
        (λ same. let m : k < slice_index numbers page = subst (λ z. k < slice_index numbers z) e l in absurd (omega (arith, m, same)))
    | inr n ↦ other_page page q k (slice_index numbers page) x is n
  ]

pub waits_more : (terms : Terms) (streams : List (List Entry)) (yields : List (List WaitFor)) (numbers : List ℕ) (h page : ℕ) (e : Entry) → h < length streams
    → page < length numbers → length yields ≡ length numbers
    → page_number e ≡ Some (page, slice_index numbers page) → AreNumbered streams numbers → WaitsFollow (log_so_far terms streams) yields numbers
    → WaitsFollow (log_so_far terms (pushed h e streams)) (slice_set yields page (yields_after h e (unwrap_or (slice_get yields page) [])))
    (slice_set numbers page (slice_index numbers page + 1))
waits_more terms streams yields numbers h page e l there size is below follow q g inside = elim (cases_eq q page) [
  | inl same ↦
      subst (λ z. waits_due (log_so_far terms (pushed h e streams)) z g (slice_index (slice_set numbers page ((slice_index numbers page) + 1)) z)
      ≡ by_others g (unwrap_or (slice_get (slice_set yields page (yields_after h e (unwrap_or (slice_get yields page) []))) z) [])) (sym same) on_page
  | inr n ↦
      ap (waits_due (log_so_far terms (pushed h e streams)) q g) (index_there numbers page q ((slice_index numbers page) + 1) n)
      ∙ waits_same (log_so_far terms streams) (log_so_far terms (pushed h e streams)) q g (slice_index numbers q)
      (λ j less. find_other (λ (x : ℕ × Entry). is_number j (number_on q x.1)) 0 streams h e
      (λ m. other_page q page (slice_index numbers page) j e is (λ z. n (sym z))))
      ∙ follow q g (omega (arith, inside, length-set yields page (yields_after h e (unwrap_or (slice_get yields page) []))))
      ∙ ap (λ o. by_others g (unwrap_or o [])) (sym (set_there yields page q (yields_after h e (unwrap_or (slice_get yields page) [])) n))
]
  where
    on_page : waits_due (log_so_far terms (pushed h e streams)) page g (slice_index (slice_set numbers page ((slice_index numbers page) + 1)) page)
        ≡ by_others g (unwrap_or (slice_get (slice_set yields page (yields_after h e (unwrap_or (slice_get yields page) []))) page) [])
    on_page =
        let next : (slice_index numbers page) + 1 ≡ suc (slice_index numbers page) = omega arith in
        let now : slice_index (slice_set numbers page ((slice_index numbers page) + 1)) page ≡ suc (slice_index numbers page) = get_or_from_slice_get
        (slice_set numbers page ((slice_index numbers page) + 1)) page ((slice_index numbers page) + 1) 0
        (set_here numbers page ((slice_index numbers page) + 1) there) ∙ next in
        let before : waits_due (log_so_far terms (pushed h e streams)) page g (slice_index numbers page) ≡ by_others g (unwrap_or (slice_get yields page) []) =
        waits_same (log_so_far terms streams) (log_so_far terms (pushed h e streams)) page g (slice_index numbers page)
        (λ j less. find_other (λ (x : ℕ × Entry). is_number j (number_on page x.1)) 0 streams h e
        (λ m. other_number page (slice_index numbers page) j e is (λ z. absurd (omega (arith, less, z)))))
        ∙ follow page g (omega (arith, there, size)) in
        let found : numbered (log_so_far terms (pushed h e streams)) page (slice_index numbers page) ≡ Some (h, e) = find_here
        (λ (x : ℕ × Entry). is_number (slice_index numbers page) (number_on page x.1)) 0 streams h e l
        (λ f i x at m. not_yet streams numbers page below f i x at) (λ m. this_number page (slice_index numbers page) e is)
        ∙ ap (λ z. Some (z, e)) (let z : 0 + h ≡ h = omega arith in z) in
        ap (waits_due (log_so_far terms (pushed h e streams)) page g) now
        ∙ ap (waits_after g (waits_due (log_so_far terms (pushed h e streams)) page g (slice_index numbers page))) found
        ∙ after_entry g h e (waits_due (log_so_far terms (pushed h e streams)) page g (slice_index numbers page)) (unwrap_or (slice_get yields page) []) before
        ∙ ap (λ o. by_others g (unwrap_or o [])) (sym (set_here yields page (yields_after h e (unwrap_or (slice_get yields page) []))
        (omega (arith, there, size))))

-- an entry of no page
pub waits_still : (terms : Terms) (streams : List (List Entry)) (yields : List (List WaitFor)) (numbers : List ℕ) (h : ℕ) (e : Entry) → page_number e ≡ None
    → WaitsFollow (log_so_far terms streams) yields numbers
    → WaitsFollow (log_so_far terms (pushed h e streams)) yields numbers
waits_still terms streams yields numbers h e is follow q g inside =
    waits_same (log_so_far terms streams) (log_so_far terms (pushed h e streams)) q g (slice_index numbers q)
    (λ j less. find_other (λ (x : ℕ × Entry). is_number j (number_on q x.1)) 0 streams h e (λ m. no_number q j e is))
    ∙ follow q g inside

pub numbered_more : (streams : List (List Entry)) (numbers : List ℕ) (h page : ℕ) (e : Entry) → h < length streams → page < length numbers → page_number e
    ≡ Some (page, slice_index numbers page) → AreNumbered streams numbers
    → AreNumbered (pushed h e streams) (slice_set numbers page (slice_index numbers page + 1))
numbered_more streams numbers h page e l there is below g i q k x at number = by (at_pushed streams h e l g i x at) (cases_eq q page) where
  here : slice_index (slice_set numbers page (slice_index numbers page + 1)) page ≡ slice_index numbers page + 1
  here = get_or_from_slice_get (slice_set numbers page (slice_index numbers page + 1)) page (slice_index numbers page + 1) 0
      (set_here numbers page (slice_index numbers page + 1) there)

  by : (At streams g i x) ⊎ ((g ≡ h) × (i ≡ length (stream_in streams h)) × (e ≡ x)) → (q ≡ page) ⊎ (q ≢ page)
      → k < slice_index (slice_set numbers page (slice_index numbers page + 1)) q
  by (inl a) (inl same) =
      let m = below g i q k x a number in
      let z : k < slice_index numbers page = subst (λ y. k < slice_index numbers y) same m in
      subst (λ y. k < slice_index (slice_set numbers page (slice_index numbers page + 1)) y) (sym same) (omega (arith, z, here))
  by (inl a) (inr n) = let m = below g i q k x a number in let z = index_there numbers page q (slice_index numbers page + 1) n in omega (arith, m, z)
  by (inr a) (inl same) =
      let z : k ≡ slice_index numbers page = ap (λ (y : ℕ × ℕ). y.1) (same_Some _ _ (sym number ∙ ap page_number (sym a.2) ∙ is)) in
      subst (λ y. k < slice_index (slice_set numbers page (slice_index numbers page + 1)) y) (sym same) (omega (arith, z, here))
  by (inr a) (inr n) = absurd (n (ap (λ (y : ℕ × ℕ). y.0) (same_Some _ _ (sym number ∙ ap page_number (sym a.2) ∙ is))))

pub numbered_still : (streams : List (List Entry)) (numbers : List ℕ) (h : ℕ) (e : Entry) → h < length streams → page_number e ≡ None
    → AreNumbered streams numbers → AreNumbered (pushed h e streams) numbers
numbered_still streams numbers h e l is below g i q k x at number = by (at_pushed streams h e l g i x at) where
  by : (At streams g i x) ⊎ ((g ≡ h) × (i ≡ length (stream_in streams h)) × (e ≡ x)) → k < slice_index numbers q
  by (inl a) = below g i q k x a number
  by (inr a) = absurd (none-some _ (sym is ∙ ap page_number a.2 ∙ number))
