-- The log of an ordered recording keeps the rules on single streams, on numbers, and on ordinals and times.
use Rattle.std.proofs.Common.{◌≡◌, ◌⊎◌, ℕ, zero, suc, ◌<◌, ◌≤◌, ◌==◌, not, Bool, true, false, List, [], ◌∷◌, ◌++◌, length, find, Option, Some, None, slice_get}
use Rattle.std.proofs.Common.{slice_index, is_some, unwrap_or, refl, sym, ap, ◌∙◌, subst, inl, inr, ⊎_elim, arith, true≢false}
use Rattle.std.specs.List.{enumerate_from}
use Rattle.std.specs.Option.{option_and_then}
use Rattle.std.proofs.lemmas.Option.{none-some, slice_get_within}
use Rattle.std.proofs.lemmas.Bool.{eqb-true, and_right, le-ltb, or_from}
use Rattle.std.proofs.lemmas.Bool.Decides.{leb_tells}
use Rattle.std.proofs.lemmas.List.FromFn.{length-enumerate_from}
use Rattle.std.proofs.lemmas.List.{length-map}
use Rattle.shared_types.proofs.Lists.{at_front, at_one_more}
use Rattle.rv_words.specs.declared.shared.Cause.{Cause}
use Rattle.log_entry.specs.declared.log.Entry.{Entry}
use Rattle.log_entry.specs.declared.log.Entry.TheVariants as entries
use Rattle.log_entry.specs.declared.log.Log.{Log}
use Rattle.log_entry.specs.Parts.{is_end, page_number, ordinal_of, time_of, is_some_and}
use Rattle.order_rules.specs.Places.{Placed, stream, entry_at, number_on, is_number}
use Rattle.order_rules.specs.Rules.{breaks_o1, breaks_o2, breaks_o3, breaks_o4, breaks_o5, breaks_o8, is_misnumbered, with_ordinal, time_before}
use Rattle.order_rules.specs.Rules.{ordinals_are_right}
use Rattle.order_rules.specs.Orderly.{Spot, spots, at_entry, Keeps, o1, o2, o3, o4, o5, o8}
use Rattle.order_rules.proofs.Least.{first_is_least}
use Rattle.replay_model.specs.Flat.{Flat}
use Rattle.crew_recording.proofs.Tests.{some_and_false}
use Rattle.crew_recording.specs.Recording.{Recording, IsSteady, stream_in, log_of_recording}
use Rattle.crew_recording.specs.Allowed.{IsTimed}
use Rattle.crew_recording.proofs.Streams.{ended_at, ended_beyond}
use Rattle.crew_recording.proofs.Single.{IsWholeStream, whole, o1_kept, o2_kept, o3_kept, o4_kept}
use Rattle.crew_recording.proofs.Numbers.{At, IsNumbered, many_ended, found_in_all, numbers_right}
use Rattle.crew_recording.proofs.OrderedRecordings.{IsOrdered}

module _ {S V : Type 0} (flat : Flat S V) (harts : ℕ) (Good : S → Type 0) (steady : IsSteady flat harts Good) (timed : IsTimed flat Good) (pages limit : ℕ)
    (image : List ℕ) (cause : Cause) (s : Recording S) (ordered : IsOrdered flat harts Good steady timed pages limit s) where
  abbrev pub log : Log
  log = log_of_recording flat pages limit image cause s

  abbrev pub count : ℕ → ℕ
  count h = flat.count s.at.flat h

  pub many_streams : length log.streams ≡ harts
  many_streams = length-map (enumerate_from 0 s.streams) _ ∙ length-enumerate_from 0 s.streams ∙ ordered.tidy.streams

  pub stream_is : (h : ℕ) → h < harts → stream log h ≡ stream_in s.streams h ++ entries.End (count h) ∷ []
  stream_is h l = ended_at count s.streams h (let z = ordered.tidy.streams in omega (arith, l, z))

  pub whole_stream : (h : ℕ) → h < harts → IsWholeStream log.limit (stream log h) (count h)
  whole_stream h l = subst (λ xs. IsWholeStream limit xs (count h)) (sym (stream_is h l)) (whole limit (stream_in s.streams h) (count h) (ordered.each h l))

  -- an entry that stood in the recording stands in the log
  pub stands : (h i : ℕ) (e : Entry) → At s.streams h i e → entry_at log h i ≡ Some e
  stands h i e at =
      subst (λ xs. slice_get xs i ≡ Some e) (sym (stream_is h (there h at))) (at_front (stream_in s.streams h) (entries.End (count h) ∷ []) e i at)
    where
      there : (h : ℕ) → At s.streams h i e → h < harts
      there h at = elim (leb_tells harts h) [
        | inl (t, l) ↦ absurd (none-some _
            (sym (ap (λ o. slice_get (unwrap_or o []) i) (beyond s.streams h (let z = ordered.tidy.streams in omega (arith, l, z)))) ∙ at))
        | inr (f, l) ↦ omega (arith, l)
      ] where
        beyond : {X : Type 0} (xs : List X) (i : ℕ) → length xs ≤ i → slice_get xs i ≡ None
        beyond [] i l = refl
        beyond (x ∷ xs) zero l = absurd (omega (arith, l))
        beyond (x ∷ xs) (suc i) l = beyond xs i (omega (arith, l))

  -- an entry of the log stood in the recording, or is the End of its hart
  pub stood : (h i : ℕ) (e : Entry) → entry_at log h i ≡ Some e → (At s.streams h i e) ⊎ ((i ≡ length (stream_in s.streams h)) × (entries.End (count h) ≡ e))
  stood h i e at = elim (leb_tells harts h) [
    | inl (t, l) ↦ absurd (none-some _
        (sym (ap (λ o. slice_get (unwrap_or o []) i) (ended_beyond count 0 s.streams h (let z = ordered.tidy.streams in omega (arith, l, z)))) ∙ at))
    | inr (f, l) ↦ ⊎_elim (λ a. inl a.1) (λ b. inr b)
        (at_one_more (stream_in s.streams h) (entries.End (count h)) e i (subst (λ xs. slice_get xs i ≡ Some e) (stream_is h (omega (arith, l))) at))
  ]

  keeps : (test : Spot → Bool) → ((h i : ℕ) → h < harts → test (h, i) ≡ false) → find test (spots log) ≡ None
  keeps test each = first_is_least.no_first log test
      (λ p spot. each p.0 p.1 (let l = slice_get_within log.streams p.0 spot.0 spot.1 in let z = many_streams in omega (arith, l, z)))

  pub on_entries : (test : Placed → Bool)
      → ((h i : ℕ) (e : Entry) → h < harts → entry_at log h i ≡ Some e → test (record { hart = h; place = i; entry = e }) ≡ false)
      → find (at_entry test log) (spots log) ≡ None
  on_entries test each = keeps (at_entry test log)
      (λ h i l. some_and_false (entry_at log h i) (λ e. test (record { hart = h; place = i; entry = e })) (λ e at. each h i e l at))

  pub keeps_o1 : Keeps log o1
  keeps_o1 = keeps (o1 log) (λ h i l. or_from _ _
      (some_and_false (entry_at log h i) (λ e. breaks_o1 log (record { hart = h; place = i; entry = e }))
      (λ e at. o1_kept log h (count h) (whole_stream h l) i e at))
      (and_right (i == length (stream log h)) _ (ap (λ o. not (is_some_and o is_end)) (whole_stream h l).last)))

  pub keeps_o2 : Keeps log o2
  keeps_o2 = on_entries (breaks_o2 log) (λ h i e l at. o2_kept log h (count h) (whole_stream h l) i e at)

  pub keeps_o3 : Keeps log o3
  keeps_o3 = on_entries (breaks_o3 log) (λ h i e l at. o3_kept log h (count h) (whole_stream h l) i e at)

  pub keeps_o4 : Keeps log o4
  keeps_o4 = on_entries (breaks_o4 log) (λ h i e l at. o4_kept log h (count h) (whole_stream h l) i e at)

  -- numbers that Ends don't carry are right
  right : (number : Entry → Option ℕ) (next : ℕ) → ((c : ℕ) → number (entries.End c) ≡ None) → IsNumbered number next s.streams → (h i : ℕ) (e : Entry)
      → entry_at log h i ≡ Some e → is_misnumbered number log (record { hart = h; place = i; entry = e }) ≡ false
  right number next none numbered h i e at = numbers_right log number next h i e at
      (λ g j k x at_x is. ⊎_elim (λ a. numbered.below g j k x a is) (λ b. absurd (none-some _ (sym (none (count g)) ∙ ap number b.1 ∙ is))) (stood g j x at_x))
      (λ g j f l k x y at_x at_y is_x is_y. ⊎_elim
      (λ a. ⊎_elim (λ b. numbered.once g j f l k x y a b is_x is_y) (λ b. absurd (none-some _ (sym (none (count f)) ∙ ap number b.1 ∙ is_y)))
      (stood f l y at_y))
      (λ a. absurd (none-some _ (sym (none (count g)) ∙ ap number a.1 ∙ is_x)))
      (stood g j x at_x))
      (many_ended (λ x. is_some (number x)) count 0 s.streams (λ c. ap is_some (none c)) ∙ numbered.count)

  page_there : (h i : ℕ) (e : Entry) (p : ℕ × ℕ) → entry_at log h i ≡ Some e → page_number e ≡ Some p → p.0 < pages
  page_there h i e p at is = ⊎_elim (λ a. ordered.in_pages h i e p a is) (λ b. absurd (none-some _ (ap page_number b.1 ∙ is))) (stood h i e at)

  pub keeps_o5 : Keeps log o5
  keeps_o5 = on_entries (breaks_o5 log) (λ h i e l at. some_and_false (page_number e) _ (λ p is.
      right (number_on p.0) (slice_index s.at.cursor.numbers p.0) (λ c. refl) (ordered.numbers p.0 (page_there h i e p at is)) h i e at))

  ordinal_is : (k : ℕ) (e : Entry) (o : Option ℕ) → ordinal_of e ≡ o → is_number k o ≡ true → ordinal_of e ≡ Some k
  ordinal_is k e None is t = absurd (true≢false (sym t))
  ordinal_is k e (Some m) is t = is ∙ ap Some (eqb-true m k t)

  -- no time before an ordinal is greater than that of an entry at or behind it
  times_rise : (h i n t : ℕ) (e : Entry) → entry_at log h i ≡ Some e → ordinal_of e ≡ Some n → time_of e ≡ Some t → (m : ℕ) → m ≤ n → time_before log m ≤ t
  times_rise h i n t e at ord time zero l = omega arith
  times_rise h i n t e at ord time (suc m) l = through (times_rise h i n t e at ord time m (omega (arith, l))) (with_ordinal log m) refl where
    earlier : (x : Entry) → with_ordinal log m ≡ Some x → (q : ℕ) → time_of x ≡ Some q → q ≤ t
    earlier x found q is =
        let p = found_in_all (λ z. is_number m (ordinal_of z)) log.streams x found in
        let o = ordinal_is m x (ordinal_of x) refl p.3 in
        ⊎_elim
        (λ a. ⊎_elim (λ b. ordered.rise p.0 p.1 h i m n q t x e a b o ord (omega (arith, l)) is time) (λ b. absurd (none-some _ (ap ordinal_of b.1 ∙ ord)))
        (stood h i e at))
        (λ a. absurd (none-some _ (ap ordinal_of a.1 ∙ o)))
        (stood p.0 p.1 x p.2)

    timed_by : time_before log m ≤ t → (x : Entry) → with_ordinal log m ≡ Some x → (o : Option ℕ) → time_of x ≡ o → unwrap_or o (time_before log m) ≤ t
    timed_by so_far x found None is = so_far
    timed_by so_far x found (Some q) is = earlier x found q is

    through : time_before log m ≤ t → (o : Option Entry) → with_ordinal log m ≡ o
        → unwrap_or (option_and_then time_of (with_ordinal log m)) (time_before log m) ≤ t
    through so_far None f = subst (λ o. unwrap_or (option_and_then time_of o) (time_before log m) ≤ t) (sym f) so_far
    through so_far (Some x) f = subst (λ o. unwrap_or (option_and_then time_of o) (time_before log m) ≤ t) (sym f) (timed_by so_far x f (time_of x) refl)

  pub keeps_o8 : Keeps log o8
  keeps_o8 = on_entries (breaks_o8 log) (λ h i e l at. or_from _ _ (right ordinal_of s.at.cursor.ordinal (λ c. refl) ordered.ordinals h i e at)
      (and_right (ordinals_are_right log) _
      (some_and_false (time_of e) _
      (λ t time. some_and_false (ordinal_of e) _ (λ n ord. le-ltb t (time_before log n) (times_rise h i n t e at ord time n (omega arith)))))))
