-- What pages are held, and what Gains wait for, as the log of an ordered recording has it.
use Rattle.std.proofs.Common.{◌≡◌, ◌≢◌, ◌⊎◌, ℕ, zero, suc, ◌+◌, ◌<◌, ◌≤◌, ◌==◌, ◌&&◌, not, true, false, List, [], ◌∷◌, ◌++◌, length, Option, Some, None}
use Rattle.std.proofs.Common.{slice_get, slice_set, slice_index, refl, sym, ap, ap₂, ◌∙◌, subst, inl, inr, ⊎_elim, arith, if◌then◌else◌}
use Rattle.std.specs.Option.{option_and_then}
use Rattle.std.proofs.lemmas.Option.{none-some, same_Some, get_or_from_slice_get}
use Rattle.std.proofs.lemmas.Bool.{eq-eqb, lt-leb, or_from}
use Rattle.std.proofs.lemmas.Bool.Decides.{eqb_tells}
use Rattle.std.proofs.lemmas.List.{length_push}
use Rattle.shared_types.proofs.Lists.{at_end, mapped, none_there}
use lib.Pointwise.{pointwise}
use Rattle.rv_words.specs.declared.shared.Cause.{Cause}
use Rattle.rv_words.specs.declared.shared.Cause.TheVariants.{Limit}
use Rattle.log_entry.specs.declared.waits.WaitFor.{WaitFor}
use Rattle.log_entry.specs.declared.log.Entry.{Entry}
use Rattle.log_entry.specs.declared.log.Entry.TheVariants as entries
use Rattle.log_entry.specs.declared.log.Log.{Log}
use Rattle.log_entry.specs.Parts.{page_number, ordinal_of, holds_then, strength, conflict}
use Rattle.order_rules.specs.Places.{entry_at, harts, number_on, is_number, numbered}
use Rattle.order_rules.specs.Cursor.{Cursor}
use Rattle.order_rules.specs.Rules as rules
use Rattle.order_rules.specs.Rules.{breaks_o6, breaks_o7, waits_due, waits_after, same_wait}
use Rattle.order_rules.specs.Orderly.{Keeps, o5, o6, o7}
use Rattle.order_rules.proofs.Numbers.{numbers_name}
use Rattle.order_rules.proofs.Takings.{numbers_by, met_by, taken_is, number_met}
use Rattle.replay_model.specs.Flat.{Flat}
use Rattle.order_rules.specs.Holders.{with_held}
use Rattle.replay_model.specs.State.{Replay}
use Rattle.replay_model.specs.Items.{Item, Ended, Move, Makes}
use Rattle.order_rules.specs.Laws.{Follow}
use Rattle.order_rules.proofs.Follow.{still_follow}
use Rattle.flat_machine.specs.declared.act.Act.TheVariants.{Run}
use Rattle.crew_recording.specs.Recording.{Recording, IsSteady, IsRecorded, Records, stream_in}
use Rattle.crew_recording.specs.Allowed.{IsTimed, Allowed, AreAllowed, log_so_far}
use Rattle.crew_recording.proofs.Streams.{stream_here, stream_there}
use Rattle.crew_recording.proofs.Numbers.{At, pushed}
use Rattle.crew_recording.proofs.Tables.{FitsAt, fits_item}
use Rattle.crew_recording.proofs.Obedience.{grows}
use Rattle.crew_recording.proofs.OrderedRecordings.{IsOrdered, MadeEntry, made_entry, ordered_item, held_by}
use Rattle.crew_recording.proofs.Rules.{log, stands, stood, keeps_o5, on_entries}

-- an entry with a number on a page is of that page
on_page_is : (page k : ℕ) (e : Entry) (o : Option (ℕ × ℕ)) → page_number e ≡ o → number_on page e ≡ Some k → page_number e ≡ Some (page, k)
on_page_is page k e None is n = absurd (none-some _ (sym (ap (option_and_then (λ x. if x.0 == page then Some x.1 else None)) is) ∙ n))
on_page_is page k e (Some p) is n = elim (eqb_tells p.0 page) [
  | inl (t, same) ↦
      let m = same_Some _ _ (sym (ap (λ b. if b then Some p.1 else None) t) ∙ sym (ap (option_and_then (λ x. if x.0 == page then Some x.1 else None)) is)
      ∙ n) in
      is ∙ ap (λ (z : ℕ × ℕ). Some z) (λ i. (same i, m i))
  | inr (f, other) ↦ absurd
      (none-some _ (sym (ap (λ b. if b then Some p.1 else None) f) ∙ sym (ap (option_and_then (λ x. if x.0 == page then Some x.1 else None)) is) ∙ n))
]

same_waits : (xs : List WaitFor) → pointwise same_wait xs xs ≡ true
same_waits [] = refl
same_waits (x ∷ xs) = ap₂ (λ a b. a && b) (ap₂ (λ a b. a && b) (eq-eqb x.hart x.hart refl) (eq-eqb x.count x.count refl)) (same_waits xs)

module _ {S V : Type 0} (flat : Flat S V) (many : ℕ) (Good : S → Type 0) (steady : IsSteady flat many Good) (timed : IsTimed flat Good) (pages limit : ℕ) where
  abbrev Ordered : Recording S → Type 0
  Ordered r = IsOrdered flat many Good steady timed pages limit r

  pub ordered_all : (r s : Recording S) (items : List (ℕ × Item)) (is : Records flat r items s) → AreAllowed flat pages limit r s items is → Ordered r
      → Ordered s
  ordered_all r s [] is allowed ordered = subst Ordered is ordered
  ordered_all r s (x ∷ items) is allowed ordered = ordered_all is.0 s items is.2 allowed.1
      (ordered_item flat many Good steady timed pages limit r is.0 x.0 x.1 ordered is.1 allowed.0)

  module _ (image : List ℕ) (cause : Cause) (s : Recording S) (last : Ordered s) where
    abbrev final : Log
    final = log flat many Good steady timed pages limit image cause s last

    kept : Keeps final o5
    kept = keeps_o5 flat many Good steady timed pages limit image cause s last

    abbrev Follows : Replay S → Type 0
    Follows a = Follow final a.holders a.cursor.numbers

    -- an entry that is made stands in the log
    pub made_at : (r m : Recording S) (h : ℕ) (e : Entry) (items : List (ℕ × Item)) → IsRecorded flat r h (Makes e) m → Records flat m items s
        → entry_at final h (length (stream_in r.streams h)) ≡ Some e
    made_at r m h e items one more =
        let here : At m.streams h (length (stream_in r.streams h)) e =
        subst (λ ss. At ss h (length (stream_in r.streams h)) e) (sym one.streams)
        (subst (λ xs. slice_get xs (length (stream_in r.streams h)) ≡ Some e) (sym (stream_here r.streams h (stream_in r.streams h ++ e ∷ []) one.hart))
        (at_end (stream_in r.streams h) e)) in
        let grown = grows flat many Good steady h m s items more in
        stands flat many Good steady timed pages limit image cause s last h (length (stream_in r.streams h)) e
        (subst (λ xs. slice_get xs (length (stream_in r.streams h)) ≡ Some e) (sym grown.1)
        (front (stream_in m.streams h) grown.0 (length (stream_in r.streams h)) here))
      where
        front : (xs ys : List Entry) (i : ℕ) → slice_get xs i ≡ Some e → slice_get (xs ++ ys) i ≡ Some e
        front [] ys i at = absurd (none-some _ at)
        front (x ∷ xs) ys zero at = at
        front (x ∷ xs) ys (suc i) at = front xs ys i at

    page_follows : (r : Recording S) (h i : ℕ) (e : Entry) (p : ℕ × ℕ) → FitsAt flat many pages r.at → h < many → p.0 < pages → page_number e ≡ Some p
        → is_number p.1 (slice_get r.at.cursor.numbers p.0) ≡ true → entry_at final h i ≡ Some e → Follows r.at
        → Follow final (with_held r.at.holders p.0 h (holds_then e)) (slice_set r.at.cursor.numbers p.0 (p.1 + 1))
    page_follows r h i e p fits inside there is guard at follow =
        still_follow final r.at.holders r.at.cursor.numbers h i p.0 p.1 e kept at is (number_met p.1 (slice_get r.at.cursor.numbers p.0) guard)
        (let z = fits.holders_size in omega (arith, z, there)) (let z = fits.rows p.0 there in omega (arith, z, inside)) follow

    follows_entry : (r m : Recording S) (h i : ℕ) (e : Entry) → MadeEntry flat many Good steady timed pages limit r m h e → FitsAt flat many pages r.at
        → h < many → Allowed flat pages limit r h (Makes e) → entry_at final h i ≡ Some e → Follows r.at → Follows m.at
    follows_entry r m h i e x fits inside allowed at follow =
        let ns : m.at.cursor.numbers ≡ numbers_by (page_number e) r.at.cursor.numbers = ap (λ (c : Cursor). c.numbers) (x.cursor ∙ taken_is r.at.cursor h e) in
        subst (λ hs. Follow final hs m.at.cursor.numbers) (sym x.holders)
        (subst (λ k. Follow final (held_by flat many Good steady timed pages limit h e r.at.holders) k) (sym ns) (by e x.guard allowed at))
      where
        by : (e : Entry) → met_by (page_number e) (ordinal_of e) r.at.cursor.numbers r.at.cursor.ordinal ≡ true → Allowed flat pages limit r h (Makes e)
            → entry_at final h i ≡ Some e → Follow final (held_by flat many Good steady timed pages limit h e r.at.holders)
            (numbers_by (page_number e) r.at.cursor.numbers)
        by (entries.Gain count page seq mode waits) guard allowed at =
            page_follows r h i (entries.Gain count page seq mode waits) (page, seq) fits inside allowed.2 refl guard at follow
        by (entries.Yield count page seq left) guard allowed at =
            page_follows r h i (entries.Yield count page seq left) (page, seq) fits inside allowed.1 refl guard at follow
        by (entries.Poll count ord time bits) guard allowed at = follow
        by (entries.Touch count ord input) guard allowed at = follow
        by (entries.End count) guard allowed at = follow

    -- the number of its page is the next one
    seq_is : (r : Recording S) (page seq : ℕ) → is_number seq (slice_get r.at.cursor.numbers page) ≡ true → slice_index r.at.cursor.numbers page ≡ seq
    seq_is r page seq guard = get_or_from_slice_get r.at.cursor.numbers page seq 0 (number_met seq (slice_get r.at.cursor.numbers page) guard)

    o6_entry : (r m : Recording S) (h i : ℕ) (e : Entry) → MadeEntry flat many Good steady timed pages limit r m h e → Allowed flat pages limit r h (Makes e)
        → Follows r.at → breaks_o6 final (record { hart = h; place = i; entry = e }) ≡ false
    o6_entry r m h i (entries.Gain count page seq mode waits) x allowed follow =
        let same = λ (g : ℕ). follow page g ∙ ap (rules.held final page g) (seq_is r page seq x.guard) in
        or_from _ _
        (lt-leb (strength (Some mode)) (strength (rules.held final page h seq)) (subst (λ hold. strength hold < strength (Some mode)) (same h) allowed.3))
        (none_there _ (harts final) (λ j g at_g. elim (eqb_tells g h) [
          | inl (t, e) ↦ ap (λ b. not b && conflict (Some mode) (rules.held final page g seq)) t
          | inr (f, n) ↦ ap (λ b. not b && conflict (Some mode) (rules.held final page g seq)) f ∙ ap (conflict (Some mode)) (sym (same g)) ∙ allowed.4 g n
        ]))
    o6_entry r m h i (entries.Yield count page seq left) x allowed follow =
        let same = follow page h ∙ ap (rules.held final page h) (seq_is r page seq x.guard) in
        lt-leb (strength (rules.held final page h seq)) (strength left) (subst (λ hold. strength left < strength hold) same allowed.2)
    o6_entry r m h i (entries.Poll count ord time bits) x allowed follow = refl
    o6_entry r m h i (entries.Touch count ord input) x allowed follow = refl
    o6_entry r m h i (entries.End count) x allowed follow = refl

    -- the entries so far have the same numbers in the log so far and in the whole log
    numbered_same : (r : Recording S) (items : List (ℕ × Item)) (page k : ℕ) → Ordered r → Records flat r items s → page < pages
        → k < slice_index r.at.cursor.numbers page → numbered (log_so_far flat pages limit r) page k ≡ numbered final page k
    numbered_same r items page k ordered more there less =
        let x = (ordered.numbers page there).each k less in
        let is = on_page_is page k x.2 (page_number x.2) refl x.4 in
        numbers_name (log_so_far flat pages limit r) x.0 x.1 page k x.2 (keeps_o5 flat many Good steady timed pages limit [] Limit r ordered)
        (stands flat many Good steady timed pages limit [] Limit r ordered x.0 x.1 x.2 x.3) is
        ∙ sym (numbers_name final x.0 x.1 page k x.2 kept
        (stands flat many Good steady timed pages limit image cause s last x.0 x.1 x.2 (later x.0 x.1 x.2 x.3)) is)
      where
        front : (e : Entry) (xs ys : List Entry) (i : ℕ) → slice_get xs i ≡ Some e → slice_get (xs ++ ys) i ≡ Some e
        front e [] ys i at = absurd (none-some _ at)
        front e (x ∷ xs) ys zero at = at
        front e (x ∷ xs) ys (suc i) at = front e xs ys i at

        later : (g i : ℕ) (e : Entry) → At r.streams g i e → At s.streams g i e
        later g i e at = let m = grows flat many Good steady g r s items more in
            subst (λ xs. slice_get xs i ≡ Some e) (sym m.1) (front e (stream_in r.streams g) m.0 i at)

    waits_same : (r : Recording S) (items : List (ℕ × Item)) (page h k : ℕ) → Ordered r → Records flat r items s → page < pages
        → k ≤ slice_index r.at.cursor.numbers page → waits_due (log_so_far flat pages limit r) page h k ≡ waits_due final page h k
    waits_same r items page h zero ordered more there less = refl
    waits_same r items page h (suc k) ordered more there less =
        ap₂ (waits_after h) (waits_same r items page h k ordered more there (omega (arith, less)))
        (numbered_same r items page k ordered more there (omega (arith, less)))

    o7_entry : (r m : Recording S) (h i : ℕ) (e : Entry) (items : List (ℕ × Item)) → Ordered r → Records flat r items s
        → MadeEntry flat many Good steady timed pages limit r m h e → Allowed flat pages limit r h (Makes e)
        → breaks_o7 final (record { hart = h; place = i; entry = e }) ≡ false
    o7_entry r m h i (entries.Gain count page seq mode waits) items ordered more x allowed =
        let q = seq_is r page seq x.guard in
        ap (λ ws. not (pointwise same_wait waits.items ws)) (sym (allowed.5 ∙ waits_same r items page h seq ordered more allowed.2 (omega (arith, q))))
        ∙ ap not (same_waits waits.items)
    o7_entry r m h i (entries.Yield count page seq left) items ordered more x allowed = refl
    o7_entry r m h i (entries.Poll count ord time bits) items ordered more x allowed = refl
    o7_entry r m h i (entries.Touch count ord input) items ordered more x allowed = refl
    o7_entry r m h i (entries.End count) items ordered more x allowed = refl

    abbrev Fine : ℕ → ℕ → Entry → Type 0
    Fine h i e = (breaks_o6 final (record { hart = h; place = i; entry = e }) ≡ false) × (breaks_o7 final (record { hart = h; place = i; entry = e }) ≡ false)

    end_fine : (h i : ℕ) (e : Entry) (c : ℕ) → entries.End c ≡ e → Fine h i e
    end_fine h i e c same = subst (Fine h i) same (refl, refl)

    -- the entries of a hart from a place on
    fine_from : (r : Recording S) (items : List (ℕ × Item)) (is : Records flat r items s) → AreAllowed flat pages limit r s items is → Ordered r
        → FitsAt flat many pages r.at → Follows r.at
        → (g i : ℕ) (e : Entry) → length (stream_in r.streams g) ≤ i → At s.streams g i e → Fine g i e
    fine_from r [] is allowed ordered fits follow g i e l at =
        absurd (let z = ap (λ (x : Recording S). length (stream_in x.streams g)) is in let w = inside (stream_in s.streams g) i at in
        omega (arith, l, z, w)) where
          inside : (xs : List Entry) (i : ℕ) → slice_get xs i ≡ Some e → i < length xs
          inside [] i at = absurd (none-some _ at)
          inside (x ∷ xs) zero at = omega arith
          inside (x ∷ xs) (suc i) at = let k = inside xs i at in omega (arith, k)
    fine_from r (x ∷ items) is allowed ordered fits follow g i e l at =
        behind x.1 is.1 allowed.0
        (λ k follow'. fine_from is.0 items is.2 allowed.1 (ordered_item flat many Good steady timed pages limit r is.0 x.0 x.1 ordered is.1 allowed.0)
        (fits_item flat many pages r.at is.0.at x.0 x.1 fits is.1.made) follow' g i e k at)
      where
        behind : (item : Item) → IsRecorded flat r x.0 item is.0 → Allowed flat pages limit r x.0 item
            → (length (stream_in is.0.streams g) ≤ i → Follows is.0.at → Fine g i e) → Fine g i e
        behind Ended one ok rest = absurd ok
        behind Move one ok rest =
            let a = mapped (λ (f : S). record r.at { flat = f }) (flat.next r.at.flat (Run x.0)) is.0.at one.made in
            rest (let z = ap (λ ss. length (stream_in ss g)) one.streams in omega (arith, l, z)) (subst (λ (y : Replay S). Follows y) a.2 follow)
        behind (Makes y) one ok rest = by (eqb_tells g x.0) where
          h : ℕ
          h = x.0

          m : MadeEntry flat many Good steady timed pages limit r is.0 x.0 y
          m = made_entry flat many Good steady timed pages limit r is.0 x.0 y ordered.tidy.good one

          place : entry_at final x.0 (length (stream_in r.streams x.0)) ≡ Some y
          place = made_at r is.0 x.0 y items one is.2

          next : Follows is.0.at
          next = follows_entry r is.0 x.0 (length (stream_in r.streams x.0)) y m fits
              (let z = ordered.tidy.streams in let w = one.hart in omega (arith, z, w)) ok place follow

          fine : Fine x.0 (length (stream_in r.streams x.0)) y
          fine = (
            o6_entry r is.0 x.0 (length (stream_in r.streams x.0)) y m ok follow,
            o7_entry r is.0 x.0 (length (stream_in r.streams x.0)) y ((x.0, Makes y) ∷ items) ordered (is.0, one, is.2) m ok,
          )

          by : (((g == x.0) ≡ true) × (g ≡ x.0)) ⊎ (((g == x.0) ≡ false) × (g ≢ x.0)) → Fine g i e
          by (inr (f, n)) = rest (let z = ap (λ ss. length (stream_in ss g)) one.streams in
              let w = ap (λ (xs : List Entry). length xs) (stream_there r.streams x.0 g (stream_in r.streams x.0 ++ y ∷ []) n) in omega (arith, l, z, w)) next
          by (inl (t, same)) = last_one (eqb_tells i (length (stream_in r.streams x.0))) where
            last_one : (((i == length (stream_in r.streams x.0)) ≡ true) × (i ≡ length (stream_in r.streams x.0)))
                ⊎ (((i == length (stream_in r.streams x.0)) ≡ false) × (i ≢ length (stream_in r.streams x.0))) → Fine g i e
            last_one (inl (u, there)) =
                let here : entry_at final g i ≡ Some e = stands flat many Good steady timed pages limit image cause s last g i e at in
                let is_y : y ≡ e = same_Some _ _
                (sym place ∙ subst (λ k. entry_at final x.0 k ≡ Some e) there (subst (λ k. entry_at final k i ≡ Some e) same here)) in
                subst (λ k. Fine k i e) (sym same) (subst (λ k. Fine x.0 k e) (sym there) (subst (Fine x.0 (length (stream_in r.streams x.0))) is_y fine))
            last_one (inr (u, n)) =
                let a = ap (λ ss. length (stream_in ss g)) one.streams in
                let b = ap (λ k. length (stream_in (pushed x.0 y r.streams) k)) same in
                let c = ap (λ (xs : List Entry). length xs) (stream_here r.streams x.0 (stream_in r.streams x.0 ++ y ∷ []) one.hart) in
                let d = length_push (stream_in r.streams x.0) y in
                let e' = ap (λ k. length (stream_in r.streams k)) same in
                rest (omega (arith, l, a, b, c, d, e', n)) next

    module _ (r : Recording S) (items : List (ℕ × Item)) (is : Records flat r items s) (allowed : AreAllowed flat pages limit r s items is)
        (ordered : Ordered r) (fits : FitsAt flat many pages r.at) (follow : Follows r.at) (empty : (g : ℕ) → length (stream_in r.streams g) ≡ 0) where
      fine_all : (h i : ℕ) (e : Entry) → entry_at final h i ≡ Some e → Fine h i e
      fine_all h i e at = ⊎_elim
          (λ a. fine_from r items is allowed ordered fits follow h i e (let z = empty h in omega (arith, z)) a)
          (λ b. end_fine h i e (flat.count s.at.flat h) b.1)
          (stood flat many Good steady timed pages limit image cause s last h i e at)

      pub keeps_o6 : Keeps final o6
      keeps_o6 = on_entries flat many Good steady timed pages limit image cause s last (breaks_o6 final) (λ h i e l at. (fine_all h i e at).0)

      pub keeps_o7 : Keeps final o7
      keeps_o7 = on_entries flat many Good steady timed pages limit image cause s last (breaks_o7 final) (λ h i e l at. (fine_all h i e at).1)
