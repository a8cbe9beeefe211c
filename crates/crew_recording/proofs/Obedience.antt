-- The items of a recording are those of its log, in their order.
use Rattle.std.proofs.Common.{IsSomeAnd, ◌≡◌, ◌≢◌, ℕ, ◌+◌, ◌<◌, ◌≤◌, ◌==◌, Bool, true, false, not, ◌⊎◌, List, [], ◌∷◌, ◌++◌, length, map, Option, Some, None}
use Rattle.std.proofs.Common.{slice_get, slice_index, refl, sym, ap, ap₂, ◌∙◌, subst, inl, inr, ⊎_elim, arith, if◌then◌else◌, append_assoc, append-nil}
use Rattle.std.proofs.Common.{unwrap_or}
use Rattle.std.specs.List.{enumerate_from}
use Rattle.std.specs.Option.{option_map}
use Rattle.std.proofs.lemmas.List.FromFn.{length-enumerate_from}
use Rattle.std.proofs.lemmas.Option.{same_Some}
use Rattle.std.proofs.lemmas.Bool.{eq-eqb, ne_eqb}
use Rattle.std.proofs.lemmas.Bool.Decides.{eqb_tells, leb_tells}
use Rattle.std.proofs.lemmas.List.{length_push, length-map}
use Rattle.orders_law.proofs.Below.{all_below}
use Rattle.shared_types.proofs.Lists.{at_end, at_front, at_one_more}
use Rattle.orders_law.specs.Orders.{Leads, IsFull, IsOver}
use Rattle.rv_words.specs.declared.shared.Cause.{Cause}
use Rattle.log_entry.specs.declared.log.Entry.{Entry}
use Rattle.log_entry.specs.declared.log.Entry.TheVariants as entries
use Rattle.log_entry.specs.declared.log.Log.{Log}
use Rattle.log_entry.specs.Parts.{count_of, is_end}
use Rattle.order_rules.specs.Cursor.{first_left}
use Rattle.replay_model.specs.Flat.{Flat}
use Rattle.replay_model.specs.State.{Replay}
use Rattle.replay_model.specs.Items.{Item, Ended, Move, Makes, Verdict, HasEnded, Holds, CanGo, HasDiverged, item_at, verdict_on, made, told_of, goes}
use Rattle.replay_model.specs.Items.{next_item, verdict, step}
use Rattle.replay_model.specs.Journal.{Throughout}
use Rattle.replay_model.specs.Outcome.{is_ended, all_ended}
use Rattle.crew_recording.specs.Recording.{Recording, IsSteady, IsRecorded, Records, Stands, with_item, stream_in, log_of_recording}
use Rattle.crew_recording.proofs.Streams.{stream_here, stream_there, ended_at, ended_beyond}
use Rattle.crew_recording.proofs.Items.{IsTidy, by_item, moves, tidy_item}

-- this holds of each item where it is made
abbrev pub EachMade : {S V : Type 0} (flat : Flat S V) (P : Replay S → ℕ → Item → Type 0) (r s : Recording S) (items : List (ℕ × Item))
    → Records flat r items s → Type 0
EachMade flat P r s [] is = Unit {0}
EachMade flat P r s (x ∷ items) is = P r.at x.0 x.1 × EachMade flat P is.0 s items is.2

module _ {S V : Type 0} (flat : Flat S V) (harts : ℕ) (Good : S → Type 0) (steady : IsSteady flat harts Good) where
  pub tidy_all : (r s : Recording S) (items : List (ℕ × Item)) → Records flat r items s → IsTidy flat harts Good steady r → IsTidy flat harts Good steady s
  tidy_all r s [] e tidy = subst (λ x. IsTidy flat harts Good steady x) e tidy
  tidy_all r s (x ∷ items) e tidy = tidy_all e.0 s items e.2 (tidy_item flat harts Good steady r e.0 x.0 x.1 tidy e.1)

  -- a stream after an item: as it was, but for an entry of its own hart
  abbrev pub grown : ℕ → ℕ → Item → List Entry → List Entry
  grown g h (Makes e) s = if g == h then s ++ e ∷ [] else s
  grown g h item s = s

  stream_after : (streams : List (List Entry)) (g h : ℕ) (item : Item) → h < length streams
      → stream_in (with_item h item streams) g ≡ grown g h item (stream_in streams g)
  stream_after streams g h Ended l = refl
  stream_after streams g h Move l = refl
  stream_after streams g h (Makes e) l = elim (eqb_tells g h) [
    | inl (t, same) ↦
        subst (λ k. stream_in (with_item h (Makes e) streams) k ≡ stream_in streams k ++ e ∷ []) (sym same)
        (stream_here streams h (stream_in streams h ++ e ∷ []) l)
        ∙ sym (ap (λ b. if b then stream_in streams g ++ e ∷ [] else stream_in streams g) t)
    | inr (f, n) ↦ stream_there streams h g (stream_in streams h ++ e ∷ []) n
        ∙ sym (ap (λ b. if b then stream_in streams g ++ e ∷ [] else stream_in streams g) f)
  ]

  -- a stream only grows
  pub grows : (g : ℕ) (r s : Recording S) (items : List (ℕ × Item)) → Records flat r items s
      → (more : List Entry) × (stream_in s.streams g ≡ stream_in r.streams g ++ more)
  grows g r s [] e = ([], sym (ap (λ (x : Recording S). stream_in x.streams g) e) ∙ sym (append-nil (stream_in r.streams g)))
  grows g r s (x ∷ items) e =
      let one = ap (λ xs. stream_in xs g) e.1.streams ∙ stream_after r.streams g x.0 x.1 e.1.hart in
      further x.1 one (grows g e.0 s items e.2)
    where
      further : (item : Item) → stream_in e.0.streams g ≡ grown g x.0 item (stream_in r.streams g)
          → (more : List Entry) × (stream_in s.streams g ≡ stream_in e.0.streams g ++ more)
          → (more : List Entry) × (stream_in s.streams g ≡ stream_in r.streams g ++ more)
      further Ended one m = (m.0, m.1 ∙ ap (λ xs. xs ++ m.0) one)
      further Move one m = (m.0, m.1 ∙ ap (λ xs. xs ++ m.0) one)
      further (Makes y) one m = by (g == x.0) one where
        by : (b : Bool) → stream_in e.0.streams g ≡ (if b then stream_in r.streams g ++ y ∷ [] else stream_in r.streams g)
            → (more : List Entry) × (stream_in s.streams g ≡ stream_in r.streams g ++ more)
        by true same = (y ∷ m.0, m.1 ∙ ap (λ xs. xs ++ m.0) same ∙ append_assoc (stream_in r.streams g) (y ∷ []) m.0)
        by false same = (m.0, m.1 ∙ ap (λ xs. xs ++ m.0) same)

  abbrev pub ended : Recording S → ℕ → List Entry
  ended s g = stream_in s.streams g ++ entries.End (flat.count s.at.flat g) ∷ []

  -- an element of a stream so far stays where it is
  pub stays : (g : ℕ) (r s : Recording S) (items : List (ℕ × Item)) → Records flat r items s → (i : ℕ) (e : Entry)
      → slice_get (stream_in r.streams g) i ≡ Some e → slice_get (ended s g) i ≡ Some e
  stays g r s items is i e at =
      let m = grows g r s items is in
      at_front (stream_in s.streams g) (entries.End (flat.count s.at.flat g) ∷ []) e i
      (subst (λ xs. slice_get xs i ≡ Some e) (sym m.1) (at_front (stream_in r.streams g) m.0 e i at))

  -- what a hart records from now on stands at no lesser count
  pub later : (g : ℕ) (r s : Recording S) (items : List (ℕ × Item)) → IsTidy flat harts Good steady r → Records flat r items s → (i : ℕ) (e : Entry)
      → length (stream_in r.streams g) ≤ i → slice_get (ended s g) i ≡ Some e → flat.count r.at.flat g ≤ count_of e
  later g r s [] tidy is i e l at =
      let same = ap (λ (x : Recording S). length (stream_in x.streams g)) is in
      let c = ap (λ (x : Recording S). flat.count x.at.flat g) is in
      ⊎_elim (λ m. let less = m.0 in absurd (omega (arith, less, l, same))) (λ m. subst (λ z. flat.count r.at.flat g ≤ count_of z) m.1 (omega (arith, c)))
      (at_one_more (stream_in s.streams g) (entries.End (flat.count s.at.flat g)) e i at)
  later g r s (x ∷ items) tidy is i e l at =
      let up = (by_item flat harts Good steady r.at is.0.at x.0 x.1 tidy.good is.1.made).rises g in
      let one = ap (λ xs. stream_in xs g) is.1.streams ∙ stream_after r.streams g x.0 x.1 is.1.hart in
      behind x.1 is.1.stands up one
      (λ (k : length (stream_in is.0.streams g) ≤ i). later g is.0 s items (tidy_item flat harts Good steady r is.0 x.0 x.1 tidy is.1) is.2 i e k at)
      (λ (y : Entry) (here : slice_get (stream_in is.0.streams g) i ≡ Some y). stays g is.0 s items is.2 i y here)
    where
      behind : (item : Item) → Stands flat r.at x.0 item → flat.count r.at.flat g ≤ flat.count is.0.at.flat g
          → stream_in is.0.streams g ≡ grown g x.0 item (stream_in r.streams g)
          → (length (stream_in is.0.streams g) ≤ i → flat.count is.0.at.flat g ≤ count_of e)
          → ((y : Entry) → slice_get (stream_in is.0.streams g) i ≡ Some y → slice_get (ended s g) i ≡ Some y)
          → flat.count r.at.flat g ≤ count_of e
      behind Ended stands up one rest kept = absurd stands
      behind Move stands up one rest kept = let same = ap (λ (xs : List Entry). length xs) one in let f = rest (omega (arith, l, same)) in omega (arith, up, f)
      behind (Makes y) stands up one rest kept = by (eqb_tells g x.0) where
        by : (((g == x.0) ≡ true) × (g ≡ x.0)) ⊎ (((g == x.0) ≡ false) × (g ≢ x.0)) → flat.count r.at.flat g ≤ count_of e
        by (inr (f, n)) =
            let same = ap (λ (xs : List Entry). length xs) (one ∙ ap (λ b. if b then stream_in r.streams g ++ y ∷ [] else stream_in r.streams g) f) in
            let r' = rest (omega (arith, l, same)) in omega (arith, up, r')
        by (inl (t, same)) = last (eqb_tells i (length (stream_in r.streams g))) where
          pushed : stream_in is.0.streams g ≡ stream_in r.streams g ++ y ∷ []
          pushed = one ∙ ap (λ b. if b then stream_in r.streams g ++ y ∷ [] else stream_in r.streams g) t

          last : (((i == length (stream_in r.streams g)) ≡ true) × (i ≡ length (stream_in r.streams g)))
              ⊎ (((i == length (stream_in r.streams g)) ≡ false) × (i ≢ length (stream_in r.streams g))) → flat.count r.at.flat g ≤ count_of e
          last (inl (u, place)) =
              let here : slice_get (stream_in is.0.streams g) i ≡ Some y =
              subst (λ k. slice_get (stream_in is.0.streams g) k ≡ Some y) (sym place)
              (subst (λ xs. slice_get xs (length (stream_in r.streams g)) ≡ Some y) (sym pushed) (at_end (stream_in r.streams g) y)) in
              let w : y ≡ e = same_Some _ _ (sym (kept y here) ∙ at) in
              let v = ap count_of w in
              let c = stands.0 in
              let d = ap (flat.count r.at.flat) same in
              omega (arith, c, v, d)
          last (inr (u, n)) =
              let size : length (stream_in is.0.streams g) ≡ length (stream_in r.streams g) + 1 = ap (λ (xs : List Entry). length xs) pushed
              ∙ length_push (stream_in r.streams g) y in
              let r' = rest (omega (arith, l, size, n)) in omega (arith, up, r')

  module _ (pages limit : ℕ) (image : List ℕ) (cause : Cause) where
    abbrev pub log_to : Recording S → Log
    log_to s = log_of_recording flat pages limit image cause s

    item_moves : (o : Option Entry) (n : ℕ) → ((e : Entry) → o ≡ Some e → count_of e ≢ n) → item_at n o ≡ Move
    item_moves None n f = refl
    item_moves (Some e) n f = ap (λ b. if not b then Move else if is_end e then Ended else Makes e) (ne_eqb (count_of e) n (f e refl))

    item_makes : (o : Option Entry) (n : ℕ) (e : Entry) → o ≡ Some e → count_of e ≡ n → is_end e ≡ false → item_at n o ≡ Makes e
    item_makes o n e at same no_end = ap (item_at n) at ∙ ap₂ (λ a b. if not a then Move else if b then Ended else Makes e) (eq-eqb (count_of e) n same) no_end

    -- the first entry left of a hart is the one behind its stream so far
    first_is : (r s : Recording S) (h : ℕ) → IsTidy flat harts Good steady r → h < harts → length s.streams ≡ harts
        → first_left (log_to s) r.at.cursor h ≡ slice_get (ended s h) (length (stream_in r.streams h))
    first_is r s h tidy l size =
        ap (λ xs. slice_get xs (slice_index r.at.cursor.places h)) (ended_at (λ k. flat.count s.at.flat k) s.streams h (omega (arith, l, size)))
        ∙ ap (λ p. slice_get (ended s h) p) (tidy.place h l)

    -- the recorded item is the one that the log asks for
    next_is : (r m s : Recording S) (h : ℕ) (item : Item) (items : List (ℕ × Item)) → IsTidy flat harts Good steady r → IsRecorded flat r h item m
        → Records flat m items s → next_item flat (log_to s) r.at h ≡ item
    next_is r m s h item items tidy one more =
        let tidy' = tidy_item flat harts Good steady r m h item tidy one in
        let inside : h < harts = (let a = one.hart in let b = tidy.streams in omega (arith, a, b)) in
        let first = first_is r s h tidy inside (tidy_all m s items more tidy').streams in
        ap (item_at (flat.count r.at.flat h)) first
        ∙ of item one.stands one.made (ap (λ xs. stream_in xs h) one.streams ∙ stream_after r.streams h h item one.hart)
        (λ i e k at. later h m s items tidy' more i e k at) (λ i e at. stays h m s items more i e at)
      where
        of : (item : Item) → Stands flat r.at h item → made flat r.at h item ≡ Some m.at → stream_in m.streams h ≡ grown h h item (stream_in r.streams h)
            → ((i : ℕ) (e : Entry) → length (stream_in m.streams h) ≤ i → slice_get (ended s h) i ≡ Some e → flat.count m.at.flat h ≤ count_of e)
            → ((i : ℕ) (e : Entry) → slice_get (stream_in m.streams h) i ≡ Some e → slice_get (ended s h) i ≡ Some e)
            → item_at (flat.count r.at.flat h) (slice_get (ended s h) (length (stream_in r.streams h))) ≡ item
        of Ended stands is same late kept = absurd stands
        of Move stands is same late kept =
            item_moves (slice_get (ended s h) (length (stream_in r.streams h))) (flat.count r.at.flat h) (λ e at equal.
            let k = ap (λ (xs : List Entry). length xs) same in
            let l = late (length (stream_in r.streams h)) e (omega (arith, k)) at in
            let u = moves flat harts Good steady r.at m.at h tidy.good is in absurd (omega (arith, l, u, equal)))
        of (Makes e) stands is same late kept =
            let pushed : stream_in m.streams h ≡ stream_in r.streams h ++ e ∷ [] = same
            ∙ ap (λ b. if b then stream_in r.streams h ++ e ∷ [] else stream_in r.streams h) (eq-eqb h h refl) in
            let here : slice_get (stream_in m.streams h) (length (stream_in r.streams h)) ≡ Some e =
            subst (λ xs. slice_get xs (length (stream_in r.streams h)) ≡ Some e) (sym pushed) (at_end (stream_in r.streams h) e) in
            item_makes (slice_get (ended s h) (length (stream_in r.streams h))) (flat.count r.at.flat h) e
            (kept (length (stream_in r.streams h)) e here) stands.0 stands.1

    went : (a t : Replay S) (h : ℕ) (item : Item) (v : Verdict) → v ≡ CanGo → made flat a h item ≡ Some t
        → goes flat a h item v ≡ Some (t, told_of flat a h item t)
    went a t h item v can is = ap (goes flat a h item) can ∙ ap (option_map (λ x. (x, told_of flat a h item x))) is

    steps : (r m s : Recording S) (h : ℕ) (item : Item) (items : List (ℕ × Item)) → IsTidy flat harts Good steady r → IsRecorded flat r h item m
        → Records flat m items s → step flat (log_to s) h r.at ≡ Some (m.at, told_of flat r.at h item m.at)
    steps r m s h item items tidy one more = ap (λ i. goes flat r.at h i (verdict_on flat r.at h i)) (next_is r m s h item items tidy one more)
        ∙ went r.at m.at h item (verdict_on flat r.at h item) one.goes one.made

    -- the moves along the items, each with what a story tells of it
    abbrev pub told : (r s : Recording S) (items : List (ℕ × Item)) → Records flat r items s → List (ℕ × Option V)
    told r s [] is = []
    told r s (x ∷ items) is = (x.0, told_of flat r.at x.0 x.1 is.0.at) ∷ told is.0 s items is.2

    told_order : (r s : Recording S) (items : List (ℕ × Item)) (is : Records flat r items s)
        → map (λ (m : ℕ × Option V). m.0) (told r s items is) ≡ map (λ (x : ℕ × Item). x.0) items
    told_order r s [] is = refl
    told_order r s (x ∷ items) is = ap (λ xs. x.0 ∷ xs) (told_order is.0 s items is.2)

    leads : (r s : Recording S) (items : List (ℕ × Item)) (is : Records flat r items s) → IsTidy flat harts Good steady r
        → Leads (step flat (log_to s)) r.at (told r s items is) s.at
    leads r s [] is tidy = ap (λ (x : Recording S). x.at) is
    leads r s (x ∷ items) is tidy =
        (is.0.at, steps r is.0 s x.0 x.1 items tidy is.1 is.2, leads is.0 s items is.2 (tidy_item flat harts Good steady r is.0 x.0 x.1 tidy is.1))

    -- what holds of each item where it is made holds of the items along the order
    pub throughout : (P : Replay S → ℕ → Item → Type 0) (r s : Recording S) (items : List (ℕ × Item)) (is : Records flat r items s)
        → IsTidy flat harts Good steady r → EachMade flat P r s items is
        → Throughout flat (log_to s) P r.at (map (λ (x : ℕ × Item). x.0) items)
    throughout P r s [] is tidy each = tt
    throughout P r s (x ∷ items) is tidy each =
        let rest = throughout P is.0 s items is.2 (tidy_item flat harts Good steady r is.0 x.0 x.1 tidy is.1) each.1 in (
          subst (P r.at x.0) (sym (next_is r is.0 s x.0 x.1 items tidy is.1 is.2)) each.0,
          subst (λ o. IsSomeAnd o (λ (m : Replay S × Option V). Throughout flat (log_to s) P m.0 (map (λ (y : ℕ × Item). y.0) items)))
              (sym (steps r is.0 s x.0 x.1 items tidy is.1 is.2)) rest,
        )

    stops : (a : Replay S) (h : ℕ) (item : Item) (v : Verdict) → made flat a h item ≡ None → goes flat a h item v ≡ None
    stops a h item CanGo none = ap (option_map (λ x. (x, told_of flat a h item x))) none
    stops a h item HasEnded none = refl
    stops a h item Holds none = refl
    stops a h item (HasDiverged rule) none = refl

    -- at its end every hart has its End before it
    last_is : (s : Recording S) (h : ℕ) → IsTidy flat harts Good steady s → h < harts → next_item flat (log_to s) s.at h ≡ Ended
    last_is s h tidy l =
        ap (item_at (flat.count s.at.flat h)) (first_is s s h tidy l tidy.streams ∙ at_end (stream_in s.streams h) (entries.End (flat.count s.at.flat h)))
        ∙ ap (λ b. if not b then Move else Ended) (eq-eqb (flat.count s.at.flat h) (flat.count s.at.flat h) refl)

    -- at its end no hart can go
    over : (s : Recording S) → IsTidy flat harts Good steady s → IsOver (step flat (log_to s)) s.at
    over s tidy h = elim (leb_tells harts h) [
      | inl (t, beyond) ↦
          ap (λ i. goes flat s.at h i (verdict_on flat s.at h i))
          (ap (λ o. item_at (flat.count s.at.flat h) (slice_get (unwrap_or o []) (slice_index s.at.cursor.places h)))
          (ended_beyond (λ k. flat.count s.at.flat k) 0 s.streams h (let a = tidy.streams in omega (arith, a, beyond))))
          ∙ stops s.at h Move (verdict_on flat s.at h Move) (ap (option_map (λ f. record s.at { flat = f })) (steady.no_more s.at.flat h tidy.good beyond))
      | inr (f, n) ↦ ap (λ i. goes flat s.at h i (verdict_on flat s.at h i)) (last_is s h tidy (omega (arith, n)))
    ]

    -- and every hart has ended
    all_end : (s : Recording S) → IsTidy flat harts Good steady s → all_ended flat (log_to s) s.at ≡ true
    all_end s tidy = all_below (λ h. is_ended (verdict flat (log_to s) s.at h)) (length (log_to s).streams)
        (λ h l. ap (λ i. is_ended (verdict_on flat s.at h i)) (last_is s h tidy (let a = tidy.streams in let z = log_size in omega (arith, l, a, z)))) where
          log_size : length (log_to s).streams ≡ length s.streams
          log_size = length-map (enumerate_from 0 s.streams) _ ∙ length-enumerate_from 0 s.streams

    pub ends : (r s : Recording S) (items : List (ℕ × Item)) → Records flat r items s → IsTidy flat harts Good steady r → all_ended flat (log_to s) s.at ≡ true
    ends r s items is tidy = all_end s (tidy_all r s items is tidy)

    pub full : (r s : Recording S) (items : List (ℕ × Item)) (is : Records flat r items s) → IsTidy flat harts Good steady r
        → (made : List (ℕ × Option V)) × (map (λ (m : ℕ × Option V). m.0) made ≡ map (λ (x : ℕ × Item). x.0) items)
        × IsFull (step flat (log_to s)) r.at made s.at
    full r s items is tidy =
        (told r s items is, told_order r s items is, record { leads = leads r s items is tidy; over = over s (tidy_all r s items is tidy) })
