-- What one item leaves: the flat state goes on, and the hart's stream grows.
use Rattle.std.proofs.Common.{◌≡◌, ◌≢◌, ℕ, ◌+◌, ◌<◌, ◌≤◌, Bool, true, false, List, [], ◌∷◌, ◌++◌, length, Option, Some, slice_set, slice_index, refl, sym, ap}
use Rattle.std.proofs.Common.{◌∙◌, subst, inl, inr, ◌⊎◌, ◌==◌, arith, if◌then◌else◌}
use Rattle.std.specs.Option.{option_map}
use Rattle.std.proofs.lemmas.Option.{none-some, same_Some, get_or_from_slice_get}
use Rattle.std.proofs.lemmas.Bool.Decides.{eqb_tells}
use Rattle.std.proofs.lemmas.List.{length_push, get_or-set_other, length-set}
use Rattle.shared_types.proofs.Lists.{mapped, set_here}
use Rattle.rv_words.specs.declared.shared.Mode.{Mode}
use Rattle.log_entry.specs.declared.log.Entry.{Entry}
use Rattle.log_entry.specs.declared.log.Entry.TheVariants as entries
use Rattle.order_rules.specs.Cursor.{Cursor}
use Rattle.flat_machine.specs.declared.act.Act.{Act}
use Rattle.flat_machine.specs.declared.act.Act.TheVariants.{Run, Touch, Poll, Lose}
use Rattle.replay_model.specs.Flat.{Flat}
use Rattle.replay_model.specs.State.{Replay}
use Rattle.replay_model.specs.Items.{Item, Ended, Move, Makes, acted, effect, past, holds, ends_reservation, made}
use Rattle.crew_recording.specs.Recording.{Recording, IsSteady, IsRecorded, with_item, stream_in}
use Rattle.crew_recording.proofs.Streams.{stream_here, stream_there}

module _ {S V : Type 0} (flat : Flat S V) (harts : ℕ) (Good : S → Type 0) (steady : IsSteady flat harts Good) where
  -- the flat state stays good, and no count falls
  pub record GoesOn (s t : Replay S) : Type 0 where
    pub good : Good t.flat
    pub rises : (h : ℕ) → flat.count s.flat h ≤ flat.count t.flat h

  stays : (s t : Replay S) → Good s.flat → t.flat ≡ s.flat → GoesOn s t
  stays s t good e = record { good = subst Good (sym e) good; rises = λ h. let c = ap (λ f. flat.count f h) e in omega (arith, c) }

  by_act : (s t : Replay S) (act : Act) → Good s.flat → acted flat s act ≡ Some t → GoesOn s t
  by_act s t act good e =
      let a = mapped (λ (f : S). record s { flat = f }) (flat.next s.flat act) t e in
      subst (GoesOn s) a.2 (record { good = steady.lasts s.flat a.0 act good a.1; rises = λ h. steady.rises s.flat a.0 act h good a.1 })

  -- what is done to the cursor and the holders alone
  aside : (s t u : Replay S) → u.flat ≡ t.flat → GoesOn s t → GoesOn s u
  aside s t u e on = record { good = subst Good (sym e) on.good; rises = λ h. let r = on.rises h in let c = ap (λ f. flat.count f h) e in omega (arith, r, c) }

  by_yield : (s t : Replay S) (h page : ℕ) (left : Option Mode) (b : Bool) → Good s.flat
      → option_map (holds flat page h left) (if b then acted flat s (Lose h) else Some s) ≡ Some t → GoesOn s t
  by_yield s t h page left true good e =
      let a = mapped (holds flat page h left) (acted flat s (Lose h)) t e in
      aside s a.0 t (sym (ap (λ (x : Replay S). x.flat) a.2)) (by_act s a.0 (Lose h) good a.1)
  by_yield s t h page left false good e = stays s t good (sym (ap (λ (x : Replay S). x.flat) (same_Some _ _ e)))

  by_entry : (s t : Replay S) (h : ℕ) (e : Entry) → Good s.flat → effect flat s h e ≡ Some t → GoesOn s t
  by_entry s t h (entries.Gain count page seq mode waits) good is = stays s t good (sym (ap (λ (x : Replay S). x.flat) (same_Some _ _ is)))
  by_entry s t h (entries.Yield count page seq left) good is = by_yield s t h page left (ends_reservation flat s h page) good is
  by_entry s t h (entries.Poll count ord time bits) good is = by_act s t (Poll h time) good is
  by_entry s t h (entries.Touch count ord input) good is = by_act s t (Touch h input) good is
  by_entry s t h (entries.End count) good is = absurd (none-some _ is)

  pub by_item : (s t : Replay S) (h : ℕ) (item : Item) → Good s.flat → made flat s h item ≡ Some t → GoesOn s t
  by_item s t h Ended good is = absurd (none-some _ is)
  by_item s t h Move good is = by_act s t (Run h) good is
  by_item s t h (Makes e) good is =
      let a = mapped (past flat h e) (effect flat s h e) t is in
      aside s a.0 t (sym (ap (λ (x : Replay S). x.flat) a.2)) (by_entry s a.0 h e good a.1)

  -- a Run raises its hart's count
  pub moves : (s t : Replay S) (h : ℕ) → Good s.flat → made flat s h Move ≡ Some t → flat.count t.flat h ≡ flat.count s.flat h + 1
  moves s t h good is =
      let a = mapped (λ (f : S). record s { flat = f }) (flat.next s.flat (Run h)) t is in
      sym (ap (λ (x : Replay S). flat.count x.flat h) a.2) ∙ steady.moves s.flat a.0 h good a.1

  -- good, with one stream per hart, and each place behind what its hart has recorded
  pub record IsTidy (r : Recording S) : Type 0 where
    pub good : Good r.at.flat
    pub streams : length r.streams ≡ harts
    pub places : length r.at.cursor.places ≡ harts
    pub place : (h : ℕ) → h < harts → slice_index r.at.cursor.places h ≡ length (stream_in r.streams h)

  -- the places once an item was made
  abbrev pub places_after : ℕ → Item → List ℕ → List ℕ
  places_after h (Makes e) places = slice_set places h (slice_index places h + 1)
  places_after h item places = places

  pub same_places : (s t : Replay S) (act : Act) → acted flat s act ≡ Some t → t.cursor ≡ s.cursor
  same_places s t act e = sym (ap (λ (x : Replay S). x.cursor) (mapped (λ (f : S). record s { flat = f }) (flat.next s.flat act) t e).2)

  yield_places : (s t : Replay S) (h page : ℕ) (left : Option Mode) (b : Bool)
      → option_map (holds flat page h left) (if b then acted flat s (Lose h) else Some s) ≡ Some t → t.cursor ≡ s.cursor
  yield_places s t h page left true e =
      let a = mapped (holds flat page h left) (acted flat s (Lose h)) t e in
      sym (ap (λ (x : Replay S). x.cursor) a.2) ∙ same_places s a.0 (Lose h) a.1
  yield_places s t h page left false e = sym (ap (λ (x : Replay S). x.cursor) (same_Some _ _ e))

  pub entry_places : (s t : Replay S) (h : ℕ) (e : Entry) → effect flat s h e ≡ Some t → t.cursor ≡ s.cursor
  entry_places s t h (entries.Gain count page seq mode waits) is = sym (ap (λ (x : Replay S). x.cursor) (same_Some _ _ is))
  entry_places s t h (entries.Yield count page seq left) is = yield_places s t h page left (ends_reservation flat s h page) is
  entry_places s t h (entries.Poll count ord time bits) is = same_places s t (Poll h time) is
  entry_places s t h (entries.Touch count ord input) is = same_places s t (Touch h input) is
  entry_places s t h (entries.End count) is = absurd (none-some _ is)

  pub item_places : (s t : Replay S) (h : ℕ) (item : Item) → made flat s h item ≡ Some t → t.cursor.places ≡ places_after h item s.cursor.places
  item_places s t h Ended is = absurd (none-some _ is)
  item_places s t h Move is = ap (λ (c : Cursor). c.places) (same_places s t (Run h) is)
  item_places s t h (Makes e) is =
      let a = mapped (past flat h e) (effect flat s h e) t is in
      sym (ap (λ (x : Replay S). x.cursor.places) a.2) ∙ ap (λ (c : Cursor). slice_set c.places h (slice_index c.places h + 1)) (entry_places s a.0 h e a.1)

  pub tidy_item : (r s : Recording S) (h : ℕ) (item : Item) → IsTidy r → IsRecorded flat r h item s → IsTidy s
  tidy_item r s h item tidy is = record {
    good = (by_item r.at s.at h item tidy.good is.made).good;
    streams = ap (λ (x : List (List Entry)). length x) is.streams ∙ size item ∙ tidy.streams;
    places = ap (λ (x : List ℕ). length x) (item_places r.at s.at h item is.made) ∙ places_size item ∙ tidy.places;
    place = λ g l. ap (λ ps. slice_index ps g) (item_places r.at s.at h item is.made) ∙ at_place item g l (eqb_tells g h)
        ∙ ap (λ xs. length (stream_in xs g)) (sym is.streams);
  }
    where
      size : (i : Item) → length (with_item h i r.streams) ≡ length r.streams
      size Ended = refl
      size Move = refl
      size (Makes e) = length-set r.streams h (stream_in r.streams h ++ e ∷ [])

      places_size : (i : Item) → length (places_after h i r.at.cursor.places) ≡ length r.at.cursor.places
      places_size Ended = refl
      places_size Move = refl
      places_size (Makes e) = length-set r.at.cursor.places h (slice_index r.at.cursor.places h + 1)

      at_place : (i : Item) (g : ℕ) → g < harts → (((g == h) ≡ true) × (g ≡ h)) ⊎ (((g == h) ≡ false) × (g ≢ h))
          → slice_index (places_after h i r.at.cursor.places) g ≡ length (stream_in (with_item h i r.streams) g)
      at_place Ended g l d = tidy.place g l
      at_place Move g l d = tidy.place g l
      at_place (Makes e) g l (inr (f, n)) = get_or-set_other r.at.cursor.places h g (slice_index r.at.cursor.places h + 1) 0 n ∙ tidy.place g l
          ∙ ap (λ (x : List Entry). length x) (sym (stream_there r.streams h g (stream_in r.streams h ++ e ∷ []) n))
      at_place (Makes e) g l (inl (t, same)) =
          let inside : h < length r.at.cursor.places = (let a = tidy.places in omega (arith, a, l, same)) in
          let there : h < length r.streams = (let a = tidy.streams in omega (arith, a, l, same)) in
          subst (λ k. slice_index (slice_set r.at.cursor.places h (slice_index r.at.cursor.places h + 1)) k ≡ length
          (stream_in (slice_set r.streams h (stream_in r.streams h ++ e ∷ [])) k)) (sym same)
          (get_or_from_slice_get (slice_set r.at.cursor.places h (slice_index r.at.cursor.places h + 1)) h (slice_index r.at.cursor.places h + 1) 0
          (set_here r.at.cursor.places h (slice_index r.at.cursor.places h + 1) inside)
          ∙ ap (λ k. k + 1) (tidy.place h (omega (arith, l, same)))
          ∙ sym (length_push (stream_in r.streams h) e)
          ∙ ap (λ (x : List Entry). length x) (sym (stream_here r.streams h (stream_in r.streams h ++ e ∷ []) there)))
