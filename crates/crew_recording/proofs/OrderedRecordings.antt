-- What holds of a recording at each moment, so that its log is orderly.
use Rattle.std.proofs.Common.{◌≡◌, ◌≢◌, ◌⊎◌, ℕ, ◌+◌, ◌<◌, ◌≤◌, ◌==◌, Bool, true, false, List, [], ◌∷◌, ◌++◌, length, Option, Some, None, slice_get, slice_set}
use Rattle.std.proofs.Common.{slice_index, refl, sym, ap, ◌∙◌, subst, inl, inr, ⊎_elim, arith, if◌then◌else◌, true≢false}
use Rattle.std.specs.Option.{option_map, option_and_then}
use Rattle.std.proofs.lemmas.Option.{none-some, same_Some, get_or_from_slice_get}
use Rattle.std.proofs.lemmas.Bool.{eqb-true}
use Rattle.std.proofs.lemmas.Bool.Decides.{eqb_tells}
use Rattle.std.proofs.lemmas.List.{get_or-set_other, length-set}
use Rattle.shared_types.proofs.Lists.{mapped, set_here}
use Rattle.rv_words.specs.declared.shared.Mode.{Mode}
use Rattle.rv_words.specs.declared.shared.Input.{Input}
use Rattle.rv_words.specs.declared.shared.Input.TheVariants as inputs
use Rattle.log_entry.specs.declared.log.Entry.{Entry}
use Rattle.log_entry.specs.declared.log.Entry.TheVariants as entries
use Rattle.log_entry.specs.Parts.{is_touch, page_number, ordinal_of, time_of, time_of_input}
use Rattle.order_rules.specs.Places.{number_on}
use Rattle.order_rules.specs.Cursor.{Cursor, guard_is_met, taken}
use Rattle.order_rules.proofs.Takings.{numbers_by, ordinal_by, met_by, guard_is, taken_is, one_kind, number_met}
use Rattle.flat_machine.specs.declared.act.Act.{Act}
use Rattle.flat_machine.specs.declared.act.Act.TheVariants.{Run, Touch, Poll, Lose}
use Rattle.replay_model.specs.Flat.{Flat}
use Rattle.order_rules.specs.Holders.{Holders, with_held}
use Rattle.replay_model.specs.State.{Replay}
use Rattle.replay_model.specs.Items.{Item, Ended, Move, Makes, acted, effect, past, holds, ends_reservation}
use Rattle.crew_recording.proofs.Tests.{met}
use Rattle.crew_recording.specs.Recording.{Recording, IsSteady, IsRecorded, Stands, stream_in}
use Rattle.crew_recording.specs.Allowed.{IsTimed, Allowed}
use Rattle.crew_recording.proofs.Streams.{stream_here, stream_there}
use Rattle.crew_recording.proofs.Items.{IsTidy, tidy_item, moves, entry_places}
use Rattle.crew_recording.proofs.Single.{IsTidyStream, moved_on, entered_on}
use Rattle.crew_recording.proofs.Numbers.{At, pushed, at_pushed, IsNumbered, numbered_more, numbered_still}

module _ {S V : Type 0} (flat : Flat S V) (harts : ℕ) (Good : S → Type 0) (steady : IsSteady flat harts Good) (timed : IsTimed flat Good)
    (pages limit : ℕ) where
  -- what an entry that a hart makes does to counts and time
  pub record Did (s t : Replay S) (h : ℕ) (e : Entry) : Type 0 where
    pub own : flat.count t.flat h ≡ (if is_touch e then flat.count s.flat h + 1 else flat.count s.flat h)
    pub others : (g : ℕ) → g ≢ h → flat.count t.flat g ≡ flat.count s.flat g
    pub later : flat.time s.flat ≤ flat.time t.flat
    pub time : (n : ℕ) → time_of e ≡ Some n → (flat.time s.flat ≤ n) × (n ≤ flat.time t.flat)

  did_nothing : (s t : Replay S) (h : ℕ) (e : Entry) → is_touch e ≡ false → time_of e ≡ None → t.flat ≡ s.flat → Did s t h e
  did_nothing s t h e no_touch no_time same = record {
    own = ap (λ f. flat.count f h) same ∙ sym (ap (λ b. if b then flat.count s.flat h + 1 else flat.count s.flat h) no_touch);
    others = λ g n. ap (λ f. flat.count f g) same;
    later = (let z = ap flat.time same in omega (arith, z));
    time = λ n is. absurd (none-some _ (sym no_time ∙ is));
  }

  pub acts_on : (s t : Replay S) (act : Act) → acted flat s act ≡ Some t → (f : S) × (flat.next s.flat act ≡ Some f) × (t.flat ≡ f)
  acts_on s t act e = let a = mapped (λ (f : S). record s { flat = f }) (flat.next s.flat act) t e in (a.0, a.1, sym (ap (λ (x : Replay S). x.flat) a.2))

  did_yield : (s t : Replay S) (h count page seq : ℕ) (left : Option Mode) (b : Bool) → Good s.flat
      → option_map (holds flat page h left) (if b then acted flat s (Lose h) else Some s) ≡ Some t → Did s t h (entries.Yield count page seq left)
  did_yield s t h count page seq left false good e =
      did_nothing s t h (entries.Yield count page seq left) refl refl (sym (ap (λ (x : Replay S). x.flat) (same_Some _ _ e)))
  did_yield s t h count page seq left true good e =
      let a = mapped (holds flat page h left) (acted flat s (Lose h)) t e in
      let n = acts_on s a.0 (Lose h) a.1 in
      let same : t.flat ≡ n.0 = sym (ap (λ (x : Replay S). x.flat) a.2) ∙ n.2 in
      record {
        own = ap (λ f. flat.count f h) same ∙ timed.lose_stays s.flat n.0 h good n.1;
        others = λ g other. ap (λ f. flat.count f g) same ∙ timed.others s.flat n.0 (Lose h) g good n.1 other;
        later = (let z = ap flat.time same in let l = timed.later s.flat n.0 (Lose h) good n.1 in omega (arith, z, l));
        time = λ k is. absurd (none-some _ is);
      }

  did_touch : (s t : Replay S) (f : S) (h count ord : ℕ) (input : Input) → Good s.flat → flat.next s.flat (Touch h input) ≡ Some f → t.flat ≡ f
      → Did s t h (entries.Touch count ord input)
  did_touch s t f h count ord input good is same = record {
    own = ap (λ x. flat.count x h) same ∙ timed.touch_moves s.flat f h input good is;
    others = λ g other. ap (λ x. flat.count x g) same ∙ timed.others s.flat f (Touch h input) g good is other;
    later = (let z = ap flat.time same in let l = timed.later s.flat f (Touch h input) good is in omega (arith, z, l));
    time = λ n e. by input is n e;
  }
    where
      by : (input : Input) → flat.next s.flat (Touch h input) ≡ Some f → (n : ℕ) → time_of_input input ≡ Some n
          → (flat.time s.flat ≤ n) × (n ≤ flat.time t.flat)
      by inputs.Nothing is n e = absurd (none-some _ e)
      by inputs.Empty is n e = absurd (none-some _ e)
      by (inputs.Byte b) is n e = absurd (none-some _ e)
      by (inputs.Time u) is n e =
          let l = timed.touch_time s.flat f h u good is in
          let k = same_Some _ _ e in let a = l.0 in let b = l.1 in let z = ap flat.time same in (omega (arith, a, k), omega (arith, b, k, z))

  pub did_entry : (s t : Replay S) (h : ℕ) (e : Entry) → Good s.flat → effect flat s h e ≡ Some t → Did s t h e
  did_entry s t h (entries.Gain count page seq mode waits) good is =
      did_nothing s t h (entries.Gain count page seq mode waits) refl refl (sym (ap (λ (x : Replay S). x.flat) (same_Some _ _ is)))
  did_entry s t h (entries.Yield count page seq left) good is = did_yield s t h count page seq left (ends_reservation flat s h page) good is
  did_entry s t h (entries.Poll count ord time bits) good is =
      let n = acts_on s t (Poll h time) is in
      record {
        own = ap (λ f. flat.count f h) n.2 ∙ timed.poll_stays s.flat n.0 h time good n.1;
        others = λ g other. ap (λ f. flat.count f g) n.2 ∙ timed.others s.flat n.0 (Poll h time) g good n.1 other;
        later = (let z = ap flat.time n.2 in let l = timed.later s.flat n.0 (Poll h time) good n.1 in omega (arith, z, l));
        time = λ k e. let l = timed.poll_time s.flat n.0 h time good n.1 in let q = same_Some _ _ e in let a = l.0 in let b = l.1 in
            let z = ap flat.time n.2 in (omega (arith, a, q), omega (arith, b, q, z));
      }
  did_entry s t h (entries.Touch count ord input) good is = let n = acts_on s t (Touch h input) is in did_touch s t n.0 h count ord input good n.1 n.2
  did_entry s t h (entries.End count) good is = absurd (none-some _ is)

  -- what an entry does to the holders
  abbrev pub held_by : ℕ → Entry → Holders → Holders
  held_by h (entries.Gain count page seq mode waits) holders = with_held holders page h (Some mode)
  held_by h (entries.Yield count page seq left) holders = with_held holders page h left
  held_by h e holders = holders

  acted_holders : (s t : Replay S) (act : Act) → acted flat s act ≡ Some t → t.holders ≡ s.holders
  acted_holders s t act e = sym (ap (λ (x : Replay S). x.holders) (mapped (λ (f : S). record s { flat = f }) (flat.next s.flat act) t e).2)

  yield_holders : (s t : Replay S) (h page : ℕ) (left : Option Mode) (b : Bool)
      → option_map (holds flat page h left) (if b then acted flat s (Lose h) else Some s) ≡ Some t → t.holders ≡ with_held s.holders page h left
  yield_holders s t h page left false e = sym (ap (λ (x : Replay S). x.holders) (same_Some _ _ e))
  yield_holders s t h page left true e =
      let a = mapped (holds flat page h left) (acted flat s (Lose h)) t e in
      sym (ap (λ (x : Replay S). x.holders) a.2) ∙ ap (λ hs. with_held hs page h left) (acted_holders s a.0 (Lose h) a.1)

  holders_are : (s t : Replay S) (h : ℕ) (e : Entry) → effect flat s h e ≡ Some t → t.holders ≡ held_by h e s.holders
  holders_are s t h (entries.Gain count page seq mode waits) is = sym (ap (λ (x : Replay S). x.holders) (same_Some _ _ is))
  holders_are s t h (entries.Yield count page seq left) is = yield_holders s t h page left (ends_reservation flat s h page) is
  holders_are s t h (entries.Poll count ord time bits) is = acted_holders s t (Poll h time) is
  holders_are s t h (entries.Touch count ord input) is = acted_holders s t (Touch h input) is
  holders_are s t h (entries.End count) is = absurd (none-some _ is)

  -- an entry that was made: what it did, the cursor behind it, and that its guard was met
  pub record MadeEntry (r m : Recording S) (h : ℕ) (e : Entry) : Type 0 where
    pub did : Did r.at m.at h e
    pub cursor : m.at.cursor ≡ taken r.at.cursor h e
    pub guard : met_by (page_number e) (ordinal_of e) r.at.cursor.numbers r.at.cursor.ordinal ≡ true
    pub holders : m.at.holders ≡ held_by h e r.at.holders
    pub streams : m.streams ≡ pushed h e r.streams

  pub made_entry : (r m : Recording S) (h : ℕ) (e : Entry) → Good r.at.flat → IsRecorded flat r h (Makes e) m → MadeEntry r m h e
  made_entry r m h e good one =
      let a = mapped (past flat h e) (effect flat r.at h e) m.at one.made in
      let d = did_entry r.at a.0 h e good a.1 in
      let f : m.at.flat ≡ a.0.flat = sym (ap (λ (x : Replay S). x.flat) a.2) in
      record {
        did = record {
          own = ap (λ x. flat.count x h) f ∙ d.own;
          others = λ g n. ap (λ x. flat.count x g) f ∙ d.others g n;
          later = (let z = ap flat.time f in let l = d.later in omega (arith, z, l));
          time = λ n is. let l = d.time n is in let z = ap flat.time f in let b = l.1 in (l.0, omega (arith, z, b));
        };
        cursor = sym (ap (λ (x : Replay S). x.cursor) a.2) ∙ ap (λ (c : Cursor). taken c h e) (entry_places flat harts Good steady r.at a.0 h e a.1);
        guard = sym (guard_is r.at.cursor e) ∙ met (guard_is_met r.at.cursor e) _ one.goes;
        holders = sym (ap (λ (x : Replay S). x.holders) a.2) ∙ holders_are r.at a.0 h e a.1;
        streams = one.streams;
      }

  pub record IsOrdered (r : Recording S) : Type 0 where
    pub tidy : IsTidy flat harts Good steady r
    pub each : (h : ℕ) → h < harts → IsTidyStream limit (stream_in r.streams h) (flat.count r.at.flat h)
    pub numbers : (page : ℕ) → page < pages → IsNumbered (number_on page) (slice_index r.at.cursor.numbers page) r.streams
    pub numbers_size : length r.at.cursor.numbers ≡ pages
    pub in_pages : (g i : ℕ) (e : Entry) (p : ℕ × ℕ) → At r.streams g i e → page_number e ≡ Some p → p.0 < pages
    pub ordinals : IsNumbered ordinal_of r.at.cursor.ordinal r.streams
    pub times : (g i t : ℕ) (e : Entry) → At r.streams g i e → time_of e ≡ Some t → t ≤ flat.time r.at.flat
    pub rise : (g i h j k l s t : ℕ) (e f : Entry) → At r.streams g i e → At r.streams h j f → ordinal_of e ≡ Some k → ordinal_of f ≡ Some l → k < l
        → time_of e ≡ Some s → time_of f ≡ Some t → s ≤ t

  -- the number of an entry on a page
  number_at : (e : Entry) (q : ℕ) (p : Option (ℕ × ℕ)) → page_number e ≡ p → number_on q e ≡ option_and_then (λ x. if x.0 == q then Some x.1 else None) p
  number_at e q p is = ap (option_and_then (λ x. if x.0 == q then Some x.1 else None)) is

  numbers_step : (r : Recording S) (h q : ℕ) (e : Entry) (p : Option (ℕ × ℕ)) → h < length r.streams → q < pages → length r.at.cursor.numbers ≡ pages
      → page_number e ≡ p → met_by p (ordinal_of e) r.at.cursor.numbers r.at.cursor.ordinal ≡ true
      → IsNumbered (number_on q) (slice_index r.at.cursor.numbers q) r.streams
      → IsNumbered (number_on q) (slice_index (numbers_by p r.at.cursor.numbers) q) (pushed h e r.streams)
  numbers_step r h q e None l inside size is guard numbered =
      numbered_still (number_on q) (slice_index r.at.cursor.numbers q) r.streams h e l (number_at e q None is) numbered
  numbers_step r h q e (Some p) l inside size is guard numbered = elim (eqb_tells p.0 q) [
    | inl (t, same) ↦
        let ns = r.at.cursor.numbers in
        let k : slice_index ns q ≡ p.1 = get_or_from_slice_get ns q p.1 0
        (subst (λ z. slice_get ns z ≡ Some p.1) same (number_met p.1 (slice_get ns p.0) guard)) in
        let number : number_on q e ≡ Some (slice_index ns q) = number_at e q (Some p) is ∙ ap (λ b. if b then Some p.1 else None) t ∙ ap Some (sym k) in
        let next : slice_index (slice_set ns p.0 (p.1 + 1)) q ≡ slice_index ns q + 1 =
        subst (λ z. slice_index (slice_set ns z (p.1 + 1)) q ≡ slice_index ns q + 1) (sym same)
        (get_or_from_slice_get (slice_set ns q (p.1 + 1)) q (p.1 + 1) 0 (set_here ns q (p.1 + 1) (omega (arith, inside, size)))
        ∙ ap (λ z. z + 1) (sym k)) in
        subst (λ n. IsNumbered (number_on q) n (pushed h e r.streams)) (sym next)
        (numbered_more (number_on q) (slice_index ns q) r.streams h e l number numbered)
    | inr (f, n) ↦
        subst (λ n. IsNumbered (number_on q) n (pushed h e r.streams)) (sym (get_or-set_other r.at.cursor.numbers p.0 q (p.1 + 1) 0 (λ z. n (sym z))))
        (numbered_still (number_on q) (slice_index r.at.cursor.numbers q) r.streams h e l
        (number_at e q (Some p) is ∙ ap (λ b. if b then Some p.1 else None) f) numbered)
  ]

  ordinal_met : (p : Option (ℕ × ℕ)) (k : ℕ) (ns : List ℕ) (o : ℕ) → ((pp : ℕ × ℕ) → p ≡ Some pp → ⊥) → met_by p (Some k) ns o ≡ true → k ≡ o
  ordinal_met None k ns o none e = eqb-true k o e
  ordinal_met (Some p) k ns o none e = absurd (none p refl)

  no_page : (e : Entry) (k : ℕ) → ordinal_of e ≡ Some k → (p : ℕ × ℕ) → page_number e ≡ Some p → ⊥
  no_page e k is p e' = none-some _ (sym (one_kind e p e') ∙ is)

  ordinals_step : (r : Recording S) (h : ℕ) (e : Entry) (o : Option ℕ) → h < length r.streams → ordinal_of e ≡ o
      → met_by (page_number e) o r.at.cursor.numbers r.at.cursor.ordinal ≡ true → IsNumbered ordinal_of r.at.cursor.ordinal r.streams
      → IsNumbered ordinal_of (ordinal_by o r.at.cursor.ordinal) (pushed h e r.streams)
  ordinals_step r h e None l is guard numbered = numbered_still ordinal_of r.at.cursor.ordinal r.streams h e l is numbered
  ordinals_step r h e (Some k) l is guard numbered =
      let same : k ≡ r.at.cursor.ordinal = ordinal_met (page_number e) k r.at.cursor.numbers r.at.cursor.ordinal (no_page e k is) guard in
      subst (λ n. IsNumbered ordinal_of (n + 1) (pushed h e r.streams)) (sym same)
      (numbered_more ordinal_of r.at.cursor.ordinal r.streams h e l (is ∙ ap Some same) numbered)

  -- the hart's stream and count behind an entry
  stream_step : (r m : Recording S) (h : ℕ) (e : Entry) → Did r.at m.at h e → Stands flat r.at h (Makes e) → Allowed flat pages limit r h (Makes e)
      → IsTidyStream limit (stream_in r.streams h) (flat.count r.at.flat h) → IsTidyStream limit (stream_in r.streams h ++ e ∷ []) (flat.count m.at.flat h)
  stream_step r m h (entries.Gain count page seq mode waits) did stands allowed tidy =
      entered_on limit (stream_in r.streams h) (entries.Gain count page seq mode waits) (flat.count r.at.flat h) (flat.count m.at.flat h) tidy stands.0 refl
      (λ t. absurd (true≢false (sym t))) (λ _ _. allowed.1) (inl (refl, did.own))
  stream_step r m h (entries.Yield count page seq left) did stands allowed tidy =
      entered_on limit (stream_in r.streams h) (entries.Yield count page seq left) (flat.count r.at.flat h) (flat.count m.at.flat h) tidy stands.0 refl
      (λ t. absurd (true≢false (sym t))) (λ _ l. allowed.0 l) (inl (refl, did.own))
  stream_step r m h (entries.Poll count ord time bits) did stands allowed tidy =
      entered_on limit (stream_in r.streams h) (entries.Poll count ord time bits) (flat.count r.at.flat h) (flat.count m.at.flat h) tidy stands.0 refl
      (λ _. (allowed.1, allowed.0, allowed.2)) (λ t. absurd (true≢false t)) (inl (refl, did.own))
  stream_step r m h (entries.Touch count ord input) did stands allowed tidy =
      entered_on limit (stream_in r.streams h) (entries.Touch count ord input) (flat.count r.at.flat h) (flat.count m.at.flat h) tidy stands.0 refl
      (λ t. absurd (true≢false (sym t))) (λ _ _. allowed.1) (inr (refl, allowed.0, did.own))
  stream_step r m h (entries.End count) did stands allowed tidy = absurd allowed

  page_inside : (r : Recording S) (h : ℕ) (e : Entry) (p : ℕ × ℕ) → Allowed flat pages limit r h (Makes e) → page_number e ≡ Some p → p.0 < pages
  page_inside r h (entries.Gain count page seq mode waits) p allowed is = subst (λ (z : ℕ × ℕ). z.0 < pages) (same_Some _ _ is) allowed.2
  page_inside r h (entries.Yield count page seq left) p allowed is = subst (λ (z : ℕ × ℕ). z.0 < pages) (same_Some _ _ is) allowed.1
  page_inside r h (entries.Poll count ord time bits) p allowed is = absurd (none-some _ is)
  page_inside r h (entries.Touch count ord input) p allowed is = absurd (none-some _ is)
  page_inside r h (entries.End count) p allowed is = absurd (none-some _ is)

  entry_ordered : (r m : Recording S) (h : ℕ) (e : Entry) → IsOrdered r → IsRecorded flat r h (Makes e) m → Allowed flat pages limit r h (Makes e) → IsOrdered m
  entry_ordered r m h e ordered one allowed =
      let x = made_entry r m h e ordered.tidy.good one in
      let l = one.hart in
      let inside : h < harts = (let z = ordered.tidy.streams in omega (arith, l, z)) in
      let cursor = x.cursor ∙ taken_is r.at.cursor h e in
      let ns : m.at.cursor.numbers ≡ numbers_by (page_number e) r.at.cursor.numbers = ap (λ (c : Cursor). c.numbers) cursor in
      let o : m.at.cursor.ordinal ≡ ordinal_by (ordinal_of e) r.at.cursor.ordinal = ap (λ (c : Cursor). c.ordinal) cursor in
      record {
        tidy = tidy_item flat harts Good steady r m h (Makes e) ordered.tidy one;
        each = λ g less. streams_are x inside g less (eqb_tells g h);
        numbers = λ page less. subst (λ k. IsNumbered (number_on page) (slice_index k page) m.streams) (sym ns)
            (subst (IsNumbered (number_on page) _) (sym x.streams)
            (numbers_step r h page e (page_number e) l less ordered.numbers_size refl x.guard (ordered.numbers page less)));
        numbers_size = ap (λ (k : List ℕ). length k) ns ∙ size (page_number e) ∙ ordered.numbers_size;
        in_pages = λ g i y p at is. ⊎_elim (λ a. ordered.in_pages g i y p a is) (λ b. page_inside r h e p allowed (ap page_number b.2 ∙ is))
            (at_pushed r.streams h e l g i y (subst (λ ss. At ss g i y) x.streams at));
        ordinals = subst (λ k. IsNumbered ordinal_of k m.streams) (sym o)
            (subst (IsNumbered ordinal_of _) (sym x.streams) (ordinals_step r h e (ordinal_of e) l refl x.guard ordered.ordinals));
        times = λ g i t y at is. ⊎_elim (λ a. let z = ordered.times g i t y a is in let k = x.did.later in omega (arith, z, k))
            (λ b. (x.did.time t (ap time_of b.2 ∙ is)).1) (at_pushed r.streams h e l g i y (subst (λ ss. At ss g i y) x.streams at));
        rise = λ g i f j k n s t y z at_y at_z oy oz less sy sz. rising x g i f j k n s t y z oy oz less sy sz
            (at_pushed r.streams h e l g i y (subst (λ ss. At ss g i y) x.streams at_y))
            (at_pushed r.streams h e l f j z (subst (λ ss. At ss f j z) x.streams at_z));
      }
    where
      size : (p : Option (ℕ × ℕ)) → length (numbers_by p r.at.cursor.numbers) ≡ length r.at.cursor.numbers
      size None = refl
      size (Some p) = length-set r.at.cursor.numbers p.0 (p.1 + 1)

      streams_are : MadeEntry r m h e → h < harts → (g : ℕ) → g < harts → (((g == h) ≡ true) × (g ≡ h)) ⊎ (((g == h) ≡ false) × (g ≢ h))
          → IsTidyStream limit (stream_in m.streams g) (flat.count m.at.flat g)
      streams_are x inside g less (inl (t, same)) =
          subst (λ k. IsTidyStream limit (stream_in m.streams k) (flat.count m.at.flat k)) (sym same)
          (subst (λ s. IsTidyStream limit s (flat.count m.at.flat h))
          (sym (ap (λ ss. stream_in ss h) x.streams ∙ stream_here r.streams h (stream_in r.streams h ++ e ∷ []) one.hart))
          (stream_step r m h e x.did one.stands allowed (ordered.each h inside)))
      streams_are x inside g less (inr (f, n)) =
          subst (λ s. IsTidyStream limit s (flat.count m.at.flat g))
          (sym (ap (λ ss. stream_in ss g) x.streams ∙ stream_there r.streams h g (stream_in r.streams h ++ e ∷ []) n))
          (subst (IsTidyStream limit (stream_in r.streams g)) (sym (x.did.others g n)) (ordered.each g less))

      next_is : MadeEntry r m h e → (k : ℕ) → ordinal_of e ≡ Some k → k ≡ r.at.cursor.ordinal
      next_is x k is = ordinal_met (page_number e) k r.at.cursor.numbers r.at.cursor.ordinal (no_page e k is)
          (subst (λ o. met_by (page_number e) o r.at.cursor.numbers r.at.cursor.ordinal ≡ true) is x.guard)

      rising : MadeEntry r m h e → (g i f j k n s t : ℕ) (y z : Entry) → ordinal_of y ≡ Some k → ordinal_of z ≡ Some n → k < n → time_of y ≡ Some s
          → time_of z ≡ Some t
          → (At r.streams g i y) ⊎ ((g ≡ h) × (i ≡ length (stream_in r.streams h)) × (e ≡ y))
          → (At r.streams f j z) ⊎ ((f ≡ h) × (j ≡ length (stream_in r.streams h)) × (e ≡ z)) → s ≤ t
      rising x g i f j k n s t y z oy oz less sy sz (inl a) (inl b) = ordered.rise g i f j k n s t y z a b oy oz less sy sz
      rising x g i f j k n s t y z oy oz less sy sz (inl a) (inr b) =
          let p = ordered.times g i s y a sy in let q = (x.did.time t (ap time_of b.2 ∙ sz)).0 in omega (arith, p, q)
      rising x g i f j k n s t y z oy oz less sy sz (inr a) (inl b) =
          let p = ordered.ordinals.below f j n z b oz in let q = next_is x k (ap ordinal_of a.2 ∙ oy) in absurd (omega (arith, p, q, less))
      rising x g i f j k n s t y z oy oz less sy sz (inr a) (inr b) =
          let p = next_is x k (ap ordinal_of a.2 ∙ oy) in let q = next_is x n (ap ordinal_of b.2 ∙ oz) in absurd (omega (arith, p, q, less))

  move_ordered : (r m : Recording S) (h : ℕ) → IsOrdered r → IsRecorded flat r h Move m → Allowed flat pages limit r h Move → IsOrdered m
  move_ordered r m h ordered one allowed =
      let n = acts_on r.at m.at (Run h) one.made in
      let a = mapped (λ (f : S). record r.at { flat = f }) (flat.next r.at.flat (Run h)) m.at one.made in
      let cursor : m.at.cursor ≡ r.at.cursor = sym (ap (λ (x : Replay S). x.cursor) a.2) in
      let later : flat.time r.at.flat ≤ flat.time m.at.flat =
      (let z = ap flat.time n.2 in let l = timed.later r.at.flat n.0 (Run h) ordered.tidy.good n.1 in omega (arith, z, l)) in
      let inside : h < harts = (let z = ordered.tidy.streams in let l = one.hart in omega (arith, l, z)) in
      record {
        tidy = tidy_item flat harts Good steady r m h Move ordered.tidy one;
        each = λ g less. streams_are inside g less (eqb_tells g h);
        numbers = λ page less. subst (λ (c : Cursor). IsNumbered (number_on page) (slice_index c.numbers page) m.streams) (sym cursor)
            (subst (IsNumbered (number_on page) _) (sym one.streams) (ordered.numbers page less));
        numbers_size = ap (λ (c : Cursor). length c.numbers) cursor ∙ ordered.numbers_size;
        in_pages = λ g i y p at is. ordered.in_pages g i y p (subst (λ ss. At ss g i y) one.streams at) is;
        ordinals = subst (λ (c : Cursor). IsNumbered ordinal_of c.ordinal m.streams) (sym cursor)
            (subst (IsNumbered ordinal_of _) (sym one.streams) ordered.ordinals);
        times = λ g i t y at is. let z = ordered.times g i t y (subst (λ ss. At ss g i y) one.streams at) is in omega (arith, z, later);
        rise = λ g i f j k l s t y z at_y at_z oy oz less sy sz. ordered.rise g i f j k l s t y z (subst (λ ss. At ss g i y) one.streams at_y)
            (subst (λ ss. At ss f j z) one.streams at_z) oy oz less sy sz;
      }
    where
      streams_are : h < harts → (g : ℕ) → g < harts → (((g == h) ≡ true) × (g ≡ h)) ⊎ (((g == h) ≡ false) × (g ≢ h))
          → IsTidyStream limit (stream_in m.streams g) (flat.count m.at.flat g)
      streams_are inside g less (inl (t, same)) =
          subst (λ k. IsTidyStream limit (stream_in m.streams k) (flat.count m.at.flat k)) (sym same)
          (subst (λ ss. IsTidyStream limit (stream_in ss h) (flat.count m.at.flat h)) (sym one.streams)
          (moved_on limit (stream_in r.streams h) (flat.count r.at.flat h) (flat.count m.at.flat h) (ordered.each h inside)
          (moves flat harts Good steady r.at m.at h ordered.tidy.good one.made) allowed.0 allowed.1))
      streams_are inside g less (inr (f, n)) =
          let k = acts_on r.at m.at (Run h) one.made in
          subst (λ ss. IsTidyStream limit (stream_in ss g) (flat.count m.at.flat g)) (sym one.streams)
          (subst (IsTidyStream limit (stream_in r.streams g))
          (sym (ap (λ x. flat.count x g) k.2 ∙ timed.others r.at.flat k.0 (Run h) g ordered.tidy.good k.1 n)) (ordered.each g less))

  pub ordered_item : (r m : Recording S) (h : ℕ) (item : Item) → IsOrdered r → IsRecorded flat r h item m → Allowed flat pages limit r h item → IsOrdered m
  ordered_item r m h Ended ordered one allowed = absurd allowed
  ordered_item r m h Move ordered one allowed = move_ordered r m h ordered one allowed
  ordered_item r m h (Makes e) ordered one allowed = entry_ordered r m h e ordered one allowed
