-- What a turn without moves leaves its own hart, where every other hart that has stored a want comes behind it.
use Rattle.std.proofs.Common.{◌≡◌, ◌≢◌, ◌⊎◌, inl, inr, ℕ, ◌+◌, ◌-◌, ◌*◌, ◌/◌, ◌%◌, ◌<◌, ◌≤◌, ◌==◌, ◌&&◌, ◌||◌, not, cond, Bool, true, false, List, []}
use Rattle.std.proofs.Common.{◌∷◌, ◌++◌, length, map, max, min, find, Option, Some, None, is_some, nat_lt, nat_le, slice_get, slice_set, unwrap_or, refl, sym}
use Rattle.std.proofs.Common.{ap, ap₂, ◌∙◌, subst, arith, if◌then◌else◌, true≢false}
use Rattle.std.specs.List.{list_any}
use Rattle.std.specs.Option.{option_map, option_or}
use Rattle.std.proofs.lemmas.Option.{none-some, same_Some}
use Rattle.std.proofs.lemmas.Bool.{eq-eqb, ne_eqb, or_parts}
use Rattle.std.proofs.lemmas.Bool.Decides.{eqb_tells}
use Rattle.rv_words.specs.Limits.{poll_distance}
use Rattle.rv_words.specs.declared.shared.Mode.{Mode}
use Rattle.rv_words.specs.declared.shared.Mode.TheVariants.{Read, Write}
use Rattle.rv_words.specs.declared.shared.Input.TheVariants.{Nothing}
use Rattle.rv_words.specs.declared.shared.Cause.TheVariants as causes
use Rattle.rv_words.specs.declared.shared.DeviceWord.{DeviceWord}
use Rattle.rv_words.specs.Modes.{conflicts}
use Rattle.outside.specs.declared.console.Asked.{Asked}
use Rattle.device_board.specs.Recording.{recorded_input}
use Rattle.log_entry.specs.declared.log.Entry.{Entry}
use Rattle.log_entry.specs.Parts.{is_touch, strength, conflict, is_some_and}
use Rattle.order_rules.specs.Rules.{has_poll}
use Rattle.flat_machine.specs.declared.act.Act.TheVariants.{Lose}
use Rattle.order_rules.specs.Holders.{row, held, with_held}
use Rattle.replay_model.specs.Journal.{left_for}
use Rattle.replay_model.specs.State.{Replay, want}
use Rattle.replay_model.specs.Items.{Makes, made, acted, effect, past, holds, ends_reservation}
use Rattle.shared_types.proofs.Lists.{mapped, set_here}
use Rattle.order_rules.proofs.Follow.{held_here, held_elsewhere, held_beside}
use Rattle.crew_recording.specs.Allowed.{IsPolled}
use Rattle.crew_recording.proofs.OrderedRecordings.{acts_on, did_entry}
use Rattle.turn_model.specs.Recordable.{Recordable}
use Rattle.turn_model.specs.Board.{Board, Order, Go, Hold, Rest, Supply, Terms, harts, wanted, stream, closes, is_at_limit}
use Rattle.turn_model.specs.Claims.{stands_before, holds_so, kept_by, known, claims_against}
use Rattle.turn_model.specs.Ways.{Way, On, Ends, Nowhere, on, has_room, with_room, entered}
use Rattle.turn_model.specs.Ways as ways
use Rattle.turn_model.specs.Steps.{passes_favour, with_want, console_gives, clock_gives, clock_answers, next_poll, steps, rests_where_closed, rests_at_limit}
use Rattle.turn_model.specs.Steps.{is_due, poll_at, polls_with, polls, yield_of, yields_now, yields_for, yields_to, yields, gain_of, gains_unless, gains_page}
use Rattle.turn_model.specs.Steps.{gains, touch_of, touched, touches_at, touches_with, accesses, touches, goes_on}
use Rattle.turn_model.specs.Faithful.{IsFaithful, AllBelow}
use Rattle.turn_model.proofs.Ways.{sound_after}
use Rattle.turn_model.proofs.Steps.{Sound, To, Any, Polled, Below, Kept, lacks, rests_where_closed_to, rests_at_limit_to, below_limit, polls_to, yields_to_to}
use Rattle.turn_model.proofs.Steps.{yields_come, gains_page_to, gains_to, touches_to}
use Rattle.round_progress.proofs.Demands.{IsPlain}
use Rattle.round_progress.proofs.Ways.{Out, choice, once, none_found, held_inside, both_true, not_true, did, Same, same_entry, one_false, not_so, so_is}
use Rattle.round_progress.proofs.Ways.{lt_of_le}

abbrev pub EachIn : ℕ → List ℕ → Type 0
EachIn n [] = Unit {0}
EachIn n (x ∷ xs) = (x < n) × EachIn n xs

each_more : (n : ℕ) (xs : List ℕ) (h : ℕ) → EachIn n xs → h < n → EachIn n (xs ++ h ∷ [])
each_more n [] h all l = (l, tt)
each_more n (x ∷ xs) h all l = (all.0, each_more n xs h all.1 l)

last_false : (x y : Bool) → (x && y) ≡ false → y ≡ true → x ≡ false
last_false true y e is = absurd (true≢false (sym is ∙ e))
last_false false y e is = refl

-- what is left of a hold for another's mode, where a mode that is held doesn't conflict with it
left_so : (hold : Option Mode) (k m : Mode) → conflict hold (Some m) ≡ true → conflicts k m ≡ false → nat_le (strength (Some k)) (strength (left_for m)) ≡ true
left_so hold Read Read hit apart = refl
left_so hold Read Write hit apart = absurd (true≢false apart)
left_so hold Write m hit apart = absurd (true≢false apart)

left_lower : (hold : Option Mode) (m k : Mode) → conflict hold (Some m) ≡ true → nat_le (strength (Some k)) (strength hold) ≡ false
    → nat_le (strength (Some k)) (strength (left_for m)) ≡ false
left_lower None m k hit low = absurd (true≢false (sym hit))
left_lower (Some Read) Read k hit low = absurd (true≢false (sym hit))
left_lower (Some Read) Write Read hit low = absurd (true≢false low)
left_lower (Some Read) Write Write hit low = refl
left_lower (Some Write) m Read hit low = absurd (true≢false low)
left_lower (Some Write) m Write hit low = absurd (true≢false low)

-- the least multiple, not below a count
abbrev ceil : ℕ → ℕ
ceil n = (n + (poll_distance - 1)) / poll_distance * poll_distance

-- the next Poll that is due is past a count whose own Poll is made
past_count : (n : ℕ) (p : Bool) → (ceil n ≡ n → p ≡ true) → n < (if p then ceil n + poll_distance else ceil n)
past_count n true f = omega arith
past_count n false f = by (eqb_tells (ceil n) n) where
  by : (((ceil n == n) ≡ true) × (ceil n ≡ n))
      ⊎ (((ceil n == n) ≡ false) × (ceil n ≢ n)) → n < ceil n
  by (inl (t, e)) = absurd (true≢false (sym (f e)))
  by (inr (t, e)) = omega (arith, e)

min_past : (n a b : ℕ) → n < a → n < b → n < min a b
min_past n a b l m = omega (arith, l, m)

module _ {S V : Type 0} (machine : Recordable S V) (terms : Terms) (many pages : ℕ) (Good : S → Type 0) (faithful : IsFaithful machine.flat many pages Good)
    (plain : IsPlain machine many Good) (h : ℕ) (inside : h < many) where
  abbrev SoundB : Board S → Type 0
  SoundB b = Sound machine terms many pages Good faithful h inside b

  abbrev ToB : (Board S → Type 0) → Board S → Way S → Type 0
  ToB P b way = To machine terms many pages Good faithful h inside P b way

  abbrev PolledB : Board S → Type 0
  PolledB = Polled machine terms many pages Good faithful h inside

  abbrev BelowB : Board S → Type 0
  BelowB = Below machine terms many pages Good faithful h inside

  abbrev SameB : Board S → Board S → Type 0
  SameB b c = Same machine terms many pages Good faithful h b c

  -- further steps behind a way, with what either walk says
  along : (P D E : Board S → Type 0) (Q : Order → Board S → Type 0) (b : Board S) (steps : List (Board S → Way S)) (way : Way S) → SoundB b → ToB P b way
      → Out D Q way
      → ((c : Board S) → SoundB c → P c → D c → Out E Q (ways.goes steps (On c))) → Out E Q (ways.goes steps way)
  along P D E Q b steps (On c) sound comes out more = more c (sound_after machine.flat many pages terms.limit Good faithful h b c sound comes.0) comes.1 out
  along P D E Q b [] (Ends order c) sound comes out more = out
  along P D E Q b (step ∷ steps) (Ends order c) sound comes out more = out
  along P D E Q b [] Nowhere sound comes out more = tt
  along P D E Q b (step ∷ steps) Nowhere sound comes out more = tt

  abbrev Needs : Board S → List (ℕ × Mode)
  Needs b = machine.flat.need b.at.flat h

  -- the first page of a list is held so
  abbrev pub First : Board S → List (ℕ × Mode) → Type 0
  First b [] = Unit {0}
  First b (k ∷ ks) = holds_so b h k ≡ true

  abbrev pub FirstHeld : Board S → Type 0
  FirstHeld b = First b (machine.flat.need b.at.flat h)

  -- no other hart holds in conflict what the hart wants
  abbrev pub Free : Board S → ℕ × Mode → Type 0
  Free b n = (g : ℕ) → g < many → g ≢ h → conflict (held b.at.holders n.0 g) (Some n.1) ≡ false

  -- so its want is free, if it has one, and no Poll is due
  abbrev pub Carry : Board S → Type 0
  Carry b = ((n : ℕ × Mode) → want machine.flat b.at h ≡ Some n → Free b n) × (is_due machine terms h b ≡ false)

  abbrev pub Quiet : Board S → Type 0
  Quiet c =
      (want machine.flat c.at h ≡ None) × (machine.flat.is_at_device c.at.flat h ≡ false) × (machine.flat.count c.at.flat h < terms.limit)
      × IsPolled (stream c h) (machine.flat.count c.at.flat h)

  -- where a turn ends, of a board before it: it closed it, or made a Touch, or found its way free, or has stored a want: of a
  -- second page then, if the first was free before
  abbrev pub Result : Board S → Order → Board S → Type 0
  Result b (Go until) c = Quiet c × (machine.flat.count c.at.flat h < until)
  Result b (Hold page g) c = ((n : ℕ × Mode) × (wanted c h ≡ Some n)) × PolledB c × (Carry b → (FirstHeld b → ⊥) × FirstHeld c)
  Result b Rest c = ⊥

  abbrev pub End : Board S → Order → Board S → Type 0
  End b order c = (is_some c.closed ≡ true) ⊎ ((machine.flat.count b.at.flat h < machine.flat.count c.at.flat h) ⊎ Result b order c)

  roomy : (b : Board S) (D : Board S → Type 0) (e : Entry) (step : Board S → Way S) (c : Board S) → Out D (End b) (step c)
      → Out D (End b) (with_room machine terms e step c)
  roomy b D e step c comes = choice D (End b) (has_room machine terms e c) (step c) (Ends Rest (closes causes.Full c)) (λ _. comes) (λ _. inl refl)

  -- a Gain or a Yield keeps the need of its hart
  yield_needs : (s t : Replay S) (page : ℕ) (left : Option Mode) (x : Bool) → Good s.flat
      → option_map (holds machine.flat page h left) (if x then acted machine.flat s (Lose h) else Some s) ≡ Some t
      → machine.flat.need t.flat h ≡ machine.flat.need s.flat h
  yield_needs s t page left false good is = sym (ap (λ (x : Replay S). machine.flat.need x.flat h) (same_Some _ _ is))
  yield_needs s t page left true good is =
      let a = mapped (holds machine.flat page h left) (acted machine.flat s (Lose h)) t is in
      let n = acts_on machine.flat many Good faithful.steady faithful.timed pages terms.limit s a.0 (Lose h) a.1 in
      sym (ap (λ (x : Replay S). machine.flat.need x.flat h) a.2) ∙ ap (λ f. machine.flat.need f h) n.2 ∙ plain.keeps s.flat n.0 h good n.1

  yielded_needs : (c d : Board S) (n : ℕ × Mode) → Good c.at.flat → entered machine terms h (yield_of machine terms h n c) c ≡ Some d → Needs d ≡ Needs c
  yielded_needs c d n good is =
      let e = yield_of machine terms h n c in
      let a =
      mapped (λ (s : Replay S). record c { at = s; streams = slice_set c.streams h (stream c h ++ e ∷ []) }) (made machine.flat c.at h (Makes e)) d is in
      let i = mapped (past machine.flat h e) (effect machine.flat c.at h e) a.0 a.1 in
      sym (ap (λ (x : Board S). machine.flat.need x.at.flat h) a.2) ∙ sym (ap (λ (x : Replay S). machine.flat.need x.flat h) i.2)
      ∙ yield_needs c.at i.0 n.0 (left_for n.1) (ends_reservation machine.flat c.at h n.0) good i.1

  touch_rises : (c d : Board S) (e : Entry) → is_touch e ≡ true → Good c.at.flat → entered machine terms h e c ≡ Some d
      → machine.flat.count d.at.flat h ≡ machine.flat.count c.at.flat h + 1
  touch_rises c d e touch good is =
      let a =
      mapped (λ (s : Replay S). record c { at = s; streams = slice_set c.streams h (stream c h ++ e ∷ []) }) (made machine.flat c.at h (Makes e)) d is in
      let i = mapped (past machine.flat h e) (effect machine.flat c.at h e) a.0 a.1 in
      sym (ap (λ (x : Board S). machine.flat.count x.at.flat h) a.2) ∙ sym (ap (λ (x : Replay S). machine.flat.count x.flat h) i.2)
      ∙ (did_entry machine.flat many Good faithful.steady faithful.timed pages terms.limit c.at i.0 h e good i.1).own
      ∙ ap (λ x. if x then machine.flat.count c.at.flat h + 1 else machine.flat.count c.at.flat h) touch

  -- what other harts hold, and what the hart holds so of a list, as it was
  abbrev Others : Board S → Board S → Type 0
  Others b c = (q g : ℕ) → g < many → g ≢ h → held c.at.holders q g ≡ held b.at.holders q g

  abbrev AllSo : Board S → Board S → List (ℕ × Mode) → Type 0
  AllSo b c [] = Unit {0}
  AllSo b c (k ∷ ks) = (holds_so c h k ≡ holds_so b h k) × AllSo b c ks

  -- of what is known, that is: of the rest only where the first is held so
  abbrev KeptSo : Board S → Board S → List (ℕ × Mode) → Type 0
  KeptSo b c [] = Unit {0}
  KeptSo b c (k ∷ ks) = (holds_so c h k ≡ holds_so b h k) × (holds_so b h k ≡ true → AllSo b c ks)

  all_refl : (b : Board S) (ks : List (ℕ × Mode)) → AllSo b b ks
  all_refl b [] = tt
  all_refl b (k ∷ ks) = (refl, all_refl b ks)

  kept_refl : (b : Board S) (ks : List (ℕ × Mode)) → KeptSo b b ks
  kept_refl b [] = tt
  kept_refl b (k ∷ ks) = (refl, λ _. all_refl b ks)

  set_others : (c d : Board S) (page : ℕ) (hold : Option Mode) → d.at.holders ≡ with_held c.at.holders page h hold → page < length c.at.holders → Others c d
  set_others c d page hold is l q g less other = ap (λ hs. held hs q g) is ∙ by (eqb_tells q page) where
    by : (((q == page) ≡ true) × (q ≡ page)) ⊎ (((q == page) ≡ false) × (q ≢ page)) → held (with_held c.at.holders page h hold) q g ≡ held c.at.holders q g
    by (inl (t, here)) =
        subst (λ z. held (with_held c.at.holders page h hold) z g ≡ held c.at.holders z g) (sym here) (held_beside c.at.holders page h g hold l other)
    by (inr (f, away)) = held_elsewhere c.at.holders page q h g hold away

  -- a yield keeps what is held so and claimed, and what isn't held so isn't held so behind it
  yield_keeps : (c d : Board S) (k m : ℕ × Mode) → d.at.holders ≡ with_held c.at.holders m.0 h (left_for m.1)
      → conflict (held c.at.holders m.0 h) (Some m.1) ≡ true → ((k.0 == m.0) && conflicts k.1 m.1) ≡ false → holds_so d h k ≡ holds_so c h k
  yield_keeps c d k m is hit apart = ap (λ hs. nat_le (strength (Some k.1)) (strength (held hs k.0 h))) is ∙ by (eqb_tells k.0 m.0) where
    there : (m.0 < length c.at.holders) × (h < length (row c.at.holders m.0))
    there = held_inside c.at.holders m.0 h m.1 hit

    by : (((k.0 == m.0) ≡ true) × (k.0 ≡ m.0)) ⊎ (((k.0 == m.0) ≡ false) × (k.0 ≢ m.0))
        → nat_le (strength (Some k.1)) (strength (held (with_held c.at.holders m.0 h (left_for m.1)) k.0 h)) ≡ nat_le (strength (Some k.1))
        (strength (held c.at.holders k.0 h))
    by (inr (f, away)) = ap (λ o. nat_le (strength (Some k.1)) (strength o)) (held_elsewhere c.at.holders m.0 k.0 h h (left_for m.1) away)
    by (inl (t, here)) =
        ap (λ q. nat_le (strength (Some k.1)) (strength (held (with_held c.at.holders m.0 h (left_for m.1)) q h))) here
        ∙ ap (λ o. nat_le (strength (Some k.1)) (strength o)) (held_here c.at.holders m.0 h (left_for m.1) there.0 there.1)
        ∙ agree (nat_le (strength (Some k.1)) (strength (held c.at.holders m.0 h))) refl
        ∙ ap (λ q. nat_le (strength (Some k.1)) (strength (held c.at.holders q h))) (sym here)
      where
        agree : (x : Bool) → nat_le (strength (Some k.1)) (strength (held c.at.holders m.0 h)) ≡ x
            → nat_le (strength (Some k.1)) (strength (left_for m.1)) ≡ nat_le (strength (Some k.1)) (strength (held c.at.holders m.0 h))
        agree true e = left_so (held c.at.holders m.0 h) k.1 m.1 hit (one_false (k.0 == m.0) (conflicts k.1 m.1) apart t) ∙ sym e
        agree false e = left_lower (held c.at.holders m.0 h) m.1 k.1 hit e ∙ sym e

  all_keep : (b c d : Board S) (m : ℕ × Mode) (ks : List (ℕ × Mode)) → d.at.holders ≡ with_held c.at.holders m.0 h (left_for m.1)
      → conflict (held c.at.holders m.0 h) (Some m.1) ≡ true → list_any (λ n. (n.0 == m.0) && conflicts n.1 m.1) ks ≡ false → AllSo b c ks → AllSo b d ks
  all_keep b c d m [] is hit none all = tt
  all_keep b c d m (k ∷ ks) is hit none all =
      let both = or_parts ((k.0 == m.0) && conflicts k.1 m.1) (list_any (λ n. (n.0 == m.0) && conflicts n.1 m.1) ks) none in
      (yield_keeps c d k m is hit both.0 ∙ all.0, all_keep b c d m ks is hit both.1 all.1)

  known_keep : (b c d : Board S) (m : ℕ × Mode) (ks : List (ℕ × Mode)) → d.at.holders ≡ with_held c.at.holders m.0 h (left_for m.1)
      → conflict (held c.at.holders m.0 h) (Some m.1) ≡ true → list_any (λ n. (n.0 == m.0) && conflicts n.1 m.1) (known machine terms c h ks) ≡ false
      → KeptSo b c ks → KeptSo b d ks
  known_keep b c d m [] is hit none kept = tt
  known_keep b c d m (k ∷ ks) is hit none kept =
      let both = or_parts ((k.0 == m.0) && conflicts k.1 m.1) (list_any (λ n. (n.0 == m.0) && conflicts n.1 m.1) (if holds_so c h k then ks else [])) none in (
        yield_keeps c d k m is hit both.0 ∙ kept.0,
        λ so. all_keep b c d m ks is hit (sym (ap (λ x. list_any (λ n. (n.0 == m.0) && conflicts n.1 m.1) (if x then ks else [])) (kept.0 ∙ so)) ∙ both.1)
            (kept.1 so),
      )

  module _ (b : Board S) (wants_size : length b.wants ≡ many) (below_limit_at : is_at_limit machine terms b h ≡ false) (own : wanted b h ≡ None)
      (behind : (g : ℕ) (k : ℕ × Mode) → g ≢ h → wanted b g ≡ Some k → (g < many) × (stands_before b h g ≡ true) × (stands_before b g h ≡ false)) where
    -- between the steps
    pub record Mid (c : Board S) : Type 0 where
      pub same : SameB b c
      pub needs : (is_due machine terms h b ≡ false) → Needs c ≡ Needs b
      pub others : (is_due machine terms h b ≡ false) → Others b c
      pub kept : (is_due machine terms h b ≡ false) → KeptSo b c (Needs b)

    same_limit : (c : Board S) → SameB b c → is_at_limit machine terms c h ≡ false
    same_limit c same = ap (λ k. k == terms.limit) same.own ∙ below_limit_at

    same_before : (c : Board S) (x y : ℕ) → SameB b c → stands_before c x y ≡ stands_before b x y
    same_before c x y same = ap₂ (λ l f. nat_lt ((x + l - f) % l) ((y + l - f) % l)) same.size same.favoured

    same_want : (c : Board S) (x : ℕ) → SameB b c → wanted c x ≡ wanted b x
    same_want c x same = ap (λ (ws : List (Option (ℕ × Mode))). unwrap_or (slice_get ws x) None) same.wants

    yield_mid : (g : ℕ) (m : ℕ × Mode) (c d : Board S) → g ≢ h → wanted b g ≡ Some m → Mid c → yields_now machine terms h g m c ≡ true
        → entered machine terms h (yield_of machine terms h m c) c ≡ Some d → Mid d
    yield_mid g m c d other stored mid now is =
        let x = did machine terms many pages Good faithful h (yield_of machine terms h m c) c d mid.same.good is in
        let two = both_true (conflict (held c.at.holders m.0 h) (Some m.1)) _ now in
        let unclaimed =
        last_false (claims_against machine terms c h m.0 m.1) (stands_before c h g) (not_true _ two.1)
        (same_before c h g mid.same ∙ (behind g m other stored).1) in
        let none : list_any (λ n. (n.0 == m.0) && conflicts n.1 m.1) (known machine terms c h (Needs c)) ≡ false =
        one_false (not (is_at_limit machine terms c h)) _ unclaimed (ap not (same_limit c mid.same)) in
        let there = held_inside c.at.holders m.0 h m.1 two.0 in
        record {
          same = same_entry machine terms many pages Good faithful h (yield_of machine terms h m c) b c d refl mid.same is;
          needs = λ due. yielded_needs c d m mid.same.good is ∙ mid.needs due;
          others = λ due q k less n. set_others c d m.0 (left_for m.1) x.holders there.0 q k less n ∙ mid.others due q k less n;
          kept =
              λ due. known_keep b c d m (Needs b) x.holders two.0
              (subst (λ ns. list_any (λ n. (n.0 == m.0) && conflicts n.1 m.1) (known machine terms c h ns) ≡ false) (mid.needs due) none) (mid.kept due);
        }

    yields_for_mid : (g : ℕ) (c : Board S) (o : Option (ℕ × Mode)) → g ≢ h → wanted b g ≡ o → Mid c → Out Mid (End b) (yields_for machine terms h g o c)
    yields_for_mid g c None other is mid = mid
    yields_for_mid g c (Some m) other is mid =
        choice Mid (End b) (yields_now machine terms h g m c) _ (On c)
        (λ now. roomy b Mid (yield_of machine terms h m c) (λ c. on (entered machine terms h (yield_of machine terms h m c) c)) c
        (once Mid (End b) (entered machine terms h (yield_of machine terms h m c) c) (λ d e. yield_mid g m c d other is mid now e))) (λ _. mid)

    yields_to_mid : (g : ℕ) (c : Board S) → Mid c → Out Mid (End b) (yields_to machine terms h g c)
    yields_to_mid g c mid =
        choice Mid (End b) (g == h) (On c) (yields_for machine terms h g (wanted c g) c) (λ _. mid)
        (λ f. yields_for_mid g c (wanted c g) (λ e. true≢false (sym (eq-eqb g h e) ∙ f)) (sym (same_want c g mid.same)) mid)

    all_yields : (gs : List ℕ) (c : Board S) → SoundB c → PolledB c → Mid c → Out Mid (End b) (ways.goes (map (yields_to machine terms h) gs) (On c))
    all_yields [] c sound polled mid = mid
    all_yields (g ∷ gs) c sound polled mid =
        along PolledB Mid Mid (End b) c (map (yields_to machine terms h) gs) (yields_to machine terms h g c) sound
        (yields_to_to machine terms many pages Good faithful h inside g c sound polled) (yields_to_mid g c mid) (λ d s p m. all_yields gs d s p m)

    -- nobody keeps a page that no other hart holds in conflict
    nobody_keeps : (c : Board S) (n : ℕ × Mode) → length c.streams ≡ many → SameB b c → Free c n → kept_by c h n ≡ None
    nobody_keeps c n size same free =
        ap₂ option_or
        (none_found (λ g. not (g == h) && conflict (held c.at.holders n.0 g) (Some n.1)) (length c.streams)
        (λ g l. hit g (omega (arith, size, l)) (eqb_tells g h)))
        (none_found (λ g. stands_before c g h && is_some_and (wanted c g) (λ w. (w.0 == n.0) && conflicts w.1 n.1)) (length c.streams)
        (λ g l. asks g (eqb_tells g h) (wanted c g) refl))
      where
        hit : (g : ℕ) → g < many → (((g == h) ≡ true) × (g ≡ h)) ⊎ (((g == h) ≡ false) × (g ≢ h))
            → (not (g == h) && conflict (held c.at.holders n.0 g) (Some n.1)) ≡ false
        hit g l (inl (t, e)) = ap (λ x. not x && conflict (held c.at.holders n.0 g) (Some n.1)) t
        hit g l (inr (f, e)) = ap₂ (λ x y. not x && y) f (free g l e)

        asks : (g : ℕ) → (((g == h) ≡ true) × (g ≡ h)) ⊎ (((g == h) ≡ false) × (g ≢ h)) → (o : Option (ℕ × Mode)) → wanted c g ≡ o
            → (stands_before c g h && is_some_and o (λ w. (w.0 == n.0) && conflicts w.1 n.1)) ≡ false
        asks g e None is = out (stands_before c g h) where
          out : (x : Bool) → (x && false) ≡ false
          out true = refl
          out false = refl
        asks g (inl (t, e)) (Some w) is = absurd (none-some w (sym own ∙ ap (wanted b) (sym e) ∙ sym (same_want c g same) ∙ is))
        asks g (inr (f, e)) (Some w) is =
            ap (λ x. x && is_some_and (Some w) (λ w. (w.0 == n.0) && conflicts w.1 n.1))
            (same_before c g h same ∙ (behind g w e (sym (same_want c g same) ∙ is)).2)

    lacking : (c : Board S) (k : ℕ × Mode) → holds_so c h k ≡ false → lacks c.at.holders h k ≡ true
    lacking c k f = not_so (strength (Some k.1)) (strength (held c.at.holders k.0 h)) f

    not_lacking : (c : Board S) (k : ℕ × Mode) → holds_so c h k ≡ true → lacks c.at.holders h k ≡ false
    not_lacking c k t = lt_of_le (strength (Some k.1)) (strength (held c.at.holders k.0 h)) t

    holding : (c : Board S) (k : ℕ × Mode) → lacks c.at.holders h k ≡ false → holds_so c h k ≡ true
    holding c k f = so_is (strength (Some k.1)) (strength (held c.at.holders k.0 h)) f

    free_then : (c : Board S) (k : ℕ × Mode) → Others b c → Free b k → Free c k
    free_then c k others free g less other = ap (λ o. conflict o (Some k.1)) (others k.0 g less other) ∙ free g less other

    -- the first page that is needed, where it isn't held so
    first_free : (c : Board S) (a : ℕ × Mode) (ks : List (ℕ × Mode)) → length c.streams ≡ many → Mid c → Needs c ≡ a ∷ ks → holds_so c h a ≡ false → Carry b
        → kept_by c h a ≡ None
    first_free c a ks size mid is low carry =
        let needs : Needs b ≡ a ∷ ks = sym (mid.needs carry.1) ∙ is in
        let kept : KeptSo b c (a ∷ ks) = subst (KeptSo b c) needs (mid.kept carry.1) in
        let lack = lacking b a (sym kept.0 ∙ low) in
        let wants : want machine.flat b.at h ≡ Some a =
        ap (find (lacks b.at.holders h)) needs ∙ ap (λ x. cond x (Some a) (find (lacks b.at.holders h) ks)) lack in
        nobody_keeps c a size mid.same (free_then c a (mid.others carry.1) (carry.0 a wants))

    -- the second, where the first was held so
    second_free : (c : Board S) (a k : ℕ × Mode) → length c.streams ≡ many → Mid c → Needs c ≡ a ∷ k ∷ [] → holds_so b h a ≡ true → holds_so c h k ≡ false
        → Carry b → kept_by c h k ≡ None
    second_free c a k size mid is so low carry =
        let needs : Needs b ≡ a ∷ k ∷ [] = sym (mid.needs carry.1) ∙ is in
        let kept : KeptSo b c (a ∷ k ∷ []) = subst (KeptSo b c) needs (mid.kept carry.1) in
        let lack = lacking b k (sym (kept.1 so).0 ∙ low) in
        let wants : want machine.flat b.at h ≡ Some k =
        ap (find (lacks b.at.holders h)) needs ∙ ap (λ x. cond x (Some a) (find (lacks b.at.holders h) (k ∷ []))) (not_lacking b a so)
        ∙ ap (λ x. cond x (Some k) None) lack in
        nobody_keeps c k size mid.same (free_then c k (mid.others carry.1) (carry.0 k wants))

    hold_end : (d : Board S) (k : ℕ × Mode) (x : ℕ) → SameB b d → BelowB d → (Carry b → (FirstHeld b → ⊥) × FirstHeld d)
        → End b (Hold k.0 x) (with_want h (Some k) d)
    hold_end d k x same low f =
        let size : h < length d.wants = (let z = ap (λ (ws : List (Option (ℕ × Mode))). length ws) same.wants in omega (arith, z, wants_size, inside)) in
        inr (inr ((k, ap (λ o. unwrap_or o None) (set_here d.wants h (Some k) size)), (λ _. low.1), f))

    gains_unless_out : (c : Board S) (k : ℕ × Mode) (D : Board S → Type 0) (o : Option ℕ) → SameB b c → BelowB c → kept_by c h k ≡ o
        → ((x : ℕ) → kept_by c h k ≡ Some x → Carry b → (FirstHeld b → ⊥) × FirstHeld c)
        → ((d : Board S) → SameB b d → D d) → Out D (End b) (gains_unless machine terms o h k c)
    gains_unless_out c k D None same low is f on_to =
        roomy b D (gain_of machine terms h k c) (λ c. on (entered machine terms h (gain_of machine terms h k c) c)) c
        (once D (End b) (entered machine terms h (gain_of machine terms h k c) c)
        (λ d e. on_to d (same_entry machine terms many pages Good faithful h (gain_of machine terms h k c) b c d refl same e)))
    gains_unless_out c k D (Some x) same low is f on_to = hold_end c k x same low (f x is)

    page_out : (c : Board S) (k : ℕ × Mode) → SameB b c → BelowB c
        → (holds_so c h k ≡ false → (x : ℕ) → kept_by c h k ≡ Some x → Carry b → (FirstHeld b → ⊥) × FirstHeld c)
        → Out (λ d. SameB b d × (holds_so c h k ≡ true → d ≡ c)) (End b) (gains_page machine terms h k c)
    page_out c k same low f =
        choice (λ d. SameB b d × (holds_so c h k ≡ true → d ≡ c)) (End b) (holds_so c h k) (On c) (gains_unless machine terms (kept_by c h k) h k c)
        (λ _. (same, λ _. refl))
        (λ no. gains_unless_out c k (λ d. SameB b d × (holds_so c h k ≡ true → d ≡ c)) (kept_by c h k) same low refl (f no)
        (λ d s. (s, λ yes. absurd (true≢false (sym yes ∙ no)))))

    first_page : (c : Board S) (a : ℕ × Mode) (ks : List (ℕ × Mode)) → SoundB c → BelowB c → Mid c → Needs c ≡ a ∷ ks
        → Out (λ d. SameB b d × (holds_so c h a ≡ true → d ≡ c)) (End b) (gains_page machine terms h a c)
    first_page c a ks sound low mid is =
        page_out c a mid.same low (λ no x kept carry. absurd (none-some x (sym (first_free c a ks sound.ordered.tidy.streams mid is no carry) ∙ kept)))

    second_page : (c d : Board S) (a k : ℕ × Mode) → SoundB c → BelowB d → Mid c → SameB b d → Needs c ≡ a ∷ k ∷ [] → Needs d ≡ a ∷ k ∷ []
        → (holds_so c h a ≡ true → d ≡ c) → holds_so d h a ≡ true
        → Out (λ e. SameB b e × (holds_so d h k ≡ true → e ≡ d)) (End b) (gains_page machine terms h k d)
    second_page c d a k sound low mid same is is_d stays so =
        page_out d k same low (λ no x kept carry. (
          (λ first.
              let needs : Needs b ≡ a ∷ k ∷ [] = sym (mid.needs carry.1) ∙ is in
              let so_b : holds_so b h a ≡ true = subst (First b) needs first in
              let so_c = (subst (KeptSo b c) needs (mid.kept carry.1)).0 ∙ so_b in
              let one = stays so_c in
              none-some x (sym (second_free c a k sound.ordered.tidy.streams mid is so_b (ap (λ (z : Board S). holds_so z h k) (sym one) ∙ no) carry)
              ∙ ap (λ (z : Board S). kept_by z h k) (sym one) ∙ kept)),
          subst (First d) (sym is_d) so,
        ))

    gains_out : (c : Board S) → SoundB c → BelowB c → Mid c → Out (SameB b) (End b) (gains machine terms h c)
    gains_out c sound low mid = by (Needs c) refl (plain.short c.at.flat h mid.same.good) (faithful.inside c.at.flat h mid.same.good) where
      by : (ns : List (ℕ × Mode)) → Needs c ≡ ns → length ns ≤ 2 → AllBelow pages ns
          → Out (SameB b) (End b) (ways.goes (map (gains_page machine terms h) ns) (On c))
      by [] is short below = mid.same
      by (a ∷ []) is short below =
          along (λ d. Kept machine terms many pages Good faithful h inside c d × (lacks d.at.holders h a ≡ false) × BelowB d)
          (λ d. SameB b d × (holds_so c h a ≡ true → d ≡ c)) (SameB b) (End b) c [] (gains_page machine terms h a c) sound
          (gains_page_to machine terms many pages Good faithful h inside a c sound low below.0
          (λ lack. ap (find (lacks c.at.holders h)) is ∙ ap (λ x. cond x (Some a) (find (lacks c.at.holders h) [])) lack))
          (first_page c a [] sound low mid is) (λ d s p q. q.0)
      by (a ∷ k ∷ []) is short below =
          along (λ d. Kept machine terms many pages Good faithful h inside c d × (lacks d.at.holders h a ≡ false) × BelowB d)
          (λ d. SameB b d × (holds_so c h a ≡ true → d ≡ c)) (SameB b) (End b) c (map (gains_page machine terms h) (k ∷ []))
          (gains_page machine terms h a c) sound
          (gains_page_to machine terms many pages Good faithful h inside a c sound low below.0
          (λ lack. ap (find (lacks c.at.holders h)) is ∙ ap (λ x. cond x (Some a) (find (lacks c.at.holders h) (k ∷ []))) lack))
          (first_page c a (k ∷ []) sound low mid is) (λ d s p q.
          let is_d : Needs d ≡ a ∷ k ∷ [] = ap (λ f. machine.flat.need f h) p.0.flat ∙ is in
          along (λ e. Kept machine terms many pages Good faithful h inside d e × (lacks e.at.holders h k ≡ false) × BelowB e)
          (λ e. SameB b e × (holds_so d h k ≡ true → e ≡ d)) (SameB b) (End b) d [] (gains_page machine terms h k d) s
          (gains_page_to machine terms many pages Good faithful h inside k d s p.2 below.1.0
          (λ lack. ap (find (lacks d.at.holders h)) is_d ∙ ap (λ x. cond x (Some a) (find (lacks d.at.holders h) (k ∷ []))) p.1
          ∙ ap (λ x. cond x (Some k) None) lack))
          (second_page c d a k sound p.2 mid q.0 is is_d q.1 (holding d a p.1)) (λ e s' p' q'. q'.0))
      by (a ∷ k ∷ j ∷ ns) is short below = absurd (omega (arith, short))

    -- behind the Touch, if there is one
    abbrev Past : Board S → Type 0
    Past c = (machine.flat.count b.at.flat h < machine.flat.count c.at.flat h) ⊎ Quiet c

    touched_out : (o : Option (Board S)) → ((d : Board S) → o ≡ Some d → machine.flat.count b.at.flat h < machine.flat.count d.at.flat h)
        → Out Past (End b) (touched machine terms h o)
    touched_out None f = tt
    touched_out (Some d) f =
        choice Past (End b) (machine.flat.is_stopped d.at.flat) (Ends Rest (closes causes.Stop d)) _ (λ _. inl refl) (λ _. by (h == d.favoured)) where
          by : (x : Bool) → Past (if x then passes_favour h d else d)
          by true = inl (f d refl)
          by false = inl (f d refl)

    touches_out : (c : Board S) → SameB b c → (want machine.flat c.at h ≡ None) × BelowB c → Out Past (End b) (touches machine terms h c)
    touches_out c same p = by (machine.access c.at.flat h) refl where
      at_word : (word : DeviceWord) (store : Option ℕ) (answer : Asked) (o : Option (ℕ × Supply))
          → Out Past (End b) (touches_at machine terms h word store answer c o)
      at_word word store answer None = tt
      at_word word store answer (Some (now, left)) =
          let e = touch_of machine terms h c (recorded_input word store (machine.flat.time c.at.flat) now answer) in
          touched_out (entered machine terms h e (record c { supply = left }))
          (λ d is. let z = touch_rises (record c { supply = left }) d e refl same.good is in let y = same.own in omega (arith, z, y))

      given : (word : DeviceWord) (store : Option ℕ) (o : Option (Asked × Supply)) → Out Past (End b) (touches_with machine terms h word store c o)
      given word store None = inl refl
      given word store (Some (answer, left)) = at_word word store answer (clock_gives word store left)

      by : (o : Option (DeviceWord × Option ℕ)) → machine.access c.at.flat h ≡ o → Out Past (End b) (accesses machine terms h o c)
      by None is = inr (p.0, plain.tells c.at.flat h same.good is, p.1.0, p.1.1)
      by (Some (word, store)) is =
          roomy b Past (touch_of machine terms h c Nothing) (λ c. touches_with machine terms h word store c (console_gives word store c.supply)) c
          (given word store (console_gives word store c.supply))

    limit_out : (c : Board S) → Past c → Out Past (End b) (rests_at_limit machine terms h c)
    limit_out c past = choice Past (End b) (is_at_limit machine terms c h) (Ends Rest c) (On c) (λ t. by past t) (λ _. past) where
      by : Past c → is_at_limit machine terms c h ≡ true → End b Rest c
      by (inl more) t = inr (inl more)
      by (inr quiet) t = absurd (true≢false (sym t ∙ ne_eqb (machine.flat.count c.at.flat h) terms.limit (λ e. let l = quiet.2 in omega (arith, l, e))))

    goes_out : (c : Board S) → Past c → Out (λ d. ⊥) (End b) (goes_on machine terms h c)
    goes_out c (inl more) = inr (inl more)
    goes_out c (inr quiet) =
        inr (inr (
          quiet,
          min_past n terms.limit (next_poll n (stream c h)) quiet.2
              (past_count n (has_poll (stream c h) (ceil n)) made_there),
        )) where
          n : ℕ
          n = machine.flat.count c.at.flat h

          made_there : ceil (machine.flat.count c.at.flat h) ≡ machine.flat.count c.at.flat h
              → has_poll (stream c h) (ceil (machine.flat.count c.at.flat h)) ≡ true
          made_there e = ap (has_poll (stream c h)) e ∙ quiet.3 (omega (arith, e))

    polls_out : SoundB b → Out Mid (End b) (polls machine terms h b)
    polls_out sound = by (is_due machine terms h b) refl where
      begun : SameB b b
      begun = record { good = sound.ordered.tidy.good; wants = refl; favoured = refl; size = refl; own = refl; closed = refl; stopped = refl }

      given : is_due machine terms h b ≡ true → (o : Option (ℕ × Supply)) → Out Mid (End b) (polls_with machine terms h b o)
      given due None = tt
      given due (Some (time, left)) =
          let e = poll_at machine terms h b (max time (machine.flat.time b.at.flat)) in
          once Mid (End b) (entered machine terms h e (record b { supply = left })) (λ d is. record {
            same = same_entry machine terms many pages Good faithful h e b (record b { supply = left }) d refl
                (record { good = sound.ordered.tidy.good; wants = refl; favoured = refl; size = refl; own = refl; closed = refl; stopped = refl }) is;
            needs = λ none. absurd (true≢false (sym due ∙ none));
            others = λ none. absurd (true≢false (sym due ∙ none));
            kept = λ none. absurd (true≢false (sym due ∙ none));
          })

      by : (x : Bool) → is_due machine terms h b ≡ x
          → Out Mid (End b) (if x then with_room machine terms (poll_at machine terms h b 0)
          (λ c. polls_with machine terms h c (clock_answers c.supply.times c.supply)) b else On b)
      by true due =
          roomy b Mid (poll_at machine terms h b 0) (λ c. polls_with machine terms h c (clock_answers c.supply.times c.supply)) b
          (given due (clock_answers b.supply.times b.supply))
      by false due = record { same = begun; needs = λ _. refl; others = λ _ q g less other. refl; kept = λ _. kept_refl b (Needs b) }

    pub steps_go : SoundB b → b.closed ≡ None → machine.flat.is_stopped b.at.flat ≡ false → Out (λ c. ⊥) (End b) (ways.goes (steps machine terms h) (On b))
    steps_go sound unclosed running =
        along (Any machine terms many pages Good faithful h inside) (λ c. c ≡ b) (λ c. ⊥) (End b) b
        (polls machine terms h ∷ yields machine terms h ∷ rests_at_limit machine terms h ∷ gains machine terms h ∷ touches machine terms h ∷
        rests_at_limit machine terms h ∷ goes_on machine terms h ∷ []) (rests_where_closed machine terms b) sound
        (rests_where_closed_to machine terms many pages Good faithful h inside b) opened (λ b₁ s₁ _ same.
        along PolledB Mid (λ c. ⊥) (End b) b₁ (yields machine terms h ∷ rests_at_limit machine terms h ∷ gains machine terms h ∷ touches machine terms h ∷
        rests_at_limit machine terms h ∷ goes_on machine terms h ∷ []) (polls machine terms h b₁) s₁
        (polls_to machine terms many pages Good faithful h inside b₁ s₁)
        (subst (λ (z : Board S). Out Mid (End b) (polls machine terms h z)) (sym same) (polls_out sound)) (λ b₂ s₂ p₂ m₂.
        along PolledB Mid (λ c. ⊥) (End b) b₂ (rests_at_limit machine terms h ∷ gains machine terms h ∷ touches machine terms h ∷ rests_at_limit machine terms
        h ∷ goes_on machine terms h ∷ []) (yields machine terms h b₂) s₂
        (yields_come machine terms many pages Good faithful h inside b₂ s₂ p₂) (all_yields (harts b₂) b₂ s₂ p₂ m₂) (λ b₃ s₃ p₃ m₃.
        along BelowB Mid (λ c. ⊥) (End b) b₃ (gains machine terms h ∷ touches machine terms h ∷ rests_at_limit machine terms h ∷ goes_on machine terms h ∷ [])
        (rests_at_limit machine terms h b₃) s₃
        (rests_at_limit_to machine terms many pages Good faithful h inside BelowB b₃ (below_limit machine terms many pages Good faithful h inside b₃ s₃ p₃))
        (choice Mid (End b) (is_at_limit machine terms b₃ h) (Ends Rest b₃) (On b₃) (λ t. absurd (true≢false (sym t ∙ same_limit b₃ m₃.same))) (λ _. m₃))
        (λ b₄ s₄ p₄ m₄.
        along (λ c. (want machine.flat c.at h ≡ None) × BelowB c) (SameB b) (λ c. ⊥) (End b) b₄
        (touches machine terms h ∷ rests_at_limit machine terms h ∷ goes_on machine terms h ∷ []) (gains machine terms h b₄) s₄
        (gains_to machine terms many pages Good faithful h inside b₄ s₄ p₄) (gains_out b₄ s₄ p₄ m₄) (λ b₅ s₅ p₅ same₅.
        along (Any machine terms many pages Good faithful h inside) Past (λ c. ⊥) (End b) b₅ (rests_at_limit machine terms h ∷ goes_on machine terms h ∷ [])
        (touches machine terms h b₅) s₅
        (touches_to machine terms many pages Good faithful h inside b₅ s₅ p₅) (touches_out b₅ same₅ p₅) (λ b₆ s₆ _ past₆.
        along (Any machine terms many pages Good faithful h inside) Past (λ c. ⊥) (End b) b₆ (goes_on machine terms h ∷ [])
        (rests_at_limit machine terms h b₆) s₆
        (rests_at_limit_to machine terms many pages Good faithful h inside (Any machine terms many pages Good faithful h inside) b₆ (λ _. tt))
        (limit_out b₆ past₆) (λ b₇ s₇ _ past₇. goes_out b₇ past₇)))))))
      where
        opened : Out (λ c. c ≡ b) (End b) (rests_where_closed machine terms b)
        opened = subst (λ x. Out (λ c. c ≡ b) (End b) (if x then Ends Rest b else On b)) (sym (ap₂ (λ o s. is_some o || s) unclosed running)) refl
