-- A hart that can go still can when another went.
use Rattle.std.proofs.Common.{◌≡◌, ℕ, ◌==◌, ◌&&◌, not, Bool, true, false, List, [], ◌∷◌, find, nat_lt, Option, Some, None, is_some, refl, ap, ap₂}
use Rattle.std.proofs.Common.{◌∙◌, subst, if◌then◌else◌, true≢false}
use Rattle.std.specs.Option.{option_map}
use Rattle.std.proofs.lemmas.Option.{none-some, same_Some}
use Rattle.rv_words.specs.declared.shared.Mode.{Mode}
use Rattle.rv_words.specs.declared.shared.Input.{Input}
use Rattle.log_entry.specs.declared.log.Entry.{Entry}
use Rattle.log_entry.specs.declared.log.Entry.TheVariants as entries
use Rattle.log_entry.specs.Parts.{strength}
use Rattle.order_rules.specs.Places.{is_number}
use Rattle.order_rules.specs.Cursor.{guard_is_met}
use Rattle.flat_machine.specs.declared.act.Act.{Act}
use Rattle.flat_machine.specs.declared.act.Act.TheVariants.{Lose}
use Rattle.replay_model.specs.Flat.{Flat}
use Rattle.order_rules.specs.Holders.{held}
use Rattle.replay_model.specs.State.{Replay, want}
use Rattle.replay_model.specs.Items.{Item, Ended, Move, Makes, Verdict, Holds, CanGo, HasDiverged, judged, tests, verdict_on}
use Rattle.shared_types.proofs.Lists.{find_same, is_nothing}
use Rattle.replay_law.proofs.Local.{HasPages, HasDevices, actor}
use Rattle.replay_law.proofs.Steps.{is_lost, act_with, act_of}
use Rattle.replay_law.proofs.Cursors.{guard_of}

abbrev diverges : Verdict → Bool
diverges (HasDiverged rule) = true
diverges v = false

abbrev holds_back : Verdict → Bool
holds_back Holds = true
holds_back v = false

abbrev pub needs_devices : Item → Bool
needs_devices (Makes (entries.Touch count ord input)) = true
needs_devices (Makes (entries.Poll count ord time bits)) = true
needs_devices item = false

pub met : (b : Bool) (v : Verdict) → (if b then v else Holds) ≡ CanGo → (b ≡ true) × (v ≡ CanGo)
met true v e = (refl, e)
met false v e = absurd (true≢false (ap holds_back e))

module _ {S V : Type 0} (flat : Flat S V) where
  abbrev pub judge : List (ℕ × Bool) → Verdict
  judge xs = judged flat (option_map (λ (t : ℕ × Bool). t.0) (find (λ (t : ℕ × Bool). t.1) xs))

  pub passed : (k : ℕ) (b : Bool) (xs : List (ℕ × Bool)) → judge ((k, b) ∷ xs) ≡ CanGo → (b ≡ false) × (judge xs ≡ CanGo)
  passed k true xs e = absurd (true≢false (ap diverges e))
  passed k false xs e = (refl, e)

  passes : (k : ℕ) (b : Bool) (xs : List (ℕ × Bool)) → b ≡ false → judge xs ≡ CanGo → judge ((k, b) ∷ xs) ≡ CanGo
  passes k b xs f e = ap (λ c. judge ((k, c) ∷ xs)) f ∙ e

  -- a hart finds its part of a replay as it was
  pub record Finds (s a : Replay S) (h : ℕ) : Type 0 where
    pub count : flat.count a.flat h ≡ flat.count s.flat h
    pub reserved : flat.reserved_page a.flat h ≡ flat.reserved_page s.flat h
    pub held_is : (page : ℕ) → held a.holders page h ≡ held s.holders page h
    pub need : want flat s h ≡ None → flat.need a.flat h ≡ flat.need s.flat h
    pub at_device : want flat s h ≡ None → flat.is_at_device a.flat h ≡ flat.is_at_device s.flat h

  pub want_stays : (s a : Replay S) (h : ℕ) → Finds s a h → want flat s h ≡ None → want flat a h ≡ None
  want_stays s a h finds none =
      find_same (λ (n : ℕ × Mode). nat_lt (strength (held a.holders n.0 h)) (strength (Some n.1)))
      (λ (n : ℕ × Mode). nat_lt (strength (held s.holders n.0 h)) (strength (Some n.1))) (flat.need a.flat h)
      (λ n. ap (λ m. nat_lt (strength m) (strength (Some n.1))) (finds.held_is n.0))
      ∙ ap (find (λ (n : ℕ × Mode). nat_lt (strength (held s.holders n.0 h)) (strength (Some n.1)))) (finds.need none) ∙ none

  move_stays : (s a : Replay S) (h : ℕ) → Finds s a h → verdict_on flat s h Move ≡ CanGo → verdict_on flat a h Move ≡ CanGo
  move_stays s a h finds go =
      let one = passed 1 (is_some (want flat s h)) ((2, flat.is_at_device s.flat h) ∷ []) go in
      let two = passed 2 (flat.is_at_device s.flat h) [] one.1 in
      let none = is_nothing (want flat s h) one.0 in
      passes 1 (is_some (want flat a h)) ((2, flat.is_at_device a.flat h) ∷ []) (ap is_some (want_stays s a h finds none))
      (passes 2 (flat.is_at_device a.flat h) [] (finds.at_device none ∙ two.0) refl)

  touch_stays : (s a : Replay S) (h count ord : ℕ) (input : Input) → Finds s a h → HasDevices flat s a.flat h
      → judge (tests flat s h (Makes (entries.Touch count ord input))) ≡ CanGo → judge (tests flat a h (Makes (entries.Touch count ord input))) ≡ CanGo
  touch_stays s a h count ord input finds devices go =
      let one = passed 1 (is_some (want flat s h)) ((3, not (flat.is_at_device s.flat h)) ∷ (4, not (flat.suits s.flat h input)) ∷
      (6, flat.is_stopped s.flat) ∷ []) go in
      let two = passed 3 (not (flat.is_at_device s.flat h)) ((4, not (flat.suits s.flat h input)) ∷ (6, flat.is_stopped s.flat) ∷ []) one.1 in
      let three = passed 4 (not (flat.suits s.flat h input)) ((6, flat.is_stopped s.flat) ∷ []) two.1 in
      let four = passed 6 (flat.is_stopped s.flat) [] three.1 in
      let none = is_nothing (want flat s h) one.0 in
      passes 1 (is_some (want flat a h)) ((3, not (flat.is_at_device a.flat h)) ∷ (4, not (flat.suits a.flat h input)) ∷ (6, flat.is_stopped a.flat) ∷ [])
      (ap is_some (want_stays s a h finds none))
      (passes 3 (not (flat.is_at_device a.flat h)) ((4, not (flat.suits a.flat h input)) ∷ (6, flat.is_stopped a.flat) ∷ [])
      (ap not (finds.at_device none) ∙ two.0)
      (passes 4 (not (flat.suits a.flat h input)) ((6, flat.is_stopped a.flat) ∷ []) (ap not (devices.suits none input) ∙ three.0)
      (passes 6 (flat.is_stopped a.flat) [] (devices.stopped ∙ four.0) refl)))

  poll_stays : (s a : Replay S) (h count ord time bits : ℕ) → HasDevices flat s a.flat h
      → judge (tests flat s h (Makes (entries.Poll count ord time bits))) ≡ CanGo → judge (tests flat a h (Makes (entries.Poll count ord time bits))) ≡ CanGo
  poll_stays s a h count ord time bits devices go =
      let one = passed 5 (not (flat.lines_at s.flat h time == bits)) ((6, flat.is_stopped s.flat) ∷ []) go in
      let two = passed 6 (flat.is_stopped s.flat) [] one.1 in
      passes 5 (not (flat.lines_at a.flat h time == bits)) ((6, flat.is_stopped a.flat) ∷ []) (ap (λ l. not (l == bits)) (devices.lines time) ∙ one.0)
      (passes 6 (flat.is_stopped a.flat) [] (devices.stopped ∙ two.0) refl)

  entry_stays : (s a : Replay S) (h : ℕ) (e : Entry) → Finds s a h → (needs_devices (Makes e) ≡ true → HasDevices flat s a.flat h)
      → judge (tests flat s h (Makes e)) ≡ CanGo → judge (tests flat a h (Makes e)) ≡ CanGo
  entry_stays s a h (entries.Gain count page seq mode waits) finds devices go = refl
  entry_stays s a h (entries.Yield count page seq left) finds devices go = refl
  entry_stays s a h (entries.Poll count ord time bits) finds devices go = poll_stays s a h count ord time bits (devices refl) go
  entry_stays s a h (entries.Touch count ord input) finds devices go = touch_stays s a h count ord input finds (devices refl) go
  entry_stays s a h (entries.End count) finds devices go = refl

  pub guard_met : (s : Replay S) (h : ℕ) (item : Item) → verdict_on flat s h item ≡ CanGo → guard_of s.cursor item ≡ true
  guard_met s h Ended go = refl
  guard_met s h Move go = refl
  guard_met s h (Makes e) go = (met (guard_is_met s.cursor e) (judge (tests flat s h (Makes e))) go).0

  -- its verdict stays
  pub verdict_stays : (s a : Replay S) (h : ℕ) (item : Item) → Finds s a h → (needs_devices item ≡ true → HasDevices flat s a.flat h)
      → guard_of a.cursor item ≡ true
      → verdict_on flat s h item ≡ CanGo → verdict_on flat a h item ≡ CanGo
  verdict_stays s a h Ended finds devices guard go = go
  verdict_stays s a h Move finds devices guard go = move_stays s a h finds go
  verdict_stays s a h (Makes e) finds devices guard go =
      ap (λ b. if b then judge (tests flat a h (Makes e)) else Holds) guard
      ∙ entry_stays s a h e finds devices (met (guard_is_met s.cursor e) (judge (tests flat s h (Makes e))) go).1

  -- and its act
  pub act_stays : (s a : Replay S) (h : ℕ) (item : Item) → Finds s a h → act_of flat a h item ≡ act_of flat s h item
  act_stays s a h Ended finds = refl
  act_stays s a h Move finds = refl
  act_stays s a h (Makes (entries.Gain count page seq mode waits)) finds = refl
  act_stays s a h (Makes (entries.Yield count page seq left)) finds =
      ap (λ b. act_with b h (Makes (entries.Yield count page seq left)))
      (ap₂ (λ (m : Option Mode) (o : Option ℕ). (strength m == 2) && is_number page o) (finds.held_is page) finds.reserved)
  act_stays s a h (Makes (entries.Poll count ord time bits)) finds = refl
  act_stays s a h (Makes (entries.Touch count ord input)) finds = refl
  act_stays s a h (Makes (entries.End count)) finds = refl

  -- a hart that can go holds the pages of its act
  pub record ActIs (s : Replay S) (h : ℕ) (act : Act) : Type 0 where
    pub by : actor act ≡ h
    pub has : HasPages flat s act

  yields : (s : Replay S) (h : ℕ) (b : Bool) (act : Act) → (if b then Some (Lose h) else None) ≡ Some act → ActIs s h act
  yields s h true act e = let same : Lose h ≡ act = same_Some _ _ e in subst_act same
    where
      subst_act : Lose h ≡ act → ActIs s h act
      subst_act same = subst (ActIs s h) same (record { by = refl; has = tt })
  yields s h false act e = absurd (none-some _ e)

  pub act_is : (s : Replay S) (h : ℕ) (item : Item) (act : Act) → verdict_on flat s h item ≡ CanGo → act_of flat s h item ≡ Some act → ActIs s h act
  act_is s h Ended act go e = absurd (none-some _ e)
  act_is s h Move act go e =
      subst (ActIs s h) (same_Some _ _ e) (record {
        by = refl;
        has =
            is_nothing (want flat s h) (passed 1 (is_some (want flat s h)) ((2, flat.is_at_device s.flat h) ∷ []) go).0;
      })
  act_is s h (Makes (entries.Gain count page seq mode waits)) act go e = absurd (none-some _ e)
  act_is s h (Makes (entries.Yield count page seq left)) act go e = yields s h (is_lost flat s h (Makes (entries.Yield count page seq left))) act e
  act_is s h (Makes (entries.Poll count ord time bits)) act go e = subst (ActIs s h) (same_Some _ _ e) (record { by = refl; has = tt })
  act_is s h (Makes (entries.Touch count ord input)) act go e =
      subst (ActIs s h) (same_Some _ _ e) (record {
        by = refl;
        has = is_nothing (want flat s h) (passed 1 (is_some (want flat s h))
            ((3, not (flat.is_at_device s.flat h)) ∷ (4, not (flat.suits s.flat h input)) ∷ (6, flat.is_stopped s.flat) ∷ [])
            (met (ord == s.cursor.ordinal) (judge (tests flat s h (Makes (entries.Touch count ord input)))) go).1).0;
      })
  act_is s h (Makes (entries.End count)) act go e = absurd (none-some _ e)
