-- What an entry and the moves of a turn leave of a board.
use Rattle.std.proofs.Common.{◌≡◌, ◌≢◌, ℕ, zero, suc, ◌+◌, ◌++◌, Bool, true, false, [], ◌∷◌, Option, Some, None, slice_set, refl, sym, ap, ◌∙◌, subst, arith}
use Rattle.std.proofs.Common.{if◌then◌else◌, true≢false}
use Rattle.std.specs.Option.{option_map}
use Rattle.std.proofs.lemmas.Option.{none-some, same_Some}
use Rattle.shared_types.proofs.Lists.{bound_to, mapped}
use Rattle.rv_words.specs.declared.shared.Mode.{Mode}
use Rattle.log_entry.specs.declared.log.Entry.{Entry}
use Rattle.log_entry.specs.declared.log.Entry.TheVariants as entries
use Rattle.log_entry.specs.Parts.{is_touch, ordinal_of, time_of}
use Rattle.flat_machine.specs.declared.act.Act.{Act}
use Rattle.flat_machine.specs.declared.act.Act.TheVariants.{Run, Touch, Poll, Lose}
use Rattle.order_rules.specs.Cursor.{Cursor, taken}
use Rattle.order_rules.proofs.Takings.{taken_is, ordinal_by}
use Rattle.replay_model.specs.State.{Replay}
use Rattle.replay_model.specs.Items.{Item, Move, Makes, Verdict, HasEnded, Holds, CanGo, HasDiverged, goes, verdict_on, made, acted, effect, past, holds}
use Rattle.replay_model.specs.Items.{ends_reservation}
use Rattle.replay_model.proofs.ActsOfOrders.{went}
use Rattle.crew_recording.proofs.Items.{entry_places, same_places}
use Rattle.crew_recording.proofs.OrderedRecordings.{did_entry, acts_on}
use Rattle.turn_model.specs.Recordable.{Recordable}
use Rattle.turn_model.specs.Board.{Board, Terms, stream}
use Rattle.turn_model.specs.Ways.{entered}
use Rattle.turn_model.specs.Steps.{passes_favour, with_want, runs, passes, commits}
use Rattle.turn_model.specs.Faithful.{IsFaithful, is_access, time_in}

-- the act that an entry may be
abbrev act_by : ℕ → Entry → Option Act
act_by h (entries.Yield count page seq left) = Some (Lose h)
act_by h (entries.Poll count ord time bits) = Some (Poll h time)
act_by h (entries.Touch count ord input) = Some (Touch h input)
act_by h e = None

no_access : (h : ℕ) (e : Entry) (act : Act) → is_touch e ≡ false → act_by h e ≡ Some act → is_access act ≡ false
no_access h (entries.Gain count page seq mode waits) act plain is = absurd (none-some _ is)
no_access h (entries.Yield count page seq left) act plain is = ap is_access (sym (same_Some _ _ is))
no_access h (entries.Poll count ord time bits) act plain is = ap is_access (sym (same_Some _ _ is))
no_access h (entries.Touch count ord input) act plain is = absurd (true≢false plain)
no_access h (entries.End count) act plain is = absurd (none-some _ is)

no_time : (h : ℕ) (e : Entry) (act : Act) → time_of e ≡ None → act_by h e ≡ Some act → time_in act ≡ None
no_time h (entries.Gain count page seq mode waits) act none is = absurd (none-some _ is)
no_time h (entries.Yield count page seq left) act none is = ap time_in (sym (same_Some _ _ is))
no_time h (entries.Poll count ord time bits) act none is = absurd (none-some _ (sym none))
no_time h (entries.Touch count ord input) act none is = ap time_in (sym (same_Some _ _ is)) ∙ none
no_time h (entries.End count) act none is = absurd (none-some _ is)

module _ {S V : Type 0} (machine : Recordable S V) (terms : Terms) (many pages : ℕ) (Good : S → Type 0)
    (faithful : IsFaithful machine.flat many pages Good) where
  pub can_and_does : (s : Replay S) (h : ℕ) (item : Item) (v : Verdict) (m : Replay S × Option V) → goes machine.flat s h item v ≡ Some m
      → (v ≡ CanGo) × (made machine.flat s h item ≡ Some m.0)
  can_and_does s h item CanGo m e = (refl, went machine.flat s m.0 h item CanGo m.1 e)
  can_and_does s h item HasEnded m e = absurd (none-some _ e)
  can_and_does s h item Holds m e = absurd (none-some _ e)
  can_and_does s h item (HasDiverged rule) m e = absurd (none-some _ e)

  act_leaves : {X : Type 0} (view : S → X) (s t : Replay S) (act : Act) → ((f : S) → machine.flat.next s.flat act ≡ Some f → view f ≡ view s.flat)
      → acted machine.flat s act ≡ Some t → view t.flat ≡ view s.flat
  act_leaves view s t act leaves is =
      let a = acts_on machine.flat many Good faithful.steady faithful.timed pages terms.limit s t act is in
      ap view a.2 ∙ leaves a.0 a.1

  yield_leaves : {X : Type 0} (view : S → X) (s t : Replay S) (h page : ℕ) (left : Option Mode) (b : Bool)
      → ((f : S) → machine.flat.next s.flat (Lose h) ≡ Some f → view f ≡ view s.flat)
      → option_map (holds machine.flat page h left) (if b then acted machine.flat s (Lose h) else Some s) ≡ Some t → view t.flat ≡ view s.flat
  yield_leaves view s t h page left false leaves is = sym (ap (λ (x : Replay S). view x.flat) (same_Some _ _ is))
  yield_leaves view s t h page left true leaves is =
      let a = mapped (holds machine.flat page h left) (acted machine.flat s (Lose h)) t is in
      sym (ap (λ (x : Replay S). view x.flat) a.2) ∙ act_leaves view s a.0 (Lose h) leaves a.1

  -- what the act of an entry leaves as it is, the entry leaves
  effect_leaves : {X : Type 0} (view : S → X) (s t : Replay S) (h : ℕ) (e : Entry)
      → ((act : Act) (f : S) → act_by h e ≡ Some act → machine.flat.next s.flat act ≡ Some f → view f ≡ view s.flat)
      → effect machine.flat s h e ≡ Some t → view t.flat ≡ view s.flat
  effect_leaves view s t h (entries.Gain count page seq mode waits) leaves is = sym (ap (λ (x : Replay S). view x.flat) (same_Some _ _ is))
  effect_leaves view s t h (entries.Yield count page seq left) leaves is =
      yield_leaves view s t h page left (ends_reservation machine.flat s h page) (λ f e. leaves (Lose h) f refl e) is
  effect_leaves view s t h (entries.Poll count ord time bits) leaves is = act_leaves view s t (Poll h time) (λ f e. leaves (Poll h time) f refl e) is
  effect_leaves view s t h (entries.Touch count ord input) leaves is = act_leaves view s t (Touch h input) (λ f e. leaves (Touch h input) f refl e) is
  effect_leaves view s t h (entries.End count) leaves is = absurd (none-some _ is)

  -- a board after an entry of a hart
  pub record Entered (h : ℕ) (e : Entry) (b d : Board S) : Type 0 where
    pub wants : d.wants ≡ b.wants
    pub orders : d.orders ≡ b.orders
    pub closed : d.closed ≡ b.closed
    pub supply : d.supply ≡ b.supply
    pub streams : d.streams ≡ slice_set b.streams h (stream b h ++ e ∷ [])
    pub others : (g : ℕ) → g ≢ h → machine.flat.count d.at.flat g ≡ machine.flat.count b.at.flat g
    pub own : is_touch e ≡ false → machine.flat.count d.at.flat h ≡ machine.flat.count b.at.flat h
    pub stopped : is_touch e ≡ false → machine.flat.is_stopped d.at.flat ≡ machine.flat.is_stopped b.at.flat
    pub sent : is_touch e ≡ false → machine.flat.sent d.at.flat ≡ machine.flat.sent b.at.flat
    pub time : time_of e ≡ None → machine.flat.time d.at.flat ≡ machine.flat.time b.at.flat
    pub ordinal : d.at.cursor.ordinal ≡ ordinal_by (ordinal_of e) b.at.cursor.ordinal

  pub after_entry : (h : ℕ) (e : Entry) (b d : Board S) → Good b.at.flat → entered machine terms h e b ≡ Some d → Entered h e b d
  after_entry h e b d good is =
      let a = mapped (λ (s : Replay S). record b { at = s; streams = slice_set b.streams h (stream b h ++ e ∷ []) })
      (made machine.flat b.at h (Makes e)) d is in
      let i = mapped (past machine.flat h e) (effect machine.flat b.at h e) a.0 a.1 in
      let did = did_entry machine.flat many Good faithful.steady faithful.timed pages terms.limit b.at i.0 h e good i.1 in
      let flat : d.at.flat ≡ i.0.flat = sym (ap (λ (x : Board S). x.at.flat) a.2) ∙ sym (ap (λ (x : Replay S). x.flat) i.2) in
      record {
        wants = sym (ap (λ (x : Board S). x.wants) a.2);
        orders = sym (ap (λ (x : Board S). x.orders) a.2);
        closed = sym (ap (λ (x : Board S). x.closed) a.2);
        supply = sym (ap (λ (x : Board S). x.supply) a.2);
        streams = sym (ap (λ (x : Board S). x.streams) a.2);
        others = λ g n. ap (λ f. machine.flat.count f g) flat ∙ did.others g n;
        own = λ plain. ap (λ f. machine.flat.count f h) flat ∙ did.own
            ∙ ap (λ b'. if b' then machine.flat.count b.at.flat h + 1 else machine.flat.count b.at.flat h) plain;
        stopped = λ plain. ap machine.flat.is_stopped flat
            ∙ effect_leaves machine.flat.is_stopped b.at i.0 h e (λ act f by n. faithful.stops b.at.flat f act (no_access h e act plain by) n) i.1;
        sent = λ plain. ap machine.flat.sent flat ∙ effect_leaves machine.flat.sent b.at i.0 h e
            (λ act f by n. faithful.sends b.at.flat f act (no_access h e act plain by) n) i.1;
        time = λ none. ap machine.flat.time flat ∙ effect_leaves machine.flat.time b.at i.0 h e
            (λ act f by n. faithful.times b.at.flat f act (no_time h e act none by) n) i.1;
        ordinal = sym (ap (λ (x : Board S). x.at.cursor.ordinal) a.2) ∙ sym (ap (λ (x : Replay S). x.cursor.ordinal) i.2)
            ∙ ap (λ (c : Cursor). (taken c h e).ordinal) (entry_places machine.flat many Good faithful.steady b.at i.0 h e i.1)
            ∙ ap (λ (c : Cursor). c.ordinal) (taken_is b.at.cursor h e);
      }

  -- an entry that is an act
  pub did_act : (h : ℕ) (e : Entry) (act : Act) (b d : Board S) → effect machine.flat b.at h e ≡ acted machine.flat b.at act
      → entered machine terms h e b ≡ Some d → machine.flat.next b.at.flat act ≡ Some d.at.flat
  did_act h e act b d same is =
      let a = mapped (λ (s : Replay S). record b { at = s; streams = slice_set b.streams h (stream b h ++ e ∷ []) })
      (made machine.flat b.at h (Makes e)) d is in
      let i = mapped (past machine.flat h e) (effect machine.flat b.at h e) a.0 a.1 in
      let n = acts_on machine.flat many Good faithful.steady faithful.timed pages terms.limit b.at i.0 act (sym same ∙ i.1) in
      n.1 ∙ ap Some (sym n.2 ∙ ap (λ (x : Replay S). x.flat) i.2 ∙ ap (λ (x : Board S). x.at.flat) a.2)

  -- a replay state after so many moves of a hart
  pub record Ran (h n : ℕ) (s t : Replay S) : Type 0 where
    pub others : (g : ℕ) → g ≢ h → machine.flat.count t.flat g ≡ machine.flat.count s.flat g
    pub stopped : machine.flat.is_stopped t.flat ≡ machine.flat.is_stopped s.flat
    pub sent : machine.flat.sent t.flat ≡ machine.flat.sent s.flat
    pub time : machine.flat.time t.flat ≡ machine.flat.time s.flat
    pub cursor : t.cursor ≡ s.cursor
    pub none : n ≡ 0 → t ≡ s

  pub after_runs : (h n : ℕ) (s t : Replay S) → Good s.flat → runs machine terms h n s ≡ Some t → Ran h n s t
  after_runs h zero s t good is =
      let same = same_Some _ _ is in
      record {
        others = λ g n. sym (ap (λ (x : Replay S). machine.flat.count x.flat g) same);
        stopped = sym (ap (λ (x : Replay S). machine.flat.is_stopped x.flat) same);
        sent = sym (ap (λ (x : Replay S). machine.flat.sent x.flat) same);
        time = sym (ap (λ (x : Replay S). machine.flat.time x.flat) same);
        cursor = sym (ap (λ (x : Replay S). x.cursor) same);
        none = λ _. sym same;
      }
  after_runs h (suc n) s t good is =
      let m = bound_to (λ (m : Replay S × Option V). runs machine terms h n m.0) (goes machine.flat s h Move (verdict_on machine.flat s h Move)) t is in
      let c = can_and_does s h Move (verdict_on machine.flat s h Move) m.0 m.1 in
      let a = acts_on machine.flat many Good faithful.steady faithful.timed pages terms.limit s m.0.0 (Run h) c.1 in
      let good' : Good m.0.0.flat = subst Good (sym a.2) (faithful.steady.lasts s.flat a.0 (Run h) good a.1) in
      let rest = after_runs h n m.0.0 t good' m.2 in
      record {
        others = λ g other. rest.others g other ∙ ap (λ f. machine.flat.count f g) a.2 ∙ faithful.timed.others s.flat a.0 (Run h) g good a.1 other;
        stopped = rest.stopped ∙ ap machine.flat.is_stopped a.2 ∙ faithful.stops s.flat a.0 (Run h) refl a.1;
        sent = rest.sent ∙ ap machine.flat.sent a.2 ∙ faithful.sends s.flat a.0 (Run h) refl a.1;
        time = rest.time ∙ ap machine.flat.time a.2 ∙ faithful.times s.flat a.0 (Run h) refl a.1;
        cursor = rest.cursor ∙ same_places machine.flat many Good faithful.steady s m.0.0 (Run h) c.1;
        none = λ e. absurd (suc_is_none n e);
      }
    where
      suc_is_none : (n : ℕ) → suc n ≡ 0 → ⊥
      suc_is_none n e = omega (arith, e)

  -- a board once the moves of a hart's turn are made
  pub record Committed (h n : ℕ) (b c : Board S) : Type 0 where
    pub ran : runs machine terms h n b.at ≡ Some c.at
    pub streams : c.streams ≡ b.streams
    pub journal : c.journal ≡ b.journal
    pub wants : c.wants ≡ slice_set b.wants h None
    pub orders : c.orders ≡ b.orders
    pub closed : c.closed ≡ b.closed
    pub supply : c.supply ≡ b.supply

  pub committed : (h n : ℕ) (b c : Board S) → commits machine terms h n b ≡ Some c → Committed h n b c
  committed h n b c is =
      let y = mapped (λ (s : Replay S). with_want h None (passes machine terms h n (record b { at = s }))) (runs machine terms h n b.at) c is in
      subst (Committed h n b) y.2 (by y.0 y.1 _)
    where
      by : (s : Replay S) → runs machine terms h n b.at ≡ Some s → (x : Bool)
          → Committed h n b (with_want h None (if x then passes_favour h (record b { at = s }) else record b { at = s }))
      by s ran true = record { ran = ran; streams = refl; journal = refl; wants = refl; orders = refl; closed = refl; supply = refl }
      by s ran false = record { ran = ran; streams = refl; journal = refl; wants = refl; orders = refl; closed = refl; supply = refl }
