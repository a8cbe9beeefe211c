-- How boards close: stop is set exactly where the cause is stop, and a board that another cause closed has a hart below the
-- limit that makes no more moves.
use Rattle.std.proofs.Common.{◌≡◌, ◌≢◌, ◌⊎◌, ℕ, zero, suc, ◌<◌, ◌==◌, Bool, true, false, List, [], ◌∷◌, max, Option, Some, None, slice_get, slice_set}
use Rattle.std.proofs.Common.{unwrap_or, refl, sym, ap, ◌∙◌, subst, inl, inr}
use Rattle.std.proofs.lemmas.Option.{none-some}
use Rattle.std.proofs.lemmas.Bool.Decides.{eqb_tells}
use Rattle.shared_types.proofs.Lists.{set_there}
use Rattle.rv_words.specs.declared.shared.Mode.{Mode}
use Rattle.rv_words.specs.declared.shared.Cause.{Cause}
use Rattle.rv_words.specs.declared.shared.Cause.TheVariants as causes
use Rattle.log_entry.specs.declared.log.Entry.{Entry}
use Rattle.log_entry.specs.Parts.{is_touch}
use Rattle.device_board.specs.Recording.{recorded_input}
use Rattle.replay_model.specs.State.{Replay}
use Rattle.turn_model.specs.Recordable.{Recordable}
use Rattle.turn_model.specs.Board.{Board, Order, Go, Hold, Rest, Terms, wanted, last_order, closes}
use Rattle.turn_model.specs.Steps.{with_want, poll_at, yield_of, gain_of, touch_of}
use Rattle.turn_model.specs.Turn.{with_order}
use Rattle.turn_model.specs.Faithful.{IsFaithful}
use Rattle.turn_model.proofs.StepInvariants.{Preserves}
use Rattle.turn_model.proofs.Entries.{Entered, after_entry, Ran, after_runs, Committed}

-- a hart with such a last order makes no move until its next turn
abbrev pub MakesNone : Option Order → Type 0
MakesNone (Some (Go until)) = ⊥
MakesNone order = Unit {0}

pub cleared : (wants : List (Option (ℕ × Mode))) (h : ℕ) → unwrap_or (slice_get (slice_set wants h None) h) None ≡ None
cleared [] h = refl
cleared (w ∷ wants) zero = refl
cleared (w ∷ wants) (suc h) = cleared wants h

ordered_here : (orders : List (Option Order)) (h : ℕ) (order : Order) → MakesNone (Some order)
    → MakesNone (unwrap_or (slice_get (slice_set orders h (Some order)) h) None)
ordered_here [] h order none = tt
ordered_here (o ∷ orders) zero order none = none
ordered_here (o ∷ orders) (suc h) order none = ordered_here orders h order none

module _ {S V : Type 0} (machine : Recordable S V) (terms : Terms) (many pages : ℕ) (Good : S → Type 0)
    (faithful : IsFaithful machine.flat many pages Good) where
  abbrev Count : Board S → ℕ → ℕ
  Count b g = machine.flat.count b.at.flat g

  abbrev IsStopped : Board S → Bool
  IsStopped b = machine.flat.is_stopped b.at.flat

  -- a hart below the limit that makes no move until its next turn
  abbrev pub Waits : Board S → ℕ → Type 0
  Waits b g = (machine.flat.count b.at.flat g < terms.limit) × MakesNone (last_order b g)

  abbrev pub ClosedSo : Board S → Option Cause → Type 0
  ClosedSo b None = machine.flat.is_stopped b.at.flat ≡ false
  ClosedSo b (Some causes.Stop) = machine.flat.is_stopped b.at.flat ≡ true
  ClosedSo b (Some causes.Limit) = ⊥
  ClosedSo b (Some cause) = (machine.flat.is_stopped b.at.flat ≡ false) × ((g : ℕ) × (g < many) × Waits b g)

  abbrev pub AllWait : Board S → Type 0
  AllWait b = (g : ℕ) (n : ℕ × Mode) → wanted b g ≡ Some n → (g < many) × Waits b g

  -- whoever has stored a want waits
  pub record IsClosing (b : Board S) : Type 0 where
    pub wants : AllWait b
    pub closed : ClosedSo b b.closed

  closed_alike : (b c : Board S) (o : Option Cause) → IsStopped c ≡ IsStopped b → ((g : ℕ) → Waits b g → Waits c g) → ClosedSo b o → ClosedSo c o
  closed_alike b c None same waits so = same ∙ so
  closed_alike b c (Some causes.Stop) same waits so = same ∙ so
  closed_alike b c (Some causes.Limit) same waits so = so
  closed_alike b c (Some causes.Full) same waits so = (same ∙ so.0, (so.1.0, so.1.1, waits so.1.0 so.1.2))
  closed_alike b c (Some causes.Fault) same waits so = (same ∙ so.0, (so.1.0, so.1.1, waits so.1.0 so.1.2))
  closed_alike b c (Some causes.Cut) same waits so = (same ∙ so.0, (so.1.0, so.1.1, waits so.1.0 so.1.2))

  module _ (h : ℕ) (inside : h < many) where
    abbrev OthersWait : Board S → Type 0
    OthersWait b = (g : ℕ) (n : ℕ × Mode) → wanted b g ≡ Some n → (g ≢ h) × (g < many) × Waits b g

    -- before the steps of a turn of h
    pub record Before (b : Board S) : Type 0 where
      pub wants : OthersWait b
      pub closed : ClosedSo b b.closed

    -- and while they go on
    pub record During (b : Board S) : Type 0 where
      pub wants : OthersWait b
      pub none : b.closed ≡ None
      pub running : IsStopped b ≡ false

    abbrev pub After : Order → Board S → Type 0
    After order c = IsClosing (with_order h order c)

    other_waits : (order : Order) (b : Board S) (g : ℕ) → g ≢ h → Waits b g → Waits (with_order h order b) g
    other_waits order b g other waits = (waits.0, subst MakesNone (sym (ap (λ o. unwrap_or o None) (set_there b.orders h g (Some order) other))) waits.1)

    own_waits : (order : Order) (b : Board S) → MakesNone (Some order) → Count b h < terms.limit → Waits (with_order h order b) h
    own_waits order b none low = (low, ordered_here b.orders h order none)

    each_waits : (order : Order) (b : Board S) (g : ℕ) → MakesNone (Some order) → Waits b g → Waits (with_order h order b) g
    each_waits order b g none waits = elim (eqb_tells g h) [
      | inl (t, same) ↦ subst (Waits (with_order h order b)) (sym same) (own_waits order b none (subst (λ k. Count b k < terms.limit) same waits.0))
      | inr (f, other) ↦ other_waits order b g other waits
    ]

    all_wait : (order : Order) (b : Board S) → OthersWait b → AllWait (with_order h order b)
    all_wait order b wants g n is = let w = wants g n is in (w.1, other_waits order b g w.0 w.2)

    -- a cause that closes a board that isn't closed
    closes_so : (cause : Cause) (b c : Board S) → b.closed ≡ None → ClosedSo c (Some cause) → ClosedSo c (Some (unwrap_or b.closed cause))
    closes_so cause b c none so = subst (λ o. ClosedSo c (Some (unwrap_or o cause))) (sym none) so

    wants_kept : (b d : Board S) (e : Entry) → OthersWait b → Entered machine terms many pages Good faithful h e b d → OthersWait d
    wants_kept b d e wants x g n is =
        let w = wants g n (ap (λ (ws : List (Option (ℕ × Mode))). unwrap_or (slice_get ws g) None) (sym x.wants) ∙ is) in (
          w.0,
          w.1,
          (
            subst (λ k. k < terms.limit) (sym (x.others g w.0)) w.2.0,
            subst (λ (os : List (Option Order)). MakesNone (unwrap_or (slice_get os g) None)) (sym x.orders) w.2.1,
          ),
        )

    entry_keeps : (b d : Board S) (e : Entry) → is_touch e ≡ false → During b → Entered machine terms many pages Good faithful h e b d → During d
    entry_keeps b d e plain during x = record {
      wants = wants_kept b d e during.wants x;
      none = x.closed ∙ during.none;
      running = x.stopped plain ∙ during.running;
    }

    holds_wait : (b : Board S) (n : ℕ × Mode) (k : ℕ) → Count b h < terms.limit → OthersWait b → AllWait (with_order h (Hold n.0 k) (with_want h (Some n) b))
    holds_wait b n k low wants g m is = elim (eqb_tells g h) [
      | inl (t, same) ↦ (
        subst (λ z. z < many) (sym same) inside,
        subst (Waits (with_order h (Hold n.0 k) (with_want h (Some n) b))) (sym same) (own_waits (Hold n.0 k) (with_want h (Some n) b) tt low),
      )
      | inr (f, other) ↦ let w = wants g m (ap (λ o. unwrap_or o None) (sym (set_there b.wants h g (Some n) other)) ∙ is) in
          (w.1, other_waits (Hold n.0 k) (with_want h (Some n) b) g other w.2)
    ]

    pub closing_keeps : Preserves machine terms many pages Good faithful h inside Before During After
    closing_keeps = record {
      stays = λ b before. record {
        wants = all_wait Rest b before.wants;
        closed = closed_alike b (with_order h Rest b) b.closed refl (λ g w. each_waits Rest b g tt w) before.closed;
      };
      opens = λ b before none running. record { wants = before.wants; none = none; running = running };
      rests = λ b during. record { wants = all_wait Rest b during.wants; closed = subst (ClosedSo (with_order h Rest b)) (sym during.none) during.running };
      goes = λ b until during. record {
        wants = all_wait (Go until) b during.wants;
        closed = subst (ClosedSo (with_order h (Go until) b)) (sym during.none) during.running;
      };
      holds = λ b n g low wants during. record {
        wants = holds_wait b n g low during.wants;
        closed = subst (ClosedSo (with_order h (Hold n.0 g) (with_want h (Some n) b))) (sym during.none) during.running;
      };
      fills = λ b low during. record {
        wants = all_wait Rest (closes causes.Full b) during.wants;
        closed = closes_so causes.Full b (with_order h Rest (closes causes.Full b)) during.none (during.running, (h, inside, own_waits Rest b tt low));
      };
      fills_for = λ b g n other is during. record {
        wants = all_wait Rest (closes causes.Full b) during.wants;
        closed = closes_so causes.Full b (with_order h Rest (closes causes.Full b)) during.none
            (during.running, (g, (during.wants g n is).1, other_waits Rest b g other (during.wants g n is).2));
      };
      fails = λ b low during. record {
        wants = all_wait Rest (closes causes.Fault b) during.wants;
        closed = closes_so causes.Fault b (with_order h Rest (closes causes.Fault b)) during.none (during.running, (h, inside, own_waits Rest b tt low));
      };
      favours = λ b during. record { wants = during.wants; none = during.none; running = during.running };
      polls = λ b d time left sound during room is made.
          entry_keeps (record b { supply = left }) d (poll_at machine terms h b (max time (machine.flat.time b.at.flat))) refl
          (record { wants = during.wants; none = during.none; running = during.running })
          (after_entry machine terms many pages Good faithful h (poll_at machine terms h b (max time (machine.flat.time b.at.flat)))
          (record b { supply = left }) d sound.ordered.tidy.good made);
      yields = λ b d n sound during room made. entry_keeps b d (yield_of machine terms h n b) refl during
          (after_entry machine terms many pages Good faithful h (yield_of machine terms h n b) b d sound.ordered.tidy.good made);
      gains = λ b d n sound during room made. entry_keeps b d (gain_of machine terms h n b) refl during
          (after_entry machine terms many pages Good faithful h (gain_of machine terms h n b) b d sound.ordered.tidy.good made);
      touches = λ b d word store answer now left rest sound during access room said is made.
          let entry = touch_of machine terms h b (recorded_input word store (machine.flat.time b.at.flat) now answer) in
          let x = after_entry machine terms many pages Good faithful h entry (record b { supply = rest }) d sound.ordered.tidy.good made in
          let none : d.closed ≡ None = x.closed ∙ during.none in
          let wants : OthersWait d = wants_kept (record b { supply = rest }) d entry during.wants x in (
            λ stopped. record {
              wants = all_wait Rest (closes causes.Stop d) wants;
              closed = closes_so causes.Stop d (with_order h Rest (closes causes.Stop d)) none stopped;
            },
            λ running. record { wants = wants; none = none; running = running },
          );
    }

    -- the moves of a turn: a hart whose last order isn't to go makes none
    pub commit_keeps : (n : ℕ) (b c : Board S) → Good b.at.flat → (MakesNone (last_order b h) → n ≡ 0)
        → Committed machine terms many pages Good faithful h n b c → IsClosing b → Before c
    commit_keeps n b c good none x closing =
        let ran = after_runs machine terms many pages Good faithful h n b.at c.at good x.ran in
        let waits : (g : ℕ) → Waits b g → Waits c g = λ g w.
        (still ran g w (eqb_tells g h), subst (λ (os : List (Option Order)). MakesNone (unwrap_or (slice_get os g) None)) (sym x.orders) w.1) in
        record {
          wants = λ g m is. wanting waits g m (ap (λ (ws : List (Option (ℕ × Mode))). unwrap_or (slice_get ws g) None) (sym x.wants) ∙ is) (eqb_tells g h);
          closed = subst (ClosedSo c) (sym x.closed) (closed_alike b c b.closed ran.stopped waits closing.closed);
        }
      where
        still : Ran machine terms many pages Good faithful h n b.at c.at → (g : ℕ) → Waits b g
            → (((g == h) ≡ true) × (g ≡ h)) ⊎ (((g == h) ≡ false) × (g ≢ h)) → Count c g < terms.limit
        still ran g w (inl (t, same)) = subst (λ (s : Replay S). machine.flat.count s.flat g < terms.limit)
            (sym (ran.none (none (subst (λ k. MakesNone (last_order b k)) same w.1)))) w.0
        still ran g w (inr (f, other)) = subst (λ k. k < terms.limit) (sym (ran.others g other)) w.0

        wanting : ((g : ℕ) → Waits b g → Waits c g) → (g : ℕ) (m : ℕ × Mode) → unwrap_or (slice_get (slice_set b.wants h None) g) None ≡ Some m
            → (((g == h) ≡ true) × (g ≡ h)) ⊎ (((g == h) ≡ false) × (g ≢ h)) → (g ≢ h) × (g < many) × Waits c g
        wanting waits g m is (inl (t, same)) =
            absurd (none-some _ (sym (cleared b.wants h) ∙ subst (λ k. unwrap_or (slice_get (slice_set b.wants h None) k) None ≡ Some m) same is))
        wanting waits g m is (inr (f, other)) = let w = closing.wants g m (ap (λ o. unwrap_or o None) (sym (set_there b.wants h g None other)) ∙ is) in
            (other, w.0, waits g w.1)
