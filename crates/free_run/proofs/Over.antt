-- Behind a board that is over, turns without moves make no item.
use Rattle.std.proofs.Common.{◌≡◌, ◌≢◌, ◌⊎◌, inl, inr, ℕ, suc, ◌+◌, ◌<◌, ◌==◌, ◌||◌, not, min, Bool, true, false, List, [], ◌∷◌, length, map, Option, Some}
use Rattle.std.proofs.Common.{None}
use Rattle.std.proofs.Common.{is_some, slice_get, slice_set, unwrap_or, refl, sym, ap, ◌∙◌, subst, arith, if◌then◌else◌, true≢false}
use Rattle.std.specs.Prelude.{◌-◌, ◌&&◌, nat_lt}
use Rattle.std.specs.Option.{option_and_then}
use Rattle.std.proofs.lemmas.Bool.{cond-true, eqb-true, or_left}
use Rattle.std.proofs.lemmas.Bool.Decides.{eqb_tells, leb_tells}
use Rattle.std.proofs.lemmas.Option.{none-some}
use Rattle.shared_types.proofs.Lists.{set_there}
use Rattle.rv_words.specs.declared.shared.Mode.{Mode}
use Rattle.log_entry.specs.declared.log.Entry.{Entry}
use Rattle.crew_recording.specs.Recording.{stream_in}
use Rattle.turn_model.specs.Recordable.{Recordable}
use Rattle.turn_model.specs.Board.{Board, Rest, Terms, wanted, harts, is_at_limit}
use Rattle.turn_model.specs.Laws.{EachBelow}
use Rattle.turn_model.specs.Lists.{listed, whole_leg}
use Rattle.turn_model.specs.Steps.{passes_favour, with_want, passes, polls, yields_for, yields_to, yields, rests_at_limit}
use Rattle.turn_model.specs.Steps.{gains, touches, goes_on, steps}
use Rattle.turn_model.specs.Turn.{turn, ended_by, items_made, with_row, with_rows, with_order}
use Rattle.turn_model.specs.Ways.{Way, On, Ends, goes}
use Rattle.turn_model.proofs.Closure.{cleared}

-- nothing of the log, the journal or the state is another
pub record Rested {S : Type 0} (b c : Board S) : Type 0 where
  pub at : c.at ≡ b.at
  pub streams : c.streams ≡ b.streams
  pub journal : c.journal ≡ b.journal
  pub closed : c.closed ≡ b.closed
  pub supply : c.supply ≡ b.supply

rested_then : {S : Type 0} (b c d : Board S) → Rested b c → Rested c d → Rested b d
rested_then b c d x y = record {
  at = y.at ∙ x.at;
  streams = y.streams ∙ x.streams;
  journal = y.journal ∙ x.journal;
  closed = y.closed ∙ x.closed;
  supply = y.supply ∙ x.supply;
}

not_below : (n limit : ℕ) → n ≡ limit → nat_lt n limit ≡ false
not_below n limit e = elim (leb_tells (suc n) limit) [ inl (t, l) ↦ absurd (omega (arith, l, e)) | inr (f, l) ↦ f ]

module _ {S V : Type 0} (machine : Recordable S V) (terms : Terms) where
  -- it is closed; or each of its harts is at the limit, and nobody has stored a want
  abbrev pub IsQuiet : Board S → Type 0
  IsQuiet b = (is_some b.closed ≡ true)
      ⊎ (((g : ℕ) → g < length b.streams → is_at_limit machine terms b g ≡ true) × ((g : ℕ) → wanted b g ≡ None))

  has_ended : (rest : List (Board S → Way S)) (c : Board S) → goes rest (Ends Rest c) ≡ Ends Rest c
  has_ended [] c = refl
  has_ended (step ∷ rest) c = refl

  yields_none : (h g : ℕ) (c : Board S) (p : Bool) (o : Option (ℕ × Mode)) → o ≡ None → (if p then On c else yields_for machine terms h g o c) ≡ On c
  yields_none h g c true o none = refl
  yields_none h g c false None none = refl
  yields_none h g c false (Some n) none = absurd (none-some n (sym none))

  all_yield_none : (h : ℕ) (c : Board S) → ((g : ℕ) → wanted c g ≡ None) → (gs : List ℕ) → goes (map (yields_to machine terms h) gs) (On c) ≡ On c
  all_yield_none h c none [] = refl
  all_yield_none h c none (g ∷ gs) =
      ap (goes (map (yields_to machine terms h) gs)) (yields_none h g c (g == h) (wanted c g) (none g)) ∙ all_yield_none h c none gs

  -- at the limit no Poll is due
  polls_none : (h : ℕ) (c : Board S) (x : Way S) (p q : Bool) → p ≡ false → (if p && q then x else On c) ≡ On c
  polls_none h c x true q e = absurd (true≢false e)
  polls_none h c x false q e = refl

  abbrev later : ℕ → List (Board S → Way S)
  later h = rests_at_limit machine terms h ∷ gains machine terms h ∷ touches machine terms h ∷ rests_at_limit machine terms h ∷ goes_on machine terms h ∷ []

  -- the steps of a hart's turn, once its moves are committed
  rests_closed : (h : ℕ) (c : Board S) → is_some c.closed ≡ true → goes (steps machine terms h) (On c) ≡ Ends Rest c
  rests_closed h c shut =
      ap (goes (polls machine terms h ∷ yields machine terms h ∷ later h))
      (cond-true (is_some c.closed || machine.flat.is_stopped c.at.flat) (Ends Rest c) (On c)
      (or_left (is_some c.closed) (machine.flat.is_stopped c.at.flat) shut))

  rests_limit : (h : ℕ) (c : Board S) → is_at_limit machine terms c h ≡ true → ((g : ℕ) → wanted c g ≡ None)
      → (p : Bool) → goes (polls machine terms h ∷ yields machine terms h ∷ later h) (if p then Ends Rest c else On c) ≡ Ends Rest c
  rests_limit h c full none true = refl
  rests_limit h c full none false =
      ap (goes (yields machine terms h ∷ later h))
      (polls_none h c _ (nat_lt (machine.flat.count c.at.flat h) terms.limit) _
      (not_below (machine.flat.count c.at.flat h) terms.limit (eqb-true (machine.flat.count c.at.flat h) terms.limit full)))
      ∙ ap (goes (later h)) (all_yield_none h c none (harts c))
      ∙ ap (goes (gains machine terms h ∷ touches machine terms h ∷ rests_at_limit machine terms h ∷ goes_on machine terms h ∷ []))
      (cond-true (is_at_limit machine terms c h) (Ends Rest c) (On c) full)

  -- the board once no moves are committed
  abbrev committed : ℕ → Board S → Board S
  committed h b = with_want h None (passes machine terms h 0 b)

  record Begins (h : ℕ) (b c : Board S) : Type 0 where
    rested : Rested b c
    wants : c.wants ≡ slice_set b.wants h None

  begins : (h : ℕ) (b : Board S) (p : Bool) → Begins h b (with_want h None (if p then passes_favour h b else b))
  begins h b true = record { rested = record { at = refl; streams = refl; journal = refl; closed = refl; supply = refl }; wants = refl }
  begins h b false = record { rested = record { at = refl; streams = refl; journal = refl; closed = refl; supply = refl }; wants = refl }

  wants_none : (h : ℕ) (b c : Board S) → ((g : ℕ) → wanted b g ≡ None) → c.wants ≡ slice_set b.wants h None → (g : ℕ) → wanted c g ≡ None
  wants_none h b c none e g =
      ap (λ (ws : List (Option (ℕ × Mode))). unwrap_or (slice_get ws g) None) e ∙ by (eqb_tells g h) where
        by : (((g == h) ≡ true) × (g ≡ h)) ⊎ (((g == h) ≡ false) × (g ≢ h)) → unwrap_or (slice_get (slice_set b.wants h None) g) None ≡ None
        by (inl same) = ap (λ k. unwrap_or (slice_get (slice_set b.wants h None) k) None) same.1 ∙ cleared b.wants h
        by (inr other) = ap (λ o. unwrap_or o None) (set_there b.wants h g None other.1) ∙ none g

  -- a turn without moves
  record Turns (h : ℕ) (b : Board S) : Type 0 where
    to : Board S
    is : turn machine terms h 0 b ≡ Some to
    rested : Rested b to
    quiet : IsQuiet to

  turns : (h : ℕ) (b : Board S) → h < length b.streams → IsQuiet b → Turns h b
  turns h b inside quiet = by quiet where
    c : Board S
    c = committed h b

    x : Begins h b c
    x = begins h b _

    d : Board S
    d = with_rows h 0 (items_made h 0 b c) b (with_order h Rest c)

    none_made : items_made h 0 b c ≡ 0
    none_made =
        ap (λ (ss : List (List Entry)). 0 + (length (stream_in ss h) - length (stream_in b.streams h))) x.rested.streams ∙ omega arith

    rested : Rested b d
    rested = record {
      at = x.rested.at;
      streams = x.rested.streams;
      journal = ap (λ k. with_row (not (k == 0)) (h, k) c.journal) none_made ∙ x.rested.journal;
      closed = x.rested.closed;
      supply = x.rested.supply;
    }

    by : IsQuiet b → Turns h b
    by (inl shut) =
        let now : is_some c.closed ≡ true = ap is_some x.rested.closed ∙ shut in
        record { to = d; is = ap (ended_by h 0 b) (rests_closed h c now); rested = rested; quiet = inl now }
    by (inr (full, none)) =
        let there : (g : ℕ) → g < length c.streams → is_at_limit machine terms c g ≡ true =
        λ g l. ap (λ s. machine.flat.count s.flat g == terms.limit) x.rested.at
        ∙ full g (subst (λ (ss : List (List Entry)). g < length ss) x.rested.streams l) in
        let now : (g : ℕ) → wanted c g ≡ None = wants_none h b c none x.wants in
        let own = there h (subst (λ (ss : List (List Entry)). h < length ss) (sym x.rested.streams) inside) in
        record {
          to = d;
          is = ap (ended_by h 0 b) (rests_limit h c own now (is_some c.closed || machine.flat.is_stopped c.at.flat));
          rested = rested;
          quiet = inr (there, now);
        }

  pub record Rests (b : Board S) (hs : List ℕ) : Type 0 where
    pub to : Board S
    pub is : listed machine terms (map (λ (h : ℕ). (h, 0)) hs) b ≡ Some to
    pub rested : Rested b to

  pub rests : (hs : List ℕ) (b : Board S) → EachBelow (length b.streams) hs → IsQuiet b → Rests b hs
  rests [] b each quiet =
      record { to = b; is = refl; rested = record { at = refl; streams = refl; journal = refl; closed = refl; supply = refl } }
  rests (h ∷ hs) b each quiet =
      let t = turns h b each.0 quiet in
      let more = rests hs t.to (subst (λ (ss : List (List Entry)). EachBelow (length ss) hs) (sym t.rested.streams) each.1) t.quiet in
      let rows : List (ℕ × ℕ) = map (λ (g : ℕ). (g, 0)) hs in
      let no_moves : min 0 (whole_leg machine terms h b) ≡ 0 = omega arith in
      record {
        to = more.to;
        is = ap (λ n. option_and_then (listed machine terms rows) (turn machine terms h n b)) no_moves
            ∙ ap (option_and_then (listed machine terms rows)) t.is ∙ more.is;
        rested = rested_then b t.to more.to t.rested more.rested;
      }
