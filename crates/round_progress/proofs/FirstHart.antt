-- What the turns of a round leave of the first hart that goes on.
use Rattle.std.proofs.Common.{◌≡◌, ◌≢◌, ◌⊎◌, inl, inr, ℕ, zero, suc, ◌+◌, ◌-◌, ◌%◌, ◌<◌, ◌≤◌, ◌==◌, ◌&&◌, not, Bool, true, false, cond, List, [], ◌∷◌, length}
use Rattle.std.proofs.Common.{find, replicate, nat_lt, nat_le, Option, Some, None, is_some, slice_get, slice_set, unwrap_or, refl, sym, ap, ap₂, ◌∙◌, subst}
use Rattle.std.proofs.Common.{arith, if◌then◌else◌, true≢false}
use Rattle.std.proofs.lemmas.Option.{none-some, same_Some}
use Rattle.std.proofs.lemmas.Bool.{eq-eqb, ne_eqb}
use Rattle.std.proofs.lemmas.Bool.Decides.{eqb_tells}
use Rattle.rv_words.specs.declared.shared.Mode.{Mode}
use Rattle.log_entry.specs.declared.log.Entry.{Entry}
use Rattle.log_entry.specs.Parts.{strength, conflict}
use Rattle.order_rules.specs.Rules.{has_poll}
use Rattle.order_rules.specs.Holders.{held, nobody}
use Rattle.replay_model.specs.State.{Replay, want}
use Rattle.crew_recording.specs.Recording.{Recording, first_recording}
use Rattle.crew_recording.specs.Allowed.{IsPolled}
use Rattle.shared_types.proofs.Lists.{set_here, set_there, bound_to, is_there}
use Rattle.std.proofs.lemmas.List.{length-set, length-replicate}
use Rattle.rv_words.specs.Limits.{poll_distance}
use Rattle.crew_recording.proofs.Together.{Made}
use Rattle.turn_model.specs.Recordable.{Recordable}
use Rattle.turn_model.specs.Board.{Board, Order, Go, Hold, Rest, Supply, Terms, stream, wanted, last_order, is_at_limit}
use Rattle.turn_model.specs.Claims.{stands_before}
use Rattle.turn_model.specs.Ways.{Way, On, Ends, Nowhere}
use Rattle.turn_model.specs.Ways as ways
use Rattle.turn_model.specs.Steps.{commits, passes_favour, with_want, steps, is_due}
use Rattle.turn_model.specs.Turn.{turn, ended_by, with_rows, with_order, items_made}
use Rattle.turn_model.specs.Rounds.{with_favoured}
use Rattle.turn_model.specs.Faithful.{IsFaithful, AccessesSend}
use Rattle.turn_model.proofs.Ways.{recording_of}
use Rattle.turn_model.proofs.Closure.{MakesNone, ClosedSo}
use Rattle.turn_model.proofs.LeanJournals.{WantsStay}
use Rattle.turn_model.proofs.Turns.{CanMove, Goes, IsOf, stays, sound_goes, turn_goes}
use Rattle.turn_model.proofs.Boards.{SoundBoard, Closes, rises, begin, IsReached, reached_sound, reached_aside, reached_turn, closing_turn, shut_turn}
use Rattle.round_progress.proofs.Demands.{IsPlain}
use Rattle.round_progress.proofs.Ways.{Out, no_and, not_before, so_is}
use Rattle.round_progress.proofs.Yields.{steps_clear}
use Rattle.round_progress.proofs.OwnTurns.{First, FirstHeld, Carry, steps_go, End as Ending}
use Rattle.round_progress.proofs.OtherHarts.{first_of, NeedsStay, Left, Behind, turn_behind, turn_leaves, turn_same}

-- where nothing is lacking, the first isn't
first_not_lacking : (test : ℕ × Mode → Bool) (k : ℕ × Mode) (ks : List (ℕ × Mode)) → find test (k ∷ ks) ≡ None → test k ≡ false
first_not_lacking test k ks e = by (test k) refl e where
  by : (x : Bool) → test k ≡ x → cond x (Some k) (find test ks) ≡ None → test k ≡ false
  by true is e = absurd (none-some k (sym e))
  by false is e = is

module _ {S V : Type 0} (machine : Recordable S V) (terms : Terms) (many : ℕ) (Good : S → Type 0) (faithful : IsFaithful machine.flat many terms.pages Good)
    (first : S) (supply : Supply) (good : Good first) (unmoved : (h : ℕ) → machine.flat.count first h ≡ 0) (sends : AccessesSend machine)
    (plain : IsPlain machine many Good) (stay : WantsStay machine terms many Good faithful first)
    (needs_stay : NeedsStay machine terms many Good faithful first) where
  abbrev Count : Board S → ℕ → ℕ
  Count b h = machine.flat.count b.at.flat h

  -- a board that turns led to
  pub record Fine (b : Board S) : Type 0 where
    pub reached : IsReached machine terms many Good faithful first supply good unmoved b
    pub closing : Closes machine terms many Good faithful b
    pub wants_size : length b.wants ≡ many

  pub sound_of : (b : Board S) → Fine b → SoundBoard machine terms many Good faithful b
  sound_of b fine = reached_sound machine terms many Good faithful first supply good unmoved b fine.reached

  pub size_of : (b : Board S) → Fine b → length b.streams ≡ many
  size_of b fine = (sound_of b fine).ordered.tidy.streams

  abbrev pub MovesOf : ℕ → ℕ → Board S → Type 0
  MovesOf h n b = CanMove machine terms many terms.pages Good faithful h n (recording_of b)

  pub fine_favoured : (r : ℕ) (b : Board S) → Fine b → Fine (with_favoured r b)
  fine_favoured r b fine = record {
    reached =
        reached_aside machine terms many Good faithful first supply good unmoved b (with_favoured r b) fine.reached refl refl refl refl refl
        (λ g l order e. fine.reached.orders g l order e);
    closing = record { wants = fine.closing.wants; closed = fine.closing.closed };
    wants_size = fine.wants_size;
  }

  pub behind_of : (h n : ℕ) (b d : Board S) → h < many → Fine b → MovesOf h n b → turn machine terms h n b ≡ Some d
      → Behind machine terms many Good faithful first h n b d
  behind_of h n b d inside fine can is = turn_behind machine terms many Good faithful first h inside n b d (sound_of b fine) can fine.wants_size is

  pub fine_turn : (h n : ℕ) (b d : Board S) → h < many → Fine b → MovesOf h n b → (MakesNone (last_order b h) → n ≡ 0) → turn machine terms h n b ≡ Some d
      → Fine d
  fine_turn h n b d inside fine can none is = record {
    reached = reached_turn machine terms many Good faithful first supply good unmoved sends h n b d inside fine.reached can is;
    closing = closing_turn machine terms many Good faithful first supply good unmoved h n b d inside fine.reached can none is fine.closing;
    wants_size = (behind_of h n b d inside fine can is).wants_size;
  }

  pub went : (h n : ℕ) (b d : Board S) → h < many → Fine b → MovesOf h n b → turn machine terms h n b ≡ Some d
      → (goes : Goes machine terms many terms.pages Good faithful b d) × IsOf machine terms many terms.pages Good faithful h b goes.items
  went h n b d inside fine can is =
      let g = turn_goes machine terms many terms.pages Good faithful h inside n b d (sound_of b fine) fine.reached.orders can is in (g.0, g.2)

  -- what a hart had made, from the start
  pub known : (b : Board S) (fine : Fine b)
      → Made machine.flat terms.pages terms.limit (first_recording terms.pages many first) fine.reached.goes.items (recording_of b)
  known b fine =
      subst (λ (r : Recording S). Made machine.flat terms.pages terms.limit r fine.reached.goes.items (recording_of b)) begins fine.reached.goes.made where
        from : ℕ → Recording S
        from k =
            record {
              at = record {
                flat = first;
                cursor = record { places = replicate k 0; numbers = replicate terms.pages 0; ordinal = 0 };
                holders = nobody terms.pages k;
              };
              streams = replicate many [];
            }

        begins : recording_of (begin machine terms many Good faithful first supply good unmoved) ≡ first_recording terms.pages many first
        begins = ap from (length-replicate many [])

  -- the board is closed, or a count has risen
  abbrev pub Won : Board S → Board S → Type 0
  Won b c = (is_some c.closed ≡ true) ⊎ ((g : ℕ) × (g < many) × (machine.flat.count b.at.flat g < machine.flat.count c.at.flat g))

  pub counts_rise : (h n : ℕ) (b d : Board S) → h < many → Fine b → MovesOf h n b → turn machine terms h n b ≡ Some d → (g : ℕ) → Count b g ≤ Count d g
  counts_rise h n b d inside fine can is g =
      let w = went h n b d inside fine can is in
      rises machine terms many Good faithful g (recording_of b) (recording_of d) w.0.items (sound_of b fine).ordered.tidy w.0.made.0

  pub won_turn : (z : Board S) (h n : ℕ) (b d : Board S) → h < many → Fine b → MovesOf h n b → turn machine terms h n b ≡ Some d → Won z b → Won z d
  won_turn z h n b d inside fine can is (inl closed) =
      let c = is_there b.closed closed in
      inl (ap is_some (shut_turn machine terms many Good faithful h inside c.0 (λ s. Unit {0}) n b d (sound_of b fine) can is c.1 (λ c x. tt)).0)
  won_turn z h n b d inside fine can is (inr more) =
      let up = counts_rise h n b d inside fine can is more.0 in let k = more.2 in inr (more.0, more.1, omega (arith, up, k))

  -- where a hart begins its steps, that made no move
  record Begun (h : ℕ) (b c : Board S) : Type 0 where
    at : c.at ≡ b.at
    streams : c.streams ≡ b.streams
    journal : c.journal ≡ b.journal
    orders : c.orders ≡ b.orders
    wants : c.wants ≡ slice_set b.wants h None
    closed : c.closed ≡ b.closed
    favoured : is_at_limit machine terms b h ≡ false → c.favoured ≡ b.favoured

  begun : (h : ℕ) (b c : Board S) → commits machine terms h 0 b ≡ Some c → Begun h b c
  begun h b c is = subst (Begun h b) (same_Some _ _ is) (by ((h == b.favoured) && is_at_limit machine terms b h) refl) where
    by : (x : Bool) → ((h == b.favoured) && is_at_limit machine terms b h) ≡ x → Begun h b (with_want h None (if x then passes_favour h b else b))
    by true e =
        record {
          at = refl;
          streams = refl;
          journal = refl;
          orders = refl;
          wants = refl;
          closed = refl;
          favoured = λ f. absurd (true≢false (sym e ∙ ap (λ y. (h == b.favoured) && y) f ∙ no_and (h == b.favoured)));
        }
    by false e = record { at = refl; streams = refl; journal = refl; orders = refl; wants = refl; closed = refl; favoured = λ f. refl }

  -- where a turn ended
  ended_at : (Q : Order → Board S → Type 0) (D : Board S → Type 0) (h n : ℕ) (b d : Board S) (way : Way S) → Out D Q way → ended_by h n b way ≡ Some d
      → (order : Order) × (e : Board S) × Q order e × (with_rows h n (items_made h n b e) b (with_order h order e) ≡ d)
  ended_at Q D h n b d (On e) out is = absurd (none-some d is)
  ended_at Q D h n b d Nowhere out is = absurd (none-some d is)
  ended_at Q D h n b d (Ends order e) out is = (order, e, out, same_Some _ _ is)

  -- the first hart that goes on, of a round with this hart favoured
  module _ (r p : ℕ) (p_inside : p < many) where
    abbrev pub rank_of : ℕ → ℕ
    rank_of h = (h + many - r % many) % many

    before_is : (b : Board S) → length b.streams ≡ many → (x y : ℕ) → stands_before (with_favoured r b) x y ≡ nat_lt (rank_of x) (rank_of y)
    before_is b size x y = ap (λ l. nat_lt ((x + l - r % l) % l) ((y + l - r % l) % l)) size

    abbrev pub FirstHeldB : Board S → Type 0
    FirstHeldB b = FirstHeld machine terms many terms.pages Good faithful plain p p_inside b

    -- it has a way ahead, and was told to go
    abbrev pub Ready : Board S → Type 0
    Ready b =
        (until : ℕ) × (last_order b p ≡ Some (Go until)) × (machine.flat.count b.at.flat p < until) × (want machine.flat b.at p ≡ None)
        × (machine.flat.is_at_device b.at.flat p ≡ false) × (machine.flat.count b.at.flat p < terms.limit)
        × IsPolled (stream b p) (machine.flat.count b.at.flat p)

    abbrev pub Level : ℕ → Board S → Type 0
    Level zero b = Unit {0}
    Level (suc zero) b = FirstHeldB b
    Level (suc (suc level)) b = ⊥

    -- or it has stored a want, and these harts hold nothing that conflicts with it
    pub record Stored (level : ℕ) (R : ℕ → Type 0) (b : Board S) : Type 0 where
      pub asked : (n : ℕ × Mode) × (wanted b p ≡ Some n)
      pub low : machine.flat.count b.at.flat p < terms.limit
      pub polled : IsPolled (stream b p) (machine.flat.count b.at.flat p)
      pub so_far : Level level b
      pub clear : (n : ℕ × Mode) (g : ℕ) → wanted b p ≡ Some n → g < many → g ≢ p → R g → conflict (held b.at.holders n.0 g) (Some n.1) ≡ false

    abbrev pub Stands : ℕ → (ℕ → Type 0) → Board S → Type 0
    Stands level R b = Ready b ⊎ Stored level R b

    pub fewer : (level : ℕ) (R Q : ℕ → Type 0) (b : Board S) → ((g : ℕ) → g < many → g ≢ p → Q g → R g) → Stands level R b → Stands level Q b
    fewer level R Q b f (inl ready) = inl ready
    fewer level R Q b f (inr s) =
        inr (record {
          asked = s.asked;
          low = s.low;
          polled = s.polled;
          so_far = s.so_far;
          clear = λ n g is less other q. s.clear n g is less other (f g less other q);
        })

    -- the first page of a need is still held
    first_stays : (b d : Board S) (ns ms : List (ℕ × Mode)) → ((q : ℕ) → held d.at.holders q p ≡ held b.at.holders q p) → first_of ms ≡ first_of ns
        → First machine terms many terms.pages Good faithful plain p p_inside b ns → First machine terms many terms.pages Good faithful plain p p_inside d ms
    first_stays b d ns [] same e so = tt
    first_stays b d [] (m ∷ ms) same e so = absurd (none-some m (sym e))
    first_stays b d (n ∷ ns) (m ∷ ms) same e so =
        ap (λ (k : ℕ × Mode). nat_le (strength (Some k.1)) (strength (held d.at.holders k.0 p))) (same_Some _ _ e)
        ∙ ap (λ o. nat_le (strength (Some n.1)) (strength o)) (same n.0) ∙ so

    level_stays : (level : ℕ) (b d : Board S) → Left machine terms many Good faithful first p (recording_of b) (recording_of d) → Level level b → Level level d
    level_stays zero b d left so = tt
    level_stays (suc zero) b d left so = first_stays b d (machine.flat.need b.at.flat p) (machine.flat.need d.at.flat p) left.held_so left.first_so so
    level_stays (suc (suc level)) b d left so = so

    no_moves : (h : ℕ) (b : Board S) → MovesOf h 0 b
    no_moves h b i l = absurd (omega (arith, l))

    -- another hart's turn leaves nothing of its own in the way
    clears : (g : ℕ) (n : ℕ × Mode) (b d : Board S) → g < many → p ≢ g → Fine b → b.closed ≡ None → (Count b g ≡ terms.limit)
        ⊎ (nat_lt (rank_of p) (rank_of g) ≡ true) → wanted b p ≡ Some n → turn machine terms g 0 (with_favoured r b) ≡ Some d
        → (is_some d.closed ≡ true) ⊎ (conflict (held d.at.holders n.0 g) (Some n.1) ≡ false)
    clears g n b d inside other fine unclosed gives asked is =
        let B = with_favoured r b in
        let c = bound_to (λ c. ended_by g 0 B (ways.goes (steps machine terms g) (On c))) (commits machine terms g 0 B) d is in
        let x = begun g B c.0 c.1 in
        let sound = sound_of b fine in
        let size = size_of b fine in
        let wants : wanted c.0 p ≡ Some n =
        ap (λ (ws : List (Option (ℕ × Mode))). unwrap_or (slice_get ws p) None) x.wants ∙ ap (λ o. unwrap_or o None) (set_there b.wants g p None other)
        ∙ asked in
        let there : p < length c.0.streams = (let e = ap (λ (ss : List (List Entry)). length ss) x.streams in omega (arith, e, size, p_inside)) in
        let so : (is_at_limit machine terms c.0 g ≡ true) ⊎ (stands_before c.0 p g ≡ true) = given c.0 x gives in
        let good' : Good c.0.at.flat = subst Good (ap (λ (s : Replay S). s.flat) (sym x.at)) sound.ordered.tidy.good in
        let running : machine.flat.is_stopped c.0.at.flat ≡ false =
        ap (λ (s : Replay S). machine.flat.is_stopped s.flat) x.at
        ∙ subst (ClosedSo machine terms many terms.pages Good faithful b) unclosed fine.closing.closed in
        let e =
        ended_at _ _ g 0 B d (ways.goes (steps machine terms g) (On c.0))
        (steps_clear machine terms many terms.pages Good faithful g p n other c.0 wants there so good' (x.closed ∙ unclosed) running) c.2 in
        subst (λ (z : Board S). (is_some z.closed ≡ true) ⊎ (conflict (held z.at.holders n.0 g) (Some n.1) ≡ false)) e.3 e.2
      where
        given : (c : Board S) → Begun g (with_favoured r b) c → (Count b g ≡ terms.limit) ⊎ (nat_lt (rank_of p) (rank_of g) ≡ true)
            → (is_at_limit machine terms c g ≡ true) ⊎ (stands_before c p g ≡ true)
        given c x (inl limit) = inl (ap (λ (s : Replay S). machine.flat.count s.flat g == terms.limit) x.at ∙ eq-eqb (Count b g) terms.limit limit)
        given c x (inr before) = by (is_at_limit machine terms b g) refl where
          by : (y : Bool) → is_at_limit machine terms b g ≡ y → (is_at_limit machine terms c g ≡ true) ⊎ (stands_before c p g ≡ true)
          by true e = inl (ap (λ (s : Replay S). machine.flat.count s.flat g == terms.limit) x.at ∙ e)
          by false e =
              inr (ap₂ (λ (ss : List (List Entry)) f. nat_lt ((p + length ss - f) % length ss) ((g + length ss - f) % length ss)) x.streams (x.favoured e)
              ∙ before_is b (size_of b fine) p g ∙ before)

    pub other_turn : (level : ℕ) (R : ℕ → Type 0) (g : ℕ) (b d : Board S) → g < many → p ≢ g → Fine b → b.closed ≡ None → (Count b g ≡ terms.limit)
        ⊎ (nat_lt (rank_of p) (rank_of g) ≡ true) → turn machine terms g 0 (with_favoured r b) ≡ Some d
        → Stands level R b → (is_some d.closed ≡ true) ⊎ Stands level (λ x. R x ⊎ (x ≡ g)) d
    other_turn level R g b d inside other fine unclosed gives is stands =
        let B = with_favoured r b in
        let fine' = fine_favoured r b fine in
        let w = went g 0 B d inside fine' (no_moves g B) is in
        let left = turn_leaves machine terms many Good faithful first needs_stay g p other fine'.reached.goes.items B d (known B fine') w.0 w.1 in
        let same = turn_same machine terms many Good faithful first g p other B d (sound_of B fine') w.0 w.1 in
        let beside = behind_of g 0 B d inside fine' (no_moves g B) is in
        by left same beside stands
      where
        by : Left machine terms many Good faithful first p (recording_of b) (recording_of d) → (stream d p ≡ stream b p) × (Count d p ≡ Count b p)
            → Behind machine terms many Good faithful first g 0 (with_favoured r b) d → Stands level R b
            → (is_some d.closed ≡ true) ⊎ Stands level (λ x. R x ⊎ (x ≡ g)) d
        by left same beside (inl (until, told, less, none, off, low, polled)) =
            let quiet = left.quiet none off in
            inr (inl (
              until,
              beside.orders p other ∙ told,
              subst (λ k. k < until) (sym same.1) less,
              quiet.0,
              quiet.1,
              subst (λ k. k < terms.limit) (sym same.1) low,
              subst (IsPolled (stream d p)) (sym same.1) (subst (λ s. IsPolled s (Count b p)) (sym same.0) polled),
            ))
        by left same beside (inr s) = elim (clears g s.asked.0 b d inside other fine unclosed gives s.asked.1 is) [
          | inl closed ↦ inl closed
          | inr clear ↦ inr (inr (record {
            asked = (s.asked.0, beside.wants p other ∙ s.asked.1);
            low = subst (λ k. k < terms.limit) (sym same.1) s.low;
            polled = subst (IsPolled (stream d p)) (sym same.1) (subst (λ t. IsPolled t (Count b p)) (sym same.0) s.polled);
            so_far = level_stays level b d left s.so_far;
            clear = λ n x asked l apart from. cleared n x (sym (beside.wants p other) ∙ asked) l apart from clear (eqb_tells x g);
          }))
        ]
          where
            cleared : (n : ℕ × Mode) (x : ℕ) → wanted b p ≡ Some n → x < many → x ≢ p → R x ⊎ (x ≡ g)
                → conflict (held d.at.holders s.asked.0.0 g) (Some s.asked.0.1) ≡ false → (((x == g) ≡ true) × (x ≡ g)) ⊎ (((x == g) ≡ false) × (x ≢ g))
                → conflict (held d.at.holders n.0 x) (Some n.1) ≡ false
            cleared n x asked l apart from clear (inl (t, same)) =
                let one : s.asked.0 ≡ n = same_Some _ _ (sym s.asked.1 ∙ asked) in
                ap (λ k. conflict (held d.at.holders n.0 k) (Some n.1)) same
                ∙ subst (λ (m : ℕ × Mode). conflict (held d.at.holders m.0 g) (Some m.1) ≡ false) one clear
            cleared n x asked l apart (inr same) clear (inr (f, away)) = absurd (away same)
            cleared n x asked l apart (inl from) clear (inr (f, away)) =
                let B = with_favoured r b in
                let fine' = fine_favoured r b fine in
                let w = went g 0 B d inside fine' (no_moves g B) is in
                let left = turn_leaves machine terms many Good faithful first needs_stay g x away fine'.reached.goes.items B d (known B fine') w.0 w.1 in
                ap (λ o. conflict o (Some n.1)) (left.held_so n.0) ∙ s.clear n x asked l apart from

    -- every other hart below the limit comes behind
    abbrev pub Leads : Board S → Type 0
    Leads b =
        (machine.flat.count b.at.flat p < terms.limit)
        × ((g : ℕ) → g < many → g ≢ p → (machine.flat.count b.at.flat g ≡ terms.limit) ⊎ (nat_lt (rank_of p) (rank_of g) ≡ true))

    -- behind its own turn
    abbrev Found : Board S → Board S → Type 0
    Found b d =
        (is_some d.closed ≡ true) ⊎ ((machine.flat.count b.at.flat p < machine.flat.count d.at.flat p)
        ⊎ (Ready d ⊎ (((n : ℕ × Mode) × (wanted d p ≡ Some n))
        × (machine.flat.count d.at.flat p < terms.limit → IsPolled (stream d p) (machine.flat.count d.at.flat p))
        × (((n : ℕ × Mode) → want machine.flat b.at p ≡ Some n → (g : ℕ) → g < many → g ≢ p → conflict (held b.at.holders n.0 g) (Some n.1) ≡ false)
        → is_due machine terms p b ≡ false → (FirstHeldB b → ⊥) × FirstHeldB d))))

    finds : (b d : Board S) → Fine b → b.closed ≡ None → Leads b → turn machine terms p 0 (with_favoured r b) ≡ Some d → Found b d
    finds b d fine unclosed leads is =
        let B = with_favoured r b in
        let c = bound_to (λ c. ended_by p 0 B (ways.goes (steps machine terms p) (On c))) (commits machine terms p 0 B) d is in
        let x = begun p B c.0 c.1 in
        let fine' = fine_favoured r b fine in
        let sound' =
        sound_goes machine terms many terms.pages Good faithful B c.0 (sound_of B fine')
        (stays machine terms many terms.pages Good faithful B c.0 (λ i. record { at = sym x.at i; streams = sym x.streams i }) x.journal x.orders) in
        let size = size_of b fine in
        let limit_not : is_at_limit machine terms b p ≡ false = ne_eqb (Count b p) terms.limit (λ e. let l = leads.0 in omega (arith, l, e)) in
        let limit_c : is_at_limit machine terms c.0 p ≡ false = ap (λ (s : Replay S). machine.flat.count s.flat p == terms.limit) x.at ∙ limit_not in
        let wants_size : length c.0.wants ≡ many = ap (λ (ws : List (Option (ℕ × Mode))). length ws) x.wants ∙ length-set b.wants p None ∙ fine.wants_size in
        let own : wanted c.0 p ≡ None =
        ap (λ (ws : List (Option (ℕ × Mode))). unwrap_or (slice_get ws p) None) x.wants
        ∙ ap (λ o. unwrap_or o None) (set_here b.wants p None (let z = fine.wants_size in omega (arith, z, p_inside))) in
        let running : machine.flat.is_stopped c.0.at.flat ≡ false =
        ap (λ (s : Replay S). machine.flat.is_stopped s.flat) x.at
        ∙ subst (ClosedSo machine terms many terms.pages Good faithful b) unclosed fine.closing.closed in
        let e = ended_at _ _ p 0 B d (ways.goes (steps machine terms p) (On c.0))
        (steps_go machine terms many terms.pages Good faithful plain p p_inside c.0 wants_size limit_c own
        (λ g k other stored. comes_behind c.0 x limit_not g k other stored) sound' (x.closed ∙ unclosed) running) c.2 in
        let d_size : length d.orders ≡ many = (sound_of d (fine_turn p 0 B d p_inside fine' (no_moves p B) (λ _. refl) is)).orders_size in
        let e_size : p < length e.1.orders =
        (let a = length-set e.1.orders p (Some e.0) in let z = ap (λ (y : Board S). length y.orders) e.3 in omega (arith, a, z, d_size, p_inside)) in
        subst (Found b) e.3 (found c.0 x e.0 e.1 e_size e.2)
      where
        comes_behind : (c : Board S) → Begun p (with_favoured r b) c → is_at_limit machine terms b p ≡ false → (g : ℕ) (k : ℕ × Mode) → g ≢ p
            → wanted c g ≡ Some k → (g < many) × (stands_before c p g ≡ true) × (stands_before c g p ≡ false)
        comes_behind c x limit_not g k other stored =
            let was : wanted b g ≡ Some k =
            sym (ap (λ o. unwrap_or o None) (set_there b.wants p g None other))
            ∙ sym (ap (λ (ws : List (Option (ℕ × Mode))). unwrap_or (slice_get ws g) None) x.wants) ∙ stored in
            let waits = fine.closing.wants g k was in
            let ahead = ahead_of waits.0 waits.1.0 (leads.1 g waits.0 other) in
            let is_so =
            λ (y z : ℕ). ap₂ (λ (ss : List (List Entry)) f. nat_lt ((y + length ss - f) % length ss) ((z + length ss - f) % length ss)) x.streams
            (x.favoured limit_not) ∙ before_is b (size_of b fine) y z in
            (waits.0, is_so p g ∙ ahead, is_so g p ∙ not_before (rank_of p) (rank_of g) ahead)
          where
            ahead_of : g < many → Count b g < terms.limit → (Count b g ≡ terms.limit) ⊎ (nat_lt (rank_of p) (rank_of g) ≡ true)
                → nat_lt (rank_of p) (rank_of g) ≡ true
            ahead_of l low (inl limit) = absurd (omega (arith, low, limit))
            ahead_of l low (inr before) = before

        carries : (c : Board S) → Begun p (with_favoured r b) c
            → ((n : ℕ × Mode) → want machine.flat b.at p ≡ Some n → (g : ℕ) → g < many → g ≢ p → conflict (held b.at.holders n.0 g) (Some n.1) ≡ false)
            → is_due machine terms p b ≡ false
            → Carry machine terms many terms.pages Good faithful plain p p_inside c
        carries c x free due = (
          λ n wants g l apart. ap (λ (s : Replay S). conflict (held s.holders n.0 g) (Some n.1)) x.at
              ∙ free n (subst (λ (s : Replay S). want machine.flat s p ≡ Some n) x.at wants) g l apart,
          ap₂ (λ (s : Replay S) (ss : List (List Entry)). nat_lt (machine.flat.count s.flat p) terms.limit &&
              ((machine.flat.count s.flat p % poll_distance == 0) && not (has_poll (unwrap_or (slice_get ss p) []) (machine.flat.count s.flat p)))) x.at
              x.streams ∙ due,
        )

        found : (c : Board S) → Begun p (with_favoured r b) c → (order : Order) (e : Board S) → p < length e.orders
            → Ending machine terms many terms.pages Good faithful plain p p_inside c order e
            → Found b (with_rows p 0 (items_made p 0 (with_favoured r b) e) (with_favoured r b) (with_order p order e))
        found c x order e l (inl closed) = inl closed
        found c x order e l (inr (inl more)) = inr (inl (subst (λ (s : Replay S). machine.flat.count s.flat p < machine.flat.count e.at.flat p) x.at more))
        found c x Rest e l (inr (inr result)) = absurd result
        found c x (Go until) e l (inr (inr result)) =
            inr (inr (inl (
              until,
              ap (λ o. unwrap_or o None) (set_here e.orders p (Some (Go until)) l),
              result.1,
              result.0.0,
              result.0.1,
              result.0.2,
              result.0.3,
            )))
        found c x (Hold page g) e l (inr (inr result)) =
            inr (inr (inr (
              result.0,
              result.1,
              λ free due. let f = result.2 (carries c x free due) in (
                λ held_first. f.0 (first_stays b c (machine.flat.need b.at.flat p) (machine.flat.need c.at.flat p)
                    (λ q. ap (λ (s : Replay S). held s.holders q p) x.at) (ap (λ (s : Replay S). first_of (machine.flat.need s.flat p)) x.at) held_first),
                first_stays e (with_rows p 0 (items_made p 0 (with_favoured r b) e) (with_favoured r b) (with_order p (Hold page g) e))
                    (machine.flat.need e.at.flat p) (machine.flat.need e.at.flat p) (λ q. refl) refl f.1,
              ),
            )))

    -- no Poll is due where that of the count is made
    not_due : (b : Board S) → IsPolled (stream b p) (Count b p) → is_due machine terms p b ≡ false
    not_due b polled = by (eqb_tells (Count b p % poll_distance) 0) where
      by : (((Count b p % poll_distance == 0) ≡ true) × (Count b p % poll_distance ≡ 0))
          ⊎ (((Count b p % poll_distance == 0) ≡ false) × (Count b p % poll_distance ≢ 0))
          → is_due machine terms p b ≡ false
      by (inl (t, e)) = ap₂ (λ x y. nat_lt (Count b p) terms.limit && (x && not y)) t (polled e) ∙ no_and (nat_lt (Count b p) terms.limit)
      by (inr (f, e)) = ap (λ x. nat_lt (Count b p) terms.limit && (x && not (has_poll (stream b p) (Count b p)))) f ∙ no_and (nat_lt (Count b p) terms.limit)

    abbrev pub Nobody : ℕ → Type 0
    Nobody g = ⊥

    abbrev pub Everybody : ℕ → Type 0
    Everybody g = Unit {0}

    stored_at : (level : ℕ) (d : Board S) → Fine d → ((n : ℕ × Mode) × (wanted d p ≡ Some n)) → (Count d p < terms.limit → IsPolled (stream d p) (Count d p))
        → Level level d → Stands level Nobody d
    stored_at level d fine asked polled so_far =
        let low = (fine.closing.wants p asked.0 asked.1).1.0 in
        inr (record { asked = asked; low = low; polled = polled low; so_far = so_far; clear = λ n g is l apart never. absurd never })

    -- its turn in the first sweep
    pub first_turn : (b d : Board S) → Fine b → b.closed ≡ None → Leads b → turn machine terms p 0 (with_favoured r b) ≡ Some d → (is_some d.closed ≡ true)
        ⊎ ((Count b p < Count d p) ⊎ Stands 0 Nobody d)
    first_turn b d fine unclosed leads is = by (finds b d fine unclosed leads is) where
      fine_d : Fine d
      fine_d = fine_turn p 0 (with_favoured r b) d p_inside (fine_favoured r b fine) (no_moves p (with_favoured r b)) (λ _. refl) is

      by : Found b d → (is_some d.closed ≡ true) ⊎ ((Count b p < Count d p) ⊎ Stands 0 Nobody d)
      by (inl closed) = inl closed
      by (inr (inl more)) = inr (inl more)
      by (inr (inr (inl ready))) = inr (inr (inl ready))
      by (inr (inr (inr (asked, polled, f)))) = inr (inr (stored_at 0 d fine_d asked polled tt))

    -- and in a further one, where nobody holds in conflict what it wants
    pub next_turn : (level : ℕ) (b d : Board S) → level < 2 → Fine b → b.closed ≡ None → Leads b → Stands level Everybody b
        → turn machine terms p 0 (with_favoured r b) ≡ Some d → (is_some d.closed ≡ true) ⊎ ((Count b p < Count d p) ⊎ Stands (suc level) Nobody d)
    next_turn level b d small fine unclosed leads stands is = by stands (finds b d fine unclosed leads is) where
      fine_d : Fine d
      fine_d = fine_turn p 0 (with_favoured r b) d p_inside (fine_favoured r b fine) (no_moves p (with_favoured r b)) (λ _. refl) is

      first_of_none : (ns : List (ℕ × Mode)) → find (λ n. nat_lt (strength (held b.at.holders n.0 p)) (strength (Some n.1))) ns ≡ None
          → First machine terms many terms.pages Good faithful plain p p_inside b ns
      first_of_none [] e = tt
      first_of_none (n ∷ ns) e =
          so_is (strength (Some n.1)) (strength (held b.at.holders n.0 p))
          (first_not_lacking (λ n. nat_lt (strength (held b.at.holders n.0 p)) (strength (Some n.1))) n ns e)

      levelled : (k : ℕ) → k < 2 → Stored k Everybody b → (FirstHeldB b → ⊥) → FirstHeldB d → Level (suc k) d
      levelled zero l s none so = so
      levelled (suc zero) l s none so = none s.so_far
      levelled (suc (suc k)) l s none so = absurd (omega (arith, l))

      by : Stands level Everybody b → Found b d → (is_some d.closed ≡ true) ⊎ ((Count b p < Count d p) ⊎ Stands (suc level) Nobody d)
      by stands (inl closed) = inl closed
      by stands (inr (inl more)) = inr (inl more)
      by stands (inr (inr (inl ready))) = inr (inr (inl ready))
      by (inl (until, told, less, none, off, low, polled)) (inr (inr (inr (asked, polled', f)))) =
          absurd ((f (λ n wants. absurd (none-some n (sym none ∙ wants))) (not_due b polled)).0 (first_of_none (machine.flat.need b.at.flat p) none))
      by (inr s) (inr (inr (inr (asked, polled', f)))) =
          let lean = (fine.reached.lean stay).stored p s.asked.0 s.asked.1 in
          let free =
          λ (n : ℕ × Mode) (wants : want machine.flat b.at p ≡ Some n) (g : ℕ) (l : g < many) (apart : g ≢ p). s.clear n g
          (s.asked.1 ∙ sym lean.1 ∙ wants) l apart tt in
          let x = f free (not_due b s.polled) in
          inr (inr (stored_at (suc level) d fine_d asked polled' (levelled level small s x.0 x.1)))

    -- where it stands at the end, it has a way ahead
    pub at_last : (R : ℕ → Type 0) (b : Board S) → Stands 2 R b → Ready b
    at_last R b (inl ready) = ready
    at_last R b (inr s) = absurd s.so_far
