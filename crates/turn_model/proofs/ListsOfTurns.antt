-- Recordings by lists of turns.
use Rattle.std.proofs.Common.{◌≡◌, ℕ, zero, suc, ◌<◌, ◌≤◌, ◌==◌, ◌||◌, Bool, true, false, List, [], ◌∷◌, ◌++◌, length, map, min, Option, Some, None, is_some}
use Rattle.std.proofs.Common.{unwrap_or, inl, inr, refl, ap, ◌∙◌, subst, arith, if◌then◌else◌}
use Rattle.std.specs.List.{list_all}
use Rattle.std.specs.Option.{option_and_then}
use Rattle.std.proofs.Math.Nat.{sub-add-min_cancel}
use Rattle.std.proofs.lemmas.Bool.{eqb-true, or_parts}
use Rattle.std.proofs.lemmas.Option.{same_Some}
use Rattle.shared_types.proofs.Lists.{bound_to, is_nothing, mapped}
use Rattle.rv_words.specs.declared.shared.Cause.{Cause}
use Rattle.rv_words.specs.declared.shared.Cause.TheVariants.{Cut}
use Rattle.orders_law.specs.Orders.{below}
use Rattle.replay_model.specs.State.{Replay}
use Rattle.replay_model.specs.Outcome.{cause_agrees}
use Rattle.turn_model.specs.Recordable.{Recordable}
use Rattle.turn_model.specs.Board.{Board, Terms, Supply, harts, closes, is_at_limit, is_over, log_of}
use Rattle.turn_model.specs.Turn.{turn}
use Rattle.turn_model.specs.Lists.{RecordingEnd, whole_leg, listed, comes_to, closed_after, recorded_by_list}
use Rattle.turn_model.specs.Faithful.{IsFaithful, AccessesSend}
use Rattle.turn_model.specs.Laws.{OfHarts}
use Rattle.turn_model.proofs.Ways.{recording_of}
use Rattle.turn_model.proofs.Turns.{CanMove}
use Rattle.turn_model.proofs.Entries.{after_runs}
use Rattle.turn_model.proofs.Closure.{ClosedSo}
use Rattle.turn_model.proofs.Boards.{Closes, IsDone, begin, can_leg, no_leg, IsReached, reached_sound, reached_begin, reached_aside, reached_turn, closing_turn}
use Rattle.turn_model.proofs.Boards.{closing_begin, done_turn, shut_turn}
use Rattle.turn_model.proofs.EndCauses.{each_passes, agrees, cut_agrees}

of_harts_more : (n : ℕ) (xs : List ℕ) (h : ℕ) → OfHarts n (map (λ (g : ℕ). (g, 0)) xs) → h < n → OfHarts n (map (λ (g : ℕ). (g, 0)) (xs ++ h ∷ []))
of_harts_more n [] h all l = (l, tt)
of_harts_more n (x ∷ xs) h all l = (all.0, of_harts_more n xs h all.1 l)

all_below : (n k : ℕ) → k ≤ n → OfHarts n (map (λ (g : ℕ). (g, 0)) (below k))
all_below n zero l = tt
all_below n (suc k) l = of_harts_more n (below k) k (all_below n k (omega (arith, l))) (omega (arith, l))

min_least : (a b i : ℕ) → i < min a b → i < b
min_least a b i l = let e = sub-add-min_cancel a b in omega (arith, l, e)

min_none : (a b : ℕ) → b ≡ 0 → min a b ≡ 0
min_none a b z = let e = sub-add-min_cancel a b in omega (arith, e, z)

min_of_none : (b : ℕ) → min 0 b ≡ 0
min_of_none b = let e = sub-add-min_cancel 0 b in omega (arith, e)

module _ {S V : Type 0} (machine : Recordable S V) (terms : Terms) (many : ℕ) (Good : S → Type 0) (faithful : IsFaithful machine.flat many terms.pages Good)
    (first : S) (supply : Supply) (good : Good first) (unmoved : (h : ℕ) → machine.flat.count first h ≡ 0) (sends : AccessesSend machine) where
  abbrev pub Reached : Board S → Type 0
  Reached b = IsReached machine terms many Good faithful first supply good unmoved b

  abbrev pub Closing : Board S → Type 0
  Closing b = Closes machine terms many Good faithful b

  abbrev pub Done : Board S → Type 0
  Done b = IsDone machine terms many Good faithful b

  abbrev pub Agrees : Board S → Type 0
  Agrees d = cause_agrees machine.flat (log_of machine terms d) d.at.flat ≡ true

  abbrev Moves : ℕ → ℕ → Board S → Type 0
  Moves h n b = CanMove machine terms many terms.pages Good faithful h n (recording_of b)

  -- nothing was stopped or sent, and no time was told
  abbrev pub IsFresh : S → Type 0
  IsFresh s = (machine.flat.is_stopped s ≡ false) × (machine.flat.sent s ≡ []) × (machine.flat.time s ≡ 0)

  -- what each turn of a list keeps
  listed_keeps : (P : Board S → Type 0)
      → ((h most : ℕ) (b c : Board S) → h < many → P b → turn machine terms h (min most (whole_leg machine terms h b)) b ≡ Some c → P c)
      → (list : List (ℕ × ℕ)) (b c : Board S) → OfHarts many list → P b → listed machine terms list b ≡ Some c → P c
  listed_keeps P turns [] b c of p is = subst P (same_Some _ _ is) p
  listed_keeps P turns (row ∷ list) b c of p is =
      let m = bound_to (listed machine terms list) (turn machine terms row.0 (min row.1 (whole_leg machine terms row.0 b)) b) c is in
      listed_keeps P turns list m.0 c of.1 (turns row.0 row.1 b m.0 of.0 p m.1) m.2

  can_move : (h most : ℕ) (b : Board S) → h < many → Reached b → Moves h (min most (whole_leg machine terms h b)) b
  can_move h most b inside reached i less = can_leg machine terms many Good faithful h b inside reached.orders i
      (min_least most (whole_leg machine terms h b) i less)

  one_turn : (h most : ℕ) (b c : Board S) → h < many → Reached b × Closing b → turn machine terms h (min most (whole_leg machine terms h b)) b ≡ Some c
      → Reached c × Closing c
  one_turn h most b c inside p is =
      let n = min most (whole_leg machine terms h b) in
      let can = can_move h most b inside p.0 in (
        reached_turn machine terms many Good faithful first supply good unmoved sends h n b c inside p.0 can is,
        closing_turn machine terms many Good faithful first supply good unmoved h n b c inside p.0 can
            (λ none. min_none most (whole_leg machine terms h b) (no_leg machine terms many Good faithful h b none)) is p.1,
      )

  -- behind a board that is over
  over_turn : (h most : ℕ) (b c : Board S) → h < many → Reached b × Closing b × Done b
      → turn machine terms h (min most (whole_leg machine terms h b)) b ≡ Some c → Reached c × Closing c × Done c
  over_turn h most b c inside p is =
      let one = one_turn h most b c inside (p.0, p.1) is in (
        one.0,
        one.1,
        done_turn machine terms many Good faithful first supply good unmoved h (min most (whole_leg machine terms h b)) b c inside p.0
            (can_move h most b inside p.0) is p.2,
      )

  pub is_done : (b : Board S) → Reached b → is_over machine terms b ≡ true → Done b
  is_done b reached over = by b.closed refl over where
    by : (o : Option Cause) → b.closed ≡ o → (is_some o || list_all (is_at_limit machine terms b) (harts b)) ≡ true → Done b
    by (Some cause) is e = inl (cause, is)
    by None is e =
        let size = (reached_sound machine terms many Good faithful first supply good unmoved b reached).ordered.tidy.streams in
        inr (λ g l. eqb-true (machine.flat.count b.at.flat g) terms.limit
        (each_passes (is_at_limit machine terms b) (length b.streams) e g (omega (arith, l, size))))

  -- a board that is cut: turns without moves leave the flat state
  abbrev CutAt : Replay S → Board S → Type 0
  CutAt s b = Reached b × (b.closed ≡ Some Cut) × (b.at ≡ s)

  cut_turns : (s : Replay S) (hs : List ℕ) (b c : Board S) → OfHarts many (map (λ (h : ℕ). (h, 0)) hs) → CutAt s b
      → listed machine terms (map (λ (h : ℕ). (h, 0)) hs) b ≡ Some c → CutAt s c
  cut_turns s [] b c of p is = subst (CutAt s) (same_Some _ _ is) p
  cut_turns s (h ∷ hs) b c of p is =
      let n = min 0 (whole_leg machine terms h b) in
      let m = bound_to (listed machine terms (map (λ (g : ℕ). (g, 0)) hs)) (turn machine terms h n b) c is in
      let sound = reached_sound machine terms many Good faithful first supply good unmoved b p.0 in
      let can = can_move h 0 b of.0 p.0 in
      let shut = shut_turn machine terms many Good faithful h of.0 Cut (λ t. t ≡ s) n b m.0 sound can m.1 p.1
      (λ d x. (after_runs machine terms many terms.pages Good faithful h n b.at d.at sound.ordered.tidy.good x.ran).none
      (min_of_none (whole_leg machine terms h b)) ∙ p.2) in
      cut_turns s hs m.0 c of.1 (reached_turn machine terms many Good faithful first supply good unmoved sends h n b m.0 of.0 p.0 can m.1, shut.0, shut.1) m.2

  closed_agrees : (b c : Board S) → Reached b → Closing b → closed_after machine terms b ≡ Some c → Reached c × Agrees c
  closed_agrees b c reached closing is = by (is_over machine terms b) refl is where
    of : OfHarts many (map (λ (h : ℕ). (h, 0)) (harts b))
    of = let l = (reached_sound machine terms many Good faithful first supply good unmoved b reached).ordered.tidy.streams in
        all_below many (length b.streams) (omega (arith, l))

    by : (x : Bool) → is_over machine terms b ≡ x → listed machine terms (map (λ (h : ℕ). (h, 0)) (harts b)) (if x then b else closes Cut b) ≡ Some c
        → Reached c × Agrees c
    by true over is =
        let p = listed_keeps (λ d. Reached d × Closing d × Done d) over_turn (map (λ (h : ℕ). (h, 0)) (harts b)) b c of
        (reached, closing, is_done b reached over) is in
        (p.0, agrees machine terms many Good faithful c (reached_sound machine terms many Good faithful first supply good unmoved c p.0) p.1 p.2)
    by false short is =
        let both = or_parts (is_some b.closed) (list_all (is_at_limit machine terms b) (harts b)) short in
        let none = is_nothing b.closed both.0 in
        let cut_board = closes Cut b in
        let reached' = reached_aside machine terms many Good faithful first supply good unmoved b cut_board reached refl refl refl refl refl
        (λ g l order e. reached.orders g l order e) in
        let p = cut_turns b.at (harts b) cut_board c of (reached', ap (λ o. Some (unwrap_or o Cut)) none, refl) is in
        let size = (reached_sound machine terms many Good faithful first supply good unmoved b reached).ordered.tidy.streams in (
          p.0,
          cut_agrees machine terms many Good faithful c (reached_sound machine terms many Good faithful first supply good unmoved c p.0) p.1
              (ap (λ (s : Replay S). machine.flat.is_stopped s.flat) p.2 ∙ running none closing.closed)
              (ap (λ (s : Replay S). list_all (λ h. machine.flat.count s.flat h == terms.limit) (below many)) p.2
              ∙ subst (λ n. list_all (is_at_limit machine terms b) (below n) ≡ false) size both.1),
        )
      where
        running : b.closed ≡ None → ClosedSo machine terms many terms.pages Good faithful b b.closed → machine.flat.is_stopped b.at.flat ≡ false
        running none so = subst (ClosedSo machine terms many terms.pages Good faithful b) none so

  pub recorded : IsFresh first → (list : List (ℕ × ℕ)) (r : RecordingEnd S) → OfHarts many list
      → recorded_by_list machine terms list (begin machine terms many Good faithful first supply good unmoved) ≡ Some r
      → (d : Board S) × Reached d × Agrees d × (comes_to machine terms d ≡ r)
  recorded fresh list r of is =
      let b = begin machine terms many Good faithful first supply good unmoved in
      let d = mapped (comes_to machine terms) (option_and_then (closed_after machine terms) (listed machine terms list b)) r is in
      let c = bound_to (closed_after machine terms) (listed machine terms list b) d.0 d.1 in
      let p = listed_keeps (λ x. Reached x × Closing x) one_turn list b c.0 of (
        reached_begin machine terms many Good faithful first supply good unmoved fresh.1 fresh.2,
        closing_begin machine terms many Good faithful first supply good unmoved fresh.0,
      ) c.1 in
      let q = closed_agrees c.0 d.0 p.0 p.1 c.2 in
      (d.0, q.0, q.1, d.2)
