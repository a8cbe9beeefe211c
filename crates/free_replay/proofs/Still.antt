-- Harts that can't go on.
use Rattle.std.proofs.Common.{◌≡◌, ◌≢◌, inl, inr, ℕ, ◌<◌, ◌==◌, ◌&&◌, Bool, true, false, List, length, slice_set, slice_index, refl, sym, ap, ap₂, not}
use Rattle.std.proofs.Common.{Option, Some, None, if◌then◌else◌}
use Rattle.std.proofs.Common.{◌∙◌, subst, arith, true≢false}
use Rattle.std.proofs.lemmas.Bool.{and_parts, eqb-true}
use Rattle.std.proofs.lemmas.List.{get_or-set_same, set-get_or}
use Rattle.log_entry.specs.declared.log.Log.{Log}
use Rattle.log_entry.specs.Parts.{unit_of}
use Rattle.order_rules.specs.Places.{entry_at}
use Rattle.order_rules.specs.Cursor.{guard_is_met}
use Rattle.flat_machine.specs.State.{FlatState}
use Rattle.replay_model.specs.Board.{board}
use Rattle.replay_model.specs.State.{Replay}
use Rattle.replay_model.specs.Items as items
use Rattle.replay_model.specs.Items.{Item, Move, Makes, Verdict, HasEnded, Holds, CanGo, HasDiverged, broken_rule, item_at, judged, next_item, verdict}
use Rattle.replay_model.specs.Items.{verdict_on}
use Rattle.replay_parts.specs.Boards.{Plain, state_of}
use Rattle.replay_parts.specs.Laws.{Reaches}
use Rattle.replay_parts.specs.Parts.{Part, until_in}
use Rattle.replay_parts.specs.Turns.{IsTurn, Told, told_of}
use Rattle.replay_parts.specs.Turns as turns
use Rattle.replay_parts.proofs.Turned.{parts_stay, reached_goes, turns_reach}
use Rattle.replay_parts.proofs.Within.{states_are}
use Rattle.replay_core.specs.declared.went.Pace.{Pace}
use Rattle.replay_core.specs.declared.went.Pace.TheVariants as paces
use Rattle.run_model.specs.Run.{Run, number_of}
use Rattle.replay_core.specs.Turns.{HasTurn, IsPartMoved, told}
use Rattle.free_replay.specs.ReplayTurns.{AreStill, HaveEnded, StayMarked, IsMarkedAs, ends_by, goes_by}

not_true : (b : Bool) → not b ≡ true → b ≡ false
not_true true e = absurd (true≢false (sym e))
not_true false e = refl

pub not_false : (b : Bool) → not b ≡ false → b ≡ true
not_false true e = refl
not_false false e = absurd (true≢false e)

can_go_goes : (until : ℕ) (v : Verdict) (pace : Pace) → told pace ≡ told_of until v → goes_by pace ≡ false → v ≢ CanGo
can_go_goes until v (paces.Go to) is no_go can = true≢false no_go
can_go_goes until v paces.Hold is no_go can = let e = is ∙ ap (told_of until) can in let bad : ⊥ = cc in bad
can_go_goes until v (paces.Diverged rule) is no_go can = let e = is ∙ ap (told_of until) can in let bad : ⊥ = cc in bad
can_go_goes until v paces.Ended is no_go can = let e = is ∙ ap (told_of until) can in let bad : ⊥ = cc in bad

-- a number that was set to what it was
kept : (xs ys : List ℕ) (h k : ℕ) → h < length xs → ys ≡ slice_set xs h k → slice_index ys h ≡ slice_index xs h → ys ≡ xs
kept xs ys h k less is same =
    let own : k ≡ slice_index xs h = sym (get_or-set_same xs h k 0 less) ∙ ap (λ zs. slice_index zs h) (sym is) ∙ same in
    is ∙ ap (slice_set xs h) own ∙ set-get_or xs h 0

-- behind a turn that left its hart's place and count, the board is the same
module _ (p q : Plain) (s : Replay FlatState) (h n : ℕ) (t : Told) (reaches : Reaches p s) (inside : h < length p.log.streams) (turn : IsTurn p q h n t) where
  place_inside : h < length p.places
  place_inside =
      let many = (reached_goes p s reaches).places in
      let same = ap length reaches.places in
      omega (arith, inside, many, same)

  count_inside : h < length p.counts
  count_inside =
      let sized = (reached_goes p s reaches).good.sound.sized in
      let size = sized.counts_size ∙ sized.harts_size in
      let same = ap length reaches.counts in
      omega (arith, inside, size, same)

  pub same_board : slice_index q.places h ≡ slice_index p.places h → slice_index q.counts h ≡ slice_index p.counts h → q ≡ p
  same_board place count =
      let places = kept p.places q.places h (slice_index turn.at.cursor.places h) place_inside (ap (λ (z : Plain). z.places) turn.committed_is) place in
      let counts = kept p.counts q.counts h (slice_index turn.at.flat.counts h) count_inside (ap (λ (z : Plain). z.counts) turn.committed_is) count in
      turn.committed_is
      ∙ ap₂ (λ is cs. record p { places = is; counts = cs }) (sym (ap (λ (z : Plain). z.places) turn.committed_is) ∙ places)
      (sym (ap (λ (z : Plain). z.counts) turn.committed_is) ∙ counts)

-- ---- a hart that has ended

abbrev is_ended : Verdict → Bool
is_ended HasEnded = true
is_ended v = false

not_ended : (u : ℕ) (o : Option ℕ) → judged (board u) o ≡ HasEnded → ⊥
not_ended u None e = true≢false (sym (ap is_ended e))
not_ended u (Some rule) e = true≢false (sym (ap is_ended e))

made_not_ended : (u : ℕ) (b : Bool) (o : Option ℕ) → (if b then judged (board u) o else Holds) ≡ HasEnded → ⊥
made_not_ended u true o e = not_ended u o e
made_not_ended u false o e = true≢false (sym (ap is_ended e))

ended_item : (u : ℕ) (s : Replay FlatState) (h : ℕ) (item : Item) → verdict_on (board u) s h item ≡ HasEnded → item ≡ items.Ended
ended_item u s h items.Ended e = refl
ended_item u s h Move e = absurd (not_ended u (broken_rule (board u) s h Move) e)
ended_item u s h (Makes entry) e = absurd (made_not_ended u (guard_is_met s.cursor entry) (broken_rule (board u) s h (Makes entry)) e)

ends_told : (until : ℕ) (v : Verdict) (pace : Pace) → told pace ≡ told_of until v → ends_by pace ≡ true → v ≡ HasEnded
ends_told until v (paces.Go to) is e = absurd (true≢false (sym e))
ends_told until v paces.Hold is e = absurd (true≢false (sym e))
ends_told until v (paces.Diverged rule) is e = absurd (true≢false (sym e))
ends_told until v paces.Ended is e = by v is
  where
    by : (w : Verdict) → turns.Ends ≡ told_of until w → w ≡ HasEnded
    by HasEnded is = refl
    by Holds is = let bad : ⊥ = cc in absurd bad
    by CanGo is = let bad : ⊥ = cc in absurd bad
    by (HasDiverged rule) is = let bad : ⊥ = cc in absurd bad

can_not : (v : Verdict) → v ≡ HasEnded → v ≢ CanGo
can_not v e can = true≢false (ap is_ended (sym e ∙ can))

-- ---- behind a turn

module _ (p q : Plain) (s : Replay FlatState) (h n : ℕ) (pace : Pace) (reaches : Reaches p s) (inside : h < length p.log.streams)
    (turn : IsTurn p q h n (told pace)) where
  same_log : q.log ≡ p.log
  same_log = ap (λ (z : Plain). z.log) turn.committed_is

  -- the verdict of its hart
  own_verdict : (P : Verdict → Type 0) → P (verdict (board (unit_of p.log)) p.log turn.at h) → P (verdict (board (unit_of q.log)) q.log (state_of q) h)
  own_verdict P is =
      subst (λ l. P (verdict (board (unit_of l)) l (state_of q) h)) (sym same_log)
      (subst (λ z. P (verdict (board (unit_of p.log)) p.log z h)) (sym (states_are q turn.at (turns_reach p q s h n (told pace) reaches inside turn))) is)

  -- another that had ended has
  still_ended : (g : ℕ) → g < length p.log.streams → g ≢ h → verdict (board (unit_of p.log)) p.log (state_of p) g ≡ HasEnded
      → verdict (board (unit_of q.log)) q.log (state_of q) g ≡ HasEnded
  still_ended g there other ended =
      let part = parts_stay p q s h g n (told pace) reaches inside turn there other in
      let count : slice_index (state_of q).flat.counts g ≡ slice_index (state_of p).flat.counts g = ap (λ (x : Part). x.count) part in
      let place : slice_index (state_of q).cursor.places g ≡ slice_index (state_of p).cursor.places g = ap (λ (x : Part). x.place) part in
      let was = ended_item (unit_of p.log) (state_of p) g (next_item (board (unit_of p.log)) p.log (state_of p) g) ended in
      let is : next_item (board (unit_of q.log)) q.log (state_of q) g ≡ items.Ended =
      ap₂ (λ c i. item_at c (entry_at q.log g i)) count place
      ∙ ap (λ l. item_at (slice_index (state_of p).flat.counts g) (entry_at l g (slice_index (state_of p).cursor.places g))) same_log
      ∙ was in
      ap (verdict_on (board (unit_of q.log)) (state_of q) g) is

  inside_before : (g : ℕ) → g < length q.log.streams → g < length p.log.streams
  inside_before g there = let e = ap (λ (l : Log). length l.streams) same_log in omega (arith, there, e)

  -- who is marked to have ended
  pub ended_behind : (old new : List Bool) → HaveEnded p old → IsMarkedAs h (ends_by pace) old new → HaveEnded q new
  ended_behind old new before marked g there set = elim (marked g set) [
    | inl own ↦
        subst (λ k. verdict (board (unit_of q.log)) q.log (state_of q) k ≡ HasEnded) (sym own.0)
        (own_verdict (λ v. v ≡ HasEnded)
        (ends_told (until_in p.log turn.at h) (verdict (board (unit_of p.log)) p.log turn.at h) pace turn.told_is own.1))
    | inr other ↦ still_ended g (inside_before g there) other.0 (before g (inside_before g there) other.1)
  ]

  -- who is marked can't go on
  pub still_behind : (same : Bool) (ended old mid new : List Bool) (mark : Bool) → mark ≡ not (goes_by pace) → HaveEnded p ended → AreStill p old
      → (same ≡ true → q ≡ p) → StayMarked same ended old mid → IsMarkedAs h mark mid new → AreStill q new
  still_behind same ended old mid new mark is_mark have before is_same stay marked g there set = elim (marked g set) [
    | inl own ↦
        subst (λ k. verdict (board (unit_of q.log)) q.log (state_of q) k ≢ CanGo) (sym own.0)
        (own_verdict (λ v. v ≢ CanGo)
        (can_go_goes (until_in p.log turn.at h) (verdict (board (unit_of p.log)) p.log turn.at h) pace turn.told_is
        (not_true (goes_by pace) (sym is_mark ∙ own.1))))
    | inr other ↦ elim (stay g other.1) [
      | inl one ↦
          let e = is_same one.0 in
          subst (λ z. verdict (board (unit_of z.log)) z.log (state_of z) g ≢ CanGo) (sym e) (before g (inside_before g there) one.1)
      | inr one ↦
          can_not (verdict (board (unit_of q.log)) q.log (state_of q) g)
          (still_ended g (inside_before g there) other.0 (have g (inside_before g there) one))
    ]
  ]

-- ---- the turn of a run's hart

module _ (p q : Plain) (r after : Run) (h : ℕ) (pace : Pace) (s : Replay FlatState) (reaches : Reaches p s) (moved : IsPartMoved p r)
    (number : h ≡ number_of r) (own : number_of r < length p.log.streams) (had : HasTurn p q r after (told pace)) where
  turn : IsTurn p q h moved.0 (told pace)
  turn = subst (λ k. IsTurn p q k moved.0 (told pace)) (sym number) (had moved.0 moved.1).0

  inside : h < length p.log.streams
  inside = omega (arith, own, number)

  pub inside_behind : h < length q.log.streams
  inside_behind = let e = ap (λ (z : Plain). length z.log.streams) turn.committed_is in let l = inside in omega (arith, l, e)

  pub same_behind : (same : Bool) (place place' count count' : ℕ) → same ≡ ((place' == place) && (count' == count)) → place ≡ slice_index p.places h
      → place' ≡ slice_index q.places h → count ≡ slice_index p.counts h → count' ≡ slice_index q.counts h → same ≡ true → q ≡ p
  same_behind same place place' count count' is place_was place_is count_was count_is e =
      let both = and_parts (place' == place) (count' == count) (sym is ∙ e) in
      same_board p q s h moved.0 (told pace) reaches inside turn (sym place_is ∙ eqb-true place' place both.0 ∙ place_was)
      (sym count_is ∙ eqb-true count' count both.1 ∙ count_was)

  pub marks_behind : (same : Bool) (place place' count count' : ℕ) (ended old mid new over : List Bool) (mark : Bool)
      → same ≡ ((place' == place) && (count' == count)) → place ≡ slice_index p.places h → place' ≡ slice_index q.places h
      → count ≡ slice_index p.counts h → count' ≡ slice_index q.counts h → mark ≡ not (goes_by pace) → AreStill p old
      → HaveEnded p ended → StayMarked same ended old mid → IsMarkedAs h mark mid new → IsMarkedAs h (ends_by pace) ended over
      → AreStill q new × HaveEnded q over
  marks_behind same place place' count count' ended old mid new over mark is place_was place_is count_was count_is is_mark still have stay marked closed =
      let board_stays = same_behind same place place' count count' is place_was place_is count_was count_is in (
        still_behind p q s h moved.0 pace reaches inside turn same ended old mid new mark is_mark have still board_stays stay marked,
        ended_behind p q s h moved.0 pace reaches inside turn ended over have closed,
      )
