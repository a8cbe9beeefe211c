-- Runs that have made moves since their turns, behind other harts' turns.
use Rattle.std.proofs.Common.{◌≡◌, ◌⊎◌, inl, inr, ℕ, zero, suc, ◌+◌, ◌-◌, ◌*◌, ◌<◌, ◌≢◌, ◌≤◌, min, List, length, Option, Some, slice_index}
use Rattle.std.proofs.Common.{refl, sym, ap, ap₂, ◌∙◌, subst, append-nil, arith}
use Rattle.std.specs.Option.{option_map, option_and_then}
use Rattle.std.proofs.lemmas.Option.{none-some, same_Some, get_or_from_slice_get}
use Rattle.shared_types.proofs.Lists.{bound_to}
use Rattle.rv_words.specs.Limits.{page_bytes}
use Rattle.elf_image.specs.Image.{IsWhole}
use Rattle.flat_machine.specs.State.{FlatState, flat_at_start}
use Rattle.flat_machine.specs.declared.results.Step.{Step}
use Rattle.replay_model.specs.State.{Replay}
use Rattle.replay_model.specs.Items.{Move, Verdict, CanGo, HasEnded, Holds, HasDiverged, goes, told_of, verdict_on, made}
use Rattle.replay_model.proofs.ActsOfOrders.{went}
use Rattle.run_model.specs.Run.{Run, IsOneRun}
use Rattle.run_model.specs.Agreement.{Agrees}
use Rattle.run_model.specs.Legs.{Runs, KeepsPages, MakesLeg}
use Rattle.run_model.specs.declared.asked.Pause.{Pause}
use Rattle.turn_model.specs.Board.{Board, Order, Go, Hold, Rest, Supply, Terms, stream}
use Rattle.turn_model.specs.Steps.{runs, next_poll}
use Rattle.turn_model.specs.Lists.{leg, leg_by, whole_leg}
use Rattle.turn_model.specs.Laws.{IsPagedBoard}
use Rattle.turn_laws.specs.Laws.{AgreesIn, IsSameTo}
use Rattle.turn_laws.specs.Reached.{Reached, Turned}
use Rattle.turn_laws.specs.Supplies.{followed_by}
use Rattle.turn_laws.proofs.Legs.{reached_are_crew, legs_stay, runs_stay, runs_leave, leg_is, leg_sooner}
use Rattle.turn_laws.proofs.Polls.{tidy_polls}
use Rattle.turn_laws.proofs.ReachedBoards.{reached_is, sound_of}
use Rattle.turn_laws.proofs.ReachedLists.{reached_extend}
use Rattle.crew_parts.specs.Boards.{Plain, IsReached, the_board, the_machine, board_of, spent, state_of, terms_of, told_to}
use Rattle.crew_parts.specs.Parts.{IsPart, IsPartAdvanced, Part, until_by, until_of}
use Rattle.crew_parts.specs.Turns.{HasTurn}
use Rattle.crew_parts.specs.Laws.{IsTurnOf}
use Rattle.crew_parts.proofs.Laws.{moves_are_told}
use Rattle.recorded_turns.specs.Laws.{OthersStayAdvanced, OthersStayTold, FavouredStayAdvanced, LegsAdvance, RowsAdvance, PartsAreAdvanced, TurnsLeaveParts}
use Rattle.recorded_turns.proofs.Taking.{turn_silent}
use Rattle.recorded_turns.proofs.Going.{turn_tells}
use Rattle.recorded_turns.proofs.Loops.{leg_left, terms_stay}
use Rattle.crew_parts.proofs.Turned.{first_spent, then_spent}

abbrev further : Terms → ℕ → ℕ → Option (Replay FlatState × Option (List Step)) → Option (Replay FlatState)
further terms h k = option_and_then (λ (z : Replay FlatState × Option (List Step)). runs the_machine terms h k z.0)

-- Runs, one by one and all at once
runs_of : (terms : Terms) (h k : ℕ) (s t : Replay FlatState) → Runs the_board h k s t → runs the_machine terms h k s ≡ Some t
runs_of terms h zero s t is = ap Some is
runs_of terms h (suc k) s t is =
    let m = is.1.0 in
    ap (further terms h k) (ap (goes the_board s h Move) is.0 ∙ ap (λ o. option_map (λ t. (t, told_of the_board s h Move t)) o) is.1.1)
    ∙ runs_of terms h k m t is.1.2

can_go : (s m : Replay FlatState) (h : ℕ) (v : Verdict) (w : Option (List Step)) → goes the_board s h Move v ≡ Some (m, w) → v ≡ CanGo
can_go s m h CanGo w is = refl
can_go s m h HasEnded w is = absurd (none-some _ is)
can_go s m h Holds w is = absurd (none-some _ is)
can_go s m h (HasDiverged rule) w is = absurd (none-some _ is)

of_runs : (terms : Terms) (h k : ℕ) (s t : Replay FlatState) → runs the_machine terms h k s ≡ Some t → Runs the_board h k s t
of_runs terms h zero s t is = same_Some _ _ is
of_runs terms h (suc k) s t is =
    let m =
    bound_to (λ (z : Replay FlatState × Option (List Step)). runs the_machine terms h k z.0) (goes the_board s h Move (verdict_on the_board s h Move)) t
    is in (
      can_go s m.0.0 h (verdict_on the_board s h Move) m.0.1 m.1,
      (m.0.0, went the_board s m.0.0 h Move (verdict_on the_board s h Move) m.0.1 m.1, of_runs terms h k m.0.0 t m.2),
    )

-- a run that agrees with a state of the board is on frames of its unit
unit_is : (terms : Terms) (h pages : ℕ) (x z : Run) (s at : Replay FlatState) → Agrees x h at → AgreesIn terms z h s → IsOneRun z
    → length at.holders ≡ length s.holders → length at.flat.memory ≡ length s.flat.memory → z.hart.pages ≡ pages → 1 ≤ pages → x.frames.unit ≡ page_bytes
unit_is terms h pages x z s at a b one holders memory size some = by a.unit_is where
  m : length x.frames.pages * x.frames.unit ≡ length x.frames.pages * 4096
  m =
      sym a.memory ∙ memory ∙ b.1.memory ∙ ap (λ u. length z.frames.pages * u) b.0
      ∙ ap (λ k. k * 4096) (sym b.1.table ∙ sym holders ∙ a.table)

  l : length x.frames.pages * 4096 ≡ 4096 * pages
  l =
      ap (λ k. k * 4096) (sym a.table ∙ holders ∙ b.1.table) ∙ ap (λ u. length z.frames.pages * u) (sym b.0) ∙ one.pages
      ∙ ap (λ k. 4096 * k) size

  by : (x.frames.unit ≡ 256) ⊎ ((x.frames.unit ≡ 1024) ⊎ (x.frames.unit ≡ page_bytes)) → x.frames.unit ≡ page_bytes
  by (inl e) = let w = sym (ap (λ u. length x.frames.pages * u) e) ∙ m in absurd (omega (arith, w, l, some))
  by (inr (inl e)) = let w = sym (ap (λ u. length x.frames.pages * u) e) ∙ m in absurd (omega (arith, w, l, some))
  by (inr (inr e)) = e

-- what a turn gave is given to a reached board
reached_given : (p q : Plain) (h : ℕ) (before after : Run) (order : Order) → IsReached p → (is : HasTurn p q h before after order)
    → (supply : Supply) × Reached the_machine (terms_of p) p.harts (flat_at_start p.image p.harts) supply (board_of p (followed_by is.given spent))
reached_given p q h before after order reached is = (
  followed_by reached.0 is.given,
  subst (λ o. Reached the_machine (terms_of p) p.harts (flat_at_start p.image p.harts) (followed_by reached.0 is.given) (board_of p o))
      (first_spent is.given ∙ sym (then_spent is.given))
      (reached_extend the_machine (terms_of p) p.harts (flat_at_start p.image p.harts) reached.0 is.given (board_of p spent) reached.1
      (turn_silent p q h before after order is)),
)

-- to another hart the boards are the same
same_to : (p q : Plain) (h n g : ℕ) (r after : Run) (order : Order) → IsTurnOf p h n r → (is : HasTurn p q h r after order) → g < p.harts → g ≢ h
    → IsSameTo (terms_of p) g (board_of p (followed_by is.given spent)) (board_of q spent)
same_to p q h n g r after order from is there other =
    let terms = terms_of p in
    let b = board_of p (followed_by is.given spent) in
    let reached = reached_given p q h r after order from.reached is in
    let told = moves_are_told p h n r from in
    let moves : is.moves ≡ n = (let m = is.moved in let t = told.0 in omega (arith, m, t)) in
    let most : is.moves ≤ whole_leg the_machine terms h b = (let t = told.1 (followed_by is.given spent) in omega (arith, t, moves)) in
    legs_stay terms p.image p.harts reached.0 from.whole refl h is.moves g b (board_of q spent) reached.1 from.hart most
    (is.turned spent (λ _. (refl, refl))) there other

pub others_stay_told : OthersStayTold
others_stay_told p q h n g r after order from is there other = (same_to p q h n g r after order from is there other).same_order

pub others_stay_advanced : OthersStayAdvanced
others_stay_advanced p q h n g k r after x order from is there other advanced =
    let terms = terms_of p in
    let b = board_of p (followed_by is.given spent) in
    let d = board_of q spent in
    let reached = reached_given p q h r after order from.reached is in
    let told = moves_are_told p h n r from in
    let moves : is.moves ≡ n = (let m = is.moved in let t = told.0 in omega (arith, m, t)) in
    let most : is.moves ≤ whole_leg the_machine terms h b = (let t = told.1 (followed_by is.given spent) in omega (arith, t, moves)) in
    let turned = is.turned spent (λ _. (refl, refl)) in
    let same = same_to p q h n g r after order from is there other in
    let then = reached_are_crew terms p.image p.harts reached.0 from.whole refl d (Turned h is.moves b d reached.1 from.hart most turned) in
    let z = (reached_are_crew terms p.image p.harts reached.0 from.whole refl b reached.1).3 g there in
    let good = (reached_are_crew terms p.image p.harts reached.0 from.whole refl b reached.1).0 in
    let still = runs_stay terms p.image p.harts reached.0 from.whole refl h is.moves g b d z.0 reached.1 from.hart most turned other z.2 in
    let y = then.3 g there in
    let led = advanced.led in
    let unit = unit_is terms g p.image.pages x z.0 (state_of p) led.at led.agrees z.2 z.1 (ap length led.differ.holders) led.memory
    (good.pages_are g z.0.hart z.2.1.hart) from.whole.least_pages in
    let m = same.moves_agree k led.at (runs_of terms g k (state_of p) led.at led.runs) in
    let agrees : AgreesIn terms x g m.0 = m.2.each x (unit, led.agrees) in
    let leave = runs_leave terms g k y.0 (state_of q) m.0 y.1 (y.2, then.2) m.1 in (
      record {
        led = record {
          at = m.0;
          runs = of_runs terms g k (state_of q) m.0 m.1;
          differ = leave.0;
          memory =
              agrees.1.memory ∙ sym led.agrees.memory ∙ led.memory ∙ z.2.1.memory ∙ sym still.1.memory;
          agrees = agrees.1;
        };
        within = subst (λ u. x.count ≤ u) (sym (ap (λ (part : Part). part.until) (is.others g there other))) advanced.within;
      },
      ap (λ t. whole_leg the_machine t g d) (terms_stay p q is.terms) ∙ same.same_leg ∙ leg_left terms p g (followed_by is.given spent),
    )

pub favoured_stay_advanced : FavouredStayAdvanced
unfolding state_of
favoured_stay_advanced p favoured g k x advanced = record {
  led = record {
    at = advanced.led.at;
    runs = advanced.led.runs;
    differ = advanced.led.differ;
    memory = advanced.led.memory;
    agrees = advanced.led.agrees;
  };
  within = advanced.within;
}

-- a run that makes its leg up to a count, no further than the hart was told
advances : (p : Plain) (h to until : ℕ) (r new : Run) (pause : Pause) → IsWhole p.image → IsReached p → told_to p h ≡ Some (Go until) → to ≤ until
    → IsPart p h r → KeepsPages r new → MakesLeg page_bytes new pause h to (state_of p)
    → IsPartAdvanced p h (leg the_machine (terms_of p) h (to - the_board.count (state_of p).flat h) (state_of p)) new
advances p h to until r new pause whole reached told l part kept made = record {
  led = record {
    at = made.at;
    runs = subst (λ k. Runs the_board h k (state_of p) made.at)
        (leg_is (terms_of p) p.harts p.image.pages h to made.at made.leg.moves (state_of p) good made.leg.runs made.leg.within made.leg.ends).0 made.leg.runs;
    differ = made.others;
    memory =
        made.agrees.memory ∙ ap (λ k. k * new.frames.unit) kept.number ∙ ap (λ u. length r.frames.pages * u) kept.unit_is ∙ sym part.memory;
    agrees = made.agrees;
  };
  within =
      subst (λ k. k ≤ until_of p h) (get_or_from_slice_get made.at.flat.counts h new.count 0 made.agrees.count)
      (subst (λ o. the_board.count made.at.flat h ≤ until_by (slice_index p.counts h) o) (sym told) (let w = made.leg.within in omega (arith, w, l)));
} where
  good : IsPagedBoard p.harts p.image.pages (state_of p).flat
  good = (reached_are_crew (terms_of p) p.image p.harts reached.0 whole refl (board_of p spent) reached.1).0

pub legs_advance : LegsAdvance
legs_advance p h until r new pause whole reached counts told part kept made =
    subst (λ k. IsPartAdvanced p h k new) (sym (ap (leg_by the_machine (terms_of p) h (board_of p spent)) told))
    (advances p h until until r new pause whole reached told (omega arith) part kept made)

pub rows_advance : RowsAdvance
rows_advance p h until most r new pause whole reached counts told part kept made =
    subst (λ k. IsPartAdvanced p h k new) moves
    (advances p h (min until (slice_index p.counts h + most)) until r new pause whole reached told (least until (slice_index p.counts h + most)) part kept
    made)
  where
    least : (a b : ℕ) → min a b ≤ a
    least a b = omega arith

    rest : (until count most : ℕ) → min until (count + most) - count ≡ min most (until - count)
    rest until count most = omega arith

    count : slice_index p.counts h ≡ the_board.count (state_of p).flat h
    count = ap (λ ks. slice_index ks h) counts

    moves : leg the_machine (terms_of p) h (min until (slice_index p.counts h + most) - the_board.count (state_of p).flat h) (state_of p)
        ≡ min most (whole_leg the_machine (terms_of p) h (board_of p spent))
    moves =
        ap (λ n. leg the_machine (terms_of p) h n (state_of p))
        (ap (λ k. min until (k + most) - the_board.count (state_of p).flat h) count ∙ rest until (the_board.count (state_of p).flat h) most)
        ∙ leg_sooner (terms_of p) h most (until - the_board.count (state_of p).flat h) (state_of p)
        ∙ ap (min most) (sym (ap (leg_by the_machine (terms_of p) h (board_of p spent)) told))

pub parts_are_advanced : PartsAreAdvanced
parts_are_advanced p h r counts within part = record {
  led = record {
    at = state_of p;
    runs = refl;
    differ = record { harts = λ g n. refl; counts = λ g n. refl; pages = λ page n. refl; devices = refl; holders = refl; cursor = refl };
    memory = refl;
    agrees = part;
  };
  within = within;
}

-- behind its turn a hart stands no further than it may go
stands_within : (p q : Plain) (h n : ℕ) (r after : Run) (order : Order) → IsTurnOf p h n r → q.counts ≡ (state_of q).flat.counts
    → (is : HasTurn p q h r after order) → is.moves ≡ n → after.count ≤ until_of q h
stands_within p q h n r after order from counts is moves =
    subst (λ o. after.count ≤ until_by (slice_index q.counts h) o) (sym is.told) (by order is.told) where
      b : Board FlatState
      b = board_of p (followed_by is.given spent)

      own : slice_index q.counts h ≡ after.count
      own = ap (λ ks. slice_index ks h) counts ∙ get_or_from_slice_get (state_of q).flat.counts h after.count 0 is.part.count

      most : is.moves ≤ whole_leg the_machine (terms_of p) h b
      most = let t = (moves_are_told p h n r from).1 (followed_by is.given spent) in omega (arith, t, moves)

      tidy : (the_board.count (state_of q).flat h ≤ next_poll (the_board.count (state_of q).flat h) (stream (board_of q spent) h))
          × (the_board.count (state_of q).flat h ≤ p.limit)
      tidy =
          let reached = reached_given p q h r after order from.reached is in
          let d = Turned h is.moves b (board_of q spent) reached.1 from.hart most (is.turned spent (λ _. (refl, refl))) in
          let t =
          (sound_of (terms_of p) p.image p.harts reached.0 refl (board_of q spent)
          (reached_is (terms_of p) p.image p.harts reached.0 refl (board_of q spent) d)).ordered.each h from.hart in
          ((tidy_polls p.limit (stream (board_of q spent) h) (the_board.count (state_of q).flat h) t).1, t.bounded)

      by : (o : Order) → told_to q h ≡ Some o → after.count ≤ until_by (slice_index q.counts h) (Some o)
      by Rest told = omega (arith, own)
      by (Hold page g) told = omega (arith, own)
      by (Go until) told =
          let far = turn_tells the_machine (terms_of p) h is.moves until b (board_of q spent) (is.turned spent (λ _. (refl, refl))) told in
          let k = sym (ap (λ ks. slice_index ks h) counts) ∙ own in
          let low = tidy.0 in let high = tidy.1 in omega (arith, far, k, low, high)

pub turns_leave_parts : TurnsLeaveParts
turns_leave_parts p q h n r after order from counts is =
    let told = (moves_are_told p h n r from).0 in
    let moves : is.moves ≡ n = (let m = is.moved in omega (arith, m, told)) in
    (moves, parts_are_advanced q h after counts (stands_within p q h n r after order from counts is moves) is.part)
