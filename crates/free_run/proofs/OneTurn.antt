-- A leg that is made before the board is there, and the turn behind it.
use Rattle.std.proofs.Common.{◌≡◌, ◌≢◌, ℕ, ◌<◌, ◌≤◌, [], ◌∷◌, ◌++◌, map, Option, Some, slice_get, slice_index, Bool, true, refl, sym, ap, ap₂}
use Rattle.std.proofs.Common.{◌∙◌, subst, arith}
use Rattle.rv_words.specs.Limits.{page_bytes}
use Rattle.replay_model.specs.Board.{board}
use Rattle.replay_model.specs.State.{IsCrewState}
use Rattle.run_model.specs.Run.{Run}
use Rattle.run_model.specs.Legs.{KeepsPages, MakesLeg}
use Rattle.run_model.specs.declared.asked.Pause.{Pause}
use Rattle.hart_run.specs.Calls.{LegAgrees}
use Rattle.turn_model.specs.Board as model
use Rattle.turn_model.specs.Board.{Order}
use Rattle.turn_table.specs.declared.table.Pass.{Pass}
use Rattle.turn_table.specs.Passes as passes
use Rattle.turn_table.specs.Passes.{ChangesOnly, HoldsBoard, IsSame, hart_of, noted_of, taken_of, turns_of}
use Rattle.crew_parts.specs.Boards.{Plain, IsBoardOf, is_over_in, state_of}
use Rattle.crew_parts.specs.Parts.{IsPartAdvanced, IsPartMoved, Part, number_of, part_of, until_by, until_of}
use Rattle.crew_parts.specs.Turns.{HasTurn}
use Rattle.crew_parts.proofs.Laws.{legs_advance, nothing_is_changed, parts_are_numbered}
use Rattle.recorded_turns.proofs.Advanced.{turns_leave_parts}
use Rattle.recorder.proofs.Manning.{turn_of}
use Rattle.free_run.specs.Parts.{IsOnRecord, IsRunOf, MayMoveTo, parts_of}
use Rattle.free_run.specs.RecordBoards.{abandoned_in}
use Rattle.free_run.specs.RecordLegs.{HasGoneTo, HasNoTurn, HasTurnOnce}
use Rattle.free_run.proofs.ByTurns.{moves_had}
use Rattle.free_run.proofs.Parts.{changes_only, each_here, part_on_record, part_there, run_of_part}

-- a leg on frames of another unit, of which there is none
leg_in_unit : (u : ℕ) (led : Run) (pause : Pause) (h until : ℕ) (b : Plain) → u ≡ page_bytes → (leg : MakesLeg u led pause h until (state_of b))
    → (made : MakesLeg page_bytes led pause h until (state_of b)) × (made.leg.moves ≡ leg.leg.moves)
leg_in_unit u led pause h until b e =
    subst (λ v. (leg : MakesLeg v led pause h until (state_of b))
    → (made : MakesLeg page_bytes led pause h until (state_of b)) × (made.leg.moves ≡ leg.leg.moves)) (sym e) (λ leg. (leg, refl))

-- what is known of the board that was taken: the run was the hart's part of it, and made its leg from there
pub record Taken (b : Plain) (h : ℕ) (r led : Run) (until : ℕ) (pause : Pause) : Type 0 where
  pub inside : h < b.harts
  pub leg : MakesLeg page_bytes led pause h until (state_of b)
  pub advanced : IsPartAdvanced b h leg.leg.moves led
  pub moved : IsPartMoved b led
  pub number : number_of led ≡ h

pub taken_by : (b : Plain) (h : ℕ) (o : Option Part) (r led : Run) (until : ℕ) (pause : Pause) → IsBoardOf b → slice_get (parts_of b) h ≡ o → IsOnRecord o r
    → MayMoveTo o r until → KeepsPages r led → LegAgrees r led until pause → Taken b h r led until pause
taken_by b h o r led until pause holds at on may kept agrees =
    let there = part_there b h on.part (at ∙ on.is) in
    let part = run_of_part b h r holds there.0 (subst (λ x. IsRunOf x r) there.1 on.run) in
    let same : may.part ≡ part_of b h = (part_there b h may.part (at ∙ may.is)).1 in
    let far : until ≤ until_of b h = subst (λ (x : Part). until ≤ x.until) same may.most in
    let unit = on.run.unit in
    let leg = agrees h (state_of b) (subst (λ u. IsCrewState (board u) (state_of b)) (sym unit) holds.crew) part in
    let made = leg_in_unit r.frames.unit led pause h until b unit leg in
    let advanced = legs_advance b h until r led pause holds.whole holds.reached there.0 part kept leg far in
    let mine : IsPartAdvanced b h made.0.leg.moves led = subst (λ n. IsPartAdvanced b h n led) (sym made.1) advanced in
    let number = parts_are_numbered b h made.0.leg.moves led holds.whole holds.reached mine in
    record {
      inside = there.0;
      leg = made.0;
      advanced = mine;
      moved = (made.0.leg.moves, subst (λ k. IsPartAdvanced b k made.0.leg.moves led) (sym number) mine);
      number = number;
    }

-- ---- passes

pub same_hart : (P M N : Pass Plain Part) → hart_of N ≡ hart_of M → IsSame P M → hart_of N ≡ hart_of P
same_hart P M N given same = given ∙ same.hart

module _ (P M N : Pass Plain Part) (b q : Plain) where
  pub one_more : IsSame P M → HoldsBoard parts_of b M → turns_of N ≡ turns_of M ++ map (λ a. (a, q)) (taken_of M)
      → turns_of N ≡ turns_of P ++ (b, q) ∷ []
  one_more same holds turn = turn ∙ ap₂ (λ xs ys. xs ++ map (λ a. (a, q)) ys) same.turns holds.taken

  pub hart_changes : IsSame P M → HoldsBoard parts_of b M → q.harts ≡ b.harts
      → ((g : ℕ) → g < b.harts → g ≢ hart_of P → part_of q g ≡ part_of b g) → ChangesOnly (hart_of M) (noted_of M) (parts_of q)
  hart_changes same holds harts others =
      subst (λ k. ChangesOnly k (noted_of M) (parts_of q)) (sym same.hart)
      (subst (λ ps. ChangesOnly (hart_of P) ps (parts_of q)) (sym holds.noted) (changes_only b q (hart_of P) harts others))

  pub part_given : IsSame P M → passes.part_of N ≡ slice_get (parts_of q) (hart_of M) → hart_of P < q.harts
      → passes.part_of N ≡ Some (part_of q (hart_of P))
  part_given same part inside =
      part ∙ ap (slice_get (parts_of q)) same.hart ∙ each_here (part_of q) q.harts (hart_of P) inside

-- no part is another once the board is abandoned
pub abandoned_parts : (b q : Plain) → q ≡ abandoned_in b → (g : ℕ) → part_of q g ≡ part_of b g
abandoned_parts b q e g =
    ap (λ z. part_of z g) e ∙ nothing_is_changed b b.favoured (abandoned_in b).closed true b.prepared g

-- ---- behind the turn

module _ (P M N : Pass Plain Part) (b q : Plain) (r led after : Run) (until : ℕ) (pause : Pause) (order : Order) (over : Bool) where
  pub had_by : Taken b (hart_of P) r led until pause → HasTurn b q (number_of led) led after order → HasTurn b q (hart_of P) led after order
  had_by taken turn = subst (λ k. HasTurn b q k led after order) taken.number turn

  pub turned_once : IsBoardOf b → IsBoardOf q → Taken b (hart_of P) r led until pause → HasTurn b q (number_of led) led after order → KeepsPages r led
      → IsSame P M → HoldsBoard parts_of b M → slice_get (parts_of b) (hart_of P) ≡ passes.part_of P
      → passes.part_of N ≡ slice_get (parts_of q) (hart_of M) → turns_of N ≡ turns_of M ++ map (λ a. (a, q)) (taken_of M) → over ≡ is_over_in q
      → HasTurnOnce P N r after until order over
  turned_once holds later taken turn kept same held at part row over_is =
      let had = had_by taken turn in
      let inside : hart_of P < q.harts = (let l = taken.inside in let k = had.terms.harts in omega (arith, l, k)) in
      record {
        taken = b;
        given = q;
        turns = one_more P M N b q same held row;
        was = sym at ∙ each_here (part_of b) b.harts (hart_of P) taken.inside;
        is = part_given P M N b q same part inside;
        moved = led;
        pause = pause;
        kept = kept;
        leg = taken.leg;
        had = had;
        moves = moves_had b q (hart_of P) taken.leg.leg.moves led after order
            (turn_of b (hart_of P) taken.leg.leg.moves led holds taken.inside taken.advanced) had;
        over_is = over_is;
      }

  pub on_record : IsBoardOf q → Taken b (hart_of P) r led until pause → HasTurn b q (number_of led) led after order → IsSame P M
      → passes.part_of N ≡ slice_get (parts_of q) (hart_of M) → IsOnRecord (passes.part_of N) after
  on_record later taken turn same part =
      let had = had_by taken turn in
      let inside : hart_of P < q.harts = (let l = taken.inside in let k = had.terms.harts in omega (arith, l, k)) in
      record {
        part = part_of q (hart_of P);
        is = part_given P M N b q same part inside;
        run = part_on_record q (hart_of P) after later inside had.part;
      }

  pub may_stay : IsBoardOf b → IsBoardOf q → Taken b (hart_of P) r led until pause → HasTurn b q (number_of led) led after order → IsSame P M
      → passes.part_of N ≡ slice_get (parts_of q) (hart_of M) → MayMoveTo (passes.part_of N) after after.count
  may_stay holds later taken turn same part =
      let had = had_by taken turn in
      let inside : hart_of P < q.harts = (let l = taken.inside in let k = had.terms.harts in omega (arith, l, k)) in
      let from = turn_of b (hart_of P) taken.leg.leg.moves led holds taken.inside taken.advanced in
      record {
        part = part_of q (hart_of P);
        is = part_given P M N b q same part inside;
        least = omega arith;
        most = (turns_leave_parts b q (hart_of P) taken.leg.leg.moves led after order from later.counts had).1.within;
      }

  pub may_go : (to : ℕ) → IsBoardOf b → IsBoardOf q → Taken b (hart_of P) r led until pause → HasTurn b q (number_of led) led after order → IsSame P M
      → passes.part_of N ≡ slice_get (parts_of q) (hart_of M) → order ≡ model.Go to → MayMoveTo (passes.part_of N) after to
  may_go to holds later taken turn same part goes =
      let had = had_by taken turn in
      let inside : hart_of P < q.harts = (let l = taken.inside in let k = had.terms.harts in omega (arith, l, k)) in
      let from = turn_of b (hart_of P) taken.leg.leg.moves led holds taken.inside taken.advanced in
      let within = (turns_leave_parts b q (hart_of P) taken.leg.leg.moves led after order from later.counts had).1.within in
      let far : until_of q (hart_of P) ≡ to = ap (until_by (slice_index q.counts (hart_of P))) (had.told ∙ ap Some goes) in
      record {
        part = part_of q (hart_of P);
        is = part_given P M N b q same part inside;
        least = subst (λ k. after.count ≤ k) far within;
        most = subst (λ k. to ≤ k) (sym far) (omega arith);
      }

-- without a turn
module _ (P M N : Pass Plain Part) (b q : Plain) where
  pub abandoned_changes : IsSame P M → HoldsBoard parts_of b M → q ≡ abandoned_in b → ChangesOnly (hart_of M) (noted_of M) (parts_of q)
  abandoned_changes same held e =
      hart_changes P M N b q same held (ap (λ (z : Plain). z.harts) e) (λ g there other. abandoned_parts b q e g)

  pub no_turn : IsSame P M → HoldsBoard parts_of b M → q ≡ abandoned_in b → hart_of P < b.harts → slice_get (parts_of b) (hart_of P) ≡ passes.part_of P
      → passes.part_of N ≡ slice_get (parts_of q) (hart_of M) → turns_of N ≡ turns_of M ++ map (λ a. (a, q)) (taken_of M) → HasNoTurn P N
  no_turn same held e inside at part row = record {
    taken = b;
    turns = subst (λ z. turns_of N ≡ turns_of P ++ (b, z) ∷ []) e (one_more P M N b q same held row);
    was = sym at ∙ each_here (part_of b) b.harts (hart_of P) inside;
    part =
        part_given P M N b q same part (subst (λ k. hart_of P < k) (sym (ap (λ (z : Plain). z.harts) e)) inside)
        ∙ ap Some (abandoned_parts b q e (hart_of P)) ∙ sym (each_here (part_of b) b.harts (hart_of P) inside) ∙ at;
  }

pub gone_to : (until : ℕ) (r led new : Run) (pause : Pause) → new ≡ led → KeepsPages r led → LegAgrees r led until pause → HasGoneTo until r new
gone_to until r led new pause e kept agrees = subst (HasGoneTo until r) (sym e) (pause, kept, agrees)
