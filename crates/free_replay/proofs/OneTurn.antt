-- A leg that is made before the board is there, and the turn behind it.
use Rattle.std.proofs.Common.{◌≡◌, ◌≢◌, ℕ, ◌<◌, ◌≤◌, [], ◌∷◌, ◌++◌, map, length, Option, Some, slice_get, refl, sym, ap, ap₂, ◌∙◌, subst, arith}
use Rattle.log_entry.specs.declared.log.Log.{Log}
use Rattle.log_entry.specs.Parts.{unit_of}
use Rattle.flat_machine.specs.State.{FlatState}
use Rattle.replay_model.specs.Board.{board}
use Rattle.replay_model.specs.State.{Replay, IsCrewState}
use Rattle.replay_model.specs.Items.{Verdict, HasEnded, Holds, CanGo, HasDiverged, verdict}
use Rattle.run_model.specs.Run.{Run, number_of}
use Rattle.run_model.specs.Legs.{KeepsPages, MakesLeg}
use Rattle.run_model.specs.declared.asked.Pause.{Pause}
use Rattle.hart_run.specs.Calls.{LegAgrees}
use Rattle.turn_table.specs.declared.table.Pass.{Pass}
use Rattle.turn_table.specs.declared.table.TurnTable.{TurnTable}
use Rattle.turn_table.specs.Passes as passes
use Rattle.turn_table.specs.Passes.{ChangesOnly, HoldsBoard, IsIdle, IsPassOf, IsSame, hart_of, noted_of, taken_of, turns_of}
use Rattle.replay_parts.specs.Boards.{Plain, state_of}
use Rattle.replay_parts.specs.Laws.{Reaches}
use Rattle.replay_parts.specs.Parts.{IsPart, IsPartAdvanced, Part, part_of, until_in}
use Rattle.replay_parts.specs.Turns.{IsTurn, Told, told_of}
use Rattle.replay_parts.specs.Turns as turns
use Rattle.replay_parts.proofs.Advancing.{goes_there, legs_advance, parts_are_numbered, parts_unmoved}
use Rattle.replay_parts.proofs.Turned.{parts_stay, turns_reach}
use Rattle.replay_parts.proofs.Within.{states_are}
use Rattle.replay_core.specs.declared.went.Pace.{Pace}
use Rattle.replay_core.specs.Turns.{HasTurn, IsPartMoved, told}
use Rattle.free_replay.specs.Parts.{IsOnRecord, IsRunOf, MayMoveTo, parts_of}
use Rattle.replay_core.specs.Items.{IsStuck}
use Rattle.free_replay.specs.ReplayLegs.{GaveStuck, HasLed, HasTurnOnce}
use Rattle.free_replay.proofs.Parts.{changes_only, part_here, part_on_record, part_there, run_of_part}

-- a leg on frames of another unit, of which there is none
leg_in_unit : (u : ℕ) (led : Run) (pause : Pause) (h until : ℕ) (b : Plain) → u ≡ unit_of b.log → (leg : MakesLeg u led pause h until (state_of b))
    → (made : MakesLeg (unit_of b.log) led pause h until (state_of b)) × (made.leg.moves ≡ leg.leg.moves)
leg_in_unit u led pause h until b e =
    subst (λ v. (leg : MakesLeg v led pause h until (state_of b))
    → (made : MakesLeg (unit_of b.log) led pause h until (state_of b)) × (made.leg.moves ≡ leg.leg.moves)) (sym e) (λ leg. (leg, refl))

-- what is known of the board that was taken: the run was the hart's part of it, and made its leg from there
pub record Taken (b : Plain) (h : ℕ) (led : Run) (until : ℕ) (pause : Pause) : Type 0 where
  pub at : Replay FlatState
  pub reaches : Reaches b at
  pub inside : h < length b.log.streams
  pub leg : MakesLeg (unit_of b.log) led pause h until (state_of b)
  pub advanced : IsPartAdvanced b h leg.leg.moves led
  pub moved : IsPartMoved b led
  pub number : number_of led ≡ h
  pub there : number_of led < length b.log.streams

pub taken_by : (b : Plain) (s : Replay FlatState) (h : ℕ) (o : Option Part) (r led : Run) (until : ℕ) (pause : Pause) → Reaches b s
    → slice_get (parts_of b) h ≡ o → IsOnRecord o r → MayMoveTo o r until → KeepsPages r led → LegAgrees r led until pause → Taken b h led until pause
taken_by b s h o r led until pause reaches at on may kept agrees =
    let there = part_there b h on.part (at ∙ on.is) in
    let is : IsRunOf (part_of b h) r = subst (λ x. IsRunOf x r) there.1 on.run in
    let part = run_of_part b s h r reaches is in
    let same : may.part ≡ part_of b h = (part_there b h may.part (at ∙ may.is)).1 in
    let far : until ≤ until_in b.log (state_of b) h = subst (λ (x : Part). until ≤ x.until) same may.most in
    let unit = is.unit in
    let leg = agrees h (state_of b) (subst (λ u. IsCrewState (board u) (state_of b)) (sym unit) (goes_there b s reaches).good.sound.crew) part in
    let made = leg_in_unit r.frames.unit led pause h until b unit leg in
    let advanced = legs_advance b s h until r led pause reaches part kept leg far in
    let mine : IsPartAdvanced b h made.0.leg.moves led = subst (λ n. IsPartAdvanced b h n led) (sym made.1) advanced in
    let number = parts_are_numbered b s h made.0.leg.moves led reaches mine in
    record {
      at = s;
      reaches = reaches;
      inside = there.0;
      leg = made.0;
      advanced = mine;
      moved = (made.0.leg.moves, subst (λ k. IsPartAdvanced b k made.0.leg.moves led) (sym number) mine);
      number = number;
      there = (let l = there.0 in omega (arith, l, number));
    }

-- ---- passes

module _ (P M N : Pass Plain Part) (b q : Plain) where
  one_more : IsSame P M → HoldsBoard parts_of b M → turns_of N ≡ turns_of M ++ map (λ a. (a, q)) (taken_of M)
      → turns_of N ≡ turns_of P ++ (b, q) ∷ []
  one_more same holds turn = turn ∙ ap₂ (λ xs ys. xs ++ map (λ a. (a, q)) ys) same.turns holds.taken

  hart_changes : IsSame P M → HoldsBoard parts_of b M → length q.log.streams ≡ length b.log.streams
      → ((g : ℕ) → g < length b.log.streams → g ≢ hart_of P → part_of q g ≡ part_of b g) → ChangesOnly (hart_of M) (noted_of M) (parts_of q)
  hart_changes same holds harts others =
      subst (λ k. ChangesOnly k (noted_of M) (parts_of q)) (sym same.hart)
      (subst (λ ps. ChangesOnly (hart_of P) ps (parts_of q)) (sym holds.noted) (changes_only b q (hart_of P) harts others))

  part_given : IsSame P M → passes.part_of N ≡ slice_get (parts_of q) (hart_of M) → hart_of P < length q.log.streams
      → passes.part_of N ≡ Some (part_of q (hart_of P))
  part_given same part inside = part ∙ ap (slice_get (parts_of q)) same.hart ∙ part_here q (hart_of P) inside

-- who is told to go on may go up to its entry
told_to_go : (until to : ℕ) (t : Told) (v : Verdict) → t ≡ told_of until v → t ≡ turns.Goes to → to ≡ until
told_to_go until to t HasEnded is goes = let e = sym goes ∙ is in let bad : ⊥ = cc in absurd bad
told_to_go until to t Holds is goes = let e = sym goes ∙ is in let bad : ⊥ = cc in absurd bad
told_to_go until to t CanGo is goes = let e = sym goes ∙ is in cc
told_to_go until to t (HasDiverged rule) is goes = let e = sym goes ∙ is in let bad : ⊥ = cc in absurd bad

-- ---- behind the turn

module _ (P M N : Pass Plain Part) (b q : Plain) (r led after : Run) (until : ℕ) (pause : Pause) (t : Told) (taken : Taken b (hart_of P) led until pause)
    (had : HasTurn b q led after t) where
  both : IsTurn b q (hart_of P) taken.leg.leg.moves t × IsPart q (hart_of P) after
  both =
      subst (λ k. IsTurn b q k taken.leg.leg.moves t × IsPart q k after) taken.number
      (had taken.leg.leg.moves (subst (λ k. IsPartAdvanced b k taken.leg.leg.moves led) (sym taken.number) taken.advanced))

  same_log : q.log ≡ b.log
  same_log = ap (λ (z : Plain). z.log) both.0.committed_is

  same_image : q.image ≡ b.image
  same_image = ap (λ (z : Plain). z.image) both.0.committed_is

  harts_stay : length q.log.streams ≡ length b.log.streams
  harts_stay = ap (λ (l : Log). length l.streams) same_log

  still_inside : hart_of P < length q.log.streams
  still_inside = let l = taken.inside in let k = harts_stay in omega (arith, l, k)

  reaches_on : Reaches q both.0.at
  reaches_on = turns_reach b q taken.at (hart_of P) taken.leg.leg.moves t taken.reaches taken.inside both.0

  pub one_changes : IsSame P M → HoldsBoard parts_of b M → ChangesOnly (hart_of M) (noted_of M) (parts_of q)
  one_changes same held =
      hart_changes P M N b q same held harts_stay
      (λ g there other. parts_stay b q taken.at (hart_of P) g taken.leg.leg.moves t taken.reaches taken.inside both.0 there other)

  turned_once : KeepsPages r led → IsSame P M → HoldsBoard parts_of b M → slice_get (parts_of b) (hart_of P) ≡ passes.part_of P
      → passes.part_of N ≡ slice_get (parts_of q) (hart_of M) → turns_of N ≡ turns_of M ++ map (λ a. (a, q)) (taken_of M)
      → HasTurnOnce P N r after until t
  turned_once kept same held at part row = record {
    taken = b;
    given = q;
    turns = one_more P M N b q same held row;
    was = sym at ∙ part_here b (hart_of P) taken.inside;
    is = part_given P M N b q same part still_inside;
    moved = led;
    pause = pause;
    kept = kept;
    leg = taken.leg;
    turn = both.0;
    part = both.1;
  }

  on_record : IsSame P M → passes.part_of N ≡ slice_get (parts_of q) (hart_of M) → IsOnRecord (passes.part_of N) after
  on_record same part = record {
    part = part_of q (hart_of P);
    is = part_given P M N b q same part still_inside;
    run = part_on_record q both.0.at (hart_of P) after reaches_on both.1;
  }

  may_stay : IsSame P M → passes.part_of N ≡ slice_get (parts_of q) (hart_of M) → MayMoveTo (passes.part_of N) after after.count
  may_stay same part = record {
    part = part_of q (hart_of P);
    is = part_given P M N b q same part still_inside;
    least = omega arith;
    most = (parts_unmoved q both.0.at (hart_of P) after reaches_on both.1).within;
  }

  far_as_told : (to : ℕ) → t ≡ turns.Goes to → until_in q.log (state_of q) (hart_of P) ≡ to
  far_as_told to goes =
      ap₂ (λ l z. until_in l z (hart_of P)) same_log (states_are q both.0.at reaches_on)
      ∙ sym (told_to_go (until_in b.log both.0.at (hart_of P)) to t (verdict (board (unit_of b.log)) b.log both.0.at (hart_of P)) both.0.told_is goes)

  may_go : (to : ℕ) → IsSame P M → passes.part_of N ≡ slice_get (parts_of q) (hart_of M) → t ≡ turns.Goes to → MayMoveTo (passes.part_of N) after to
  may_go to same part goes =
      let far = far_as_told to goes in
      let within = (parts_unmoved q both.0.at (hart_of P) after reaches_on both.1).within in
      record {
        part = part_of q (hart_of P);
        is = part_given P M N b q same part still_inside;
        least = omega (arith, far, within);
        most = omega (arith, far);
      }

-- ---- what the leg and its turn came to

pub has_led : (table : TurnTable Plain Part) (P M N : Pass Plain Part) (b q : Plain) (r led after : Run) (until : ℕ) (pause : Pause) (pace : Pace)
    → Taken b (hart_of P) led until pause → HasTurn b q led after (told pace) → KeepsPages r led → IsSame P M → HoldsBoard parts_of b M
    → slice_get (parts_of b) (hart_of P) ≡ passes.part_of P → IsPassOf table N → IsIdle N → hart_of N ≡ hart_of M
    → passes.part_of N ≡ slice_get (parts_of q) (hart_of M) → turns_of N ≡ turns_of M ++ map (λ a. (a, q)) (taken_of M) → HasLed table P N r after until pace
has_led table P M N b q r led after until pause pace taken had kept same held at of_table idle hart part row =
    record {
      ready = record {
        table = of_table;
        idle = idle;
        on_record = on_record P M N b q r led after until pause (told pace) taken had same part;
        here = may_stay P M N b q r led after until pause (told pace) taken had same part;
      };
      hart = hart ∙ same.hart;
      turn = turned_once P M N b q r led after until pause (told pace) taken had kept same held at part row;
      go = λ to goes. may_go P M N b q r led after until pause (told pace) taken had to same part (ap told goes);
    }

-- from the board that was given no hart can go on
pub gave_stuck : (P M N : Pass Plain Part) (b q : Plain) → IsSame P M → HoldsBoard parts_of b M
    → turns_of N ≡ turns_of M ++ map (λ a. (a, q)) (taken_of M) → IsStuck q.log (state_of q) → GaveStuck P N
gave_stuck P M N b q same held row stuck = record { taken = b; given = q; turns = one_more P M N b q same held row; stuck = stuck }
