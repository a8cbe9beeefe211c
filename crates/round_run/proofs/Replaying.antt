-- Turns and legs of a replay's harts.
use Rattle.std.proofs.Common.{◌≡◌, ◌≢◌, ◌⊎◌, inl, inr, ℕ, ◌+◌, ◌*◌, ◌<◌, ◌≤◌, ◌==◌, ◌&&◌, not, Bool, true, false, true≢false, List, map, length, Option}
use Rattle.std.proofs.Common.{Some, None, slice_get, slice_set, slice_index, slice_index_or, refl, sym, ap, ap₂, ◌∙◌, subst, arith}
use Rattle.std.specs.Prelude.{IfSome, IsTrue}
use Rattle.std.proofs.lemmas.Bool.{cases_eq}
use Rattle.std.proofs.lemmas.Bool.Decides.{eqb_tells}
use Rattle.std.proofs.lemmas.List.{get_or-set_other, get_or-set_same, length-set, set-get_or}
use Rattle.std.proofs.lemmas.Option.{get_or_from_slice_get, same_Some, slice_get-get_or, slice_get_within}
use Rattle.shared_types.proofs.Lists.{set_here, set_there, set_where}
use Rattle.log_entry.specs.declared.log.Log.{Log}
use Rattle.log_entry.specs.Parts.{unit_of}
use Rattle.orders_law.specs.Orders.{total}
use Rattle.flat_machine.specs.State.{FlatState}
use Rattle.replay_model.specs.Board.{board}
use Rattle.replay_model.specs.State.{Replay, IsCrewState}
use Rattle.replay_model.specs.Items.{Item, Ended, Makes, Move, Verdict, CanGo, HasDiverged, HasEnded, Holds, next_item, verdict, verdict_on}
use Rattle.run_model.specs.Run.{Run, number_of}
use Rattle.run_model.specs.Legs.{MakesLeg, Runs}
use Rattle.replay_parts.specs.Boards.{Plain, state_of}
use Rattle.replay_parts.specs.Laws.{Reaches}
use Rattle.replay_parts.specs.Parts.{IsPart, IsPartAdvanced, Part, until_in}
use Rattle.replay_parts.specs.Turns.{IsTurn, MakesNext, Told, told_of}
use Rattle.replay_parts.specs.Turns as turns
use Rattle.replay_parts.proofs.Advancing.{goes_there, legs_advance, parts_are_numbered, parts_have_unit, parts_unmoved}
use Rattle.replay_parts.proofs.Rising.{turns_rise}
use Rattle.replay_parts.proofs.Turned.{parts_stay, reached_goes, runs_go_on, turns_reach}
use Rattle.replay_parts.proofs.Within.{states_are}
use Rattle.replay_core.specs.declared.went.Pace.{Pace}
use Rattle.replay_core.specs.declared.went.Pace.TheVariants as paces
use Rattle.replay_core.specs.Turns.{HasTurn, IsPartMoved, told}
use Rattle.replay_core.proofs.ItemsLeft.{within}
use Rattle.round_run.specs.Legs.{Goes}
use Rattle.round_run.specs.Replays.{AreLed, HadTurn, HasMoved, IsPartLed, MayMove, MayMoveFrom, SameReplay}
use Rattle.round_run.specs.Replays.{left_in, until_paced}

pub part_is_led : (p : Plain) (h : ℕ) (r : Run) → IsPart p h r → IsPartLed p h r
part_is_led p h r is = record { part = r; is = is; until = None; goes = refl; within = tt }

-- a leg, from the state for which the board stands
module _ (p : Plain) (s : Replay FlatState) (h until : ℕ) (r after : Run) (reaches : Reaches p s) (is : IsPart p h r) (went : Goes r after (Some until)) where
  pub made : MakesLeg r.frames.unit after went.0 h until (state_of p)
  made =
      went.2 h (state_of p)
      (subst (λ u. IsCrewState (board u) (state_of p)) (sym (parts_have_unit p s h r reaches is)) (goes_there p s reaches).good.sound.crew) is

  pub leg_made : until ≤ until_in p.log (state_of p) h → IsPartAdvanced p h made.leg.moves after
  leg_made less = legs_advance p s h until r after went.0 reaches is went.1 made less

-- a run with its leg is its hart's part, advanced
pub led_advances : (p : Plain) (s : Replay FlatState) (h : ℕ) (r : Run) → Reaches p s → IsPartLed p h r → (n : ℕ) × IsPartAdvanced p h n r
led_advances p s h r reaches led = by led.until led.goes led.within where
  by : (until : Option ℕ) → Goes led.part r until → IfSome until (λ n. n ≤ until_in p.log (state_of p) h) → (n : ℕ) × IsPartAdvanced p h n r
  by None same less = (0, subst (IsPartAdvanced p h 0) (sym same) (parts_unmoved p s h led.part reaches led.is))
  by (Some until) went less =
      ((made p s h until led.part r reaches led.is went).leg.moves, leg_made p s h until led.part r reaches led.is went less)

-- and stays so behind another hart's turn
pub led_stays : (p q : Plain) (s : Replay FlatState) (h g n : ℕ) (told : Told) (r : Run) → Reaches p s → h < length p.log.streams → IsTurn p q h n told
    → g < length p.log.streams → g ≢ h → IsPartLed p g r → IsPartLed q g r
led_stays p q s h g n told r reaches inside turn there other led = record {
  part = led.part;
  is = runs_go_on p q s h g n told led.part reaches inside turn other (parts_have_unit p s g led.part reaches led.is) led.is;
  until = led.until;
  goes = led.goes;
  within =
      subst (λ k. IfSome led.until (λ n. n ≤ k)) (sym (ap (λ (x : Part). x.until) (parts_stay p q s h g n told reaches inside turn there other))) led.within;
}

-- what a hart is told behind its turn
goes_then : (until n : ℕ) (v : Verdict) → turns.Goes n ≡ told_of until v → (v ≡ CanGo) × (n ≡ until)
goes_then until n HasEnded is = let bad : ⊥ = cc in absurd bad
goes_then until n Holds is = let bad : ⊥ = cc in absurd bad
goes_then until n CanGo is = (refl, cc)
goes_then until n (HasDiverged rule) is = let bad : ⊥ = cc in absurd bad

stays_then : (until : ℕ) (t : Told) (v : Verdict) → t ≡ told_of until v → ((n : ℕ) → t ≢ turns.Goes n) → v ≢ CanGo
stays_then until t v is none can = none until (is ∙ ap (told_of until) can)

next_is_move : (log : Log) (s : Replay FlatState) (h : ℕ) → verdict (board (unit_of log)) log s h ≡ CanGo → (MakesNext log s h → ⊥)
    → next_item (board (unit_of log)) log s h ≡ Move
next_is_move log s h can none = by (next_item (board (unit_of log)) log s h) refl where
  by : (i : Item) → next_item (board (unit_of log)) log s h ≡ i → i ≡ Move
  by Ended is = let ended : CanGo ≡ HasEnded = sym can ∙ ap (verdict_on (board (unit_of log)) s h) is in let bad : ⊥ = cc in absurd bad
  by Move is = refl
  by (Makes e) is = absurd (none (e, (is, can)))

may_move : (log : Log) (s : Replay FlatState) (h : ℕ) (pace : Pace) → told pace ≡ told_of (until_in log s h) (verdict (board (unit_of log)) log s h)
    → (MakesNext log s h → ⊥) → MayMoveFrom log s h (until_paced pace)
may_move log s h (paces.Go until) is none =
    let x = goes_then (until_in log s h) until (verdict (board (unit_of log)) log s h) is in
    (next_is_move log s h x.0 none, x.0, x.1)
may_move log s h paces.Hold is none =
    stays_then (until_in log s h) (told paces.Hold) (verdict (board (unit_of log)) log s h) is (λ n e. let bad : ⊥ = cc in absurd bad)
may_move log s h (paces.Diverged rule) is none =
    stays_then (until_in log s h) (told (paces.Diverged rule)) (verdict (board (unit_of log)) log s h) is (λ n e. let bad : ⊥ = cc in absurd bad)
may_move log s h paces.Ended is none =
    stays_then (until_in log s h) (told paces.Ended) (verdict (board (unit_of log)) log s h) is (λ n e. let bad : ⊥ = cc in absurd bad)

-- a list with one element set to what it was
kept : (xs ys : List ℕ) (h x : ℕ) → h < length xs → ys ≡ slice_set xs h x → slice_index ys h ≡ slice_index xs h → ys ≡ xs
kept xs ys h x less is same =
    let here : slice_index ys h ≡ x =
    ap (λ zs. slice_index zs h) is ∙ get_or_from_slice_get (slice_set xs h x) h x 0 (set_here xs h x less) in
    is ∙ ap (slice_set xs h) (sym here ∙ same) ∙ set-get_or xs h 0

-- the run that stands at a hart's place
pub run_found : (runs : List Run) (h place : ℕ) (r : Run) → h < length runs → place ≡ h → r ≡ slice_index_or runs place r → slice_get runs h ≡ Some r
run_found runs h place r less same value = slice_get-get_or runs h r less ∙ ap Some (ap (λ i. slice_index_or runs i r) (sym same) ∙ sym value)

-- before a turn of hart h
module _ (p : Plain) (before : List Run) (h : ℕ) (r : Run) (led : AreLed h p before) (there : slice_get before h ≡ Some r) where
  inside : h < length p.log.streams
  inside = let l = slice_get_within before h r there in let n = led.number in omega (arith, l, n)

  advanced : (n : ℕ) × IsPartAdvanced p h n r
  advanced = led_advances p led.at h r led.reaches (led.each h r there)

  number : number_of r ≡ h
  number = parts_are_numbered p led.at h advanced.0 r led.reaches advanced.1

  numbered : IsPartAdvanced p (number_of r) advanced.0 r
  numbered = subst (λ i. IsPartAdvanced p i advanced.0 r) (sym number) advanced.1

  pub is_moved : IsPartMoved p r
  is_moved = (advanced.0, numbered)

-- and behind it
module _ (p q : Plain) (before : List Run) (h : ℕ) (r after : Run) (pace : Pace) (led : AreLed h p before) (there : slice_get before h ≡ Some r)
    (has : HasTurn p q r after (told pace)) where
  abbrev moved : (n : ℕ) × IsPartAdvanced p h n r
  moved = advanced p before h r led there

  turned : IsTurn p q h moved.0 (told pace) × IsPart q h after
  turned = subst (λ i. IsTurn p q i moved.0 (told pace) × IsPart q i after) (number p before h r led there) (has moved.0 (numbered p before h r led there))

  reach : Reaches q turned.0.at
  reach = turns_reach p q led.at h moved.0 (told pace) led.reaches (inside p before h r led there) turned.0

  pub same : SameReplay p q
  same = (ap (λ (z : Plain). z.log) turned.0.committed_is, ap (λ (z : Plain). z.image) turned.0.committed_is)

  pub inside_then : h < length q.log.streams
  inside_then = let l = inside p before h r led there in let log_is = ap (λ (l : Log). length l.streams) same.0 in omega (arith, l, log_is)

  pub then_led : AreLed (h + 1) q (slice_set before h after)
  then_led = record {
    at = turned.0.at;
    reaches = reach;
    number = length-set before h after ∙ led.number ∙ sym (ap (λ (l : Log). length l.streams) same.0);
    each = λ g x at. elim (cases_eq g h) [
      | inl is ↦ part_is_led q g x (own g x is at)
      | inr n ↦
          let was : slice_get before g ≡ Some x = sym (set_there before h g after n) ∙ at in
          led_stays p q led.at h g moved.0 (told pace) x led.reaches (inside p before h r led there) turned.0
          (let l = slice_get_within before g x was in let k = led.number in omega (arith, l, k)) n (led.each g x was)
    ];
    parts = λ g x less at. elim (cases_eq g h) [
      | inl is ↦ own g x is at
      | inr n ↦
          let was : slice_get before g ≡ Some x = sym (set_there before h g after n) ∙ at in
          let part : IsPart p g x = led.parts g x (omega (arith, less, n)) was in
          runs_go_on p q led.at h g moved.0 (told pace) x led.reaches (inside p before h r led there) turned.0 n
          (parts_have_unit p led.at g x led.reaches part) part
    ];
  } where
    own : (g : ℕ) (x : Run) → g ≡ h → slice_get (slice_set before h after) g ≡ Some x → IsPart q g x
    own g x is at =
        let x_is : after ≡ x =
        same_Some _ _ (sym (set_where before h after r there) ∙ ap (slice_get (slice_set before h after)) (sym is) ∙ at) in
        subst (λ i. IsPart q i x) (sym is) (subst (IsPart q h) x_is turned.1)

  pub then_may : MayMove q h (until_paced pace)
  then_may =
      subst (λ l. MayMoveFrom l (state_of q) h (until_paced pace)) (sym same.0)
      (subst (λ s. MayMoveFrom p.log s h (until_paced pace)) (sym (states_are q turned.0.at reach))
      (may_move p.log turned.0.at h pace turned.0.told_is turned.0.over))

  rise : (total p.places + total p.counts < total q.places + total q.counts) ⊎ ((moved.0 ≡ 0) × (q ≡ p))
  rise = turns_rise p q led.at h moved.0 (told pace) led.reaches (inside p before h r led there) turned.0

  -- where it changed the board less is left
  pub then_less : (q ≡ p → ⊥) → left_in q < left_in p
  then_less differs = elim rise [
    | inl more ↦
        let most = within q.log q.image reach.replayable turned.0.at (reached_goes q turned.0.at reach) in
        let places = ap total reach.places in
        let counts = ap total reach.counts in
        let log_is = ap (λ (l : Log). total (map length l.streams) + length l.streams * l.limit) same.0 in
        omega (arith, more, most, places, counts, log_is)
    | inr e ↦ absurd (differs e.1)
  ]

  -- where it left the hart's place and count the run had not moved
  pub then_still : slice_index q.places h ≡ slice_index p.places h → slice_index q.counts h ≡ slice_index p.counts h
      → (q ≡ p) × (HasMoved p h r → ⊥)
  then_still place count = elim rise [
    | inl more ↦
        let going = reached_goes p led.at led.reaches in
        let there_is = inside p before h r led there in
        let many = going.places in
        let size = going.good.sound.sized.counts_size ∙ going.good.sound.sized.harts_size in
        let p_places = ap length led.reaches.places in
        let p_counts = ap length led.reaches.counts in
        let places =
        ap total (kept p.places q.places h (slice_index turned.0.at.cursor.places h) (omega (arith, there_is, many, p_places))
        (ap (λ (z : Plain). z.places) turned.0.committed_is) place) in
        let counts =
        ap total (kept p.counts q.counts h (slice_index turned.0.at.flat.counts h) (omega (arith, there_is, size, p_counts))
        (ap (λ (z : Plain). z.counts) turned.0.committed_is) count) in
        absurd (omega (arith, more, places, counts))
    | inr e ↦ (
      e.1,
      λ went.
          let led_is : state_of p ≡ moved.1.led.at = subst (λ n. Runs (board (unit_of p.log)) h n (state_of p) moved.1.led.at) e.0 moved.1.led.runs in
          let own = get_or_from_slice_get moved.1.led.at.flat.counts h r.count 0 moved.1.led.agrees.count in
          let stood = ap (λ (s : Replay FlatState). slice_index s.flat.counts h) led_is in
          let state_is = ap (λ (s : Replay FlatState). slice_index s.flat.counts h) (states_are p led.at led.reaches) in
          let committed = ap (λ cs. slice_index cs h) led.reaches.counts in
          absurd (omega (arith, went, own, stood, state_is, committed)),
    )
  ]

  -- all of it
  pub had_turn : (olds : List (Option ℕ)) (place : ℕ) (until : Option ℕ) (changed : Bool) → place ≡ h → h < length olds → until ≡ until_paced pace
      → (IsTrue changed → q ≡ p → ⊥)
      → (changed ≡ false → (slice_index q.places h ≡ slice_index p.places h) × (slice_index q.counts h ≡ slice_index p.counts h))
      → HadTurn h p q before (slice_set before place after) olds (slice_set olds place until) changed
  had_turn olds place until changed place_is less until_is differs alike =
      subst (λ i. HadTurn h p q before (slice_set before i after) olds (slice_set olds i until) changed) (sym place_is) (record {
        same = same;
        led = then_led;
        others = λ g n. set_there before h g after n;
        olds_stay = λ g n. get_or-set_other olds h g until None n;
        places = length-set olds h until;
        told = subst (MayMove q h) (sym (get_or-set_same olds h until None less ∙ until_is)) then_may;
        less = λ t. then_less (differs t);
        still = λ f.
            let stays = then_still (alike f).0 (alike f).1 in
            (stays.0, λ x at went. stays.1 (subst (HasMoved p h) (same_Some _ _ (sym at ∙ there)) went));
      })

-- whether two numbers are others than they were
pub differ_by : (a b c d : ℕ) (changed : Bool) → changed ≡ not ((a == b) && (c == d)) → (IsTrue changed → a ≡ b → c ≡ d → ⊥)
    × (changed ≡ false → (a ≡ b) × (c ≡ d))
differ_by a b c d changed is = by (eqb_tells a b) (eqb_tells c d) where
  by : ((a == b) ≡ true) × (a ≡ b) ⊎ ((a == b) ≡ false) × (a ≢ b) → ((c == d) ≡ true) × (c ≡ d) ⊎ ((c == d) ≡ false) × (c ≢ d)
      → (IsTrue changed → a ≡ b → c ≡ d → ⊥) × (changed ≡ false → (a ≡ b) × (c ≡ d))
  by (inl one) (inl two) =
      let unchanged : changed ≡ false = is ∙ ap₂ (λ x y. not (x && y)) one.0 two.0 in
      (λ t e f. true≢false (sym t ∙ unchanged), λ f. (one.1, two.1))
  by (inl one) (inr two) =
      let so : changed ≡ true = is ∙ ap₂ (λ x y. not (x && y)) one.0 two.0 in
      (λ t e f. two.1 f, λ f. absurd (true≢false (sym so ∙ f)))
  by (inr one) two =
      let so : changed ≡ true = is ∙ ap (λ x. not (x && (c == d))) one.0 in
      (λ t e f. one.1 e, λ f. absurd (true≢false (sym so ∙ f)))
