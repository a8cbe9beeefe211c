-- Turns of all harts until none changes anything, and the legs between them.
use Rattle.std.proofs.Common.{◌≡◌, inl, inr, ℕ, zero, suc, ◌+◌, ◌<◌, ◌≤◌, not, Bool, true, false, true≢false, List, [], ◌∷◌, take, length, Option, Some, None}
use Rattle.std.proofs.Common.{slice_get, slice_index, slice_index_or, refl, sym, ap, ◌∙◌, subst, arith, if◌then◌else◌}
use Rattle.std.specs.Prelude.{IfSome, is_some}
use Rattle.std.specs.List.{list_any}
use Rattle.std.proofs.lemmas.Bool.{cases_eq, cases_lt, eq-eqb}
use Rattle.std.proofs.lemmas.Option.{get_or_from_slice_get, slice_get_read, slice_get_within}
use Rattle.shared_types.proofs.Lists.{found_at}
use Rattle.elf_image.specs.Image.{Image}
use Rattle.log_entry.specs.declared.log.Entry.{Entry}
use Rattle.log_entry.specs.declared.log.Log.{Log}
use Rattle.log_entry.specs.Parts.{count_of, is_end, unit_of}
use Rattle.flat_machine.specs.State.{FlatState}
use Rattle.replay_model.specs.Board.{board}
use Rattle.replay_model.specs.State.{Replay}
use Rattle.replay_model.specs.Items.{Ended, Makes, Move, item_at, verdict_on}
use Rattle.run_model.specs.Run.{Run}
use Rattle.run_model.specs.Legs.{MakesLeg, Runs}
use Rattle.replay_parts.specs.Boards.{Plain, first_board, state_of}
use Rattle.replay_parts.specs.Laws.{Reaches}
use Rattle.replay_parts.specs.Parts.{IsPart, until_by, until_in}
use Rattle.replay_parts.proofs.Advancing.{goes_there, parts_have_unit, parts_unmoved}
use Rattle.replay_parts.proofs.Led.{runs_count}
use Rattle.replay_parts.proofs.Within.{states_are}
use Rattle.replay_core.specs.declared.outcome.Outcome.{Outcome}
use Rattle.replay_core.specs.declared.replaying.Replaying.{Replaying}
use Rattle.replay_core.specs.Ends.{IsOutcomeOf}
use Rattle.replay_core.specs.Items.{IsStuck}
use Rattle.replay_core.specs.Standing.{ComesTo, IsAt}
use Rattle.replay_core.specs.Turns.{AreParts}
use Rattle.round_run.specs.Legs.{Goes, HaveGone, IsWithin, MayGo}
use Rattle.round_run.specs.Replays.{AreAllParts, AreLed, HadTurn, HadTurns, HasMoved, MayAllMove, MayMove, SameReplay, Settles, SomeHasMoved, Sweeps, left_in}
use Rattle.round_run.proofs.Going.{run_at}
use Rattle.round_run.proofs.Replaying.{made, part_is_led}

pub led_at_all : (n : ℕ) (p : Plain) (runs : List Run) → AreLed n p runs → AreLed 0 p runs
led_at_all n p runs led = record {
  at = led.at;
  reaches = led.reaches;
  number = led.number;
  each = led.each;
  parts = λ h r less at. absurd (omega (arith, less));
}

pub same_then : (p m q : Plain) → SameReplay p m → SameReplay m q → SameReplay p q
same_then p m q one two = (two.0 ∙ one.0, two.1 ∙ one.1)

-- a sweep begins
pub turns_begin : (p : Plain) (runs : List Run) (untils : List (Option ℕ)) → AreLed 0 p runs → length untils ≡ 8 → HadTurns 0 p p runs runs untils false
turns_begin p runs untils led places = record {
  same = (refl, refl);
  led = led;
  places = places;
  rest = λ g l. refl;
  less = λ t. absurd (true≢false (sym t));
  still = λ f. refl;
  told = λ f h less. absurd (omega (arith, less));
  unmoved = λ f h r less at moved. absurd (omega (arith, less));
}

at_most : (n : ℕ) (p q : Plain) (before after : List Run) (untils : List (Option ℕ)) (changed : Bool) → HadTurns n p q before after untils changed
    → left_in q ≤ left_in p
at_most n p q before after untils true so = let l = so.less refl in omega (arith, l)
at_most n p q before after untils false so = let l = ap left_in (so.still refl) in omega (arith, l)

-- and goes on by a turn
pub turns_more : (i : ℕ) (p m q : Plain) (before mid after : List Run) (olds untils : List (Option ℕ)) (changed one now : Bool)
    → HadTurns i p m before mid olds changed → HadTurn i m q mid after olds untils one → (one ≡ true → now ≡ true) → (one ≡ false → now ≡ changed)
    → HadTurns (i + 1) p q before after untils now
turns_more i p m q before mid after olds untils changed true now so turn then_so else_so = record {
  same = same_then p m q so.same turn.same;
  led = turn.led;
  places = turn.places ∙ so.places;
  rest = λ g l. turn.others g (λ e. absurd (omega (arith, l, e))) ∙ so.rest g (omega (arith, l));
  less = λ t. let l = turn.less refl in let most = at_most i p m before mid olds changed so in omega (arith, l, most);
  still = λ f. absurd (true≢false (sym (then_so refl) ∙ f));
  told = λ f. absurd (true≢false (sym (then_so refl) ∙ f));
  unmoved = λ f. absurd (true≢false (sym (then_so refl) ∙ f));
}
turns_more i p m q before mid after olds untils changed false now so turn then_so else_so =
    let stays = turn.still refl in
    let same : changed ≡ now = sym (else_so refl) in
    record {
      same = same_then p m q so.same turn.same;
      led = turn.led;
      places = turn.places ∙ so.places;
      rest = λ g l. turn.others g (λ e. absurd (omega (arith, l, e))) ∙ so.rest g (omega (arith, l));
      less = λ t. subst (λ z. left_in z < left_in p) (sym stays.0) (so.less (same ∙ t));
      still = λ f. stays.0 ∙ so.still (same ∙ f);
      told = λ f h less. elim (cases_eq h i) [
        | inl is ↦ subst (λ g. MayMove q g (slice_index_or untils g None)) (sym is) turn.told
        | inr n ↦
            subst (MayMove q h) (sym (turn.olds_stay h n))
            (subst (λ z. MayMove z h (slice_index_or olds h None)) (sym stays.0) (so.told (same ∙ f) h (omega (arith, less, n))))
      ];
      unmoved = λ f h r less at moved. elim (cases_eq h i) [
        | inl is ↦
            stays.1 r (so.rest i (omega arith) ∙ ap (slice_get before) (sym is) ∙ at)
            (subst (λ z. HasMoved z i r) (sym (so.still (same ∙ f))) (subst (λ g. HasMoved p g r) is moved))
        | inr n ↦ so.unmoved (same ∙ f) h r (omega (arith, less, n)) at moved
      ];
    }

-- sweeps
pub sweeps_begin : (p : Plain) (runs : List Run) (untils : List (Option ℕ)) → AreLed 0 p runs → length untils ≡ 8 → Sweeps p p runs runs untils
sweeps_begin p runs untils led places = record { same = (refl, refl); led = led; places = places; less = inl (refl, refl) }

pub sweeps_more : (n : ℕ) (p m q : Plain) (before mid after : List Run) (olds untils : List (Option ℕ)) → Sweeps p m before mid olds
    → HadTurns n m q mid after untils true → Sweeps p q before after untils
sweeps_more n p m q before mid after olds untils so turns = record {
  same = same_then p m q so.same turns.same;
  led = led_at_all n q after turns.led;
  places = turns.places;
  less =
      let l = turns.less refl in
      elim so.less [
        | inl none ↦ inr (let k = ap left_in none.0 in omega (arith, l, k))
        | inr k ↦ inr (omega (arith, l, k))
      ];
}

pub sweeps_end : (p m q : Plain) (before mid after : List Run) (olds untils : List (Option ℕ)) → Sweeps p m before mid olds
    → HadTurns (length m.log.streams) m q mid after untils false → Settles p q before after untils
sweeps_end p m q before mid after olds untils so turns =
    let long : length m.log.streams ≡ length q.log.streams = sym (ap (λ (l : Log). length l.streams) turns.same.0) in
    record {
      same = same_then p m q so.same turns.same;
      led = subst (λ n. AreLed n q after) long turns.led;
      places = turns.places;
      told = λ h less. turns.told refl h (omega (arith, less, long));
      less = λ some. elim so.less [
        | inl none ↦
            let at : slice_get mid some.0 ≡ Some some.1.0 = ap (λ rs. slice_get rs some.0) none.1 ∙ some.1.1.0 in
            let less : some.0 < length m.log.streams =
            (let l = slice_get_within mid some.0 some.1.0 at in let n = so.led.number in omega (arith, l, n)) in
            absurd (turns.unmoved refl some.0 some.1.0 less at (subst (λ z. HasMoved z some.0 some.1.0) (sym none.0) some.1.1.1))
        | inr k ↦ subst (λ z. left_in z < left_in p) (sym (turns.still refl)) k
      ];
    }

-- runs that are parts may make the legs that their harts were told
may_go_by : (p : Plain) (s : Replay FlatState) (h : ℕ) (r : Run) (until : Option ℕ) → Reaches p s → IsPart p h r → MayMove p h until → IsWithin r until
may_go_by p s h r None reaches is may = tt
may_go_by p s h r (Some until) reaches is may = let w = (parts_unmoved p s h r reaches is).within in let k = may.2 in omega (arith, w, k)

pub parts_may_go : (p : Plain) (runs : List Run) (untils : List (Option ℕ)) → AreAllParts p runs → MayAllMove p untils → MayGo runs untils
parts_may_go p runs untils led told h r less at =
    let inside : h < length p.log.streams = (let n = led.number in omega (arith, less, n)) in
    may_go_by p led.at h r (slice_index_or untils h None) led.reaches
    (led.parts h r inside (slice_get_read runs (length runs) h r refl less at)) (told h inside)

within_by : (p : Plain) (h : ℕ) (until : Option ℕ) → MayMove p h until → IfSome until (λ n. n ≤ until_in p.log (state_of p) h)
within_by p h None may = tt
within_by p h (Some until) may = let k = may.2 in omega (arith, k)

-- and behind them they are led
pub parts_led : (p : Plain) (runs after : List Run) (untils : List (Option ℕ)) → AreAllParts p runs → MayAllMove p untils → HaveGone runs after untils
    → AreLed 0 p after
parts_led p runs after untils led told gone = record {
  at = led.at;
  reaches = led.reaches;
  number = gone.number ∙ led.number;
  each = λ h x at.
      let less : h < length runs = (let l = slice_get_within after h x at in let n = gone.number in omega (arith, l, n)) in
      let inside : h < length p.log.streams = (let n = led.number in omega (arith, less, n)) in
      record {
        part = slice_index_or runs h x;
        is = led.parts h (slice_index_or runs h x) inside (run_at runs h x less);
        until = slice_index_or untils h None;
        goes =
            subst (λ r. Goes (slice_index_or runs h x) r (slice_index_or untils h None)) (get_or_from_slice_get after h x x at) (gone.each h x less);
        within = within_by p h (slice_index_or untils h None) (told h inside);
      };
  parts = λ h r less at. absurd (omega (arith, less));
}

-- a hart whose next item is a move stands below the count of its entry
below_entry : (n : ℕ) (e : Entry) → item_at n (Some e) ≡ Move → n ≤ count_of e → n < count_of e
below_entry n e is most = elim (cases_lt n (count_of e)) [
  | inl less ↦ less
  | inr least ↦
      absurd (by (is_end e) (sym (ap (λ b. if not b then Move else if is_end e then Ended else Makes e)
      (eq-eqb (count_of e) n (omega (arith, most, least)))) ∙ is))
] where
  by : (b : Bool) → (if b then Ended else Makes e) ≡ Move → ⊥
  by true k = cc
  by false k = cc

-- one that may move makes a move in its leg
module _ (p : Plain) (s : Replay FlatState) (h until : ℕ) (r after : Run) (reaches : Reaches p s) (inside : h < length p.log.streams) (is : IsPart p h r)
    (may : MayMove p h (Some until)) (went : Goes r after (Some until)) where
  leg : MakesLeg (unit_of p.log) after went.0 h until (state_of p)
  leg =
      subst (λ u. MakesLeg u after went.0 h until (state_of p)) (parts_have_unit p s h r reaches is) (made p s h until r after reaches is went)

  pub leg_moves : HasMoved p h after
  leg_moves = by leg.leg.moves leg.leg.runs where
    stood : slice_index (state_of p).flat.counts h ≡ slice_index p.counts h
    stood =
        ap (λ (x : Replay FlatState). slice_index x.flat.counts h) (states_are p s reaches) ∙ ap (λ cs. slice_index cs h) reaches.counts

    own : slice_index leg.at.flat.counts h ≡ after.count
    own = get_or_from_slice_get leg.at.flat.counts h after.count 0 leg.agrees.count

    short : slice_index (state_of p).flat.counts h < until
    short =
        let b = (goes_there p s reaches).behind h inside in
        let most = b.count in
        let less =
        below_entry (slice_index (state_of p).flat.counts h) b.entry (sym (ap (item_at (slice_index (state_of p).flat.counts h)) b.first) ∙ may.0) most in
        let until_is = may.2 in
        let entry = ap (until_by (slice_index (state_of p).flat.counts h)) b.first in
        omega (arith, less, until_is, entry)

    by : (n : ℕ) → Runs (board (unit_of p.log)) h n (state_of p) leg.at → HasMoved p h after
    by zero same =
        let c = ap (λ (x : Replay FlatState). slice_index x.flat.counts h) same in
        absurd (leg.leg.ends (let l = short in omega (arith, l, c))
        (ap (λ x. verdict_on (board (unit_of p.log)) x h Move) (sym same)
        ∙ ap (verdict_on (board (unit_of p.log)) (state_of p) h) (sym may.0) ∙ may.1))
    by (suc n) runs =
        let size = (goes_there p s reaches).good.sound.sized.counts_size in
        let wide = (goes_there p s reaches).good.sound.sized.harts_size in
        let c = runs_count (unit_of p.log) h (suc n) (state_of p) leg.at (omega (arith, inside, size, wide)) runs in
        let a = stood in
        let b = own in
        omega (arith, c, a, b)

-- where a hart may move its run has, behind the legs
pub some_moved : (p : Plain) (runs after : List Run) (untils : List (Option ℕ)) (h until : ℕ) → AreAllParts p runs → MayAllMove p untils
    → HaveGone runs after untils → h < length runs → slice_index_or untils h None ≡ Some until → SomeHasMoved p after
some_moved p runs after untils h until led told gone less is =
    let inside : h < length p.log.streams = (let n = led.number in omega (arith, less, n)) in
    let r = found_at after h (let n = gone.number in omega (arith, less, n)) in
    let went : Goes (slice_index_or runs h r.0) r.0 (Some until) =
    subst (Goes (slice_index_or runs h r.0) r.0) is
    (subst (λ x. Goes (slice_index_or runs h r.0) x (slice_index_or untils h None)) (get_or_from_slice_get after h r.0 r.0 r.1) (gone.each h r.0 less)) in (
      h,
      (
        r.0,
        (
          r.1,
          leg_moves p led.at h until (slice_index_or runs h r.0) r.0 led.reaches inside
              (led.parts h (slice_index_or runs h r.0) inside (run_at runs h r.0 less)) (subst (MayMove p h) is (told h inside)) went,
        ),
      ),
    )

-- some hart may move, and none
pub some_may : (untils : List (Option ℕ)) (n : ℕ) → list_any (λ u. is_some u) (take n untils) ≡ true
    → (h : ℕ) × ((until : ℕ) × ((h < n) × (slice_index_or untils h None ≡ Some until)))
some_may untils zero is = absurd (true≢false (sym is))
some_may [] (suc n) is = absurd (true≢false (sym is))
some_may (None ∷ untils) (suc n) is =
    let x = some_may untils n is in
    let l = x.1.1.0 in
    (suc x.0, (x.1.0, (omega (arith, l), x.1.1.1)))
some_may (Some until ∷ untils) (suc n) is = (0, (until, (omega arith, refl)))

pub none_may : (untils : List (Option ℕ)) (n h : ℕ) → list_any (λ u. is_some u) (take n untils) ≡ false → h < n → slice_index_or untils h None ≡ None
none_may untils zero h is less = absurd (omega (arith, less))
none_may [] (suc n) h is less = refl
none_may (Some until ∷ untils) (suc n) h is less = absurd (true≢false is)
none_may (None ∷ untils) (suc n) zero is less = refl
none_may (None ∷ untils) (suc n) (suc h) is less = none_may untils n h is (omega (arith, less))

pub none_goes : (p : Plain) (runs : List Run) (untils : List (Option ℕ)) → AreAllParts p runs → MayAllMove p untils
    → list_any (λ u. is_some u) (take (length runs) untils) ≡ false → IsStuck p.log (state_of p)
none_goes p runs untils led told none h less =
    subst (MayMove p h) (none_may untils (length runs) h none (let n = led.number in omega (arith, less, n))) (told h less)

-- a replay begins and ends
pub parts_begin : (p : Plain) (s : Replay FlatState) (runs : List Run) → Reaches p s → AreParts p runs → AreLed 0 p runs
parts_begin p s runs reaches are = record {
  at = s;
  reaches = reaches;
  number = are.number;
  each = λ h r at. part_is_led p h r (are.each h r at);
  parts = λ h r less at. absurd (omega (arith, less));
}

pub parts_end : (p : Plain) (runs : List Run) → AreAllParts p runs → AreParts p runs
parts_end p runs led = record {
  number = led.number;
  each = λ h r at. led.parts h r (let l = slice_get_within runs h r at in let n = led.number in omega (arith, l, n)) at;
}

pub comes_to : (log : Log) (image : Image) (p q : Plain) (stage : Replaying) (outcome : Outcome) → p ≡ first_board log image → SameReplay p q
    → IsAt q.image stage (state_of q) → stage.board.log ≡ q.log → ComesTo stage outcome → IsOutcomeOf log image outcome
comes_to log image p q stage outcome first same at log_is comes =
    subst (λ i. IsOutcomeOf log i outcome) (same.1 ∙ ap (λ (z : Plain). z.image) first)
    (subst (λ l. IsOutcomeOf l q.image outcome) (log_is ∙ same.0 ∙ ap (λ (z : Plain). z.log) first) (comes q.image (state_of q) at))
