-- Rounds until the board is over, and the last turns.
use Rattle.std.proofs.Common.{◌≡◌, ◌≢◌, ◌⊎◌, inl, inr, ℕ, zero, suc, ◌+◌, ◌*◌, ◌<◌, ◌≤◌, ◌==◌, not, nat_lt, Bool, true, false, List, [], ◌∷◌, ◌++◌}
use Rattle.std.proofs.Common.{length, replicate}
use Rattle.std.proofs.Common.{slice_get, slice_index, Option, Some, None, unwrap_or, refl, sym, ap, ◌∙◌, subst, arith, if◌then◌else◌}
use Rattle.std.proofs.lemmas.Bool.{lt-ltb, le-ltb, ltb-false, ltb-true}
use Rattle.std.proofs.lemmas.Bool.Decides.{eqb_tells}
use Rattle.std.proofs.Math.Nat.{mul-le-mul}
use Rattle.shared_types.proofs.Lists.{get_replicate}
use Rattle.orders_law.specs.Orders.{below}
use Rattle.elf_image.specs.Image.{Image, IsWhole}
use Rattle.log_entry.specs.declared.log.Log.{Log}
use Rattle.flat_machine.specs.declared.results.Final.{Final}
use Rattle.run_model.specs.Run.{Run}
use Rattle.turn_model.specs.Board.{harts, is_over}
use Rattle.turn_model.specs.Lists.{leg_by, whole_leg}
use Rattle.turn_model.specs.Rounds.{last_turns, round, rounds}
use Rattle.crew_parts.specs.Boards.{Plain, World, EndsAs, IsBoardOf, the_machine, board_of, is_over_in, plain_at_start, spent, terms_of, told_to}
use Rattle.crew_parts.specs.Parts.{IsPartAdvanced}
use Rattle.crew_parts.proofs.Laws.{moves_are_told}
use Rattle.crew_core.specs.declared.order.Order.{Order}
use Rattle.recorded_turns.specs.Laws.{left_in}
use Rattle.recorded_turns.specs.Recordings.{InRounds, RecordsInRounds}
use Rattle.recorded_turns.specs.Takes.{Takes}
use Rattle.recorded_turns.proofs.Loops.{last_turns_are_taken, last_turns_leave, recordings_are_taken, rounds_are_taken, terms_stay}
use Rattle.recorded_turns.proofs.Over.{first_round_is_taken, less_is_left, little_is_left, over_is_over}
use Rattle.recorded_turns.proofs.Recordings.{comes_out}
use Rattle.recorded_turns.proofs.Taking.{takes_none}
use Rattle.recorder.specs.Manned.{IsManned, HasTurnOf, leg_in, still, without}
use Rattle.recorder.proofs.Listing.{limits_of}
use Rattle.round_run.specs.Legs.{HaveStood, IsReady, ready_moves}
use Rattle.round_run.specs.Sweeps.{TakesRound}
use Rattle.round_run.specs.Rounds.{LastTurn, LastTurnsTo, RoundsEnd, TakesAll, TakesLast, TakesRounds, last_moves, rounds_in, start_of}
use Rattle.round_run.proofs.Sweeping.{manned_as}
use Rattle.crew_recording.proofs.Steady.{no_place}

-- before any turn no hart was told to go on
none_told : (p : Plain) (h : ℕ) → p ≡ start_of p → h < p.harts → leg_in p h ≡ 0
none_told p h start less =
    ap (leg_by the_machine (terms_of p) h (board_of p spent))
    (ap (λ (z : Plain). told_to z h) start ∙ ap (λ o. unwrap_or o None) (get_replicate p.harts h None less))

pub rounds_begin : (p : Plain) (runs : List Run) (orders : List (Option Order)) (stood : List ℕ) → p ≡ start_of p → IsManned p runs orders still
    → HaveStood p stood
    → TakesRounds 0 p p runs orders stood
rounds_begin p runs orders stood start is has_stood = record {
  takes = takes_none p;
  first = λ e. refl;
  few = omega arith;
  ready = manned_as p runs orders still (ready_moves true p) (λ h less. sym (none_told p h start less)) is;
  stays = has_stood;
}

-- by plain data
over_is : (p : Plain) → IsBoardOf p → is_over the_machine (terms_of p) (board_of p spent) ≡ is_over_in p
over_is p holds = over_is_over p spent holds.whole holds.reached holds.counts

-- a round more
its_round : (image : Image) (number limit log_limit : ℕ) (world : World) (n : ℕ) (m q : Plain)
    → (let start = plain_at_start image number limit log_limit world in
    IsWhole image → (n ≡ 0 → m ≡ start) → terms_of m ≡ terms_of start → Takes (terms_of m) (round the_machine (terms_of m) n true) m q
    → Takes (terms_of start) (round the_machine (terms_of start) n (not (n == 0))) m q)
its_round image number limit log_limit world n m q whole first same taken = by (eqb_tells n 0) where
  start : Plain
  start = plain_at_start image number limit log_limit world

  here : Takes (terms_of start) (round the_machine (terms_of start) n true) m q
  here = subst (λ t. Takes t (round the_machine t n true) m q) same taken

  by : (((n == 0) ≡ true) × (n ≡ 0)) ⊎ (((n == 0) ≡ false) × (n ≢ 0)) → Takes (terms_of start) (round the_machine (terms_of start) n (not (n == 0))) m q
  by (inr other) = subst (λ b. Takes (terms_of start) (round the_machine (terms_of start) n (not b)) m q) (sym other.0) here
  by (inl none) =
      subst (λ z. Takes (terms_of start) (round the_machine (terms_of start) n (not (n == 0))) z q) (sym (first none.1))
      (subst (λ k. Takes (terms_of start) (round the_machine (terms_of start) k (not (k == 0))) start q) (sym none.1)
      (first_round_is_taken image number limit log_limit world q whole
      (subst (λ k. Takes (terms_of start) (round the_machine (terms_of start) k true) start q) none.1
      (subst (λ z. Takes (terms_of start) (round the_machine (terms_of start) n true) z q) (first none.1) here))))

-- of a board that isn't over there is more left than of the one behind the next round
pub falls : (b : Bool) (left before : ℕ) → (b ≡ false → left < before) → (if b then 0 else left + 1) < before + 1
falls true left before less = omega arith
falls false left before less = let l = less refl in omega (arith, l)

pub round_more : (p m q : Plain) (n : ℕ) (runs_m runs_then runs : List Run) (orders_m orders_then orders : List (Option Order)) (stood stood_then : List ℕ)
    → p ≡ start_of p → IsBoardOf m → IsBoardOf q → is_over_in m ≡ false → TakesRounds n p m runs_m orders_m stood
    → TakesRound n m q runs_then orders_then → IsReady q runs orders true → HaveStood q stood_then
    → TakesRounds (n + 1) p q runs orders stood_then × (rounds_in q < rounds_in m)
round_more p m q n runs_m runs_then runs orders_m orders_then orders stood stood_then start holds later short so one ready has_stood = (
  record {
    takes = rounds_are_taken (terms_of p) n p m q so.takes is_short taken;
    first = λ e. absurd (omega (arith, e));
    few = let l = so.few in let k = less in omega (arith, l, k);
    ready = ready;
    stays = has_stood;
  },
  less,
) where
  same : terms_of m ≡ terms_of p
  same = terms_stay p m so.takes.same

  at_start : terms_of p ≡ terms_of (start_of p)
  at_start = ap terms_of start

  is_short : is_over the_machine (terms_of p) (board_of m spent) ≡ false
  is_short = subst (λ t. is_over the_machine t (board_of m spent) ≡ false) same (over_is m holds ∙ short)

  whole : IsWhole p.image
  whole = subst IsWhole so.takes.same.image holds.whole

  from_start : Takes (terms_of (start_of p)) (round the_machine (terms_of (start_of p)) n (not (n == 0))) m q
  from_start = its_round p.image p.harts p.limit p.log_limit p.first n m q whole (λ e. so.first e ∙ start) (same ∙ at_start) one.takes

  taken : Takes (terms_of p) (round the_machine (terms_of p) n (not (n == 0))) m q
  taken = subst (λ t. Takes t (round the_machine t n (not (n == 0))) m q) (sym at_start) from_start

  short_m : is_over the_machine (terms_of m) (board_of m spent) ≡ false
  short_m = over_is m holds ∙ short

  less : rounds_in q < rounds_in m
  less =
      subst (λ b. rounds_in q < (if b then 0 else left_in m + 1)) (sym short)
      (falls (is_over_in q) (left_in q) (left_in m) (λ open_still.
      less_is_left p.image p.harts p.limit p.log_limit n p.first m q whole
      (subst (λ z. Takes (terms_of z) (rounds the_machine (terms_of z) 0 n) z m) start so.takes) short_m from_start (over_is q later ∙ open_still)))

-- the number of a round
pub few_rounds : (p m : Plain) (n : ℕ) (runs : List Run) (orders : List (Option Order)) (stood : List ℕ) → IsBoardOf p → p.limit ≤ 1000000000000
    → is_over_in m ≡ false → TakesRounds n p m runs orders stood → n + 1 ≤ 2 * (8 * 1000000000000) + 2
few_rounds p m n runs orders stood holds most short so =
    let few = so.few in
    let some : rounds_in m ≡ left_in m + 1 = ap (λ b. if b then 0 else left_in m + 1) short in
    let top = most_in (is_over_in p) (left_in p) in
    let little = little_is_left p in
    let size = times (length p.streams) 8 p.limit 1000000000000 (let s = holds.streams in let k = holds.few in omega (arith, s, k)) most in
    omega (arith, few, some, top, little, size)
  where
    most_in : (b : Bool) (left : ℕ) → (if b then 0 else left + 1) ≤ left + 1
    most_in true left = omega arith
    most_in false left = omega arith

    times : (a b x y : ℕ) → a ≤ b → x ≤ y → a * x ≤ b * y
    times a b x y one two = mul-le-mul one two

-- the last turns
pub last_begins : (p : Plain) (runs : List Run) (orders : List (Option Order)) (stood : List ℕ) → IsReady p runs orders true → HaveStood p stood
    → LastTurnsTo 0 p p runs orders stood
last_begins p runs orders stood ready has_stood = record {
  takes = takes_none p;
  manned = manned_as p runs orders (ready_moves true p) (last_moves 0 p) (λ h less. ap (λ b. if b then 0 else leg_in p h) (sym (le-ltb h 0 (omega arith))))
      ready;
  stays = λ h from less. has_stood h less;
}

-- a run stands as many moves ahead as it has made
ahead : (p : Plain) (h n : ℕ) (r : Run) → IsBoardOf p → h < p.harts → IsPartAdvanced p h n r → r.count ≡ slice_index p.counts h + n
ahead p h n r holds inside is =
    (moves_are_told p h n r (record { whole = holds.whole; reached = holds.reached; counts = holds.counts; hart = inside; part = is })).0

-- the harts up to this one have no leg left, and this one has
not_before : (i : ℕ) → nat_lt i i ≡ false
not_before i = le-ltb i i (omega arith)

its_moves : (p : Plain) (h : ℕ) → last_moves h p h ≡ leg_in p h
its_moves p h = ap (λ b. if b then 0 else leg_in p h) (not_before h)

pub last_rests : (p : Plain) (runs : List Run) (orders : List (Option Order)) (h stood : ℕ) (r : Run) → IsBoardOf p → h < p.harts
    → IsManned p runs orders (last_moves h p) → slice_get runs h ≡ Some r → stood ≡ slice_index p.counts h → r.count ≡ stood
    → LastTurn p p h (last_moves h p) runs orders
last_rests p runs orders h stood r holds inside is here at same =
    inl (
      (let a = ahead p h (leg_in p h) r holds inside (subst (λ n. IsPartAdvanced p h n r) (its_moves p h) (is.each h r here)) in omega (arith, a, at, same)),
      refl,
      is,
    )

pub last_moves_on : (p q : Plain) (runs runs_then : List Run) (orders orders_then : List (Option Order)) (h stood : ℕ) (r : Run) → IsBoardOf p → h < p.harts
    → IsManned p runs orders (last_moves h p) → slice_get runs h ≡ Some r → stood ≡ slice_index p.counts h → r.count ≢ stood
    → HasTurnOf p q h (last_moves h p) runs_then orders_then → LastTurn p q h (last_moves h p) runs_then orders_then
last_moves_on p q runs runs_then orders orders_then h stood r holds inside is here at other turn =
    inr (
      some (leg_in p h) (λ none. other (let a = ahead p h (leg_in p h) r holds inside
          (subst (λ n. IsPartAdvanced p h n r) (its_moves p h) (is.each h r here)) in omega (arith, a, at, none))),
      turn,
    )
  where
    some : (n : ℕ) → n ≢ 0 → 0 < n
    some zero n = absurd (n refl)
    some (suc k) n = omega arith

lt_tells : (a b : ℕ) → ((nat_lt a b ≡ true) × (a < b)) ⊎ ((nat_lt a b ≡ false) × (b ≤ a))
lt_tells a b = by (nat_lt a b) refl where
  by : (t : Bool) → nat_lt a b ≡ t → ((nat_lt a b ≡ true) × (a < b)) ⊎ ((nat_lt a b ≡ false) × (b ≤ a))
  by true e = inl (e, ltb-true a b e)
  by false e = inr (e, ltb-false a b e)

-- the legs that are left behind the next hart
left_same : (i g : ℕ) (x y : ℕ) → (g ≢ i → i < g → x ≡ y) → g ≢ i → (if nat_lt g i then 0 else x) ≡ (if nat_lt g (i + 1) then 0 else y)
left_same i g x y same other = elim (lt_tells g i) [
  | inl before ↦ ap (λ b. if b then 0 else x) before.0 ∙ sym (ap (λ b. if b then 0 else y) (lt-ltb g (i + 1) (let l = before.1 in omega (arith, l))))
  | inr behind ↦
      let more : i < g = (let l = behind.1 in omega (arith, l, other)) in
      ap (λ b. if b then 0 else x) behind.0 ∙ same other more ∙ sym (ap (λ b. if b then 0 else y) (le-ltb g (i + 1) (omega (arith, more))))
]

left_none : (i : ℕ) (y : ℕ) → 0 ≡ (if nat_lt i (i + 1) then 0 else y)
left_none i y = sym (ap (λ b. if b then 0 else y) (lt-ltb i (i + 1) (omega arith)))

below_next : (i : ℕ) → below (i + 1) ≡ below i ++ i ∷ []
below_next i = let next : i + 1 ≡ suc i = omega arith in ap below next

pub last_more : (i : ℕ) (p m q : Plain) (runs runs_then : List Run) (orders orders_then : List (Option Order)) (stood : List ℕ) → i < m.harts
    → LastTurnsTo i p m runs orders stood → LastTurn m q i (last_moves i m) runs_then orders_then → LastTurnsTo (i + 1) p q runs_then orders_then stood
last_more i p m q runs runs_then orders orders_then stood inside so (inl rest) = record {
  takes =
      subst (λ hs. Takes (terms_of p) (last_turns the_machine (terms_of p) hs) p q) (sym (below_next i))
      (subst (λ z. Takes (terms_of p) (last_turns the_machine (terms_of p) (below i ++ i ∷ [])) p z) (sym rest.1)
      (last_turns_leave (terms_of p) (below i) p m i so.takes
      (ap (λ t. whole_leg the_machine t i (board_of m spent)) (sym (terms_stay p m so.takes.same)) ∙ rest.0)));
  manned = manned_as q runs_then orders_then (last_moves i m) (last_moves (i + 1) q) (λ g less. each g (eqb_tells g i)) rest.2;
  stays = λ g from less.
      subst (λ (z : Plain). slice_index stood g ≡ slice_index z.counts g) (sym rest.1)
      (so.stays g (omega (arith, from)) (let n = ap (λ (z : Plain). z.harts) rest.1 in omega (arith, n, less)));
} where
  each : (g : ℕ) → (((g == i) ≡ true) × (g ≡ i)) ⊎ (((g == i) ≡ false) × (g ≢ i)) → last_moves i m g ≡ last_moves (i + 1) q g
  each g (inl here) = ap (λ k. last_moves i m k) here.1 ∙ its_moves m i ∙ rest.0 ∙ left_none i (leg_in q i) ∙ sym (ap (last_moves (i + 1) q) here.1)
  each g (inr other) = left_same i g (leg_in m g) (leg_in q g) (λ n l. ap (λ z. leg_in z g) (sym rest.1)) other.1
last_more i p m q runs runs_then orders orders_then stood inside so (inr turned) = record {
  takes =
      subst (λ hs. Takes (terms_of p) (last_turns the_machine (terms_of p) hs) p q) (sym (below_next i))
      (last_turns_are_taken (terms_of p) (below i) p m q i turn.before turn.after turn.order so.takes turn.had
      (made ∙ ap (λ t. whole_leg the_machine t i (board_of m spent)) (terms_stay p m so.takes.same))
      (subst (λ n. 0 < n) (sym made) turned.0));
  manned =
      manned_as q runs_then orders_then (without i (last_moves i m)) (last_moves (i + 1) q) (λ g less. each g less (eqb_tells g i)) turn.manned;
  stays = λ g from less.
      let inside_too : g < m.harts = (let n = turn.had.terms.harts in omega (arith, n, less)) in
      so.stays g (omega (arith, from)) inside_too ∙ sym (turn.counts g inside_too (λ e. absurd (omega (arith, e, from))));
} where
  turn : HasTurnOf m q i (last_moves i m) runs_then orders_then
  turn = turned.1

  made : turn.had.moves ≡ leg_in m i
  made = turn.made ∙ its_moves m i

  each : (g : ℕ) → g < q.harts → (((g == i) ≡ true) × (g ≡ i)) ⊎ (((g == i) ≡ false) × (g ≢ i)) → without i (last_moves i m) g ≡ last_moves (i + 1) q g
  each g less (inl here) =
      ap (λ b. if b then 0 else last_moves i m g) here.0 ∙ left_none i (leg_in q i) ∙ sym (ap (last_moves (i + 1) q) here.1)
  each g less (inr other) =
      ap (λ b. if b then 0 else last_moves i m g) other.0
      ∙ left_same i g (leg_in m g) (leg_in q g) (λ n l. sym (turn.legs g (let k = turn.had.terms.harts in omega (arith, k, less)) n)) other.1

pub last_ends : (p q : Plain) (runs : List Run) (orders : List (Option Order)) (stood : List ℕ) → LastTurnsTo p.harts p q runs orders stood
    → TakesLast p q runs orders
last_ends p q runs orders stood so = record {
  takes = so.takes;
  manned =
      manned_as q runs orders (last_moves p.harts q) still
      (λ h less. ap (λ b. if b then 0 else leg_in q h) (lt-ltb h p.harts (let n = so.takes.same.harts in omega (arith, n, less)))) so.manned;
}

-- rounds, and the turns behind them
pub all_taken : (p m q : Plain) (runs_m runs : List Run) (orders_m orders : List (Option Order)) (stood : List ℕ) → IsBoardOf m
    → RoundsEnd p m runs_m orders_m stood → TakesLast m q runs orders → TakesAll p q runs orders
all_taken p m q runs_m runs orders_m orders stood holds ends last = record {
  taken = recordings_are_taken (terms_of p) ends.number p m q ends.made.takes over turns;
  terms = terms_stay m q last.takes.same ∙ same;
  manned = last.manned;
} where
  same : terms_of m ≡ terms_of p
  same = terms_stay p m ends.made.takes.same

  over : is_over the_machine (terms_of p) (board_of m spent) ≡ true
  over = subst (λ t. is_over the_machine t (board_of m spent) ≡ true) same (over_is m holds ∙ ends.over)

  turns : Takes (terms_of p) (last_turns the_machine (terms_of p) (harts (board_of m spent))) m q
  turns =
      subst (λ n. Takes (terms_of p) (last_turns the_machine (terms_of p) (below n)) m q) (sym holds.streams)
      (subst (λ t. Takes t (last_turns the_machine t (below m.harts)) m q) same last.takes)

-- no hart has moved before any turn
pub none_stood : (p : Plain) (n : ℕ) → p ≡ start_of p → HaveStood p (replicate n 0)
none_stood p n start h less = no_place n h ∙ sym (no_place p.harts h) ∙ ap (λ (z : Plain). slice_index z.counts h) (sym start)

-- a board before any turn
pub is_start : (p : Plain) (image : Image) (number limit log_limit : ℕ) (world : World) → p ≡ plain_at_start image number limit log_limit world → p ≡ start_of p
is_start p image number limit log_limit world is = is ∙ ap start_of (sym is)

-- what was recorded
pub rounds_recorded : (image : Image) (number limit log_limit : ℕ) (world after : World) (p q : Plain) (runs : List Run) (orders : List (Option Order))
    (log : Log)
    (ended : Final) (journal turns : List (ℕ × ℕ)) → IsWhole image → 1 ≤ number → number ≤ 8 → limit ≤ 1000000000000 → 1024 ≤ log_limit
    → log_limit ≤ 536870912 → p ≡ plain_at_start image number limit log_limit world → TakesAll p q runs orders → EndsAs q log ended journal turns
    → after ≡ q.now → RecordsInRounds (plain_at_start image number limit log_limit world) after log ended journal turns
rounds_recorded image number limit log_limit world after p q runs orders log ended journal turns whole some few most least_log most_log is takes ends now =
    let start = plain_at_start image number limit log_limit world in
    let t = subst (λ z. TakesAll z q runs orders) is takes in
    subst (λ w. RecordsInRounds start w log ended journal turns) (sym now)
    (comes_out {Kind = InRounds} image number limit log_limit world q log ended journal turns
    (limits_of image number limit log_limit world whole some few most least_log most_log) t.terms t.taken ends)
