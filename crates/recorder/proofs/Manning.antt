-- Runs at hand: advanced, and behind turns.
use Rattle.std.proofs.Common.{◌≡◌, ◌≢◌, ◌⊎◌, inl, inr, ℕ, ◌+◌, ◌-◌, ◌<◌, ◌≤◌, ◌==◌, min, true, List, length, replicate, Option, Some, None, slice_get}
use Rattle.std.proofs.Common.{slice_index, slice_index_or}
use Rattle.std.proofs.Common.{slice_set, unwrap_or, false, refl, sym, ap, ap₂, ◌∙◌, subst, arith, if◌then◌else◌}
use Rattle.std.proofs.lemmas.Bool.Decides.{eqb_tells}
use Rattle.std.proofs.lemmas.List.{length-set, length-replicate}
use Rattle.std.proofs.lemmas.Option.{same_Some, get_or_from_slice_get, slice_get-get_or, slice_get_read, slice_get_within}
use Rattle.shared_types.proofs.Lists.{found_at, set_here, set_there, set_where, get_replicate}
use Rattle.rv_words.specs.Limits.{page_bytes}
use Rattle.elf_image.specs.Image.{Image, IsWhole}
use Rattle.replay_model.specs.Board.{board}
use Rattle.replay_model.specs.State.{Replay, IsCrewState}
use Rattle.run_model.specs.Run.{Run}
use Rattle.run_model.specs.Agreement.{Agrees}
use Rattle.run_model.specs.Legs.{KeepsPages, MakesLeg}
use Rattle.run_model.specs.declared.asked.Pause.{Pause}
use Rattle.hart_run.specs.Calls.{LegAgrees}
use Rattle.turn_model.specs.Board as model
use Rattle.turn_model.specs.Board.{Go, Hold, Rest}
use Rattle.turn_model.specs.Lists.{leg_by}
use Rattle.turn_laws.specs.Supplies.{followed_by}
use Rattle.crew_parts.specs.Boards.{Plain, World, IsBoardOf, the_machine, board_of, plain_at_start, spent, state_of, terms_of, told_to}
use Rattle.crew_parts.specs.Laws.{IsTurnOf}
use Rattle.crew_parts.specs.Parts.{AreParts, IsPart, IsPartAdvanced, IsPartMoved, Part, number_of, until_by, until_of}
use Rattle.crew_parts.specs.Turns.{HasTurn}
use Rattle.crew_parts.proofs.Laws.{parts_are_numbered, parts_have_unit}
use Rattle.crew_core.proofs.Hands.{counted}
use Rattle.crew_core.specs.declared.order.Order.{Order}
use Rattle.crew_core.specs.Orders.{told, told_of}
use Rattle.recorded_turns.proofs.Advanced.{others_stay_advanced, others_stay_told, parts_are_advanced, rows_advance, turns_leave_parts}
use Rattle.recorded_turns.proofs.Taking.{gives_none, gives_then}
use Rattle.recorder.specs.Manned.{Advances, HasGiven, IsManned, HasTurnOf, leg_in, row_moves, still, without}

-- room for a turn changes nothing of it
room_advanced : (p : Plain) (h n : ℕ) (r : Run) → IsPartAdvanced p h n r → IsPartAdvanced (record p { prepared = true }) h n r
unfolding state_of
room_advanced p h n r is = record {
  led = record {
    at = is.led.at;
    runs = is.led.runs;
    differ = is.led.differ;
    memory = is.led.memory;
    agrees = is.led.agrees;
  };
  within = is.within;
}

pub room_moved : (p q : Plain) (r : Run) → q ≡ record p { prepared = true } → IsPartMoved p r → IsPartMoved q r
room_moved p q r is moved = subst (λ z. IsPartMoved z r) (sym is) (moved.0, room_advanced p (number_of r) moved.0 r moved.1)

roomy_turn : (p q : Plain) (h : ℕ) (r after : Run) (order : model.Order) → HasTurn (record p { prepared = true }) q h r after order
    → HasTurn p q h r after order
unfolding state_of
roomy_turn p q h r after order is = record {
  moves = is.moves;
  moved = is.moved;
  given = is.given;
  gives = is.gives;
  turned = is.turned;
  faults = is.faults;
  sent = is.sent;
  told = is.told;
  exact = is.exact;
  part = is.part;
  others = is.others;
  runs = is.runs;
  terms = record {
    image = is.terms.image;
    harts = is.terms.harts;
    limit = is.terms.limit;
    log_limit = is.terms.log_limit;
    first = is.terms.first;
  };
  abandoned = is.abandoned;
  used = is.used;
}

pub room_turn : (p m q : Plain) (h : ℕ) (r after : Run) (order : model.Order) → m ≡ record p { prepared = true } → HasTurn m q h r after order
    → HasTurn p q h r after order
room_turn p m q h r after order is turn = roomy_turn p q h r after order (subst (λ z. HasTurn z q h r after order) is turn)

-- the run is its hart's part, moved
pub moved_of : (p : Plain) (h n : ℕ) (r : Run) → IsBoardOf p → IsPartAdvanced p h n r → IsPartMoved p r × (number_of r ≡ h)
moved_of p h n r holds is =
    let number = parts_are_numbered p h n r holds.whole holds.reached is in
    ((n, subst (λ k. IsPartAdvanced p k n r) (sym number) is), number)

pub turn_of : (p : Plain) (h n : ℕ) (r : Run) → IsBoardOf p → h < p.harts → IsPartAdvanced p h n r → IsTurnOf p h n r
turn_of p h n r holds inside is =
    record { whole = holds.whole; reached = holds.reached; counts = holds.counts; hart = inside; part = is }

-- behind a turn of a hart
pub manned_turn : (p q : Plain) (runs : List Run) (orders : List (Option Order)) (moves : ℕ → ℕ) (h : ℕ) (r after : Run) (order : Order)
    → IsBoardOf p → IsBoardOf q → h < p.harts → slice_get runs h ≡ Some r → IsManned p runs orders moves → HasTurn p q h r after (told order)
    → HasTurnOf p q h moves (slice_set runs h after) (slice_set orders h (Some order))
manned_turn p q runs orders moves h r after order holds later inside here is had = record {
  before = r;
  after = after;
  order = told order;
  had = had;
  made = leave.0;
  manned = record {
    number = length-set runs h after ∙ is.number ∙ sym had.terms.harts;
    places = let n = length-set orders h (Some order) in let k = had.terms.harts in let l = is.places in omega (arith, n, k, l);
    each = λ g x at. each g x at (eqb_tells g h);
    told = λ g o at less. told_then g o at less (eqb_tells g h);
  };
  legs = λ g less other. (others_stay_advanced p q h (moves h) g (moves g) r after (run_of g less) (told order) from had less other (part_of_run g less)).1;
  counts = λ g less other.
      ap (λ ks. slice_index ks g) later.counts ∙ ap (λ (z : Part). z.count) (had.others g less other) ∙ sym (ap (λ ks. slice_index ks g) holds.counts);
} where
  from : IsTurnOf p h (moves h) r
  from = turn_of p h (moves h) r holds inside (is.each h r here)

  leave : (had.moves ≡ moves h) × IsPartAdvanced q h 0 after
  leave = turns_leave_parts p q h (moves h) r after (told order) from later.counts had

  run_at : (g : ℕ) → g < p.harts → (x : Run) × (slice_get runs g ≡ Some x)
  run_at g less = let n = is.number in found_at runs g (omega (arith, less, n))

  run_of : (g : ℕ) → g < p.harts → Run
  run_of g less = (run_at g less).0

  part_of_run : (g : ℕ) (less : g < p.harts) → IsPartAdvanced p g (moves g) (run_of g less)
  part_of_run g less = is.each g (run_of g less) (run_at g less).1

  each : (g : ℕ) (x : Run) → slice_get (slice_set runs h after) g ≡ Some x → (((g == h) ≡ true) × (g ≡ h)) ⊎ (((g == h) ≡ false) × (g ≢ h))
      → IsPartAdvanced q g (without h moves g) x
  each g x at (inl same) =
      subst (λ n. IsPartAdvanced q g n x) (sym (ap (λ b. if b then 0 else moves g) same.0))
      (subst (λ k. IsPartAdvanced q k 0 x) (sym same.1)
      (subst (IsPartAdvanced q h 0) (same_Some _ _ (sym (set_where runs h after r here) ∙ ap (slice_get (slice_set runs h after)) (sym same.1) ∙ at)) leave.1))
  each g x at (inr other) =
      let old = sym (set_there runs h g after other.1) ∙ at in
      let less : g < p.harts = (let l = slice_get_within runs g x old in let n = is.number in omega (arith, l, n)) in
      subst (λ n. IsPartAdvanced q g n x) (sym (ap (λ b. if b then 0 else moves g) other.0))
      (others_stay_advanced p q h (moves h) g (moves g) r after x (told order) from had less other.1 (is.each g x old)).0

  told_then : (g : ℕ) (o : Option Order) → slice_get (slice_set orders h (Some order)) g ≡ Some o → g < q.harts
      → (((g == h) ≡ true) × (g ≡ h)) ⊎ (((g == h) ≡ false) × (g ≢ h)) → told_to q g ≡ told_of o
  told_then g o at less (inl same) =
      let l : h < length orders = (let w = slice_get_within (slice_set orders h (Some order)) g o at in
      let n = length-set orders h (Some order) in let e = same.1 in omega (arith, w, n, e)) in
      ap (told_to q) same.1 ∙ had.told
      ∙ ap told_of (same_Some _ _ (sym (set_here orders h (Some order) l) ∙ ap (slice_get (slice_set orders h (Some order))) (sym same.1) ∙ at))
  told_then g o at less (inr other) =
      let inside_too : g < p.harts = (let n = had.terms.harts in omega (arith, less, n)) in
      others_stay_told p q h (moves h) g r after (told order) from had inside_too other.1
      ∙ is.told g o (sym (set_there orders h g (Some order) other.1) ∙ at) inside_too

-- a run that was not told to go on has no leg
not_told : (p : Plain) (h most : ℕ) (r after : Run) → leg_in p h ≡ 0 → IsPartAdvanced p h 0 r → after ≡ r → IsPartAdvanced p h (min most (leg_in p h)) after
not_told p h most r after none is same =
    subst (λ n. IsPartAdvanced p h n after) (sym (ap (min most) none ∙ least most)) (subst (IsPartAdvanced p h 0) (sym same) is) where
      least : (n : ℕ) → min n 0 ≡ 0
      least n = omega arith

-- a run that has made no move is the hart's part
pub part_of_still : (p : Plain) (h : ℕ) (r : Run) → IsPartAdvanced p h 0 r → IsPart p h r
part_of_still p h r is = subst (Agrees r h) (sym is.led.runs) is.led.agrees

-- the run of a hart goes on by a row of a list
row_advances : (p : Plain) (h most : ℕ) (r after : Run) (order : Option model.Order) → IsBoardOf p → h < p.harts → IsPartAdvanced p h 0 r
    → told_to p h ≡ order → Advances r after order most → IsPartAdvanced p h (min most (leg_in p h)) after
row_advances p h most r after None holds inside is is_told went =
    not_told p h most r after (ap (leg_by the_machine (terms_of p) h (board_of p spent)) is_told) is went
row_advances p h most r after (Some Rest) holds inside is is_told went =
    not_told p h most r after (ap (leg_by the_machine (terms_of p) h (board_of p spent)) is_told) is went
row_advances p h most r after (Some (Hold page g)) holds inside is is_told went =
    not_told p h most r after (ap (leg_by the_machine (terms_of p) h (board_of p spent)) is_told) is went
row_advances p h most r after (Some (Go until)) holds inside is is_told went =
    let part = part_of_still p h r is in
    let unit = parts_have_unit p h r holds.whole holds.reached inside part in
    let leg = went.2 h (state_of p) (subst (λ u. IsCrewState (board u) (state_of p)) (sym unit) holds.crew) part in
    rows_advance p h until most r after went.0 holds.whole holds.reached holds.counts is_told part went.1
    (subst (λ n. MakesLeg page_bytes after went.0 h (min until (n + most)) (state_of p)) (sym (counted p h r holds part))
    (subst (λ u. MakesLeg u after went.0 h (min until (r.count + most)) (state_of p)) unit leg))

-- as far as it was told
pub may_go : (p : Plain) (h : ℕ) (r : Run) (order : Option Order) → IsBoardOf p → IsPartAdvanced p h 0 r → told_to p h ≡ told_of order
    → r.count ≤ until_by r.count (told_of order)
may_go p h r order holds is is_told =
    subst (λ n. r.count ≤ n) (ap₂ until_by (counted p h r holds (part_of_still p h r is)) is_told) is.within

pub manned_row : (p : Plain) (runs : List Run) (orders : List (Option Order)) (h most : ℕ) (r after : Run) (order : Option Order)
    → IsBoardOf p → h < p.harts → slice_get runs h ≡ Some r → slice_get orders h ≡ Some order → IsManned p runs orders still
    → Advances r after (told_of order) most → IsManned p (slice_set runs h after) orders (row_moves p h most)
manned_row p runs orders h most r after order holds inside here here_told is went = record {
  number = length-set runs h after ∙ is.number;
  places = is.places;
  each = λ g x at. each g x at (eqb_tells g h);
  told = is.told;
} where
  each : (g : ℕ) (x : Run) → slice_get (slice_set runs h after) g ≡ Some x → (((g == h) ≡ true) × (g ≡ h)) ⊎ (((g == h) ≡ false) × (g ≢ h))
      → IsPartAdvanced p g (row_moves p h most g) x
  each g x at (inl same) =
      subst (λ n. IsPartAdvanced p g n x) (sym (ap (λ b. if b then min most (leg_in p h) else 0) same.0))
      (subst (λ k. IsPartAdvanced p k (min most (leg_in p h)) x) (sym same.1)
      (subst (IsPartAdvanced p h (min most (leg_in p h)))
      (same_Some _ _ (sym (set_where runs h after r here) ∙ ap (slice_get (slice_set runs h after)) (sym same.1) ∙ at))
      (row_advances p h most r after (told_of order) holds inside (is.each h r here) (is.told h order here_told inside) went)))
  each g x at (inr other) =
      subst (λ n. IsPartAdvanced p g n x) (sym (ap (λ b. if b then min most (leg_in p h) else 0) other.0))
      (is.each g x (sym (set_there runs h g after other.1) ∙ at))

-- before any turn
pub manned_start : (p : Plain) (image : Image) (harts limit log_limit n : ℕ) (world : World) (runs : List Run) → p
    ≡ plain_at_start image harts limit log_limit world
    → IsBoardOf p → AreParts p runs → harts ≤ n → IsManned p runs (replicate n None) still
manned_start p image harts limit log_limit n world runs is holds parts few = record {
  number = parts.number;
  places = let k = ap (λ (z : Plain). z.harts) is in let l = length-replicate {A = Option Order} n None in omega (arith, few, k, l);
  each = λ h r at.
      let part = parts.each h r at in
      let less : h < p.harts = (let l = slice_get_within runs h r at in let k = parts.number in omega (arith, l, k)) in
      parts_are_advanced p h r holds.counts (subst (λ k. k ≤ until_of p h) (counted p h r holds part) (holds.ahead h less)) part;
  told = λ h o at less.
      ap (λ os. unwrap_or (slice_get os h) None) (ap (λ (z : Plain). z.orders) is)
      ∙ ap (λ o. unwrap_or o None) (get_replicate harts h None (let k = ap (λ (z : Plain). z.harts) is in omega (arith, less, k)))
      ∙ ap told_of (none_there n h o at);
} where
  none_there : (n h : ℕ) (o : Option Order) → slice_get (replicate n None) h ≡ Some o → None ≡ o
  none_there n h o at =
      same_Some _ _ (sym (get_replicate n h None (let l = slice_get_within (replicate n None) h o at in let k = length-replicate {A = Option Order} n
      None in omega (arith, l, k))) ∙ at)

-- a run and what its hart was told, by their place
pub run_there : (p : Plain) (runs : List Run) (orders : List (Option Order)) (moves : ℕ → ℕ) (h place : ℕ) (r : Run) → IsManned p runs orders moves
    → h < p.harts → place ≡ h → r ≡ slice_index_or runs place r → slice_get runs h ≡ Some r
run_there p runs orders moves h place r is inside at value =
    slice_get_read runs (length runs) h r refl (let n = is.number in omega (arith, n, inside)) (value ∙ ap (λ i. slice_index_or runs i r) at)

pub order_there : (p : Plain) (runs : List Run) (orders : List (Option Order)) (moves : ℕ → ℕ) (h place : ℕ) → IsManned p runs orders moves → h < p.harts
    → place ≡ h → slice_get orders h ≡ Some (slice_index_or orders place None)
order_there p runs orders moves h place is inside at =
    slice_get-get_or orders h None (let n = is.places in omega (arith, n, inside)) ∙ ap (λ i. Some (slice_index_or orders i None)) (sym at)

-- a run that was told to go on goes on
pub goes_on : (r after : Run) (order : Option Order) (until most to : ℕ) (pause : Pause) → told_of order ≡ Some (Go until)
    → to ≡ min until (r.count + most) → KeepsPages r after → LegAgrees r after to pause → Advances r after (told_of order) most
goes_on r after order until most to pause is at kept legs =
    subst (λ o. Advances r after o most) (sym is) (pause, kept, subst (λ n. LegAgrees r after n pause) at legs)

pub within_leg : (until most count : ℕ) → count ≤ until → count + min most (until - count) ≡ min until (count + most)
within_leg until most count l = omega (arith, l)

-- what console and clock gave
pub given_none : (w : World) → HasGiven w w
given_none w = (spent, gives_none w)

pub given_then : (u v w : World) → HasGiven u v → HasGiven v w → HasGiven u w
given_then u v w one two = (followed_by one.0 two.0, gives_then u v w one.0 two.0 one.1 two.1)

pub given_same : (p q : Plain) → q ≡ p → HasGiven p.now q.now
given_same p q same = subst (λ z. HasGiven p.now z.now) (sym same) (given_none p.now)
