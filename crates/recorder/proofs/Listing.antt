-- Turns by a list, one after another.
use Rattle.std.proofs.Common.{◌≡◌, ◌≢◌, ◌↔◌, ◌⊎◌, inl, inr, ℕ, zero, suc, ◌+◌, ◌*◌, ◌<◌, ◌≤◌, ◌^◌, ◌==◌, ◌++◌, min, Bool, true, false, List, [], ◌∷◌, map}
use Rattle.std.proofs.Common.{length, take, nat_lt, IfErr, IfOk, IsErrAnd, IsTrue, MatchResult, Ok, Err, Result}
use Rattle.std.proofs.Common.{get_or, Option, Some, refl, sym, ap, ap₂, ◌∙◌, subst, arith, if◌then◌else◌}
use Rattle.std.specs.List.{list_all}
use Rattle.std.proofs.lemmas.Bool.{and_from, and_parts, lt-ltb, ltb-true}
use Rattle.std.proofs.lemmas.Bool.Decides.{eqb_tells}
use Rattle.std.proofs.lemmas.List.{map-append, take_more}
use Rattle.elf_image.specs.Image.{Image, IsWhole}
use Rattle.log_entry.specs.declared.log.Log.{Log}
use Rattle.flat_machine.specs.declared.results.Final.{Final}
use Rattle.orders_law.specs.Orders.{below}
use Rattle.rv_words.specs.declared.shared.Cause.TheVariants.{Cut}
use Rattle.run_model.specs.Run.{Run}
use Rattle.turn_model.specs.Laws.{OfHarts}
use Rattle.turn_model.specs.Board.{harts}
use Rattle.turn_model.specs.Lists.{listed, cut, whole_leg}
use Rattle.turn_laws.specs.EndLaws.{AreInLimits}
use Rattle.crew_parts.specs.Boards.{Plain, World, EndsAs, IsBoardOf, the_machine, board_of, cut_in, is_over_in, plain_at_start, spent, state_of, terms_of}
use Rattle.crew_parts.specs.Boards.{told_to}
use Rattle.crew_parts.specs.Parts.{AreParts, IsPart, IsPartAdvanced}
use Rattle.crew_core.specs.declared.order.Order.{Order}
use Rattle.recorded_turns.specs.Laws.{IsTaken}
use Rattle.recorded_turns.specs.Recordings.{ByList, RecordsByList}
use Rattle.recorded_turns.specs.Takes.{Takes}
use Rattle.recorded_turns.proofs.Loops.{lists_are_taken, rows_are_taken, terms_stay}
use Rattle.recorded_turns.proofs.Over.{closes_are_taken, cut_is_taken}
use Rattle.recorded_turns.proofs.Recordings.{comes_out}
use Rattle.recorded_turns.proofs.Taking.{takes_none}
use Rattle.recorder.specs.Listed.{HasRow, TakesRows, TakesList}
use Rattle.recorder.specs.Manned.{HasGiven, IsManned, HasTurnOf, leg_in, row_moves, still, without}
use Rattle.recorder.proofs.Manning.{given_none, part_of_still}

manned_as : (p : Plain) (runs : List Run) (orders : List (Option Order)) (f k : ℕ → ℕ) → ((g : ℕ) → f g ≡ k g) → IsManned p runs orders f
    → IsManned p runs orders k
manned_as p runs orders f k same is = record {
  number = is.number;
  places = is.places;
  each = λ g x at. subst (λ n. IsPartAdvanced p g n x) (same g) (is.each g x at);
  told = is.told;
}

none_left : (p : Plain) (h most g : ℕ) → without h (row_moves p h most) g ≡ 0
none_left p h most g = by (g == h) where
  by : (b : Bool) → (if b then 0 else (if b then min most (leg_in p h) else 0)) ≡ 0
  by true = refl
  by false = refl

its_row : (p : Plain) (h most : ℕ) → row_moves p h most h ≡ min most (leg_in p h)
its_row p h most = elim (eqb_tells h h) [
  | inl same ↦ ap (λ b. if b then min most (leg_in p h) else 0) same.0
  | inr other ↦ absurd (other.1 refl)
]

-- a row, with the moves that the run has made
pub row_had : (p b q : Plain) (h most : ℕ) (runs : List Run) (orders : List (Option Order)) → b ≡ p → HasTurnOf b q h (row_moves p h most) runs orders
    → HasRow p q h most runs orders
row_had p b q h most runs orders same turn =
    let t = subst (λ z. HasTurnOf z q h (row_moves p h most) runs orders) same turn in
    record {
      before = t.before;
      after = t.after;
      order = t.order;
      had = t.had;
      made = t.made ∙ its_row p h most;
      manned = manned_as q runs orders (without h (row_moves p h most)) still (none_left p h most) t.manned;
    }

pub no_rows : (p : Plain) (runs : List Run) (orders : List (Option Order)) → IsManned p runs orders still → TakesRows [] p p runs orders
no_rows p runs orders is = record { takes = takes_none p; manned = is }

-- one row more
pub row_more : (p m q : Plain) (list : List (ℕ × ℕ)) (h most : ℕ) (runs rows_runs : List Run) (orders rows_orders : List (Option Order))
    → TakesRows list p m rows_runs rows_orders → HasRow m q h most runs orders → TakesRows (list ++ (h, most) ∷ []) p q runs orders
row_more p m q list h most runs rows_runs orders rows_orders rows row = record {
  takes =
      rows_are_taken (terms_of p) list p m q h most row.before row.after row.order rows.takes row.had
      (row.made ∙ ap (λ t. min most (whole_leg the_machine t h (board_of m spent))) (terms_stay p m rows.takes.same));
  manned = row.manned;
}

-- the rows of a list are of harts of the board
pub row_inside : (n : ℕ) (list : List (ℕ × ℕ)) (i : ℕ) (d : ℕ × ℕ) → OfHarts n list → i < length list → (get_or list i d).0 < n
row_inside n [] i d of less = absurd (omega (arith, less))
row_inside n (row ∷ list) zero d of less = of.0
row_inside n (row ∷ list) (suc i) d of less = row_inside n list i d of.1 (omega (arith, less))

-- a turn without moves of one hart more
pub rest_more : (p m q : Plain) (h : ℕ) (runs rows_runs : List Run) (orders rows_orders : List (Option Order))
    → TakesRows (map (λ k. (k, 0)) (below h)) p m rows_runs rows_orders → HasRow m q h 0 runs orders
    → TakesRows (map (λ k. (k, 0)) (below (h + 1))) p q runs orders
rest_more p m q h runs rows_runs orders rows_orders rows row =
    let next : h + 1 ≡ suc h = omega arith in
    subst (λ list. TakesRows list p q runs orders) (sym (ap (λ n. map (λ k. (k, 0)) (below n)) next ∙ map-append (λ k. (k, 0)) (below h) (h ∷ [])))
    (row_more p m q (map (λ k. (k, 0)) (below h)) h 0 runs rows_runs orders rows_orders rows row)

-- a cut leaves the runs
cut_manned : (p : Plain) (runs : List Run) (orders : List (Option Order)) → IsManned p runs orders still
    → IsManned (record p { closed = Some Cut }) runs orders still
unfolding state_of
cut_manned p runs orders is = record {
  number = is.number;
  places = is.places;
  each = λ g x at. let a = is.each g x at in record {
    led = record {
      at = a.led.at;
      runs = a.led.runs;
      differ = a.led.differ;
      memory = a.led.memory;
      agrees = a.led.agrees;
    };
    within = a.within;
  };
  told = is.told;
}

pub cut_is_manned : (p m : Plain) (runs : List Run) (orders : List (Option Order)) → m ≡ cut_in p → IsManned p runs orders still → IsManned m runs orders still
cut_is_manned p m runs orders is manned = subst (λ z. IsManned z runs orders still) (sym is) (by (is_over_in p)) where
  by : (c : Bool) → IsManned (if c then p else record p { closed = Some Cut }) runs orders still
  by true = manned
  by false = cut_manned p runs orders manned

-- the harts of a board
harts_of : (p : Plain) → IsBoardOf p → below p.harts ≡ harts (board_of p spent)
harts_of p holds = ap below (sym holds.streams)

cut_harts : (p : Plain) → (cut_in p).harts ≡ p.harts
cut_harts p = by (is_over_in p) where
  by : (c : Bool) → (let z : Plain = if c then p else record p { closed = Some Cut } in z.harts) ≡ p.harts
  by true = refl
  by false = refl

-- a list, and what it is closed with
pub list_taken : (list : List (ℕ × ℕ)) (p m c q : Plain) (runs rows_runs : List Run) (orders rows_orders : List (Option Order))
    → TakesRows list p m rows_runs rows_orders → IsBoardOf m → c ≡ cut_in m → TakesRows (map (λ h. (h, 0)) (below c.harts)) c q runs orders
    → TakesList list p q runs orders
list_taken list p m c q runs rows_runs orders rows_orders rows holds is_cut rests = record {
  taken = lists_are_taken (terms_of p) list p m q rows.takes (closes_are_taken (terms_of p) m c q shut rested);
  terms = terms_stay c q rests.takes.same ∙ terms_c;
  manned = rests.manned;
} where
  terms_m : terms_of m ≡ terms_of p
  terms_m = terms_stay p m rows.takes.same

  shut : Takes (terms_of p) (λ b. Some (cut the_machine (terms_of p) b)) m c
  shut =
      subst (λ t. Takes t (λ b. Some (cut the_machine t b)) m c) terms_m
      (subst (λ z. Takes (terms_of m) (λ b. Some (cut the_machine (terms_of m) b)) m z) (sym is_cut) (cut_is_taken m holds.whole holds.reached holds.counts))

  terms_c : terms_of c ≡ terms_of p
  terms_c = terms_stay m c shut.same ∙ terms_m

  rested : Takes (terms_of p) (listed the_machine (terms_of p) (map (λ (h : ℕ). (h, 0)) (harts (board_of m spent)))) c q
  rested =
      subst (λ hs. Takes (terms_of p) (listed the_machine (terms_of p) (map (λ (h : ℕ). (h, 0)) hs)) c q)
      (ap below (ap (λ (z : Plain). z.harts) is_cut ∙ cut_harts m) ∙ harts_of m holds)
      (subst (λ t. Takes t (listed the_machine t (map (λ (h : ℕ). (h, 0)) (below c.harts))) c q) terms_c rests.takes)

-- runs without moves are the parts
pub parts_of_manned : (p : Plain) (runs : List Run) (orders : List (Option Order)) → IsManned p runs orders still → AreParts p runs
parts_of_manned p runs orders is = record { number = is.number; each = λ h r at. part_of_still p h r (is.each h r at) }

-- terms that a call may have
pub limits_of : (image : Image) (harts limit log_limit : ℕ) (world : World) → IsWhole image → 1 ≤ harts → harts ≤ 8 → limit ≤ 1000000000000
    → 1024 ≤ log_limit → log_limit ≤ 536870912 → AreInLimits (terms_of (plain_at_start image harts limit log_limit world)) image harts
limits_of image harts limit log_limit world whole some few most least_log most_log = record {
  whole = whole;
  pages = refl;
  least_harts = some;
  most_harts = few;
  limit = most;
  frame = omega (arith, few, least_log);
  bytes = subst (λ n. log_limit < n) refl (omega (arith, most_log));
}

-- what was recorded
pub list_recorded : (image : Image) (harts limit log_limit : ℕ) (world after : World) (list : List (ℕ × ℕ)) (p q : Plain) (runs : List Run)
    (orders : List (Option Order)) (log : Log) (ended : Final) (journal turns : List (ℕ × ℕ)) → IsWhole image → 1 ≤ harts → harts ≤ 8
    → limit ≤ 1000000000000 → 1024 ≤ log_limit → log_limit ≤ 536870912 → p ≡ plain_at_start image harts limit log_limit world
    → TakesList list p q runs orders → EndsAs q log ended journal turns → after ≡ q.now
    → RecordsByList list (plain_at_start image harts limit log_limit world) after log ended journal turns
list_recorded image harts limit log_limit world after list p q runs orders log ended journal turns whole some few most least_log most_log is takes ends now =
    let start = plain_at_start image harts limit log_limit world in
    let t = subst (λ z. TakesList list z q runs orders) is takes in
    subst (λ w. RecordsByList list start w log ended journal turns) (sym now)
    (comes_out {Kind = ByList list} image harts limit log_limit world q log ended journal turns
    (limits_of image harts limit log_limit world whole some few most least_log most_log) t.terms t.taken ends)

-- two facts of an Ok, and one of an Err
pub matched : {X E : Type 0} {P Q R : X → Type 0} {S T : E → Type 0} (r : Result X E) → ((x : X) → P x → Q x → R x) → ((e : E) → S e → T e)
    → IfOk r P → IfOk r Q → IfErr r S → MatchResult r R T
matched (Ok x) f g one two three = f x one two
matched (Err e) f g one two three = g e three

-- of an Err that is given on
pub passed_on : {X E : Type 0} {S T : E → Type 0} (R : X → Type 0) (r : Result X E) → ((e : E) → S e → T e) → IsErrAnd r S → MatchResult r R T
passed_on R (Ok x) g is = absurd is
passed_on R (Err e) g is = g e is

-- a cut asks for nothing
pub cut_gives : (p q : Plain) → q ≡ cut_in p → HasGiven p.now q.now
cut_gives p q is = subst (λ z. HasGiven p.now z.now) (sym is) (by (is_over_in p)) where
  by : (c : Bool) → HasGiven p.now (let z : Plain = if c then p else record p { closed = Some Cut } in z.now)
  by true = given_none p.now
  by false = given_none p.now

-- a test of each row
all_of : (n : ℕ) (list : List (ℕ × ℕ)) → list_all (λ row. nat_lt row.0 n) list ≡ true → OfHarts n list
all_of n [] all = tt
all_of n (row ∷ list) all =
    let both = and_parts (nat_lt row.0 n) (list_all (λ row. nat_lt row.0 n) list) all in (ltb-true row.0 n both.0, all_of n list both.1)

of_all : (n : ℕ) (list : List (ℕ × ℕ)) → OfHarts n list → list_all (λ row. nat_lt row.0 n) list ≡ true
of_all n [] of = refl
of_all n (row ∷ list) of = and_from (nat_lt row.0 n) (list_all (λ row. nat_lt row.0 n) list) (lt-ltb row.0 n of.0) (of_all n list of.1)

pub all_are_of : (n : ℕ) (list : List (ℕ × ℕ)) (b : Bool) → b ≡ list_all (λ row. nat_lt row.0 n) list → IsTrue b ↔ OfHarts n list
all_are_of n list b is = (λ yes. all_of n list (sym is ∙ yes), λ of. is ∙ of_all n list of)
