-- Turns and legs of all harts on one thread.
use Rattle.std.proofs.Common.{◌≡◌, ◌≢◌, ◌⊎◌, inl, inr, ℕ, ◌<◌, ◌≤◌, List, length, get_or, slice_get, slice_set, slice_index, Some, true, refl, sym}
use Rattle.std.proofs.Common.{ap, ◌∙◌}
use Rattle.std.proofs.Common.{subst, arith, ◌==◌, false, Result, Ok, Err, OnOk}
use Rattle.std.proofs.lemmas.Bool.Decides.{eqb_tells}
use Rattle.std.proofs.lemmas.List.{length-set}
use Rattle.std.proofs.lemmas.Option.{same_Some, slice_get-get_or, slice_get_within}
use Rattle.shared_types.proofs.Lists.{set_there, set_where}
use Rattle.run_model.specs.Run.{Run}
use Rattle.run_model.specs.Legs.{KeepsPages}
use Rattle.run_model.specs.declared.asked.Pause.{Pause}
use Rattle.hart_run.specs.Calls.{LegAgrees}
use Rattle.turn_model.specs.Board.{Order, Go}
use Rattle.crew_parts.specs.Boards.{Plain, IsBoardOf}
use Rattle.crew_parts.specs.Parts.{AreParts, IsPart, IsPartAdvanced, IsPartMoved, number_of, part_of, until_by, until_of}
use Rattle.crew_parts.specs.Turns.{HasTurn, SameTerms}
use Rattle.crew_parts.proofs.Laws.{parts_are_numbered}
use Rattle.crew_core.proofs.Hands.{counted}
use Rattle.recorded_turns.proofs.Advanced.{parts_are_advanced, turns_leave_parts}
use Rattle.recorded_turns.proofs.Taking.{same_then}
use Rattle.recorder.proofs.Manning.{turn_of}
use Rattle.free_run.specs.RecordBoards.{abandoned_in}
use Rattle.free_run.specs.Recordings.{GoesOn}
use Rattle.free_run.proofs.ByTurns.{inside_by}
use Rattle.free_run.proofs.OneTurn.{taken_by}
use Rattle.free_run.proofs.Parts.{each_here, part_on_record}

-- ---- terms

pub same_terms : (p : Plain) → SameTerms p p
same_terms p = record { image = refl; harts = refl; limit = refl; log_limit = refl; first = refl }

pub abandoned_terms : (p q : Plain) → q ≡ abandoned_in p → SameTerms p q
abandoned_terms p q e = subst (SameTerms p) (sym e) (record { image = refl; harts = refl; limit = refl; log_limit = refl; first = refl })

pub abandoned_is : (p q : Plain) → q ≡ abandoned_in p → q.abandoned ≡ true
abandoned_is p q e = ap (λ (z : Plain). z.abandoned) e

-- ---- a run that has made no move since its hart's turn

still_part : (p : Plain) (h : ℕ) (r : Run) → IsBoardOf p → h < p.harts → IsPart p h r → IsPartAdvanced p h 0 r
still_part p h r holds inside part =
    parts_are_advanced p h r holds.counts (subst (λ k. k ≤ until_of p h) (counted p h r holds part) (holds.ahead h inside)) part

pub numbered : (p : Plain) (h : ℕ) (r : Run) → IsBoardOf p → h < p.harts → IsPart p h r → number_of r ≡ h
numbered p h r holds inside part = parts_are_numbered p h 0 r holds.whole holds.reached (still_part p h r holds inside part)

pub unmoved : (p : Plain) (r : Run) → IsBoardOf p → IsPart p (number_of r) r → IsPartMoved p r
unmoved p r holds part = (0, still_part p (number_of r) r holds (inside_by p (number_of r) r holds part) part)

-- ---- its leg

pub led_on : (p : Plain) (until : ℕ) (r led : Run) (pause : Pause) → IsBoardOf p → IsPart p (number_of r) r → r.count ≤ until
    → until ≤ until_of p (number_of r) → KeepsPages r led → LegAgrees r led until pause → IsPartMoved p led × (number_of led ≡ number_of r)
led_on p until r led pause holds part least most kept agrees =
    let h = number_of r in
    let inside : h < p.harts = inside_by p h r holds part in
    let taken =
    taken_by p h (Some (part_of p h)) r led until pause holds (each_here (part_of p) p.harts h inside)
    (record { part = part_of p h; is = refl; run = part_on_record p h r holds inside part })
    (record { part = part_of p h; is = refl; least = least; most = most }) kept agrees in
    (taken.moved, taken.number)

pub goes_by : (p q : Plain) (h : ℕ) (led after : Run) (order : Order) → number_of led ≡ h → HasTurn p q (number_of led) led after order → GoesOn p q h after
goes_by p q h led after order number had =
    subst (λ k. GoesOn p q k after) number (record { terms = had.terms; part = had.part; runs = had.runs })

-- ---- how far it may go behind its turn

pub record MayLead (m : Plain) (h : ℕ) (r : Run) (until : ℕ) : Type 0 where
  pub number : number_of r ≡ h
  pub part : IsPart m (number_of r) r
  pub least : r.count ≤ until
  pub most : until ≤ until_of m (number_of r)

pub may_lead : (p m : Plain) (r after : Run) (until : ℕ) → IsBoardOf p → IsBoardOf m → IsPart p (number_of r) r
    → HasTurn p m (number_of r) r after (Go until) → MayLead m (number_of r) after until
may_lead p m r after until holds later part had =
    let h = number_of r in
    let inside : h < p.harts = inside_by p h r holds part in
    let number : number_of after ≡ h = numbered m h after later (inside_by m h after later had.part) had.part in
    let leave = turns_leave_parts p m h 0 r after (Go until) (turn_of p h 0 r holds inside (still_part p h r holds inside part)) later.counts had in
    let far : until_of m h ≡ until = ap (until_by (slice_index m.counts h)) had.told in
    let within = leave.1.within in
    record {
      number = number;
      part = subst (λ k. IsPart m k after) (sym number) had.part;
      least = omega (arith, within, far);
      most = subst (λ k. until ≤ until_of m k) (sym number) (omega (arith, far));
    }

pub goes_then : (p m q : Plain) (h : ℕ) (r after : Run) → number_of r ≡ h → GoesOn p m h r → GoesOn m q (number_of r) after → GoesOn p q h after
goes_then p m q h r after number a b = record {
  terms = same_then p m q a.terms b.terms;
  part = subst (λ k. IsPart q k after) number b.part;
  runs = λ g x there other part.
      b.runs g x (let e = a.terms.harts in omega (arith, there, e)) (λ e. other (e ∙ number)) (a.runs g x there other part);
}

-- ---- the runs of all harts

pub its_part : (p : Plain) (runs : List Run) (i : ℕ) (d : Run) → IsBoardOf p → AreParts p runs → i < length runs
    → (number_of (get_or runs i d) ≡ i) × IsPart p (number_of (get_or runs i d)) (get_or runs i d)
its_part p runs i d holds parts l =
    let r = get_or runs i d in
    let part : IsPart p i r = parts.each i r (slice_get-get_or runs i d l) in
    let number : number_of r ≡ i = numbered p i r holds (let n = parts.number in omega (arith, l, n)) part in
    (number, subst (λ k. IsPart p k r) (sym number) part)

pub parts_then : (p q : Plain) (runs : List Run) (i : ℕ) (d after : Run) → IsBoardOf p → AreParts p runs → i < length runs
    → GoesOn p q (number_of (get_or runs i d)) after → AreParts q (slice_set runs i after)
parts_then p q runs i d after holds parts l goes = record {
  number = length-set runs i after ∙ parts.number ∙ sym goes.terms.harts;
  each = λ h x at. each h x at (eqb_tells h i);
} where
  number : number_of (get_or runs i d) ≡ i
  number = (its_part p runs i d holds parts l).0

  here : IsPart q i after
  here = subst (λ k. IsPart q k after) number goes.part

  each : (h : ℕ) (x : Run) → slice_get (slice_set runs i after) h ≡ Some x → (((h == i) ≡ true) × (h ≡ i)) ⊎ (((h == i) ≡ false) × (h ≢ i)) → IsPart q h x
  each h x at (inl same) =
      subst (λ k. IsPart q k x) (sym same.1)
      (subst (IsPart q i) (same_Some _ _ (sym (set_where runs i after (get_or runs i d) (slice_get-get_or runs i d l))
      ∙ ap (slice_get (slice_set runs i after)) (sym same.1) ∙ at)) here)
  each h x at (inr other) =
      let old = sym (set_there runs i h after other.1) ∙ at in
      let inside : h < p.harts = (let w = slice_get_within runs h x old in let n = parts.number in omega (arith, w, n)) in
      goes.runs h x inside (λ e. other.1 (e ∙ number)) (parts.each h x old)

-- a turn, and then the leg and a turn with it
pub goes_further : {X E : Type 0} (made : Result X E) (p m q : Plain) (r after last : Run) (until : ℕ) → IsBoardOf p → IsBoardOf m → IsPart p (number_of r) r
    → HasTurn p m (number_of r) r after (Go until) → OnOk made (GoesOn m q (number_of after) last) → OnOk made (GoesOn p q (number_of r) last)
goes_further (Ok x) p m q r after last until holds later part had goes =
    goes_then p m q (number_of r) after last (may_lead p m r after until holds later part had).number
    (record { terms = had.terms; part = had.part; runs = had.runs }) goes
goes_further (Err e) p m q r after last until holds later part had goes = tt
