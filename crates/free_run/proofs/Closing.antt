-- A table of the board of all harts, as it is opened and as it is closed.
use Rattle.std.proofs.Common.{◌≡◌, ℕ, ◌<◌, ◌≤◌, List, length, Some, slice_get, sym, ap, ◌∙◌, subst, arith, All, true≢false}
use Rattle.std.specs.List.{AllZip}
use Rattle.std.proofs.lemmas.Option.{slice_get_within}
use Rattle.shared_types.proofs.Lists.{found_at}
use Rattle.run_model.specs.Run.{Run}
use Rattle.turn_table.specs.declared.table.Pass.{Pass}
use Rattle.turn_table.specs.declared.table.TurnTable.{TurnTable}
use Rattle.turn_table.specs.Passes as passes
use Rattle.turn_table.specs.Passes.{AreOf, IsPassOf, IsIdle, hart_of}
use Rattle.crew_parts.specs.Boards.{Plain, IsBoardOf}
use Rattle.crew_parts.specs.Parts.{AreParts, IsPart, Part, part_of, until_of}
use Rattle.crew_parts.specs.Turns.{SameTerms}
use Rattle.crew_core.proofs.Hands.{counted}
use Rattle.free_run.specs.Parts.{IsRunOf, parts_of}
use Rattle.free_run.specs.Workers.{AreOfOneBoard, IsBack}
use Rattle.free_run.proofs.Parts.{each_here, part_on_record, part_there, parts_number, run_of_part}
use Rattle.free_run.proofs.Pairing.{Begins, Idle, OnRecord, each_of, zip_before, zip_behind, zip_by_place, zip_length}

-- ---- as it is opened

pub begins_there : (t : TurnTable Plain Part) (b : Plain) (h : ℕ) (p : Pass Plain Part) (r : Run) → IsBoardOf b → h < b.harts → IsPart b h r
    → Idle t p → passes.part_of p ≡ slice_get (parts_of b) h → Begins t p r
begins_there t b h p r holds inside part idle is =
    let here : passes.part_of p ≡ Some (part_of b h) = is ∙ each_here (part_of b) b.harts h inside in
    record {
      table = idle.0;
      idle = idle.1;
      stands = record {
        on_record = λ e. (
          record { part = part_of b h; is = here; run = part_on_record b h r holds inside part },
          record {
            part = part_of b h;
            is = here;
            least = omega arith;
            most = subst (λ k. k ≤ until_of b h) (counted b h r holds part) (holds.ahead h inside);
          },
        );
        ahead = λ e. absurd (true≢false (sym e));
      };
    }

pub opened_ready : (t : TurnTable Plain Part) (b : Plain) (ps : List (Pass Plain Part)) (rs : List Run) → IsBoardOf b → AreParts b rs
    → length ps ≡ length rs → All (Idle t) ps → AreOf (parts_of b) ps → AllZip (Begins t) ps rs
opened_ready t b ps rs holds parts number idle of =
    zip_by_place (Begins t) ps rs number (λ h p r at_p at_r.
    let inside : h < b.harts = (let l = slice_get_within rs h r at_r in let n = parts.number in omega (arith, l, n)) in
    begins_there t b h p r holds inside (parts.each h r at_r) (each_of (Idle t) ps h p idle at_p) (of h p at_p).1)

-- ---- as it is closed

-- the board has of the pass's hart the part on record
abbrev pub HasItsPart : Plain → Pass Plain Part → Type 0
HasItsPart b q = slice_get (parts_of b) (hart_of q) ≡ passes.part_of q

module _ (t : TurnTable Plain Part) (start b : Plain) (ps qs : List (Pass Plain Part)) where
  -- a pass, as it was and as it is
  record Place (h : ℕ) (q : Pass Plain Part) : Type 0 where
    before : Part
    after : Part
    here : passes.part_of q ≡ Some after
    was : before ≡ part_of start h
    is : slice_get (parts_of b) h ≡ Some after
    terms : AreOfOneBoard before after

  place : (h : ℕ) (q : Pass Plain Part) → AreOf (parts_of start) ps → AllZip (IsBack t) ps qs
      → All (HasItsPart b) qs → slice_get qs h ≡ Some q → Place h q
  place h q of led parts at =
      let z = zip_before (IsBack t) ps qs h q led at in
      let on = z.2.continues in
      let p = of h z.0 z.1 in
      let hart : hart_of q ≡ h = on.hart ∙ p.0 in
      record {
        before = on.before;
        after = on.after;
        here = on.is;
        was = (part_there start h on.before (sym p.1 ∙ on.was)).1;
        is = ap (slice_get (parts_of b)) (sym hart) ∙ each_of (HasItsPart b) qs h q parts at ∙ on.is;
        terms = on.terms;
      }

  pub closed_terms : 1 ≤ start.harts → length ps ≡ start.harts → AreOf (parts_of start) ps → AllZip (IsBack t) ps qs
      → All (HasItsPart b) qs → SameTerms start b
  closed_terms some number of led parts =
      let first = found_at ps 0 (omega (arith, some, number)) in
      let z = zip_behind (IsBack t) ps qs 0 first.0 led first.1 in
      let at = place 0 z.0 of led parts z.1 in
      let last : at.after ≡ part_of b 0 = (part_there b 0 at.after at.is).1 in
      let one : AreOfOneBoard (part_of start 0) (part_of b 0) =
      subst (AreOfOneBoard (part_of start 0)) last (subst (λ x. AreOfOneBoard x at.after) at.was at.terms) in
      record { image = one.image; harts = one.harts; limit = one.limit; log_limit = one.log_limit; first = one.first }

  pub closed_parts : (rs : List Run) → IsBoardOf b → length ps ≡ length (parts_of b) → AreOf (parts_of start) ps → AllZip (IsBack t) ps qs
      → All (HasItsPart b) qs → AllZip OnRecord qs rs → AreParts b rs
  closed_parts rs holds number of led parts on = record {
    number =
        let one = zip_length (IsBack t) ps qs led in
        let two = zip_length OnRecord qs rs on in
        let three = parts_number b in
        omega (arith, one, two, three, number);
    each = λ h r at.
        let z = zip_before OnRecord qs rs h r on at in
        let q = place h z.0 of led parts z.1 in
        let there = part_there b h z.2.part (q.is ∙ sym q.here ∙ z.2.is) in
        run_of_part b h r holds there.0 (subst (λ x. IsRunOf x r) there.1 z.2.run);
  }
