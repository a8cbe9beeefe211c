-- The least order so far, which goes on from a cursor.
use Rattle.std.proofs.Common.{◌≡◌, Bool, true, false, cond, not, List, [], ◌∷◌, ◌++◌, map, length, Option, Some, None, refl, sym, ap, ◌∙◌, subst}
use Rattle.std.proofs.Common.{append_assoc, append-nil}
use Rattle.std.specs.Prelude.{filter, is_some, if◌then◌else◌}
use Rattle.std.proofs.lemmas.Bool.{true≢false}
use Rattle.std.proofs.lemmas.List.{map-append}
use Rattle.std.proofs.lemmas.List.Elements.{filter-append}
use Rattle.std.proofs.Math.ListN.{length-replicate}
use Rattle.orders_law.specs.Orders.{least, IsLeast}
use Rattle.log_entry.specs.declared.log.Entry.{Entry}
use Rattle.log_entry.specs.declared.log.Log.{Log}
use Rattle.log_entry.specs.Parts.{is_end, is_some_and}
use Rattle.order_rules.specs.Places.{entry_at}
use Rattle.order_rules.specs.Cursor.{Cursor, start, take_one, least_left, IsLeastOrder}
use Rattle.order_rules.specs.Orderly.{Spot, LeastOrderLeaves}
use Rattle.log_order.specs.declared.orderly.Leg.{Leg}
use Rattle.log_order.specs.Rows.{spot_of}
use Rattle.log_order.specs.Steps.{Goes}
use Rattle.log_order.proofs.OneStep.{places_stay, taking}

-- these entries are taken, and how the least order goes on from here is how it goes on after them
pub record IsTaken (log : Log) (done : List Spot) (c : Cursor) : Type 0 where
  pub places : length c.places ≡ length log.streams
  pub goes_on : (rest : List Spot) (t : Cursor) → IsLeast (take_one log) (length log.streams) c rest t
      → IsLeast (take_one log) (length log.streams) (start log) (done ++ rest) t

pub begins : (log : Log) → IsTaken log [] (start log)
begins log = record { places = length-replicate (length log.streams) 0; goes_on = λ rest t l. l }

pub goes : (log : Log) (done : List Spot) (c m : Cursor) (leg : Leg) → IsTaken log done c → Goes log c (Some leg) m → IsTaken log (done ++ spot_of leg ∷ []) m
goes log done c m leg taken step = record {
  places = places_stay log leg.hart c m leg.entry step.1 ∙ taken.places;
  goes_on = λ rest t l. subst (λ (xs : List Spot). IsLeast (take_one log) (length log.streams) (start log) xs t)
      (sym (append_assoc done (spot_of leg ∷ []) rest))
      (taken.goes_on (spot_of leg ∷ rest) t (step.0, (m, step.1, l)));
}

pub over : (log : Log) (done : List Spot) (c : Cursor) → IsTaken log done c → least (take_one log) (length log.streams) c ≡ None → IsLeastOrder log done c
over log done c taken none =
    subst (λ (xs : List Spot). IsLeast (take_one log) (length log.streams) (start log) xs c) (append-nil done) (taken.goes_on [] c (none, refl))

pub leaves : (log : Log) (done : List Spot) (c m : Cursor) (p : Option Spot) → IsTaken log done c → Goes log c None m → p ≡ least_left log m
    → LeastOrderLeaves log p
leaves log done c m p taken step is = (done, (c, over log done c taken step.0, ap (least_left log) (sym step.1) ∙ sym is))

pub some_goes : (log : Log) (c m : Cursor) (o : Option Leg) → is_some o ≡ true → Goes log c o m → (leg : Leg) × Goes log c (Some leg) m
some_goes log c m None is step = absurd (true≢false (sym is))
some_goes log c m (Some leg) is step = (leg, step)

pub none_goes : (log : Log) (c m : Cursor) (o : Option Leg) → is_some o ≡ false → Goes log c o m → Goes log c None m
none_goes log c m None is step = step
none_goes log c m (Some leg) is step = absurd (true≢false is)

-- what a hart takes stands there
pub stands : (log : Log) (c m : Cursor) (leg : Leg) → Goes log c (Some leg) m → (e : Entry) × (entry_at log leg.hart leg.entry ≡ Some e)
stands log c m leg step = let t = taking log leg.hart c m leg.entry step.1 in (t.entry, t.at)

abbrev pub is_no_end : Log → Spot → Bool
is_no_end log p = not (is_some_and (entry_at log p.0 p.1) is_end)

-- the legs after one more step
pub legs_then : (log : Log) (legs : List Leg) (done : List Spot) (leg : Leg) (b : Bool) → is_some_and (entry_at log leg.hart leg.entry) is_end ≡ b
    → map spot_of legs ≡ filter (is_no_end log) done
    → map spot_of (if b then legs else legs ++ leg ∷ []) ≡ filter (is_no_end log) (done ++ spot_of leg ∷ [])
legs_then log legs done leg false is same =
    map-append spot_of legs (leg ∷ []) ∙ ap (λ xs. xs ++ spot_of leg ∷ []) same
    ∙ ap (λ b. filter (is_no_end log) done ++ cond (not b) (spot_of leg ∷ []) []) (sym is)
    ∙ sym (filter-append (is_no_end log) done (spot_of leg ∷ []))
legs_then log legs done leg true is same =
    same ∙ sym (append-nil (filter (is_no_end log) done))
    ∙ ap (λ b. filter (is_no_end log) done ++ cond (not b) (spot_of leg ∷ []) []) (sym is)
    ∙ sym (filter-append (is_no_end log) done (spot_of leg ∷ []))
