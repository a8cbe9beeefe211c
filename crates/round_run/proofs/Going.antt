-- Legs of all harts.
use Rattle.std.proofs.Common.{◌≡◌, ℕ, ◌<◌, ◌≤◌, true, List, length, Option, Some, None, slice_get, slice_index, slice_index_or, refl, sym, ap, ◌∙◌, subst}
use Rattle.std.proofs.Common.{arith, slice_set, [], ◌∷◌, length-append, ◌++◌, ◌+◌, inl, inr}
use Rattle.std.proofs.lemmas.Option.{get_or_from_slice_get, same_Some, slice_get-get_or, slice_get_read, slice_get_within}
use Rattle.std.proofs.lemmas.Bool.Decides.{eqb_tells}
use Rattle.std.proofs.lemmas.List.{get_or-append-add, get_or-set_other, get_or_append_left, length-set}
use Rattle.shared_types.proofs.Lists.{found_at, set_here}
use Rattle.replay_model.specs.Board.{board}
use Rattle.replay_model.specs.State.{IsCrewState}
use Rattle.run_model.specs.Run.{Run}
use Rattle.run_model.specs.Legs.{MakesLeg}
use Rattle.turn_model.specs.Lists.{leg_by}
use Rattle.crew_parts.specs.Boards.{Plain, IsBoardOf, the_machine, board_of, spent, state_of, terms_of, told_to}
use Rattle.crew_parts.specs.Parts.{IsPartAdvanced, until_by}
use Rattle.crew_parts.proofs.Laws.{parts_have_unit}
use Rattle.crew_core.specs.declared.order.Order.{Order}
use Rattle.crew_core.specs.declared.order.Order.TheVariants.{Go, Hold, Rest}
use Rattle.crew_core.specs.Orders.{told_of}
use Rattle.recorded_turns.proofs.Advanced.{legs_advance}
use Rattle.recorder.specs.Manned.{IsManned, leg_in, still}
use Rattle.crew_core.proofs.Hands.{counted}
use Rattle.recorder.proofs.Manning.{may_go, order_there, part_of_still}
use Rattle.round_run.specs.Legs.{AreUntils, Goes, HaveGone, HaveStood, IsReady, IsWithin, MayGo, until_told}

-- a run that was not told to go on has no leg
rests : (p : Plain) (h : ℕ) (r after : Run) → IsPartAdvanced p h 0 r → leg_in p h ≡ 0 → after ≡ r → IsPartAdvanced p h (leg_in p h) after
rests p h r after is none same = subst (λ n. IsPartAdvanced p h n after) (sym none) (subst (IsPartAdvanced p h 0) (sym same) is)

-- the leg of one hart
goes_leg : (p : Plain) (h : ℕ) (r after : Run) (order : Option Order) → IsBoardOf p → h < p.harts → IsPartAdvanced p h 0 r → told_to p h ≡ told_of order
    → Goes r after (until_told order) → IsPartAdvanced p h (leg_in p h) after
goes_leg p h r after None holds inside is is_told went = rests p h r after is (ap (leg_by the_machine (terms_of p) h (board_of p spent)) is_told) went
goes_leg p h r after (Some Rest) holds inside is is_told went =
    rests p h r after is (ap (leg_by the_machine (terms_of p) h (board_of p spent)) is_told) went
goes_leg p h r after (Some (Hold page g)) holds inside is is_told went =
    rests p h r after is (ap (leg_by the_machine (terms_of p) h (board_of p spent)) is_told) went
goes_leg p h r after (Some (Go until)) holds inside is is_told went =
    let part = part_of_still p h r is in
    let unit = parts_have_unit p h r holds.whole holds.reached inside part in
    let leg = went.2 h (state_of p) (subst (λ u. IsCrewState (board u) (state_of p)) (sym unit) holds.crew) part in
    legs_advance p h until r after went.0 holds.whole holds.reached holds.counts is_told part went.1
    (subst (λ u. MakesLeg u after went.0 h until (state_of p)) unit leg)

within_told : (r : Run) (order : Option Order) → r.count ≤ until_by r.count (told_of order) → IsWithin r (until_told order)
within_told r None less = tt
within_told r (Some Rest) less = tt
within_told r (Some (Hold page g)) less = tt
within_told r (Some (Go until)) less = less

-- the runs of a board, by place
pub run_at : (runs : List Run) (h : ℕ) (r : Run) → h < length runs → slice_get runs h ≡ Some (slice_index_or runs h r)
run_at runs h r less = slice_get-get_or runs h r less

pub all_may_go : (p : Plain) (runs : List Run) (orders : List (Option Order)) → (untils : List (Option ℕ)) → IsBoardOf p → IsManned p runs orders still
    → AreUntils orders untils → MayGo runs untils
all_may_go p runs orders untils holds is are h r less at =
    let inside : h < p.harts = (let n = is.number in omega (arith, less, n)) in
    let order = slice_index_or orders h None in
    subst (IsWithin r) (sym (are h (let n = is.places in omega (arith, n, inside))))
    (within_told r order
    (may_go p h r order holds (is.each h r (slice_get_read runs (length runs) h r refl less at))
    (is.told h order (order_there p runs orders still h h is inside refl) inside)))

pub all_ready : (p : Plain) (runs after : List Run) (orders : List (Option Order)) (untils : List (Option ℕ)) → IsBoardOf p
    → IsManned p runs orders still → AreUntils orders untils → HaveGone runs after untils → IsReady p after orders true
all_ready p runs after orders untils holds is are gone = record {
  number = gone.number ∙ is.number;
  places = is.places;
  each = λ h x at.
      let less : h < length runs = (let l = slice_get_within after h x at in let n = gone.number in omega (arith, l, n)) in
      let inside : h < p.harts = (let n = is.number in omega (arith, less, n)) in
      let order = slice_index_or orders h None in
      let went =
      subst (Goes (slice_index_or runs h x) (slice_index_or after h x)) (are h (let n = is.places in omega (arith, n, inside))) (gone.each h x less)
      in
      subst (IsPartAdvanced p h (leg_in p h)) (get_or_from_slice_get after h x x at)
      (goes_leg p h (slice_index_or runs h x) (slice_index_or after h x) order holds inside
      (is.each h (slice_index_or runs h x) (run_at runs h x less)) (is.told h order (order_there p runs orders still h h is inside refl) inside) went);
  told = is.told;
}

pub all_stood : (p : Plain) (runs : List Run) (orders : List (Option Order)) (stood : List ℕ) → IsBoardOf p → IsManned p runs orders still
    → ((h : ℕ) (r : Run) → slice_get runs h ≡ Some r → slice_index stood h ≡ r.count) → HaveStood p stood
all_stood p runs orders stood holds is at h less =
    let r = found_at runs h (let n = is.number in omega (arith, n, less)) in
    at h r.0 r.1 ∙ sym (counted p h r.0 holds (part_of_still p h r.0 (is.each h r.0 r.1)))

-- counts, as far as they are told
pub record CountsTo (runs : List Run) (counts : List ℕ) (i : ℕ) : Type 0 where
  pub places : length counts ≡ 8
  pub so : (h : ℕ) (r : Run) → h < i → slice_get runs h ≡ Some r → slice_index counts h ≡ r.count

pub no_counts : (runs : List Run) (counts : List ℕ) → length counts ≡ 8 → CountsTo runs counts 0
no_counts runs counts size = record { places = size; so = λ h r less at. absurd (omega (arith, less)) }

pub counts_more : (runs : List Run) (counts : List ℕ) (i n : ℕ) (x : Run) → length runs ≤ 8 → i < length runs → x ≡ slice_index_or runs i x → n ≡ x.count
    → CountsTo runs counts i → CountsTo runs (slice_set counts i n) (i + 1)
counts_more runs counts i n x few inside value is are = record {
  places = length-set counts i n ∙ are.places;
  so = λ h r less at. elim (eqb_tells h i) [
    | inl same ↦
        ap (slice_index (slice_set counts i n)) same.1
        ∙ get_or_from_slice_get (slice_set counts i n) i n 0 (set_here counts i n (let k = are.places in omega (arith, few, inside, k))) ∙ is
        ∙ ap (λ (z : Run). z.count)
        (same_Some _ _ (sym (slice_get_read runs (length runs) i x refl inside value) ∙ ap (slice_get runs) (sym same.1) ∙ at))
    | inr other ↦ get_or-set_other counts i h n 0 other.1 ∙ are.so h r (let k = other.1 in omega (arith, less, k)) at
  ];
}

-- counts up to which harts may move, as far as they are told
pub record UntilsTo (orders : List (Option Order)) (untils : List (Option ℕ)) (i : ℕ) : Type 0 where
  pub places : length untils ≡ 8
  pub so : (h : ℕ) → h < i → slice_index_or untils h None ≡ until_told (slice_index_or orders h None)

pub no_untils : (orders : List (Option Order)) (untils : List (Option ℕ)) → length untils ≡ 8 → UntilsTo orders untils 0
no_untils orders untils size = record { places = size; so = λ h less. absurd (omega (arith, less)) }

pub untils_more : (orders : List (Option Order)) (untils : List (Option ℕ)) (i : ℕ) (x : Option Order) (n : Option ℕ) → i < 8 → x ≡ slice_index_or orders i None
    → n ≡ until_told x → UntilsTo orders untils i → UntilsTo orders (slice_set untils i n) (i + 1)
untils_more orders untils i x n few value is are = record {
  places = length-set untils i n ∙ are.places;
  so = λ h less. elim (eqb_tells h i) [
    | inl same ↦
        ap (λ k. slice_index_or (slice_set untils i n) k None) same.1
        ∙ get_or_from_slice_get (slice_set untils i n) i n None (set_here untils i n (let k = are.places in omega (arith, few, k))) ∙ is
        ∙ ap until_told (value ∙ ap (λ k. slice_index_or orders k None) (sym same.1))
    | inr other ↦ get_or-set_other untils i h n None other.1 ∙ are.so h (let k = other.1 in omega (arith, less, k))
  ];
}

-- the runs before the last one, and the last
pub may_go_before : (runs rest : List Run) (r : Run) (untils : List (Option ℕ)) → runs ≡ rest ++ r ∷ [] → MayGo runs untils → MayGo rest untils
may_go_before runs rest r untils are may h x less at =
    may h x (let l = ap length are in omega (arith, l, less, length-append rest (r ∷ [])))
    (at ∙ sym (ap (λ l. slice_index_or l h x) are ∙ get_or_append_left rest (r ∷ []) x h less))

pub last_within : (runs rest : List Run) (r : Run) (untils : List (Option ℕ)) → runs ≡ rest ++ r ∷ [] → MayGo runs untils
    → IsWithin r (slice_index_or untils (length rest) None)
last_within runs rest r untils are may =
    may (length rest) r (let l = ap length are in omega (arith, l, length-append rest (r ∷ [])))
    (sym (ap (λ l. slice_index_or l (length rest) r) are
    ∙ ap (λ n. slice_index_or (rest ++ r ∷ []) n r) (let e : length rest ≡ length rest + 0 = omega arith in e)
    ∙ get_or-append-add rest (r ∷ []) 0 r))

-- one run more made its leg
at_end : (rest : List Run) (r d : Run) (h : ℕ) → h ≡ length rest → slice_index_or (rest ++ r ∷ []) h d ≡ r
at_end rest r d h is =
    ap (λ n. slice_index_or (rest ++ r ∷ []) n d) (let e : h ≡ length rest + 0 = omega (arith, is) in e) ∙ get_or-append-add rest (r ∷ []) 0 d

pub gone_more : (rest gone : List Run) (r after : Run) (untils : List (Option ℕ)) → HaveGone rest gone untils
    → Goes r after (slice_index_or untils (length rest) None) → HaveGone (rest ++ r ∷ []) (gone ++ after ∷ []) untils
gone_more rest gone r after untils are went = record {
  number = length-append gone (after ∷ []) ∙ ap (λ n. n + 1) are.number ∙ sym (length-append rest (r ∷ []));
  each = λ h d less. elim (eqb_tells h (length rest)) [
    | inl same ↦
        subst (λ x. Goes x (slice_index_or (gone ++ after ∷ []) h d) (slice_index_or untils h None)) (sym (at_end rest r d h same.1))
        (subst (λ x. Goes r x (slice_index_or untils h None)) (sym (at_end gone after d h (same.1 ∙ sym are.number)))
        (subst (λ n. Goes r after (slice_index_or untils n None)) (sym same.1) went))
    | inr other ↦
        let short : h < length rest = (let k = other.1 in omega (arith, less, k, length-append rest (r ∷ []))) in
        subst (λ x. Goes x (slice_index_or (gone ++ after ∷ []) h d) (slice_index_or untils h None))
        (sym (get_or_append_left rest (r ∷ []) d h short))
        (subst (λ x. Goes (slice_index_or rest h d) x (slice_index_or untils h None))
        (sym (get_or_append_left gone (after ∷ []) d h (let n = are.number in omega (arith, short, n)))) (are.each h d short))
  ];
}

pub none_gone : (runs : List Run) (untils : List (Option ℕ)) → length runs ≡ 0 → HaveGone runs runs untils
none_gone runs untils none = record { number = refl; each = λ h d less. absurd (omega (arith, none, less)) }
