-- Turns by hand.
use Rattle.std.proofs.Common.{◌≡◌, ◌≢◌, ◌⊎◌, inl, inr, ℕ, zero, suc, ◌<◌, ◌≤◌, List, length, replicate, Bool, true, false, Option, Some, slice_get}
use Rattle.std.proofs.Common.{slice_index, slice_set}
use Rattle.std.proofs.Common.{refl, sym, ap, ap₂, ◌∙◌, subst, arith, if◌then◌else◌}
use Rattle.std.proofs.lemmas.Bool.{cases_eq}
use Rattle.std.proofs.lemmas.List.{length-set, length-replicate}
use Rattle.std.proofs.lemmas.Option.{get_or_from_slice_get, none-some, same_Some, slice_get_within}
use Rattle.shared_types.proofs.Lists.{set_here, set_there}
use Rattle.rv_words.specs.declared.shared.Cause.{Cause}
use Rattle.rv_words.specs.declared.shared.Cause.TheVariants.{Cut}
use Rattle.elf_image.specs.Image.{Image}
use Rattle.replay_model.specs.Board.{board}
use Rattle.replay_model.specs.State.{IsCrewState}
use Rattle.run_model.specs.Run.{Run}
use Rattle.run_model.specs.Agreement.{Agrees}
use Rattle.run_model.specs.Legs.{KeepsPages}
use Rattle.run_model.specs.declared.asked.Pause.{Pause}
use Rattle.hart_run.specs.Calls.{LegAgrees}
use Rattle.crew_recording.proofs.Steady.{no_place}
use Rattle.turn_model.specs.Board.{Order}
use Rattle.crew_parts.specs.Boards.{Plain, World, IsBoardOf, cut_in, is_over_in, plain_at_start, state_of, told_to, until_by, until_of}
use Rattle.crew_parts.specs.Parts.{AreParts, IsPart, IsPartAdvanced, IsPartMoved, Part, number_of}
use Rattle.crew_parts.specs.Turns.{HasTurn}
use Rattle.crew_parts.proofs.Laws.{legs_advance, parts_are_numbered, parts_have_unit}
use Rattle.crew_core.specs.Hands.{AreHanded, HasHand}
use Rattle.crew_core.proofs.BoardStarts.{told_nothing}
use Rattle.crew_core.proofs.Sets.{same_state}

prepared_part : (p q : Plain) (h : ℕ) (r : Run) → q ≡ record p { prepared = true } → IsPart p h r → IsPart q h r
prepared_part p q h r is part =
    subst (λ (z : Plain). IsPart z h r) (sym is) (subst (Agrees r h) (sym (same_state p p.favoured p.closed p.abandoned true)) part)

-- the count of a part's run
pub counted : (p : Plain) (h : ℕ) (r : Run) → IsBoardOf p → IsPart p h r → slice_index p.counts h ≡ r.count
counted p h r holds part = ap (λ ks. slice_index ks h) holds.counts ∙ get_or_from_slice_get (state_of p).flat.counts h r.count 0 part.count

-- it may move up to no less than there
pub hand_ahead : (p : Plain) (h : ℕ) (r : Run) (until : ℕ) → IsBoardOf p → h < p.harts → IsPart p h r → until_of p h ≡ until → r.count ≤ until
hand_ahead p h r until holds inside part told =
    let ahead = holds.ahead h inside in
    let count = counted p h r holds part in
    omega (arith, ahead, count, told)

-- the run made its leg on the board that has room for a turn
pub hand_moved : (p q : Plain) (h : ℕ) (r after : Run) (until target : ℕ) (pause : Pause) → q ≡ record p { prepared = true } → IsBoardOf q → h < p.harts
    → IsPart p h r → until_of p h ≡ until → target ≤ until → KeepsPages r after → LegAgrees r after target pause
    → IsPartMoved q after × (number_of after ≡ h)
hand_moved p q h r after until target pause is holds there part told most keeps legs =
    let now = prepared_part p q h r is part in
    let inside : h < q.harts = (let e = ap (λ (z : Plain). z.harts) is in omega (arith, there, e)) in
    let unit = parts_have_unit q h r holds.whole holds.reached inside now in
    let leg = legs h (state_of q) (subst (λ u. IsCrewState (board u) (state_of q)) (sym unit) holds.crew) now in
    let still : until_of q h ≡ until = ap (λ (z : Plain). until_of z h) is ∙ told in
    let advanced = legs_advance q h target r after pause holds.whole holds.reached inside now keeps leg (omega (arith, most, still)) in
    let number = parts_are_numbered q h leg.leg.moves after holds.whole holds.reached advanced in
    ((leg.leg.moves, subst (λ k. IsPartAdvanced q k leg.leg.moves after) (sym number) advanced), number)

pub hand_had : (p q new : Plain) (h : ℕ) (moved after : Run) (order : Order) (until : ℕ) → q ≡ record p { prepared = true } → number_of moved ≡ h
    → HasTurn q new (number_of moved) moved after order → IsBoardOf new → until ≡ until_by after.count (Some order) → HasHand p new h after until
hand_had p q new h moved after order until is number turn holds told =
    let part : IsPart new h after = subst (λ k. IsPart new k after) number turn.part in
    let harts = ap (λ (z : Plain). z.harts) is in
    record {
      part = part;
      told = ap₂ until_by (counted new h after holds part) (ap (told_to new) (sym number) ∙ turn.told) ∙ sym told;
      others = λ g x less other was. turn.runs g x (omega (arith, less, harts)) (λ e. other (e ∙ number)) (prepared_part p q g x is was);
      untils = λ g less other. ap (λ (z : Part). z.until) (turn.others g (omega (arith, less, harts)) (λ e. other (e ∙ number)))
          ∙ ap (λ (z : Plain). until_of z g) is;
      harts = turn.terms.harts ∙ harts;
    }

-- the other harts' runs and what they were told stay
pub handed_on : (p new : Plain) (runs : List Run) (untils : List ℕ) (h : ℕ) (after : Run) (until : ℕ) → AreHanded p runs untils → h < length runs
    → HasHand p new h after until → AreHanded new (slice_set runs h after) (slice_set untils h until)
handed_on p new runs untils h after until are inside hand =
    let number = are.parts.number in
    let told = are.number in
    let harts = hand.harts in
    record {
      parts = record {
        number = length-set runs h after ∙ number ∙ sym harts;
        each = λ g r at. by_part g r at (cases_eq g h);
      };
      number = length-set untils h until ∙ told ∙ sym harts;
      told = λ g n at. by_until g n at (cases_eq g h);
    }
  where
    by_part : (g : ℕ) (r : Run) → slice_get (slice_set runs h after) g ≡ Some r → (g ≡ h) ⊎ (g ≢ h) → IsPart new g r
    by_part g r at (inl same) =
        let here : after ≡ r = same_Some _ _ (sym (set_here runs h after inside) ∙ ap (slice_get (slice_set runs h after)) (sym same) ∙ at) in
        subst (λ (k : ℕ). IsPart new k r) (sym same) (subst (IsPart new h) here hand.part)
    by_part g r at (inr other) =
        let was = sym (set_there runs h g after other) ∙ at in
        let l : g < length runs = slice_get_within runs g r was in
        hand.others g r (let k = are.parts.number in omega (arith, l, k)) other (are.parts.each g r was)

    by_until : (g n : ℕ) → slice_get (slice_set untils h until) g ≡ Some n → (g ≡ h) ⊎ (g ≢ h) → until_of new g ≡ n
    by_until g n at (inl same) =
        let l : h < length untils = (let a = are.parts.number in let b = are.number in omega (arith, inside, a, b)) in
        let here : until ≡ n = same_Some _ _ (sym (set_here untils h until l) ∙ ap (slice_get (slice_set untils h until)) (sym same) ∙ at) in
        ap (until_of new) same ∙ hand.told ∙ here
    by_until g n at (inr other) =
        let was = sym (set_there untils h g until other) ∙ at in
        let l : g < length untils = slice_get_within untils g n was in
        hand.untils g (let k = are.number in omega (arith, l, k)) other ∙ are.told g n was

replicated : (n h k : ℕ) → slice_get (replicate n 0) h ≡ Some k → k ≡ 0
replicated zero zero k at = absurd (none-some k at)
replicated zero (suc h) k at = absurd (none-some k at)
replicated (suc n) zero k at = sym (same_Some _ _ at)
replicated (suc n) (suc h) k at = replicated n h k at

-- nobody may move before its first turn
pub first_handed : (image : Image) (harts limit log_limit number : ℕ) (world : World) (p : Plain) (runs : List Run) (untils : List ℕ)
    → p ≡ plain_at_start image harts limit log_limit world → AreParts p runs → untils ≡ replicate number 0 → number ≡ harts → AreHanded p runs untils
first_handed image harts limit log_limit number world p runs untils start parts zeros same = record {
  parts = parts;
  number = ap (λ (xs : List ℕ). length xs) zeros ∙ length-replicate number 0 ∙ same ∙ sym (ap (λ (z : Plain). z.harts) start);
  told = λ h n at.
      ap (λ (z : Plain). until_of z h) start ∙ ap₂ until_by (no_place harts h) (told_nothing harts h _ refl)
      ∙ sym (replicated number h n (ap (λ xs. slice_get xs h) (sym zeros) ∙ at));
}

-- closing the board leaves the runs
shut_handed : (p : Plain) (runs : List Run) (untils : List ℕ) (closed : Option Cause) (abandoned : Bool) → AreHanded p runs untils
    → AreHanded (record p { closed = closed; abandoned = abandoned }) runs untils
shut_handed p runs untils closed abandoned are = record {
  parts = record {
    number = are.parts.number;
    each = λ h r at. subst (Agrees r h) (sym (same_state p p.favoured closed abandoned p.prepared)) (are.parts.each h r at);
  };
  number = are.number;
  told = are.told;
}

pub cut_handed : (p q : Plain) (runs : List Run) (untils : List ℕ) → q ≡ cut_in p → AreHanded p runs untils → AreHanded q runs untils
cut_handed p q runs untils is are = subst (λ (z : Plain). AreHanded z runs untils) (sym is) (by (is_over_in p)) where
  by : (b : Bool) → AreHanded (if b then p else record p { closed = Some Cut }) runs untils
  by true = are
  by false = shut_handed p runs untils (Some Cut) p.abandoned are

pub left_handed : (p q : Plain) (runs : List Run) (untils : List ℕ) (closed : Option Cause) → q ≡ record p { abandoned = true; closed = closed }
    → AreHanded p runs untils → AreHanded q runs untils
left_handed p q runs untils closed is are = subst (λ (z : Plain). AreHanded z runs untils) (sym is) (shut_handed p runs untils closed true are)
