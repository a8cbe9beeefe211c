-- Lists of turns, sweeps, rounds and last turns lead from reached boards to reached boards.
use Rattle.std.proofs.Common.{◌≡◌, refl, ap, Option, unwrap_or, ℕ, zero, suc, ◌+◌, ◌%◌, ◌<◌, ◌≤◌, ◌==◌, not, min, Bool, true, false, List, [], ◌∷◌, ◌++◌}
use Rattle.std.proofs.Common.{length, map, Some, None, subst, arith, if◌then◌else◌}
use Rattle.std.specs.Option.{option_and_then}
use Rattle.std.proofs.Math.Nat.{mod-lt, min-le_right}
use Rattle.std.proofs.lemmas.Option.{none-some, same_Some}
use Rattle.rv_words.specs.declared.shared.Cause.TheVariants.{Cut, Fault}
use Rattle.orders_law.specs.Orders.{below}
use Rattle.shared_types.proofs.Lists.{bound_to}
use Rattle.turn_model.specs.Recordable.{Recordable}
use Rattle.turn_model.specs.Board.{Board, Supply, Terms, harts, closes, is_over}
use Rattle.turn_model.specs.Laws.{OfHarts, EachBelow}
use Rattle.turn_model.specs.Lists.{whole_leg, listed, closed_after}
use Rattle.turn_model.specs.Rounds.{round_from, with_favoured, sweep, round, rounds, last_turns}
use Rattle.turn_model.specs.Turn.{turn}
use Rattle.turn_laws.specs.Reached.{Reached, Begun, Turned, Favours, Shut}
use Rattle.turn_laws.specs.Supplies.{IsSpent, followed_by, with_more, Extends, IsExtended, Always, NoAnswer, NotTaken}
use Rattle.turn_laws.proofs.MoreAnswers.{turn_carried}
use Rattle.turn_model.proofs.Rounds.{each_below, round_below}

pub of_each : (n : ℕ) (hs : List ℕ) → EachBelow n hs → OfHarts n (map (λ (h : ℕ). (h, 0)) hs)
of_each n [] all = tt
of_each n (h ∷ hs) all = (all.0, of_each n hs all.1)

-- turns of the board's harts, with moves of their legs, keep it, and so does the favour
pub record IsKept {S V : Type 0} (machine : Recordable S V) (terms : Terms) (many : ℕ) (From : Board S → Type 0) : Type 0 where
  pub turned : (h n : ℕ) (b c : Board S) → From b → h < many → n ≤ whole_leg machine terms h b → turn machine terms h n b ≡ Some c → From c
  pub favours : (r : ℕ) (b : Board S) → From b → From (with_favoured r b)

pub reached_kept : {S V : Type 0} (machine : Recordable S V) (terms : Terms) (many : ℕ) (first : S) (supply : Supply)
    → IsKept machine terms many (λ b. Reached machine terms many first supply b)
reached_kept machine terms many first supply =
    record { turned = λ h n b c from inside most is. Turned h n b c from inside most is; favours = λ r b from. Favours r b from }

module _ {S V : Type 0} (machine : Recordable S V) (terms : Terms) (many : ℕ) (From : Board S → Type 0) (kept : IsKept machine terms many From) where
  pub listed_leads : (list : List (ℕ × ℕ)) (b c : Board S) → From b → OfHarts many list → listed machine terms list b ≡ Some c → From c
  listed_leads [] b c r of is = subst From (same_Some _ _ is) r
  listed_leads (row ∷ list) b c r of is =
      let n = min row.1 (whole_leg machine terms row.0 b) in
      let m = bound_to (listed machine terms list) (turn machine terms row.0 n b) c is in
      listed_leads list m.0 c (kept.turned row.0 n b m.0 r of.0 (min-le_right row.1 (whole_leg machine terms row.0 b)) m.1) of.1 m.2

  pub closed_leads : (b c : Board S) → (is_over machine terms b ≡ false → From (closes Cut b)) → length b.streams ≡ many → From b
      → closed_after machine terms b ≡ Some c → From c
  closed_leads b c shut size r is = by (is_over machine terms b) refl is where
    of : OfHarts many (map (λ (h : ℕ). (h, 0)) (harts b))
    of = of_each many (harts b) (each_below many (length b.streams) (omega (arith, size)))

    by : (p : Bool) → is_over machine terms b ≡ p → listed machine terms (map (λ (h : ℕ). (h, 0)) (harts b)) (if p then b else closes Cut b) ≡ Some c → From c
    by true over e = listed_leads (map (λ (h : ℕ). (h, 0)) (harts b)) b c r of e
    by false short e = listed_leads (map (λ (h : ℕ). (h, 0)) (harts b)) (closes Cut b) c (shut short) of e

  leg_or_none : (moved : Bool) (k : ℕ) → (if moved then k else 0) ≤ k
  leg_or_none true k = omega arith
  leg_or_none false k = omega arith

  pub sweep_leads : (r : ℕ) (moved : Bool) (hs : List ℕ) (b c : Board S) → From b → EachBelow many hs → sweep machine terms r moved hs b ≡ Some c → From c
  sweep_leads r moved [] b c from each is = subst From (same_Some _ _ is) from
  sweep_leads r moved (h ∷ hs) b c from each is =
      let n = if moved then whole_leg machine terms h b else 0 in
      let m = bound_to (sweep machine terms r moved hs) (turn machine terms h n (with_favoured r b)) c is in
      let to = kept.turned h n (with_favoured r b) m.0 (kept.favours r b from) each.0 (leg_or_none moved (whole_leg machine terms h b)) m.1 in
      sweep_leads r moved hs m.0 c to each.1 m.2

  pub round_leads : (r : ℕ) (moved : Bool) (b c : Board S) → length b.streams ≡ many → From b → round machine terms r moved b ≡ Some c → From c
  round_leads r moved b c size from is =
      let hs = round_from r b in
      let each : EachBelow many (round_from r b) =
      subst (λ n. EachBelow n (map (λ i. (r + i) % length b.streams) (below (length b.streams)))) size (round_below (length b.streams) r) in
      let m = bound_to (sweep machine terms r false hs) (option_and_then (sweep machine terms r false hs) (sweep machine terms r moved hs b)) c is in
      let l = bound_to (sweep machine terms r false hs) (sweep machine terms r moved hs b) m.0 m.1 in
      sweep_leads r false hs m.0 c (sweep_leads r false hs l.0 m.0 (sweep_leads r moved hs b l.0 from each l.1) each l.2) each m.2

  pub rounds_lead : ((d : Board S) → From d → length d.streams ≡ many) → (r more : ℕ) (b c : Board S) → From b → rounds machine terms r more b ≡ Some c → From c
  rounds_lead sized r zero b c from is = subst From (same_Some _ _ is) from
  rounds_lead sized r (suc more) b c from is = by (is_over machine terms b) is (λ m from' e. rounds_lead sized (r + 1) more m c from' e) where
    by : (p : Bool) → (if p then None else option_and_then (rounds machine terms (r + 1) more) (round machine terms r (not (r == 0)) b)) ≡ Some c
        → ((m : Board S) → From m → rounds machine terms (r + 1) more m ≡ Some c → From c) → From c
    by true e rest = absurd (none-some c e)
    by false e rest =
        let m = bound_to (rounds machine terms (r + 1) more) (round machine terms r (not (r == 0)) b) c e in
        rest m.0 (round_leads r (not (r == 0)) b m.0 (sized b from) from m.1) m.2

  pub last_lead : (hs : List ℕ) (b c : Board S) → From b → EachBelow many hs → last_turns machine terms hs b ≡ Some c → From c
  last_lead [] b c from each is = subst From (same_Some _ _ is) from
  last_lead (h ∷ hs) b c from each is =
      let m =
      bound_to (last_turns machine terms hs) (if whole_leg machine terms h b == 0 then Some b else turn machine terms h (whole_leg machine terms h b) b) c
      is in
      last_lead hs m.0 c (one (whole_leg machine terms h b == 0) m.0 m.1) each.1 m.2
    where
      one : (p : Bool) (m : Board S) → (if p then Some b else turn machine terms h (whole_leg machine terms h b) b) ≡ Some m → From m
      one true m e = subst From (same_Some _ _ e) from
      one false m e = kept.turned h (whole_leg machine terms h b) b m from each.0 (omega arith) e

module _ {S V : Type 0} (machine : Recordable S V) (terms : Terms) (many : ℕ) (first : S) (supply x : Supply) where
  goes_further : (run : Board S → Option (Board S)) (b c : Board S) → (c.closed ≡ Some Fault → IsSpent x) → IsExtended run b c → Extends run b c x
  goes_further run b c spent (Always e) = e x
  goes_further run b c spent (NoAnswer k o e) = e x (spent k.1).0
  goes_further run b c spent (NotTaken k o e) = e x (spent k.1).1

  pub reached_extend : (b : Board S) → Reached machine terms many first supply b → (b.closed ≡ Some Fault → IsSpent x)
      → Reached machine terms many first (followed_by supply x) (with_more x b)
  reached_extend _ Begun spent = Begun
  reached_extend _ (Turned h n b c r inside most is) spent =
      let carried = turn_carried machine terms h n b c is in
      Turned h n (with_more x b) (with_more x c) (reached_extend b r (λ e. spent (carried.shut Fault e).0)) inside most
      (goes_further (turn machine terms h n) b c spent carried.extended)
  reached_extend _ (Favours f b r) spent = Favours f (with_more x b) (reached_extend b r spent)
  reached_extend _ (Shut cause b r) spent = Shut cause (with_more x b) (reached_extend b r (λ e. spent (ap (λ o. Some (unwrap_or o cause)) e)))
