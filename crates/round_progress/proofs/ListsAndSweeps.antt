-- Where the clock has answers enough, lists of turns and sweeps are there.
use Rattle.std.proofs.Common.{◌≡◌, ℕ, zero, suc, ◌+◌, ◌*◌, ◌%◌, ◌<◌, ◌≤◌, ◌==◌, Bool, true, false, List, [], ◌∷◌, length, map, min, Some, refl, ap, ◌∙◌}
use Rattle.std.proofs.Common.{subst, arith, if◌then◌else◌}
use Rattle.std.specs.Option.{option_map, option_and_then}
use Rattle.std.proofs.Math.Nat.{min-le_right}
use Rattle.std.proofs.lemmas.List.{length-append, length-map}
use Rattle.rv_words.specs.declared.shared.Cause.TheVariants.{Cut}
use Rattle.orders_law.specs.Orders.{below}
use Rattle.turn_model.specs.Recordable.{Recordable}
use Rattle.turn_model.specs.Board.{Board, Terms, harts, closes, is_over}
use Rattle.turn_model.specs.Turn.{turn}
use Rattle.turn_model.specs.Lists.{whole_leg, listed, closed_after, comes_to, recorded_by_list}
use Rattle.turn_model.specs.Rounds.{round_from, with_favoured, sweep, round, last_turns}
use Rattle.turn_model.specs.Faithful.{IsFaithful}
use Rattle.turn_model.specs.Laws.{OfHarts, EachBelow}
use Rattle.round_progress.proofs.Demands.{IsAnswering, IsThere}
use Rattle.turn_laws.proofs.ReachedLists.{of_each}
use Rattle.round_progress.proofs.TurnsThere.{Has, turn_there}
use Rattle.turn_model.proofs.Rounds.{each_below, round_below}
use Rattle.orders_law.proofs.Below.{length_below}

-- turns without moves
abbrev still : List ℕ → List (ℕ × ℕ)
still hs = map (λ (h : ℕ). (h, 0)) hs

module _ {S V : Type 0} (machine : Recordable S V) (terms : Terms) (many pages : ℕ) (Good : S → Type 0) (faithful : IsFaithful machine.flat many pages Good)
    (answers : IsAnswering machine many Good) where
  abbrev pub HasB : ℕ → Board S → Type 0
  HasB n b = Has machine terms many pages Good faithful answers n b

  one_turn : (h k n : ℕ) (b : Board S) → h < many → HasB (suc (suc n)) b → k ≤ whole_leg machine terms h b → (c : Board S)
      × (turn machine terms h k b ≡ Some c) × HasB n c
  one_turn h k n b inside has l = turn_there machine terms many pages Good faithful answers h inside k n b has l

  enough : (m n : ℕ) (b : Board S) → n ≤ m → HasB m b → HasB n b
  enough m n b l has = let k = has.1 in (has.0, omega (arith, l, k), has.2)

  pub listed_there : (list : List (ℕ × ℕ)) (n : ℕ) (b : Board S) → OfHarts many list → HasB (2 * length list + n) b → (c : Board S)
      × (listed machine terms list b ≡ Some c) × HasB n c
  listed_there [] n b of has = (b, refl, enough (2 * 0 + n) n b (omega arith) has)
  listed_there (row ∷ list) n b of has =
      let more = enough (2 * suc (length list) + n) (suc (suc (2 * length list + n))) b (omega arith) has in
      let c =
      one_turn row.0 (min row.1 (whole_leg machine terms row.0 b)) (2 * length list + n) b of.0 more
      (min-le_right row.1 (whole_leg machine terms row.0 b)) in
      let d = listed_there list n c.0 of.1 c.2 in
      (d.0, ap (option_and_then (listed machine terms list)) c.1 ∙ d.1, d.2)

  pub recorded_there : (list : List (ℕ × ℕ)) (b : Board S) → OfHarts many list → HasB (2 * (length list + many)) b
      → IsThere (recorded_by_list machine terms list b)
  recorded_there list b of has =
      let more = enough (2 * (length list + many)) (2 * length list + 2 * many) b (omega arith) has in
      let c = listed_there list (2 * many) b of more in
      let d = closed c.0 c.2 (is_over machine terms c.0) in (
        comes_to machine terms d.0,
        ap (λ o. option_map (comes_to machine terms) (option_and_then (closed_after machine terms) o)) c.1
            ∙ ap (option_map (comes_to machine terms)) d.1,
      )
    where
      rows : (c : Board S) → HasB (2 * many) c → HasB (2 * length (still (harts c)) + 0) c
      rows c has =
          let s = length-map {B = ℕ × ℕ} (harts c) (λ (h : ℕ). (h, 0)) in let z = length_below (length c.streams) in let e = has.2 in
          enough (2 * many) (2 * length (still (harts c)) + 0) c (omega (arith, s, z, e)) has

      each : (c : Board S) → HasB (2 * many) c → OfHarts many (still (harts c))
      each c has = of_each many (harts c) (each_below many (length c.streams) (let e = has.2 in omega (arith, e)))

      closed : (c : Board S) → HasB (2 * many) c → (over : Bool) → (d : Board S)
          × (listed machine terms (still (harts c)) (if over then c else closes Cut c) ≡ Some d) × HasB 0 d
      closed c has true = listed_there (still (harts c)) 0 c (each c has) (rows c has)
      closed c has false = listed_there (still (harts c)) 0 (closes Cut c) (each c has) (rows c has)

  leg_at_most : (moved : Bool) (k : ℕ) → (if moved then k else 0) ≤ k
  leg_at_most true k = omega arith
  leg_at_most false k = omega arith

  pub sweep_there : (r : ℕ) (moved : Bool) (hs : List ℕ) (n : ℕ) (b : Board S) → EachBelow many hs → HasB (2 * length hs + n) b → (c : Board S)
      × (sweep machine terms r moved hs b ≡ Some c) × HasB n c
  sweep_there r moved [] n b each has = (b, refl, enough (2 * 0 + n) n b (omega arith) has)
  sweep_there r moved (h ∷ hs) n b each has =
      let more = enough (2 * suc (length hs) + n) (suc (suc (2 * length hs + n))) b (omega arith) has in
      let c =
      one_turn h (if moved then whole_leg machine terms h b else 0) (2 * length hs + n) (with_favoured r b) each.0 more
      (leg_at_most moved (whole_leg machine terms h b)) in
      let d = sweep_there r moved hs n c.0 each.1 c.2 in
      (d.0, ap (option_and_then (sweep machine terms r moved hs)) c.1 ∙ d.1, d.2)

  -- a round asks the clock for no more than two answers in each of its turns
  pub round_there : (r : ℕ) (moved : Bool) (n : ℕ) (b : Board S) → HasB (6 * many + n) b → (c : Board S) × (round machine terms r moved b ≡ Some c) × HasB n c
  round_there r moved n b has =
      let hs = round_from r b in
      let size : length hs ≡ many = length-map (harts b) (λ (i : ℕ). (r + i) % length b.streams) ∙ length_below (length b.streams) ∙ has.2 in
      let each : EachBelow many hs = subst (λ k. EachBelow k hs) has.2 (round_below (length b.streams) r) in
      let x =
      sweep_there r moved hs (2 * length hs + (2 * length hs + n)) b each
      (enough (6 * many + n) (2 * length hs + (2 * length hs + (2 * length hs + n))) b (omega (arith, size)) has) in
      let y = sweep_there r false hs (2 * length hs + n) x.0 each x.2 in
      let z = sweep_there r false hs n y.0 each y.2 in
      (z.0, three x.0 y.0 z.0 x.1 y.1 z.1, z.2)
    where
      three : (x y z : Board S) → sweep machine terms r moved (round_from r b) b ≡ Some x → sweep machine terms r false (round_from r b) x ≡ Some y
          → sweep machine terms r false (round_from r b) y ≡ Some z → round machine terms r moved b ≡ Some z
      three x y z is_x is_y is_z =
          ap (λ o. option_and_then (sweep machine terms r false (round_from r b)) (option_and_then (sweep machine terms r false (round_from r b)) o)) is_x
          ∙ ap (option_and_then (sweep machine terms r false (round_from r b))) is_y ∙ is_z

  pub last_there : (hs : List ℕ) (n : ℕ) (b : Board S) → EachBelow many hs → HasB (2 * length hs + n) b → (c : Board S)
      × (last_turns machine terms hs b ≡ Some c) × HasB n c
  last_there [] n b each has = (b, refl, enough (2 * 0 + n) n b (omega arith) has)
  last_there (h ∷ hs) n b each has =
      let c = one (whole_leg machine terms h b == 0) in
      let d = last_there hs n c.0 each.1 c.2 in
      (d.0, ap (option_and_then (last_turns machine terms hs)) c.1 ∙ d.1, d.2)
    where
      more : HasB (suc (suc (2 * length hs + n))) b
      more = enough (2 * suc (length hs) + n) (suc (suc (2 * length hs + n))) b (omega arith) has

      one : (x : Bool) → (c : Board S) × ((if x then Some b else turn machine terms h (whole_leg machine terms h b) b) ≡ Some c) × HasB (2 * length hs + n) c
      one true = (b, refl, enough (suc (suc (2 * length hs + n))) (2 * length hs + n) b (omega arith) more)
      one false = one_turn h (whole_leg machine terms h b) (2 * length hs + n) b each.0 more (omega arith)
