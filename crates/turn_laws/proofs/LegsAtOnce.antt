-- The legs of a round may be taken all at once.
use Rattle.std.proofs.Common.{◌≡◌, ◌≢◌, ℕ, zero, suc, ◌+◌, ◌%◌, ◌<◌, ◌≤◌, ◌==◌, Bool, true, false, List, [], ◌∷◌, ◌++◌, length, map}
use Rattle.std.proofs.Common.{Option, Some, None, unwrap_or, slice_get, replicate, refl, sym, ap, ◌∙◌, subst, arith, if◌then◌else◌}
use Rattle.std.specs.Option.{option_and_then}
use Rattle.std.proofs.lemmas.Option.{same_Some}
use Rattle.orders_law.specs.Orders.{below}
use Rattle.elf_image.specs.Image.{Image, IsWhole}
use Rattle.flat_machine.specs.State.{FlatState}
use Rattle.turn_model.specs.Laws.{machine_in, first_board, EachBelow}
use Rattle.turn_model.specs.Board.{Board, Order, Supply, Terms, harts}
use Rattle.turn_model.specs.Lists.{leg_by, whole_leg}
use Rattle.turn_model.specs.Rounds.{round_from, with_favoured, sweep, round, last_turns}
use Rattle.turn_model.specs.Turn.{turn}
use Rattle.turn_laws.specs.Reached.{Begun, Turned, Favours}
use Rattle.turn_laws.specs.GivenLegs.{sweep_with, last_with}
use Rattle.turn_laws.proofs.Ranks.{rank, rank_inside, rank_at, at_of}
use Rattle.turn_laws.proofs.Legs.{ReachedFrom, reached_are_crew, legs_stay}
use Rattle.turn_model.proofs.Rounds.{each_below, round_below}

-- a round comes to each hart once
pub apart : (n r i j : ℕ) → i < n → j < n → (r + i) % n ≡ (r + j) % n → i ≡ j
apart n r i j li lj same =
    let pos : zero < n = omega (arith, li) in
    sym (rank_at n r pos i li) ∙ ap (rank n r pos) same ∙ rank_at n r pos j lj

pub all_come : (n r h : ℕ) → h < n → (i : ℕ) × (i < n) × ((r + i) % n ≡ h)
all_come n r h l =
    let pos : zero < n = omega (arith, l) in
    (rank n r pos h, rank_inside n r pos h, at_of n r pos h l)

-- a hart that isn't in a list
abbrev NotIn : ℕ → List ℕ → Type 0
NotIn h [] = Unit {0}
NotIn h (g ∷ gs) = (g ≢ h) × NotIn h gs

abbrev Apart : List ℕ → Type 0
Apart [] = Unit {0}
Apart (h ∷ hs) = NotIn h hs × Apart hs

not_in_more : (h g : ℕ) (hs : List ℕ) → NotIn h hs → g ≢ h → NotIn h (hs ++ g ∷ [])
not_in_more h g [] all n = (n, tt)
not_in_more h g (x ∷ hs) all n = (all.0, not_in_more h g hs all.1 n)

-- one more that isn't in it
apart_more : (g : ℕ) (hs : List ℕ) → Apart hs → NotIn g hs → Apart (hs ++ g ∷ [])
apart_more g [] all none = (tt, tt)
apart_more g (h ∷ hs) all none = (not_in_more h g hs all.0 (λ e. none.0 (sym e)), apart_more g hs all.1 none.1)

above : (n k : ℕ) → k ≤ n → NotIn n (below k)
above n zero l = tt
above n (suc k) l = not_in_more n k (below k) (above n k (omega (arith, l))) (λ e. absurd (omega (arith, l, e)))

below_apart : (n : ℕ) → Apart (below n)
below_apart zero = tt
below_apart (suc n) = apart_more n (below n) (below_apart n) (above n n (omega arith))

-- under a map that keeps numbers below n apart
mapped_not_in : (n : ℕ) (f : ℕ → ℕ) → ((i j : ℕ) → i < n → j < n → f i ≡ f j → i ≡ j) → (h : ℕ) → h < n → (hs : List ℕ) → EachBelow n hs → NotIn h hs
    → NotIn (f h) (map f hs)
mapped_not_in n f one h l [] each none = tt
mapped_not_in n f one h l (g ∷ hs) each none = (λ e. none.0 (one g h each.0 l e), mapped_not_in n f one h l hs each.1 none.1)

mapped_apart : (n : ℕ) (f : ℕ → ℕ) → ((i j : ℕ) → i < n → j < n → f i ≡ f j → i ≡ j) → (hs : List ℕ) → EachBelow n hs → Apart hs → Apart (map f hs)
mapped_apart n f one [] each all = tt
mapped_apart n f one (h ∷ hs) each all = (mapped_not_in n f one h each.0 hs each.1 all.0, mapped_apart n f one hs each.1 all.1)

module _ (terms : Terms) (image : Image) (many : ℕ) (supply : Supply) (whole : IsWhole image) (pages : terms.pages ≡ image.pages) where
  abbrev From : Board FlatState → Type 0
  From b = ReachedFrom terms image many supply whole pages b

  abbrev Agree : (ℕ → ℕ) → List ℕ → Board FlatState → Type 0
  Agree legs [] b = Unit {0}
  Agree legs (h ∷ hs) b = (legs h ≡ whole_leg (machine_in terms) terms h b) × Agree legs hs b

  agree_first : (b : Board FlatState) (hs : List ℕ) → Agree (λ h. whole_leg (machine_in terms) terms h b) hs b
  agree_first b [] = tt
  agree_first b (h ∷ hs) = (refl, agree_first b hs)

  -- legs stay behind a turn of a hart that isn't among them
  agree_then : (legs : ℕ → ℕ) (g n : ℕ) (b d : Board FlatState) → From b → g < many → n ≤ whole_leg (machine_in terms) terms g b
      → turn (machine_in terms) terms g n b ≡ Some d → (hs : List ℕ) → EachBelow many hs → NotIn g hs → Agree legs hs b → Agree legs hs d
  agree_then legs g n b d from inside most is [] each none agree = tt
  agree_then legs g n b d from inside most is (h ∷ hs) each none agree = (
    agree.0 ∙ sym (legs_stay terms image many supply whole pages g n h b d from inside most is each.0 none.0).same_leg,
    agree_then legs g n b d from inside most is hs each.1 none.1 agree.1,
  )

  sweep_same : (r : ℕ) (legs : ℕ → ℕ) (hs : List ℕ) (b : Board FlatState) → From b → EachBelow many hs → Apart hs → Agree legs hs b
      → sweep (machine_in terms) terms r true hs b ≡ sweep_with (machine_in terms) terms r legs hs b
  sweep_same r legs [] b from each all agree = refl
  sweep_same r legs (h ∷ hs) b from each all agree =
      by (turn (machine_in terms) terms h (whole_leg (machine_in terms) terms h b) (with_favoured r b)) refl
      (λ d is.
      let now = with_favoured r b in
      sweep_same r legs hs d (Turned h (whole_leg (machine_in terms) terms h b) (with_favoured r b) d (Favours r b from) each.0 (omega arith) is) each.1 all.1
      (agree_then legs h (whole_leg (machine_in terms) terms h b) (with_favoured r b) d (Favours r b from) each.0 (omega arith) is hs each.1 all.0
      (agree_favoured hs agree.1)))
      ∙ ap (λ n. option_and_then (sweep_with (machine_in terms) terms r legs hs) (turn (machine_in terms) terms h n (with_favoured r b))) (sym agree.0)
    where
      agree_favoured : (hs : List ℕ) → Agree legs hs b → Agree legs hs (with_favoured r b)
      agree_favoured [] a = tt
      agree_favoured (g ∷ gs) a = (a.0, agree_favoured gs a.1)

      by : (o : Option (Board FlatState)) → turn (machine_in terms) terms h (whole_leg (machine_in terms) terms h b) (with_favoured r b) ≡ o
          → ((d : Board FlatState) → turn (machine_in terms) terms h (whole_leg (machine_in terms) terms h b) (with_favoured r b) ≡ Some d
          → sweep (machine_in terms) terms r true hs d ≡ sweep_with (machine_in terms) terms r legs hs d)
          → option_and_then (sweep (machine_in terms) terms r true hs)
          (turn (machine_in terms) terms h (whole_leg (machine_in terms) terms h b) (with_favoured r b)) ≡ option_and_then
          (sweep_with (machine_in terms) terms r legs hs) (turn (machine_in terms) terms h (whole_leg (machine_in terms) terms h b) (with_favoured r b))
      by None is rest =
          ap (option_and_then (sweep (machine_in terms) terms r true hs)) is ∙ sym (ap (option_and_then (sweep_with (machine_in terms) terms r legs hs)) is)
      by (Some d) is rest =
          ap (option_and_then (sweep (machine_in terms) terms r true hs)) is ∙ rest d is
          ∙ sym (ap (option_and_then (sweep_with (machine_in terms) terms r legs hs)) is)

  last_same : (legs : ℕ → ℕ) (hs : List ℕ) (b : Board FlatState) → From b → EachBelow many hs → Apart hs → Agree legs hs b
      → last_turns (machine_in terms) terms hs b ≡ last_with (machine_in terms) terms legs hs b
  last_same legs [] b from each all agree = refl
  last_same legs (h ∷ hs) b from each all agree =
      by (if whole_leg (machine_in terms) terms h b == 0 then Some b else turn (machine_in terms) terms h (whole_leg (machine_in terms) terms h b) b)
      (whole_leg (machine_in terms) terms h b == 0) refl
      (λ d p is. let x = step p d is in last_same legs hs d x.0 each.1 all.1 x.1)
      ∙ ap (λ n. option_and_then (last_with (machine_in terms) terms legs hs) (if n == 0 then Some b else turn (machine_in terms) terms h n b)) (sym agree.0)
    where
      step : (p : Bool) (d : Board FlatState) → (if p then Some b else turn (machine_in terms) terms h (whole_leg (machine_in terms) terms h b) b) ≡ Some d
          → From d × Agree legs hs d
      step true d is = subst (λ (z : Board FlatState). From z × Agree legs hs z) (same_Some _ _ is) (from, agree.1)
      step false d is = (
        Turned h (whole_leg (machine_in terms) terms h b) b d from each.0 (omega arith) is,
        agree_then legs h (whole_leg (machine_in terms) terms h b) b d from each.0 (omega arith) is hs each.1 all.0 agree.1,
      )

      by : (o : Option (Board FlatState)) (p : Bool) → (if p then Some b else turn (machine_in terms) terms h (whole_leg (machine_in terms) terms h b) b) ≡ o
          → ((d : Board FlatState) (p : Bool) → (if p then Some b else turn (machine_in terms) terms h (whole_leg (machine_in terms) terms h b) b) ≡ Some d
          → last_turns (machine_in terms) terms hs d ≡ last_with (machine_in terms) terms legs hs d)
          → option_and_then (last_turns (machine_in terms) terms hs)
          (if p then Some b else turn (machine_in terms) terms h (whole_leg (machine_in terms) terms h b) b) ≡ option_and_then
          (last_with (machine_in terms) terms legs hs) (if p then Some b else turn (machine_in terms) terms h (whole_leg (machine_in terms) terms h b) b)
      by None p is rest =
          ap (option_and_then (last_turns (machine_in terms) terms hs)) is ∙ sym (ap (option_and_then (last_with (machine_in terms) terms legs hs)) is)
      by (Some d) p is rest =
          ap (option_and_then (last_turns (machine_in terms) terms hs)) is ∙ rest d p is
          ∙ sym (ap (option_and_then (last_with (machine_in terms) terms legs hs)) is)

  streams_size : (b : Board FlatState) → From b → length b.streams ≡ many
  streams_size b from = (reached_are_crew terms image many supply whole pages b from).1

  pub legs_at_once : (r : ℕ) (b : Board FlatState) → From b
      → sweep (machine_in terms) terms r true (round_from r b) b ≡ sweep_with (machine_in terms) terms r (λ h. whole_leg (machine_in terms) terms h b)
      (round_from r b) b
  legs_at_once r b from =
      let n = length b.streams in
      sweep_same r (λ h. whole_leg (machine_in terms) terms h b) (round_from r b) b from
      (subst (λ k. EachBelow k (round_from r b)) (streams_size b from) (round_below n r))
      (mapped_apart n (λ i. (r + i) % n) (λ i j l m same. apart n r i j l m same) (below n) (each_below n n (omega arith)) (below_apart n))
      (agree_first b (round_from r b))

  pub last_at_once : (b : Board FlatState) → From b
      → last_turns (machine_in terms) terms (harts b) b ≡ last_with (machine_in terms) terms (λ h. whole_leg (machine_in terms) terms h b) (harts b) b
  last_at_once b from =
      let n = length b.streams in
      last_same (λ h. whole_leg (machine_in terms) terms h b) (harts b) b from (each_below many n (let z = streams_size b from in omega (arith, z)))
      (below_apart n) (agree_first b (harts b))

-- before any turn nobody is told to go
none_told : (told : Option Order) → told ≡ None → (n h : ℕ) → unwrap_or (slice_get (replicate n told) h) None ≡ None
none_told told none zero h = refl
none_told told none (suc n) zero = none
none_told told none (suc n) (suc h) = none_told told none n h

still_legs : (terms : Terms) (r : ℕ) (legs : ℕ → ℕ) → ((h : ℕ) → legs h ≡ 0) → (hs : List ℕ) (b : Board FlatState)
    → sweep_with (machine_in terms) terms r legs hs b ≡ sweep (machine_in terms) terms r false hs b
still_legs terms r legs none [] b = refl
still_legs terms r legs none (h ∷ hs) b =
    ap (λ n. option_and_then (sweep_with (machine_in terms) terms r legs hs) (turn (machine_in terms) terms h n (with_favoured r b))) (none h)
    ∙ same (turn (machine_in terms) terms h 0 (with_favoured r b)) (λ d. still_legs terms r legs none hs d)
  where
    same : (o : Option (Board FlatState))
        → ((d : Board FlatState) → sweep_with (machine_in terms) terms r legs hs d ≡ sweep (machine_in terms) terms r false hs d)
        → option_and_then (sweep_with (machine_in terms) terms r legs hs) o ≡ option_and_then (sweep (machine_in terms) terms r false hs) o
    same None f = refl
    same (Some d) f = f d

pub begin_still : (terms : Terms) (image : Image) (many : ℕ) (supply : Supply) → IsWhole image → terms.pages ≡ image.pages
    → round (machine_in terms) terms 0 true (first_board terms image many supply) ≡ round (machine_in terms) terms 0 false (first_board terms image many supply)
begin_still terms image many supply whole pages =
    let first = first_board terms image many supply in
    let hs = round_from 0 first in
    ap (λ o. option_and_then (sweep (machine_in terms) terms 0 false hs) (option_and_then (sweep (machine_in terms) terms 0 false hs) o))
    (legs_at_once terms image many supply whole pages 0 first Begun
    ∙ still_legs terms 0 (λ h. whole_leg (machine_in terms) terms h first)
    (λ h. ap (leg_by (machine_in terms) terms h first) (none_told None refl many h)) hs first)
