-- Recordings in rounds.
use Rattle.std.proofs.Common.{◌≡◌, ℕ, zero, suc, ◌+◌, ◌%◌, ◌<◌, ◌≤◌, ◌==◌, not, Bool, true, false, List, [], ◌∷◌, ◌++◌, length, map, Option, Some, None, refl}
use Rattle.std.proofs.Common.{sym, subst, arith, if◌then◌else◌}
use Rattle.std.specs.Option.{option_and_then}
use Rattle.std.proofs.Math.Nat.{mod-lt}
use Rattle.std.proofs.lemmas.Option.{none-some, same_Some}
use Rattle.shared_types.proofs.Lists.{bound_to}
use Rattle.orders_law.specs.Orders.{below}
use Rattle.turn_model.specs.Recordable.{Recordable}
use Rattle.turn_model.specs.Board.{Board, Terms, Supply, harts, is_over}
use Rattle.turn_model.specs.Turn.{turn}
use Rattle.turn_model.specs.Lists.{RecordingEnd, whole_leg, comes_to}
use Rattle.turn_model.specs.Rounds.{round_from, with_favoured, sweep, round, rounds, last_turns, IsRecordedInRounds}
use Rattle.turn_model.specs.Faithful.{IsFaithful, AccessesSend}
use Rattle.turn_model.proofs.Ways.{recording_of}
use Rattle.turn_model.proofs.Turns.{CanMove}
use Rattle.turn_model.proofs.Boards.{begin, can_leg, no_leg, reached_sound, reached_begin, reached_aside, reached_turn, closing_turn, closing_begin, done_turn}
use Rattle.turn_model.proofs.EndCauses.{agrees}
use Rattle.turn_model.proofs.ListsOfTurns.{Reached, Closing, Done, Agrees, IsFresh, is_done}
use Rattle.turn_model.specs.Laws.{EachBelow}

pub each_more : (n : ℕ) (xs : List ℕ) (h : ℕ) → EachBelow n xs → h < n → EachBelow n (xs ++ h ∷ [])
each_more n [] h all l = (l, tt)
each_more n (x ∷ xs) h all l = (all.0, each_more n xs h all.1 l)

pub each_below : (n k : ℕ) → k ≤ n → EachBelow n (below k)
each_below n zero l = tt
each_below n (suc k) l = each_more n (below k) k (each_below n k (omega (arith, l))) (omega (arith, l))

pub each_round : (n r : ℕ) (xs : List ℕ) → zero < n → EachBelow n (map (λ i. (r + i) % n) xs)
each_round n r [] l = tt
each_round n r (x ∷ xs) l = (mod-lt (r + x) l, each_round n r xs l)

pub round_below : (n r : ℕ) → EachBelow n (map (λ i. (r + i) % n) (below n))
round_below zero r = tt
round_below (suc n) r = each_round (suc n) r (below (suc n)) (omega arith)

module _ {S V : Type 0} (machine : Recordable S V) (terms : Terms) (many : ℕ) (Good : S → Type 0) (faithful : IsFaithful machine.flat many terms.pages Good)
    (first : S) (supply : Supply) (good : Good first) (unmoved : (h : ℕ) → machine.flat.count first h ≡ 0) (sends : AccessesSend machine) where
  abbrev Comes : Board S → Type 0
  Comes b = Reached machine terms many Good faithful first supply good unmoved sends b
      × Closing machine terms many Good faithful first supply good unmoved sends b

  abbrev Over : Board S → Type 0
  Over b = Comes b × Done machine terms many Good faithful first supply good unmoved sends b

  abbrev Moves : ℕ → ℕ → Board S → Type 0
  Moves h n b = CanMove machine terms many terms.pages Good faithful h n (recording_of b)

  leg_or_none : (moved : Bool) (k : ℕ) → k ≡ 0 → (if moved then k else 0) ≡ 0
  leg_or_none true k e = e
  leg_or_none false k e = refl

  can_move : (h : ℕ) (moved : Bool) (b : Board S) → h < many → Comes b → Moves h (if moved then whole_leg machine terms h b else 0) b
  can_move h true b inside p = can_leg machine terms many Good faithful h b inside p.0.orders
  can_move h false b inside p = λ i l. absurd (omega (arith, l))

  -- a turn of a hart with its leg or no moves
  turn_comes : (h : ℕ) (moved : Bool) (b c : Board S) → h < many → Comes b
      → turn machine terms h (if moved then whole_leg machine terms h b else 0) b ≡ Some c → Comes c
  turn_comes h moved b c inside p is =
      let n = if moved then whole_leg machine terms h b else 0 in
      let can = can_move h moved b inside p in (
        reached_turn machine terms many Good faithful first supply good unmoved sends h n b c inside p.0 can is,
        closing_turn machine terms many Good faithful first supply good unmoved h n b c inside p.0 can
            (λ none. leg_or_none moved (whole_leg machine terms h b) (no_leg machine terms many Good faithful h b none)) is p.1,
      )

  favoured_comes : (r : ℕ) (b : Board S) → Comes b → Comes (with_favoured r b)
  favoured_comes r b p = (
    reached_aside machine terms many Good faithful first supply good unmoved b (with_favoured r b) p.0 refl refl refl refl refl
        (λ g l order e. p.0.orders g l order e),
    record { wants = p.1.wants; closed = p.1.closed },
  )

  sweep_comes : (r : ℕ) (moved : Bool) (hs : List ℕ) (b c : Board S) → EachBelow many hs → Comes b → sweep machine terms r moved hs b ≡ Some c → Comes c
  sweep_comes r moved [] b c each p is = subst Comes (same_Some _ _ is) p
  sweep_comes r moved (h ∷ hs) b c each p is =
      let m = bound_to (sweep machine terms r moved hs) (turn machine terms h (if moved then whole_leg machine terms h b else 0) (with_favoured r b)) c is in
      sweep_comes r moved hs m.0 c each.1 (turn_comes h moved (with_favoured r b) m.0 each.0 (favoured_comes r b p) m.1) m.2

  streams_size : (b : Board S) → Comes b → length b.streams ≡ many
  streams_size b p = (reached_sound machine terms many Good faithful first supply good unmoved b p.0).ordered.tidy.streams

  round_comes : (r : ℕ) (moved : Bool) (b c : Board S) → Comes b → round machine terms r moved b ≡ Some c → Comes c
  round_comes r moved b c p is =
      let hs = round_from r b in
      let each = subst (λ n. EachBelow n hs) (streams_size b p) (round_below (length b.streams) r) in
      let y = bound_to (sweep machine terms r false hs) (option_and_then (sweep machine terms r false hs) (sweep machine terms r moved hs b)) c is in
      let x = bound_to (sweep machine terms r false hs) (sweep machine terms r moved hs b) y.0 y.1 in
      sweep_comes r false hs y.0 c each (sweep_comes r false hs x.0 y.0 each (sweep_comes r moved hs b x.0 each p x.1) x.2) y.2

  unless : {A : Type 0} (x : Bool) (o : Option A) (a : A) → (if x then None else o) ≡ Some a → o ≡ Some a
  unless true o a e = absurd (none-some _ e)
  unless false o a e = e

  rounds_come : (r more : ℕ) (b c : Board S) → Comes b → rounds machine terms r more b ≡ Some c → Comes c
  rounds_come r zero b c p is = subst Comes (same_Some _ _ is) p
  rounds_come r (suc more) b c p is =
      let m = bound_to (rounds machine terms (r + 1) more) (round machine terms r (not (r == 0)) b) c
      (unless (is_over machine terms b) (option_and_then (rounds machine terms (r + 1) more) (round machine terms r (not (r == 0)) b)) c is) in
      rounds_come (r + 1) more m.0 c (round_comes r (not (r == 0)) b m.0 p m.1) m.2

  last_one : (h : ℕ) (x : Bool) (b c : Board S) → h < many → Over b → (if x then Some b else turn machine terms h (whole_leg machine terms h b) b) ≡ Some c
      → Over c
  last_one h true b c inside p is = subst Over (same_Some _ _ is) p
  last_one h false b c inside p is = (
    turn_comes h true b c inside p.0 is,
    done_turn machine terms many Good faithful first supply good unmoved h (whole_leg machine terms h b) b c inside p.0.0 (can_move h true b inside p.0) is p.1,
  )

  last_come : (hs : List ℕ) (b c : Board S) → EachBelow many hs → Over b → last_turns machine terms hs b ≡ Some c → Over c
  last_come [] b c each p is = subst Over (same_Some _ _ is) p
  last_come (h ∷ hs) b c each p is =
      let m = bound_to (last_turns machine terms hs)
      (if whole_leg machine terms h b == 0 then Some b else turn machine terms h (whole_leg machine terms h b) b) c is in
      last_come hs m.0 c each.1 (last_one h (whole_leg machine terms h b == 0) b m.0 each.0 p m.1) m.2

  pub recorded_in_rounds : IsFresh machine terms many Good faithful first supply good unmoved sends first → (r : RecordingEnd S)
      → IsRecordedInRounds machine terms (begin machine terms many Good faithful first supply good unmoved) r
      → (d : Board S) × Reached machine terms many Good faithful first supply good unmoved sends d
      × Agrees machine terms many Good faithful first supply good unmoved sends d × (comes_to machine terms d ≡ r)
  recorded_in_rounds fresh r is =
      let b = begin machine terms many Good faithful first supply good unmoved in
      let p = rounds_come 0 is.number b is.over (
        reached_begin machine terms many Good faithful first supply good unmoved fresh.1 fresh.2,
        closing_begin machine terms many Good faithful first supply good unmoved fresh.0,
      ) is.are_made in
      let each = subst (λ n. EachBelow many (below n)) (sym (streams_size is.over p)) (each_below many many (omega arith)) in
      let q = last_come (harts is.over) is.over is.closed each
      (p, is_done machine terms many Good faithful first supply good unmoved sends is.over p.0 is.is_over) is.last in (
        is.closed,
        q.0.0,
        agrees machine terms many Good faithful is.closed
            (reached_sound machine terms many Good faithful first supply good unmoved is.closed q.0.0) q.0.1 q.1,
        sym is.recorded,
      )
