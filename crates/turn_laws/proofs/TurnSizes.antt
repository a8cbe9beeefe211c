-- How much a turn makes at most.
use Rattle.std.proofs.Common.{◌≡◌, inl, inr, ℕ, zero, suc, ◌+◌, ◌-◌, ◌%◌, ◌<◌, ◌≤◌, ◌==◌, ◌&&◌, ◌||◌, max, nat_lt, Bool, true, false, List, [], ◌∷◌, ◌++◌}
use Rattle.std.proofs.Common.{length, map, Option, Some, None, is_some, slice_get, slice_set, unwrap_or, refl, sym, ap, ◌∙◌, arith, if◌then◌else◌, true≢false}
use Rattle.std.specs.Option.{option_map_or}
use Rattle.std.proofs.lemmas.List.{length-append, length-set}
use Rattle.std.proofs.lemmas.Option.{none-some, same_Some}
use Rattle.std.proofs.lemmas.Bool.Decides.{eqb_tells, leb_tells}
use Rattle.rv_words.specs.Limits.{poll_distance}
use Rattle.rv_words.specs.declared.shared.Mode.{Mode}
use Rattle.rv_words.specs.declared.shared.Cause.TheVariants.{Full, Fault, Stop}
use Rattle.rv_words.specs.declared.shared.DeviceWord.{DeviceWord}
use Rattle.rv_words.specs.declared.shared.Input.TheVariants.{Nothing}
use Rattle.outside.specs.declared.console.Asked.{Asked}
use Rattle.device_board.specs.Recording.{recorded_input}
use Rattle.rv_hart.specs.State.{Hart}
use Rattle.rv_hart.specs.Needs.{data_pages, pages_needed}
use Rattle.rv_hart.specs.Effects.{effect_of}
use Rattle.rv_hart.specs.Moves.{need_of}
use Rattle.rv_hart.specs.declared.effect.Need.{Need}
use Rattle.rv_hart.specs.declared.effect.Need.TheVariants as need
use Rattle.flat_machine.specs.State.{FlatState}
use Rattle.flat_machine.specs.Moves.{fetched}
use Rattle.log_entry.specs.declared.log.Entry.{Entry}
use Rattle.order_rules.specs.Rules.{has_poll}
use Rattle.orders_law.specs.Orders.{below}
use Rattle.replay_model.specs.Board.{board}
use Rattle.turn_model.specs.Board.{Board, Order, Go, Hold, Rest, Supply, Terms, harts, stream, wanted, last_order, closes, is_at_limit}
use Rattle.replay_model.specs.State.{Replay}
use Rattle.replay_model.specs.Items.{Makes, Move, made, goes, verdict_on}
use Rattle.shared_types.proofs.Lists.{mapped, bound_to}
use Rattle.turn_model.specs.Recordable.{Recordable}
use Rattle.turn_model.specs.Claims.{holds_so, kept_by, needed}
use Rattle.turn_model.specs.Ways.{Way, On, Ends, Nowhere, on, has_room, with_room, entered}
use Rattle.turn_model.specs.Ways as ways
use Rattle.turn_model.specs.Steps.{commits, passes, passes_favour, with_want, runs, console_gives, clock_gives, clock_answers, rests_where_closed}
use Rattle.turn_model.specs.Steps.{rests_at_limit, is_due, poll_at, polls_with, polls, yield_of, yields_now, yields_for, yields_to, yields, gain_of}
use Rattle.turn_model.specs.Steps.{gains_unless, gains_page, gains, touch_of, behind_touch, touched, touches_at, touches_with, accesses, touches, goes_on}
use Rattle.turn_model.specs.Steps.{steps}
use Rattle.turn_model.specs.Lists.{leg, leg_by, whole_leg}
use Rattle.turn_model.specs.Turn.{turn, ended_by}
use Rattle.turn_laws.specs.Polls.{IsPolledTo}

-- one entry more at most
one_more : (streams : List (List Entry)) (h : ℕ) (e : Entry)
    → length (unwrap_or (slice_get (slice_set streams h (unwrap_or (slice_get streams h) [] ++ e ∷ [])) h) []) ≤ length (unwrap_or (slice_get streams h) []) + 1
one_more [] h e = omega arith
one_more (s ∷ streams) zero e = let z = length-append s (e ∷ []) in omega (arith, z)
one_more (s ∷ streams) (suc h) e = one_more streams h e

-- how many harts there are but for h
abbrev others : ℕ → List ℕ → ℕ
others h [] = 0
others h (g ∷ hs) = (if g == h then 0 else 1) + others h hs

others_more : (h g : ℕ) (hs : List ℕ) → others h (hs ++ g ∷ []) ≡ others h hs + (if g == h then 0 else 1)
others_more h g [] = omega arith
others_more h g (x ∷ hs) = let r = others_more h g hs in omega (arith, r)

others_all : (h n : ℕ) → n ≤ h → others h (below n) ≤ n
others_all h zero l = omega arith
others_all h (suc n) l = let r = others_all h n (omega (arith, l)) in let m = others_more h n (below n) in let k = one (n == h) in omega (arith, r, m, k) where
  one : (b : Bool) → (if b then 0 else 1) ≤ 1
  one true = omega arith
  one false = omega arith

others_but : (h n : ℕ) → h < n → others h (below n) + 1 ≤ n
others_but h zero l = absurd (omega (arith, l))
others_but h (suc n) l = elim (eqb_tells n h) [
  | inl (t, same) ↦
      let m = others_more h n (below n) in
      let k = ap {B = ℕ} (λ b. if b then 0 else 1) t in
      let r = others_all h n (omega (arith, same)) in omega (arith, m, k, r)
  | inr (f, other) ↦
      let m = others_more h n (below n) in
      let k = ap {B = ℕ} (λ b. if b then 0 else 1) f in
      let r = others_but h n (omega (arith, l, other)) in omega (arith, m, k, r)
]

module _ {S V : Type 0} (machine : Recordable S V) (terms : Terms) (h : ℕ) where
  -- at most so many entries more
  abbrev More : ℕ → Board S → Board S → Type 0
  More k b c = (length (stream c h) ≤ length (stream b h) + k) × (length c.streams ≡ length b.streams)

  abbrev To : ℕ → Board S → Way S → Type 0
  To k b (On c) = More k b c
  To k b (Ends order c) = More k b c
  To k b Nowhere = Unit {0}

  none : (k : ℕ) (b c : Board S) → c.streams ≡ b.streams → More k b c
  none k b c same = (
    (let z = ap (λ (ss : List (List Entry)). length (unwrap_or (slice_get ss h) [])) same in omega (arith, z)),
    ap (λ (ss : List (List Entry)). length ss) same,
  )

  wider : (k m : ℕ) (b : Board S) (way : Way S) → k ≤ m → To k b way → To m b way
  wider k m b (On c) l t = ((let z = t.0 in omega (arith, z, l)), t.1)
  wider k m b (Ends order c) l t = ((let z = t.0 in omega (arith, z, l)), t.1)
  wider k m b Nowhere l t = tt

  behind : (k m : ℕ) (b c : Board S) (way : Way S) → More k b c → To m c way → To (k + m) b way
  behind k m b c (On d) x t = ((let y = x.0 in let z = t.0 in omega (arith, y, z)), t.1 ∙ x.1)
  behind k m b c (Ends order d) x t = ((let y = x.0 in let z = t.0 in omega (arith, y, z)), t.1 ∙ x.1)
  behind k m b c Nowhere x t = tt

  choice : (k : ℕ) (b : Board S) (p : Bool) (w v : Way S) → To k b w → To k b v → To k b (if p then w else v)
  choice k b true w v x y = x
  choice k b false w v x y = y

  -- what steps make at most, on a board of so many harts
  abbrev Adds : ℕ → ℕ → (Board S → Way S) → Type 0
  Adds many k step = (b : Board S) → length b.streams ≡ many → To k b (step b)

  abbrev Costs : ℕ → List (Board S → Way S) → ℕ → Type 0
  Costs many [] m = Unit {0}
  Costs many (step ∷ steps) m = (k : ℕ) × (j : ℕ) × (k + j ≤ m) × Adds many k step × Costs many steps j

  goes_adds : (many : ℕ) (steps : List (Board S → Way S)) (m : ℕ) → Costs many steps m → (k : ℕ) (b : Board S) (way : Way S) → length b.streams ≡ many
      → To k b way → To (k + m) b (ways.goes steps way)
  goes_adds many [] m costs k b way size t = wider k (k + m) b way (omega arith) t
  goes_adds many (step ∷ steps) m costs k b (On c) size t =
      wider (k + costs.0 + costs.1) (k + m) b (ways.goes steps (step c)) (let z = costs.2 in omega (arith, z))
      (goes_adds many steps costs.1 costs.4 (k + costs.0) b (step c) size (behind k costs.0 b c (step c) t (costs.3 c (t.1 ∙ size))))
  goes_adds many (step ∷ steps) m costs k b (Ends order c) size t = wider k (k + m) b (Ends order c) (omega arith) t
  goes_adds many (step ∷ steps) m costs k b Nowhere size t = tt

  entry_adds : (e : Entry) (b c : Board S) → entered machine terms h e b ≡ Some c → More 1 b c
  entry_adds e b c is =
      let a =
      mapped (λ (s : Replay S). record b { at = s; streams = slice_set b.streams h (stream b h ++ e ∷ []) }) (made machine.flat b.at h (Makes e)) c is in
      let streams : c.streams ≡ slice_set b.streams h (stream b h ++ e ∷ []) = sym (ap (λ (x : Board S). x.streams) a.2) in (
        (let z = ap (λ (ss : List (List Entry)). length (unwrap_or (slice_get ss h) [])) streams in let m = one_more b.streams h e in omega (arith, z, m)),
        ap (λ (ss : List (List Entry)). length ss) streams ∙ length-set b.streams h (stream b h ++ e ∷ []),
      )

  on_adds : (e : Entry) (b c : Board S) → c.streams ≡ b.streams → To 1 b (on (entered machine terms h e c))
  on_adds e b c same = by (entered machine terms h e c) refl where
    by : (o : Option (Board S)) → entered machine terms h e c ≡ o → To 1 b (on o)
    by None is = tt
    by (Some d) is =
        let x = entry_adds e c d is in (
          (let y = x.0 in let z = ap (λ (ss : List (List Entry)). length (unwrap_or (slice_get ss h) [])) same in omega (arith, y, z)),
          x.1
              ∙ ap (λ (ss : List (List Entry)). length ss) same,
        )

  room_adds : (k : ℕ) (e : Entry) (step : Board S → Way S) (b : Board S) → To k b (step b) → To k b (with_room machine terms e step b)
  room_adds k e step b t = choice k b (has_room machine terms e b) (step b) (Ends Rest (closes Full b)) t (none k b (closes Full b) refl)

  closed_adds : (many : ℕ) → Adds many 0 (rests_where_closed machine terms)
  closed_adds many b size = choice 0 b (is_some b.closed || machine.flat.is_stopped b.at.flat) (Ends Rest b) (On b) (none 0 b b refl) (none 0 b b refl)

  limit_adds : (many : ℕ) → Adds many 0 (rests_at_limit machine terms h)
  limit_adds many b size = choice 0 b (is_at_limit machine terms b h) (Ends Rest b) (On b) (none 0 b b refl) (none 0 b b refl)

  polls_add : (many : ℕ) → Adds many 1 (polls machine terms h)
  polls_add many b size =
      choice 1 b (is_due machine terms h b) (with_room machine terms (poll_at machine terms h b 0)
      (λ c. polls_with machine terms h c (clock_answers c.supply.times c.supply)) b) (On b)
      (room_adds 1 (poll_at machine terms h b 0) (λ c. polls_with machine terms h c (clock_answers c.supply.times c.supply)) b
      (by (clock_answers b.supply.times b.supply))) (none 1 b b refl)
    where
      by : (o : Option (ℕ × Supply)) → To 1 b (polls_with machine terms h b o)
      by None = tt
      by (Some r) = on_adds (poll_at machine terms h b (max r.0 (machine.flat.time b.at.flat))) b (record b { supply = r.1 }) refl

  yields_add : (many : ℕ) → h < many → Adds many (many - 1) (yields machine terms h)
  yields_add many l b size =
      wider (0 + others h (harts b)) (many - 1) b (ways.goes (map (yields_to machine terms h) (harts b)) (On b))
      (let z = others_but h (length b.streams) (omega (arith, l, size)) in omega (arith, z, size))
      (goes_adds many (map (yields_to machine terms h) (harts b)) (others h (harts b)) (all (harts b)) 0 b (On b) size (none 0 b b refl))
    where
      for : (g : ℕ) (w : Option (ℕ × Mode)) (c : Board S) → To 1 c (yields_for machine terms h g w c)
      for g None c = none 1 c c refl
      for g (Some n) c =
          choice 1 c (yields_now machine terms h g n c)
          (with_room machine terms (yield_of machine terms h n c) (λ d. on (entered machine terms h (yield_of machine terms h n d) d)) c) (On c)
          (room_adds 1 (yield_of machine terms h n c) (λ d. on (entered machine terms h (yield_of machine terms h n d) d)) c
          (on_adds (yield_of machine terms h n c) c c refl)) (none 1 c c refl)

      to : (g : ℕ) (p : Bool) (c : Board S) → To (if p then 0 else 1) c (if p then On c else yields_for machine terms h g (wanted c g) c)
      to g true c = none 0 c c refl
      to g false c = for g (wanted c g) c

      all : (hs : List ℕ) → Costs many (map (yields_to machine terms h) hs) (others h hs)
      all [] = tt
      all (g ∷ hs) = ((if g == h then 0 else 1), others h hs, omega arith, λ c size. to g (g == h) c, all hs)

  gains_add : (many : ℕ) → ((s : S) → length (machine.flat.need s h) ≤ 2) → Adds many 2 (gains machine terms h)
  gains_add many short b size =
      wider (0 + length (needed machine terms b h)) 2 b (ways.goes (map (gains_page machine terms h) (needed machine terms b h)) (On b))
      (let z = short b.at.flat in omega (arith, z))
      (goes_adds many (map (gains_page machine terms h) (needed machine terms b h)) (length (needed machine terms b h)) (all (needed machine terms b h)) 0 b
      (On b) size (none 0 b b refl))
    where
      unless : (o : Option ℕ) (n : ℕ × Mode) (c : Board S) → To 1 c (gains_unless machine terms o h n c)
      unless None n c =
          room_adds 1 (gain_of machine terms h n c) (λ d. on (entered machine terms h (gain_of machine terms h n d) d)) c
          (on_adds (gain_of machine terms h n c) c c refl)
      unless (Some g) n c = none 1 c (with_want h (Some n) c) refl

      all : (ns : List (ℕ × Mode)) → Costs many (map (gains_page machine terms h) ns) (length ns)
      all [] = tt
      all (n ∷ ns) = (
        1,
        length ns,
        omega arith,
        λ c size. choice 1 c (holds_so c h n) (On c) (gains_unless machine terms (kept_by c h n) h n c) (none 1 c c refl)
            (unless (kept_by c h n) n c),
        all ns,
      )

  touches_add : (many : ℕ) → Adds many 1 (touches machine terms h)
  touches_add many b size = access (machine.access b.at.flat h) where
    behind_adds : (c : Board S) → To 0 c (behind_touch machine terms h c)
    behind_adds c =
        choice 0 c (machine.flat.is_stopped c.at.flat) (Ends Rest (closes Stop c)) (On (if h == c.favoured then passes_favour h c else c))
        (none 0 c (closes Stop c) refl) (by (h == c.favoured)) where
          by : (p : Bool) → More 0 c (if p then passes_favour h c else c)
          by true = none 0 c (passes_favour h c) refl
          by false = none 0 c c refl

    touch : (e : Entry) (c : Board S) → c.streams ≡ b.streams → To 1 b (touched machine terms h (entered machine terms h e c))
    touch e c same = by (entered machine terms h e c) refl where
      by : (o : Option (Board S)) → entered machine terms h e c ≡ o → To 1 b (touched machine terms h o)
      by None is = tt
      by (Some d) is =
          let x = entry_adds e c d is in
          behind 1 0 b d (behind_touch machine terms h d) (
            (let y = x.0 in let z = ap (λ (ss : List (List Entry)). length (unwrap_or (slice_get ss h) [])) same in omega (arith, y, z)),
            x.1
                ∙ ap (λ (ss : List (List Entry)). length ss) same,
          ) (behind_adds d)

    timed : (word : DeviceWord) (store : Option ℕ) (a : Asked) (o : Option (ℕ × Supply)) → To 1 b (touches_at machine terms h word store a b o)
    timed word store a None = tt
    timed word store a (Some r) =
        touch (touch_of machine terms h b (recorded_input word store (machine.flat.time b.at.flat) r.0 a)) (record b { supply = r.1 }) refl

    told : (word : DeviceWord) (store : Option ℕ) (o : Option (Asked × Supply)) → To 1 b (touches_with machine terms h word store b o)
    told word store None = none 1 b (closes Fault b) refl
    told word store (Some r) = timed word store r.0 (clock_gives word store r.1)

    access : (o : Option (DeviceWord × Option ℕ)) → To 1 b (accesses machine terms h o b)
    access None = none 1 b b refl
    access (Some (word, store)) =
        room_adds 1 (touch_of machine terms h b Nothing) (λ c. touches_with machine terms h word store c (console_gives word store c.supply)) b
        (told word store (console_gives word store b.supply))

  goes_on_adds : (many : ℕ) → Adds many 0 (goes_on machine terms h)
  goes_on_adds many b size = none 0 b b refl

  steps_add : (many : ℕ) → h < many → ((s : S) → length (machine.flat.need s h) ≤ 2) → Costs many (steps machine terms h) (many + 3)
  steps_add many l short = (
    0,
    many + 3,
    omega arith,
    closed_adds many,
    (
      1,
      many + 2,
      omega arith,
      polls_add many,
      (
        many - 1,
        3,
        omega (arith, l),
        yields_add many l,
        (
          0,
          3,
          omega arith,
          limit_adds many,
          (
            2,
            1,
            omega arith,
            gains_add many short,
            (
              1,
              0,
              omega arith,
              touches_add many,
              (
                0,
                0,
                omega arith,
                limit_adds many,
                (0, 0, omega arith, goes_on_adds many, tt),
              ),
            ),
          ),
        ),
      ),
    ),
  )

  commits_none : (n : ℕ) (b c : Board S) → commits machine terms h n b ≡ Some c → c.streams ≡ b.streams
  commits_none n b c is =
      let y = mapped (λ (s : Replay S). with_want h None (passes machine terms h n (record b { at = s }))) (runs machine terms h n b.at) c is in
      sym (ap (λ (x : Board S). x.streams) y.2) ∙ by ((h == b.favoured) && (nat_lt 0 n || is_at_limit machine terms (record b { at = y.0 }) h)) y.0
    where
      by : (p : Bool) (s : Replay S) → (if p then passes_favour h (record b { at = s }) else record b { at = s }).streams ≡ b.streams
      by true s = refl
      by false s = refl

  pub turn_adds : (n : ℕ) (b d : Board S) → h < length b.streams → ((s : S) → length (machine.flat.need s h) ≤ 2) → turn machine terms h n b ≡ Some d
      → length (stream d h) ≤ length (stream b h) + (length b.streams + 3)
  turn_adds n b d l short is =
      let c = bound_to (λ c. ended_by h n b (ways.goes (steps machine terms h) (On c))) (commits machine terms h n b) d is in
      let same = commits_none n b c.0 c.1 in
      by (ways.goes (steps machine terms h) (On c.0))
      (goes_adds (length b.streams) (steps machine terms h) (length b.streams + 3) (steps_add (length b.streams) l short) 0 b (On c.0) refl
      (none 0 b c.0 same)) c.2
    where
      by : (way : Way S) → To (0 + (length b.streams + 3)) b way → ended_by h n b way ≡ Some d
          → length (stream d h) ≤ length (stream b h) + (length b.streams + 3)
      by (On e) t ended = absurd (none-some _ ended)
      by Nowhere t ended = absurd (none-some _ ended)
      by (Ends order e) t ended = let z = ap (λ (x : Board S). length (stream x h)) (same_Some _ _ ended) in let y = t.0 in omega (arith, y, z)

-- a move needs two pages at most
data_short : (unit : ℕ) (n : Need) → length (data_pages unit n) ≤ 1
data_short unit (need.Load at) = omega arith
data_short unit (need.Store at) = omega arith
data_short unit (need.Exclusive at) = omega arith
data_short unit (need.Device access) = omega arith
data_short unit need.Nothing = omega arith

needs_short : (unit : ℕ) (x : Hart) (o : Option ℕ) → length (pages_needed unit x o) ≤ 2
needs_short unit x None = omega arith
needs_short unit x (Some word) = let z = data_short unit (need_of (effect_of x word)) in omega (arith, z)

pub board_short : (unit : ℕ) (s : FlatState) (h : ℕ) → length ((board unit).need s h) ≤ 2
board_short unit s h = by (slice_get s.harts h) where
  by : (o : Option Hart) → length (option_map_or (λ x. pages_needed unit x (fetched x s.memory)) o []) ≤ 2
  by None = omega arith
  by (Some x) = needs_short unit x (fetched x s.memory)

module _ {S V : Type 0} (machine : Recordable S V) (terms : Terms) (h : ℕ) where
  leg_most : (most : ℕ) (s : Replay S) → leg machine terms h most s ≤ most
  leg_most zero s = omega arith
  leg_most (suc most) s = by (goes machine.flat s h Move (verdict_on machine.flat s h Move)) (λ m. leg_most most m) where
    by : (o : Option (Replay S × Option V)) → ((m : Replay S) → leg machine terms h most m ≤ most)
        → option_map_or (λ m. suc (leg machine terms h most m.0)) o 0 ≤ suc most
    by None f = omega arith
    by (Some m) f = let l = f m.0 in omega (arith, l)

  -- where its last order lets it go no further than Polls are made
  pub leg_within : (b : Board S) (due : ℕ) → IsPolledTo (stream b h) due → machine.flat.count b.at.flat h ≤ due
      → ((until : ℕ) → last_order b h ≡ Some (Go until) → (n : ℕ) → machine.flat.count b.at.flat h ≤ n → n < until → n % poll_distance ≡ 0
      → has_poll (stream b h) n ≡ true)
      → machine.flat.count b.at.flat h + whole_leg machine terms h b ≤ due
  leg_within b due polled low told = by (last_order b h) refl where
    by : (o : Option Order) → last_order b h ≡ o → machine.flat.count b.at.flat h + leg_by machine terms h b o ≤ due
    by None is = omega (arith, low)
    by (Some Rest) is = omega (arith, low)
    by (Some (Hold page g)) is = omega (arith, low)
    by (Some (Go until)) is =
        let most = leg_most (until - machine.flat.count b.at.flat h) b.at in
        elim (leb_tells (suc due) until) [
          | inr (f, l) ↦ omega (arith, most, l, low)
          | inl (t, l) ↦ absurd (true≢false (sym (told until is due low (omega (arith, l)) polled.multiple) ∙ polled.below due polled.multiple ∙ not_less due))
        ]
      where
        not_less : (n : ℕ) → nat_lt n n ≡ false
        not_less n = elim (leb_tells (suc n) n) [ inl (t, l) ↦ absurd (omega (arith, l)) | inr (f, l) ↦ f ]
