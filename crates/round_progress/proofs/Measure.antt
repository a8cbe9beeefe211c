-- What falls from round to round.
use Rattle.std.proofs.Common.{◌≡◌, ◌≢◌, ◌⊎◌, inl, inr, ℕ, zero, suc, ◌-◌, ◌<◌, ◌≤◌, ◌==◌, ◌||◌, Bool, true, false, List, [], ◌∷◌, length, map, find, nat_lt}
use Rattle.std.proofs.Common.{Option, Some, None, is_some, refl, sym, ap, ap₂, ◌∙◌, subst, arith, if◌then◌else◌, true≢false}
use Rattle.std.specs.List.{list_any, list_all}
use Rattle.std.specs.Option.{option_map, option_map_or}
use Rattle.std.proofs.lemmas.Bool.{eq-eqb, or_parts, ltb-true, lt-ltb}
use Rattle.std.proofs.lemmas.Bool.Decides.{eqb_tells, leb_tells}
use Rattle.shared_types.proofs.Lists.{is_nothing}
use Rattle.rv_words.specs.declared.shared.Mode.{Mode}
use Rattle.orders_law.specs.Orders.{below}
use Rattle.replay_model.specs.State.{Replay, want}
use Rattle.replay_model.specs.Items.{Move, Verdict, CanGo, goes, verdict_on, judged, told_of}
use Rattle.orders_law.proofs.Below.{all_below}
use Rattle.turn_model.specs.Recordable.{Recordable}
use Rattle.turn_model.specs.Board.{Board, Order, Go, Hold, Rest, Supply, Terms, harts, count, last_order, is_at_limit, is_over}
use Rattle.turn_model.specs.Turn.{turn}
use Rattle.turn_model.specs.Lists.{leg, leg_by, whole_leg}
use Rattle.turn_model.specs.Rounds.{with_favoured, sweep, round}
use Rattle.turn_model.specs.Faithful.{IsFaithful, AccessesSend}
use Rattle.turn_model.proofs.LeanJournals.{WantsStay}
use Rattle.turn_model.proofs.Entries.{can_and_does}
use Rattle.round_progress.proofs.Demands.{IsPlain}
use Rattle.round_progress.specs.Measure.{left_of, has_leg, rounds_left}
use Rattle.round_progress.proofs.Ways.{In, in_below}
use Rattle.round_progress.proofs.OtherHarts.{NeedsStay, turn_leaves, turn_same}
use Rattle.turn_laws.proofs.Ranks.{at_rank, rank, at_inside, rank_inside, rank_at, at_of}
use Rattle.round_progress.proofs.FirstHart.{sound_of, size_of, fine_favoured, behind_of, went, counts_rise, known}
use Rattle.round_progress.proofs.Rounds.{FineB, WonB, Along, Idle, Moves, LeadsB, can_move, turn_fine, along_turn, sweep_along, round_sweeps, round_finds}
use Rattle.turn_model.specs.Laws.{EachBelow}
use Rattle.turn_model.proofs.Rounds.{each_below}

abbrev is_go : Verdict → Bool
is_go CanGo = true
is_go v = false

any_here : (test : ℕ → Bool) (xs : List ℕ) (x : ℕ) → In x xs → test x ≡ true → list_any test xs ≡ true
any_here test [] x i t = absurd i
any_here test (y ∷ ys) x (inl e) t = ap (λ b. b || list_any test ys) (ap test (sym e) ∙ t)
any_here test (y ∷ ys) x (inr i) t = by (test y) (any_here test ys x i t) where
  by : (b : Bool) → list_any test ys ≡ true → (b || list_any test ys) ≡ true
  by true e = refl
  by false e = e

any_found : (test : ℕ → Bool) (n : ℕ) (xs : List ℕ) → EachBelow n xs → list_any test xs ≡ true → (x : ℕ) × (x < n) × (test x ≡ true)
any_found test n [] each e = absurd (true≢false (sym e))
any_found test n (y ∷ ys) each e = by (test y) refl e (any_found test n ys each.1) where
  by : (b : Bool) → test y ≡ b → (b || list_any test ys) ≡ true → (list_any test ys ≡ true → (x : ℕ) × (x < n) × (test x ≡ true)) → (x : ℕ) × (x < n)
      × (test x ≡ true)
  by true is e rest = (y, each.0, is)
  by false is e rest = rest e

abbrev one_unless : Bool → ℕ
one_unless x = if x then 0 else 1

module _ {S V : Type 0} (machine : Recordable S V) (terms : Terms) (many : ℕ) (Good : S → Type 0) (faithful : IsFaithful machine.flat many terms.pages Good)
    (first : S) (supply : Supply) (good : Good first) (unmoved : (h : ℕ) → machine.flat.count first h ≡ 0) (sends : AccessesSend machine)
    (plain : IsPlain machine many Good) (stay : WantsStay machine terms many Good faithful first)
    (needs_stay : NeedsStay machine terms many Good faithful first) where
  abbrev Fine : Board S → Type 0
  Fine b = FineB machine terms many Good faithful first supply good unmoved sends plain stay needs_stay b

  abbrev Won : Board S → Board S → Type 0
  Won b c = WonB machine terms many Good faithful first supply good unmoved sends plain stay needs_stay b c

  abbrev Count : Board S → ℕ → ℕ
  Count b h = machine.flat.count b.at.flat h

  -- a move that can go wants nothing and is no device access
  go_tells : (w : Option (ℕ × Mode)) (x : Bool)
      → judged machine.flat (option_map (λ (t : ℕ × Bool). t.0) (find (λ (t : ℕ × Bool). t.1) ((1, is_some w) ∷ (2, x) ∷ []))) ≡ CanGo → (w ≡ None)
      × (x ≡ false)
  go_tells None false e = (refl, refl)
  go_tells None true e = absurd (true≢false (sym (ap is_go e)))
  go_tells (Some n) x e = absurd (true≢false (sym (ap is_go e)))

  -- a way ahead makes a leg
  leg_there : (h most : ℕ) (s : Replay S) → Good s.flat → h < many → 0 < most → want machine.flat s h ≡ None → machine.flat.is_at_device s.flat h ≡ false
      → 0 < leg machine terms h most s
  leg_there h zero s g inside l none off = absurd (omega (arith, l))
  leg_there h (suc most) s g inside l none off =
      let go : verdict_on machine.flat s h Move ≡ CanGo =
      ap₂ (λ (w : Option (ℕ × Mode)) (x : Bool). judged machine.flat
      (option_map (λ (t : ℕ × Bool). t.0) (find (λ (t : ℕ × Bool). t.1) ((1, is_some w) ∷ (2, x) ∷ [])))) none off in
      let n = plain.runs s.flat h g inside off in
      let made : goes machine.flat s h Move (verdict_on machine.flat s h Move) ≡ Some
      (record s { flat = n.0 }, told_of machine.flat s h Move (record s { flat = n.0 })) =
      ap (goes machine.flat s h Move) go ∙ ap (λ o. option_map (λ (t : Replay S). (t, told_of machine.flat s h Move t))
      (option_map (λ (f : S). record s { flat = f }) o)) n.1 in
      subst (λ o. 0 < option_map_or (λ m. suc (leg machine terms h most m.0)) o 0) (sym made) (omega arith)

  -- a hart was told to go, and has a way ahead
  abbrev Going : ℕ → Board S → Type 0
  Going q b =
      (until : ℕ) × (last_order b q ≡ Some (Go until)) × (machine.flat.count b.at.flat q < until) × (want machine.flat b.at q ≡ None)
      × (machine.flat.is_at_device b.at.flat q ≡ false)

  pub going_leg : (q : ℕ) (b : Board S) → q < many → Fine b → Going q b → 0 < whole_leg machine terms q b
  going_leg q b inside fine (until, told, less, none, off) =
      subst (λ o. 0 < leg_by machine terms q b o) (sym told)
      (leg_there q (until - count machine terms b q) b.at
      (sound_of machine terms many Good faithful first supply good unmoved sends plain stay needs_stay b fine).ordered.tidy.good inside
      (omega (arith, less)) none off)

  leg_going : (q : ℕ) (b : Board S) → 0 < whole_leg machine terms q b → Going q b
  leg_going q b l = by (last_order b q) refl l where
    of_leg : (most : ℕ) (s : Replay S) → 0 < leg machine terms q most s → (0 < most) × (want machine.flat s q ≡ None)
        × (machine.flat.is_at_device s.flat q ≡ false)
    of_leg zero s l = absurd (omega (arith, l))
    of_leg (suc most) s l = made (goes machine.flat s q Move (verdict_on machine.flat s q Move)) refl l where
      made : (o : Option (Replay S × Option V)) → goes machine.flat s q Move (verdict_on machine.flat s q Move) ≡ o
          → 0 < option_map_or (λ m. suc (leg machine terms q most m.0)) o 0 → (0 < suc most) × (want machine.flat s q ≡ None)
          × (machine.flat.is_at_device s.flat q ≡ false)
      made None e l = absurd (omega (arith, l))
      made (Some m) e l =
          let c = can_and_does machine terms many terms.pages Good faithful s q Move (verdict_on machine.flat s q Move) m e in
          let t = go_tells (want machine.flat s q) (machine.flat.is_at_device s.flat q) c.0 in
          (omega arith, t.0, t.1)

    by : (o : Option Order) → last_order b q ≡ o → 0 < leg_by machine terms q b o → Going q b
    by None e l = absurd (omega (arith, l))
    by (Some Rest) e l = absurd (omega (arith, l))
    by (Some (Hold page g)) e l = absurd (omega (arith, l))
    by (Some (Go until)) e l = let x = of_leg (until - count machine terms b q) b.at l in let a = x.0 in (until, e, omega (arith, a), x.1, x.2)

  -- twice what is left, and one: the counts of a board on which turns led
  counts_along : (r : ℕ) (pos : zero < many) (moved : Bool) (z b c : Board S) → Fine b → ((g : ℕ) → Count z g ≤ Count b g)
      → sweep machine terms r moved (map (at_rank many r pos) (below many)) b ≡ Some c → Fine c × ((g : ℕ) → Count z g ≤ Count c g)
  counts_along r pos moved z b c fine rose is =
      sweep_along machine terms many Good faithful first supply good unmoved sends plain stay needs_stay r pos moved
      (λ k d. Fine d × ((g : ℕ) → Count z g ≤ Count d g)) (λ k d e l a t.
      let h = at_rank many r pos k in
      let i = at_inside many r pos k in (
        turn_fine machine terms many Good faithful first supply good unmoved sends plain stay needs_stay r h moved d e i a.0 t,
        λ g. let up =
            counts_rise machine terms many Good faithful first supply good unmoved sends plain stay needs_stay h
            (Moves machine terms many Good faithful first supply good unmoved sends plain stay needs_stay h moved (with_favoured r d)) (with_favoured r d) e i
            (fine_favoured machine terms many Good faithful first supply good unmoved sends plain stay needs_stay r d a.0)
            (can_move machine terms many Good faithful first supply good unmoved sends plain stay needs_stay r h moved d i a.0) t g in
            let was = a.1 g in omega (arith, up, was),
      )) many (omega arith) b c (fine, rose) is

  pub counts_round : (r : ℕ) (pos : zero < many) (moved : Bool) (z c : Board S) → Fine z → round machine terms r moved z ≡ Some c → Fine c
      × ((g : ℕ) → Count z g ≤ Count c g)
  counts_round r pos moved z c fine is =
      let s = round_sweeps machine terms many Good faithful first supply good unmoved sends plain stay needs_stay r pos moved z c fine is in
      let x = counts_along r pos moved z z s.0 fine (λ g. omega arith) s.2 in
      let y = counts_along r pos false z s.0 s.1 x.0 x.1 s.3 in
      counts_along r pos false z s.1 c y.0 y.1 s.4

  module _ (r : ℕ) (pos : zero < many) where
    abbrev hart_at : ℕ → ℕ
    hart_at k = at_rank many r pos k

    abbrev rank_of : ℕ → ℕ
    rank_of g = rank many r pos g

    abbrev AlongB : Board S → (ℕ → Board S → Type 0) → ℕ → Board S → Type 0
    AlongB z G k b = Along machine terms many Good faithful first supply good unmoved sends plain stay needs_stay z G k b

    abbrev IdleB : Board S → Board S → Type 0
    IdleB z b = Idle machine terms many Good faithful first supply good unmoved sends plain stay needs_stay z b

    -- a sweep of a round that has won
    won_along : (moved : Bool) (z b c : Board S) → AlongB z (λ k d. ⊥) 0 b → sweep machine terms r moved (map hart_at (below many)) b ≡ Some c
        → AlongB z (λ k d. ⊥) many c
    won_along moved z b c start is =
        sweep_along machine terms many Good faithful first supply good unmoved sends plain stay needs_stay r pos moved (AlongB z (λ k d. ⊥))
        (λ k d e l a t. along_turn machine terms many Good faithful first supply good unmoved sends plain stay needs_stay r (hart_at k) k moved z d e
        (λ k d. ⊥) (at_inside many r pos k) (λ none t' fine' idle g. absurd g) a t) many (omega arith) b c start is

    -- until its turn a hart with a leg has it
    abbrev Until : ℕ → ℕ → Board S → Type 0
    Until q k b = (k ≤ rank_of q → Going q b) × (rank_of q < k → ⊥)

    until_step : (q k : ℕ) (z b d : Board S) → q < many → k < many → whole_leg machine terms (hart_at k) (with_favoured r b) ≡ 0
        → turn machine terms (hart_at k) 0 (with_favoured r b) ≡ Some d → Fine b → Until q k b
        → (is_some d.closed ≡ true) ⊎ ((Count b (hart_at k) < Count d (hart_at k)) ⊎ Until q (suc k) d)
    until_step q k z b d inside l none is fine g = by (eqb_tells (rank_of q) k) where
      fine' : Fine (with_favoured r b)
      fine' = fine_favoured machine terms many Good faithful first supply good unmoved sends plain stay needs_stay r b fine

      still : k < rank_of q → Going q d
      still less =
          let h = hart_at k in
          let other : q ≢ h = (λ e. let a = ap rank_of e in let c = rank_at many r pos k l in omega (arith, a, c, less)) in
          let x = g.0 (omega (arith, less)) in
          let B = with_favoured r b in
          let w =
          went machine terms many Good faithful first supply good unmoved sends plain stay needs_stay h 0 B d (at_inside many r pos k) fine'
          (λ i m. absurd (omega (arith, m))) is in
          let left =
          turn_leaves machine terms many Good faithful first needs_stay h q other fine'.reached.goes.items B d
          (known machine terms many Good faithful first supply good unmoved sends plain stay needs_stay B fine') w.0 w.1 in
          let same =
          turn_same machine terms many Good faithful first h q other B d
          (sound_of machine terms many Good faithful first supply good unmoved sends plain stay needs_stay B fine') w.0 w.1 in
          let beside =
          behind_of machine terms many Good faithful first supply good unmoved sends plain stay needs_stay h 0 B d (at_inside many r pos k) fine'
          (λ i m. absurd (omega (arith, m))) is in
          let quiet = left.quiet x.3 x.4 in
          (x.0, beside.orders q other ∙ x.1, subst (λ n. n < x.0) (sym same.1) x.2, quiet.0, quiet.1)

      by : (((rank_of q == k) ≡ true) × (rank_of q ≡ k)) ⊎ (((rank_of q == k) ≡ false) × (rank_of q ≢ k)) → (is_some d.closed ≡ true)
          ⊎ ((Count b (hart_at k) < Count d (hart_at k)) ⊎ Until q (suc k) d)
      by (inl (t, e)) =
          let x = g.0 (omega (arith, e)) in
          let own : hart_at k ≡ q = ap hart_at (sym e) ∙ at_of many r pos q inside in
          let more = going_leg q (with_favoured r b) inside fine' (x.0, x.1, x.2, x.3, x.4) in
          let zero_leg = ap (λ h. whole_leg machine terms h (with_favoured r b)) (sym own) ∙ none in
          absurd (omega (arith, more, zero_leg))
      by (inr (f, n)) = elim (leb_tells (suc (rank_of q)) k) [
        | inl (t, past) ↦ absurd (g.1 past)
        | inr (t, most) ↦ inr (inr (λ early. still (omega (arith, most, n)), λ past. omega (arith, past, most, n)))
      ]

    -- a hart with a leg makes it in the next round, unless a count rises before, or the board closes
    leg_rises : (q : ℕ) (z c : Board S) → q < many → Fine z → z.closed ≡ None → 0 < whole_leg machine terms q z → round machine terms r true z ≡ Some c
        → Won z c
    leg_rises q z c inside fine unclosed l is =
        let s = round_sweeps machine terms many Good faithful first supply good unmoved sends plain stay needs_stay r pos true z c fine is in
        let x = sweep_along machine terms many Good faithful first supply good unmoved sends plain stay needs_stay r pos true (AlongB z (Until q))
        (λ k b d m a t. along_turn machine terms many Good faithful first supply good unmoved sends plain stay needs_stay r (hart_at k) k true z b d (Until q)
        (at_inside many r pos k) (λ none t' fine' idle g. until_step q k z b d inside m none t' fine' g) a t) many (omega arith) z s.0
        (fine, inr ((unclosed, λ g m. refl), (λ _. leg_going q z l, λ past. omega (arith, past)))) s.2 in
        let y = won_along false z s.0 s.1 (x.0, inl (ended s.0 x.1)) s.3 in
        let w = won_along false z s.1 c y s.4 in
        won w.1
      where
        ended : (d : Board S) → Won z d ⊎ (IdleB z d × Until q many d) → Won z d
        ended d (inl w) = w
        ended d (inr (idle, g)) = absurd (g.1 (rank_inside many r pos q))

        won : Won z c ⊎ (IdleB z c × ⊥) → Won z c
        won (inl w) = w
        won (inr (idle, g)) = absurd g

    -- the first hart from the round's on that is below the limit, if there is one
    least : (z : Board S) → ((g : ℕ) → g < many → Count z g ≤ terms.limit) → (m : ℕ) → m ≤ many
        → ((k : ℕ) → k < m → Count z (hart_at k) ≡ terms.limit)
        ⊎ ((k : ℕ) × (k < many) × (Count z (hart_at k) < terms.limit) × ((j : ℕ) → j < k → Count z (hart_at j) ≡ terms.limit))
    least z bounded zero l = inl (λ k m. absurd (omega (arith, m)))
    least z bounded (suc m) l = elim (least z bounded m (omega (arith, l))) [
      | inr found ↦ inr found
      | inl all ↦ elim (leb_tells (suc (Count z (hart_at m))) terms.limit) [
        | inl (t, low) ↦ inr (m, omega (arith, l), low, all)
        | inr (f, high) ↦ inl (λ k i. elim (eqb_tells k m) [
          | inl (t, e) ↦ (let top = bounded (hart_at m) (at_inside many r pos m) in let n : Count z (hart_at m) ≡ terms.limit = omega (arith, top, high) in
              ap (λ j. Count z (hart_at j)) e ∙ n)
          | inr (f', n) ↦ all k (omega (arith, i, n))
        ])
      ]
    ]

    bounded_at : (z : Board S) → Fine z → (g : ℕ) → g < many → Count z g ≤ terms.limit
    bounded_at z fine g l = ((sound_of machine terms many Good faithful first supply good unmoved sends plain stay needs_stay z fine).ordered.each g l).bounded

    pub picks : (z : Board S) → Fine z → is_over machine terms z ≡ false → (p : ℕ) × (inside : p < many)
        × LeadsB machine terms many Good faithful first supply good unmoved sends plain stay needs_stay r pos p inside z
    picks z fine short = elim (least z (bounded_at z fine) many (omega arith)) [
      | inl all ↦ absurd (true≢false (sym (all_below (is_at_limit machine terms z) many
          (λ g l. eq-eqb (Count z g) terms.limit (ap (Count z) (sym (at_of many r pos g l)) ∙ all (rank_of g) (rank_inside many r pos g))))
          ∙ subst (λ n. list_all (is_at_limit machine terms z) (below n) ≡ false)
          (size_of machine terms many Good faithful first supply good unmoved sends plain stay needs_stay z fine)
          (or_parts (is_some z.closed) (list_all (is_at_limit machine terms z) (harts z)) short).1))
      | inr (k, l, low, before) ↦ (
        hart_at k,
        at_inside many r pos k,
        (
          low,
          λ g m other.
              elim (leb_tells (suc k) (rank_of g)) [
                | inl (t, more) ↦ inr (lt-ltb (rank_of (hart_at k)) (rank_of g) (let e = rank_at many r pos k l in omega (arith, e, more)))
                | inr (t, most) ↦
                    let n : rank_of g ≢ k = (λ e. other (sym (at_of many r pos g m) ∙ ap hart_at e)) in
                    inl (ap (Count z) (sym (at_of many r pos g m)) ∙ before (rank_of g) (omega (arith, most, n)))
              ],
        ),
      )
    ]

    left_most : (z c : Board S) → ((g : ℕ) → Count z g ≤ Count c g) → (hs : List ℕ) → left_of machine terms c hs ≤ left_of machine terms z hs
    left_most z c rose [] = omega arith
    left_most z c rose (h ∷ hs) = let a = rose h in let rest = left_most z c rose hs in omega (arith, a, rest)

    left_less : (z c : Board S) → ((g : ℕ) → Count z g ≤ Count c g) → (g : ℕ) → Count z g < Count c g → Count c g ≤ terms.limit → (hs : List ℕ) → In g hs
        → left_of machine terms c hs < left_of machine terms z hs
    left_less z c rose g less top [] i = absurd i
    left_less z c rose g less top (h ∷ hs) (inl e) =
        let rest = left_most z c rose hs in
        let a = ap (Count z) e in let b = ap (Count c) e in omega (arith, less, top, rest, a, b)
    left_less z c rose g less top (h ∷ hs) (inr i) = let a = rose h in let rest = left_less z c rose g less top hs i in omega (arith, a, rest)

    -- each round that doesn't end the run makes less of what is left
    pub round_falls : (moved : Bool) (z c : Board S) → Fine z → is_over machine terms z ≡ false → (moved ≡ false → has_leg machine terms z ≡ false)
        → round machine terms r moved z ≡ Some c → is_over machine terms c ≡ false
        → rounds_left machine terms c < rounds_left machine terms z
    round_falls moved z c fine short first_one is open_yet = by (has_leg machine terms z) refl moved refl is where
      unclosed : z.closed ≡ None
      unclosed = is_nothing z.closed (or_parts (is_some z.closed) (list_all (is_at_limit machine terms z) (harts z)) short).0

      rose : Fine c × ((g : ℕ) → Count z g ≤ Count c g)
      rose = counts_round r pos moved z c fine is

      same_harts : harts c ≡ harts z
      same_harts =
          ap below (size_of machine terms many Good faithful first supply good unmoved sends plain stay needs_stay c (counts_round r pos moved z c fine is).0
          ∙ sym (size_of machine terms many Good faithful first supply good unmoved sends plain stay needs_stay z fine))

      unit_most : (x : Bool) → (if x then 0 else 1) ≤ 1
      unit_most true = omega arith
      unit_most false = omega arith

      by_won : Won z c → rounds_left machine terms c < rounds_left machine terms z
      by_won (inl closed) = absurd (true≢false (sym closed ∙ (or_parts (is_some c.closed) (list_all (is_at_limit machine terms c) (harts c)) open_yet).0))
      by_won (inr (g, l, more)) =
          let up = counts_round r pos moved z c fine is in
          let there : In g (harts z) =
          in_below (length z.streams) g (let e = size_of machine terms many Good faithful first supply good unmoved sends plain stay needs_stay z fine in
          omega (arith, e, l)) in
          let less = left_less z c up.1 g more (bounded_at c up.0 g l) (harts z) there in
          let a = ap (left_of machine terms c) same_harts in
          let x = unit_most (has_leg machine terms c) in omega (arith, less, a, x)

      by_leg : (p : ℕ) → p < many → 0 < whole_leg machine terms p c → has_leg machine terms z ≡ false
          → rounds_left machine terms c < rounds_left machine terms z
      by_leg p l ahead none =
          let up = counts_round r pos moved z c fine is in
          let there : In p (harts c) =
          in_below (length c.streams) p (let e = size_of machine terms many Good faithful first supply good unmoved sends plain stay needs_stay c up.0 in
          omega (arith, e, l)) in
          let has : has_leg machine terms c ≡ true =
          any_here (λ h. nat_lt 0 (whole_leg machine terms h c)) (harts c) p there (lt-ltb 0 (whole_leg machine terms p c) ahead) in
          let most = left_most z c up.1 (harts z) in
          let a = ap (left_of machine terms c) same_harts in
          let x : one_unless (has_leg machine terms c) ≡ 0 = ap one_unless has in
          let y : one_unless (has_leg machine terms z) ≡ 1 = ap one_unless none in omega (arith, most, a, x, y)

      by : (x : Bool) → has_leg machine terms z ≡ x → (m : Bool) → moved ≡ m → round machine terms r moved z ≡ Some c
          → rounds_left machine terms c < rounds_left machine terms z
      by true has false e is' = absurd (true≢false (sym has ∙ first_one e))
      by true has true e is' =
          let q =
          any_found (λ h. nat_lt 0 (whole_leg machine terms h z)) many (harts z)
          (each_below many (length z.streams) (let s = size_of machine terms many Good faithful first supply good unmoved sends plain stay needs_stay z
          fine in omega (arith, s))) has in
          by_won (leg_rises q.0 z c q.1 fine unclosed (ltb-true 0 (whole_leg machine terms q.0 z) q.2) (subst (λ b. round machine terms r b z ≡ Some c) e is'))
      by false none m e is' =
          let p = picks z fine short in
          let f =
          round_finds machine terms many Good faithful first supply good unmoved sends plain stay needs_stay r pos p.0 p.1 moved z c fine unclosed p.2
          is' in
          elim f.1 [
            | inl won ↦ by_won won
            | inr (until, told, less, want_none, off, low, polled) ↦ by_leg p.0 p.1
                (going_leg p.0 c p.1 f.0 (until, told, less, want_none, off)) none
          ]
