-- Each round goes on: a count rises in it, or behind it a hart has moves ahead, or the board is over.
use Rattle.std.proofs.Common.{◌≡◌, ◌≢◌, ◌⊎◌, inl, inr, ℕ, zero, suc, ◌+◌, ◌%◌, ◌<◌, ◌≤◌, ◌==◌, Bool, true, false, List, [], ◌∷◌, ◌++◌, map, nat_lt}
use Rattle.std.proofs.Common.{Some, None, is_some, refl, sym, ap, ◌∙◌, subst, arith, if◌then◌else◌}
use Rattle.std.specs.Option.{option_and_then}
use Rattle.std.proofs.lemmas.List.{map-append}
use Rattle.std.proofs.lemmas.Option.{same_Some}
use Rattle.std.proofs.lemmas.Bool.Decides.{eqb_tells, leb_tells}
use Rattle.orders_law.specs.Orders.{below}
use Rattle.shared_types.proofs.Lists.{bound_to, is_nothing}
use Rattle.turn_model.specs.Recordable.{Recordable}
use Rattle.turn_model.specs.Board.{Board, Supply, Terms}
use Rattle.turn_model.specs.Turn.{turn}
use Rattle.turn_model.specs.Lists.{whole_leg}
use Rattle.turn_model.specs.Rounds.{round_from, with_favoured, sweep, round}
use Rattle.turn_model.specs.Faithful.{IsFaithful, AccessesSend}
use Rattle.turn_model.proofs.LeanJournals.{WantsStay}
use Rattle.turn_model.proofs.Boards.{can_leg, no_leg}
use Rattle.round_progress.proofs.Demands.{IsPlain}
use Rattle.round_progress.proofs.OtherHarts.{NeedsStay, turn_same}
use Rattle.turn_laws.proofs.Ranks.{at_rank, rank, at_inside, rank_inside, rank_at, at_of, same_rank}
use Rattle.round_progress.proofs.FirstHart.{Fine, sound_of, size_of, MovesOf, fine_favoured, behind_of, fine_turn, went, Won, counts_rise, won_turn, Ready}
use Rattle.round_progress.proofs.FirstHart.{Stands, fewer, other_turn, Leads, Nobody, Everybody, first_turn, next_turn, at_last}

leg_or_none : (moved : Bool) (k : ℕ) → k ≡ 0 → (if moved then k else 0) ≡ 0
leg_or_none true k e = e
leg_or_none false k e = refl

compare : (a b : ℕ) → (a < b) ⊎ (b ≤ a)
compare a b = elim (leb_tells (suc a) b) [ inl (t, l) ↦ inl l | inr (f, l) ↦ inr (omega (arith, l)) ]

module _ {S V : Type 0} (machine : Recordable S V) (terms : Terms) (many : ℕ) (Good : S → Type 0) (faithful : IsFaithful machine.flat many terms.pages Good)
    (first : S) (supply : Supply) (good : Good first) (unmoved : (h : ℕ) → machine.flat.count first h ≡ 0) (sends : AccessesSend machine)
    (plain : IsPlain machine many Good) (stay : WantsStay machine terms many Good faithful first)
    (needs_stay : NeedsStay machine terms many Good faithful first) where
  abbrev pub FineB : Board S → Type 0
  FineB b = Fine machine terms many Good faithful first supply good unmoved sends plain stay needs_stay b

  abbrev pub WonB : Board S → Board S → Type 0
  WonB b c = Won machine terms many Good faithful first supply good unmoved sends plain stay needs_stay b c

  abbrev Count : Board S → ℕ → ℕ
  Count b h = machine.flat.count b.at.flat h

  abbrev pub Moves : ℕ → Bool → Board S → ℕ
  Moves h moved b = if moved then whole_leg machine terms h b else 0

  pub can_move : (r h : ℕ) (moved : Bool) (b : Board S) → h < many → FineB b
      → MovesOf machine terms many Good faithful first supply good unmoved sends plain stay needs_stay h (Moves h moved (with_favoured r b)) (with_favoured r b)
  can_move r h true b inside fine =
      can_leg machine terms many Good faithful h (with_favoured r b) inside
      (fine_favoured machine terms many Good faithful first supply good unmoved sends plain stay needs_stay r b fine).reached.orders
  can_move r h false b inside fine = λ i l. absurd (omega (arith, l))

  pub turn_fine : (r h : ℕ) (moved : Bool) (b d : Board S) → h < many → FineB b
      → turn machine terms h (Moves h moved (with_favoured r b)) (with_favoured r b) ≡ Some d → FineB d
  turn_fine r h moved b d inside fine is =
      fine_turn machine terms many Good faithful first supply good unmoved sends plain stay needs_stay h (Moves h moved (with_favoured r b))
      (with_favoured r b) d inside (fine_favoured machine terms many Good faithful first supply good unmoved sends plain stay needs_stay r b fine)
      (can_move r h moved b inside fine)
      (λ none. leg_or_none moved (whole_leg machine terms h (with_favoured r b)) (no_leg machine terms many Good faithful h (with_favoured r b) none)) is

  -- the counts are those of an earlier board, which hasn't closed since
  abbrev pub Idle : Board S → Board S → Type 0
  Idle z b = (b.closed ≡ None) × ((g : ℕ) → g < many → machine.flat.count b.at.flat g ≡ machine.flat.count z.at.flat g)

  -- along a sweep
  abbrev pub Along : Board S → (ℕ → Board S → Type 0) → ℕ → Board S → Type 0
  Along z G k b = FineB b × (WonB z b ⊎ (Idle z b × G k b))

  pub along_turn : (r h k : ℕ) (moved : Bool) (z b d : Board S) (G : ℕ → Board S → Type 0) → h < many
      → (Moves h moved (with_favoured r b) ≡ 0 → turn machine terms h 0 (with_favoured r b) ≡ Some d → FineB b → Idle z b → G k b → (is_some d.closed ≡ true)
      ⊎ ((Count b h < Count d h) ⊎ G (suc k) d))
      → Along z G k b → turn machine terms h (Moves h moved (with_favoured r b)) (with_favoured r b) ≡ Some d → Along z G (suc k) d
  along_turn r h k moved z b d G inside step p is = (turn_fine r h moved b d inside p.0 is, by p.1) where
    fine' : FineB (with_favoured r b)
    fine' = fine_favoured machine terms many Good faithful first supply good unmoved sends plain stay needs_stay r b p.0

    by : WonB z b ⊎ (Idle z b × G k b) → WonB z d ⊎ (Idle z d × G (suc k) d)
    by (inl won) =
        inl (won_turn machine terms many Good faithful first supply good unmoved sends plain stay needs_stay z h (Moves h moved (with_favoured r b))
        (with_favoured r b) d inside fine' (can_move r h moved b inside p.0) is won)
    by (inr (idle, g)) = moved_so (Moves h moved (with_favoured r b)) refl where
      rose : Count b h < Count d h → WonB z d
      rose l = inr (h, inside, (let e = idle.1 h inside in omega (arith, l, e)))

      moved_so : (n : ℕ) → Moves h moved (with_favoured r b) ≡ n → WonB z d ⊎ (Idle z d × G (suc k) d)
      moved_so (suc n) e =
          let own =
          (behind_of machine terms many Good faithful first supply good unmoved sends plain stay needs_stay h (Moves h moved (with_favoured r b))
          (with_favoured r b) d inside fine' (can_move r h moved b inside p.0) is).own in
          inl (rose (omega (arith, own, e)))
      moved_so zero e = still (step e (subst (λ n. turn machine terms h n (with_favoured r b) ≡ Some d) e is) p.0 idle g) where
        same_other : (x : ℕ) → x ≢ h → Count d x ≡ Count b x
        same_other x other =
            let w =
            went machine terms many Good faithful first supply good unmoved sends plain stay needs_stay h (Moves h moved (with_favoured r b))
            (with_favoured r b) d inside fine' (can_move r h moved b inside p.0) is in
            (turn_same machine terms many Good faithful first h x other (with_favoured r b) d
            (sound_of machine terms many Good faithful first supply good unmoved sends plain stay needs_stay (with_favoured r b) fine') w.0 w.1).1

        still : (is_some d.closed ≡ true) ⊎ ((Count b h < Count d h) ⊎ G (suc k) d) → WonB z d ⊎ (Idle z d × G (suc k) d)
        still (inl closed) = inl (inl closed)
        still (inr (inl more)) = inl (rose more)
        still (inr (inr g')) = opened (is_some d.closed) refl (compare (Count b h) (Count d h)) where
          opened : (x : Bool) → is_some d.closed ≡ x → (Count b h < Count d h) ⊎ (Count d h ≤ Count b h) → WonB z d ⊎ (Idle z d × G (suc k) d)
          opened true c l = inl (inl c)
          opened false c (inl more) = inl (rose more)
          opened false c (inr low) =
              let up =
              counts_rise machine terms many Good faithful first supply good unmoved sends plain stay needs_stay h (Moves h moved (with_favoured r b))
              (with_favoured r b) d inside fine' (can_move r h moved b inside p.0) is h in
              let own : Count d h ≡ Count b h = omega (arith, up, low) in
              inr (
                (
                  is_nothing d.closed c,
                  λ x l. elim (eqb_tells x h)
                      [ inl (t, e') ↦ (subst (λ y. Count d y ≡ Count b y) (sym e') own) ∙ idle.1 x l | inr (f, other) ↦ same_other x other ∙ idle.1 x l ],
                ),
                g',
              )

  -- the last turn of a sweep
  sweep_more : (r : ℕ) (moved : Bool) (xs : List ℕ) (h : ℕ) (b c : Board S) → sweep machine terms r moved (xs ++ h ∷ []) b ≡ Some c → (m : Board S)
      × (sweep machine terms r moved xs b ≡ Some m) × (turn machine terms h (Moves h moved m) (with_favoured r m) ≡ Some c)
  sweep_more r moved [] h b c is =
      let m = bound_to (sweep machine terms r moved []) (turn machine terms h (Moves h moved b) (with_favoured r b)) c is in
      (b, refl, m.1 ∙ m.2)
  sweep_more r moved (x ∷ xs) h b c is =
      let m = bound_to (sweep machine terms r moved (xs ++ h ∷ [])) (turn machine terms x (Moves x moved b) (with_favoured r b)) c is in
      let n = sweep_more r moved xs h m.0 c m.2 in
      (n.0, ap (option_and_then (sweep machine terms r moved xs)) m.1 ∙ n.1, n.2)

  module _ (r : ℕ) (pos : zero < many) where
    abbrev hart_at : ℕ → ℕ
    hart_at k = at_rank many r pos k

    abbrev rank_of : ℕ → ℕ
    rank_of h = rank many r pos h

    pub sweep_along : (moved : Bool) (F : ℕ → Board S → Type 0)
        → ((k : ℕ) (b d : Board S) → k < many → F k b → turn machine terms (hart_at k) (Moves (hart_at k) moved b) (with_favoured r b) ≡ Some d → F (suc k) d)
        → (m : ℕ) → m ≤ many → (b c : Board S) → F 0 b → sweep machine terms r moved (map hart_at (below m)) b ≡ Some c → F m c
    sweep_along moved F step zero l b c start is = subst (F 0) (same_Some _ _ is) start
    sweep_along moved F step (suc m) l b c start is =
        let x =
        sweep_more r moved (map hart_at (below m)) (hart_at m) b c
        (subst (λ hs. sweep machine terms r moved hs b ≡ Some c) (map-append hart_at (below m) (m ∷ [])) is) in
        step m x.0 c (omega (arith, l)) (sweep_along moved F step m (omega (arith, l)) b x.0 start x.1) x.2

    pub round_sweeps : (moved : Bool) (b c : Board S) → FineB b → round machine terms r moved b ≡ Some c
        → (x : Board S) × (y : Board S) × (sweep machine terms r moved (map hart_at (below many)) b ≡ Some x)
        × (sweep machine terms r false (map hart_at (below many)) x ≡ Some y) × (sweep machine terms r false (map hart_at (below many)) y ≡ Some c)
    round_sweeps moved b c fine is =
        let size = size_of machine terms many Good faithful first supply good unmoved sends plain stay needs_stay b fine in
        let hs = round_from r b in
        let same : round_from r b ≡ map hart_at (below many) = ap (λ n. map (λ (i : ℕ). (r + i) % n) (below n)) size in
        let y = bound_to (sweep machine terms r false hs) (option_and_then (sweep machine terms r false hs) (sweep machine terms r moved hs b)) c is in
        let x = bound_to (sweep machine terms r false hs) (sweep machine terms r moved hs b) y.0 y.1 in (
          x.0,
          y.0,
          subst (λ (zs : List ℕ). sweep machine terms r moved zs b ≡ Some x.0) same x.1,
          subst (λ (zs : List ℕ). sweep machine terms r false zs x.0 ≡ Some y.0) same x.2,
          subst (λ (zs : List ℕ). sweep machine terms r false zs y.0 ≡ Some c) same y.2,
        )

    -- the first hart from the round's on that is below the limit
    module _ (p : ℕ) (inside : p < many) where
      abbrev StandsB : ℕ → (ℕ → Type 0) → Board S → Type 0
      StandsB level R b = Stands machine terms many Good faithful first supply good unmoved sends plain stay needs_stay r p inside level R b

      abbrev pub LeadsB : Board S → Type 0
      LeadsB b = Leads machine terms many Good faithful first supply good unmoved sends plain stay needs_stay r p inside b

      leads_still : (z b : Board S) → Idle z b → LeadsB z → LeadsB b
      leads_still z b idle leads = (
        subst (λ k. k < terms.limit) (sym (idle.1 p inside)) leads.0,
        λ g l other. subst (λ k. (k ≡ terms.limit) ⊎ (nat_lt (rank_of p) (rank_of g) ≡ true)) (sym (idle.1 g l)) (leads.1 g l other),
      )

      abbrev Since : ℕ → ℕ → Type 0
      Since k g = (rank_of p < rank_of g) × (rank_of g < k)

      abbrev Round : ℕ → ℕ → Type 0
      Round k g = (rank_of p < rank_of g) ⊎ (rank_of g < k)

      apart_at : (k : ℕ) → k < many → rank_of p ≢ k → p ≢ hart_at k
      apart_at k l n e = n (ap rank_of e ∙ rank_at many r pos k l)

      at_own : hart_at (rank_of p) ≡ p
      at_own = at_of many r pos p inside

      -- one more hart has had its turn
      one_since : (k g : ℕ) → g < many → Since (suc k) g → Since k g ⊎ (g ≡ hart_at k)
      one_since k g l s = elim (eqb_tells (rank_of g) k) [
        | inl (t, e) ↦ inr (sym (at_of many r pos g l) ∙ ap hart_at e)
        | inr (f, n) ↦ let a = s.1 in inl (s.0, omega (arith, a, n))
      ]

      one_round : (k g : ℕ) → g < many → Round (suc k) g → Round k g ⊎ (g ≡ hart_at k)
      one_round k g l (inl a) = inl (inl a)
      one_round k g l (inr a) = elim (eqb_tells (rank_of g) k) [
        | inl (t, e) ↦ inr (sym (at_of many r pos g l) ∙ ap hart_at e)
        | inr (f, n) ↦ inl (inr (omega (arith, a, n)))
      ]

      others : (level : ℕ) (R Q : ℕ → Type 0) (k : ℕ) (z b d : Board S) → k < many → rank_of p ≢ k → LeadsB z → FineB b → Idle z b
          → ((g : ℕ) → g < many → Q g → R g ⊎ (g ≡ hart_at k)) → turn machine terms (hart_at k) 0 (with_favoured r b) ≡ Some d → StandsB level R b
          → (is_some d.closed ≡ true) ⊎ StandsB level Q d
      others level R Q k z b d l n leads fine idle one is stands =
          let g = hart_at k in
          let other = apart_at k l n in
          elim (other_turn machine terms many Good faithful first supply good unmoved sends plain stay needs_stay r p inside level R g b d
          (at_inside many r pos k) other fine idle.0 ((leads_still z b idle leads).1 g (at_inside many r pos k) (λ e. other (sym e))) is stands) [
            | inl closed ↦ inl closed
            | inr s ↦ inr (fewer machine terms many Good faithful first supply good unmoved sends plain stay needs_stay r p inside level
                (λ x. R x ⊎ (x ≡ g)) Q d (λ x m apart q. one x m q) s)
          ]

      -- of the first sweep
      abbrev First : ℕ → Board S → Type 0
      First k b = rank_of p < k → StandsB 0 (Since k) b

      first_step : (k : ℕ) (z b d : Board S) → k < many → LeadsB z → turn machine terms (hart_at k) 0 (with_favoured r b) ≡ Some d → FineB b → Idle z b
          → First k b → (is_some d.closed ≡ true) ⊎ ((Count b (hart_at k) < Count d (hart_at k)) ⊎ First (suc k) d)
      first_step k z b d l leads is fine idle g = by (eqb_tells (rank_of p) k) where
        own : rank_of p ≡ k → (is_some d.closed ≡ true)
            ⊎ ((Count b p < Count d p) ⊎ StandsB 0 (Nobody machine terms many Good faithful first supply good unmoved sends plain stay needs_stay r p inside) d)
        own e =
            first_turn machine terms many Good faithful first supply good unmoved sends plain stay needs_stay r p inside b d fine idle.0
            (leads_still z b idle leads)
            (subst (λ h. turn machine terms h 0 (with_favoured r b) ≡ Some d) (ap hart_at (sym e) ∙ at_own) is)

        by : (((rank_of p == k) ≡ true) × (rank_of p ≡ k)) ⊎ (((rank_of p == k) ≡ false) × (rank_of p ≢ k)) → (is_some d.closed ≡ true)
            ⊎ ((Count b (hart_at k) < Count d (hart_at k)) ⊎ First (suc k) d)
        by (inl (t, e)) = elim (own e) [
          | inl closed ↦ inl closed
          | inr rest ↦ elim rest [
            | inl more ↦ inr (inl (subst (λ h. Count b h < Count d h) (sym at_own ∙ ap hart_at e) more))
            | inr s ↦ inr (inr (λ _. fewer machine terms many Good faithful first supply good unmoved sends plain stay needs_stay r p inside 0
                (Nobody machine terms many Good faithful first supply good unmoved sends plain stay needs_stay r p inside) (Since (suc k)) d
                (λ x m apart q. let a = q.0 in let c = q.1 in omega (arith, a, c, e)) s))
          ]
        ]
        by (inr (f, n)) = elim (leb_tells (suc (rank_of p)) k) [
          | inl (t, less) ↦ elim (others 0 (Since k) (Since (suc k)) k z b d l n leads fine idle (one_since k) is (g less))
              [ inl closed ↦ inl closed | inr s ↦ inr (inr (λ _. s)) ]
          | inr (t, most) ↦ inr (inr (λ past. absurd (omega (arith, past, most, n))))
        ]

      -- of a further one
      abbrev Next : ℕ → ℕ → Board S → Type 0
      Next level k b = (k ≤ rank_of p → StandsB level (Round k) b) × (rank_of p < k → StandsB (suc level) (Since k) b)

      next_step : (level k : ℕ) (z b d : Board S) → level < 2 → k < many → LeadsB z → turn machine terms (hart_at k) 0 (with_favoured r b) ≡ Some d → FineB b
          → Idle z b → Next level k b → (is_some d.closed ≡ true) ⊎ ((Count b (hart_at k) < Count d (hart_at k)) ⊎ Next level (suc k) d)
      next_step level k z b d small l leads is fine idle g = by (eqb_tells (rank_of p) k) where
        everybody : rank_of p ≡ k → StandsB level
            (Everybody machine terms many Good faithful first supply good unmoved sends plain stay needs_stay r p inside) b
        everybody e =
            fewer machine terms many Good faithful first supply good unmoved sends plain stay needs_stay r p inside level (Round k)
            (Everybody machine terms many Good faithful first supply good unmoved sends plain stay needs_stay r p inside) b
            (λ x m apart q. elim (leb_tells (suc (rank_of p)) (rank_of x)) [
              | inl (t, a) ↦ inl a
              | inr (t, a) ↦ let n : rank_of x ≢ rank_of p = λ same. apart (same_rank many r pos x p m inside same) in inr (omega (arith, a, n, e))
            ]) (g.0 (omega (arith, e)))

        own : rank_of p ≡ k → (is_some d.closed ≡ true)
            ⊎ ((Count b p < Count d p) ⊎ StandsB (suc level)
            (Nobody machine terms many Good faithful first supply good unmoved sends plain stay needs_stay r p inside) d)
        own e =
            next_turn machine terms many Good faithful first supply good unmoved sends plain stay needs_stay r p inside level b d small fine idle.0
            (leads_still z b idle leads) (everybody e)
            (subst (λ h. turn machine terms h 0 (with_favoured r b) ≡ Some d) (ap hart_at (sym e) ∙ at_own) is)

        by : (((rank_of p == k) ≡ true) × (rank_of p ≡ k)) ⊎ (((rank_of p == k) ≡ false) × (rank_of p ≢ k)) → (is_some d.closed ≡ true)
            ⊎ ((Count b (hart_at k) < Count d (hart_at k)) ⊎ Next level (suc k) d)
        by (inl (t, e)) = elim (own e) [
          | inl closed ↦ inl closed
          | inr rest ↦ elim rest [
            | inl more ↦ inr (inl (subst (λ h. Count b h < Count d h) (sym at_own ∙ ap hart_at e) more))
            | inr s ↦ inr (inr (
              λ early. absurd (omega (arith, early, e)),
              λ _. fewer machine terms many Good faithful first supply good unmoved sends plain stay needs_stay r p inside (suc level)
                  (Nobody machine terms many Good faithful first supply good unmoved sends plain stay needs_stay r p inside) (Since (suc k)) d
                  (λ x m apart q. let a = q.0 in let c = q.1 in omega (arith, a, c, e)) s,
            ))
          ]
        ]
        by (inr (f, n)) = elim (leb_tells (suc (rank_of p)) k) [
          | inl (t, less) ↦ elim (others (suc level) (Since k) (Since (suc k)) k z b d l n leads fine idle (one_since k) is (g.1 less))
              [ inl closed ↦ inl closed | inr s ↦ inr (inr (λ early. absurd (omega (arith, early, less)), λ _. s)) ]
          | inr (t, most) ↦ elim (others level (Round k) (Round (suc k)) k z b d l n leads fine idle (one_round k) is (g.0 (omega (arith, most))))
              [ inl closed ↦ inl closed | inr s ↦ inr (inr (λ _. s, λ past. absurd (omega (arith, past, most, n)))) ]
        ]

      -- between two sweeps
      again : (level : ℕ) (b : Board S) → StandsB level (Since many) b → Next level 0 b
      again level b s = (
        λ _. fewer machine terms many Good faithful first supply good unmoved sends plain stay needs_stay r p inside level (Since many) (Round 0) b
            (λ x m apart q. elim q [ inl a ↦ (a, rank_inside many r pos x) | inr a ↦ absurd (omega (arith, a)) ]) s,
        λ past. absurd (omega (arith, past)),
      )

      -- behind three sweeps something rose, or the hart has a way ahead
      pub round_finds : (moved : Bool) (z c : Board S) → FineB z → z.closed ≡ None → LeadsB z → round machine terms r moved z ≡ Some c → FineB c
          × (WonB z c ⊎ Ready machine terms many Good faithful first supply good unmoved sends plain stay needs_stay r p inside c)
      round_finds moved z c fine unclosed leads is =
          let s = round_sweeps moved z c fine is in
          let x =
          sweep_along moved (Along z First) (λ k b d l a t. along_turn r (hart_at k) k moved z b d First (at_inside many r pos k)
          (λ none t' fine idle g. first_step k z b d l leads t' fine idle g) a t) many (omega arith) z s.0
          (fine, inr ((unclosed, λ g l. refl), λ past. absurd (omega (arith, past)))) s.2 in
          let y =
          sweep_along false (Along z (Next 0)) (λ k b d l a t. along_turn r (hart_at k) k false z b d (Next 0) (at_inside many r pos k)
          (λ none t' fine idle g. next_step 0 k z b d (omega arith) l leads t' fine idle g) a t) many (omega arith) s.0 s.1
          (x.0, follow x.1 (λ g. again 0 s.0 (g (rank_inside many r pos p)))) s.3 in
          let w =
          sweep_along false (Along z (Next 1)) (λ k b d l a t. along_turn r (hart_at k) k false z b d (Next 1) (at_inside many r pos k)
          (λ none t' fine idle g. next_step 1 k z b d (omega arith) l leads t' fine idle g) a t) many (omega arith) s.1 c
          (y.0, follow y.1 (λ g. again 1 s.1 (g.1 (rank_inside many r pos p)))) s.4 in
          (w.0, last w.1)
        where
          follow : {A B C : Type 0} → A ⊎ (B × C) → {D : Type 0} → (C → D) → A ⊎ (B × D)
          follow (inl a) f = inl a
          follow (inr (b, c)) f = inr (b, f c)

          last : WonB z c ⊎ (Idle z c × Next 1 many c) → WonB z c
              ⊎ Ready machine terms many Good faithful first supply good unmoved sends plain stay needs_stay r p inside c
          last (inl won) = inl won
          last (inr (idle, g)) =
              inr (at_last machine terms many Good faithful first supply good unmoved sends plain stay needs_stay r p inside (Since many) c
              (g.1 (rank_inside many r pos p)))
