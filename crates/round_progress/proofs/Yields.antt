-- A turn of a hart that is at the limit, or comes behind another that has stored a want, leaves it nothing that conflicts with this want.
use Rattle.std.proofs.Common.{◌≡◌, ◌≢◌, ◌⊎◌, inl, inr, ℕ, ◌+◌, ◌-◌, ◌%◌, ◌<◌, ◌==◌, ◌&&◌, ◌||◌, not, Bool, true, false, List, [], ◌∷◌, length, map, max}
use Rattle.std.proofs.Common.{Option, Some, None, is_some, nat_lt, slice_get, unwrap_or, refl, sym, ap, ap₂, ◌∙◌, subst, arith, if◌then◌else◌, true≢false}
use Rattle.std.specs.List.{list_any}
use Rattle.std.proofs.lemmas.Bool.{eq-eqb, ne_eqb}
use Rattle.std.proofs.lemmas.Bool.Decides.{eqb_tells}
use Rattle.orders_law.proofs.Below.{none_below}
use Rattle.rv_words.specs.declared.shared.Mode.{Mode}
use Rattle.rv_words.specs.declared.shared.Mode.TheVariants.{Read, Write}
use Rattle.rv_words.specs.declared.shared.Input.TheVariants.{Nothing}
use Rattle.rv_words.specs.declared.shared.Cause.TheVariants as causes
use Rattle.rv_words.specs.declared.shared.DeviceWord.{DeviceWord}
use Rattle.rv_words.specs.Modes.{conflicts}
use Rattle.outside.specs.declared.console.Asked.{Asked}
use Rattle.device_board.specs.Recording.{recorded_input}
use Rattle.log_entry.specs.declared.log.Entry.{Entry}
use Rattle.log_entry.specs.Parts.{conflict, is_some_and}
use Rattle.order_rules.specs.Holders.{held, with_held}
use Rattle.replay_model.specs.Journal.{left_for}
use Rattle.order_rules.proofs.Follow.{held_here, held_elsewhere}
use Rattle.turn_model.specs.Recordable.{Recordable}
use Rattle.turn_model.specs.Board.{Board, Order, Rest, Supply, Terms, harts, wanted, closes, is_at_limit}
use Rattle.turn_model.specs.Claims.{stands_before, holds_so, clash, rival, kept_by, known, needed, claims_against}
use Rattle.turn_model.specs.Ways.{Way, On, Ends, on, has_room, with_room, entered}
use Rattle.turn_model.specs.Ways as ways
use Rattle.turn_model.specs.Steps.{passes_favour, console_gives, clock_gives, clock_answers, steps, rests_where_closed, rests_at_limit, is_due, poll_at}
use Rattle.turn_model.specs.Steps.{polls_with, polls, yield_of, yields_now, yields_for, yields_to, yields, gain_of, gains_unless, gains_page, gains, touch_of}
use Rattle.turn_model.specs.Steps.{touched, touches_at, touches_with, accesses, touches, goes_on}
use Rattle.turn_model.specs.Faithful.{IsFaithful}
use Rattle.shared_types.proofs.Lists.{neither_there}
use Rattle.round_progress.proofs.Ways.{Out, further, choice, once, In, in_below, held_set, held_inside, both_true, did, Same, no_and, one_false}
use Rattle.round_progress.proofs.Ways.{not_before}
use Rattle.round_progress.proofs.Ways.{same_entry}

both_back : (x y : Mode) → conflicts x y ≡ conflicts y x
both_back Read Read = refl
both_back Read Write = refl
both_back Write Read = refl
both_back Write Write = refl

-- what is left for a mode doesn't conflict with it
left_clear : (m : Mode) → conflict (left_for m) (Some m) ≡ false
left_clear Read = refl
left_clear Write = refl

-- nor with what the hold didn't conflict with
left_stays : (hold : Option Mode) (m n : Mode) → conflict hold (Some m) ≡ true → conflict hold (Some n) ≡ false → conflict (left_for m) (Some n) ≡ false
left_stays None m n hit clear = absurd (true≢false (sym hit))
left_stays (Some Read) Read n hit clear = absurd (true≢false (sym hit))
left_stays (Some Read) Write n hit clear = refl
left_stays (Some Write) m n hit clear = absurd (true≢false clear)

-- a conflict that isn't yielded isn't there, where nothing is claimed before
not_now : (hit claimed before : Bool) → (hit && not (claimed && before)) ≡ false → (claimed && before) ≡ false → hit ≡ false
not_now false claimed before e f = refl
not_now true claimed before e f = absurd (true≢false (sym (ap not f) ∙ e))

first_out : (x y z : Bool) → x ≡ true → ((not x && y) && z) ≡ false
first_out true y z e = refl
first_out false y z e = absurd (true≢false (sym e))

module _ {S V : Type 0} (machine : Recordable S V) (terms : Terms) (many pages : ℕ) (Good : S → Type 0) (faithful : IsFaithful machine.flat many pages Good)
    (g p : ℕ) (n : ℕ × Mode) (other : p ≢ g) where
  abbrev SameB : Board S → Board S → Type 0
  SameB b c = Same machine terms many pages Good faithful g b c

  -- what the hart holds doesn't conflict with the want
  abbrev pub Clear : Board S → Type 0
  Clear c = conflict (held c.at.holders n.0 g) (Some n.1) ≡ false

  -- behind it the board is closed, or so
  abbrev pub End : Order → Board S → Type 0
  End order c = (is_some c.closed ≡ true) ⊎ Clear c

  -- the hart is at the limit, or the other stands before it
  abbrev pub Gives : Board S → Type 0
  Gives c = (is_at_limit machine terms c g ≡ true) ⊎ (stands_before c p g ≡ true)

  same_limit : (b c : Board S) → SameB b c → is_at_limit machine terms c g ≡ is_at_limit machine terms b g
  same_limit b c same = ap (λ k. k == terms.limit) same.own

  same_before : (b c : Board S) (x y : ℕ) → SameB b c → stands_before c x y ≡ stands_before b x y
  same_before b c x y same = ap₂ (λ l f. nat_lt ((x + l - f) % l) ((y + l - f) % l)) same.size same.favoured

  same_want : (b c : Board S) (x : ℕ) → SameB b c → wanted c x ≡ wanted b x
  same_want b c x same = ap (λ (ws : List (Option (ℕ × Mode))). unwrap_or (slice_get ws x) None) same.wants

  clear_set : (c d : Board S) (page : ℕ) (hold : Option Mode) → d.at.holders ≡ with_held c.at.holders page g hold → Clear c
      → (n.0 ≡ page → conflict hold (Some n.1) ≡ false) → Clear d
  clear_set c d page hold is clear new = ap (λ hs. conflict (held hs n.0 g) (Some n.1)) is ∙ by (eqb_tells n.0 page) where
    by : (((n.0 == page) ≡ true) × (n.0 ≡ page)) ⊎ (((n.0 == page) ≡ false) × (n.0 ≢ page))
        → conflict (held (with_held c.at.holders page g hold) n.0 g) (Some n.1) ≡ false
    by (inr (f, away)) = ap (λ o. conflict o (Some n.1)) (held_elsewhere c.at.holders page n.0 g g hold away) ∙ clear
    by (inl (t, here)) = elim (held_set c.at.holders page g hold) [
      | inl e ↦ ap (λ q. conflict (held (with_held c.at.holders page g hold) q g) (Some n.1)) here ∙ ap (λ o. conflict o (Some n.1)) e ∙ new here
      | inr e ↦ ap (λ q. conflict (held (with_held c.at.holders page g hold) q g) (Some n.1)) here ∙ ap (λ o. conflict o (Some n.1)) e
          ∙ sym (ap (λ q. conflict (held c.at.holders q g) (Some n.1)) here) ∙ clear
    ]

  module _ (b : Board S) (asked : wanted b p ≡ Some n) (inside : p < length b.streams) (gives : Gives b) where
    -- nothing is claimed against the other hart, before it
    no_claim : (c : Board S) → SameB b c → (claims_against machine terms c g n.0 n.1 && stands_before c g p) ≡ false
    no_claim c same = by gives where
      by : Gives b → (claims_against machine terms c g n.0 n.1 && stands_before c g p) ≡ false
      by (inl limit) =
          first_out (is_at_limit machine terms c g) (list_any (λ k. (k.0 == n.0) && conflicts k.1 n.1) (known machine terms c g (needed machine terms c g)))
          (stands_before c g p) (same_limit b c same ∙ limit)
      by (inr before) =
          ap (λ x. claims_against machine terms c g n.0 n.1 && x) (not_before _ _ (same_before b c p g same ∙ before))
          ∙ no_and (claims_against machine terms c g n.0 n.1)

    abbrev Full : Order → Board S → Type 0
    Full order c = End order c

    roomy : (D : Board S → Type 0) (e : Entry) (step : Board S → Way S) (c : Board S) → Out D Full (step c) → Out D Full (with_room machine terms e step c)
    roomy D e step c comes = choice D Full (has_room machine terms e c) (step c) (Ends Rest (closes causes.Full c)) (λ _. comes) (λ _. inl refl)

    -- the yield for the want
    yields_it : (c : Board S) → SameB b c → Out (λ d. SameB b d × Clear d) Full (yields_for machine terms g p (Some n) c)
    yields_it c same =
        choice (λ d. SameB b d × Clear d) Full (yields_now machine terms g p n c) _ (On c)
        (λ now. roomy (λ d. SameB b d × Clear d) (yield_of machine terms g n c) (λ c. on (entered machine terms g (yield_of machine terms g n c) c)) c
        (once (λ d. SameB b d × Clear d) Full (entered machine terms g (yield_of machine terms g n c) c) (λ d is.
        let hit = (both_true (conflict (held c.at.holders n.0 g) (Some n.1)) _ now).0 in
        let there = held_inside c.at.holders n.0 g n.1 hit in
        let x = did machine terms many pages Good faithful g (yield_of machine terms g n c) c d same.good is in (
          same_entry machine terms many pages Good faithful g (yield_of machine terms g n c) b c d refl same is,
          ap (λ hs. conflict (held hs n.0 g) (Some n.1)) x.holders
              ∙ ap (λ o. conflict o (Some n.1)) (held_here c.at.holders n.0 g (left_for n.1) there.0 there.1) ∙ left_clear n.1,
        ))))
        (λ idle. (
          same,
          not_now (conflict (held c.at.holders n.0 g) (Some n.1)) (claims_against machine terms c g n.0 n.1) (stands_before c g p) idle
              (no_claim c same),
        ))

    -- another yield
    yields_another : (x : ℕ) (m : ℕ × Mode) (c : Board S) → SameB b c
        → Out (λ d. SameB b d × (Clear c → Clear d)) Full (yields_for machine terms g x (Some m) c)
    yields_another x m c same =
        choice (λ d. SameB b d × (Clear c → Clear d)) Full (yields_now machine terms g x m c) _ (On c)
        (λ now. roomy (λ d. SameB b d × (Clear c → Clear d)) (yield_of machine terms g m c)
        (λ c. on (entered machine terms g (yield_of machine terms g m c) c)) c
        (once (λ d. SameB b d × (Clear c → Clear d)) Full (entered machine terms g (yield_of machine terms g m c) c) (λ d is.
        let hit = (both_true (conflict (held c.at.holders m.0 g) (Some m.1)) _ now).0 in
        let y = did machine terms many pages Good faithful g (yield_of machine terms g m c) c d same.good is in (
          same_entry machine terms many pages Good faithful g (yield_of machine terms g m c) b c d refl same is,
          λ clear. clear_set c d m.0 (left_for m.1) y.holders clear
              (λ here. left_stays (held c.at.holders m.0 g) m.1 n.1 hit (sym (ap (λ q. conflict (held c.at.holders q g) (Some n.1)) here) ∙ clear)),
        ))))
        (λ idle. (same, λ clear. clear))

    yields_some : (x : ℕ) (c : Board S) (o : Option (ℕ × Mode)) → SameB b c → Out (λ d. SameB b d × (Clear c → Clear d)) Full (yields_for machine terms g x o c)
    yields_some x c None same = (same, λ clear. clear)
    yields_some x c (Some m) same = yields_another x m c same

    yields_one : (x : ℕ) (c : Board S) → SameB b c → Out (λ d. SameB b d × (Clear c → Clear d)) Full (yields_to machine terms g x c)
    yields_one x c same =
        choice (λ d. SameB b d × (Clear c → Clear d)) Full (x == g) (On c) (yields_for machine terms g x (wanted c x) c) (λ _. (same, λ clear. clear))
        (λ _. yields_some x c (wanted c x) same)

    yields_here : (c : Board S) → SameB b c → Out (λ d. SameB b d × Clear d) Full (yields_to machine terms g p c)
    yields_here c same =
        subst (λ x. Out (λ d. SameB b d × Clear d) Full (if x then On c else yields_for machine terms g p (wanted c p) c)) (sym (ne_eqb p g other))
        (subst (λ o. Out (λ d. SameB b d × Clear d) Full (yields_for machine terms g p o c)) (sym (same_want b c p same ∙ asked)) (yields_it c same))

    all_clear : (gs : List ℕ) (c : Board S) → SameB b c → Clear c → Out (λ d. SameB b d × Clear d) Full (ways.goes (map (yields_to machine terms g) gs) (On c))
    all_clear [] c same clear = (same, clear)
    all_clear (x ∷ gs) c same clear =
        further (λ d. SameB b d × (Clear c → Clear d)) (λ d. SameB b d × Clear d) Full (map (yields_to machine terms g) gs) (yields_to machine terms g x c)
        (yields_one x c same) (λ d q. all_clear gs d q.0 (q.1 clear))

    all_yields : (gs : List ℕ) (c : Board S) → In p gs → SameB b c → Out (λ d. SameB b d × Clear d) Full (ways.goes (map (yields_to machine terms g) gs) (On c))
    all_yields [] c is same = absurd is
    all_yields (x ∷ gs) c (inl e) same =
        further (λ d. SameB b d × Clear d) (λ d. SameB b d × Clear d) Full (map (yields_to machine terms g) gs) (yields_to machine terms g x c)
        (subst (λ y. Out (λ d. SameB b d × Clear d) Full (yields_to machine terms g y c)) e (yields_here c same)) (λ d q. all_clear gs d q.0 q.1)
    all_yields (x ∷ gs) c (inr is) same =
        further (λ d. SameB b d × (Clear c → Clear d)) (λ d. SameB b d × Clear d) Full (map (yields_to machine terms g) gs) (yields_to machine terms g x c)
        (yields_one x c same) (λ d q. all_yields gs d is q.0)

    yields_clear : (c : Board S) → SameB b c → Out (λ d. SameB b d × Clear d) Full (yields machine terms g c)
    yields_clear c same = all_yields (harts c) c (in_below (length c.streams) p (let z = same.size in omega (arith, z, inside))) same

    -- what it gains doesn't conflict: the other hart would keep it
    gain_clear : (c d : Board S) (k : ℕ × Mode) → SameB b c → stands_before b p g ≡ true → Clear c → kept_by c g k ≡ None
        → entered machine terms g (gain_of machine terms g k c) c ≡ Some d → Clear d
    gain_clear c d k same before clear none is =
        let y = did machine terms many pages Good faithful g (gain_of machine terms g k c) c d same.good is in
        clear_set c d k.0 (Some k.1) y.holders clear (λ here.
        let free =
        none_below (λ i. stands_before c i g && is_some_and (wanted c i) (λ w. (w.0 == k.0) && conflicts w.1 k.1)) (length c.streams)
        (neither_there (clash c g k) (rival c g k) none).1 p (let z = same.size in omega (arith, z, inside)) in
        let wants = one_false (stands_before c p g) _ free (same_before b c p g same ∙ before) in
        let so : ((n.0 == k.0) && conflicts n.1 k.1) ≡ false =
        sym (ap (λ o. is_some_and o (λ w. (w.0 == k.0) && conflicts w.1 k.1)) (same_want b c p same ∙ asked)) ∙ wants in
        both_back k.1 n.1 ∙ one_false (n.0 == k.0) (conflicts n.1 k.1) so (eq-eqb n.0 k.0 here))

    gains_one : (k : ℕ × Mode) (c : Board S) → SameB b c → stands_before b p g ≡ true → Clear c → (o : Option ℕ) → kept_by c g k ≡ o
        → Out (λ d. SameB b d × Clear d) Full (gains_unless machine terms o g k c)
    gains_one k c same before clear None none =
        roomy (λ d. SameB b d × Clear d) (gain_of machine terms g k c) (λ c. on (entered machine terms g (gain_of machine terms g k c) c)) c
        (once (λ d. SameB b d × Clear d) Full (entered machine terms g (gain_of machine terms g k c) c)
        (λ d is. (
          same_entry machine terms many pages Good faithful g (gain_of machine terms g k c) b c d refl same is,
          gain_clear c d k same before clear none is,
        )))
    gains_one k c same before clear (Some x) none = inr clear

    all_gains : (ks : List (ℕ × Mode)) (c : Board S) → SameB b c → stands_before b p g ≡ true → Clear c
        → Out (λ d. SameB b d × Clear d) Full (ways.goes (map (gains_page machine terms g) ks) (On c))
    all_gains [] c same before clear = (same, clear)
    all_gains (k ∷ ks) c same before clear =
        further (λ d. SameB b d × Clear d) (λ d. SameB b d × Clear d) Full (map (gains_page machine terms g) ks) (gains_page machine terms g k c)
        (choice (λ d. SameB b d × Clear d) Full (holds_so c g k) (On c) (gains_unless machine terms (kept_by c g k) g k c) (λ _. (same, clear))
        (λ _. gains_one k c same before clear (kept_by c g k) refl))
        (λ d q. all_gains ks d q.0 before q.1)

    touched_clear : (c : Board S) (o : Option (Board S)) → ((d : Board S) → o ≡ Some d → Clear d) → Out Clear Full (touched machine terms g o)
    touched_clear c None f = tt
    touched_clear c (Some d) f =
        choice Clear Full (machine.flat.is_stopped d.at.flat) (Ends Rest (closes causes.Stop d)) _ (λ _. inl refl) (λ _. by (g == d.favoured)) where
          by : (x : Bool) → Clear (if x then passes_favour g d else d)
          by true = f d refl
          by false = f d refl

    touches_clear : (c : Board S) → SameB b c → Clear c → Out Clear Full (touches machine terms g c)
    touches_clear c same clear = by (machine.access c.at.flat g) where
      at_word : (word : DeviceWord) (store : Option ℕ) (answer : Asked) (o : Option (ℕ × Supply))
          → Out Clear Full (touches_at machine terms g word store answer c o)
      at_word word store answer None = tt
      at_word word store answer (Some (now, left)) =
          let e = touch_of machine terms g c (recorded_input word store (machine.flat.time c.at.flat) now answer) in
          touched_clear c (entered machine terms g e (record c { supply = left })) (λ d is.
          ap (λ hs. conflict (held hs n.0 g) (Some n.1)) (did machine terms many pages Good faithful g e (record c { supply = left }) d same.good is).holders
          ∙ clear)

      given : (word : DeviceWord) (store : Option ℕ) (o : Option (Asked × Supply)) → Out Clear Full (touches_with machine terms g word store c o)
      given word store None = inl refl
      given word store (Some (answer, left)) = at_word word store answer (clock_gives word store left)

      by : (o : Option (DeviceWord × Option ℕ)) → Out Clear Full (accesses machine terms g o c)
      by None = clear
      by (Some (word, store)) =
          roomy Clear (touch_of machine terms g c Nothing) (λ c. touches_with machine terms g word store c (console_gives word store c.supply)) c
          (given word store (console_gives word store c.supply))

    polls_same : (c : Board S) → SameB b c → Out (SameB b) Full (polls machine terms g c)
    polls_same c same =
        choice (SameB b) Full (is_due machine terms g c) _ (On c)
        (λ _. roomy (SameB b) (poll_at machine terms g c 0) (λ c. polls_with machine terms g c (clock_answers c.supply.times c.supply)) c
        (given (clock_answers c.supply.times c.supply))) (λ _. same)
      where
        given : (o : Option (ℕ × Supply)) → Out (SameB b) Full (polls_with machine terms g c o)
        given None = tt
        given (Some (time, left)) =
            let e = poll_at machine terms g c (max time (machine.flat.time c.at.flat)) in
            once (SameB b) Full (entered machine terms g e (record c { supply = left })) (λ d is.
            same_entry machine terms many pages Good faithful g e b (record c { supply = left }) d refl
            (record {
              good = same.good;
              wants = same.wants;
              favoured = same.favoured;
              size = same.size;
              own = same.own;
              closed = same.closed;
              stopped = same.stopped;
            }) is)

    -- where the board is open, the steps of a turn leave nothing in conflict, unless they close it
    pub steps_clear : Good b.at.flat → b.closed ≡ None → machine.flat.is_stopped b.at.flat ≡ false → Out Clear End (ways.goes (steps machine terms g) (On b))
    steps_clear good unclosed running =
        further (SameB b) Clear Full (polls machine terms g ∷ yields machine terms g ∷ rests_at_limit machine terms g ∷ gains machine terms g ∷ touches
        machine terms g ∷ rests_at_limit machine terms g ∷ goes_on machine terms g ∷ []) (rests_where_closed machine terms b) opened (λ b₁ s₁.
        further (SameB b) Clear Full (yields machine terms g ∷ rests_at_limit machine terms g ∷ gains machine terms g ∷ touches machine terms g ∷
        rests_at_limit machine terms g ∷ goes_on machine terms g ∷ []) (polls machine terms g b₁) (polls_same b₁ s₁) (λ b₂ s₂.
        further (λ d. SameB b d × Clear d) Clear Full
        (rests_at_limit machine terms g ∷ gains machine terms g ∷ touches machine terms g ∷ rests_at_limit machine terms g ∷ goes_on machine terms g ∷ [])
        (yields machine terms g b₂) (yields_clear b₂ s₂) (λ b₃ s₃.
        further (λ d. (SameB b d × Clear d) × (stands_before b p g ≡ true)) Clear Full
        (gains machine terms g ∷ touches machine terms g ∷ rests_at_limit machine terms g ∷ goes_on machine terms g ∷ [])
        (rests_at_limit machine terms g b₃)
        (choice (λ d. (SameB b d × Clear d) × (stands_before b p g ≡ true)) Full (is_at_limit machine terms b₃ g) (Ends Rest b₃) (On b₃) (λ _. inr s₃.1)
        (λ f. (s₃, behind gives (sym (same_limit b b₃ s₃.0) ∙ f)))) (λ b₄ s₄.
        further (λ d. SameB b d × Clear d) Clear Full (touches machine terms g ∷ rests_at_limit machine terms g ∷ goes_on machine terms g ∷ [])
        (gains machine terms g b₄) (all_gains (machine.flat.need b₄.at.flat g) b₄ s₄.0.0 s₄.1 s₄.0.1) (λ b₅ s₅.
        further Clear Clear Full (rests_at_limit machine terms g ∷ goes_on machine terms g ∷ []) (touches machine terms g b₅) (touches_clear b₅ s₅.0 s₅.1)
        (λ b₆ c₆.
        further Clear Clear Full (goes_on machine terms g ∷ []) (rests_at_limit machine terms g b₆)
        (choice Clear Full (is_at_limit machine terms b₆ g) (Ends Rest b₆) (On b₆) (λ _. inr c₆) (λ _. c₆)) (λ b₇ c₇. inr c₇)))))))
      where
        begun : SameB b b
        begun = record { good = good; wants = refl; favoured = refl; size = refl; own = refl; closed = refl; stopped = refl }

        opened : Out (SameB b) Full (rests_where_closed machine terms b)
        opened = subst (λ x. Out (SameB b) Full (if x then Ends Rest b else On b)) (sym (ap₂ (λ o s. is_some o || s) unclosed running)) begun

        behind : Gives b → is_at_limit machine terms b g ≡ false → stands_before b p g ≡ true
        behind (inl limit) f = absurd (true≢false (sym limit ∙ f))
        behind (inr before) f = before
