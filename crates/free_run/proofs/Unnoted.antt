-- A turn that isn't noted changes nothing.
use Rattle.std.proofs.Common.{◌≡◌, ◌⊎◌, inl, inr, ℕ, zero, suc, ◌<◌, ◌≤◌, ◌==◌, ◌&&◌, ◌||◌, not, nat_lt, Bool, true, false, List, [], ◌∷◌, ◌++◌}
use Rattle.std.proofs.Common.{length}
use Rattle.std.proofs.Common.{slice_get, slice_set, Option, Some, None, is_some, unwrap_or, refl, sym, ap, ap₂, ◌∙◌, subst, arith, if◌then◌else◌, true≢false}
use Rattle.std.specs.Option.{option_eq}
use Rattle.std.proofs.lemmas.Bool.{and_parts, eqb-true, or_parts}
use Rattle.std.proofs.lemmas.List.{length-append, length-set}
use Rattle.std.proofs.lemmas.Option.{none-some, same_Some}
use Rattle.shared_types.proofs.Lists.{bound_to, mapped, set_here}
use Rattle.rv_words.specs.declared.shared.Mode.{Mode}
use Rattle.rv_words.specs.declared.shared.Mode.TheVariants.{Read, Write}
use Rattle.rv_words.specs.declared.shared.Cause.{Cause}
use Rattle.log_entry.specs.Parts.{strength}
use Rattle.log_entry.specs.declared.log.Entry.{Entry}
use Rattle.replay_model.specs.Items.{Makes, made}
use Rattle.replay_model.specs.Outcome.{same}
use Rattle.replay_model.specs.State.{Replay}
use Rattle.turn_model.specs.Recordable.{Recordable}
use Rattle.turn_model.specs.Board.{Board, Order, Go, Hold, Rest, Supply, Terms, stream, wanted, last_order, closes, is_at_limit}
use Rattle.turn_model.specs.Ways.{Way, On, Ends, Nowhere, entered}
use Rattle.turn_model.specs.Ways as ways
use Rattle.turn_model.specs.Steps.{commits, passes, passes_favour, runs, steps, with_want}
use Rattle.turn_model.specs.Turn.{turn, ended_by, is_noted, items_made, same_order, same_want, with_order, with_row, with_rows}
use Rattle.free_run.proofs.StepsKept.{StepsKeep, W, steps_walk}

-- ---- what is set at a place

set_twice : {X : Type 0} (xs : List X) (i : ℕ) (x y : X) → slice_set (slice_set xs i x) i y ≡ slice_set xs i y
set_twice [] i x y = refl
set_twice (z ∷ zs) zero x y = refl
set_twice (z ∷ zs) (suc i) x y = ap (λ xs. z ∷ xs) (set_twice zs i x y)

set_same : {X : Type 0} (xs : List (Option X)) (i : ℕ) (x : Option X)
    → unwrap_or (slice_get xs i) None ≡ unwrap_or (slice_get (slice_set xs i x) i) None → slice_set xs i x ≡ xs
set_same [] i x e = refl
set_same (z ∷ zs) zero x e = ap (λ o. o ∷ zs) (sym e)
set_same (z ∷ zs) (suc i) x e = ap (λ xs. z ∷ xs) (set_same zs i x e)

-- ---- what tests of a noted turn tell

same_modes : (a b : Mode) → (strength (Some a) == strength (Some b)) ≡ true → a ≡ b
same_modes Read Read e = refl
same_modes Write Write e = refl
same_modes Read Write e = let bad : ⊥ = cc in absurd bad
same_modes Write Read e = let bad : ⊥ = cc in absurd bad

not_so : (a : Bool) → not a ≡ false → a ≡ true
not_so true e = refl
not_so false e = absurd (true≢false e)

each_false : (a b c d e : Bool) → (a || b || c || d || e) ≡ false
    → (a ≡ false) × (b ≡ false) × (c ≡ false) × (d ≡ false) × (e ≡ false)
each_false a b c d e is =
    let p₁ = or_parts (a || b || c || d) e is in
    let p₂ = or_parts (a || b || c) d p₁.0 in
    let p₃ = or_parts (a || b) c p₂.0 in
    let p₄ = or_parts a b p₃.0 in
    (p₄.0, p₄.1, p₃.1, p₂.1, p₁.1)

wants_same : (a b : Option (ℕ × Mode)) → option_eq same_want a b ≡ true → a ≡ b
wants_same None None e = refl
wants_same None (Some y) e = absurd (true≢false (sym e))
wants_same (Some x) None e = absurd (true≢false (sym e))
wants_same (Some (p, m)) (Some (q, n)) e =
    let s = and_parts (p == q) (strength (Some m) == strength (Some n)) e in ap₂ (λ a b. Some (a, b)) (eqb-true p q s.0) (same_modes m n s.1)

order_same : (a b : Order) → same_order a b ≡ true → a ≡ b
order_same (Go a) (Go b) e = ap Go (eqb-true a b e)
order_same (Hold p g) (Hold q k) e = let s = and_parts (p == q) (g == k) e in ap₂ Hold (eqb-true p q s.0) (eqb-true g k s.1)
order_same Rest Rest e = refl
order_same (Go a) (Hold q k) e = absurd (true≢false (sym e))
order_same (Go a) Rest e = absurd (true≢false (sym e))
order_same (Hold p g) (Go b) e = absurd (true≢false (sym e))
order_same (Hold p g) Rest e = absurd (true≢false (sym e))
order_same Rest (Go b) e = absurd (true≢false (sym e))
order_same Rest (Hold q k) e = absurd (true≢false (sym e))

orders_same : (a b : Option Order) → option_eq same_order a b ≡ true → a ≡ b
orders_same None None e = refl
orders_same None (Some y) e = absurd (true≢false (sym e))
orders_same (Some x) None e = absurd (true≢false (sym e))
orders_same (Some x) (Some y) e = ap Some (order_same x y e)

causes_same : (a b : Option Cause) → same (is_some a) (is_some b) ≡ true → ((k : Cause) → a ≡ Some k → b ≡ Some k) → b ≡ a
causes_same None None e stays = refl
causes_same None (Some k) e stays = absurd (true≢false (sym e))
causes_same (Some k) b e stays = stays k refl

none_made : (items : ℕ) → not (items == 0) ≡ false → items ≡ 0
none_made items e = eqb-true items 0 (not_so (items == 0) e)

-- ---- what the steps of a turn keep

module _ {S V : Type 0} (machine : Recordable S V) (terms : Terms) (h n : ℕ) (b : Board S) where
  -- nothing but the hart's want, the favoured hart and the cause is another
  record IsAlike (c : Board S) : Type 0 where
    at : c.at ≡ b.at
    streams : c.streams ≡ b.streams
    journal : c.journal ≡ b.journal
    supply : c.supply ≡ b.supply
    wants : (w : Option (ℕ × Mode)) × (c.wants ≡ slice_set b.wants h w)

  record Goes (c : Board S) : Type 0 where
    turns : c.turns ≡ b.turns
    orders : c.orders ≡ b.orders
    shut : (k : Cause) → b.closed ≡ Some k → c.closed ≡ Some k
    number : length c.streams ≡ length b.streams
    longer : length (stream b h) ≤ length (stream c h)
    made : (0 < items_made h n b c) ⊎ IsAlike c

  wanted_so : (c : Board S) (w : Option (ℕ × Mode)) → IsAlike c → IsAlike (with_want h w c)
  wanted_so c w is = record {
    at = is.at;
    streams = is.streams;
    journal = is.journal;
    supply = is.supply;
    wants = (w, ap (λ xs. slice_set xs h w) is.wants.1 ∙ set_twice b.wants h is.wants.0 w);
  }

  with_alike : (c d : Board S) → items_made h n b d ≡ items_made h n b c → (IsAlike c → IsAlike d) → (0 < items_made h n b c) ⊎ IsAlike c
      → (0 < items_made h n b d) ⊎ IsAlike d
  with_alike c d same on (inl some) = inl (omega (arith, some, same))
  with_alike c d same on (inr is) = inr (on is)

  entered_so : h < length b.streams → (c d : Board S) (e : Entry) (left : Supply) → Goes c
      → entered machine terms h e (record c { supply = left }) ≡ Some d → Goes d
  entered_so inside c d e left goes is =
      let x = record c { supply = left } in
      let a = mapped (λ (s : Replay S). record x { at = s; streams = slice_set x.streams h (stream x h ++ e ∷ []) }) (made machine.flat x.at h (Makes e)) d
      is in
      let streams : d.streams ≡ slice_set c.streams h (stream c h ++ e ∷ []) = sym (ap (λ (y : Board S). y.streams) a.2) in
      let own : stream d h ≡ stream c h ++ e ∷ [] =
      ap (λ (ss : List (List Entry)). unwrap_or (slice_get ss h) []) streams
      ∙ ap (λ o. unwrap_or o []) (set_here c.streams h (stream c h ++ e ∷ []) (let k = goes.number in omega (arith, inside, k))) in
      let longer = ap length own ∙ length-append (stream c h) (e ∷ []) in
      let before = goes.longer in
      record {
        turns = sym (ap (λ (y : Board S). y.turns) a.2) ∙ goes.turns;
        orders = sym (ap (λ (y : Board S). y.orders) a.2) ∙ goes.orders;
        shut = λ k e. sym (ap (λ (y : Board S). y.closed) a.2) ∙ goes.shut k e;
        number = ap length streams ∙ length-set c.streams h (stream c h ++ e ∷ []) ∙ goes.number;
        longer = omega (arith, longer, before);
        made = inl (omega (arith, longer, before));
      }

  steps_keep : h < length b.streams → StepsKeep machine terms h Goes
  steps_keep inside = record {
    wants = λ c w goes. record {
      turns = goes.turns;
      orders = goes.orders;
      shut = goes.shut;
      number = goes.number;
      longer = goes.longer;
      made = with_alike c (with_want h w c) refl (wanted_so c w) goes.made;
    };
    favours = λ c goes. record {
      turns = goes.turns;
      orders = goes.orders;
      shut = goes.shut;
      number = goes.number;
      longer = goes.longer;
      made = with_alike c (passes_favour h c) refl
          (λ is. record { at = is.at; streams = is.streams; journal = is.journal; supply = is.supply; wants = is.wants }) goes.made;
    };
    closes = λ c cause goes. record {
      turns = goes.turns;
      orders = goes.orders;
      shut = λ k e. ap (λ o. Some (unwrap_or o cause)) (goes.shut k e);
      number = goes.number;
      longer = goes.longer;
      made = with_alike c (closes cause c) refl
          (λ is. record { at = is.at; streams = is.streams; journal = is.journal; supply = is.supply; wants = is.wants }) goes.made;
    };
    enters = entered_so inside;
  }

  -- the moves
  committed_so : (c : Board S) → commits machine terms h n b ≡ Some c → Goes c
  committed_so c is =
      let a = mapped (λ (s : Replay S). with_want h None (passes machine terms h n (record b { at = s }))) (runs machine terms h n b.at) c is in
      subst Goes a.2 (by n refl a.0 a.1 ((h == b.favoured) && (nat_lt 0 n || is_at_limit machine terms (record b { at = a.0 }) h)))
    where
      some_or : (k : ℕ) → n ≡ k → (s : Replay S) → runs machine terms h k b.at ≡ Some s → (c : Board S) → c.streams ≡ b.streams → c.at ≡ s
          → c.journal ≡ b.journal → c.supply ≡ b.supply → c.wants ≡ slice_set b.wants h None → (0 < items_made h n b c) ⊎ IsAlike c
      some_or zero e s ran c streams at journal supply wants =
          inr (record { at = at ∙ sym (same_Some _ _ ran); streams = streams; journal = journal; supply = supply; wants = (None, wants) })
      some_or (suc k) e s ran c streams at journal supply wants = inl (omega (arith, e))

      by : (k : ℕ) → n ≡ k → (s : Replay S) → runs machine terms h n b.at ≡ Some s → (f : Bool)
          → Goes (with_want h None (if f then passes_favour h (record b { at = s }) else record b { at = s }))
      by k e s ran true = record {
        turns = refl;
        orders = refl;
        shut = λ k e. e;
        number = refl;
        longer = omega arith;
        made = some_or k e s (subst (λ j. runs machine terms h j b.at ≡ Some s) e ran) (with_want h None (passes_favour h (record b { at = s }))) refl refl refl
            refl refl;
      }
      by k e s ran false = record {
        turns = refl;
        orders = refl;
        shut = λ k e. e;
        number = refl;
        longer = omega arith;
        made = some_or k e s (subst (λ j. runs machine terms h j b.at ≡ Some s) e ran) (with_want h None (record b { at = s })) refl refl refl refl refl;
      }

  board_alike : (d : Board S) → d.at ≡ b.at → d.streams ≡ b.streams → d.journal ≡ b.journal → d.turns ≡ b.turns → d.wants ≡ b.wants → d.orders ≡ b.orders
      → d.favoured ≡ b.favoured → d.closed ≡ b.closed → d.supply ≡ b.supply → d ≡ b
  board_alike d at streams journal turns wants orders favoured closed supply =
      ap₂ (λ x y. record d { at = x; streams = y }) at streams
      ∙ ap₂ (λ x y. record d { at = b.at; streams = b.streams; journal = x; turns = y }) journal turns
      ∙ ap₂ (λ x y. record b { wants = x; orders = y; favoured = d.favoured; closed = d.closed; supply = d.supply }) wants orders
      ∙ ap₂ (λ x y. record b { favoured = x; closed = y; supply = d.supply }) favoured closed ∙ ap (λ x. record b { supply = x }) supply

  -- the turn has a row, or changed nothing
  abbrev IsNotedOr : Board S → Type 0
  IsNotedOr d = (d.turns ≡ b.turns ++ (h, n) ∷ []) ⊎ (d ≡ b)

  nothing_changed : (c : Board S) (order : Order) → Goes c → is_noted h (items_made h n b c) b (with_order h order c) ≡ false
      → with_rows h n (items_made h n b c) b (with_order h order c) ≡ b
  nothing_changed c order goes e =
      let d = with_order h order c in
      let items = items_made h n b c in
      let t =
      each_false (not (items == 0)) (not (option_eq same_want (wanted b h) (wanted d h))) (not (option_eq same_order (last_order b h) (last_order d h)))
      (not (b.favoured == d.favoured)) (not (same (is_some b.closed) (is_some d.closed))) e in
      by goes.made (none_made items t.0) (wants_same (wanted b h) (wanted d h) (not_so (option_eq same_want (wanted b h) (wanted d h)) t.1))
      (orders_same (last_order b h) (last_order d h) (not_so (option_eq same_order (last_order b h) (last_order d h)) t.2))
      (sym (eqb-true b.favoured d.favoured (not_so (b.favoured == d.favoured) t.3)))
      (causes_same b.closed d.closed (not_so (same (is_some b.closed) (is_some d.closed)) t.4) goes.shut) t.0
    where
      by : (0 < items_made h n b c) ⊎ IsAlike c → items_made h n b c ≡ 0 → wanted b h ≡ wanted c h → last_order b h ≡ last_order (with_order h order c) h
          → c.favoured ≡ b.favoured → c.closed ≡ b.closed → not (items_made h n b c == 0) ≡ false
          → with_rows h n (items_made h n b c) b (with_order h order c) ≡ b
      by (inl some) none wants orders favoured closed f = absurd (omega (arith, some, none))
      by (inr is) none wants orders favoured closed f =
          board_alike (with_rows h n (items_made h n b c) b (with_order h order c)) is.at is.streams
          (ap (λ x. with_row x (h, items_made h n b c) c.journal) f ∙ is.journal)
          (ap (λ x. with_row x (h, n) c.turns) e ∙ goes.turns)
          (is.wants.1 ∙ set_same b.wants h is.wants.0 (wants ∙ ap (λ (ws : List (Option (ℕ × Mode))). unwrap_or (slice_get ws h) None) is.wants.1))
          (ap (λ xs. slice_set xs h (Some order)) goes.orders ∙ set_same b.orders h (Some order)
          (orders ∙ ap (λ xs. unwrap_or (slice_get (slice_set xs h (Some order)) h) None) goes.orders))
          favoured closed is.supply

  pub noted_or_unchanged : (d : Board S) → h < length b.streams → turn machine terms h n b ≡ Some d → IsNotedOr d
  noted_or_unchanged d inside is =
      let c = bound_to (λ c. ended_by h n b (ways.goes (steps machine terms h) (On c))) (commits machine terms h n b) d is in
      by (ways.goes (steps machine terms h) (On c.0)) (steps_walk machine terms h Goes (steps_keep inside) c.0 (committed_so c.0 c.1)) c.2
    where
      there : (c : Board S) (order : Order) → Goes c → (f : Bool) → is_noted h (items_made h n b c) b (with_order h order c) ≡ f
          → IsNotedOr (with_rows h n (items_made h n b c) b (with_order h order c))
      there c order goes true e = inl (ap (λ x. with_row x (h, n) c.turns) e ∙ ap (λ xs. xs ++ (h, n) ∷ []) goes.turns)
      there c order goes false e = inr (nothing_changed c order goes e)

      by : (way : Way S) → W machine terms h Goes way → ended_by h n b way ≡ Some d → IsNotedOr d
      by (On e) walks ended = absurd (none-some _ ended)
      by Nowhere walks ended = absurd (none-some _ ended)
      by (Ends order e) walks ended =
          subst IsNotedOr (same_Some _ _ ended) (there e order walks (is_noted h (items_made h n b e) b (with_order h order e)) refl)
