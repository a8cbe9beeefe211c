-- A turn tells its hart to rest, to hold or to go on exactly where it has to.
use Rattle.std.proofs.Common.{◌≡◌, ◌≢◌, ◌⊎◌, inl, inr, ℕ, zero, suc, ◌<◌, ◌==◌, ◌&&◌, ◌||◌, Bool, true, false, List, [], ◌∷◌, ◌++◌, length, map, max, find}
use Rattle.std.proofs.Common.{Option, Some, None, is_some, slice_get, slice_set, unwrap_or, refl, sym, ap, ap₂, ◌∙◌, subst, arith, cond, if◌then◌else◌}
use Rattle.std.specs.Option.{option_or}
use Rattle.std.proofs.lemmas.List.{length-set}
use Rattle.std.proofs.lemmas.Bool.{cases_eq, le-ltb, or_parts}
use Rattle.std.proofs.lemmas.Option.{none-some, same_Some}
use Rattle.shared_types.proofs.Lists.{bound_to, is_nothing, mapped, set_here, set_there}
use Rattle.rv_words.specs.Modes.{conflicts}
use Rattle.rv_words.specs.declared.shared.Mode.{Mode}
use Rattle.rv_words.specs.declared.shared.Cause.{Cause}
use Rattle.rv_words.specs.declared.shared.Cause.TheVariants.{Full, Fault, Stop}
use Rattle.rv_words.specs.declared.shared.DeviceWord.{DeviceWord}
use Rattle.rv_words.specs.declared.shared.Input.TheVariants.{Nothing}
use Rattle.outside.specs.declared.console.Asked.{Asked}
use Rattle.device_board.specs.Recording.{recorded_input}
use Rattle.log_entry.specs.declared.log.Entry.{Entry}
use Rattle.log_entry.specs.Parts.{is_some_and, is_touch}
use Rattle.flat_machine.specs.State.{FlatState}
use Rattle.flat_machine.specs.declared.results.Step.{Step}
use Rattle.replay_model.specs.State.{Replay}
use Rattle.replay_model.specs.Items.{Move, Makes, goes, made, verdict_on}
use Rattle.crew_recording.proofs.Items.{by_item}
use Rattle.turn_model.specs.Board.{Board, Order, Go, Hold, Rest, Supply, Terms, closes, harts, is_at_limit, last_order, stream, wanted}
use Rattle.turn_model.specs.Claims.{clash, holds_so, kept_by, needed, rank, stands_before}
use Rattle.turn_model.specs.Faithful.{IsFaithful}
use Rattle.turn_model.specs.Laws.{IsPagedBoard}
use Rattle.turn_model.specs.Ways.{Way, On, Ends, Nowhere, entered, has_room, on, with_room}
use Rattle.turn_model.specs.Ways as ways
use Rattle.turn_model.specs.Steps.{with_want, passes_favour, console_gives, clock_gives, clock_answers, runs, commits, steps, rests_where_closed}
use Rattle.turn_model.specs.Steps.{rests_at_limit, is_due, poll_at, polls_with, polls, yield_of, yields_now, yields_for, yields_to, yields}
use Rattle.turn_model.specs.Steps.{gain_of, gains_unless, gains_page, gains, touch_of, touched, touches_at, touches_with, accesses, touches, goes_on}
use Rattle.turn_model.specs.Turn.{turn, ended_by, items_made, with_order, with_rows}
use Rattle.turn_model.proofs.Entries.{after_entry, can_and_does, committed}
use Rattle.turn_laws.proofs.ReachedBoards.{faithful_board}
use Rattle.crew_parts.specs.Boards.{the_board, the_machine}
use Rattle.crew_parts.specs.Orders.{is_hold, is_rest}

find_alike : (f g : ℕ → Bool) (xs : List ℕ) → ((x : ℕ) → f x ≡ g x) → find f xs ≡ find g xs
find_alike f g [] same = refl
find_alike f g (x ∷ xs) same = ap₂ (λ c o. cond c (Some x) o) (same x) (find_alike f g xs same)

-- a hart's own want keeps it from nothing
own_want : (b : Board FlatState) (h : ℕ) (n : ℕ × Mode) (w : Option (ℕ × Mode)) → kept_by (with_want h w b) h n ≡ kept_by b h n
own_want b h n w = ap (option_or (clash b h n)) (find_alike _ _ (harts b) (λ g. by g (cases_eq g h))) where
  by : (g : ℕ) → (g ≡ h) ⊎ (g ≢ h) → (stands_before b g h && is_some_and (wanted (with_want h w b) g) (λ m. (m.0 == n.0) && conflicts m.1 n.1))
      ≡ (stands_before b g h && is_some_and (wanted b g) (λ m. (m.0 == n.0) && conflicts m.1 n.1))
  by g (inl same) =
      let behind : stands_before b g h ≡ false = subst (λ k. stands_before b k h ≡ false) (sym same) (le-ltb (rank b h) (rank b h) (omega arith)) in
      ap (λ c. c && is_some_and (wanted (with_want h w b) g) (λ m. (m.0 == n.0) && conflicts m.1 n.1)) behind
      ∙ sym (ap (λ c. c && is_some_and (wanted b g) (λ m. (m.0 == n.0) && conflicts m.1 n.1)) behind)
  by g (inr other) =
      ap (λ o. stands_before b g h && is_some_and (unwrap_or o None) (λ m. (m.0 == n.0) && conflicts m.1 n.1)) (set_there b.wants h g w other)

module _ (t : Terms) (many h : ℕ) where
  abbrev Good : FlatState → Type 0
  Good = IsPagedBoard many t.pages

  faithful : IsFaithful the_board many t.pages (IsPagedBoard many t.pages)
  faithful = faithful_board t many t.pages

  -- the board is open, and the hart has stored no want
  pub record Quiet (b : Board FlatState) : Type 0 where
    pub good : Good b.at.flat
    pub unshut : b.closed ≡ None
    pub running : the_board.is_stopped b.at.flat ≡ false
    pub clear : wanted b h ≡ None
    pub there : h < length b.wants
    pub listed : h < length b.orders

  abbrev Below : Board FlatState → Type 0
  Below b = Quiet b × (is_at_limit the_machine t b h ≡ false)

  -- where the turn ends
  pub record Told (b : Board FlatState) (order : Order) : Type 0 where
    pub rests : is_rest order ≡ (is_some b.closed || the_board.is_stopped b.at.flat || is_at_limit the_machine t b h)
    pub holds : is_hold order ≡ is_some (wanted b h)
    pub kept : (page other : ℕ) → order ≡ Hold page other → (mode : Mode) × (wanted b h ≡ Some (page, mode)) × (kept_by b h (page, mode) ≡ Some other)
    pub listed : h < length b.orders

  abbrev Out : (Board FlatState → Type 0) → Way FlatState → Type 0
  Out P (On b) = P b
  Out P (Ends order b) = Told b order
  Out P Nowhere = Unit {0}

  behind : (P Q : Board FlatState → Type 0) (gs : List (Board FlatState → Way FlatState)) (way : Way FlatState) → Out P way
      → ((c : Board FlatState) → P c → Out Q (ways.goes gs (On c))) → Out Q (ways.goes gs way)
  behind P Q gs (On c) x more = more c x
  behind P Q [] (Ends order c) x more = x
  behind P Q (g ∷ gs) (Ends order c) x more = x
  behind P Q [] Nowhere x more = tt
  behind P Q (g ∷ gs) Nowhere x more = tt

  choice : (P : Board FlatState → Type 0) (c : Bool) (x y : Way FlatState) → (c ≡ true → Out P x) → (c ≡ false → Out P y) → Out P (if c then x else y)
  choice P true x y f g = f refl
  choice P false x y f g = g refl

  once : (P : Board FlatState → Type 0) (o : Option (Board FlatState)) → ((d : Board FlatState) → o ≡ Some d → P d) → Out P (on o)
  once P None f = tt
  once P (Some d) f = f d refl

  resting : (b : Board FlatState) → wanted b h ≡ None → h < length b.orders
      → (is_some b.closed || the_board.is_stopped b.at.flat || is_at_limit the_machine t b h) ≡ true → Told b Rest
  resting b clear listed at = record {
    rests = sym at;
    holds = sym (ap (λ (o : Option (ℕ × Mode)). is_some o) clear);
    kept = λ page other e. absurd (let bad : ⊥ = cc in bad);
    listed = listed;
  }

  -- nothing but the limit is looked at
  seen : (b : Board FlatState) (z : Bool) → Quiet b → is_at_limit the_machine t b h ≡ z
      → (is_some b.closed || the_board.is_stopped b.at.flat || is_at_limit the_machine t b h) ≡ z
  seen b z q at = ap₂ (λ x y. x || y || is_at_limit the_machine t b h) (ap (λ (o : Option Cause). is_some o) q.unshut) q.running ∙ at

  shuts : (cause : Cause) (b : Board FlatState) → Quiet b → Told (closes cause b) Rest
  shuts cause b q = resting (closes cause b) q.clear q.listed refl

  roomy : (P : Board FlatState → Type 0) (e : Entry) (step : Board FlatState → Way FlatState) (b : Board FlatState) → Quiet b → Out P (step b)
      → Out P (with_room the_machine t e step b)
  roomy P e step b q fits = choice P (has_room the_machine t e b) (step b) (Ends Rest (closes Full b)) (λ _. fits) (λ _. shuts Full b q)

  entry_good : (e : Entry) (c d : Board FlatState) → Good c.at.flat → entered the_machine t h e c ≡ Some d → Good d.at.flat
  entry_good e c d good is =
      let a = mapped (λ (s : Replay FlatState). record c { at = s; streams = slice_set c.streams h (stream c h ++ e ∷ []) })
      (made the_board c.at h (Makes e)) d is in
      subst (λ (z : Board FlatState). Good z.at.flat) a.2 (by_item the_board many Good faithful.steady c.at a.0 h (Makes e) good a.1).good

  -- an entry leaves all but whether stop is set
  entry_quiet : (e : Entry) (c d : Board FlatState) → Quiet c → entered the_machine t h e c ≡ Some d → the_board.is_stopped d.at.flat ≡ false → Quiet d
  entry_quiet e c d q is running =
      let x = after_entry the_machine t many t.pages Good faithful h e c d q.good is in
      record {
        good = entry_good e c d q.good is;
        unshut = x.closed ∙ q.unshut;
        running = running;
        clear = ap (λ (ws : List (Option (ℕ × Mode))). unwrap_or (slice_get ws h) None) x.wants ∙ q.clear;
        there = subst (λ (ws : List (Option (ℕ × Mode))). h < length ws) (sym x.wants) q.there;
        listed = subst (λ (os : List (Option Order)). h < length os) (sym x.orders) q.listed;
      }

  plain_quiet : (e : Entry) (c d : Board FlatState) → is_touch e ≡ false → Quiet c → entered the_machine t h e c ≡ Some d → Quiet d
  plain_quiet e c d plain q is =
      entry_quiet e c d q is ((after_entry the_machine t many t.pages Good faithful h e c d q.good is).stopped plain ∙ q.running)

  closed_step : (b : Board FlatState) → Good b.at.flat → wanted b h ≡ None → h < length b.wants → h < length b.orders
      → Out Quiet (rests_where_closed the_machine t b)
  closed_step b good clear there listed =
      choice Quiet (is_some b.closed || the_board.is_stopped b.at.flat) (Ends Rest b) (On b)
      (λ shut. resting b clear listed (either (is_some b.closed) (the_board.is_stopped b.at.flat) shut)) (λ f.
      let both = or_parts (is_some b.closed) (the_board.is_stopped b.at.flat) f in
      record { good = good; unshut = is_nothing b.closed both.0; running = both.1; clear = clear; there = there; listed = listed })
    where
      either : (x y : Bool) → (x || y) ≡ true → (x || y || is_at_limit the_machine t b h) ≡ true
      either true y e = refl
      either false true e = refl
      either false false e = absurd (let bad : ⊥ = cc in bad)

  limit_step : (b : Board FlatState) → Quiet b → Out Below (rests_at_limit the_machine t h b)
  limit_step b q = choice Below (is_at_limit the_machine t b h) (Ends Rest b) (On b) (λ at. resting b q.clear q.listed (seen b true q at)) (λ f. (q, f))

  polls_step : (b : Board FlatState) → Quiet b → Out Quiet (polls the_machine t h b)
  polls_step b q =
      choice Quiet (is_due the_machine t h b) _ (On b)
      (λ _. roomy Quiet (poll_at the_machine t h b 0) (λ c. polls_with the_machine t h c (clock_answers c.supply.times c.supply)) b q
      (timed (clock_answers b.supply.times b.supply)))
      (λ _. q)
    where
      timed : (o : Option (ℕ × Supply)) → Out Quiet (polls_with the_machine t h b o)
      timed None = tt
      timed (Some (time, left)) =
          let e = poll_at the_machine t h b (max time (the_board.time b.at.flat)) in
          let c : Board FlatState = record b { supply = left } in
          let same : Quiet c =
          record { good = q.good; unshut = q.unshut; running = q.running; clear = q.clear; there = q.there; listed = q.listed } in
          once Quiet (entered the_machine t h e c) (λ d made. plain_quiet e c d refl same made)

  yields_for_step : (g : ℕ) (o : Option (ℕ × Mode)) (b : Board FlatState) → Quiet b → Out Quiet (yields_for the_machine t h g o b)
  yields_for_step g None b q = q
  yields_for_step g (Some n) b q =
      choice Quiet (yields_now the_machine t h g n b) _ (On b)
      (λ _. roomy Quiet (yield_of the_machine t h n b) (λ c. on (entered the_machine t h (yield_of the_machine t h n c) c)) b q
      (once Quiet (entered the_machine t h (yield_of the_machine t h n b) b) (λ d made. plain_quiet (yield_of the_machine t h n b) b d refl q made)))
      (λ _. q)

  all_yields : (gs : List ℕ) (b : Board FlatState) → Quiet b → Out Quiet (ways.goes (map (yields_to the_machine t h) gs) (On b))
  all_yields [] b q = q
  all_yields (g ∷ gs) b q =
      behind Quiet Quiet (map (yields_to the_machine t h) gs) (yields_to the_machine t h g b)
      (choice Quiet (g == h) (On b) (yields_for the_machine t h g (wanted b g) b) (λ _. q) (λ _. yields_for_step g (wanted b g) b q))
      (λ c x. all_yields gs c x)

  gain_below : (n : ℕ × Mode) (b d : Board FlatState) → Below b → entered the_machine t h (gain_of the_machine t h n b) b ≡ Some d → Below d
  gain_below n b d low is =
      let e = gain_of the_machine t h n b in
      let own = (after_entry the_machine t many t.pages Good faithful h e b d low.0.good is).own refl in
      (plain_quiet e b d refl low.0 is, ap (λ k. k == t.limit) own ∙ low.1)

  gains_page_step : (n : ℕ × Mode) (b : Board FlatState) → Below b → Out Below (gains_page the_machine t h n b)
  gains_page_step (page, mode) b low =
      choice Below (holds_so b h (page, mode)) (On b) (gains_unless the_machine t (kept_by b h (page, mode)) h (page, mode) b) (λ _. low)
      (λ _. unless (kept_by b h (page, mode)) refl)
    where
      stored : wanted (with_want h (Some (page, mode)) b) h ≡ Some (page, mode)
      stored = ap (λ (o : Option (Option (ℕ × Mode))). unwrap_or o None) (set_here b.wants h (Some (page, mode)) low.0.there)

      unless : (o : Option ℕ) → kept_by b h (page, mode) ≡ o → Out Below (gains_unless the_machine t o h (page, mode) b)
      unless None is =
          roomy Below (gain_of the_machine t h (page, mode) b) (λ c. on (entered the_machine t h (gain_of the_machine t h (page, mode) c) c)) b low.0
          (once Below (entered the_machine t h (gain_of the_machine t h (page, mode) b) b) (λ d made. gain_below (page, mode) b d low made))
      unless (Some g) is =
          let c = with_want h (Some (page, mode)) b in
          let by : kept_by c h (page, mode) ≡ Some g = own_want b h (page, mode) (Some (page, mode)) ∙ is in
          record {
            rests = sym (seen b false low.0 low.1);
            holds = sym (ap (λ (o : Option (ℕ × Mode)). is_some o) stored);
            kept = λ further other e.
                let same : page ≡ further = cc in
                let that : g ≡ other = cc in
                (mode, stored ∙ ap (λ k. Some (k, mode)) same, subst (λ k. kept_by c h (k, mode) ≡ Some other) same (by ∙ ap Some that));
            listed = low.0.listed;
          }

  all_gains : (ns : List (ℕ × Mode)) (b : Board FlatState) → Below b → Out Below (ways.goes (map (gains_page the_machine t h) ns) (On b))
  all_gains [] b low = low
  all_gains (n ∷ ns) b low =
      behind Below Below (map (gains_page the_machine t h) ns) (gains_page the_machine t h n b) (gains_page_step n b low) (λ c x. all_gains ns c x)

  touches_step : (b : Board FlatState) → Quiet b → Out Quiet (touches the_machine t h b)
  touches_step b q = access (the_machine.access b.at.flat h) where
    favoured : (d : Board FlatState) (c : Bool) → Quiet d → Out Quiet (On (if c then passes_favour h d else d))
    favoured d true x =
        record { good = x.good; unshut = x.unshut; running = x.running; clear = x.clear; there = x.there; listed = x.listed }
    favoured d false x = x

    after : (e : Entry) (c : Board FlatState) → Quiet c → (o : Option (Board FlatState)) → entered the_machine t h e c ≡ o
        → Out Quiet (touched the_machine t h o)
    after e c same None is = tt
    after e c same (Some d) is =
        let x = after_entry the_machine t many t.pages Good faithful h e c d same.good is in
        let clear : wanted d h ≡ None = ap (λ (ws : List (Option (ℕ × Mode))). unwrap_or (slice_get ws h) None) x.wants ∙ same.clear in
        let listed : h < length d.orders = subst (λ (os : List (Option Order)). h < length os) (sym x.orders) same.listed in
        choice Quiet (the_board.is_stopped d.at.flat) (Ends Rest (closes Stop d)) _ (λ _. resting (closes Stop d) clear listed refl)
        (λ running. favoured d (h == d.favoured) (entry_quiet e c d same is running))

    timed : (word : DeviceWord) (store : Option ℕ) (answer : Asked) (o : Option (ℕ × Supply)) → Out Quiet (touches_at the_machine t h word store answer b o)
    timed word store answer None = tt
    timed word store answer (Some (now, left)) =
        let e = touch_of the_machine t h b (recorded_input word store (the_board.time b.at.flat) now answer) in
        let c : Board FlatState = record b { supply = left } in
        after e c (record { good = q.good; unshut = q.unshut; running = q.running; clear = q.clear; there = q.there; listed = q.listed })
        (entered the_machine t h e c) refl

    told : (word : DeviceWord) (store : Option ℕ) (o : Option (Asked × Supply)) → Out Quiet (touches_with the_machine t h word store b o)
    told word store None = shuts Fault b q
    told word store (Some (answer, left)) = timed word store answer (clock_gives word store left)

    access : (o : Option (DeviceWord × Option ℕ)) → Out Quiet (accesses the_machine t h o b)
    access None = q
    access (Some (word, store)) =
        roomy Quiet (touch_of the_machine t h b Nothing) (λ c. touches_with the_machine t h word store c (console_gives word store c.supply)) b q
        (told word store (console_gives word store b.supply))

  -- told to go on
  going : (b : Board FlatState) (until : ℕ) → Below b → Told b (Go until)
  going b until low = record {
    rests = sym (seen b false low.0 low.1);
    holds = sym (ap (λ (o : Option (ℕ × Mode)). is_some o) low.0.clear);
    kept = λ page other e. absurd (let bad : ⊥ = cc in bad);
    listed = low.0.listed;
  }

  steps_tell : (b : Board FlatState) → Good b.at.flat → wanted b h ≡ None → h < length b.wants → h < length b.orders
      → Out (λ c. ⊥) (ways.goes (steps the_machine t h) (On b))
  steps_tell b good clear there listed =
      behind Quiet (λ c. ⊥) (polls the_machine t h ∷ yields the_machine t h ∷ rests_at_limit the_machine t h ∷ gains the_machine t h
      ∷ touches the_machine t h ∷ rests_at_limit the_machine t h ∷ goes_on the_machine t h ∷ []) (rests_where_closed the_machine t b)
      (closed_step b good clear there listed) (λ b₁ q₁.
      behind Quiet (λ c. ⊥) (yields the_machine t h ∷ rests_at_limit the_machine t h ∷ gains the_machine t h
      ∷ touches the_machine t h ∷ rests_at_limit the_machine t h ∷ goes_on the_machine t h ∷ []) (polls the_machine t h b₁) (polls_step b₁ q₁) (λ b₂ q₂.
      behind Quiet (λ c. ⊥) (rests_at_limit the_machine t h ∷ gains the_machine t h
      ∷ touches the_machine t h ∷ rests_at_limit the_machine t h ∷ goes_on the_machine t h ∷ []) (yields the_machine t h b₂)
      (all_yields (harts b₂) b₂ q₂) (λ b₃ q₃.
      behind Below (λ c. ⊥) (gains the_machine t h ∷ touches the_machine t h ∷ rests_at_limit the_machine t h ∷ goes_on the_machine t h ∷ [])
      (rests_at_limit the_machine t h b₃) (limit_step b₃ q₃) (λ b₄ q₄.
      behind Below (λ c. ⊥) (touches the_machine t h ∷ rests_at_limit the_machine t h ∷ goes_on the_machine t h ∷ []) (gains the_machine t h b₄)
      (all_gains (needed the_machine t b₄ h) b₄ q₄) (λ b₅ q₅.
      behind Quiet (λ c. ⊥) (rests_at_limit the_machine t h ∷ goes_on the_machine t h ∷ []) (touches the_machine t h b₅) (touches_step b₅ q₅.0) (λ b₆ q₆.
      behind Below (λ c. ⊥) (goes_on the_machine t h ∷ []) (rests_at_limit the_machine t h b₆) (limit_step b₆ q₆) (λ b₇ q₇. going b₇ _ q₇)))))))

  runs_good : (n : ℕ) (s u : Replay FlatState) → Good s.flat → runs the_machine t h n s ≡ Some u → Good u.flat
  runs_good zero s u good is = subst (λ (z : Replay FlatState). Good z.flat) (same_Some _ _ is) good
  runs_good (suc n) s u good is =
      let m = bound_to (λ (m : Replay FlatState × Option (List Step)). runs the_machine t h n m.0) (goes the_board s h Move (verdict_on the_board s h Move)) u
      is in
      let c = can_and_does the_machine t many t.pages Good faithful s h Move (verdict_on the_board s h Move) m.0 m.1 in
      runs_good n m.0.0 u (by_item the_board many Good faithful.steady s m.0.0 h Move good c.1).good m.2

  -- what a turn tells its hart
  pub turn_tells : (n : ℕ) (b d : Board FlatState) → Good b.at.flat → h < length b.wants → h < length b.orders → turn the_machine t h n b ≡ Some d
      → (order : Order) × (last_order d h ≡ Some order) × Told d order
  turn_tells n b d good there listed is =
      let c = bound_to (λ c. ended_by h n b (ways.goes (steps the_machine t h) (On c))) (commits the_machine t h n b) d is in
      let x = committed the_machine t many t.pages Good faithful h n b c.0 c.1 in
      let clear : wanted c.0 h ≡ None =
      ap (λ (ws : List (Option (ℕ × Mode))). unwrap_or (slice_get ws h) None) x.wants
      ∙ ap (λ (o : Option (Option (ℕ × Mode))). unwrap_or o None) (set_here b.wants h None there) in
      let still : h < length c.0.wants = subst (λ (ws : List (Option (ℕ × Mode))). h < length ws) (sym x.wants)
      (let z = length-set b.wants h None in omega (arith, z, there)) in
      by (ways.goes (steps the_machine t h) (On c.0))
      (steps_tell c.0 (runs_good n b.at c.0.at good x.ran) clear still (subst (λ (os : List (Option Order)). h < length os) (sym x.orders) listed)) c.2
    where
      by : (way : Way FlatState) → Out (λ c. ⊥) way → ended_by h n b way ≡ Some d → (order : Order) × (last_order d h ≡ Some order) × Told d order
      by (On e) none ended = absurd none
      by Nowhere out ended = absurd (none-some _ ended)
      by (Ends order e) out ended =
          let to : Board FlatState = with_rows h n (items_made h n b e) b (with_order h order e) in
          let told : Told to order =
          record {
            rests = out.rests;
            holds = out.holds;
            kept = out.kept;
            listed =
                (let z = length-set e.orders h (Some order) in let l = out.listed in omega (arith, z, l));
          } in
          let same = same_Some _ _ ended in (
            order,
            subst (λ (z : Board FlatState). last_order z h ≡ Some order) same
                (ap (λ (o : Option (Option Order)). unwrap_or o None) (set_here e.orders h (Some order) out.listed)),
            subst (λ (z : Board FlatState). Told z order) same told,
          )
