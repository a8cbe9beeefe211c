-- Where the clock has answers enough, a turn is there: nothing in it comes to nowhere.
use Rattle.std.proofs.Common.{◌≡◌, ℕ, zero, suc, ◌-◌, ◌<◌, ◌≤◌, ◌==◌, ◌||◌, Bool, true, false, List, [], ◌∷◌, ◌++◌, length, map, max, Option, Some, None}
use Rattle.std.proofs.Common.{is_some, slice_set, refl, sym, ap, ◌∙◌, subst, arith, if◌then◌else◌, true≢false}
use Rattle.std.specs.Option.{option_map, option_and_then, option_map_or}
use Rattle.std.proofs.lemmas.Option.{none-some, same_Some}
use Rattle.rv_words.specs.declared.shared.Mode.{Mode}
use Rattle.rv_words.specs.declared.shared.Input.TheVariants.{Nothing}
use Rattle.rv_words.specs.declared.shared.DeviceWord.{DeviceWord}
use Rattle.rv_words.specs.declared.shared.DeviceWord.TheVariants as words
use Rattle.outside.specs.declared.console.Asked.{Asked}
use Rattle.device_board.specs.Recording.{recorded_input}
use Rattle.log_entry.specs.declared.log.Entry.{Entry}
use Rattle.log_entry.specs.declared.log.Entry.TheVariants as entries
use Rattle.log_entry.specs.Parts.{is_touch}
use Rattle.flat_machine.specs.declared.act.Act.{Act}
use Rattle.flat_machine.specs.declared.act.Act.TheVariants.{Run, Touch, Poll, Lose}
use Rattle.replay_model.specs.State.{Replay}
use Rattle.replay_model.specs.Items.{Move, goes, verdict_on, acted, effect, past, holds, ends_reservation}
use Rattle.crew_recording.proofs.OrderedRecordings.{acts_on}
use Rattle.std.proofs.lemmas.List.{length-set}
use Rattle.turn_model.specs.Recordable.{Recordable}
use Rattle.turn_model.specs.Board.{Board, Order, Go, Hold, Rest, Supply, Terms, harts, stream, wanted, closes, count, is_at_limit, last_order}
use Rattle.turn_model.specs.Claims.{holds_so, kept_by}
use Rattle.turn_model.specs.Ways.{Way, On, Ends, Nowhere, on, has_room, with_room, entered}
use Rattle.turn_model.specs.Ways as ways
use Rattle.turn_model.specs.Steps.{with_want, passes_favour, console_gives, clock_gives, clock_answers, runs, passes, commits, steps, rests_where_closed}
use Rattle.turn_model.specs.Steps.{rests_at_limit, is_due, poll_at, polls_with, polls, yield_of, yields_now, yields_for, yields_to, yields, gain_of}
use Rattle.turn_model.specs.Steps.{gains_unless, gains_page, gains, touch_of, behind_touch, touched, touches_at, touches_with, accesses, touches, goes_on}
use Rattle.turn_model.specs.Turn.{turn, ended_by, with_rows, with_order, items_made}
use Rattle.turn_model.specs.Lists.{leg, leg_by, whole_leg}
use Rattle.turn_model.specs.Faithful.{IsFaithful}
use Rattle.turn_model.proofs.Entries.{after_entry, can_and_does}
use Rattle.round_progress.proofs.Demands.{IsAnswering, IsThere}

max_right : (a b : ℕ) → b ≤ max a b
max_right a b = omega arith

module _ {S V : Type 0} (machine : Recordable S V) (terms : Terms) (many pages : ℕ) (Good : S → Type 0) (faithful : IsFaithful machine.flat many pages Good)
    (answers : IsAnswering machine many Good) where
  -- a good state, so many answers of the clock left, and a stream for each hart
  abbrev pub Has : ℕ → Board S → Type 0
  Has n b = Good b.at.flat × (n ≤ length b.supply.times) × (length b.streams ≡ many)

  -- and stop isn't set
  abbrev pub Runs : ℕ → Board S → Type 0
  Runs n b = Good b.at.flat × (machine.flat.is_stopped b.at.flat ≡ false) × (n ≤ length b.supply.times) × (length b.streams ≡ many)

  -- a way comes somewhere: to this where it goes on, to that where it ends
  abbrev Comes : (Board S → Type 0) → (Board S → Type 0) → Way S → Type 0
  Comes P Q (On b) = P b
  Comes P Q (Ends order b) = Q b
  Comes P Q Nowhere = ⊥

  further : (P R Q : Board S → Type 0) (steps : List (Board S → Way S)) (way : Way S) → Comes P Q way
      → ((c : Board S) → P c → Comes R Q (ways.goes steps (On c))) → Comes R Q (ways.goes steps way)
  further P R Q steps (On c) comes more = more c comes
  further P R Q [] (Ends order c) comes more = comes
  further P R Q (step ∷ steps) (Ends order c) comes more = comes
  further P R Q steps Nowhere comes more = absurd comes

  choice : (P Q : Board S → Type 0) (c : Bool) (x y : Way S) → (c ≡ true → Comes P Q x) → (c ≡ false → Comes P Q y) → Comes P Q (if c then x else y)
  choice P Q true x y f g = f refl
  choice P Q false x y f g = g refl

  fewer : (m n : ℕ) (b : Board S) → n ≤ m → Runs m b → Runs n b
  fewer m n b l r = let k = r.2 in (r.0, r.1, omega (arith, l, k), r.3)

  has : (n : ℕ) (b : Board S) → Runs n b → Has n b
  has n b r = (r.0, r.2, r.3)

  -- the act that an entry is can be made
  abbrev Can : S → ℕ → Entry → Type 0
  Can s h (entries.Gain count page seq mode waits) = Unit {0}
  Can s h (entries.Yield count page seq left) = Unit {0}
  Can s h (entries.Poll count ord time bits) = IsThere (machine.flat.next s (Poll h time))
  Can s h (entries.Touch count ord input) = IsThere (machine.flat.next s (Touch h input))
  Can s h (entries.End count) = ⊥

  -- a state after an effect
  abbrev Done : Option (Replay S) → Type 0
  Done o = (t : Replay S) × (o ≡ Some t) × Good t.flat

  yield_there : (s : Replay S) (h page : ℕ) (left : Option Mode) (b : Bool) → h < many → Good s.flat
      → Done (option_map (holds machine.flat page h left) (if b then acted machine.flat s (Lose h) else Some s))
  yield_there s h page left false inside good = (holds machine.flat page h left s, refl, good)
  yield_there s h page left true inside good =
      let l = answers.loses s.flat h good inside in (
        holds machine.flat page h left (record s { flat = l.0 }),
        ap (λ o. option_map (holds machine.flat page h left) (option_map (λ (f : S). record s { flat = f }) o)) l.1,
        faithful.steady.lasts s.flat l.0 (Lose h) good l.1,
      )

  act_there : (s : Replay S) (act : Act) → Good s.flat → IsThere (machine.flat.next s.flat act) → Done (acted machine.flat s act)
  act_there s act good l =
      (record s { flat = l.0 }, ap (λ o. option_map (λ (f : S). record s { flat = f }) o) l.1, faithful.steady.lasts s.flat l.0 act good l.1)

  effect_there : (s : Replay S) (h : ℕ) (e : Entry) → h < many → Good s.flat → Can s.flat h e → Done (effect machine.flat s h e)
  effect_there s h (entries.Gain count page seq mode waits) inside good can = (holds machine.flat page h (Some mode) s, refl, good)
  effect_there s h (entries.Yield count page seq left) inside good can = yield_there s h page left (ends_reservation machine.flat s h page) inside good
  effect_there s h (entries.Poll count ord time bits) inside good can = act_there s (Poll h time) good can
  effect_there s h (entries.Touch count ord input) inside good can = act_there s (Touch h input) good can
  effect_there s h (entries.End count) inside good can = absurd can

  -- an entry that can be made is made, and takes no answer of the clock
  entered_there : (h : ℕ) (e : Entry) (b : Board S) → h < many → Good b.at.flat → Can b.at.flat h e
      → (d : Board S) × (entered machine terms h e b ≡ Some d) × Good d.at.flat × (d.supply ≡ b.supply) × (length d.streams ≡ length b.streams)
  entered_there h e b inside good can =
      let t = effect_there b.at h e inside good can in (
        record b { at = past machine.flat h e t.0; streams = slice_set b.streams h (stream b h ++ e ∷ []) },
        ap (λ o. option_map (λ (s : Replay S). record b { at = s; streams = slice_set b.streams h (stream b h ++ e ∷ []) })
            (option_map (past machine.flat h e) o)) t.1,
        t.2,
        refl,
        length-set b.streams h (stream b h ++ e ∷ []),
      )

  on_there : (n : ℕ) (h : ℕ) (e : Entry) (b : Board S) → h < many → is_touch e ≡ false → Can b.at.flat h e → Runs n b
      → Comes (Runs n) (Has n) (on (entered machine terms h e b))
  on_there n h e b inside plain can r =
      let d = entered_there h e b inside r.0 can in
      let stopped = (after_entry machine terms many pages Good faithful h e b d.0 r.0 d.1).stopped plain ∙ r.1 in
      subst (λ o. Comes (Runs n) (Has n) (on o)) (sym d.1) (d.2, stopped, subst (λ (o : Supply). n ≤ length o.times) (sym d.3) r.2, d.4 ∙ r.3)

  roomy : (P : Board S → Type 0) (n : ℕ) (e : Entry) (step : Board S → Way S) (b : Board S) → Has n b → Comes P (Has n) (step b)
      → Comes P (Has n) (with_room machine terms e step b)
  roomy P n e step b has comes = choice P (Has n) (has_room machine terms e b) (step b) (Ends Rest (closes _ b)) (λ _. comes) (λ _. has)

  -- a clock with an answer left gives it
  clock_there : (n : ℕ) (times : List ℕ) (o : Supply) → suc n ≤ length times → (time : ℕ) × (rest : List ℕ)
      × (clock_answers times o ≡ Some (time, record o { times = rest })) × (n ≤ length rest)
  clock_there n [] o l = absurd (omega (arith, l))
  clock_there n (time ∷ rest) o l = (time, rest, refl, omega (arith, l))

  module _ (h : ℕ) (inside : h < many) where
    closed_there : (n : ℕ) (b : Board S) → Has n b → Comes (Runs n) (Has n) (rests_where_closed machine terms b)
    closed_there n b p =
        choice (Runs n) (Has n) (is_some b.closed || machine.flat.is_stopped b.at.flat) (Ends Rest b) (On b) (λ _. p)
        (λ f. (p.0, second (is_some b.closed) (machine.flat.is_stopped b.at.flat) f, p.1, p.2)) where
          second : (x y : Bool) → (x || y) ≡ false → y ≡ false
          second true y e = absurd (true≢false e)
          second false y e = e

    polls_there : (n : ℕ) (b : Board S) → Runs (suc n) b → Comes (Runs n) (Has n) (polls machine terms h b)
    polls_there n b r =
        choice (Runs n) (Has n) (is_due machine terms h b) _ (On b)
        (λ _. roomy (Runs n) n (poll_at machine terms h b 0) (λ c. polls_with machine terms h c (clock_answers c.supply.times c.supply)) b
        (has n b (fewer (suc n) n b (omega arith) r)) asked)
        (λ _. fewer (suc n) n b (omega arith) r)
      where
        asked : Comes (Runs n) (Has n) (polls_with machine terms h b (clock_answers b.supply.times b.supply))
        asked =
            let c = clock_there n b.supply.times b.supply r.2 in
            let time = max c.0 (machine.flat.time b.at.flat) in
            let d = record b { supply = record b.supply { times = c.1 } } in
            let can = answers.polls b.at.flat h time r.0 inside r.1 (max_right c.0 (machine.flat.time b.at.flat)) in
            subst (λ o. Comes (Runs n) (Has n) (polls_with machine terms h b o)) (sym c.2)
            (on_there n h (poll_at machine terms h b time) d inside refl can (r.0, r.1, c.3, r.3))

    yields_for_there : (n g : ℕ) (b : Board S) (o : Option (ℕ × Mode)) → Runs n b → Comes (Runs n) (Has n) (yields_for machine terms h g o b)
    yields_for_there n g b None r = r
    yields_for_there n g b (Some w) r =
        choice (Runs n) (Has n) (yields_now machine terms h g w b) _ (On b)
        (λ _. roomy (Runs n) n (yield_of machine terms h w b) (λ c. on (entered machine terms h (yield_of machine terms h w c) c)) b (has n b r)
        (on_there n h (yield_of machine terms h w b) b inside refl tt r)) (λ _. r)

    all_yields : (n : ℕ) (gs : List ℕ) (b : Board S) → Runs n b → Comes (Runs n) (Has n) (ways.goes (map (yields_to machine terms h) gs) (On b))
    all_yields n [] b r = r
    all_yields n (g ∷ gs) b r =
        further (Runs n) (Runs n) (Has n) (map (yields_to machine terms h) gs) (yields_to machine terms h g b)
        (choice (Runs n) (Has n) (g == h) (On b) (yields_for machine terms h g (wanted b g) b) (λ _. r) (λ _. yields_for_there n g b (wanted b g) r))
        (λ c p. all_yields n gs c p)

    limit_there : (n : ℕ) (b : Board S) → Runs n b → Comes (Runs n) (Has n) (rests_at_limit machine terms h b)
    limit_there n b r = choice (Runs n) (Has n) (is_at_limit machine terms b h) (Ends Rest b) (On b) (λ _. has n b r) (λ _. r)

    gains_unless_there : (n : ℕ) (o : Option ℕ) (w : ℕ × Mode) (b : Board S) → Runs n b → Comes (Runs n) (Has n) (gains_unless machine terms o h w b)
    gains_unless_there n None w b r =
        roomy (Runs n) n (gain_of machine terms h w b) (λ c. on (entered machine terms h (gain_of machine terms h w c) c)) b (has n b r)
        (on_there n h (gain_of machine terms h w b) b inside refl tt r)
    gains_unless_there n (Some g) w b r = has n b r

    all_gains : (n : ℕ) (ws : List (ℕ × Mode)) (b : Board S) → Runs n b → Comes (Runs n) (Has n) (ways.goes (map (gains_page machine terms h) ws) (On b))
    all_gains n [] b r = r
    all_gains n (w ∷ ws) b r =
        further (Runs n) (Runs n) (Has n) (map (gains_page machine terms h) ws) (gains_page machine terms h w b)
        (choice (Runs n) (Has n) (holds_so b h w) (On b) (gains_unless machine terms (kept_by b h w) h w b) (λ _. r)
        (λ _. gains_unless_there n (kept_by b h w) w b r)) (λ c p. all_gains n ws c p)

    behind_there : (n : ℕ) (b : Board S) → Has n b → Comes (Has n) (Has n) (behind_touch machine terms h b)
    behind_there n b p = choice (Has n) (Has n) (machine.flat.is_stopped b.at.flat) (Ends Rest (closes _ b)) _ (λ _. p) (λ _. by (h == b.favoured)) where
      by : (c : Bool) → Comes (Has n) (Has n) (On (if c then passes_favour h b else b))
      by true = p
      by false = p

    touched_there : (n : ℕ) (word : DeviceWord) (store : Option ℕ) (now : ℕ) (answer : Asked) (b d : Board S) → b.at ≡ d.at
        → machine.access d.at.flat h ≡ Some (word, store) → Runs n d
        → Comes (Has n) (Has n) (touched machine terms h
        (entered machine terms h (touch_of machine terms h b (recorded_input word store (machine.flat.time b.at.flat) now answer)) d))
    touched_there n word store now answer b d same access r =
        let input = recorded_input word store (machine.flat.time b.at.flat) now answer in
        let can =
        subst (λ (s : Replay S). IsThere (machine.flat.next d.at.flat (Touch h (recorded_input word store (machine.flat.time s.flat) now answer))))
        (sym same) (answers.touches d.at.flat h word store now answer r.0 inside r.1 access) in
        let c = entered_there h (touch_of machine terms h b input) d inside r.0 can in
        subst (λ o. Comes (Has n) (Has n) (touched machine terms h o)) (sym c.1)
        (behind_there n c.0 (c.2, subst (λ (o : Supply). n ≤ length o.times) (sym c.3) r.2, c.4 ∙ r.3))

    touches_at_there : (n : ℕ) (word : DeviceWord) (store : Option ℕ) (answer : Asked) (b : Board S) (left : Supply)
        → machine.access b.at.flat h ≡ Some (word, store) → Good b.at.flat → machine.flat.is_stopped b.at.flat ≡ false → suc n ≤ length left.times
        → length b.streams ≡ many
        → Comes (Has n) (Has n) (touches_at machine terms h word store answer b (clock_gives word store left))
    touches_at_there n word store answer b left access good running l size = by word store access where
      made_at : (word : DeviceWord) (store : Option ℕ) (now : ℕ) (rest : Supply) → machine.access b.at.flat h ≡ Some (word, store) → n ≤ length rest.times
          → Comes (Has n) (Has n) (touches_at machine terms h word store answer b (Some (now, rest)))
      made_at word store now rest access k = touched_there n word store now answer b (record b { supply = rest }) refl access (good, running, k, size)

      asked : (word : DeviceWord) → machine.access b.at.flat h ≡ Some (word, None)
          → Comes (Has n) (Has n) (touches_at machine terms h word None answer b (clock_answers left.times left))
      asked word access =
          let c = clock_there n left.times left l in
          subst (λ o. Comes (Has n) (Has n) (touches_at machine terms h word None answer b o)) (sym c.2)
          (made_at word None c.0 (record left { times = c.1 }) access c.3)

      by : (word : DeviceWord) (store : Option ℕ) → machine.access b.at.flat h ≡ Some (word, store)
          → Comes (Has n) (Has n) (touches_at machine terms h word store answer b (clock_gives word store left))
      by words.TimeLow None access = asked words.TimeLow access
      by words.TimeHigh None access = asked words.TimeHigh access
      by words.TimeLow (Some v) access = made_at words.TimeLow (Some v) 0 left access (omega (arith, l))
      by words.TimeHigh (Some v) access = made_at words.TimeHigh (Some v) 0 left access (omega (arith, l))
      by (words.Msip g) store access = made_at (words.Msip g) store 0 left access (omega (arith, l))
      by (words.CompareLow g) store access = made_at (words.CompareLow g) store 0 left access (omega (arith, l))
      by (words.CompareHigh g) store access = made_at (words.CompareHigh g) store 0 left access (omega (arith, l))
      by words.Rx store access = made_at words.Rx store 0 left access (omega (arith, l))
      by words.Tx store access = made_at words.Tx store 0 left access (omega (arith, l))
      by words.Stop store access = made_at words.Stop store 0 left access (omega (arith, l))

    -- the console takes no answer of the clock
    console_leaves : (word : DeviceWord) (store : Option ℕ) (o rest : Supply) (answer : Asked) → console_gives word store o ≡ Some (answer, rest)
        → rest.times ≡ o.times
    console_leaves words.Rx None o rest answer is = read o.answers is where
      read : (more : List Asked) → console_gives words.Rx None (record o { answers = more }) ≡ Some (answer, rest) → rest.times ≡ o.times
      read [] e = absurd (none-some _ e)
      read (a ∷ more) e = sym (ap (λ (p : Asked × Supply). p.1.times) (same_Some _ _ e))
    console_leaves words.Tx (Some v) o rest answer is = sent o.takes is where
      sent : (n : ℕ) → console_gives words.Tx (Some v) (record o { takes = n }) ≡ Some (answer, rest) → rest.times ≡ o.times
      sent zero e = absurd (none-some _ e)
      sent (suc n) e = sym (ap (λ (p : Asked × Supply). p.1.times) (same_Some _ _ e))
    console_leaves words.Rx (Some v) o rest answer is = sym (ap (λ (p : Asked × Supply). p.1.times) (same_Some _ _ is))
    console_leaves words.Tx None o rest answer is = sym (ap (λ (p : Asked × Supply). p.1.times) (same_Some _ _ is))
    console_leaves (words.Msip g) store o rest answer is = sym (ap (λ (p : Asked × Supply). p.1.times) (same_Some _ _ is))
    console_leaves (words.CompareLow g) store o rest answer is = sym (ap (λ (p : Asked × Supply). p.1.times) (same_Some _ _ is))
    console_leaves (words.CompareHigh g) store o rest answer is = sym (ap (λ (p : Asked × Supply). p.1.times) (same_Some _ _ is))
    console_leaves words.TimeLow store o rest answer is = sym (ap (λ (p : Asked × Supply). p.1.times) (same_Some _ _ is))
    console_leaves words.TimeHigh store o rest answer is = sym (ap (λ (p : Asked × Supply). p.1.times) (same_Some _ _ is))
    console_leaves words.Stop store o rest answer is = sym (ap (λ (p : Asked × Supply). p.1.times) (same_Some _ _ is))

    touches_there : (n : ℕ) (b : Board S) → Runs (suc n) b → Comes (Has n) (Has n) (touches machine terms h b)
    touches_there n b r = by (machine.access b.at.flat h) refl where
      low : Has n b
      low = has n b (fewer (suc n) n b (omega arith) r)

      gives : (word : DeviceWord) (store : Option ℕ) (o : Option (Asked × Supply)) → machine.access b.at.flat h ≡ Some (word, store)
          → console_gives word store b.supply ≡ o → Comes (Has n) (Has n) (touches_with machine terms h word store b o)
      gives word store None access is = low
      gives word store (Some (answer, left)) access is =
          touches_at_there n word store answer b left access r.0 r.1
          (subst (λ ts. suc n ≤ length ts) (sym (console_leaves word store b.supply left answer is)) r.2) r.3

      by : (o : Option (DeviceWord × Option ℕ)) → machine.access b.at.flat h ≡ o → Comes (Has n) (Has n) (accesses machine terms h o b)
      by None is = low
      by (Some (word, store)) is =
          roomy (Has n) n (touch_of machine terms h b Nothing) (λ c. touches_with machine terms h word store c (console_gives word store c.supply)) b low
          (gives word store (console_gives word store b.supply) is refl)

    -- the steps come to an end
    steps_there : (n : ℕ) (b : Board S) → Has (suc (suc n)) b → Comes (λ c. ⊥) (Has n) (ways.goes (steps machine terms h) (On b))
    steps_there n b p = lower (ways.goes (steps machine terms h) (On b)) all where
      at_most : (m : ℕ) (c : Board S) → n ≤ m → Has m c → Has n c
      at_most m c l q = let k = q.1 in (q.0, omega (arith, l, k), q.2)

      -- each step of so many answers, behind which there are n
      ends : (P : Board S → Type 0) (m : ℕ) (way : Way S) → n ≤ m → Comes P (Has m) way → Comes P (Has n) way
      ends P m (On c) l comes = comes
      ends P m (Ends order c) l comes = at_most m c l comes
      ends P m Nowhere l comes = comes

      all : Comes (λ c. ⊥) (Has n) (ways.goes (steps machine terms h) (On b))
      all =
          further (Runs (suc (suc n))) (λ c. ⊥) (Has n)
          (polls machine terms h ∷ yields machine terms h ∷ rests_at_limit machine terms h ∷ gains machine terms h ∷ touches machine terms h ∷
          rests_at_limit machine terms h ∷ goes_on machine terms h ∷ []) (rests_where_closed machine terms b)
          (ends (Runs (suc (suc n))) (suc (suc n)) (rests_where_closed machine terms b) (omega arith) (closed_there (suc (suc n)) b p)) (λ b₁ r₁.
          further (Runs (suc n)) (λ c. ⊥) (Has n) (yields machine terms h ∷ rests_at_limit machine terms h ∷ gains machine terms h ∷ touches machine terms h ∷
          rests_at_limit machine terms h ∷ goes_on machine terms h ∷ []) (polls machine terms h b₁)
          (ends (Runs (suc n)) (suc n) (polls machine terms h b₁) (omega arith) (polls_there (suc n) b₁ r₁)) (λ b₂ r₂.
          further (Runs (suc n)) (λ c. ⊥) (Has n) (rests_at_limit machine terms h ∷ gains machine terms h ∷ touches machine terms h ∷ rests_at_limit machine
          terms h ∷ goes_on machine terms h ∷ []) (yields machine terms h b₂)
          (ends (Runs (suc n)) (suc n) (yields machine terms h b₂) (omega arith) (all_yields (suc n) (harts b₂) b₂ r₂)) (λ b₃ r₃.
          further (Runs (suc n)) (λ c. ⊥) (Has n) (gains machine terms h ∷ touches machine terms h ∷ rests_at_limit machine terms h ∷ goes_on machine terms h
          ∷ []) (rests_at_limit machine terms h b₃)
          (ends (Runs (suc n)) (suc n) (rests_at_limit machine terms h b₃) (omega arith) (limit_there (suc n) b₃ r₃)) (λ b₄ r₄.
          further (Runs (suc n)) (λ c. ⊥) (Has n) (touches machine terms h ∷ rests_at_limit machine terms h ∷ goes_on machine terms h ∷ [])
          (gains machine terms h b₄)
          (ends (Runs (suc n)) (suc n) (gains machine terms h b₄) (omega arith) (all_gains (suc n) (machine.flat.need b₄.at.flat h) b₄ r₄)) (λ b₅ r₅.
          further (Has n) (λ c. ⊥) (Has n) (rests_at_limit machine terms h ∷ goes_on machine terms h ∷ []) (touches machine terms h b₅)
          (touches_there n b₅ r₅) (λ b₆ p₆.
          further (Has n) (λ c. ⊥) (Has n) (goes_on machine terms h ∷ []) (rests_at_limit machine terms h b₆)
          (choice (Has n) (Has n) (is_at_limit machine terms b₆ h) (Ends Rest b₆) (On b₆) (λ _. p₆) (λ _. p₆)) (λ b₇ p₇. p₇)))))))

      lower : (way : Way S) → Comes (λ c. ⊥) (Has n) way → Comes (λ c. ⊥) (Has n) way
      lower way comes = comes

    -- moves that are a part of a leg are made
    runs_there : (n most : ℕ) (s : Replay S) → Good s.flat → n ≤ leg machine terms h most s → (t : Replay S) × (runs machine terms h n s ≡ Some t) × Good t.flat
    runs_there zero most s good l = (s, refl, good)
    runs_there (suc n) zero s good l = absurd (omega (arith, l))
    runs_there (suc n) (suc most) s good l =
        by (goes machine.flat s h Move (verdict_on machine.flat s h Move)) refl l (λ u good'. runs_there n most u good') where
          by : (o : Option (Replay S × Option V)) → goes machine.flat s h Move (verdict_on machine.flat s h Move) ≡ o
              → suc n ≤ option_map_or (λ m. suc (leg machine terms h most m.0)) o 0
              → ((u : Replay S) → Good u.flat → n ≤ leg machine terms h most u → (t : Replay S) × (runs machine terms h n u ≡ Some t) × Good t.flat)
              → (t : Replay S) × (option_and_then (λ m. runs machine terms h n m.0) o ≡ Some t) × Good t.flat
          by None is l rest = absurd (omega (arith, l))
          by (Some m) is l rest =
              let c = can_and_does machine terms many pages Good faithful s h Move (verdict_on machine.flat s h Move) m is in
              let a = acts_on machine.flat many Good faithful.steady faithful.timed pages terms.limit s m.0 (Run h) c.1 in
              let good' : Good m.0.flat = subst Good (sym a.2) (faithful.steady.lasts s.flat a.0 (Run h) good a.1) in
              rest m.0 good' (omega (arith, l))

    commits_there : (k n : ℕ) (b : Board S) → Has n b → (t : Replay S) × (runs machine terms h k b.at ≡ Some t) × Good t.flat → (c : Board S)
        × (commits machine terms h k b ≡ Some c) × Has n c
    commits_there k n b p t = (
      with_want h None (passes machine terms h k (record b { at = t.0 })),
      ap (λ o. option_map (λ (s : Replay S). with_want h None (passes machine terms h k (record b { at = s }))) o) t.1,
      by _,
    )
      where
        by : (x : Bool) → Has n (with_want h None (if x then passes_favour h (record b { at = t.0 }) else record b { at = t.0 }))
        by true = (t.2, p.1, p.2)
        by false = (t.2, p.1, p.2)

    pub turn_there : (k n : ℕ) (b : Board S) → Has (suc (suc n)) b → k ≤ whole_leg machine terms h b → (d : Board S) × (turn machine terms h k b ≡ Some d)
        × Has n d
    turn_there k n b p l =
        let c = commits_there k (suc (suc n)) b p (moves (last_order b h) l) in
        let e = ended c.0 (ways.goes (steps machine terms h) (On c.0)) (steps_there n c.0 c.2) in
        (e.0, ap (λ o. option_and_then (λ c. ended_by h k b (ways.goes (steps machine terms h) (On c))) o) c.1 ∙ e.1, e.2)
      where
        moves : (o : Option Order) → k ≤ leg_by machine terms h b o → (t : Replay S) × (runs machine terms h k b.at ≡ Some t) × Good t.flat
        moves None l = runs_there k 0 b.at p.0 l
        moves (Some Rest) l = runs_there k 0 b.at p.0 l
        moves (Some (Hold page g)) l = runs_there k 0 b.at p.0 l
        moves (Some (Go until)) l = runs_there k (until - count machine terms b h) b.at p.0 l

        ended : (c : Board S) (way : Way S) → Comes (λ c. ⊥) (Has n) way → (d : Board S) × (ended_by h k b way ≡ Some d) × Has n d
        ended c (On e) comes = absurd comes
        ended c Nowhere comes = absurd comes
        ended c (Ends order e) comes = (with_rows h k (items_made h k b e) b (with_order h order e), refl, comes)
