-- What a want, an entry, the favour and a cause keep, every step of a turn keeps.
use Rattle.std.proofs.Common.{◌≡◌, ℕ, ◌==◌, ◌||◌, max, Bool, true, false, List, [], ◌∷◌, map, Option, Some, None, is_some, refl, if◌then◌else◌}
use Rattle.rv_words.specs.declared.shared.Mode.{Mode}
use Rattle.rv_words.specs.declared.shared.Cause.{Cause}
use Rattle.rv_words.specs.declared.shared.Input.TheVariants.{Nothing}
use Rattle.rv_words.specs.declared.shared.Cause.TheVariants as causes
use Rattle.rv_words.specs.declared.shared.DeviceWord.{DeviceWord}
use Rattle.outside.specs.declared.console.Asked.{Asked}
use Rattle.device_board.specs.Recording.{recorded_input}
use Rattle.log_entry.specs.declared.log.Entry.{Entry}
use Rattle.turn_model.specs.Recordable.{Recordable}
use Rattle.turn_model.specs.Board.{Board, Rest, Supply, Terms, harts, wanted, closes, is_at_limit}
use Rattle.turn_model.specs.Claims.{holds_so, kept_by, needed}
use Rattle.turn_model.specs.Ways.{Way, On, Ends, Nowhere, on, has_room, with_room, entered}
use Rattle.turn_model.specs.Ways as ways
use Rattle.turn_model.specs.Steps.{passes_favour, with_want, console_gives, clock_gives, clock_answers, rests_where_closed, rests_at_limit}
use Rattle.turn_model.specs.Steps.{is_due, poll_at, polls_with, polls, yield_of, yields_now, yields_for, yields_to, yields, gain_of, gains_unless, gains_page}
use Rattle.turn_model.specs.Steps.{gains, touch_of, touched, touches_at, touches_with, accesses, touches, steps}

module _ {S V : Type 0} (machine : Recordable S V) (terms : Terms) (h : ℕ) (D : Board S → Type 0) where
  pub record StepsKeep : Type 0 where
    pub wants : (c : Board S) (w : Option (ℕ × Mode)) → D c → D (with_want h w c)
    pub favours : (c : Board S) → D c → D (passes_favour h c)
    pub closes : (c : Board S) (cause : Cause) → D c → D (closes cause c)
    pub enters : (c d : Board S) (e : Entry) (left : Supply) → D c → entered machine terms h e (record c { supply = left }) ≡ Some d → D d

  abbrev pub W : Way S → Type 0
  W (On c) = D c
  W (Ends order c) = D c
  W Nowhere = Unit {0}

  module _ (keeps : StepsKeep) where
    abbrev AllWalk : List (Board S → Way S) → Type 0
    AllWalk [] = Unit {0}
    AllWalk (step ∷ steps) = ((c : Board S) → D c → W (step c)) × AllWalk steps

    goes_walk : (steps : List (Board S → Way S)) → AllWalk steps → (way : Way S) → W way → W (ways.goes steps way)
    goes_walk [] all way w = w
    goes_walk (step ∷ steps) all (On c) w = goes_walk steps all.1 (step c) (all.0 c w)
    goes_walk (step ∷ steps) all (Ends order c) w = w
    goes_walk (step ∷ steps) all Nowhere w = tt

    mapped_walk : {A : Type 0} (f : A → Board S → Way S) → ((a : A) (c : Board S) → D c → W (f a c)) → (xs : List A) → AllWalk (map f xs)
    mapped_walk f all [] = tt
    mapped_walk f all (x ∷ xs) = (all x, mapped_walk f all xs)

    choice : (p : Bool) (v w : Way S) → W v → W w → W (if p then v else w)
    choice true v w x y = x
    choice false v w x y = y

    once : (o : Option (Board S)) → ((d : Board S) → o ≡ Some d → D d) → W (on o)
    once None f = tt
    once (Some d) f = f d refl

    roomy : (e : Entry) (step : Board S → Way S) (c : Board S) → D c → W (step c) → W (with_room machine terms e step c)
    roomy e step c d w = choice (has_room machine terms e c) (step c) (Ends Rest (closes causes.Full c)) w (keeps.closes c causes.Full d)

    entry : (e : Entry) (c : Board S) → D c → W (on (entered machine terms h e c))
    entry e c d = once (entered machine terms h e c) (λ x made. keeps.enters c x e c.supply d made)

    polls_walk : (c : Board S) → D c → W (polls machine terms h c)
    polls_walk c d =
        choice (is_due machine terms h c) (with_room machine terms (poll_at machine terms h c 0)
        (λ x. polls_with machine terms h x (clock_answers x.supply.times x.supply)) c) (On c)
        (roomy (poll_at machine terms h c 0) (λ x. polls_with machine terms h x (clock_answers x.supply.times x.supply)) c d
        (by (clock_answers c.supply.times c.supply))) d
      where
        by : (o : Option (ℕ × Supply)) → W (polls_with machine terms h c o)
        by None = tt
        by (Some r) =
            once (entered machine terms h (poll_at machine terms h c (max r.0 (machine.flat.time c.at.flat))) (record c { supply = r.1 }))
            (λ x made. keeps.enters c x (poll_at machine terms h c (max r.0 (machine.flat.time c.at.flat))) r.1 d made)

    yields_walk : (b : Board S) → D b → W (yields machine terms h b)
    yields_walk b d = goes_walk (map (yields_to machine terms h) (harts b)) (mapped_walk (yields_to machine terms h) to (harts b)) (On b) d where
      for : (g : ℕ) (c : Board S) (w : Option (ℕ × Mode)) → D c → W (yields_for machine terms h g w c)
      for g c None d = d
      for g c (Some n) d =
          choice (yields_now machine terms h g n c)
          (with_room machine terms (yield_of machine terms h n c) (λ x. on (entered machine terms h (yield_of machine terms h n x) x)) c) (On c)
          (roomy (yield_of machine terms h n c) (λ x. on (entered machine terms h (yield_of machine terms h n x) x)) c d
          (entry (yield_of machine terms h n c) c d)) d

      to : (g : ℕ) (c : Board S) → D c → W (yields_to machine terms h g c)
      to g c d = choice (g == h) (On c) (yields_for machine terms h g (wanted c g) c) d (for g c (wanted c g) d)

    gains_walk : (b : Board S) → D b → W (gains machine terms h b)
    gains_walk b d =
        goes_walk (map (gains_page machine terms h) (needed machine terms b h)) (mapped_walk (gains_page machine terms h) page (needed machine terms b h))
        (On b) d
      where
        unless : (n : ℕ × Mode) (c : Board S) (o : Option ℕ) → D c → W (gains_unless machine terms o h n c)
        unless n c None d =
            roomy (gain_of machine terms h n c) (λ x. on (entered machine terms h (gain_of machine terms h n x) x)) c d
            (entry (gain_of machine terms h n c) c d)
        unless n c (Some g) d = keeps.wants c (Some n) d

        page : (n : ℕ × Mode) (c : Board S) → D c → W (gains_page machine terms h n c)
        page n c d = choice (holds_so c h n) (On c) (gains_unless machine terms (kept_by c h n) h n c) d (unless n c (kept_by c h n) d)

    touches_walk : (c : Board S) → D c → W (touches machine terms h c)
    touches_walk c d = by (machine.access c.at.flat h) where
      favoured : (x : Board S) (b : Bool) → D x → W (On (if b then passes_favour h x else x))
      favoured x true d = keeps.favours x d
      favoured x false d = d

      after : (o : Option (Board S)) → ((x : Board S) → o ≡ Some x → D x) → W (touched machine terms h o)
      after None f = tt
      after (Some x) f =
          choice (machine.flat.is_stopped x.at.flat) (Ends Rest (closes causes.Stop x)) (On (if h == x.favoured then passes_favour h x else x))
          (keeps.closes x causes.Stop (f x refl)) (favoured x (h == x.favoured) (f x refl))

      clock : (word : DeviceWord) (store : Option ℕ) (answer : Asked) (o : Option (ℕ × Supply)) → W (touches_at machine terms h word store answer c o)
      clock word store answer None = tt
      clock word store answer (Some r) =
          after (entered machine terms h (touch_of machine terms h c (recorded_input word store (machine.flat.time c.at.flat) r.0 answer))
          (record c { supply = r.1 }))
          (λ x made. keeps.enters c x (touch_of machine terms h c (recorded_input word store (machine.flat.time c.at.flat) r.0 answer)) r.1 d made)

      console : (word : DeviceWord) (store : Option ℕ) (o : Option (Asked × Supply)) → W (touches_with machine terms h word store c o)
      console word store None = keeps.closes c causes.Fault d
      console word store (Some r) = clock word store r.0 (clock_gives word store r.1)

      by : (o : Option (DeviceWord × Option ℕ)) → W (accesses machine terms h o c)
      by None = d
      by (Some a) =
          roomy (touch_of machine terms h c Nothing) (λ x. touches_with machine terms h a.0 a.1 x (console_gives a.0 a.1 x.supply)) c d
          (console a.0 a.1 (console_gives a.0 a.1 c.supply))

    closed_walk : (c : Board S) → D c → W (rests_where_closed machine terms c)
    closed_walk c d = choice (is_some c.closed || machine.flat.is_stopped c.at.flat) (Ends Rest c) (On c) d d

    limit_walk : (c : Board S) → D c → W (rests_at_limit machine terms h c)
    limit_walk c d = choice (is_at_limit machine terms c h) (Ends Rest c) (On c) d d

    pub steps_walk : (b : Board S) → D b → W (ways.goes (steps machine terms h) (On b))
    steps_walk b d =
        goes_walk (steps machine terms h)
        (closed_walk, (polls_walk, (yields_walk, (limit_walk, (gains_walk, (touches_walk, (limit_walk, ((λ c x. x), tt)))))))) (On b) d
