-- A hart that is told to go is told to go no less far than it stands.
use Rattle.std.proofs.Common.{◌≡◌, ℕ, zero, suc, ◌==◌, ◌||◌, max, min, Bool, true, false, List, [], ◌∷◌, map, Option, Some, None, is_some}
use Rattle.std.proofs.Common.{slice_get, slice_set, unwrap_or, refl, ap, ◌∙◌, subst, if◌then◌else◌}
use Rattle.std.proofs.lemmas.Option.{none-some, same_Some}
use Rattle.shared_types.proofs.Lists.{bound_to}
use Rattle.rv_words.specs.declared.shared.Mode.{Mode}
use Rattle.rv_words.specs.declared.shared.Input.TheVariants.{Nothing}
use Rattle.rv_words.specs.declared.shared.Cause.TheVariants as causes
use Rattle.rv_words.specs.declared.shared.DeviceWord.{DeviceWord}
use Rattle.outside.specs.declared.console.Asked.{Asked}
use Rattle.device_board.specs.Recording.{recorded_input}
use Rattle.log_entry.specs.declared.log.Entry.{Entry}
use Rattle.turn_model.specs.Recordable.{Recordable}
use Rattle.turn_model.specs.Board.{Board, Order, Go, Rest, Supply, Terms, count, harts, stream, wanted, closes, is_at_limit}
use Rattle.turn_model.specs.Claims.{holds_so, kept_by, needed}
use Rattle.turn_model.specs.Ways.{Way, On, Ends, Nowhere, on, has_room, with_room, entered}
use Rattle.turn_model.specs.Ways as ways
use Rattle.turn_model.specs.Steps.{commits, next_poll, passes_favour, console_gives, clock_gives, clock_answers, rests_where_closed, rests_at_limit}
use Rattle.turn_model.specs.Steps.{is_due, poll_at, polls_with, polls, yield_of, yields_now, yields_for, yields_to, yields, gain_of, gains_unless, gains_page}
use Rattle.turn_model.specs.Steps.{gains, touch_of, touched, touches_at, touches_with, accesses, touches, steps}
use Rattle.turn_model.specs.Turn.{turn, ended_by}

module _ {S V : Type 0} (machine : Recordable S V) (terms : Terms) (h : ℕ) where
  -- how far it is told to go
  abbrev pub Told : Order → Board S → Type 0
  Told (Go until) c = until ≡ min terms.limit (next_poll (count machine terms c h) (stream c h))
  Told order c = Unit {0}

  abbrev W : Way S → Type 0
  W (Ends order c) = Told order c
  W way = Unit {0}

  abbrev AllWalk : List (Board S → Way S) → Type 0
  AllWalk [] = Unit {0}
  AllWalk (step ∷ steps) = ((c : Board S) → W (step c)) × AllWalk steps

  goes_walk : (steps : List (Board S → Way S)) → AllWalk steps → (way : Way S) → W way → W (ways.goes steps way)
  goes_walk [] all way w = w
  goes_walk (step ∷ steps) all (On c) w = goes_walk steps all.1 (step c) (all.0 c)
  goes_walk (step ∷ steps) all (Ends order c) w = w
  goes_walk (step ∷ steps) all Nowhere w = tt

  mapped_walk : {A : Type 0} (f : A → Board S → Way S) → ((a : A) (c : Board S) → W (f a c)) → (xs : List A) → AllWalk (map f xs)
  mapped_walk f all [] = tt
  mapped_walk f all (x ∷ xs) = (all x, mapped_walk f all xs)

  choice : (p : Bool) (v w : Way S) → W v → W w → W (if p then v else w)
  choice true v w x y = x
  choice false v w x y = y

  once : (o : Option (Board S)) → W (on o)
  once None = tt
  once (Some c) = tt

  roomy : (e : Entry) (step : Board S → Way S) (c : Board S) → W (step c) → W (with_room machine terms e step c)
  roomy e step c w = choice (has_room machine terms e c) (step c) (Ends Rest (closes causes.Full c)) w tt

  polls_walk : (c : Board S) → W (polls machine terms h c)
  polls_walk c =
      choice (is_due machine terms h c) (with_room machine terms (poll_at machine terms h c 0)
      (λ d. polls_with machine terms h d (clock_answers d.supply.times d.supply)) c) (On c)
      (roomy (poll_at machine terms h c 0) (λ d. polls_with machine terms h d (clock_answers d.supply.times d.supply)) c
      (by (clock_answers c.supply.times c.supply))) tt
    where
      by : (o : Option (ℕ × Supply)) → W (polls_with machine terms h c o)
      by None = tt
      by (Some r) = once (entered machine terms h (poll_at machine terms h c (max r.0 (machine.flat.time c.at.flat))) (record c { supply = r.1 }))

  yields_walk : (b : Board S) → W (yields machine terms h b)
  yields_walk b = goes_walk (map (yields_to machine terms h) (harts b)) (mapped_walk (yields_to machine terms h) to (harts b)) (On b) tt where
    for : (g : ℕ) (c : Board S) (w : Option (ℕ × Mode)) → W (yields_for machine terms h g w c)
    for g c None = tt
    for g c (Some n) =
        choice (yields_now machine terms h g n c)
        (with_room machine terms (yield_of machine terms h n c) (λ d. on (entered machine terms h (yield_of machine terms h n d) d)) c) (On c)
        (roomy (yield_of machine terms h n c) (λ d. on (entered machine terms h (yield_of machine terms h n d) d)) c
        (once (entered machine terms h (yield_of machine terms h n c) c))) tt

    to : (g : ℕ) (c : Board S) → W (yields_to machine terms h g c)
    to g c = choice (g == h) (On c) (yields_for machine terms h g (wanted c g) c) tt (for g c (wanted c g))

  gains_walk : (b : Board S) → W (gains machine terms h b)
  gains_walk b =
      goes_walk (map (gains_page machine terms h) (needed machine terms b h)) (mapped_walk (gains_page machine terms h) page (needed machine terms b h))
      (On b) tt
    where
      unless : (n : ℕ × Mode) (c : Board S) (o : Option ℕ) → W (gains_unless machine terms o h n c)
      unless n c None =
          roomy (gain_of machine terms h n c) (λ d. on (entered machine terms h (gain_of machine terms h n d) d)) c
          (once (entered machine terms h (gain_of machine terms h n c) c))
      unless n c (Some g) = tt

      page : (n : ℕ × Mode) (c : Board S) → W (gains_page machine terms h n c)
      page n c = choice (holds_so c h n) (On c) (gains_unless machine terms (kept_by c h n) h n c) tt (unless n c (kept_by c h n))

  touches_walk : (c : Board S) → W (touches machine terms h c)
  touches_walk c = by (machine.access c.at.flat h) where
    after : (o : Option (Board S)) → W (touched machine terms h o)
    after None = tt
    after (Some d) =
        choice (machine.flat.is_stopped d.at.flat) (Ends Rest (closes causes.Stop d)) (On (if h == d.favoured then passes_favour h d else d)) tt tt

    clock : (word : DeviceWord) (store : Option ℕ) (answer : Asked) (o : Option (ℕ × Supply)) → W (touches_at machine terms h word store answer c o)
    clock word store answer None = tt
    clock word store answer (Some r) =
        after (entered machine terms h (touch_of machine terms h c (recorded_input word store (machine.flat.time c.at.flat) r.0 answer))
        (record c { supply = r.1 }))

    console : (word : DeviceWord) (store : Option ℕ) (o : Option (Asked × Supply)) → W (touches_with machine terms h word store c o)
    console word store None = tt
    console word store (Some r) = clock word store r.0 (clock_gives word store r.1)

    by : (o : Option (DeviceWord × Option ℕ)) → W (accesses machine terms h o c)
    by None = tt
    by (Some a) =
        roomy (touch_of machine terms h c Nothing) (λ d. touches_with machine terms h a.0 a.1 d (console_gives a.0 a.1 d.supply)) c
        (console a.0 a.1 (console_gives a.0 a.1 c.supply))

  closed_walk : (c : Board S) → W (rests_where_closed machine terms c)
  closed_walk c = choice (is_some c.closed || machine.flat.is_stopped c.at.flat) (Ends Rest c) (On c) tt tt

  limit_walk : (c : Board S) → W (rests_at_limit machine terms h c)
  limit_walk c = choice (is_at_limit machine terms c h) (Ends Rest c) (On c) tt tt

  steps_walk : AllWalk (steps machine terms h)
  steps_walk = (closed_walk, (polls_walk, (yields_walk, (limit_walk, (gains_walk, (touches_walk, (limit_walk, ((λ c. refl), tt))))))))

  -- the order that stands there
  order_there : (orders : List (Option Order)) (g : ℕ) (order told : Order)
      → unwrap_or (slice_get (slice_set orders g (Some order)) g) None ≡ Some told → order ≡ told
  order_there [] g order told is = absurd (none-some _ is)
  order_there (o ∷ orders) zero order told is = same_Some _ _ is
  order_there (o ∷ orders) (suc g) order told is = order_there orders g order told is

  pub turn_tells : (n until : ℕ) (b d : Board S) → turn machine terms h n b ≡ Some d → unwrap_or (slice_get d.orders h) None ≡ Some (Go until)
      → until ≡ min terms.limit (next_poll (count machine terms d h) (stream d h))
  turn_tells n until b d is told =
      let c = bound_to (λ c. ended_by h n b (ways.goes (steps machine terms h) (On c))) (commits machine terms h n b) d is in
      by (ways.goes (steps machine terms h) (On c.0)) (goes_walk (steps machine terms h) steps_walk (On c.0) tt) c.2
    where
      by : (way : Way S) → W way → ended_by h n b way ≡ Some d → Told (Go until) d
      by (On e) w ended = absurd (none-some _ ended)
      by Nowhere w ended = absurd (none-some _ ended)
      by (Ends order e) w ended =
          let same = same_Some _ _ ended in
          let go : order ≡ Go until =
          order_there e.orders h order (Go until) (ap (λ (x : Board S). unwrap_or (slice_get x.orders h) None) same ∙ told) in
          subst (λ (x : Board S). Told (Go until) x) same (subst (λ o. Told o e) go w)
