-- What a turn leads to, and what it leaves.
use Rattle.std.proofs.Common.{◌≡◌, ◌≢◌, inl, inr, ℕ, ◌<◌, ◌≤◌, ◌++◌, List, [], ◌∷◌, map, length, Option, Some}
use Rattle.std.proofs.Common.{slice_get, slice_set, slice_index, refl, sym, ap, ap₂, ◌∙◌, subst, arith}
use Rattle.std.specs.Prelude.{slice_index_or}
use Rattle.std.proofs.lemmas.Bool.{cases_eq}
use Rattle.std.proofs.lemmas.List.{ext_get_or, length-set}
use Rattle.std.proofs.lemmas.Option.{get_or_from_slice_get, slice_get-get_or}
use Rattle.elf_image.specs.Image.{Image}
use Rattle.rv_words.specs.declared.shared.Mode.{Mode}
use Rattle.rv_hart.specs.State.{Hart}
use Rattle.rv_hart.specs.Moves.{hart_at_start}
use Rattle.log_entry.specs.declared.log.Log.{Log}
use Rattle.log_entry.specs.Parts.{unit_of}
use Rattle.orders_law.specs.Orders.{Leads}
use Rattle.orders_law.proofs.Leads.{leads_on}
use Rattle.order_rules.specs.Places.{entry_at}
use Rattle.flat_machine.specs.State.{FlatState}
use Rattle.flat_machine.specs.declared.results.Step.{Step}
use Rattle.replay_model.specs.Board.{board}
use Rattle.replay_model.specs.State.{Replay}
use Rattle.replay_model.specs.Items.{step}
use Rattle.run_model.specs.Run.{Run}
use Rattle.run_model.specs.Agreement.{Agrees}
use Rattle.run_model.specs.Legs.{Runs}
use Rattle.shared_types.proofs.Lists.{set_here, set_there}
use Rattle.replay_law.specs.Laws.{IsReplayable, first_replay}
use Rattle.replay_law.proofs.Progress.{Going, going_first, going_lasts}
use Rattle.replay_law.proofs.Views.{shape_of, view, view_agrees}
use Rattle.replay_parts.specs.Boards.{Plain, state_of}
use Rattle.replay_parts.specs.Laws.{PartsStay, Reaches, RunsGoOn, TurnsReach}
use Rattle.run_model.specs.PagesHeld.{pages_in}
use Rattle.run_model.proofs.PagesHeld.{pages_are}
use Rattle.replay_parts.specs.Parts.{Part, part_in, until_by, until_in}
use Rattle.replay_parts.specs.Turns.{IsTurn, Told, committed}
use Rattle.replay_parts.proofs.Led.{Led, led_by_entries, led_by_runs}
use Rattle.replay_parts.proofs.Within.{count_in, place_of, states_are}

-- an order leads on to states that go on
going_along : (log : Log) (image : Image) (is : IsReplayable log image) (s t : Replay FlatState) (xs : List (ℕ × Option (List Step))) → Going log image is s
    → Leads (step (board (unit_of log)) log) s xs t → Going log image is t
going_along log image is s t [] going leads = subst (Going log image is) leads going
going_along log image is s t (x ∷ xs) going leads =
    going_along log image is leads.0 t xs (going_lasts log image is s leads.0 x.0 x.1 going leads.1) leads.2

pub reached_goes : (p : Plain) (s : Replay FlatState) → (r : Reaches p s) → Going p.log p.image r.replayable s
reached_goes p s r =
    going_along p.log p.image r.replayable (first_replay p.log p.image) s r.obeys.0 (going_first p.log p.image r.replayable) r.obeys.2

-- one number of a list is another, and the rest as they were
one_set : (xs ys : List ℕ) (h : ℕ) → length ys ≡ length xs → ((g : ℕ) → g ≢ h → slice_index ys g ≡ slice_index xs g) → h < length xs
    → ys ≡ slice_set xs h (slice_index ys h)
one_set xs ys h long others l =
    ext_get_or 0 ys (slice_set xs h (slice_index ys h)) (long ∙ sym (length-set xs h (slice_index ys h))) (λ g m. elim (cases_eq g h) [
      | inl same ↦ ap (slice_index ys) same ∙ sym (ap (slice_index (slice_set xs h (slice_index ys h))) same
          ∙ get_or_from_slice_get (slice_set xs h (slice_index ys h)) h (slice_index ys h) 0 (set_here xs h (slice_index ys h) l))
      | inr n ↦
          let inside : g < length xs = omega (arith, m, long) in
          others g n
          ∙ sym (get_or_from_slice_get (slice_set xs h (slice_index ys h)) g (slice_index xs g) 0
          (set_there xs h g (slice_index ys h) n ∙ slice_get-get_or xs g 0 inside))
    ])

-- a turn of a board that stands for a state
module _ (old new : Plain) (s : Replay FlatState) (h n : ℕ) (told : Told) (r : Reaches old s) (inside : h < length old.log.streams)
    (turn : IsTurn old new h n told) where
  going : Going old.log old.image r.replayable s
  going = reached_goes old s r

  from : state_of old ≡ s
  from = states_are old s r

  pub leg_led : Led old.log old.image r.replayable s turn.led h
  leg_led =
      let b = going.behind h inside in
      let size = going.good.sound.sized.counts_size in
      let wide = going.good.sound.sized.harts_size in
      led_by_runs old.log old.image r.replayable n h s turn.led b.entry going (omega (arith, size, wide, inside)) b.first
      (subst (λ k. count_in turn.led h ≤ k) (ap (λ z. until_in old.log z h) from ∙ ap (until_by (count_in s h)) b.first) turn.within)
      (subst (λ z. Runs (board (unit_of old.log)) h n z turn.led) from turn.leg)

  pub entries_led : Led old.log old.image r.replayable turn.led turn.at h
  entries_led = led_by_entries old.log old.image r.replayable turn.entries h turn.led turn.at leg_led.going turn.makes

  made : List (ℕ × Option (List Step))
  made = r.obeys.0 ++ (leg_led.made ++ entries_led.made)

  there : Leads (step (board (unit_of old.log)) old.log) (first_replay old.log old.image) (r.obeys.0 ++ (leg_led.made ++ entries_led.made)) turn.at
  there =
      leads_on (step (board (unit_of old.log)) old.log) (first_replay old.log old.image) s turn.at r.obeys.0 (leg_led.made ++ entries_led.made) r.obeys.2
      (leads_on (step (board (unit_of old.log)) old.log) s turn.led turn.at leg_led.made entries_led.made leg_led.leads entries_led.leads)

  places_there : (g : ℕ) → g ≢ h → place_of turn.at g ≡ slice_index old.places g
  places_there g other = entries_led.places g other ∙ leg_led.places g other ∙ ap (λ ns. slice_index ns g) r.places

  counts_there : (g : ℕ) → g ≢ h → count_in turn.at g ≡ slice_index old.counts g
  counts_there g other = entries_led.counts g other ∙ leg_led.counts g other ∙ ap (λ ns. slice_index ns g) r.counts

  stands : Reaches (committed old h turn.at) turn.at
  stands =
      let places = entries_led.going.places ∙ sym going.places ∙ ap length r.places in
      let wide = entries_led.going.good.sound.sized.counts_size ∙ entries_led.going.good.sound.sized.harts_size in
      let before = going.good.sound.sized.counts_size ∙ going.good.sound.sized.harts_size in
      let counts = wide ∙ sym before ∙ ap length r.counts in
      let p = ap length r.places in
      let q = ap length r.counts in
      let many = going.places in
      record {
        replayable = r.replayable;
        order = map (λ (m : ℕ × Option (List Step)). m.0) (r.obeys.0 ++ (leg_led.made ++ entries_led.made));
        obeys = (r.obeys.0 ++ (leg_led.made ++ entries_led.made), refl, there);
        places = one_set old.places turn.at.cursor.places h places places_there (omega (arith, inside, p, many));
        counts = one_set old.counts turn.at.flat.counts h counts counts_there (omega (arith, inside, q, before));
      }

  pub turned : Reaches new turn.at
  turned = subst (λ p. Reaches p turn.at) (sym turn.committed_is) stands

pub turns_reach : TurnsReach
turns_reach old new s h n told r inside turn = turned old new s h n told r inside turn

abbrev part_in_at : Plain → ℕ → Replay FlatState → Part
part_in_at p g s = part_in p s g

-- what a hart has of two states, read off what they have of it
part_alike : (p q : Plain) (s t : Replay FlatState) (g : ℕ) → q.log ≡ p.log → q.image ≡ p.image → slice_get t.flat.harts g ≡ slice_get s.flat.harts g
    → count_in t g ≡ count_in s g → pages_in (unit_of p.log) t g ≡ pages_in (unit_of p.log) s g → place_of t g ≡ place_of s g → part_in q t g ≡ part_in p s g
part_alike p q s t g log image hart count pages place =
    ap₂ (λ (l : Log) (i : Image). part_in (record { log = l; image = i; places = q.places; counts = q.counts }) t g) log image
    ∙ ap₂ (λ (o : Option Hart) (ps : List (Option (Mode × List ℕ))). record {
      hart = o;
      count = count_in t g;
      pages = ps;
      place = place_of t g;
      until = until_in p.log t g;
      log = p.log;
      image = p.image;
    }) hart pages
    ∙ ap₂ (λ (k i : ℕ). record {
      hart = slice_get s.flat.harts g;
      count = k;
      pages = pages_in (unit_of p.log) s g;
      place = i;
      until = until_by k (entry_at p.log g i);
      log = p.log;
      image = p.image;
    }) count place

pub parts_stay : PartsStay
parts_stay old new s h g n told r inside turn there other =
    let leg = leg_led old new s h n told r inside turn in
    let rest = entries_led old new s h n told r inside turn in
    let going = reached_goes old s r in
    let wide = going.good.sound.sized.harts_size in
    let x : Hart = slice_index_or s.flat.harts g (hart_at_start 0 0 0 0) in
    let at : slice_get s.flat.harts g ≡ Some (slice_index_or s.flat.harts g (hart_at_start 0 0 0 0)) =
    slice_get-get_or s.flat.harts g (hart_at_start 0 0 0 0) (omega (arith, wide, there)) in
    let run : Run = view (shape_of old.log) s g (slice_index_or s.flat.harts g (hart_at_start 0 0 0 0)) in
    let agrees : Agrees (view (shape_of old.log) s g (slice_index_or s.flat.harts g (hart_at_start 0 0 0 0))) g s =
    view_agrees (shape_of old.log) s g (slice_index_or s.flat.harts g (hart_at_start 0 0 0 0)) going.good.sound at in
    let then : Agrees (view (shape_of old.log) s g (slice_index_or s.flat.harts g (hart_at_start 0 0 0 0))) g turn.at =
    rest.sees g run other refl (leg.sees g run other refl agrees) in
    ap (part_in_at new g) (states_are new turn.at (turned old new s h n told r inside turn))
    ∙ part_alike old new s turn.at g (ap (λ (p : Plain). p.log) turn.committed_is) (ap (λ (p : Plain). p.image) turn.committed_is)
    (then.hart ∙ sym agrees.hart) (rest.counts g other ∙ leg.counts g other)
    (pages_are (unit_of old.log) run g turn.at then refl ∙ sym (pages_are (unit_of old.log) run g s agrees refl))
    (rest.places g other ∙ leg.places g other)
    ∙ sym (ap (part_in_at old g) (states_are old s r))

pub runs_go_on : RunsGoOn
runs_go_on old new s h g n told run r inside turn other unit part =
    let leg = leg_led old new s h n told r inside turn in
    let rest = entries_led old new s h n told r inside turn in
    subst (Agrees run g) (sym (states_are new turn.at (turned old new s h n told r inside turn)))
    (rest.sees g run other unit (leg.sees g run other unit (subst (Agrees run g) (states_are old s r) part)))
