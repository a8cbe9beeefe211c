-- A turn commits more, or nothing.
use Rattle.std.proofs.Common.{◌≡◌, inl, inr, ℕ, ◌+◌, List, [], ◌∷◌, length, Option, slice_set, slice_index, sym, ap, ap₂, ◌∙◌, subst, arith}
use Rattle.std.proofs.lemmas.Bool.{cases_lt}
use Rattle.std.proofs.lemmas.List.{set-get_or}
use Rattle.log_entry.specs.declared.log.Log.{Log}
use Rattle.log_entry.specs.Parts.{unit_of}
use Rattle.orders_law.specs.Orders.{Leads, total}
use Rattle.flat_machine.specs.State.{FlatState}
use Rattle.flat_machine.specs.declared.results.Step.{Step}
use Rattle.replay_model.specs.Board.{board}
use Rattle.replay_model.specs.State.{Replay}
use Rattle.replay_model.specs.Items.{step}
use Rattle.run_model.specs.Legs.{Runs}
use Rattle.replay_parts.specs.Laws.{TurnsRise}
use Rattle.replay_parts.specs.Turns.{committed}
use Rattle.replay_parts.proofs.Led.{runs_count}
use Rattle.replay_parts.proofs.Turned.{entries_led, leg_led, reached_goes, turns_reach}
use Rattle.replay_parts.proofs.Within.{all_done, count_in, states_are}

-- no items lead nowhere
no_items : (log : Log) (s t : Replay FlatState) (xs : List (ℕ × Option (List Step))) → length xs ≡ 0 → Leads (step (board (unit_of log)) log) s xs t → s ≡ t
no_items log s t [] none leads = leads
no_items log s t (x ∷ xs) none leads = absurd (omega (arith, none))

pub turns_rise : TurnsRise
turns_rise old new s h n told r inside turn =
    let leg = leg_led old new s h n told r inside turn in
    let rest = entries_led old new s h n told r inside turn in
    let going = reached_goes old s r in
    let reach = turns_reach old new s h n told r inside turn in
    let one = all_done old.log old.image r.replayable s turn.led leg.made going leg.leads in
    let two = all_done old.log old.image r.replayable turn.led turn.at rest.made leg.going rest.leads in
    let places = ap total r.places in
    let counts = ap total r.counts in
    let then_places = ap total reach.places in
    let then_counts = ap total reach.counts in
    elim (cases_lt (total old.places + total old.counts) (total new.places + total new.counts)) [
      | inl less ↦ inl less
      | inr least ↦
          let led_is : s ≡ turn.led =
          no_items old.log s turn.led leg.made (omega (arith, least, one, two, places, counts, then_places, then_counts)) leg.leads in
          let at_is : turn.led ≡ turn.at =
          no_items old.log turn.led turn.at rest.made (omega (arith, least, one, two, places, counts, then_places, then_counts)) rest.leads in
          let counted =
          runs_count (unit_of old.log) h n s turn.led
          (let wide = going.good.sound.sized.harts_size in let size = going.good.sound.sized.counts_size in omega (arith, inside, wide, size))
          (subst (λ z. Runs (board (unit_of old.log)) h n z turn.led) (states_are old s r) turn.leg) in
          let stood = ap (λ z. count_in z h) led_is in
          inr (
            omega (arith, counted, stood),
            turn.committed_is ∙ ap (committed old h) (sym (led_is ∙ at_is))
                ∙ ap₂ (λ ps cs. record { log = old.log; image = old.image; places = ps; counts = cs })
                (ap (λ ps. slice_set old.places h (slice_index ps h)) r.places
                ∙ set-get_or old.places h 0)
                (ap (λ cs. slice_set old.counts h (slice_index cs h)) r.counts ∙ set-get_or old.counts h 0),
          )
    ]
