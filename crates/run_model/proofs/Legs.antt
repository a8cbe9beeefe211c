-- Moves one after another are a leg.
use Rattle.std.proofs.Common.{◌≡◌, ◌≢◌, ℕ, zero, suc, ◌%◌, ◌<◌, ◌≤◌, Bool, [], ◌∷◌, Option, Some, None, find, slice_get, unwrap_or, refl, sym, ap}
use Rattle.std.proofs.Common.{ap₂, ◌∙◌, subst, arith}
use Rattle.std.specs.Prelude.{is_some}
use Rattle.std.specs.Option.{option_map}
use Rattle.rv_words.specs.declared.shared.Access.{Access}
use Rattle.rv_words.specs.declared.shared.Mode.{Mode}
use Rattle.rv_words.specs.declared.shared.Mode.TheVariants.{Write}
use Rattle.rv_words.specs.Memory.{low_bytes, put}
use Rattle.rv_hart.specs.Moves.{written, need_of}
use Rattle.rv_hart.specs.Needs.{page_at}
use Rattle.rv_hart.specs.declared.effect.Wrote.{Wrote}
use Rattle.rv_hart.specs.declared.effect.Wrote.TheVariants as wrote
use Rattle.guest_pages.specs.Pages.{bytes_of}
use Rattle.flat_machine.specs.State.{FlatState}
use Rattle.flat_machine.specs.Moves.{place_in_memory}
use Rattle.replay_model.specs.Flat.{Flat}
use Rattle.replay_model.specs.Board.{board, hart_access}
use Rattle.order_rules.specs.Holders.{held}
use Rattle.replay_model.specs.Items.{Verdict, Move, CanGo, verdict_on, made, judged}
use Rattle.replay_model.specs.State.{Replay, want, IsCrewState}
use Rattle.run_model.specs.Run.{Run, hold_of, word_of, move_held, loaded_held, stored_in, moved_by, ahead_of, AheadAt, IsOneRun}
use Rattle.run_model.specs.Agreement.{Agrees, Asks, after_move}
use Rattle.run_model.specs.Legs.{Runs, IsPause, DifferFor, KeepsPages, HasLed, MakesLeg}
use Rattle.run_model.specs.declared.asked.Ahead.TheVariants.{Free}
use Rattle.run_model.specs.declared.asked.Pause.{Pause}
use Rattle.run_model.specs.declared.asked.Pause.TheVariants as pause
use Rattle.run_model.proofs.Sight.{ahead_agrees}
use Rattle.shared_types.proofs.Lists.{set_there}
use Rattle.std.proofs.lemmas.Option.{get_or_from_slice_get}
use Rattle.run_model.proofs.Moves.{WriteHeld, write_by, same_board, there_by, free_data, move_made, can_go}
use Rattle.run_model.proofs.AfterMove.{agrees_after, differ_after, crew_after, stored_unit, stored_length}

module _ {S V : Type 0} (flat : Flat S V) where
  -- one Run more, at the end
  pub runs_more : (h n : ℕ) (s m t : Replay S) → Runs flat h n s m → verdict_on flat m h Move ≡ CanGo → made flat m h Move ≡ Some t → Runs flat h (suc n) s t
  runs_more h zero s m t e v is = (subst (λ z. verdict_on flat z h Move ≡ CanGo) (sym e) v, (t, subst (λ z. made flat z h Move ≡ Some t) (sym e) is, refl))
  runs_more h (suc n) s m t (v, (k, is, rest)) w to = (v, (k, is, runs_more h n k m t rest w to))

pub led_nowhere : (r : Run) (h : ℕ) (s : Replay FlatState) → IsCrewState (board r.frames.unit) s → Agrees r h s → HasLed r.frames.unit r h s
led_nowhere r h s crew a =
    record {
      unit_is = refl;
      at = s;
      moves = zero;
      runs = refl;
      others = record { harts = λ g n. refl; counts = λ g n. refl; pages = λ page n. refl; devices = refl; holders = refl; cursor = refl };
      crew = crew;
      agrees = a;
    }

differ_further : (unit h : ℕ) (s m t : Replay FlatState) → DifferFor unit h s m → DifferFor unit h m t → DifferFor unit h s t
differ_further unit h s m t d e =
    record {
      harts = λ g n. e.harts g n ∙ d.harts g n;
      counts = λ g n. e.counts g n ∙ d.counts g n;
      pages = λ page n. e.pages page (λ w. n (ap (λ z. held z page h) (sym d.holders) ∙ w)) ∙ d.pages page n;
      devices = e.devices ∙ d.devices;
      holders = e.holders ∙ d.holders;
      cursor = e.cursor ∙ d.cursor;
    }

pub led_further : (unit : ℕ) (r : Run) (h : ℕ) (s : Replay FlatState) → HasLed unit r h s → IsOneRun r → ahead_of r ≡ Free
    → HasLed unit (moved_by r (move_held r)) h s
led_further unit r h s led one f =
    let is = led.unit_is in
    let crew : IsCrewState (board r.frames.unit) led.at = subst (λ u. IsCrewState (board u) led.at) (sym is) led.crew in
    record {
      unit_is = stored_unit r.frames (written (move_held r) (loaded_held r (need_of (move_held r)))) ∙ is;
      at = after_move r h led.at;
      moves = suc led.moves;
      runs = runs_more (board unit) h led.moves s led.at (after_move r h led.at) led.runs
          (subst (λ u. verdict_on (board u) led.at h Move ≡ CanGo) is (can_go r h led.at led.agrees f))
          (subst (λ u. made (board u) led.at h Move ≡ Some (after_move r h led.at)) is (move_made r h led.at led.agrees f));
      others = differ_further unit h s led.at (after_move r h led.at) led.others
          (subst (λ u. DifferFor u h led.at (after_move r h led.at)) is (differ_after r h led.at led.agrees one crew f));
      crew = subst (λ u. IsCrewState (board u) (after_move r h led.at)) is (crew_after r h led.at led.agrees one crew f);
      agrees = agrees_after r h led.at led.agrees one f;
    }

count_is : (unit : ℕ) (r : Run) (h : ℕ) (s : Replay FlatState) → Agrees r h s → (board unit).count s.flat h ≡ r.count
count_is unit r h s a = get_or_from_slice_get s.flat.counts h r.count 0 a.count

abbrev verdict_by : ℕ → Option (ℕ × Mode) → Option Access → Verdict
verdict_by unit w access = judged (board unit) (option_map (λ (t : ℕ × Bool). t.0) (find (λ (t : ℕ × Bool). t.1) ((1, is_some w) ∷ (2, is_some access) ∷ [])))

wants_stops : (unit : ℕ) (w : Option (ℕ × Mode)) (access : Option Access) (n : ℕ × Mode) → w ≡ Some n → verdict_by unit w access ≢ CanGo
wants_stops unit w access n e go = let stuck = ap (λ o. verdict_by unit o access) e in let bad : ⊥ = cc in absurd bad

device_stops : (unit : ℕ) (w : Option (ℕ × Mode)) (access : Option Access) (at : Access) → w ≡ None → access ≡ Some at → verdict_by unit w access ≢ CanGo
device_stops unit w access at e f go = let stuck = ap₂ (verdict_by unit) e f in let bad : ⊥ = cc in absurd bad

abbrev Pauses : ℕ → ℕ → ℕ → Replay FlatState → Pause → Type 0
Pauses unit h until s p = IsPause unit h until s p × ((board unit).count s.flat h < until → verdict_on (board unit) s h Move ≢ CanGo)

pauses_by : (r : Run) (h until : ℕ) (s : Replay FlatState) (p : Pause) → Agrees r h s → AheadAt r until p → Pauses r.frames.unit h until s p
pauses_by r h until s pause.Due a ahead =
    (count_is r.frames.unit r h s a ∙ ahead, λ l. let c = count_is r.frames.unit r h s a in absurd (omega (arith, c, ahead, l)))
pauses_by r h until s (pause.Wants page mode) a ahead =
    let u = r.frames.unit in
    let c = count_is r.frames.unit r h s a in
    let below : (board r.frames.unit).count s.flat h < until = omega (arith, c, ahead.0) in
    let wants : want (board r.frames.unit) s h ≡ Some (page, mode) =
    subst (λ o. Asks (want (board r.frames.unit) s h) (hart_access s.flat h) o) ahead.1 (ahead_agrees r h s a) in
    ((below, wants), λ l. wants_stops r.frames.unit (want (board r.frames.unit) s h) (hart_access s.flat h) (page, mode) wants)
pauses_by r h until s (pause.AtDevice access) a ahead =
    let c = count_is r.frames.unit r h s a in
    let below : (board r.frames.unit).count s.flat h < until = omega (arith, c, ahead.0) in
    let asks : (want (board r.frames.unit) s h ≡ None) × (hart_access s.flat h ≡ Some access) =
    subst (λ o. Asks (want (board r.frames.unit) s h) (hart_access s.flat h) o) ahead.1 (ahead_agrees r h s a) in
    ((below, asks.0, asks.1), λ l. device_stops r.frames.unit (want (board r.frames.unit) s h) (hart_access s.flat h) access asks.0 asks.1)

pub makes_leg : (unit : ℕ) (r : Run) (h until : ℕ) (s : Replay FlatState) (p : Pause) → HasLed unit r h s → r.count ≤ until → AheadAt r until p
    → MakesLeg unit r p h until s
makes_leg unit r h until s p led l ahead =
    let both = subst (λ u. Pauses u h until led.at p) led.unit_is (pauses_by r h until led.at p led.agrees ahead) in
    let c = count_is unit r h led.at led.agrees in
    record {
      at = led.at;
      leg = record { moves = led.moves; runs = led.runs; within = omega (arith, c, l); ends = both.1 };
      pauses = both.0;
      others = led.others;
      crew = led.crew;
      agrees = led.agrees;
    }

frame_kept : (r : Run) (w : Wrote) (page : ℕ) → WriteHeld r w → hold_of r page ≢ Some Write → bytes_of (stored_in r.frames w) page ≡ bytes_of r.frames page
frame_kept r wrote.Nothing page held n = refl
frame_kept r (wrote.Bytes at size value) page held n =
    ap (λ o. unwrap_or o []) (set_there r.frames.pages (page_at r.frames.unit at) page
    (put (bytes_of r.frames (page_at r.frames.unit at)) (place_in_memory at % r.frames.unit) (low_bytes size value)) (λ e. n (ap (hold_of r) e ∙ held.1)))

pub keeps_all : (r : Run) → KeepsPages r r
keeps_all r = record { held = refl; unit_is = refl; number = refl; board = (refl, refl); frames = λ page n. refl }

pub keeps_further : (old r : Run) → KeepsPages old r → ahead_of r ≡ Free → KeepsPages old (moved_by r (move_held r))
keeps_further old r k f =
    let w : Wrote = written (move_held r) (loaded_held r (need_of (move_held r))) in
    let same = same_board r.hart (move_held r) (loaded_held r (need_of (move_held r))) in
    record {
      held = k.held;
      unit_is = stored_unit r.frames w ∙ k.unit_is;
      number = stored_length r.frames w ∙ k.number;
      board = (same.0 ∙ k.board.0, same.1 ∙ k.board.1);
      frames = λ page n.
          frame_kept r w page (write_by r (move_held r) (loaded_held r (need_of (move_held r))) (there_by r.hart (word_of r)) (free_data r f))
          (λ e. n (ap (λ z. unwrap_or (slice_get z page) None) (sym k.held) ∙ e))
          ∙ k.frames page n;
    }
