-- A run advances its hart's part, and has the part's unit and number.
use Rattle.std.proofs.Common.{◌≡◌, ℕ, zero, suc, ◌*◌, ◌/◌, ◌<◌, ◌≤◌, List, [], ◌∷◌, length, Option, Some, None, refl, sym, ap, ap₂, ◌∙◌, subst, arith}
use Rattle.std.proofs.lemmas.Option.{get_or_from_slice_get, same_Some, slice_get_within}
use Rattle.std.proofs.Math.Nat.{mul-div_cancel_left}
use Rattle.rv_words.specs.Limits.{page_bytes}
use Rattle.log_entry.specs.declared.log.Log.{Log}
use Rattle.log_entry.specs.Parts.{unit_of, units_of}
use Rattle.orders_law.specs.Orders.{Leads}
use Rattle.flat_machine.specs.State.{FlatState}
use Rattle.flat_machine.specs.Acts.{next}
use Rattle.flat_machine.specs.declared.act.Act.{Act}
use Rattle.flat_machine.specs.declared.act.Act.TheVariants as act
use Rattle.flat_machine.specs.declared.results.Step.{Step}
use Rattle.replay_model.specs.Board.{board}
use Rattle.replay_model.specs.State.{Replay}
use Rattle.replay_model.specs.Items.{step}
use Rattle.run_model.specs.Run.{Run, number_of}
use Rattle.run_model.specs.Numbers.{AreNumbered}
use Rattle.run_model.specs.Legs.{Runs, DifferFor}
use Rattle.run_model.proofs.Numbers.{numbered_first, numbers_kept}
use Rattle.shared_types.proofs.Lists.{mapped}
use Rattle.replay_law.specs.Laws.{first_replay}
use Rattle.replay_law.proofs.Progress.{Going}
use Rattle.replay_law.proofs.Steps.{act_of, flat_after, step_went}
use Rattle.replay_law.proofs.Views.{shape_of}
use Rattle.replay_parts.specs.Boards.{Plain, state_of}
use Rattle.replay_parts.specs.Laws.{LegsAdvance, PartsAreNumbered, PartsHaveUnit, PartsUnmoved, Reaches}
use Rattle.replay_parts.specs.Parts.{IsPart, until_by}
use Rattle.replay_parts.proofs.Turned.{reached_goes}
use Rattle.replay_parts.proofs.Within.{states_are}

-- pages of a log's number, of which the memory is made, are of its unit
pub log_unit : (log : Log) (n size u : ℕ) → 1 ≤ log.pages → n ≡ units_of log → size ≡ n * u → size ≡ page_bytes * log.pages → u ≡ unit_of log
log_unit log n size u some n_is sized whole =
    let there : 0 < n = omega (arith, some, n_is) in
    sym (mul-div_cancel_left u {n = n} there)
    ∙ ap (λ k. k / n) (sym sized ∙ whole ∙ sym (shape_of log).whole ∙ ap (λ k. k * unit_of log) (sym n_is))
    ∙ mul-div_cancel_left (unit_of log) {n = n} there

-- the state of a board, as one that was reached
pub goes_there : (p : Plain) (s : Replay FlatState) → (r : Reaches p s) → Going p.log p.image r.replayable (state_of p)
goes_there p s r = subst (Going p.log p.image r.replayable) (sym (states_are p s r)) (reached_goes p s r)

pub parts_have_unit : PartsHaveUnit
parts_have_unit p s h run r part =
    let sound = (goes_there p s r).good.sound in
    let least = r.replayable.whole.least_pages in
    let pages = r.replayable.pages in
    log_unit p.log (length run.frames.pages) (length (state_of p).flat.memory) run.frames.unit (omega (arith, least, pages)) (sym part.table ∙ sound.table)
    part.memory sound.sized.memory_size

-- a part's hart is one of the log
inside : (p : Plain) (s : Replay FlatState) (h : ℕ) (run : Run) → Reaches p s → IsPart p h run → h < length p.log.streams
inside p s h run r part =
    let l = slice_get_within (state_of p).flat.harts h run.hart part.hart in
    let size = (goes_there p s r).good.sound.sized.harts_size in
    omega (arith, l, size)

pub parts_unmoved : PartsUnmoved
parts_unmoved p s h run r part =
    let behind = (goes_there p s r).behind h (inside p s h run r part) in
    let most = behind.count in
    let own = get_or_from_slice_get (state_of p).flat.counts h run.count 0 part.count in
    let until = ap (until_by ((board (unit_of p.log)).count (state_of p).flat h)) behind.first in
    record {
      led = record {
        at = state_of p;
        runs = refl;
        differ =
            record { harts = λ g other. refl; counts = λ g other. refl; pages = λ page free. refl; devices = refl; holders = refl; cursor = refl };
        memory = refl;
        agrees = part;
      };
      within = omega (arith, most, own, until);
    }

pub legs_advance : LegsAdvance
legs_advance p s h until run after pause r part keeps leg within =
    let unit = parts_have_unit p s h run r part in
    let now = get_or_from_slice_get leg.at.flat.counts h after.count 0 leg.agrees.count in
    let most = leg.leg.within in
    record {
      led = record {
        at = leg.at;
        runs = subst (λ u. Runs (board u) h leg.leg.moves (state_of p) leg.at) unit leg.leg.runs;
        differ = subst (λ u. DifferFor u h (state_of p) leg.at) unit leg.others;
        memory = leg.agrees.memory ∙ ap₂ (λ k u. k * u) keeps.number keeps.unit_is ∙ sym part.memory;
        agrees = leg.agrees;
      };
      within = omega (arith, now, most, within);
    }

-- acts leave each hart its number, so items do
numbers_after : (log : Log) (s t : Replay FlatState) (o : Option Act) → AreNumbered s.flat → flat_after (board (unit_of log)) s.flat o ≡ Some t.flat
    → AreNumbered t.flat
numbers_after log s t None are is = subst AreNumbered (same_Some _ _ is) are
numbers_after log s t (Some act) are is = numbers_kept s.flat t.flat act are is

numbers_along : (log : Log) (s t : Replay FlatState) (xs : List (ℕ × Option (List Step))) → AreNumbered s.flat
    → Leads (step (board (unit_of log)) log) s xs t → AreNumbered t.flat
numbers_along log s t [] are leads = subst (λ (x : Replay FlatState). AreNumbered x.flat) leads are
numbers_along log s t (x ∷ xs) are leads =
    let w = step_went (board (unit_of log)) log s leads.0 x.0 x.1 leads.1 in
    numbers_along log leads.0 t xs (numbers_after log s leads.0 (act_of (board (unit_of log)) s x.0 w.item) are w.flat_is) leads.2

-- and Runs
numbers_led : (u h n : ℕ) (s t : Replay FlatState) → AreNumbered s.flat → Runs (board u) h n s t → AreNumbered t.flat
numbers_led u h zero s t are runs = subst (λ (x : Replay FlatState). AreNumbered x.flat) runs are
numbers_led u h (suc n) s t are runs =
    let m = mapped (λ (f : FlatState). record s { flat = f }) (next (act.Run h) s.flat) runs.1.0 runs.1.1 in
    let first : AreNumbered runs.1.0.flat = subst (λ (x : Replay FlatState). AreNumbered x.flat) m.2 (numbers_kept s.flat m.0 (act.Run h) are m.1) in
    numbers_led u h n runs.1.0 t first runs.1.2

pub parts_are_numbered : PartsAreNumbered
parts_are_numbered p s h n run r part =
    let first = numbered_first p.image (length p.log.streams) in
    let there = numbers_along p.log (first_replay p.log p.image) s r.obeys.0 first r.obeys.2 in
    numbers_led (unit_of p.log) h n (state_of p) part.led.at (subst (λ (x : Replay FlatState). AreNumbered x.flat) (sym (states_are p s r)) there)
    part.led.runs h
    run.hart part.led.agrees.hart

pub part_number : (p : Plain) (s : Replay FlatState) (h : ℕ) (run : Run) → Reaches p s → IsPart p h run → number_of run ≡ h
part_number p s h run r part = parts_are_numbered p s h 0 run r (parts_unmoved p s h run r part)
