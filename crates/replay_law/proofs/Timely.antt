-- A hart that can go goes: the flat machine makes the act of its item.
use Rattle.std.proofs.Common.{◌≡◌, ℕ, ◌+◌, ◌<◌, ◌≤◌, ◌==◌, ◌||◌, not, nat_lt, Bool, true, false, cond, List, [], ◌∷◌, length, Option, Some, None}
use Rattle.std.proofs.Common.{is_some, slice_get, unwrap_or, true≢false, refl, sym, ap, ap₂, ◌∙◌, subst, arith, if◌then◌else◌}
use Rattle.std.specs.Option.{option_map, option_and_then}
use Rattle.std.proofs.lemmas.Bool.{eqb-true, le-ltb, not-false}
use Rattle.std.proofs.lemmas.Option.{same_Some, slice_get-get_or}
use Rattle.rv_hart.specs.State.{Hart}
use Rattle.rv_hart.specs.Moves.{hart_at_start, need_of}
use Rattle.device_board.specs.State.{Devices, with_time}
use Rattle.device_board.specs.Accesses.{touched}
use Rattle.elf_image.specs.Image.{Image}
use Rattle.orders_law.specs.Orders.{Leads}
use Rattle.log_entry.specs.declared.log.Entry.TheVariants as entries
use Rattle.log_entry.specs.declared.log.Log.{Log}
use Rattle.log_entry.specs.Parts.{time_of_input, unit_of}
use Rattle.order_rules.specs.Cursor.{Cursor, first_left}
use Rattle.order_rules.specs.Rules.{time_before}
use Rattle.flat_machine.specs.State.{FlatState}
use Rattle.flat_machine.specs.Moves.{next_move, access_of, loaded_for}
use Rattle.flat_machine.specs.Acts.{next, ran, touch_made, poll_made, accessed, polled, moved_by, lost}
use Rattle.flat_machine.specs.declared.act.Act.{Act}
use Rattle.flat_machine.specs.declared.act.Act.TheVariants as act
use Rattle.flat_machine.specs.declared.results.Step.{Step}
use Rattle.replay_model.specs.Board.{board, hart_access}
use Rattle.replay_model.specs.State.{Replay, want}
use Rattle.replay_model.specs.Items.{Item, Ended, Move, Makes, Verdict, CanGo, item_at, tests, verdict_on, verdict, next_item, ends_reservation, step}
use Rattle.run_model.specs.Run.{Run, move_held}
use Rattle.shared_types.proofs.Lists as lists
use Rattle.shared_types.proofs.Lists.{bound_to, is_there}
use Rattle.replay_law.specs.Laws.{IsReplayable, first_replay, CanGoGoes}
use Rattle.replay_law.proofs.Local.{is_on_devices}
use Rattle.replay_law.proofs.Steps.{IsMade, act_of, flat_after, cursor_after, step_went, step_goes}
use Rattle.replay_law.proofs.Verdicts.{ActIs, act_is, passed, judge, met, guard_met}
use Rattle.replay_law.proofs.Views.{Sound, shape_of}
use Rattle.replay_law.proofs.Deeds.{chosen, touched_run, polled_run, answered}
use Rattle.replay_law.proofs.Boards.{made_of, calm}
use Rattle.replay_law.proofs.Times.{not_before, time_after, touched_times}
use Rattle.replay_law.proofs.Progress.{Going, going_first, going_lasts, makes_means}

abbrev can : Verdict → Bool
can CanGo = true
can v = false

at_least : (o : Option ℕ) (a b : ℕ) → a ≤ b → unwrap_or o a ≤ unwrap_or o b
at_least None a b l = l
at_least (Some t) a b l = omega arith

module _ (log : Log) (image : Image) (is : IsReplayable log image) where
  -- mtime isn't above the time before the next ordinal
  pub record Timely (s : Replay FlatState) : Type 0 where
    pub going : Going log image is s
    pub time : (board (unit_of log)).time s.flat ≤ time_before log s.cursor.ordinal

  timely_first : Timely (first_replay log image)
  timely_first = record { going = going_first log image is; time = omega arith }

  abbrev Later : Replay FlatState → ℕ → FlatState → Item → Type 0
  Later s h a item = (board (unit_of log)).time a ≤ time_before log (cursor_after s.cursor h item).ordinal

  calm_act : (s : Replay FlatState) (h : ℕ) (x : Act) (a : FlatState) → Sound (shape_of log) s → ActIs (board (unit_of log)) s h x → is_on_devices x ≡ false
      → next x s.flat ≡ Some a → (board (unit_of log)).time a ≡ (board (unit_of log)).time s.flat
  calm_act s h x a sound own off did =
      let m = made_of (shape_of log) s x a sound own.has did in
      ap (λ (d : Devices). d.mtime) (m.devices ∙ calm m.run x s.flat.devices m.after off m.is)

  yield_time : (s : Replay FlatState) (h : ℕ) (b : Bool) (a : FlatState) → Sound (shape_of log) s
      → flat_after (board (unit_of log)) s.flat (if b then Some (act.Lose h) else None) ≡ Some a
      → (board (unit_of log)).time a ≡ (board (unit_of log)).time s.flat
  yield_time s h true a sound did = calm_act s h (act.Lose h) a sound (record { by = refl; has = tt }) refl did
  yield_time s h false a sound did = ap (λ (f : FlatState). (board (unit_of log)).time f) (sym (same_Some _ _ did))

  later : (s : Replay FlatState) (h : ℕ) (item : Item) (a : FlatState) → Timely s → item_at ((board (unit_of log)).count s.flat h) (first_left log s.cursor h)
      ≡ item → verdict_on (board (unit_of log)) s h item ≡ CanGo → IsMade item
      → flat_after (board (unit_of log)) s.flat (act_of (board (unit_of log)) s h item) ≡ Some a
      → Later s h a item
  later s h Ended a timely due go real did = absurd real
  later s h Move a timely due go real did =
      let same = calm_act s h (act.Run h) a timely.going.good.sound (act_is (board (unit_of log)) s h Move (act.Run h) go refl) refl did in
      let time = timely.time in omega (arith, same, time)
  later s h (Makes (entries.Gain count page seq mode waits)) a timely due go real did =
      let same : (board (unit_of log)).time a ≡ (board (unit_of log)).time s.flat =
      ap (λ (f : FlatState). (board (unit_of log)).time f) (sym (same_Some _ _ did)) in
      let time = timely.time in omega (arith, same, time)
  later s h (Makes (entries.Yield count page seq left)) a timely due go real did =
      let same = yield_time s h (ends_reservation (board (unit_of log)) s h page) a timely.going.good.sound did in
      let time = timely.time in omega (arith, same, time)
  later s h (Makes (entries.Poll count ord time bits)) a timely due go real did =
      let e = entries.Poll count ord time bits in
      let left = (makes_means ((board (unit_of log)).count s.flat h) (first_left log s.cursor h) (entries.Poll count ord time bits) due).first in
      let m = made_of (shape_of log) s (act.Poll h time) a timely.going.good.sound
      (act_is (board (unit_of log)) s h (Makes (entries.Poll count ord time bits)) (act.Poll h time) go refl).has did in
      let c = lists.chosen _ (polled_run m.run h (with_time time s.flat.devices)) m.after m.is in
      let now : (board (unit_of log)).time a ≡ time = ap (λ (d : Devices). d.mtime) (m.devices ∙ sym (ap (λ (z : Run × Devices). z.1) c.1)) in
      let then_before : time_before log (ord + 1) ≡ time =
      time_after log is.orderly.ordinals_and_times_rise h _ ord (entries.Poll count ord time bits) left refl in
      omega (arith, now, then_before)
  later s h (Makes (entries.Touch count ord input)) a timely due go real did =
      let left = (makes_means ((board (unit_of log)).count s.flat h) (first_left log s.cursor h) (entries.Touch count ord input) due).first in
      let m = made_of (shape_of log) s (act.Touch h input) a timely.going.good.sound
      (act_is (board (unit_of log)) s h (Makes (entries.Touch count ord input)) (act.Touch h input) go refl).has did in
      let c = chosen _ (touched_run m.run h) (answered m.run input s.flat.devices) m.after m.is in
      let access = bound_to (λ access. touched s.flat.devices access input) (access_of (need_of (move_held m.run))) c.0 c.2 in
      let now : (board (unit_of log)).time a ≡ unwrap_or (time_of_input input) ((board (unit_of log)).time s.flat) =
      ap (λ (d : Devices). d.mtime) (m.devices ∙ sym (ap (λ (z : Run × Devices). z.1) c.3)) ∙ touched_times s.flat.devices access.0 input c.0 access.2 in
      let ordinal : ord ≡ s.cursor.ordinal = eqb-true ord s.cursor.ordinal (guard_met (board (unit_of log)) s h (Makes (entries.Touch count ord input)) go) in
      let then_before : time_before log (ord + 1) ≡ unwrap_or (time_of_input input) (time_before log ord) =
      time_after log is.orderly.ordinals_and_times_rise h _ ord (entries.Touch count ord input) left refl in
      let old : (board (unit_of log)).time s.flat ≤ time_before log ord =
      subst (λ k. (board (unit_of log)).time s.flat ≤ time_before log k) (sym ordinal) timely.time in
      let most = at_least (time_of_input input) ((board (unit_of log)).time s.flat) (time_before log ord) old in
      omega (arith, now, then_before, most)
  later s h (Makes (entries.End count)) a timely due go real did = absurd real

  timely_lasts : (s a : Replay FlatState) (h : ℕ) (w : Option (List Step)) → Timely s → step (board (unit_of log)) log h s ≡ Some (a, w) → Timely a
  timely_lasts s a h w timely did =
      let x = step_went (board (unit_of log)) log s a h w did in
      record {
        going = going_lasts log image is s a h w timely.going did;
        time = subst (λ (c : Cursor). (board (unit_of log)).time a.flat ≤ time_before log c.ordinal)
            (sym (ap (λ (z : Replay FlatState). z.cursor) x.built_is)) (later s h x.item a.flat timely x.next x.go x.real x.flat_is);
      }

  timely_along : (s t : Replay FlatState) (made : List (ℕ × Option (List Step))) → Timely s → Leads (step (board (unit_of log)) log) s made t → Timely t
  timely_along s t [] timely leads = subst Timely leads timely
  timely_along s t (x ∷ made) timely leads = timely_along leads.0 t made (timely_lasts s leads.0 x.0 x.1 timely leads.1) leads.2

  pub timely : (t : Replay FlatState) (made : List (ℕ × Option (List Step))) → Leads (step (board (unit_of log)) log) (first_replay log image) made t
      → Timely t
  timely t made leads = timely_along (first_replay log image) t made timely_first leads

  -- the act of an item that can go is made
  acts : (s : Replay FlatState) (h : ℕ) (x : Hart) (item : Item) → Timely s → slice_get s.flat.harts h ≡ Some x
      → item_at ((board (unit_of log)).count s.flat h) (first_left log s.cursor h) ≡ item → verdict_on (board (unit_of log)) s h item ≡ CanGo
      → IsMade item × ((a : FlatState) × (flat_after (board (unit_of log)) s.flat (act_of (board (unit_of log)) s h item) ≡ Some a))
  acts s h x Ended timely at due go = absurd (true≢false (sym (ap can go)))
  acts s h x Move timely at due go =
      let one = passed (board (unit_of log)) 1 (is_some (want (board (unit_of log)) s h)) ((2, is_some (hart_access s.flat h)) ∷ []) go in
      let two = passed (board (unit_of log)) 2 (is_some (hart_access s.flat h)) [] one.1 in
      let off : is_some (access_of (need_of (next_move x s.flat.memory))) ≡ false =
      sym (ap (λ o. is_some (option_and_then (λ y. access_of (need_of (next_move y s.flat.memory))) o)) at) ∙ two.0 in
      let after : FlatState = moved_by s.flat h x (next_move x s.flat.memory) (loaded_for s.flat.memory (need_of (next_move x s.flat.memory))) in
      (tt, (after, ap (option_and_then (λ y. ran s.flat h y (next_move y s.flat.memory))) at ∙ ap (λ b. cond b None (Some after)) off))
  acts s h x (Makes (entries.Gain count page seq mode waits)) timely at due go = (tt, (s.flat, refl))
  acts s h x (Makes (entries.Yield count page seq left)) timely at due go = (tt, yielded (ends_reservation (board (unit_of log)) s h page))
    where
      yielded : (b : Bool) → (a : FlatState) × (flat_after (board (unit_of log)) s.flat (if b then Some (act.Lose h) else None) ≡ Some a)
      yielded true = (_, ap (option_map (lost s.flat h)) at)
      yielded false = (s.flat, refl)
  acts s h x (Makes (entries.Poll count ord time bits)) timely at due go =
      let judged =
      (met (ord == s.cursor.ordinal) (judge (board (unit_of log)) (tests (board (unit_of log)) s h (Makes (entries.Poll count ord time bits)))) go).1 in
      let one = passed (board (unit_of log)) 5 (not ((board (unit_of log)).lines_at s.flat h time == bits)) ((6, is_some s.flat.devices.stop) ∷ []) judged in
      let two = passed (board (unit_of log)) 6 (is_some s.flat.devices.stop) [] one.1 in
      let left = (makes_means ((board (unit_of log)).count s.flat h) (first_left log s.cursor h) (entries.Poll count ord time bits) due).first in
      let ordinal : ord ≡ s.cursor.ordinal =
      eqb-true ord s.cursor.ordinal (guard_met (board (unit_of log)) s h (Makes (entries.Poll count ord time bits)) go) in
      let old : (board (unit_of log)).time s.flat ≤ time_before log ord =
      subst (λ k. (board (unit_of log)).time s.flat ≤ time_before log k) (sym ordinal) timely.time in
      let new = not_before log is.orderly.ordinals_and_times_rise h _ ord time (entries.Poll count ord time bits) left refl refl in
      let less : nat_lt time s.flat.devices.mtime ≡ false = le-ltb time s.flat.devices.mtime (omega (arith, old, new)) in
      let after : FlatState = polled s.flat h x (with_time time s.flat.devices) in
      (tt, (after, ap (option_and_then (poll_made s.flat h time)) at ∙ ap₂ (λ b c. cond (b || c) None (Some after)) two.0 less))
  acts s h x (Makes (entries.Touch count ord input)) timely at due go =
      let judged =
      (met (ord == s.cursor.ordinal) (judge (board (unit_of log)) (tests (board (unit_of log)) s h (Makes (entries.Touch count ord input)))) go).1 in
      let one = passed (board (unit_of log)) 1 (is_some (want (board (unit_of log)) s h))
      ((3, not ((board (unit_of log)).is_at_device s.flat h)) ∷ (4, not ((board (unit_of log)).suits s.flat h input)) ∷
      (6, is_some s.flat.devices.stop) ∷ []) judged in
      let two = passed (board (unit_of log)) 3 (not ((board (unit_of log)).is_at_device s.flat h))
      ((4, not ((board (unit_of log)).suits s.flat h input)) ∷ (6, is_some s.flat.devices.stop) ∷ []) one.1 in
      let three = passed (board (unit_of log)) 4 (not ((board (unit_of log)).suits s.flat h input)) ((6, is_some s.flat.devices.stop) ∷ []) two.1 in
      let four = passed (board (unit_of log)) 6 (is_some s.flat.devices.stop) [] three.1 in
      let o : Option (Devices × ℕ) = option_and_then (λ access. touched s.flat.devices access input) (access_of (need_of (next_move x s.flat.memory))) in
      let suits : is_some (option_and_then (λ access. touched s.flat.devices access input) (access_of (need_of (next_move x s.flat.memory)))) ≡ true =
      sym (ap (λ z. is_some (option_and_then (λ access. touched s.flat.devices access input)
      (option_and_then (λ y. access_of (need_of (next_move y s.flat.memory))) z))) at) ∙ not-false ((board (unit_of log)).suits s.flat h input) three.0 in
      let found = is_there (option_and_then (λ access. touched s.flat.devices access input) (access_of (need_of (next_move x s.flat.memory)))) suits in (
        tt,
        (
          accessed s.flat h x (next_move x s.flat.memory) found.0,
          ap (option_and_then (λ y. touch_made s.flat h input y (next_move y s.flat.memory))) at
              ∙ ap (λ b. cond b None (option_map (accessed s.flat h x (next_move x s.flat.memory))
              (option_and_then (λ access. touched s.flat.devices access input) (access_of (need_of (next_move x s.flat.memory)))))) four.0
              ∙ ap (option_map (accessed s.flat h x (next_move x s.flat.memory))) found.1,
        ),
      )
  acts s h x (Makes (entries.End count)) timely at due go =
      absurd (true≢false (makes_means ((board (unit_of log)).count s.flat h) (first_left log s.cursor h) (entries.End count) due).goes_on)

  -- so a hart of the log that can go goes
  pub can_go_goes : (s : Replay FlatState) (h : ℕ) → Timely s → h < length log.streams → verdict (board (unit_of log)) log s h ≡ CanGo
      → (m : Replay FlatState × Option (List Step)) × (step (board (unit_of log)) log h s ≡ Some m)
  can_go_goes s h timely l go =
      let inside : h < length s.flat.harts = (let k = timely.going.good.sound.sized.harts_size in omega (arith, l, k)) in
      let at = slice_get-get_or s.flat.harts h (hart_at_start 0 0 0 0) inside in
      let a = acts s h _ (next_item (board (unit_of log)) log s h) timely at refl go in
      (_, step_goes (board (unit_of log)) log s h (next_item (board (unit_of log)) log s h) a.1.0 refl go a.0 a.1.1)

pub reached_goes : CanGoGoes
reached_goes log image order s h is obeys l go = can_go_goes log image is s h (timely log image is s obeys.0 obeys.2) l go
