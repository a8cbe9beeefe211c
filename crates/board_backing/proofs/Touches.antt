-- A hart that takes its lines, or moves on a device.
use Rattle.std.proofs.Common.{◌≡◌, ℕ, ◌≤◌, max, false, cond, List, length, suc, inl, inr, ◌||◌, Option, Some, None, is_some, nat_lt, refl, sym, ap, ap₂, ◌∙◌}
use Rattle.std.proofs.Common.{subst, arith}
use Rattle.std.proofs.lemmas.Bool.Decides.{leb_tells}
use Rattle.std.proofs.lemmas.Option.{none-some, same_Some}
use Rattle.std.specs.Option.{option_map, option_and_then}
use Rattle.rv_words.specs.declared.shared.Access.{Access}
use Rattle.rv_words.specs.declared.shared.Input.{Input}
use Rattle.rv_hart.specs.State.{Hart}
use Rattle.rv_hart.specs.Moves.{after, need_of}
use Rattle.guest_pages.specs.Pages.{Pages}
use Rattle.device_board.specs.State.{Devices, DevicesWithRoom, lines, with_time}
use Rattle.device_board.specs.Accesses as accesses
use Rattle.flat_machine.specs.State.{FlatState}
use Rattle.flat_machine.specs.Acts.{with_lines_of, accessed, polled, poll_made, touch_made, next}
use Rattle.flat_machine.specs.Moves.{next_move, access_of}
use Rattle.replay_model.specs.Board.{hart_access, next_access}
use Rattle.replay_model.specs.State.{Replay}
use Rattle.run_model.specs.Run.{Run, ahead_of}
use Rattle.run_model.specs.Agreement.{Agrees, IsAhead, with_hart, with_move}
use Rattle.run_model.specs.declared.asked.Ahead.TheVariants.{AtDevice}
use Rattle.run_model.proofs.Laws.{ahead_agrees}
use Rattle.run_model.proofs.Sight.{access_is}
use Rattle.hart_run.specs.Calls.{LinesAgree, lined}
use Rattle.board_backing.specs.declared.backing.Backing.{Backing}
use Rattle.board_backing.specs.Backing.{Backs, PollLeads, TouchLeads, Suits, AnswerAgrees}

-- the state with other devices
abbrev pub with_devices : Devices → Replay FlatState → Replay FlatState
with_devices d s = record s { flat = record s.flat { devices = d } }

pub agrees_devices : (r : Run) (h : ℕ) (s : Replay FlatState) (d : Devices) → Agrees r h s → Agrees r h (with_devices d s)
agrees_devices r h s d a = record {
  unit_is = a.unit_is;
  harts = a.harts;
  memory = a.memory;
  table = a.table;
  rows = a.rows;
  hart = a.hart;
  count = a.count;
  modes = a.modes;
  bytes = a.bytes;
}

-- devices and harts that are others, with the memory and the holders as they were
pub backs_devices : (b : Backing) (d : DevicesWithRoom) (s t : Replay FlatState) → Backs b s → t.flat.memory ≡ s.flat.memory → t.holders ≡ s.holders
    → t.flat.devices ≡ d.devices → Backs (record b { devices = d }) t
backs_devices b d s t backs memory holders devices =
    subst (λ (m : List ℕ). Backs (record b { devices = d }) (record t { flat = record t.flat { memory = m } })) (sym memory)
    (subst (λ hs. Backs (record b { devices = d }) (record { flat = record t.flat { memory = s.flat.memory }; cursor = t.cursor; holders = hs })) (sym holders)
    (record { unit_is = backs.unit_is; number = backs.number; memory = backs.memory; devices_are = sym devices; bytes = backs.bytes }))

pub touch_leads : (b next : Backing) (r new : Run) (h loaded : ℕ) (access : Access) (input : Input) → b.devices.devices.stop ≡ None
    → ahead_of r ≡ AtDevice access → next.pages ≡ b.pages → accesses.touched b.devices.devices access input ≡ Some (next.devices.devices, loaded)
    → AnswerAgrees next r new h loaded → TouchLeads b next r new h input
touch_leads b next r new h loaded access input running ahead same is then count ord s backs a =
    let d = next.devices.devices in
    let effect = next_move r.hart s.flat.memory in
    let t : Replay FlatState = record s { flat = accessed s.flat h r.hart effect (d, loaded) } in
    let in_state : FlatState → Replay FlatState = λ f. record s { flat = f } in
    let stop : is_some s.flat.devices.stop ≡ false = ap (λ (z : Devices). is_some z.stop) (sym backs.devices_are) ∙ ap is_some running in
    let asks = subst (IsAhead r.frames.unit h s) ahead (ahead_agrees r h s a) in
    let found : access_of (need_of effect) ≡ Some access = sym (access_is r h s a) ∙ asks.1 in
    let answer : accesses.touched s.flat.devices access input ≡ Some (d, loaded) = ap (λ z. accesses.touched z access input) (sym backs.devices_are) ∙ is in
    record {
      at = t;
      made = ap (λ o. option_map in_state (option_and_then (λ (x : Hart). touch_made s.flat h input x (next_move x s.flat.memory)) o)) a.hart
          ∙ ap (λ x. option_map in_state (cond x None (option_map (accessed s.flat h r.hart effect)
          (option_and_then (λ access. accesses.touched s.flat.devices access input) (access_of (need_of effect)))))) stop
          ∙ ap (λ o. option_map in_state (option_map (accessed s.flat h r.hart effect)
          (option_and_then (λ access. accesses.touched s.flat.devices access input) o))) found
          ∙ ap (λ o. option_map in_state (option_map (accessed s.flat h r.hart effect) o)) answer;
      backs = subst (λ p. Backs (record { pages = p; devices = next.devices }) t) (sym same) (backs_devices b next.devices s t backs refl refl refl);
      unit_is = ap (λ (p : Pages). p.unit) same;
      agrees = agrees_devices new h (with_move h (with_lines_of d h (after r.hart effect loaded)) s) d (then s a);
    }

not_less : (a b : ℕ) → b ≤ a → nat_lt a b ≡ false
not_less a b l = elim (leb_tells (suc a) b) [ inl (t, m) ↦ absurd (omega (arith, l, m)) | inr (f, m) ↦ f ]

pub poll_leads : (b : Backing) (devices : DevicesWithRoom) (r new : Run) (h now time bits : ℕ) → b.devices.devices.stop ≡ None
    → devices.devices ≡ with_time time b.devices.devices → time ≡ max b.devices.devices.mtime now → bits ≡ lines devices.devices h
    → LinesAgree r new bits → PollLeads b (record b { devices = devices }) r new h (record { time = time; bits = bits })
poll_leads b devices r new h now time bits running devices_are time_is bits_are lined_agrees count ord s backs a =
    let d = devices.devices in
    let in_state : FlatState → Replay FlatState = λ f. record s { flat = f } in
    let t : Replay FlatState = record s { flat = polled s.flat h r.hart d } in
    let stop : is_some s.flat.devices.stop ≡ false = ap (λ (z : Devices). is_some z.stop) (sym backs.devices_are) ∙ ap is_some running in
    let late : nat_lt time s.flat.devices.mtime ≡ false =
    ap (λ (z : Devices). nat_lt time z.mtime) (sym backs.devices_are) ∙ not_less time b.devices.devices.mtime (omega (arith, time_is)) in
    let after_is : with_time time s.flat.devices ≡ d = ap (with_time time) (sym backs.devices_are) ∙ sym devices_are in
    record {
      at = t;
      made = ap (λ o. option_map in_state (option_and_then (poll_made s.flat h time) o)) a.hart
          ∙ ap (λ z. option_map in_state (cond z None (Some (polled s.flat h r.hart (with_time time s.flat.devices))))) (ap₂ (λ x y. x || y) stop late)
          ∙ ap (λ z. Some (in_state (polled s.flat h r.hart z))) after_is;
      backs = backs_devices b devices s t backs refl refl refl;
      unit_is = refl;
      agrees = agrees_devices new h (with_hart h (with_lines_of d h r.hart) s) d
          (subst (λ n. Agrees new h (with_hart h (lined n r.hart) s)) bits_are (lined_agrees h s a));
    }

-- whether the input suits
pub suits_is : (b : Backing) (r : Run) (h : ℕ) (access : Access) (input : Input) → ahead_of r ≡ AtDevice access
    → Suits b r h input (is_some (accesses.touched b.devices.devices access input))
suits_is b r h access input ahead s backs a =
    let asks = subst (IsAhead r.frames.unit h s) ahead (ahead_agrees r h s a) in
    ap (λ z. is_some (accesses.touched z access input)) backs.devices_are
    ∙ sym (ap (λ o. is_some (option_and_then (λ access. accesses.touched s.flat.devices access input) o)) asks.1)

-- what a device answered again, or that it didn't
pub answered : (o : Option (Devices × ℕ)) (old new : Devices) (loaded : ℕ) → accesses.MadeAgain o old new (Some loaded) → o ≡ Some (new, loaded)
answered None old new loaded is = absurd (none-some _ (sym is.0))
answered (Some after) old new loaded is = ap₂ (λ d n. Some (d, n)) (sym is.1) (sym (same_Some _ _ is.0))

pub refused : (o : Option (Devices × ℕ)) (old new : Devices) → accesses.MadeAgain o old new None → (o ≡ None) × (new ≡ old)
refused None old new is = (refl, is.1)
refused (Some after) old new is = absurd (none-some _ is.0)

pub unchanged : (o : Option (Devices × ℕ)) (b : Backing) (new : DevicesWithRoom) → accesses.MadeAgain o b.devices.devices new.devices None
    → accesses.RoomIsKept b.devices new → record { pages = b.pages; devices = new } ≡ b
unchanged o b new is room =
    let same = (refused o b.devices.devices new.devices is).1 in
    let sent = ap (λ (d : Devices). length d.sent) same in
    let spare : new.spare ≡ b.devices.spare = omega (arith, sent, room) in
    ap₂ (λ d n. record { pages = b.pages; devices = record { devices = d; spare = n } }) same spare
