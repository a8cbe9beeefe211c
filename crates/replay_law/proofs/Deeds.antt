-- What an act makes of what its hart sees, and that it leaves the rest.
use Rattle.std.proofs.Common.{◌≡◌, ◌≢◌, inl, inr, ℕ, ◌+◌, ◌*◌, ◌<◌, ◌||◌, nat_lt, Bool, true, false, List, length, Option, Some, None, is_some}
use Rattle.std.proofs.Common.{slice_get, slice_set, slice_index, refl, sym, ap, ap₂, ◌∙◌, subst, if◌then◌else◌}
use Rattle.std.specs.Option.{option_map, option_and_then}
use Rattle.std.proofs.lemmas.Bool.{cases_eq}
use Rattle.std.proofs.lemmas.List.{length-set}
use Rattle.std.proofs.lemmas.Option.{none-some, same_Some}
use Rattle.rv_words.specs.Limits.{page_bytes}
use Rattle.rv_words.specs.declared.shared.Access.{Access}
use Rattle.rv_words.specs.declared.shared.Input.{Input}
use Rattle.rv_words.specs.declared.shared.Mode.TheVariants.{Write}
use Rattle.rv_hart.specs.State.{Hart}
use Rattle.rv_hart.specs.Moves.{after, written, need_of, with_reserved}
use Rattle.rv_hart.specs.Needs.{page_at}
use Rattle.rv_hart.specs.declared.effect.Effect.{Effect}
use Rattle.rv_hart.specs.declared.effect.Effect.TheVariants.{Sets, Jumps, Loads, Stores, Reserves, Commits, Fails, Updates, DeviceLoads, DeviceStores}
use Rattle.rv_hart.specs.declared.effect.Effect.TheVariants.{WritesCsr, Returns, Traps}
use Rattle.rv_hart.specs.declared.effect.Wrote.{Wrote}
use Rattle.device_board.specs.State.{Devices, with_time}
use Rattle.device_board.specs.Accesses.{touched}
use Rattle.guest_pages.specs.Pages.{page_of}
use Rattle.flat_machine.specs.State.{FlatState, OnBoard}
use Rattle.flat_machine.specs.Moves.{next_move, access_of, stored_by}
use Rattle.flat_machine.specs.Acts.{next, ran, touch_made, poll_made, accessed, polled, lost, counted_up, with_lines_of}
use Rattle.flat_machine.specs.declared.act.Act.{Act}
use Rattle.flat_machine.specs.declared.act.Act.TheVariants as act
use Rattle.flat_machine.proofs.StateAfterMove.{moved_fits, set_fits}
use Rattle.replay_model.specs.Board.{board, hart_access}
use Rattle.order_rules.specs.Holders.{held}
use Rattle.replay_model.specs.State.{Replay, want, IsCrewState}
use Rattle.shared_types.proofs.Lists as lists
use Rattle.run_model.specs.Run.{Run, NotWants, ahead_of, move_held, loaded_held, moved_by, IsOneRun}
use Rattle.run_model.specs.Legs.{DifferFor, KeepsPages}
use Rattle.run_model.specs.Agreement.{Agrees, Asks, after_move}
use Rattle.run_model.specs.declared.asked.Ahead.{Ahead}
use Rattle.run_model.specs.declared.asked.Ahead.TheVariants.{Free, Wants, AtDevice}
use Rattle.shared_types.proofs.Lists.{set_here, set_there, bound_to, mapped}
use Rattle.std.proofs.lemmas.Option.{slice_get_within}
use Rattle.run_model.specs.Laws.{IsMoved}
use Rattle.run_model.proofs.Laws.{ahead_agrees, sees_move, moves_agree, keeps_on_move, stays_on_board, placed_agrees, counted_agrees}
use Rattle.replay_law.proofs.Local.{actor, HasPages}
use Rattle.shared_types.proofs.Lists.{is_nothing}
use Rattle.replay_law.proofs.Views.{Shape, Sound, on_board}

abbrev pub touched_run : Run → ℕ → Devices × ℕ → Run × Devices
touched_run r h x = (record r { hart = with_lines_of x.0 h (after r.hart (move_held r) x.1); count = r.count + 1 }, x.0)

abbrev pub polled_run : Run → ℕ → Devices → Run × Devices
polled_run r h d = (record r { hart = with_lines_of d h r.hart }, d)

-- the answer of the devices to the access of the next move
abbrev pub answered : Run → Input → Devices → Option (Devices × ℕ)
answered r input d = option_and_then (λ access. touched d access input) (access_of (need_of (move_held r)))

-- what a hart and the devices become by an act
abbrev pub deed : Run → Act → Devices → Option (Run × Devices)
deed r (act.Run h) d = Some (moved_by r (move_held r), d)
deed r (act.Touch h input) d = if is_some d.stop then None else option_map (touched_run r h) (answered r input d)
deed r (act.Poll h time) d = if is_some d.stop || nat_lt time d.mtime then None else Some (polled_run r h (with_time time d))
deed r (act.Lose h) d = Some (record r { hart = with_reserved None r.hart }, d)

-- the hart lacks nothing for the act
abbrev pub Fine : Run → Act → Type 0
Fine r (act.Run h) = ahead_of r ≡ Free
Fine r (act.Touch h input) = NotWants (ahead_of r)
Fine r a = Unit {0}

pub chosen : {A B : Type 0} (b : Bool) (f : A → B) (o : Option A) (q : B) → (if b then None else option_map f o) ≡ Some q
    → (x : A) × (b ≡ false) × (o ≡ Some x) × (f x ≡ q)
chosen true f o q e = absurd (none-some _ e)
chosen false f o q e = let m = mapped f o q e in (m.0, refl, m.1, m.2)

-- a device access leaves the reservation
device_reserves : (x : Hart) (e : Effect) (loaded : ℕ) (access : Access) → access_of (need_of e) ≡ Some access → (after x e loaded).reserved ≡ x.reserved
device_reserves x (Sets rd value) loaded access is = refl
device_reserves x (Jumps rd target) loaded access is = refl
device_reserves x (Loads op rd at) loaded access is = refl
device_reserves x (Stores at size value) loaded access is = refl
device_reserves x (Reserves rd at) loaded access is = absurd (none-some _ is)
device_reserves x (Commits rd at value) loaded access is = absurd (none-some _ is)
device_reserves x (Fails rd at) loaded access is = absurd (none-some _ is)
device_reserves x (Updates op rd at operand) loaded access is = refl
device_reserves x (DeviceLoads rd at) loaded access is = refl
device_reserves x (DeviceStores at value) loaded access is = refl
device_reserves x (WritesCsr rd old number value) loaded access is = refl
device_reserves x Returns loaded access is = refl
device_reserves x (Traps cause value) loaded access is = refl

free_where : (o : Ahead) → Asks None None o → o ≡ Free
free_where Free asks = refl
free_where (Wants page mode) asks = absurd (none-some _ asks)
free_where (AtDevice access) asks = absurd (none-some _ asks.1)

wants_not : (access : Option Access) (o : Ahead) → Asks None access o → NotWants o
wants_not access Free asks = tt
wants_not access (Wants page mode) asks = none-some _ asks
wants_not access (AtDevice at) asks = tt

pub not_wants : (r : Run) (h : ℕ) (s : Replay FlatState) → Agrees r h s → want (board r.frames.unit) s h ≡ None → NotWants (ahead_of r)
not_wants r h s a none = wants_not (hart_access s.flat h) (ahead_of r) (subst (λ w. Asks w (hart_access s.flat h) (ahead_of r)) none (ahead_agrees r h s a))

touch_next : (r : Run) (h : ℕ) (s : Replay FlatState) (input : Input) → Agrees r h s → NotWants (ahead_of r)
    → next (act.Touch h input) s.flat ≡ (if is_some s.flat.devices.stop then None else option_map (accessed s.flat h r.hart (move_held r))
    (answered r input s.flat.devices))
touch_next r h s input a fine =
    ap (option_and_then (λ x. touch_made s.flat h input x (next_move x s.flat.memory))) a.hart
    ∙ ap (touch_made s.flat h input r.hart) (sees_move r h s a fine)

-- an act that was made is a deed
pub deed_of : (r : Run) (s : Replay FlatState) (a : Act) (t : FlatState) → Agrees r (actor a) s → HasPages (board r.frames.unit) s a → next a s.flat ≡ Some t
    → Fine r a × ((q : Run × Devices) × (deed r a s.flat.devices ≡ Some q))
deed_of r s (act.Run h) t agrees has did =
    let x = bound_to (λ x. ran s.flat h x (next_move x s.flat.memory)) (slice_get s.flat.harts h) t did in
    let c = lists.chosen (is_some (access_of (need_of (next_move x.0 s.flat.memory)))) _ t x.2 in
    let access : hart_access s.flat h ≡ None = ap (option_and_then (λ y. access_of (need_of (next_move y s.flat.memory)))) x.1 ∙ is_nothing _ c.0 in
    let asks : Asks None None (ahead_of r) =
    subst (λ o. Asks None o (ahead_of r)) access (subst (λ w. Asks w (hart_access s.flat h) (ahead_of r)) has (ahead_agrees r h s agrees)) in
    (free_where (ahead_of r) asks, ((moved_by r (move_held r), s.flat.devices), refl))
deed_of r s (act.Touch h input) t agrees has did =
    let fine = not_wants r h s agrees has in
    let c = chosen (is_some s.flat.devices.stop) (accessed s.flat h r.hart (move_held r)) (answered r input s.flat.devices) t
    (sym (touch_next r h s input agrees fine) ∙ did) in (
      fine,
      (
        touched_run r h c.0,
        ap (λ b. if b then None else option_map (touched_run r h) (answered r input s.flat.devices)) c.1
            ∙ ap (option_map (touched_run r h)) c.2,
      ),
    )
deed_of r s (act.Poll h time) t agrees has did =
    let x = bound_to (poll_made s.flat h time) (slice_get s.flat.harts h) t did in
    let c = lists.chosen (is_some s.flat.devices.stop || nat_lt time s.flat.devices.mtime) _ t x.2 in
    (tt, (polled_run r h (with_time time s.flat.devices), ap (λ b. if b then None else Some (polled_run r h (with_time time s.flat.devices))) c.0))
deed_of r s (act.Lose h) t agrees has did = (tt, ((record r { hart = with_reserved None r.hart }, s.flat.devices), refl))

with_devices : (r : Run) (h : ℕ) (s : Replay FlatState) (d : Devices) → Agrees r h s → Agrees r h (record s { flat = record s.flat { devices = d } })
with_devices r h s d a = record {
  unit_is = a.unit_is;
  harts = a.harts;
  memory = a.memory;
  table = a.table;
  rows = a.rows;
  hart = a.hart;
  count = a.count;
  modes = a.modes;
  bytes = a.bytes;
}

module _ (shape : Shape) where
  -- a hart made an act and now sees this, all else is as it was
  pub record Done (h : ℕ) (s : Replay FlatState) (r : Run) (t : FlatState) : Type 0 where
    pub agrees : Agrees r h (record s { flat = t })
    pub unit_is : r.frames.unit ≡ shape.unit
    pub one : IsOneRun r
    pub harts : (g : ℕ) → g ≢ h → slice_get t.harts g ≡ slice_get s.flat.harts g
    pub counts : (g : ℕ) → g ≢ h → slice_get t.counts g ≡ slice_get s.flat.counts g
    pub pages_kept : (page : ℕ) → held s.holders page h ≢ Some Write → page_of shape.unit t.memory page ≡ page_of shape.unit s.flat.memory page
    pub sound : Sound shape (record s { flat = t })

  pub record Acted (s : Replay FlatState) (a : Act) (q : Run × Devices) : Type 0 where
    pub state : FlatState
    pub did : next a s.flat ≡ Some state
    pub done : Done (actor a) s q.0 state
    pub devices : state.devices ≡ q.1

  -- a hart that moved
  run_done : (r : Run) (h : ℕ) (s : Replay FlatState) → Sound shape s → Agrees r h s → r.frames.unit ≡ shape.unit → IsOneRun r → ahead_of r ≡ Free
      → Done h s (moved_by r (move_held r)) (after_move r h s).flat
  run_done r h s sound a unit_is one free =
      let x : Hart = after r.hart (move_held r) (loaded_held r (need_of (move_held r))) in
      let w : Wrote = written (move_held r) (loaded_held r (need_of (move_held r))) in
      let crew : IsCrewState (board r.frames.unit) s = subst (λ u. IsCrewState (board u) s) (sym unit_is) sound.crew in
      let m : IsMoved r h s = moves_agree r h s a one crew free in
      let kept : KeepsPages r (moved_by r (move_held r)) =
      keeps_on_move r r (record { held = refl; unit_is = refl; number = refl; board = (refl, refl); frames = λ page n. refl }) free in
      let differ : DifferFor shape.unit h s (after_move r h s) = subst (λ u. DifferFor u h s (after_move r h s)) unit_is m.others in
      let again = m.agrees in
      let memory_same : length (stored_by s.flat.memory w) ≡ length s.flat.memory = again.memory
      ∙ ap₂ (λ k u. k * u) kept.number kept.unit_is ∙ sym a.memory in
      let board_same = kept.board in
      let on : OnBoard shape.harts shape.pages r.hart = on_board shape.harts shape.pages s.flat.harts h r.hart sound.sized.same_board a.hart in
      record {
        agrees = again;
        unit_is = kept.unit_is ∙ unit_is;
        one = m.one;
        harts = differ.harts;
        counts = differ.counts;
        pages_kept = differ.pages;
        sound = record {
          sized = moved_fits s.flat.harts s.flat.counts s.flat.memory (stored_by s.flat.memory w) shape.pages shape.harts h
              (slice_index s.flat.counts h + 1) x w sound.sized memory_same (board_same.0 ∙ on.0, board_same.1 ∙ on.1);
          table = sound.table;
          rows = sound.rows;
          crew = subst (λ u. IsCrewState (board u) (after_move r h s)) unit_is m.crew;
        };
      }

  -- another hart in a hart's place, with these counts and devices
  abbrev replaced : FlatState → ℕ → Hart → List ℕ → Devices → FlatState
  replaced f h y counts d = record { harts = slice_set f.harts h y; counts = counts; memory = f.memory; devices = d }

  hart_done : (r : Run) (h : ℕ) (s : Replay FlatState) (y : Hart) (counts : List ℕ) (d : Devices) → Sound shape s → h < length s.flat.harts
      → length counts ≡ length s.flat.counts
      → ((g : ℕ) → g ≢ h → slice_get counts g ≡ slice_get s.flat.counts g) → Agrees r h (record s { flat = replaced s.flat h y counts d })
      → r.frames.unit ≡ shape.unit → IsOneRun r → OnBoard shape.harts shape.pages y
      → ((page : ℕ) → option_map (page_at shape.unit) y.reserved ≡ Some page → held s.holders page h ≡ Some Write) → Done h s r (replaced s.flat h y counts d)
  hart_done r h s y counts d sound inside size others agrees unit_is one on reserves =
      let fits = set_fits s.flat.harts s.flat.counts s.flat.memory shape.pages shape.harts h y sound.sized on in
      record {
        agrees = agrees;
        unit_is = unit_is;
        one = one;
        harts = λ g n. set_there s.flat.harts h g y n;
        counts = others;
        pages_kept = λ page n. refl;
        sound = record {
          sized = record {
            memory_size = fits.memory_size;
            counts_size = size ∙ fits.counts_size;
            harts_size = fits.harts_size;
            same_board =
                fits.same_board;
          };
          table = sound.table;
          rows = sound.rows;
          crew = record {
            holders = sound.crew.holders;
            reservations = λ g page is. elim (cases_eq g h) [
              | inr n ↦ sound.crew.reservations g page (ap (λ o. option_map (page_at shape.unit) (option_and_then (λ (x : Hart). x.reserved) o))
                  (sym (set_there s.flat.harts h g y n)) ∙ is)
              | inl same ↦
                  subst (λ z. held s.holders page z ≡ Some Write) (sym same)
                  (reserves page (ap (λ o. option_map (page_at shape.unit) (option_and_then (λ (x : Hart). x.reserved) o))
                  (sym (set_here s.flat.harts h y inside)) ∙ ap ((board shape.unit).reserved_page (replaced s.flat h y counts d)) (sym same) ∙ is))
            ];
          };
        };
      }

  own_reserves : (r : Run) (h : ℕ) (s : Replay FlatState) (page : ℕ) → Sound shape s → Agrees r h s
      → option_map (page_at shape.unit) r.hart.reserved ≡ Some page → held s.holders page h ≡ Some Write
  own_reserves r h s page sound a is =
      sound.crew.reservations h page (ap (λ o. option_map (page_at shape.unit) (option_and_then (λ (x : Hart). x.reserved) o)) a.hart ∙ is)

  with_hart_is_one : (r : Run) (y : Hart) (count : ℕ) → IsOneRun r → y.pages ≡ r.hart.pages → IsOneRun (record r { hart = y; count = count })
  with_hart_is_one r y count one same = record { unit = one.unit; pages = one.pages ∙ ap (λ k. page_bytes * k) (sym same); held_size = one.held_size }

  -- a deed is an act that is made
  pub act_done : (r : Run) (s : Replay FlatState) (a : Act) (q : Run × Devices) → Sound shape s → Agrees r (actor a) s → r.frames.unit ≡ shape.unit
      → IsOneRun r → Fine r a → deed r a s.flat.devices ≡ Some q → Acted s a q
  act_done r s (act.Run h) q sound agrees unit_is one free is =
      let m = mapped (λ (f : FlatState). record s { flat = f }) (next (act.Run h) s.flat) (after_move r h s)
      (moves_agree r h s agrees one (subst (λ u. IsCrewState (board u) s) (sym unit_is) sound.crew) free).made in
      subst (Acted s (act.Run h)) (same_Some _ _ is) (record {
        state = (after_move r h s).flat;
        did = m.1 ∙ ap (λ (x : Replay FlatState). Some x.flat) m.2;
        done = run_done r h s sound agrees unit_is one free;
        devices = refl;
      })
  act_done r s (act.Touch h input) q sound agrees unit_is one fine is =
      let c = chosen (is_some s.flat.devices.stop) (touched_run r h) (answered r input s.flat.devices) q is in
      let e = move_held r in
      let access = bound_to (λ access. touched s.flat.devices access input) (access_of (need_of (move_held r))) c.0 c.2 in
      let y : Hart = with_lines_of c.0.0 h (after r.hart (move_held r) c.0.1) in
      let same = stays_on_board r.hart (move_held r) c.0.1 in
      let on : OnBoard shape.harts shape.pages r.hart = on_board shape.harts shape.pages s.flat.harts h r.hart sound.sized.same_board agrees.hart in
      subst (Acted s (act.Touch h input)) c.3 (record {
        state = accessed s.flat h r.hart (move_held r) c.0;
        did = touch_next r h s input agrees fine ∙ ap (λ b. if b then None else option_map (accessed s.flat h r.hart (move_held r))
            (answered r input s.flat.devices)) c.1 ∙ ap (option_map (accessed s.flat h r.hart (move_held r))) c.2;
        done = hart_done (record r { hart = y; count = r.count + 1 }) h s y (counted_up h s.flat.counts) c.0.0 sound
            (slice_get_within s.flat.harts h r.hart agrees.hart) (length-set s.flat.counts h (slice_index s.flat.counts h + 1))
            (λ g n. set_there s.flat.counts h g (slice_index s.flat.counts h + 1) n)
            (with_devices (record r { hart = y; count = r.count + 1 }) h _ c.0.0 (counted_agrees r h s y agrees same.0)) unit_is
            (with_hart_is_one r y (r.count + 1) one same.1) (same.0 ∙ on.0, same.1 ∙ on.1)
            (λ page at. own_reserves r h s page sound agrees
            (ap (option_map (page_at shape.unit)) (sym (device_reserves r.hart (move_held r) c.0.1 access.0 access.1)) ∙ at));
        devices = refl;
      })
  act_done r s (act.Poll h time) q sound agrees unit_is one fine is =
      let c = lists.chosen (is_some s.flat.devices.stop || nat_lt time s.flat.devices.mtime) (polled_run r h (with_time time s.flat.devices)) q is in
      let d = with_time time s.flat.devices in
      let y : Hart = with_lines_of (with_time time s.flat.devices) h r.hart in
      let on : OnBoard shape.harts shape.pages r.hart = on_board shape.harts shape.pages s.flat.harts h r.hart sound.sized.same_board agrees.hart in
      subst (Acted s (act.Poll h time)) c.1 (record {
        state = polled s.flat h r.hart (with_time time s.flat.devices);
        did = ap (option_and_then (poll_made s.flat h time)) agrees.hart
            ∙ ap (λ b. if b then None else Some (polled s.flat h r.hart (with_time time s.flat.devices))) c.0;
        done = hart_done (record r { hart = y }) h s y s.flat.counts d sound (slice_get_within s.flat.harts h r.hart agrees.hart) refl (λ g n. refl)
            (with_devices (record r { hart = y }) h _ d (placed_agrees r h s y agrees refl)) unit_is (with_hart_is_one r y r.count one refl) on
            (λ page at. own_reserves r h s page sound agrees at);
        devices = refl;
      })
  act_done r s (act.Lose h) q sound agrees unit_is one fine is =
      let y : Hart = with_reserved None r.hart in
      let on : OnBoard shape.harts shape.pages r.hart = on_board shape.harts shape.pages s.flat.harts h r.hart sound.sized.same_board agrees.hart in
      subst (Acted s (act.Lose h)) (same_Some _ _ is) (record {
        state = lost s.flat h r.hart;
        did = ap (option_map (lost s.flat h)) agrees.hart;
        done = hart_done (record r { hart = y }) h s y s.flat.counts s.flat.devices sound (slice_get_within s.flat.harts h r.hart agrees.hart) refl
            (λ g n. refl)
            (placed_agrees r h s y agrees refl) unit_is (with_hart_is_one r y r.count one refl) on (λ page at. absurd (none-some _ at));
        devices = refl;
      })
