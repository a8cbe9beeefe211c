-- The state after a call that made a hart's move, or could not.
use Rattle.std.proofs.Common.{◌≡◌, ℕ, ◌+◌, ◌<◌, ◌≤◌, List, set, length, map, refl, ap, sym, ◌∙◌, subst, true, false, Bool, cond}
use Rattle.std.specs.Prelude.{Option, Some, None, IfSome, IsTrue, slice_get, slice_set, slice_index_or, slice_index, is_some}
use Rattle.std.proofs.lemmas.List.Elements.{All-map, All-set}
use Rattle.std.proofs.lemmas.List.{length-map, length-set}
use Rattle.std.proofs.lemmas.Option.{slice_get_past}
use Rattle.rv_hart.specs.State.{Hart}
use Rattle.rv_hart.specs.Moves.{after, need_of, with_reserved}
use Rattle.rv_hart.specs.declared.effect.Wrote.{Wrote}
use Rattle.rv_hart.specs.declared.effect.Wrote.TheVariants as wrote
use Rattle.rv_words.specs.Addresses.{device_word}
use Rattle.rv_words.specs.declared.shared.DeviceWord.{DeviceWord}
use Rattle.rv_words.specs.declared.shared.Access.{Access}
use Rattle.rv_words.specs.declared.shared.Input.{Input}
use Rattle.rv_hart.specs.Effects.{effect_of}
use Rattle.device_board.specs.Accesses.{touched, MadeAgain, HasRoom, sends}
use Rattle.device_board.specs.State.{Devices}
use Rattle.std.specs.Option.{option_map}
use Rattle.flat_machine.specs.State.{FlatState, FlatWithRoom, OnBoard, FitsTogether}
use Rattle.flat_machine.specs.Moves.{next_move, loaded_for, access_of, stored_by, lost_by, writes_in}
use Rattle.flat_machine.specs.HartMoves.{HartMoved, FindsAccess}
use Rattle.flat_machine.specs.Acts.{next, moved, moved_by, lost, accessed, with_lines_of, NextHasRoom, SendsWithRoom}
use Rattle.flat_machine.specs.declared.act.Act.TheVariants.{Run, Touch, Lose}

-- no such hart
pub run_nobody : (s : FlatState) (h : ℕ) → length s.harts ≤ h → next (Run h) s ≡ None
run_nobody s h l = rw (slice_get_past s.harts h l) refl

pub lose_nobody : (s : FlatState) (h : ℕ) → length s.harts ≤ h → next (Lose h) s ≡ None
lose_nobody s h l = rw (slice_get_past s.harts h l) refl

-- the next move is a device access
pub run_kept : (s : FlatState) (h : ℕ) (x y : Hart) (m : List ℕ) → slice_get s.harts h ≡ Some x → HartMoved x s.memory (next_move x s.memory) y m None
    → next (Run h) s ≡ None
run_kept s h x y m k r = rw (k, r.0) refl

-- the move was made
pub run_made : (s : FlatState) (h : ℕ) (x y : Hart) (m : List ℕ) (w : Wrote) → slice_get s.harts h ≡ Some x
    → HartMoved x s.memory (next_move x s.memory) y m (Some w) → next (Run h) s ≡ Some (moved s h y w)
run_made s h x y m w k r =
    let e = next_move x s.memory in
    let made : next (Run h) s ≡ Some (moved_by s h x (next_move x s.memory) (loaded_for s.memory (need_of (next_move x s.memory)))) = rw (k, r.0) refl in
    made ∙ ap (λ v. Some (moved s h (after x (next_move x s.memory) (loaded_for s.memory (need_of (next_move x s.memory)))) v)) (sym r.1)
    ∙ ap (λ v. Some (moved s h v w)) (sym r.2)

pub lose_made : (s : FlatState) (h : ℕ) (x : Hart) → slice_get s.harts h ≡ Some x → next (Lose h) s ≡ Some (lost s h x)
lose_made s h x k = rw k refl

loses_on_board : (n p : ℕ) (x : Hart) (b : Bool) → OnBoard n p x → OnBoard n p (cond b (with_reserved None x) x)
loses_on_board n p x true o = o
loses_on_board n p x false o = o

-- a hart that loses its reservation stays on its board
lost_on_board : (n p : ℕ) (w : Wrote) (x : Hart) → OnBoard n p x → OnBoard n p (lost_by w x)
lost_on_board n p wrote.Nothing x o = o
lost_on_board n p (wrote.Bytes at size value) x o = loses_on_board n p x (writes_in at x.reserved) o

-- after a move everything still fits together
pub moved_fits : (xs : List Hart) (counts memory memory' : List ℕ) (p n h c : ℕ) (y : Hart) (w : Wrote) → FitsTogether xs counts memory p n
    → length memory' ≡ length memory → OnBoard n p y → FitsTogether (set (map (lost_by w) xs) h y) (set counts h c) memory' p n
moved_fits xs counts memory memory' p n h c y w f e o =
    record {
      memory_size = e ∙ f.memory_size;
      counts_size = length-set counts h c ∙ f.counts_size ∙ sym (length-set (map (lost_by w) xs) h y ∙ length-map xs (lost_by w));
      harts_size = length-set (map (lost_by w) xs) h y ∙ length-map xs (lost_by w) ∙ f.harts_size;
      same_board =
          All-set (OnBoard n p) (map (lost_by w) xs) h y o
          (All-map (OnBoard n p) (lost_by w) xs (λ k d l. lost_on_board n p w (slice_index_or xs k d) (f.same_board k d l)));
    }

pub set_fits : (xs : List Hart) (counts memory : List ℕ) (p n h : ℕ) (y : Hart) → FitsTogether xs counts memory p n → OnBoard n p y
    → FitsTogether (set xs h y) counts memory p n
set_fits xs counts memory p n h y f o =
    record {
      memory_size = f.memory_size;
      counts_size = f.counts_size ∙ sym (length-set xs h y);
      harts_size = length-set xs h y ∙ f.harts_size;
      same_board = All-set (OnBoard n p) xs h y o f.same_board;
    }

-- the state after a call that made the move
pub run_state : (s t : FlatState) (h k : ℕ) (x y : Hart) (m : List ℕ) (w : Wrote) (xs : List Hart) → s ≡ t → slice_get s.harts h ≡ Some x
    → HartMoved x s.memory (next_move x s.memory) y m (Some w)
    → xs ≡ map (lost_by w) s.harts → k ≡ slice_index s.counts h
    → next (Run h) t ≡ Some (record { harts = slice_set xs h y; counts = slice_set s.counts h (k + 1); memory = m; devices = s.devices })
run_state s t h k x y m w xs e g r a b =
    subst (λ z. next (Run h) z ≡ Some (record { harts = slice_set xs h y; counts = slice_set s.counts h (k + 1); memory = m; devices = s.devices })) e
    (run_made s h x y m w g r
    ∙ ap (λ z. Some (record {
      harts = slice_set z h y;
      counts = slice_set s.counts h (slice_index s.counts h + 1);
      memory = stored_by s.memory w;
      devices = s.devices;
    })) (sym a)
    ∙ ap (λ z. Some (record { harts = slice_set xs h y; counts = slice_set s.counts h (z + 1); memory = stored_by s.memory w; devices = s.devices })) (sym b)
    ∙ ap (λ z. Some (record { harts = slice_set xs h y; counts = slice_set s.counts h (k + 1); memory = z; devices = s.devices })) (sym r.3))

-- the state after a call that could not make it
pub run_state_kept : (s t : FlatState) (h : ℕ) (x y : Hart) (m : List ℕ) → s ≡ t → slice_get s.harts h ≡ Some x
    → HartMoved x s.memory (next_move x s.memory) y m None
    → (next (Run h) t ≡ None) × (record s { memory = m } ≡ t)
run_state_kept s t h x y m e g r =
    (subst (λ z. next (Run h) z ≡ None) e (run_kept s h x y m g r), ap (λ z. record s { memory = z }) r.2 ∙ e)

-- no such hart, stop is set, or the next move is no device access
pub touch_nobody : (s : FlatState) (h : ℕ) (v : Input) → length s.harts ≤ h → next (Touch h v) s ≡ None
touch_nobody s h v l = rw (slice_get_past s.harts h l) refl

pub touch_stopped : (s : FlatState) (h : ℕ) (v : Input) (x : Hart) → slice_get s.harts h ≡ Some x → is_some s.devices.stop ≡ true → next (Touch h v) s ≡ None
touch_stopped s h v x k e = rw (k, e) refl

pub touch_no_access : (s : FlatState) (h : ℕ) (v : Input) (x : Hart) → slice_get s.harts h ≡ Some x → is_some s.devices.stop ≡ false
    → access_of (need_of (next_move x s.memory)) ≡ None → next (Touch h v) s ≡ None
touch_no_access s h v x k e a = rw (k, e, a) refl

-- an access that was found, with what the devices make of it
pub touch_found : (s : FlatState) (h : ℕ) (v : Input) (x : Hart) (word : ℕ) (access : Access) → slice_get s.harts h ≡ Some x → is_some s.devices.stop ≡ false
    → FindsAccess x s.memory (Some (word, access))
    → next (Touch h v) s ≡ option_map (accessed s h x (effect_of x word)) (touched s.devices access v)
touch_found s h v x word access k e f = rw (k, e, f.0, f.1) refl

replayed_some : (o : Option (Devices × ℕ)) (d d' : Devices) (value : ℕ) → MadeAgain o d d' (Some value) → o ≡ Some (d', value)
replayed_some None d d' value r = let bad : ⊥ = cc in absurd bad
replayed_some (Some p) d d' value r =
    let a = r.0 in
    let e : value ≡ p.1 = cc in
    ap (λ z. Some (z, p.1)) (sym r.1) ∙ ap (λ z. Some (d', z)) (sym e)

replayed_none : (o : Option (Devices × ℕ)) (d d' : Devices) → MadeAgain o d d' None → (o ≡ None) × (d' ≡ d)
replayed_none None d d' r = (refl, r.1)
replayed_none (Some p) d d' r = let a = r.0 in let bad : ⊥ = cc in absurd bad

-- the state after a call that made the access
pub touch_state : (s t : FlatState) (h k value word : ℕ) (v : Input) (x y : Hart) (access : Access) (d : Devices) → s ≡ t → slice_get s.harts h ≡ Some x
    → is_some s.devices.stop ≡ false → FindsAccess x s.memory (Some (word, access))
    → MadeAgain (touched s.devices access v) s.devices d (Some value) → y ≡ with_lines_of d h (after x (effect_of x word) value) → k ≡ slice_index s.counts h
    → next (Touch h v) t ≡ Some (record { harts = slice_set s.harts h y; counts = slice_set s.counts h (k + 1); memory = s.memory; devices = d })
touch_state s t h k value word v x y access d e g stop f r a b =
    subst (λ z. next (Touch h v) z ≡ Some (record { harts = slice_set s.harts h y; counts = slice_set s.counts h (k + 1); memory = s.memory; devices = d })) e
    (touch_found s h v x word access g stop f
    ∙ ap (option_map (accessed s h x (effect_of x word))) (replayed_some (touched s.devices access v) s.devices d value r)
    ∙ ap (λ z. Some (record { harts = slice_set s.harts h z; counts = slice_set s.counts h (slice_index s.counts h + 1); memory = s.memory; devices = d }))
    (sym a)
    ∙ ap (λ z. Some (record { harts = slice_set s.harts h y; counts = slice_set s.counts h (z + 1); memory = s.memory; devices = d })) (sym b))

-- the state after a call whose input did not suit
pub touch_state_kept : (s t : FlatState) (h word : ℕ) (v : Input) (x : Hart) (access : Access) (d : Devices) → s ≡ t → slice_get s.harts h ≡ Some x
    → is_some s.devices.stop ≡ false → FindsAccess x s.memory (Some (word, access))
    → MadeAgain (touched s.devices access v) s.devices d None → (next (Touch h v) t ≡ None) × (record s { devices = d } ≡ t)
touch_state_kept s t h word v x access d e g stop f r =
    let k = replayed_none (touched s.devices access v) s.devices d r in (
      subst (λ z. next (Touch h v) z ≡ None) e (touch_found s h v x word access g stop f ∙ ap (option_map (accessed s h x (effect_of x word))) (k.0)),
      ap (λ z. record s { devices = z }) (k.1) ∙ e,
    )

-- the access that was found has room, where it sends a byte
pub access_has_room : (m n : FlatWithRoom) (h word : ℕ) (v : Input) (x : Hart) (access : Access) → m ≡ n → slice_get m.state.harts h ≡ Some x
    → FindsAccess x m.state.memory (Some (word, access))
    → SendsWithRoom (Touch h v) n → HasRoom (record { devices = m.state.devices; spare = m.spare }) access
access_has_room m n h word v x access e g f r =
    let of_hart : IfSome (slice_get m.state.harts h) (NextHasRoom m) = subst (SendsWithRoom (Touch h v)) (sym e) r in
    let next : NextHasRoom m x = subst (λ o. IfSome o (NextHasRoom m)) g of_hart in
    subst (λ o. IfSome o (HasRoom (record { devices = m.state.devices; spare = m.spare }))) (ap (λ z. access_of (need_of z)) f.0 ∙ f.1) next

word_has_room : (m : FlatWithRoom) (access : Access) (o : Option DeviceWord) → 0 < m.spare → IfSome o (λ word. IsTrue (sends word access.store) → 0 < m.spare)
word_has_room m access None p = tt
word_has_room m access (Some word) p = λ _. p

next_has_room : (m : FlatWithRoom) (x : Hart) (o : Option Access) → 0 < m.spare → IfSome o (HasRoom (record { devices = m.state.devices; spare = m.spare }))
next_has_room m x None p = tt
next_has_room m x (Some access) p = word_has_room m access (device_word m.state.devices.harts access.at) p

hart_has_room : (m : FlatWithRoom) (o : Option Hart) → 0 < m.spare → IfSome o (NextHasRoom m)
hart_has_room m None p = tt
hart_has_room m (Some x) p = next_has_room m x (access_of (need_of (next_move x m.state.memory))) p

-- where there is room at all, every Touch has it
pub touch_has_room : (m : FlatWithRoom) (h : ℕ) (v : Input) → 0 < m.spare → SendsWithRoom (Touch h v) m
touch_has_room m h v p = hart_has_room m (slice_get m.state.harts h) p

pub touched_fits : (xs : List Hart) (counts memory : List ℕ) (p n n' h c : ℕ) (y : Hart) → FitsTogether xs counts memory p n → n' ≡ n → OnBoard n p y
    → FitsTogether (set xs h y) (set counts h c) memory p n'
touched_fits xs counts memory p n n' h c y f e o =
    subst (λ z. FitsTogether (set xs h y) (set counts h c) memory p z) (sym e)
    (record {
      memory_size = f.memory_size;
      counts_size = length-set counts h c ∙ f.counts_size ∙ sym (length-set xs h y);
      harts_size = length-set xs h y ∙ f.harts_size;
      same_board = All-set (OnBoard n p) xs h y o f.same_board;
    })

pub ruleset acting = (run_nobody, lose_nobody, run_kept, run_made, lose_made, moved_fits, set_fits, touch_nobody, touch_stopped, touch_no_access)
