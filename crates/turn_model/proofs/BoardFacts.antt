-- The board's flat machine gives what turns ask of it.
use Rattle.std.proofs.Common.{◌≡◌, ℕ, ◌||◌, Bool, true, false, List, [], ◌++◌, length, map, Option, Some, None, slice_get, slice_set, nat_lt, nat_le}
use Rattle.std.proofs.Common.{is_some, refl, sym, ap, ◌∙◌, subst, inl, inr, ◌⊎◌, if◌then◌else◌, true≢false}
use Rattle.std.specs.Option.{option_map, option_and_then}
use Rattle.std.specs.List.{range_with_len}
use Rattle.std.proofs.lemmas.List.FromFn.{length-range_with_len}
use Rattle.std.proofs.lemmas.Option.{none-some, same_Some, slice_get_within}
use Rattle.std.proofs.lemmas.Bool.Decides.{eqb_tells}
use Rattle.rv_words.specs.declared.shared.Access.{Access}
use Rattle.rv_words.specs.declared.shared.Input.{Input}
use Rattle.rv_words.specs.declared.shared.Input.TheVariants as inputs
use Rattle.rv_words.specs.declared.shared.DeviceWord.{DeviceWord}
use Rattle.rv_words.specs.declared.shared.DeviceWord.TheVariants as words
use Rattle.rv_words.specs.Addresses.{device_word}
use Rattle.log_entry.specs.Parts.{time_of_input}
use Rattle.device_board.specs.State.{Devices, with_time}
use Rattle.device_board.specs.Recording.{bytes_given}
use Rattle.std.proofs.lemmas.List.{length-append, append-nil, length-map, length-replicate}
use Rattle.std.proofs.lemmas.Bool.{or_parts}
use Rattle.shared_types.proofs.Lists.{bound_to, chosen, get_map, map_at, mapped, not_chosen, set_here, set_there, unless}
use Rattle.rv_hart.specs.State.{Hart}
use Rattle.rv_hart.specs.Moves.{hart_at_start, after, need_of}
use Rattle.rv_hart.specs.declared.effect.Effect.{Effect}
use Rattle.rv_hart.specs.declared.effect.Effect.TheVariants.{Sets, Jumps, Loads, Stores, Reserves, Commits, Fails, Updates, DeviceLoads, DeviceStores}
use Rattle.rv_hart.specs.declared.effect.Effect.TheVariants.{WritesCsr, Returns, Traps}
use Rattle.rv_hart.specs.declared.effect.Wrote.{Wrote}
use Rattle.rv_hart.specs.declared.effect.Wrote.TheVariants as wrote
use Rattle.device_board.specs.Accesses.{touched, word_touched, loaded, timed, stored}
use Rattle.rv_words.specs.Limits.{IsUnit}
use Rattle.elf_image.specs.Image.{Image}
use Rattle.flat_machine.specs.State.{FlatState, flat_at_start}
use Rattle.flat_machine.specs.Moves.{next_move, access_of, lost_by, writes_in}
use Rattle.flat_machine.specs.Acts.{next, ran, accessed, touch_made, poll_made, lost}
use Rattle.flat_machine.specs.declared.act.Act.{Act}
use Rattle.flat_machine.specs.declared.act.Act.TheVariants.{Run, Touch, Poll, Lose}
use Rattle.replay_model.specs.Board.{board, hart_access, next_access}
use Rattle.crew_recording.specs.Laws as crew
use Rattle.crew_recording.specs.Recording.{IsSteady}
use Rattle.crew_recording.specs.Allowed.{IsTimed}
use Rattle.crew_recording.proofs.Whole.{board_timed}
use Rattle.crew_recording.proofs.Steady.{leaves, board_steady}
use Rattle.turn_model.specs.Board.{Terms}
use Rattle.turn_model.specs.Recordable.{board_machine}
use Rattle.turn_model.specs.Faithful.{IsFaithful, AccessesSend, is_access, time_in}
use Rattle.turn_model.specs.Laws.{IsPagedBoard}
use Rattle.turn_model.proofs.BoardNeeds.{Divides, need_of_hart}

-- a move leaves the number of pages of its hart, and of the others
after_pages : (x : Hart) (e : Effect) (loaded : ℕ) → (after x e loaded).pages ≡ x.pages
after_pages x (Sets rd value) loaded = refl
after_pages x (Jumps rd target) loaded = refl
after_pages x (Loads op rd at) loaded = refl
after_pages x (Stores at size value) loaded = refl
after_pages x (Reserves rd at) loaded = refl
after_pages x (Commits rd at value) loaded = refl
after_pages x (Fails rd at) loaded = refl
after_pages x (Updates op rd at operand) loaded = refl
after_pages x (DeviceLoads rd at) loaded = refl
after_pages x (DeviceStores at value) loaded = refl
after_pages x (WritesCsr rd old number value) loaded = refl
after_pages x Returns loaded = refl
after_pages x (Traps cause value) loaded = refl

lost_pages : (w : Wrote) (x : Hart) → (lost_by w x).pages ≡ x.pages
lost_pages wrote.Nothing x = refl
lost_pages (wrote.Bytes at size value) x = by (writes_in at x.reserved) where
  by : (b : Bool) → (if b then record x { reserved = None } else x).pages ≡ x.pages
  by true = refl
  by false = refl

abbrev Pages : ℕ → List Hart → Type 0
Pages pages harts = (h : ℕ) (x : Hart) → slice_get harts h ≡ Some x → x.pages ≡ pages

set_pages : (pages : ℕ) (harts : List Hart) (h : ℕ) (x y : Hart) → slice_get harts h ≡ Some x → Pages pages harts → y.pages ≡ x.pages
    → Pages pages (slice_set harts h y)
set_pages pages harts h x y at all same g z is = elim (eqb_tells g h) [
  | inl (t, e) ↦
      let now : Some y ≡ Some z = sym (set_here harts h y (slice_get_within harts h x at)) ∙ subst (λ k. slice_get (slice_set harts h y) k ≡ Some z) e is in
      ap (λ (w : Hart). w.pages) (sym (same_Some _ _ now)) ∙ same ∙ all h x at
  | inr (f, n) ↦ all g z (sym (set_there harts h g y n) ∙ is)
]

lost_all : (pages : ℕ) (w : Wrote) (harts : List Hart) → Pages pages harts → Pages pages (map (lost_by w) harts)
lost_all pages w harts all h y is =
    let x = map_at (lost_by w) harts h y is in
    ap (λ (z : Hart). z.pages) (sym x.2) ∙ lost_pages w x.0 ∙ all h x.0 x.1

pages_kept : (pages : ℕ) (s t : FlatState) (act : Act) → Pages pages s.harts → next act s ≡ Some t → Pages pages t.harts
pages_kept pages s t (Run h) all is =
    let x = bound_to (λ x. ran s h x (next_move x s.memory)) (slice_get s.harts h) t is in
    let c = (chosen (is_some (access_of (need_of (next_move x.0 s.memory)))) _ t x.2).1 in
    subst (λ (u : FlatState). Pages pages u.harts) c
    (set_pages pages (map (lost_by _) s.harts) h (lost_by _ x.0) _ (get_map (lost_by _) s.harts h x.0 x.1) (lost_all pages _ s.harts all)
    (after_pages x.0 (next_move x.0 s.memory) _ ∙ sym (lost_pages _ x.0)))
pages_kept pages s t (Touch h input) all is =
    let x = bound_to (λ x. touch_made s h input x (next_move x s.memory)) (slice_get s.harts h) t is in
    let d = mapped (accessed s h x.0 (next_move x.0 s.memory)) _ t (unless (is_some s.devices.stop) _ t x.2) in
    subst (λ (u : FlatState). Pages pages u.harts) d.2 (set_pages pages s.harts h x.0 _ x.1 all (after_pages x.0 (next_move x.0 s.memory) d.0.1))
pages_kept pages s t (Poll h time) all is =
    let x = bound_to (poll_made s h time) (slice_get s.harts h) t is in
    subst (λ (u : FlatState). Pages pages u.harts) ((chosen (is_some s.devices.stop || nat_lt time s.devices.mtime) _ t x.2).1)
    (set_pages pages s.harts h x.0 _ x.1 all refl)
pages_kept pages s t (Lose h) all is =
    let x = mapped (lost s h) (slice_get s.harts h) t is in
    subst (λ (u : FlatState). Pages pages u.harts) x.2 (set_pages pages s.harts h x.0 _ x.1 all refl)

some_is : {A : Type 0} (o : Option A) (x : A) → o ≡ Some x → is_some o ≡ true
some_is o x e = ap is_some e

touch_tells : (unit : ℕ) (s t : FlatState) (h : ℕ) (input : Input) → next (Touch h input) s ≡ Some t
    → ((board unit).is_at_device s h ≡ true) × ((board unit).suits s h input ≡ true) × (is_some s.devices.stop ≡ false)
touch_tells unit s t h input is =
    let x = bound_to (λ x. touch_made s h input x (next_move x s.memory)) (slice_get s.harts h) t is in
    let running = not_chosen (is_some s.devices.stop) _ t x.2 in
    let d = mapped (accessed s h x.0 (next_move x.0 s.memory))
    (option_and_then (λ access. touched s.devices access input) (access_of (need_of (next_move x.0 s.memory)))) t
    (unless (is_some s.devices.stop) _ t x.2) in
    let a = bound_to (λ access. touched s.devices access input) (access_of (need_of (next_move x.0 s.memory))) d.0 d.1 in
    let access : hart_access s h ≡ Some a.0 = ap (option_and_then (λ x. next_access x s.memory)) x.1 ∙ a.1 in
    (some_is (hart_access s h) a.0 access, ap (λ o. is_some (option_and_then (λ access. touched s.devices access input) o)) access ∙ ap is_some a.2, running)

poll_tells : (s t : FlatState) (h time : ℕ) → next (Poll h time) s ≡ Some t → is_some s.devices.stop ≡ false
poll_tells s t h time is =
    let x = bound_to (poll_made s h time) (slice_get s.harts h) t is in
    (or_parts (is_some s.devices.stop) (nat_lt time s.devices.mtime) (not_chosen (is_some s.devices.stop || nat_lt time s.devices.mtime) _ t x.2)).0

-- a Touch alone changes the devices but for the time, and a Poll that
devices_stay : {X : Type 0} (view : Devices → X) (s t : FlatState) (act : Act) → is_access act ≡ false
    → ((time : ℕ) → time_in act ≡ Some time → view (with_time time s.devices) ≡ view s.devices) → next act s ≡ Some t → view t.devices ≡ view s.devices
devices_stay view s t (Run h) plain timed is =
    let x = bound_to (λ x. ran s h x (next_move x s.memory)) (slice_get s.harts h) t is in
    sym (ap (λ (u : FlatState). view u.devices) ((chosen (is_some (access_of (need_of (next_move x.0 s.memory)))) _ t x.2).1))
devices_stay view s t (Touch h input) plain timed is = absurd (true≢false plain)
devices_stay view s t (Poll h time) plain timed is =
    let x = bound_to (poll_made s h time) (slice_get s.harts h) t is in
    sym (ap (λ (u : FlatState). view u.devices) ((chosen (is_some s.devices.stop || nat_lt time s.devices.mtime) _ t x.2).1)) ∙ timed time refl
devices_stay view s t (Lose h) plain timed is =
    let x = mapped (lost s h) (slice_get s.harts h) t is in
    sym (ap (λ (u : FlatState). view u.devices) x.2)

-- what a Touch did to the devices
touch_did : (s t : FlatState) (h : ℕ) (input : Input) → next (Touch h input) s ≡ Some t
    → (access : Access) × (hart_access s h ≡ Some access) × ((loaded : ℕ) × (touched s.devices access input ≡ Some (t.devices, loaded)))
touch_did s t h input is =
    let x = bound_to (λ x. touch_made s h input x (next_move x s.memory)) (slice_get s.harts h) t is in
    let d = mapped (accessed s h x.0 (next_move x.0 s.memory))
    (option_and_then (λ access. touched s.devices access input) (access_of (need_of (next_move x.0 s.memory)))) t
    (unless (is_some s.devices.stop) _ t x.2) in
    let a = bound_to (λ access. touched s.devices access input) (access_of (need_of (next_move x.0 s.memory))) d.0 d.1 in (
      a.0,
      ap (option_and_then (λ x. next_access x s.memory)) x.1 ∙ a.1,
      (d.0.1, a.2 ∙ ap (λ devices. Some (devices, d.0.1)) (ap (λ (u : FlatState). u.devices) d.2)),
    )

-- a load changes the time alone, to that of its input
abbrev Timed : Devices → Devices → Input → Type 0
Timed d e input = (e ≡ d) ⊎ ((t : ℕ) × (input ≡ inputs.Time t) × (e ≡ with_time t d))

same_first : (d e : Devices) (v w : ℕ) → ◌≡◌ {A = Option (Devices × ℕ)} (Some (d, v)) (Some (e, w)) → e ≡ d
same_first d e v w is = sym (ap (λ (z : Devices × ℕ). z.0) (same_Some _ _ is))

timed_did : (d e : Devices) (t v w : ℕ) → timed d t v ≡ Some (e, w) → Timed d e (inputs.Time t)
timed_did d e t v w is = by (nat_le d.mtime t) is where
  made : Option (Devices × ℕ)
  made = Some (with_time t d, v)

  by : (b : Bool) → (if b then made else None) ≡ Some (e, w) → Timed d e (inputs.Time t)
  by true is = inr (t, refl, same_first (with_time t d) e v w is)
  by false is = absurd (none-some _ is)

load_did : (d e : Devices) (word : DeviceWord) (input : Input) (w : ℕ) → loaded d word input ≡ Some (e, w) → Timed d e input
load_did d e (words.Msip h) inputs.Nothing w is = inl (same_first _ e _ w is)
load_did d e (words.Msip h) inputs.Empty w is = absurd (none-some _ is)
load_did d e (words.Msip h) (inputs.Byte b) w is = absurd (none-some _ is)
load_did d e (words.Msip h) (inputs.Time t) w is = absurd (none-some _ is)
load_did d e (words.CompareLow h) inputs.Nothing w is = inl (same_first _ e _ w is)
load_did d e (words.CompareLow h) inputs.Empty w is = absurd (none-some _ is)
load_did d e (words.CompareLow h) (inputs.Byte b) w is = absurd (none-some _ is)
load_did d e (words.CompareLow h) (inputs.Time t) w is = absurd (none-some _ is)
load_did d e (words.CompareHigh h) inputs.Nothing w is = inl (same_first _ e _ w is)
load_did d e (words.CompareHigh h) inputs.Empty w is = absurd (none-some _ is)
load_did d e (words.CompareHigh h) (inputs.Byte b) w is = absurd (none-some _ is)
load_did d e (words.CompareHigh h) (inputs.Time t) w is = absurd (none-some _ is)
load_did d e words.TimeLow inputs.Nothing w is = absurd (none-some _ is)
load_did d e words.TimeLow inputs.Empty w is = absurd (none-some _ is)
load_did d e words.TimeLow (inputs.Byte b) w is = absurd (none-some _ is)
load_did d e words.TimeLow (inputs.Time t) w is = timed_did d e t _ w is
load_did d e words.TimeHigh inputs.Nothing w is = absurd (none-some _ is)
load_did d e words.TimeHigh inputs.Empty w is = absurd (none-some _ is)
load_did d e words.TimeHigh (inputs.Byte b) w is = absurd (none-some _ is)
load_did d e words.TimeHigh (inputs.Time t) w is = timed_did d e t _ w is
load_did d e words.Rx inputs.Nothing w is = absurd (none-some _ is)
load_did d e words.Rx inputs.Empty w is = inl (same_first _ e _ w is)
load_did d e words.Rx (inputs.Byte b) w is = inl (same_first _ e _ w is)
load_did d e words.Rx (inputs.Time t) w is = absurd (none-some _ is)
load_did d e words.Tx inputs.Nothing w is = inl (same_first _ e _ w is)
load_did d e words.Tx inputs.Empty w is = absurd (none-some _ is)
load_did d e words.Tx (inputs.Byte b) w is = absurd (none-some _ is)
load_did d e words.Tx (inputs.Time t) w is = absurd (none-some _ is)
load_did d e words.Stop inputs.Nothing w is = inl (same_first _ e _ w is)
load_did d e words.Stop inputs.Empty w is = absurd (none-some _ is)
load_did d e words.Stop (inputs.Byte b) w is = absurd (none-some _ is)
load_did d e words.Stop (inputs.Time t) w is = absurd (none-some _ is)

pub none_given : (word : DeviceWord) → bytes_given word None ≡ []
none_given (words.Msip h) = refl
none_given (words.CompareLow h) = refl
none_given (words.CompareHigh h) = refl
none_given words.TimeLow = refl
none_given words.TimeHigh = refl
none_given words.Rx = refl
none_given words.Tx = refl
none_given words.Stop = refl

-- a store sends what it gives, and leaves the time
store_did : (d : Devices) (word : DeviceWord) (v : ℕ) → ((stored d word v).sent ≡ d.sent ++ bytes_given word (Some v)) × ((stored d word v).mtime ≡ d.mtime)
store_did d (words.Msip h) v = (sym (append-nil d.sent), refl)
store_did d (words.CompareLow h) v = (sym (append-nil d.sent), refl)
store_did d (words.CompareHigh h) v = (sym (append-nil d.sent), refl)
store_did d words.TimeLow v = (sym (append-nil d.sent), refl)
store_did d words.TimeHigh v = (sym (append-nil d.sent), refl)
store_did d words.Rx v = (sym (append-nil d.sent), refl)
store_did d words.Tx v = (refl, refl)
store_did d words.Stop v = (sym (append-nil d.sent), refl)

-- an access sends what it gives, and leaves the time where its input has none
pub word_did : (d e : Devices) (word : DeviceWord) (store : Option ℕ) (input : Input) (w : ℕ) → word_touched d word store input ≡ Some (e, w)
    → (e.sent ≡ d.sent ++ bytes_given word store) × (time_of_input input ≡ None → e.mtime ≡ d.mtime)
word_did d e word None input w is = by (load_did d e word input w is) where
  by : Timed d e input → (e.sent ≡ d.sent ++ bytes_given word None) × (time_of_input input ≡ None → e.mtime ≡ d.mtime)
  by (inl same) = (
    ap (λ (x : Devices). x.sent) same ∙ sym (ap (λ bytes. d.sent ++ bytes) (none_given word) ∙ append-nil d.sent),
    λ _. ap (λ (x : Devices). x.mtime) same,
  )
  by (inr timed) = (
    ap (λ (x : Devices). x.sent) timed.2 ∙ sym (ap (λ bytes. d.sent ++ bytes) (none_given word) ∙ append-nil d.sent),
    λ none. absurd (none-some _ (sym none ∙ ap time_of_input timed.1)),
  )
word_did d e word (Some v) inputs.Nothing w is =
    let same = same_first (stored d word v) e 0 w is in
    let did = store_did d word v in
    (ap (λ (x : Devices). x.sent) same ∙ did.0, λ _. ap (λ (x : Devices). x.mtime) same ∙ did.1)
word_did d e word (Some v) inputs.Empty w is = absurd (none-some _ is)
word_did d e word (Some v) (inputs.Byte b) w is = absurd (none-some _ is)
word_did d e word (Some v) (inputs.Time t) w is = absurd (none-some _ is)

time_stays : (s t : FlatState) (act : Act) → time_in act ≡ None → next act s ≡ Some t → t.devices.mtime ≡ s.devices.mtime
time_stays s t (Run h) none is = devices_stay (λ d. d.mtime) s t (Run h) refl (λ time e. absurd (none-some _ e)) is
time_stays s t (Touch h input) none is =
    let x = touch_did s t h input is in
    let w = bound_to (λ word. word_touched s.devices word x.0.store input) (device_word s.devices.harts x.0.at) (t.devices, x.2.0) x.2.1 in
    (word_did s.devices t.devices w.0 x.0.store input x.2.0 w.2).1 none
time_stays s t (Poll h time) none is = absurd (none-some _ (sym none))
time_stays s t (Lose h) none is = devices_stay (λ d. d.mtime) s t (Lose h) refl (λ time e. absurd (none-some _ e)) is

pub board_sends : (unit : ℕ) → AccessesSend (board_machine unit)
board_sends unit s t h word store input access is =
    let x = touch_did s t h input is in
    let w = bound_to (λ word. word_touched s.devices word x.0.store input) (device_word s.devices.harts x.0.at) (t.devices, x.2.0) x.2.1 in
    let named : (board_machine unit).access s h ≡ Some (w.0, x.0.store) =
    ap (option_and_then (λ a. option_map (λ word. (word, a.store)) (device_word s.devices.harts a.at))) x.1 ∙ ap (option_map (λ word. (word, x.0.store))) w.1 in
    let same = same_Some _ _ (sym named ∙ access) in
    let did = (word_did s.devices t.devices w.0 x.0.store input x.2.0 w.2).0 ∙ ap (λ (p : DeviceWord × Option ℕ). s.devices.sent ++ bytes_given p.0 p.1) same in
    ap (λ (bytes : List ℕ). length bytes) did ∙ length-append s.devices.sent (bytes_given word store)

board_steadier : (unit harts pages : ℕ) → IsSteady (board unit) harts (IsPagedBoard harts pages)
board_steadier unit harts pages = record {
  lasts = λ s t act on is. let l = leaves s t act harts (plain s on) is in
      record { harts_size = l.harts ∙ on.harts_size; counts_size = l.counts ∙ on.counts_size; pages_are = pages_kept pages s t act on.pages_are is };
  rises = λ s t act h on is. (board_steady unit harts).rises s t act h (plain s on) is;
  moves = λ s t h on is. (board_steady unit harts).moves s t h (plain s on) is;
  no_more = λ s h on l. (board_steady unit harts).no_more s h (plain s on) l;
}
  where
    plain : (s : FlatState) → IsPagedBoard harts pages s → crew.IsBoard harts s
    plain s on = record { harts_size = on.harts_size; counts_size = on.counts_size }

board_timelier : (unit harts pages : ℕ) → IsTimed (board unit) (IsPagedBoard harts pages)
board_timelier unit harts pages = record {
  touch_moves = λ s t h input on is. (board_timed unit harts).touch_moves s t h input (plain s on) is;
  poll_stays = λ s t h time on is. (board_timed unit harts).poll_stays s t h time (plain s on) is;
  lose_stays = λ s t h on is. (board_timed unit harts).lose_stays s t h (plain s on) is;
  others = λ s t act g on is n. (board_timed unit harts).others s t act g (plain s on) is n;
  later = λ s t act on is. (board_timed unit harts).later s t act (plain s on) is;
  touch_time = λ s t h time on is. (board_timed unit harts).touch_time s t h time (plain s on) is;
  poll_time = λ s t h time on is. (board_timed unit harts).poll_time s t h time (plain s on) is;
}
  where
    plain : (s : FlatState) → IsPagedBoard harts pages s → crew.IsBoard harts s
    plain s on = record { harts_size = on.harts_size; counts_size = on.counts_size }

pub board_faithful : (unit harts pages units : ℕ) → IsUnit unit → Divides unit pages units → IsFaithful (board unit) harts units (IsPagedBoard harts pages)
board_faithful unit harts pages units is_unit divides = record {
  steady = board_steadier unit harts pages;
  timed = board_timelier unit harts pages;
  inside = λ s h on. need_of_hart unit pages units s.memory (slice_get s.harts h) is_unit divides (λ x e. on.pages_are h x e);
  touches = touch_tells unit;
  stops = λ s t act plain is. devices_stay (λ d. is_some d.stop) s t act plain (λ time e. refl) is;
  sends = λ s t act plain is. devices_stay (λ d. d.sent) s t act plain (λ time e. refl) is;
  times = time_stays;
  polls = poll_tells;
}

starts_with : (pages : ℕ) (f : ℕ → Hart) (ids : List ℕ) (h : ℕ) (x : Hart) → ((id : ℕ) → (f id).pages ≡ pages) → slice_get (map f ids) h ≡ Some x
    → x.pages ≡ pages
starts_with pages f ids h x all e = let m = map_at f ids h x e in ap (λ (z : Hart). z.pages) (sym m.2) ∙ all m.0

pub start_is_board : (image : Image) (harts : ℕ) → IsPagedBoard harts image.pages (flat_at_start image harts)
start_is_board image harts = record {
  harts_size = length-map (range_with_len 0 harts) _ ∙ length-range_with_len 0 harts;
  counts_size = length-replicate harts 0;
  pages_are = λ h x e. starts_with image.pages (λ id. hart_at_start id harts image.pages image.entry) (range_with_len 0 harts) h x (λ id. refl) e;
}

pub start_with : (terms : Terms) (image : Image) (harts : ℕ) → terms.pages ≡ image.pages → IsPagedBoard harts terms.pages (flat_at_start image harts)
start_with terms image harts pages = subst (λ p. IsPagedBoard harts p (flat_at_start image harts)) (sym pages) (start_is_board image harts)
