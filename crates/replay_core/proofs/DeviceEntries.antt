-- A Poll or a Touch, as an item.
use Rattle.std.proofs.Common.{◌≡◌, ◌≢◌, ℕ, ◌+◌, ◌<◌, ◌≤◌, ◌==◌, max, not, Bool, true, false, [], ◌∷◌, length, Option, Some, None, is_some}
use Rattle.std.proofs.Common.{slice_index, refl, sym, ap, ap₂, ◌∙◌, subst, arith, if◌then◌else◌}
use Rattle.std.proofs.lemmas.Bool.{eqb-true, eq-eqb, ne_eqb}
use Rattle.std.specs.Prelude.{IfSome, IsTrue}
use Rattle.elf_image.specs.Image.{Image}
use Rattle.rv_words.specs.declared.shared.Mode.{Mode}
use Rattle.rv_words.specs.declared.shared.Input.{Input}
use Rattle.rv_words.specs.declared.shared.Access.{Access}
use Rattle.rv_words.specs.declared.shared.DeviceWord.{DeviceWord}
use Rattle.device_board.specs.State.{Devices, lines_at}
use Rattle.device_board.specs.Accesses.{touched, sends, RoomIsKept}
use Rattle.log_entry.specs.declared.log.Entry.TheVariants as entries
use Rattle.log_entry.specs.Parts.{unit_of}
use Rattle.log_entry.specs.declared.log.Log.{Log}
use Rattle.order_rules.specs.Places.{entry_at}
use Rattle.order_rules.specs.Rules.{time_before}
use Rattle.order_rules.specs.Cursor.{Cursor, guard_is_met}
use Rattle.flat_machine.specs.State.{FlatState}
use Rattle.flat_machine.specs.declared.act.Act.{Act}
use Rattle.flat_machine.specs.declared.act.Act.TheVariants as act
use Rattle.replay_model.specs.Board.{board}
use Rattle.replay_model.specs.State.{Replay}
use Rattle.replay_model.specs.Items.{Makes, Holds, HasDiverged, tests, verdict_on, acted, effect}
use Rattle.shared_types.proofs.Lists.{mapped}
use Rattle.run_model.specs.Run.{Run, ahead_of}
use Rattle.run_model.specs.Agreement.{Agrees, IsAhead}
use Rattle.run_model.specs.declared.asked.Ahead.TheVariants as ahead
use Rattle.run_model.proofs.Laws.{ahead_agrees}
use Rattle.board_backing.specs.declared.backing.Backing.{Backing}
use Rattle.board_backing.specs.declared.backing.Polled.{Polled}
use Rattle.board_backing.specs.Backing as backings
use Rattle.board_backing.proofs.Touches.{suits_is}
use Rattle.replay_law.proofs.Verdicts.{judge}
use Rattle.replay_law.proofs.Times.{not_before}
use Rattle.replay_core.specs.declared.position.Position.{Position}
use Rattle.replay_core.specs.declared.went.Next.TheVariants as nexts
use Rattle.replay_core.specs.declared.went.Went.TheVariants as went
use Rattle.replay_core.specs.Items.{IsNext}
use Rattle.replay_core.specs.Standing.{IsRoomy, Stands, Goes, Passes, item_of}
use Rattle.replay_core.proofs.StateAfterItem.{reached, store_unit, ahead_is, entered, stayed}
use Rattle.replay_core.proofs.MovesMade.{hart_there}
use Rattle.replay_core.proofs.EntriesMade.{due_at}
use Rattle.replay_core.proofs.BytesSent.{one_sent}

pub device_hart : (image : Image) (b : Position) (r : Run) (h : ℕ) (s : Replay FlatState) → Stands image b s → Agrees r h s
    → h < b.backing.devices.devices.harts
device_hart image b r h s st a = let l = hart_there image b r h s st a in let k = st.roomy.harts in omega (arith, l, k)

roomy_by : (old new : Position) → new.log ≡ old.log → new.backing.devices.devices.harts ≡ old.backing.devices.devices.harts
    → RoomIsKept old.backing.devices new.backing.devices → length new.backing.devices.devices.sent ≤ new.cursor.ordinal → IsRoomy old → IsRoomy new
roomy_by old new log harts kept sent roomy = record {
  harts = harts ∙ roomy.harts ∙ ap (λ (l : Log). length l.streams) (sym log);
  sent = sent;
  room = λ h i k e at is. let r = roomy.room h i k e (subst (λ l. entry_at l h i ≡ Some e) log at) is in omega (arith, r, kept);
}

acted_cursor : (u : ℕ) (s t : Replay FlatState) (did : Act) → acted (board u) s did ≡ Some t → t.cursor ≡ s.cursor
acted_cursor u s t did is = let m = mapped (λ (f : FlatState). record s { flat = f }) ((board u).next s.flat did) t is in
    ap (λ (z : Replay FlatState). z.cursor) (sym m.2)

poll_verdict : (u : ℕ) (s : Replay FlatState) (h count ord time bits : ℕ) (a b : Bool) → guard_is_met s.cursor (entries.Poll count ord time bits) ≡ true
    → (lines_at s.flat.devices h time == bits) ≡ a → is_some s.flat.devices.stop ≡ b
    → verdict_on (board u) s h (Makes (entries.Poll count ord time bits)) ≡ judge (board u) ((5, not a) ∷ (6, b) ∷ [])
poll_verdict u s h count ord time bits a b guard lines stop =
    ap (λ x. if x then judge (board u) (tests (board u) s h (Makes (entries.Poll count ord time bits))) else Holds) guard
    ∙ ap₂ (λ x y. judge (board u) ((5, not x) ∷ (6, y) ∷ [])) lines stop

-- a Poll with other lines
pub poll_off : (image : Image) (b : Position) (r : Run) (h time bits : ℕ) (s : Replay FlatState) → Stands image b s → Agrees r h s
    → IsNext b.cursor (item_of b r h) (nexts.Poll time bits) → lines_at b.backing.devices.devices h time ≢ bits → Goes image b r b.log h s (went.Diverged 5)
poll_off image b r h time bits s st a next other =
    let due = due_at image b r h (entries.Poll next.0 next.1.0 time bits) s st a next.1.1 in
    stayed image b r h (Makes (entries.Poll next.0 next.1.0 time bits)) (HasDiverged 5) s (went.Diverged 5) st a due.next
    (poll_verdict (unit_of b.log) s h next.0 next.1.0 time bits false (is_some s.flat.devices.stop) due.guard
    (ap (λ (d : Devices). lines_at d h time == bits) (sym st.backs.devices_are) ∙ ne_eqb _ bits other) refl) refl refl

stop_is : (image : Image) (b : Position) (s : Replay FlatState) (x : Bool) → Stands image b s → is_some b.backing.devices.devices.stop ≡ x
    → is_some s.flat.devices.stop ≡ x
stop_is image b s x st is = ap (λ (d : Devices). is_some d.stop) (sym st.backs.devices_are) ∙ is

pub poll_stopped : (image : Image) (b : Position) (r : Run) (h time bits : ℕ) (s : Replay FlatState) → Stands image b s → Agrees r h s
    → IsNext b.cursor (item_of b r h) (nexts.Poll time bits) → lines_at b.backing.devices.devices h time ≡ bits
    → is_some b.backing.devices.devices.stop ≡ true → Goes image b r b.log h s (went.Diverged 6)
poll_stopped image b r h time bits s st a next same stop =
    let due = due_at image b r h (entries.Poll next.0 next.1.0 time bits) s st a next.1.1 in
    stayed image b r h (Makes (entries.Poll next.0 next.1.0 time bits)) (HasDiverged 6) s (went.Diverged 6) st a due.next
    (poll_verdict (unit_of b.log) s h next.0 next.1.0 time bits true true due.guard
    (ap (λ (d : Devices). lines_at d h time == bits) (sym st.backs.devices_are) ∙ eq-eqb _ bits same) (stop_is image b s true st stop)) refl refl

later_time : (m t n : ℕ) → m ≤ t → n ≡ max m t → n ≡ t
later_time m t n l is = omega (arith, l, is)

pub poll_goes : (image : Image) (old new : Position) (backing : Backing) (r then_r : Run) (h time bits : ℕ) (polled : Polled) (s : Replay FlatState)
    → Stands image old s → Agrees r h s → IsNext old.cursor (item_of old r h) (nexts.Poll time bits)
    → lines_at old.backing.devices.devices h time ≡ bits → is_some old.backing.devices.devices.stop ≡ false
    → polled.time ≡ max old.backing.devices.devices.mtime time → polled.bits ≡ lines_at old.backing.devices.devices h polled.time
    → backing ≡ backings.devices_polled old.backing polled.time → new.log ≡ old.log → new.backing ≡ backing → Passes old new h
    → backings.PollLeads old.backing backing r then_r h polled → Goes image new then_r old.log h s went.Entry
poll_goes image old new backing r then_r h time bits polled s st a next lines stop time_is bits_is backing_eq log_is backing_is passes leads =
    let due = due_at image old r h (entries.Poll next.0 next.1.0 time bits) s st a next.1.1 in
    let cursor = passes (entries.Poll next.0 next.1.0 time bits) due.own_first next.1.1.1 in
    let timely = reached image old s st in
    let ordinal : next.1.0 ≡ s.cursor.ordinal = eqb-true next.1.0 s.cursor.ordinal due.guard in
    let before = timely.time in
    let bound = not_before old.log st.replayable.orderly.ordinals_and_times_rise h _ next.1.0 time
    (entries.Poll next.0 next.1.0 time bits) due.first refl refl in
    let mtime = ap (λ (d : Devices). d.mtime) st.backs.devices_are in
    let bound_here = subst (λ k. time_before old.log k ≤ time) ordinal bound in
    let same_time : polled.time ≡ time = later_time old.backing.devices.devices.mtime time polled.time (omega (arith, before, bound_here, mtime)) time_is in
    let same_bits : polled.bits ≡ bits = bits_is ∙ ap (lines_at old.backing.devices.devices h) same_time ∙ lines in
    let eq = backing_is ∙ backing_eq in
    let harts = ap (λ (z : Backing). z.devices.devices.harts) eq in
    let sent = ap (λ (z : Backing). length z.devices.devices.sent) eq in
    let spare = ap (λ (z : Backing). z.devices.spare) eq in
    let old_ordinal = ap (λ (c : Cursor). c.ordinal) st.cursor in
    let new_ordinal : new.cursor.ordinal ≡ next.1.0 + 1 = ap (λ (c : Cursor). c.ordinal) cursor in
    let old_sent = st.roomy.sent in
    entered image old new then_r h (entries.Poll next.0 next.1.0 time bits) s st due.next
    (poll_verdict (unit_of old.log) s h next.0 next.1.0 time bits true false due.guard
    (eq-eqb (lines_at s.flat.devices h time) bits (ap (λ (d : Devices). lines_at d h time) (sym st.backs.devices_are) ∙ lines))
    (stop_is image old s false st stop))
    (subst (λ z. backings.Leads old.backing z then_r h (effect (board (unit_of old.log)) s h (entries.Poll next.0 next.1.0 time bits))) (sym backing_is)
    (subst (λ u. backings.Leads old.backing backing then_r h (effect (board u) s h (entries.Poll next.0 next.1.0 time bits))) (store_unit image old s st)
    (subst (λ t. backings.Leads old.backing backing then_r h (effect (board old.backing.pages.unit) s h (entries.Poll next.0 next.1.0 t bits))) same_time
    (subst (λ k. backings.Leads old.backing backing then_r h (effect (board old.backing.pages.unit) s h (entries.Poll next.0 next.1.0 polled.time k))) same_bits
    (leads next.0 next.1.0 s st.backs a)))))
    log_is cursor (roomy_by old new log_is harts (omega (arith, sent, spare)) (omega (arith, sent, old_sent, old_ordinal, new_ordinal, ordinal)) st.roomy)
    (λ t is. acted_cursor (unit_of old.log) s t (act.Poll h time) is)

-- a Touch whose move is a device access
access_verdict : (u : ℕ) (s : Replay FlatState) (h count ord : ℕ) (access : Access) (input : Input) (x y : Bool)
    → guard_is_met s.cursor (entries.Touch count ord input) ≡ true → IsAhead u h s (ahead.AtDevice access) → (board u).suits s.flat h input ≡ x
    → is_some s.flat.devices.stop ≡ y
    → verdict_on (board u) s h (Makes (entries.Touch count ord input)) ≡ judge (board u) ((4, not x) ∷ (6, y) ∷ [])
access_verdict u s h count ord access input x y guard asks suits stop =
    ap (λ z. if z then judge (board u) (tests (board u) s h (Makes (entries.Touch count ord input))) else Holds) guard
    ∙ ap₂ (λ (w : Option (ℕ × Mode)) (o : Option Access). judge (board u)
    ((1, is_some w) ∷ (3, not (is_some o)) ∷ (4, not ((board u).suits s.flat h input)) ∷ (6, (board u).is_stopped s.flat) ∷ [])) asks.0 asks.1
    ∙ ap₂ (λ p q. judge (board u) ((4, not p) ∷ (6, q) ∷ [])) suits stop

at_device : (image : Image) (b : Position) (r : Run) (h : ℕ) (access : Access) (s : Replay FlatState) → Stands image b s → Agrees r h s
    → ahead_of r ≡ ahead.AtDevice access → IsAhead (unit_of b.log) h s (ahead.AtDevice access)
at_device image b r h access s st a is = subst (IsAhead (unit_of b.log) h s) is (ahead_is image b r h s (ahead_of r) st a (ahead_agrees r h s a))

pub access_off : (image : Image) (b : Position) (r : Run) (h : ℕ) (access : Access) (input : Input) (s : Replay FlatState) → Stands image b s
    → Agrees r h s → IsNext b.cursor (item_of b r h) (nexts.Touch input) → ahead_of r ≡ ahead.AtDevice access
    → is_some (touched b.backing.devices.devices access input) ≡ false → Goes image b r b.log h s (went.Diverged 4)
access_off image b r h access input s st a next is off =
    let due = due_at image b r h (entries.Touch next.0 next.1.0 input) s st a next.1.1 in
    stayed image b r h (Makes (entries.Touch next.0 next.1.0 input)) (HasDiverged 4) s (went.Diverged 4) st a due.next
    (access_verdict (unit_of b.log) s h next.0 next.1.0 access input false (is_some s.flat.devices.stop) due.guard (at_device image b r h access s st a is)
    (sym (suits_is b.backing r h access input is s st.backs a) ∙ off) refl) refl refl

pub access_stopped : (image : Image) (b : Position) (r : Run) (h : ℕ) (access : Access) (input : Input) (s : Replay FlatState) → Stands image b s
    → Agrees r h s → IsNext b.cursor (item_of b r h) (nexts.Touch input) → ahead_of r ≡ ahead.AtDevice access
    → is_some (touched b.backing.devices.devices access input) ≡ true → is_some b.backing.devices.devices.stop ≡ true
    → Goes image b r b.log h s (went.Diverged 6)
access_stopped image b r h access input s st a next is on stop =
    let due = due_at image b r h (entries.Touch next.0 next.1.0 input) s st a next.1.1 in
    stayed image b r h (Makes (entries.Touch next.0 next.1.0 input)) (HasDiverged 6) s (went.Diverged 6) st a due.next
    (access_verdict (unit_of b.log) s h next.0 next.1.0 access input true true due.guard (at_device image b r h access s st a is)
    (sym (suits_is b.backing r h access input is s st.backs a) ∙ on) (stop_is image b s true st stop)) refl refl

pub access_goes : (image : Image) (old new : Position) (backing : Backing) (r then_r : Run) (h : ℕ) (access : Access) (input : Input) (made : Bool)
    (s : Replay FlatState) → Stands image old s → Agrees r h s → IsNext old.cursor (item_of old r h) (nexts.Touch input) → ahead_of r ≡ ahead.AtDevice access
    → is_some (touched old.backing.devices.devices access input) ≡ true → is_some old.backing.devices.devices.stop ≡ false
    → backings.Suits old.backing r h input made → (IsTrue made → backings.MadeBy old.backing.devices backing.devices access input)
    → backing.devices.devices.harts ≡ old.backing.devices.devices.harts → RoomIsKept old.backing.devices backing.devices
    → new.log ≡ old.log → new.backing ≡ backing → Passes old new h
    → (IsTrue made → backings.TouchLeads old.backing backing r then_r h input) → Goes image new then_r old.log h s went.Entry
access_goes image old new backing r then_r h access input made s st a next is on stop exact again harts_is kept log_is backing_is passes leads =
    let due = due_at image old r h (entries.Touch next.0 next.1.0 input) s st a next.1.1 in
    let cursor = passes (entries.Touch next.0 next.1.0 input) due.own_first next.1.1.1 in
    let suits : (board (unit_of old.log)).suits s.flat h input ≡ true = sym (suits_is old.backing r h access input is s st.backs a) ∙ on in
    let yes : made ≡ true = exact s st.backs a ∙ suits in
    let one = again yes in
    let more = one_sent old.backing.devices.devices access input (backing.devices.devices, one.0) one.1 in
    let ordinal : next.1.0 ≡ s.cursor.ordinal = eqb-true next.1.0 s.cursor.ordinal due.guard in
    let sent = ap (λ (z : Backing). length z.devices.devices.sent) backing_is in
    let old_ordinal = ap (λ (c : Cursor). c.ordinal) st.cursor in
    let new_ordinal : new.cursor.ordinal ≡ next.1.0 + 1 = ap (λ (c : Cursor). c.ordinal) cursor in
    let old_sent = st.roomy.sent in
    entered image old new then_r h (entries.Touch next.0 next.1.0 input) s st due.next
    (access_verdict (unit_of old.log) s h next.0 next.1.0 access input true false due.guard (at_device image old r h access s st a is) suits
    (stop_is image old s false st stop))
    (subst (λ z. backings.Leads old.backing z then_r h (effect (board (unit_of old.log)) s h (entries.Touch next.0 next.1.0 input))) (sym backing_is)
    (subst (λ u. backings.Leads old.backing backing then_r h (effect (board u) s h (entries.Touch next.0 next.1.0 input))) (store_unit image old s st)
    (leads yes next.0 next.1.0 s st.backs a)))
    log_is cursor
    (roomy_by old new log_is (ap (λ (z : Backing). z.devices.devices.harts) backing_is ∙ harts_is)
    (subst (λ (z : Backing). RoomIsKept old.backing.devices z.devices) (sym backing_is) kept)
    (omega (arith, more, sent, old_sent, old_ordinal, new_ordinal, ordinal)) st.roomy)
    (λ t e. acted_cursor (unit_of old.log) s t (act.Touch h input) e)

if_some : (o : Option DeviceWord) (P : DeviceWord → Type 0) → ((w : DeviceWord) → P w) → IfSome o P
if_some None P all = tt
if_some (Some w) P all = all w

-- there is room for what it sends
pub room_left : (image : Image) (b : Position) (r : Run) (h : ℕ) (input : Input) (store : Option ℕ) (o : Option DeviceWord) (s : Replay FlatState)
    → Stands image b s → Agrees r h s → IsNext b.cursor (item_of b r h) (nexts.Touch input)
    → IfSome o (λ word. IsTrue (sends word store) → 0 < b.backing.devices.spare)
room_left image b r h input store o s st a next =
    let due = due_at image b r h (entries.Touch next.0 next.1.0 input) s st a next.1.1 in
    let ordinal : next.1.0 ≡ s.cursor.ordinal = eqb-true next.1.0 s.cursor.ordinal due.guard in
    let room = st.roomy.room h (slice_index s.cursor.places h) next.1.0 (entries.Touch next.0 next.1.0 input) due.first refl in
    let sent = st.roomy.sent in
    let same = ap (λ (c : Cursor). c.ordinal) st.cursor in
    if_some o _ (λ w yes. omega (arith, ordinal, room, sent, same))
