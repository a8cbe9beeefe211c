-- An entry, as an item.
use Rattle.std.proofs.Common.{◌≡◌, ◌≢◌, inl, inr, ℕ, ◌<◌, ◌≤◌, not, Bool, true, false, [], ◌∷◌, length, Option, Some, None}
use Rattle.std.proofs.Common.{is_some, slice_get, slice_index, true≢false, refl, sym, ap, ap₂, ◌∙◌, subst, arith, if◌then◌else◌}
use Rattle.std.proofs.lemmas.Bool.{or_parts, cases_eq, leb-false}
use Rattle.std.proofs.lemmas.Option.{get_or_from_slice_get, same_Some}
use Rattle.elf_image.specs.Image.{Image}
use Rattle.rv_words.specs.declared.shared.Mode.{Mode}
use Rattle.rv_words.specs.declared.shared.Mode.TheVariants.{Read, Write}
use Rattle.rv_words.specs.declared.shared.Input.{Input}
use Rattle.device_board.specs.State.{DevicesWithRoom}
use Rattle.log_entry.specs.declared.log.Entry.{Entry}
use Rattle.log_entry.specs.declared.log.Entry.TheVariants as entries
use Rattle.log_entry.specs.declared.log.Log.{Log}
use Rattle.log_entry.specs.Waits.{WaitList}
use Rattle.log_entry.specs.Parts.{conflict, strength, page_number, is_some_and, unit_of}
use Rattle.order_rules.specs.Places.{stream, entry_at}
use Rattle.order_rules.specs.Cursor.{Cursor, first_left, guard_is_met}
use Rattle.order_rules.specs.Rules as rules
use Rattle.order_rules.specs.Rules.{breaks_o6}
use Rattle.order_rules.specs.Orderly.{o6}
use Rattle.order_rules.proofs.Least.{none_passes}
use Rattle.order_rules.proofs.Numbers.{in_stream, below_length}
use Rattle.log_order.proofs.Refusals.{small}
use Rattle.flat_machine.specs.State.{FlatState}
use Rattle.replay_model.specs.Board.{board}
use Rattle.order_rules.specs.Holders.{held, row}
use Rattle.replay_model.specs.State.{Replay, want}
use Rattle.replay_model.specs.Items.{Ended, Makes, HasEnded, Holds, CanGo, HasDiverged, next_item, tests, verdict_on, effect, acted}
use Rattle.replay_model.specs.Items.{ends_reservation, holds, past, goes, step}
use Rattle.order_rules.proofs.Follow.{held_here}
use Rattle.shared_types.proofs.Lists.{mapped}
use Rattle.std.specs.Option.{option_map}
use Rattle.flat_machine.specs.declared.act.Act.TheVariants.{Lose}
use Rattle.run_model.specs.Run.{Run, hold_of}
use Rattle.run_model.specs.Agreement.{Agrees, IsAhead}
use Rattle.run_model.specs.declared.asked.Ahead.TheVariants as ahead
use Rattle.std.proofs.lemmas.Option.{slice_get_within}
use Rattle.board_backing.specs.declared.backing.Backing.{Backing}
use Rattle.board_backing.specs.Backing as backings
use Rattle.board_backing.specs.Backing.{IsUnwritten}
use Rattle.replay_law.proofs.Progress.{makes_means}
use Rattle.replay_law.proofs.Verdicts.{judge}
use Rattle.order_rules.proofs.Takings.{number_met}
use Rattle.replay_law.proofs.Orders.{lasts}
use Rattle.replay_law.proofs.Tables.{held_stays}
use Rattle.replay_core.specs.declared.position.Position.{Position}
use Rattle.replay_core.specs.declared.went.Next.TheVariants as nexts
use Rattle.replay_core.specs.declared.went.Went.TheVariants as went
use Rattle.replay_core.specs.Items.{IsMet, IsNext}
use Rattle.replay_core.specs.Standing.{IsRoomy, Stands, Goes, Passes, item_of}
use Rattle.replay_core.proofs.StateAfterItem.{reached, store_unit, run_unit, item_is, entered, stayed}

-- an entry that is next, its guard met, at the state
pub record IsDueAt (b : Position) (h : ℕ) (e : Entry) (s : Replay FlatState) : Type 0 where
  pub next : next_item (board (unit_of b.log)) b.log s h ≡ Makes e
  pub guard : guard_is_met s.cursor e ≡ true
  pub first : first_left b.log s.cursor h ≡ Some e
  pub own_first : first_left b.log b.cursor h ≡ Some e

pub due_at : (image : Image) (b : Position) (r : Run) (h : ℕ) (e : Entry) (s : Replay FlatState) → Stands image b s → Agrees r h s
    → IsMet b.cursor (item_of b r h) e → IsDueAt b h e s
due_at image b r h e s st a met =
    let next : next_item (board (unit_of b.log)) b.log s h ≡ Makes e = item_is image b r h s st a ∙ met.0 in
    let due = makes_means ((board (unit_of b.log)).count s.flat h) (first_left b.log s.cursor h) e next in
    record {
      next = next;
      guard = ap (λ c. guard_is_met c e) (sym st.cursor) ∙ met.1;
      first = due.first;
      own_first = ap (λ c. first_left b.log c h) st.cursor ∙ due.first;
    }

-- the log, the devices and the room are as they were
pub roomy_on : (old new : Position) → new.log ≡ old.log → new.backing.devices ≡ old.backing.devices → old.cursor.ordinal ≤ new.cursor.ordinal
    → IsRoomy old → IsRoomy new
roomy_on old new log devices ordinal roomy =
    let sent = ap (λ (d : DevicesWithRoom). length d.devices.sent) devices in
    let spare = ap (λ (d : DevicesWithRoom). d.spare) devices in
    record {
      harts = ap (λ (d : DevicesWithRoom). d.devices.harts) devices ∙ roomy.harts ∙ ap (λ (l : Log). length l.streams) (sym log);
      sent = let old_sent = roomy.sent in omega (arith, sent, old_sent, ordinal);
      room = λ h i k e at is. let r = roomy.room h i k e (subst (λ l. entry_at l h i ≡ Some e) log at) is in omega (arith, r, sent, spare);
    }

number_is : (image : Image) (b : Position) (page seq : ℕ) (s : Replay FlatState) → Stands image b s → (h : ℕ) (m : Option Mode)
    → rules.held b.log page h seq ≡ m → slice_get s.cursor.numbers page ≡ Some seq → held s.holders page h ≡ m
number_is image b page seq s st h m is number =
    (reached image b s st).going.good.follow page h ∙ ap (rules.held b.log page h) (get_or_from_slice_get s.cursor.numbers page seq 0 number) ∙ is

-- a page of an entry is one of the run's
pub page_there : (image : Image) (b : Position) (r : Run) (h page seq : ℕ) (e : Entry) (s : Replay FlatState) → Stands image b s → Agrees r h s
    → IsMet b.cursor (item_of b r h) e → page_number e ≡ Some (page, seq) → page < length r.frames.pages
page_there image b r h page seq e s st a met is =
    let due = due_at image b r h e s st a met in
    let low = (small b.log st.range).pages h (slice_index s.cursor.places h) e (page, seq) due.first is in
    let table = (reached image b s st).going.good.sound.table in
    let frames = a.table in omega (arith, low, table, frames)

right_o6 : (image : Image) (b : Position) (h : ℕ) (e : Entry) (s : Replay FlatState) → Stands image b s → IsDueAt b h e s
    → breaks_o6 b.log (record { hart = h; place = slice_index s.cursor.places h; entry = e }) ≡ false
right_o6 image b h e s st due =
    let i = slice_index s.cursor.places h in
    let log = b.log in
    let right = none_passes b.log (o6 b.log) (h, slice_index s.cursor.places h) st.replayable.orderly.holders_are_crew (
      stream b.log h,
      in_stream b.log h (slice_index s.cursor.places h) e due.first,
      below_length (stream b.log h) (slice_index s.cursor.places h) e due.first,
    ) in
    sym (ap (λ o. is_some_and o (λ z. breaks_o6 b.log (record { hart = h; place = slice_index s.cursor.places h; entry = z }))) due.first) ∙ right

pub gain_more : (image : Image) (b : Position) (r : Run) (h count page seq : ℕ) (mode : Mode) (waits : WaitList) (s : Replay FlatState) → Stands image b s
    → Agrees r h s → IsMet b.cursor (item_of b r h) (entries.Gain count page seq mode waits) → strength (held s.holders page h) < strength (Some mode)
gain_more image b r h count page seq mode waits s st a met =
    let e = entries.Gain count page seq mode waits in
    let due = due_at image b r h (entries.Gain count page seq mode waits) s st a met in
    let more = leb-false (strength (Some mode)) (strength (rules.held b.log page h seq))
    (or_parts _ _ (right_o6 image b h (entries.Gain count page seq mode waits) s st due)).0 in
    let is = number_is image b page seq s st h (rules.held b.log page h seq) refl (number_met seq (slice_get s.cursor.numbers page) due.guard) in
    let same = ap strength is in omega (arith, more, same)

pub yield_less : (image : Image) (b : Position) (r : Run) (h count page seq : ℕ) (left : Option Mode) (s : Replay FlatState) → Stands image b s
    → Agrees r h s → IsMet b.cursor (item_of b r h) (entries.Yield count page seq left) → strength left < strength (held s.holders page h)
yield_less image b r h count page seq left s st a met =
    let due = due_at image b r h (entries.Yield count page seq left) s st a met in
    let less = leb-false (strength (rules.held b.log page h seq)) (strength left) (right_o6 image b h (entries.Yield count page seq left) s st due) in
    let is = number_is image b page seq s st h (rules.held b.log page h seq) refl (number_met seq (slice_get s.cursor.numbers page) due.guard) in
    let same = ap strength is in omega (arith, less, same)

none_above : (mode : Mode) → strength (Some Write) < strength (Some mode) → ⊥
none_above Read l = omega (arith, l)
none_above Write l = omega (arith, l)

write_clashes : (mode : Mode) → conflict (Some Write) (Some mode) ≡ true
write_clashes Read = refl
write_clashes Write = refl

holds_some : (m : Option Mode) (n : ℕ) → n < strength m → conflict (Some Write) m ≡ false → ⊥
holds_some None n l f = omega (arith, l)
holds_some (Some mode) n l f = true≢false (sym (write_clashes mode) ∙ f)

gain_can : (u : ℕ) (s : Replay FlatState) (h count page seq : ℕ) (mode : Mode) (waits : WaitList)
    → guard_is_met s.cursor (entries.Gain count page seq mode waits) ≡ true → verdict_on (board u) s h (Makes (entries.Gain count page seq mode waits)) ≡ CanGo
gain_can u s h count page seq mode waits guard = ap (λ b. if b then CanGo else Holds) guard

yield_can : (u : ℕ) (s : Replay FlatState) (h count page seq : ℕ) (left : Option Mode) → guard_is_met s.cursor (entries.Yield count page seq left) ≡ true
    → verdict_on (board u) s h (Makes (entries.Yield count page seq left)) ≡ CanGo
yield_can u s h count page seq left guard = ap (λ b. if b then CanGo else Holds) guard

-- nobody holds in Write what a hart can gain
unwritten : (image : Image) (b : Position) (r : Run) (h count page seq : ℕ) (mode : Mode) (waits : WaitList) (s : Replay FlatState) → Stands image b s
    → Agrees r h s → IsMet b.cursor (item_of b r h) (entries.Gain count page seq mode waits) → IsUnwritten s.holders page
unwritten image b r h count page seq mode waits s st a met g write =
    let e = entries.Gain count page seq mode waits in
    let due = due_at image b r h (entries.Gain count page seq mode waits) s st a met in
    let more = gain_more image b r h count page seq mode waits s st a met in
    let t : Replay FlatState = past (board (unit_of b.log)) h (entries.Gain count page seq mode waits) (holds (board (unit_of b.log)) page h (Some mode) s) in
    let did : step (board (unit_of b.log)) b.log h s
    ≡ Some (past (board (unit_of b.log)) h (entries.Gain count page seq mode waits) (holds (board (unit_of b.log)) page h (Some mode) s), None) =
    ap (λ i. goes (board (unit_of b.log)) s h i (verdict_on (board (unit_of b.log)) s h i)) due.next
    ∙ ap (goes (board (unit_of b.log)) s h (Makes (entries.Gain count page seq mode waits)))
    (gain_can (unit_of b.log) s h count page seq mode waits due.guard) in
    let good = (reached image b s st).going.good in
    let then_good = lasts b.log image st.replayable s t None h good did in
    let inside : page < length s.holders =
    (let p = page_there image b r h page seq (entries.Gain count page seq mode waits) s st a met refl in let k = a.table in omega (arith, p, k)) in
    let there : h < length (row s.holders page) =
    (let rows = a.rows page inside in let w = slice_get_within s.flat.harts h r.hart a.hart in omega (arith, rows, w)) in
    elim (cases_eq g h) [
      | inl same ↦ none_above mode (subst (λ m. strength m < strength (Some mode)) (ap (held s.holders page) (sym same) ∙ write) more)
      | inr n ↦
          true≢false (sym (write_clashes mode)
          ∙ ap₂ conflict (sym (held_stays s.holders page h g (Some (page, Some mode)) n ∙ write)) (sym (held_here s.holders page h (Some mode) inside there))
          ∙ then_good.sound.crew.holders page g h n)
    ]

ordinal_kept : (old new : Position) (c : Cursor) → new.cursor ≡ c → c.ordinal ≡ old.cursor.ordinal → old.cursor.ordinal ≤ new.cursor.ordinal
ordinal_kept old new c is same = let k = ap (λ (z : Cursor). z.ordinal) is in omega (arith, k, same)

pub gain_goes : (image : Image) (old new : Position) (backing : Backing) (r then_r : Run) (h page : ℕ) (mode : Mode) (s : Replay FlatState)
    → Stands image old s → Agrees r h s → IsNext old.cursor (item_of old r h) (nexts.Gain page mode) → backing.devices ≡ old.backing.devices
    → new.log ≡ old.log → new.backing ≡ backing → Passes old new h → backings.GainLeads old.backing backing r then_r page mode
    → Goes image new then_r old.log h s went.Entry
gain_goes image old new backing r then_r h page mode s st a next devices log_is backing_is passes leads =
    let met = next.1.1.1 in
    let due = due_at image old r h (entries.Gain next.0 page next.1.0 mode next.1.1.0) s st a met in
    let cursor = passes (entries.Gain next.0 page next.1.0 mode next.1.1.0) due.own_first met.1 in
    entered image old new then_r h (entries.Gain next.0 page next.1.0 mode next.1.1.0) s st due.next
    (gain_can (unit_of old.log) s h next.0 page next.1.0 mode next.1.1.0 due.guard)
    (subst (λ z. backings.Leads old.backing z then_r h (effect (board (unit_of old.log)) s h (entries.Gain next.0 page next.1.0 mode next.1.1.0)))
    (sym backing_is)
    (subst (λ u. backings.Leads old.backing backing then_r h (effect (board u) s h (entries.Gain next.0 page next.1.0 mode next.1.1.0)))
    (store_unit image old s st)
    (leads h next.0 next.1.0 next.1.1.0 s st.backs a (unwritten image old r h next.0 page next.1.0 mode next.1.1.0 s st a met))))
    log_is cursor (roomy_on old new log_is (ap (λ (z : Backing). z.devices) backing_is ∙ devices) (ordinal_kept old new _ cursor refl) st.roomy)
    (λ t is. ap (λ (z : Replay FlatState). z.cursor) (sym (same_Some _ _ is)))

pub alone : (image : Image) (b : Position) (r : Run) (h count page seq : ℕ) (left : Option Mode) (s : Replay FlatState) → Stands image b s → Agrees r h s
    → IsMet b.cursor (item_of b r h) (entries.Yield count page seq left) → (g : ℕ) → g ≢ h → held s.holders page g ≢ Some Write
alone image b r h count page seq left s st a met g n write =
    let less = yield_less image b r h count page seq left s st a met in
    let crew = (reached image b s st).going.good.sound.crew.holders page g h n in
    holds_some (held s.holders page h) (strength left) less (ap (λ m. conflict m (held s.holders page h)) (sym write) ∙ crew)

-- what waits for no hold
pub has_ended : (image : Image) (b : Position) (r : Run) (h : ℕ) (s : Replay FlatState) → Stands image b s → Agrees r h s → item_of b r h ≡ Ended
    → Goes image b r b.log h s went.Ended
has_ended image b r h s st a item = stayed image b r h Ended HasEnded s went.Ended st a (item_is image b r h s st a ∙ item) refl refl refl

pub holds_on : (image : Image) (b : Position) (r : Run) (h : ℕ) (s : Replay FlatState) → Stands image b s → Agrees r h s → (e : Entry)
    → item_of b r h ≡ Makes e → guard_is_met b.cursor e ≡ false → Goes image b r b.log h s went.Hold
holds_on image b r h s st a e item guard =
    stayed image b r h (Makes e) Holds s went.Hold st a (item_is image b r h s st a ∙ item)
    (ap (λ x. if x then judge (board (unit_of b.log)) (tests (board (unit_of b.log)) s h (Makes e)) else Holds)
    (ap (λ c. guard_is_met c e) (sym st.cursor) ∙ guard)) refl refl

touch_wants : (u : ℕ) (s : Replay FlatState) (h count ord : ℕ) (input : Input) (w : Option (ℕ × Mode)) → want (board u) s h ≡ w → is_some w ≡ true
    → guard_is_met s.cursor (entries.Touch count ord input) ≡ true → verdict_on (board u) s h (Makes (entries.Touch count ord input)) ≡ HasDiverged 1
touch_wants u s h count ord input w is some guard =
    ap (λ x. if x then judge (board u) (tests (board u) s h (Makes (entries.Touch count ord input))) else Holds) guard
    ∙ ap (λ b. judge (board u)
    ((1, b) ∷ (3, not ((board u).is_at_device s.flat h)) ∷ (4, not ((board u).suits s.flat h input)) ∷ (6, (board u).is_stopped s.flat) ∷ []))
    (ap is_some is ∙ some)

-- a Touch whose move lacks a page, or is no device access
pub touch_lacks : (image : Image) (b : Position) (r : Run) (h page : ℕ) (mode : Mode) (input : Input) (s : Replay FlatState) → Stands image b s
    → Agrees r h s → IsNext b.cursor (item_of b r h) (nexts.Touch input) → IsAhead (unit_of b.log) h s (ahead.Wants page mode)
    → Goes image b r b.log h s (went.Diverged 1)
touch_lacks image b r h page mode input s st a next asks =
    let due = due_at image b r h (entries.Touch next.0 next.1.0 input) s st a next.1.1 in
    stayed image b r h (Makes (entries.Touch next.0 next.1.0 input)) (HasDiverged 1) s (went.Diverged 1) st a due.next
    (touch_wants (unit_of b.log) s h next.0 next.1.0 input (Some (page, mode)) asks refl due.guard) refl refl

pub touch_off : (image : Image) (b : Position) (r : Run) (h : ℕ) (input : Input) (s : Replay FlatState) → Stands image b s → Agrees r h s
    → IsNext b.cursor (item_of b r h) (nexts.Touch input) → IsAhead (unit_of b.log) h s ahead.Free → Goes image b r b.log h s (went.Diverged 3)
touch_off image b r h input s st a next asks =
    let due = due_at image b r h (entries.Touch next.0 next.1.0 input) s st a next.1.1 in
    stayed image b r h (Makes (entries.Touch next.0 next.1.0 input)) (HasDiverged 3) s (went.Diverged 3) st a due.next
    (ap (λ x. if x then judge (board (unit_of b.log)) (tests (board (unit_of b.log)) s h (Makes (entries.Touch next.0 next.1.0 input))) else Holds) due.guard
    ∙ ap₂ (λ (w : Option (ℕ × Mode)) x. judge (board (unit_of b.log))
    ((1, is_some w) ∷ (3, not (is_some x)) ∷ (
      4,
      not ((board (unit_of b.log)).suits s.flat h input),
    ) ∷ (6, (board (unit_of b.log)).is_stopped s.flat) ∷ [])) asks.0 asks.1) refl refl

yield_cursor : (u : ℕ) (s : Replay FlatState) (h page : ℕ) (left : Option Mode) (b : Bool) (t : Replay FlatState)
    → option_map (holds (board u) page h left) (if b then acted (board u) s (Lose h) else Some s) ≡ Some t → t.cursor ≡ s.cursor
yield_cursor u s h page left false t is = ap (λ (z : Replay FlatState). z.cursor) (sym (same_Some _ _ is))
yield_cursor u s h page left true t is =
    let m = mapped (holds (board u) page h left) (acted (board u) s (Lose h)) t is in
    let f = mapped (λ (f : FlatState). record s { flat = f }) ((board u).next s.flat (Lose h)) m.0 m.1 in
    ap (λ (z : Replay FlatState). z.cursor) (sym m.2) ∙ ap (λ (z : Replay FlatState). z.cursor) (sym f.2)

pub yield_goes : (image : Image) (old new : Position) (backing : Backing) (r then_r : Run) (h page : ℕ) (left : Option Mode) (s : Replay FlatState)
    → Stands image old s → Agrees r h s → IsNext old.cursor (item_of old r h) (nexts.Yield page left) → backing.devices ≡ old.backing.devices
    → new.log ≡ old.log → new.backing ≡ backing → Passes old new h → backings.YieldLeads old.backing backing r then_r page left
    → Goes image new then_r old.log h s went.Entry
yield_goes image old new backing r then_r h page left s st a next devices log_is backing_is passes leads =
    let met = next.1.1 in
    let due = due_at image old r h (entries.Yield next.0 page next.1.0 left) s st a met in
    let cursor = passes (entries.Yield next.0 page next.1.0 left) due.own_first met.1 in
    entered image old new then_r h (entries.Yield next.0 page next.1.0 left) s st due.next
    (yield_can (unit_of old.log) s h next.0 page next.1.0 left due.guard)
    (subst (λ z. backings.Leads old.backing z then_r h (effect (board (unit_of old.log)) s h (entries.Yield next.0 page next.1.0 left))) (sym backing_is)
    (subst (λ u. backings.Leads old.backing backing then_r h (effect (board u) s h (entries.Yield next.0 page next.1.0 left))) (store_unit image old s st)
    (leads h next.0 next.1.0 s st.backs a (alone image old r h next.0 page next.1.0 left s st a met))))
    log_is cursor (roomy_on old new log_is (ap (λ (z : Backing). z.devices) backing_is ∙ devices) (ordinal_kept old new _ cursor refl) st.roomy)
    (λ t is. yield_cursor (unit_of old.log) s h page left (ends_reservation (board (unit_of old.log)) s h page) t is)

-- the store is that of the run
pub store_is : (image : Image) (b : Position) (r : Run) (h : ℕ) (s : Replay FlatState) → Stands image b s → Agrees r h s → backings.IsStoreOf b.backing r
store_is image b r h s st a = (store_unit image b s st ∙ sym (run_unit image b r h s st a), st.backs.number ∙ a.table)

pub run_lacks : (r : Run) (h page n : ℕ) (s : Replay FlatState) → Agrees r h s → strength (held s.holders page h) < n → strength (hold_of r page) < n
run_lacks r h page n s a l = subst (λ m. strength m < n) (a.modes page) l

pub run_has : (r : Run) (h page n : ℕ) (s : Replay FlatState) → Agrees r h s → n < strength (held s.holders page h) → n < strength (hold_of r page)
run_has r h page n s a l = subst (λ m. n < strength m) (a.modes page) l
