-- A hart of the crew makes a device access.
use Rattle.std.proofs.Common.{◌≡◌, ℕ, ◌+◌, ◌<◌, ◌≤◌, ◌++◌, [], ◌∷◌, length, Option, Some, None, refl, sym, ap, ap₂, ◌∙◌, subst, arith}
use Rattle.std.specs.Prelude.{IfSome}
use Rattle.rv_words.specs.declared.shared.Input.{Input}
use Rattle.rv_words.specs.declared.shared.DeviceWord.{DeviceWord}
use Rattle.outside.specs.declared.console.Asked.{Asked}
use Rattle.log_entry.specs.declared.log.Entry.TheVariants.{Touch}
use Rattle.device_board.specs.State.{Devices}
use Rattle.device_board.specs.Recording.{recorded_input}
use Rattle.flat_machine.specs.State.{FlatState}
use Rattle.flat_machine.specs.declared.act.Act.TheVariants as acts
use Rattle.crew_parts.specs.Boards.{the_board}
use Rattle.replay_model.specs.Items.{effect}
use Rattle.run_model.specs.Run.{Run}
use Rattle.run_model.specs.Agreement.{Agrees}
use Rattle.board_backing.specs.declared.backing.Backing.{Backing}
use Rattle.board_backing.specs.Backing.{Leads}
use Rattle.crew_recording.proofs.OrderedRecordings.{did_entry}
use Rattle.crew_parts.specs.Boards.{the_machine}
use Rattle.turn_model.specs.Board.{Board}
use Rattle.turn_model.specs.Steps.{touch_of}
use Rattle.turn_model.specs.Laws.{IsPagedBoard}
use Rattle.crew_core.proofs.Machine.{faithful}
use Rattle.crew_core.specs.declared.crew.Crew.{Crew}
use Rattle.crew_core.specs.Seats.{seat_of, with_entry, touched_at}
use Rattle.crew_core.specs.Standing.{Stands, terms_of}
use Rattle.crew_core.specs.Does.{Enters}
use Rattle.crew_core.proofs.Seated.{seat_there, latest_more, near_later}
use Rattle.crew_core.proofs.Entries.{entered_is, further, past_agrees}
use Rattle.crew_core.proofs.Yielding.{count_is}
use Rattle.crew_core.proofs.Ordinals.{IsOrdinal, stands_ordinal}
use Rattle.crew_core.proofs.Committing.{later_poll}

touch_is : (count ord : ℕ) (input : Input) → IsOrdinal (Touch count ord input) ord
touch_is count ord input = record { act = λ h. acts.Touch h input; acts = λ s h. refl; no_page = refl; cursor = λ c h. (refl, refl); bytes = omega arith }

pub touch_enters : (c new : Crew) (r next : Run) (b : Board FlatState) (h count ord now : ℕ) (word : DeviceWord) (store : Option ℕ) (a : Asked)
    (input : Input) (backing : Backing) → Stands c b → Agrees r h b.at → h < c.harts → r.count < c.limit → c.size + 22 ≤ 536870912
    → count ≡ r.count → ord ≡ c.ordinal → input ≡ recorded_input word store c.backing.devices.devices.mtime now a
    → new ≡ record c { backing = backing; ordinal = ord + 1; seats = touched_at h (Touch count ord input) c.seats; size = c.size + 22 }
    → backing.devices.devices.harts ≡ c.backing.devices.devices.harts → Leads c.backing backing next h (effect the_board b.at h (Touch count ord input))
    → Enters c new next h (touch_of the_machine (terms_of c) h b (recorded_input word store (the_board.time b.at.flat) now a)) b
touch_enters c new r next b h count ord now word store a input backing st agrees inside below fits counts ords inputs is device_harts led =
    let e = Touch count ord input in
    let l : h < length c.seats = omega (arith, inside, st.harts) in
    let seat = seat_of c.seats h in
    let seat_count : seat.count ≡ count = st.counts h seat (seat_there c.seats h l) ∙ count_is r h b agrees ∙ sym counts in
    let input_is : recorded_input word store (the_board.time b.at.flat) now a
    ≡ input = ap (λ (d : Devices). recorded_input word store d.mtime now a) (sym st.backs.devices_are) ∙ sym inputs in
    let same : touch_of the_machine (terms_of c) h b (recorded_input word store (the_board.time b.at.flat) now a) ≡ e =
    ap (touch_of the_machine (terms_of c) h b) input_is ∙ ap₂ (λ n m. Touch n m input) (count_is r h b agrees ∙ sym counts) (sym st.ordinal ∙ sym ords) in
    let faithful = faithful c.harts c.pages in
    let did = did_entry the_board c.harts (IsPagedBoard c.harts c.pages) faithful.steady faithful.timed c.pages c.limit b.at led.at h e st.board led.made in
    let moved : the_board.count led.at.flat h ≡ count + 1 = did.own ∙ ap (λ n. n + 1) (count_is r h b agrees ∙ sym counts) in
    subst (λ z. Enters c new next h z b) (sym same)
    (record {
      to = further b h e led.at;
      made = entered_is c b h e led.at led.made;
      supply = refl;
      stands = subst (λ z. Stands z (further b h e led.at)) (sym
          (is ∙ ap (λ n. record c { backing = backing; ordinal = n + 1; seats = touched_at h e c.seats; size = c.size + 22 }) ords))
          (stands_ordinal c b h e led.at backing (record (with_entry e seat) { count = seat.count + 1 }) st inside
          (subst (IsOrdinal e) (ords ∙ st.ordinal) (touch_is count ord input)) fits led.made led.backs (led.unit_is ∙ st.unit_is) device_harts
          (record {
            entries = refl;
            count = ap (λ n. n + 1) seat_count ∙ sym moved;
            polls = later_poll (seat.lane.entries ++ e ∷ []) seat.polled seat.count (seat.count + 1) (omega arith)
                (latest_more seat.lane.entries e seat.polled seat.count refl (st.polls h seat (seat_there c.seats h l)));
            order = refl;
          })
          (near_later c.limit (seat.count + 1) (with_entry e seat) (omega arith) (omega (arith, below, seat_count, counts))
          (st.near h seat (seat_there c.seats h l))));
      agrees = past_agrees next h e led.at led.agrees;
    })

-- what holds of a value where there is one
pub if_some : {X : Type 0} (o : Option X) (P Q : X → Type 0) → ((x : X) → P x → Q x) → IfSome o P → IfSome o Q
if_some None P Q f p = tt
if_some (Some x) P Q f p = f x p

pub where_some : {X : Type 0} (o : Option X) (P : X → Type 0) → ((x : X) → o ≡ Some x → P x) → IfSome o P
where_some None P f = tt
where_some (Some x) P f = f x refl

pub at_some : {X : Type 0} (o : Option X) (x : X) (P : X → Type 0) → o ≡ Some x → IfSome o P → P x
at_some o x P e p = subst (λ z. IfSome z P) e p
