-- A device access as a step of a turn, with what console and clock gave for it.
use Rattle.std.proofs.Common.{◌≡◌, ℕ, ◌+◌, ◌%◌, ◌<◌, ◌==◌, ◌++◌, List, [], length, true, false, Option, Some, None, is_some, unwrap_or, refl, sym}
use Rattle.std.proofs.Common.{ap, ap₂, ◌∙◌, subst, arith, true≢false, if◌then◌else◌}
use Rattle.std.specs.Prelude.{IsTrue}
use Rattle.rv_words.specs.declared.shared.DeviceWord.{DeviceWord}
use Rattle.rv_words.specs.declared.shared.DeviceWord.TheVariants as words
use Rattle.rv_words.specs.declared.shared.Cause.TheVariants.{Fault, Stop}
use Rattle.outside.specs.declared.console.Asked.{Asked}
use Rattle.device_board.specs.State.{Devices}
use Rattle.device_board.specs.Recording.{recorded_input, answers_taken, bytes_given, uses_console}
use Rattle.flat_machine.specs.State.{FlatState}
use Rattle.crew_parts.specs.Boards.{the_board}
use Rattle.run_model.specs.Run.{Run}
use Rattle.run_model.specs.Agreement.{Agrees}
use Rattle.crew_parts.specs.Boards.{the_machine}
use Rattle.turn_model.specs.Board as model
use Rattle.turn_model.specs.Board.{Board, Supply, closes}
use Rattle.turn_model.specs.Ways.{On, Ends, entered}
use Rattle.turn_model.specs.Steps.{touch_of, touched, touches_at, touches_with, behind_touch, console_gives, passes_favour}
use Rattle.crew_core.specs.declared.crew.Crew.{Crew}
use Rattle.crew_core.specs.declared.order.Order.{Order}
use Rattle.crew_core.specs.declared.order.Order.TheVariants.{Rest}
use Rattle.crew_core.specs.Standing.{Stands, terms_of}
use Rattle.crew_core.specs.Does.{Does, Enters, times_taken, IsAsked, GivesNoMore}
use Rattle.turn_laws.specs.Supplies.{followed_by}
use Rattle.crew_core.proofs.Stepping.{stands_closed, stands_favoured, stands_outside}
use Rattle.crew_core.proofs.Giving.{console_is, console_fails, clock_is}
use Rattle.crew_core.proofs.Claiming.{streams_size}

stop_is : (c : Crew) (b : Board FlatState) → Stands c b → is_some c.backing.devices.devices.stop ≡ the_board.is_stopped b.at.flat
stop_is c b st = ap (λ (d : Devices). is_some d.stop) st.backs.devices_are

pub stopped : (c new : Crew) (r : Run) (h : ℕ) (b : Board FlatState) → Stands c b → Agrees r h b.at → is_some c.backing.devices.devices.stop ≡ true → new
    ≡ record c { closed = Some (unwrap_or c.closed Stop) }
    → Does c new r h (Some Rest) (behind_touch the_machine (terms_of c) h b) b.supply
stopped c new r h b st a stop is = subst (λ z. Does c z r h (Some Rest) (behind_touch the_machine (terms_of c) h b) b.supply) (sym is) (record {
  to = closes Stop b;
  is = ap (λ t. if t then Ends model.Rest (closes Stop b) else On (if h == b.favoured then passes_favour h b else b)) (sym (stop_is c b st) ∙ stop);
  supply = refl;
  stands = stands_closed c b Stop st;
  agrees = a;
  terms = refl;
})

running : (c : Crew) (h : ℕ) (b : Board FlatState) → Stands c b → is_some c.backing.devices.devices.stop ≡ false → behind_touch the_machine (terms_of c) h b
    ≡ On (if h == b.favoured then passes_favour h b else b)
running c h b st stop = ap (λ t. if t then Ends model.Rest (closes Stop b) else On (if h == b.favoured then passes_favour h b else b))
    (sym (stop_is c b st) ∙ stop)

pub favour_passed : (c : Crew) (r : Run) (h : ℕ) (b : Board FlatState) → Stands c b → Agrees r h b.at → h < c.harts → is_some c.backing.devices.devices.stop
    ≡ false → (h == c.favoured) ≡ true
    → Does c (record c { favoured = (h + 1) % c.harts }) r h None (behind_touch the_machine (terms_of c) h b) b.supply
favour_passed c r h b st a inside stop own = record {
  to = record b { favoured = (h + 1) % c.harts };
  is = running c h b st stop ∙ ap (λ t. On (if t then passes_favour h b else b)) (ap (λ f. h == f) (sym st.favoured) ∙ own)
      ∙ ap (λ n. On (record b { favoured = (h + 1) % n })) (streams_size c b st);
  supply = refl;
  stands = stands_favoured c b ((h + 1) % c.harts) (omega (arith, inside)) st;
  agrees = a;
  terms = refl;
}

pub favour_kept : (c : Crew) (r : Run) (h : ℕ) (b : Board FlatState) → Stands c b → Agrees r h b.at → is_some c.backing.devices.devices.stop ≡ false
    → (h == c.favoured) ≡ false → Does c c r h None (behind_touch the_machine (terms_of c) h b) b.supply
favour_kept c r h b st a stop own = record {
  to = b;
  is = running c h b st stop ∙ ap (λ t. On (if t then passes_favour h b else b)) (ap (λ f. h == f) (sym st.favoured) ∙ own);
  supply = refl;
  stands = st;
  agrees = a;
  terms = refl;
}

pub touch_does : (c mid new : Crew) (r next : Run) (h now : ℕ) (word : DeviceWord) (store : Option ℕ) (a : Asked) (answer : Option Order)
    (b : Board FlatState) (left : Supply) → Stands c b → Agrees r h b.at → terms_of mid ≡ terms_of c → IsAsked word store now
    → b.supply ≡ followed_by (record { answers = answers_taken word store a; takes = length (bytes_given word store); times = times_taken word store now }) left
    → ((d : Board FlatState) → Stands c d → Agrees r h d.at → Enters c mid next h
    (touch_of the_machine (terms_of c) h d (recorded_input word store (the_board.time d.at.flat) now a)) d)
    → ((x : Run) (d : Board FlatState) → Stands mid d → Agrees x h d.at → Does mid new x h answer (behind_touch the_machine (terms_of mid) h d) d.supply)
    → Does c new next h answer (touches_with the_machine (terms_of c) h word store b (console_gives word store b.supply)) left
touch_does c mid new r next h now word store a answer b left st agrees same asked outside enters behind =
    let o = b.supply in
    let given = console_is word store a o left.answers left.takes (ap (λ (z : Supply). z.answers) outside) (ap (λ (z : Supply). z.takes) outside) in
    let told = clock_is word store now (record o { answers = left.answers; takes = left.takes }) left.times asked (ap (λ (z : Supply). z.times) outside) in
    let d : Board FlatState = record b { supply = left } in
    let entry = enters d (stands_outside c b left st) agrees in
    let last = behind next entry.to entry.stands entry.agrees in
    record {
      to = last.to;
      is = ap (touches_with the_machine (terms_of c) h word store b) given.gives
          ∙ ap (touches_at the_machine (terms_of c) h word store given.answer b) told
          ∙ ap (λ input. touched the_machine (terms_of c) h (entered the_machine (terms_of c) h (touch_of the_machine (terms_of c) h b input) d))
          (given.input (the_board.time b.at.flat) now)
          ∙ ap (touched the_machine (terms_of c) h) entry.made
          ∙ ap (λ t. behind_touch the_machine t h entry.to) (sym same)
          ∙ last.is;
      supply = last.supply ∙ entry.supply;
      stands = last.stands;
      agrees = last.agrees;
      terms = last.terms ∙ same;
    }

no_times : (word : DeviceWord) (store : Option ℕ) (now : ℕ) → IsTrue (uses_console word store) → times_taken word store now ≡ []
no_times words.Rx store now uses = refl
no_times words.Tx store now uses = refl
no_times (words.Msip k) store now uses = refl
no_times (words.CompareLow k) store now uses = refl
no_times (words.CompareHigh k) store now uses = refl
no_times words.Stop store now uses = refl
no_times words.TimeLow None now uses = absurd (true≢false (sym uses))
no_times words.TimeLow (Some v) now uses = refl
no_times words.TimeHigh None now uses = absurd (true≢false (sym uses))
no_times words.TimeHigh (Some v) now uses = refl

pub touch_fails : (c new : Crew) (r : Run) (h now : ℕ) (word : DeviceWord) (store : Option ℕ) (b : Board FlatState) (left : Supply) → Stands c b
    → Agrees r h b.at → c.closed ≡ None → new ≡ record c { closed = Some (unwrap_or c.closed Fault) }
    → IsTrue (uses_console word store) → GivesNoMore new left → b.supply
    ≡ followed_by (record { answers = []; takes = 0; times = times_taken word store now }) left
    → Does c new r h (Some Rest) (touches_with the_machine (terms_of c) h word store b (console_gives word store b.supply)) left
touch_fails c new r h now word store b left st agrees unclosed is uses no_more outside =
    let closed : new.closed ≡ Some Fault = ap (λ (z : Crew). z.closed) is ∙ ap (λ o. Some (unwrap_or o Fault)) unclosed in
    let nothing = no_more closed in
    let answers : b.supply.answers ≡ left.answers = ap (λ (z : Supply). z.answers) outside in
    let takes : b.supply.takes ≡ left.takes = (let z = ap (λ (z : Supply). z.takes) outside in omega (arith, z)) in
    let times : b.supply.times ≡ left.times = ap (λ (z : Supply). z.times) outside ∙ ap (λ ts. ts ++ left.times) (no_times word store now uses) in
    subst (λ z. Does c z r h (Some Rest) (touches_with the_machine (terms_of c) h word store b (console_gives word store b.supply)) left) (sym is)
    (record {
      to = closes Fault b;
      is = ap (touches_with the_machine (terms_of c) h word store b) (console_fails word store b.supply uses (answers ∙ nothing.0) (takes ∙ nothing.1));
      supply = ap₂ (λ (f : List ℕ → Supply) ts. f ts) (ap₂ (λ xs n ts. record { answers = xs; takes = n; times = ts }) answers takes) times;
      stands = stands_closed c b Fault st;
      agrees = agrees;
      terms = refl;
    })
