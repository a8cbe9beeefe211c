-- Whether a hart's next move is a device access, as a step of a turn.
use Rattle.std.proofs.Common.{◌≡◌, ℕ, ◌+◌, nat_le, true, false, [], Option, Some, None, unwrap_or, refl, sym, ap, ◌∙◌, subst, arith, if◌then◌else◌}
use Rattle.std.specs.Option.{option_map, option_and_then}
use Rattle.rv_words.specs.Addresses.{device_word}
use Rattle.rv_words.specs.declared.shared.Mode.{Mode}
use Rattle.rv_words.specs.declared.shared.Access.{Access}
use Rattle.rv_words.specs.declared.shared.Input.TheVariants.{Nothing}
use Rattle.rv_words.specs.declared.shared.DeviceWord.{DeviceWord}
use Rattle.rv_words.specs.declared.shared.Cause.TheVariants.{Full}
use Rattle.device_board.specs.State.{Devices}
use Rattle.flat_machine.specs.State.{FlatState}
use Rattle.replay_model.specs.Board.{hart_access}
use Rattle.run_model.specs.Run.{Run}
use Rattle.run_model.specs.Agreement.{Agrees, Asks}
use Rattle.run_model.specs.declared.asked.Ahead.{Ahead}
use Rattle.run_model.specs.declared.asked.Ahead.TheVariants.{Free, Wants, AtDevice}
use Rattle.crew_parts.specs.Boards.{the_machine}
use Rattle.turn_model.specs.Board as model
use Rattle.turn_model.specs.Board.{Board, Supply, Terms, closes}
use Rattle.turn_model.specs.Ways.{Ends, with_room}
use Rattle.turn_model.specs.Steps.{accesses, touches, touches_with, touch_of, console_gives}
use Rattle.crew_core.specs.declared.crew.Crew.{Crew}
use Rattle.crew_core.specs.declared.order.Order.{Order}
use Rattle.crew_core.specs.declared.order.Order.TheVariants.{Rest}
use Rattle.crew_core.specs.Standing.{Stands, terms_of}
use Rattle.crew_core.specs.Does.{Does}
use Rattle.turn_laws.specs.Supplies.{followed_by}
use Rattle.crew_core.proofs.Stepping.{room_is, filled}

-- nothing was given
abbrev pub nothing_given : Supply
nothing_given = record { answers = []; takes = 0; times = [] }

pub all_left : (o left : Supply) → o ≡ followed_by (record { answers = []; takes = 0; times = [] }) left → o ≡ left
all_left o left e = let n : 0 + left.takes ≡ left.takes = omega arith in e ∙ ap (λ k. record left { takes = k }) n

-- no device is ahead
pub no_device : (o : Ahead) (w : Option (ℕ × Mode)) (x : Option Access) → ((page : ℕ) (mode : Mode) → o ≡ Wants page mode → ⊥)
    → ((access : Access) → o ≡ AtDevice access → ⊥) → Asks w x o → x ≡ None
no_device Free w x not other asks = asks.1
no_device (AtDevice access) w x not other asks = absurd (other access refl)
no_device (Wants page mode) w x not other asks = absurd (not page mode refl)

access_at : (c : Crew) (b : Board FlatState) (h : ℕ) (o : Option Access) → Stands c b → hart_access b.at.flat h ≡ o
    → the_machine.access b.at.flat h ≡ option_and_then (λ (a : Access). option_map (λ (word : DeviceWord). (word, a.store)) (device_word c.harts a.at)) o
access_at c b h o st is =
    ap (λ x. option_and_then (λ (a : Access). option_map (λ (word : DeviceWord). (word, a.store)) (device_word b.at.flat.devices.harts a.at)) x) is
    ∙ ap (λ n. option_and_then (λ (a : Access). option_map (λ (word : DeviceWord). (word, a.store)) (device_word n a.at)) o)
    (ap (λ (d : Devices). d.harts) (sym st.backs.devices_are) ∙ st.device_harts)

pub no_touch : (c : Crew) (r : Run) (h : ℕ) (b : Board FlatState) (left : Supply) → Stands c b → Agrees r h b.at → hart_access b.at.flat h ≡ None → b.supply
    ≡ followed_by (record { answers = []; takes = 0; times = [] }) left → Does c c r h None (touches the_machine (terms_of c) h b) left
no_touch c r h b left st a is outside = record {
  to = b;
  is = ap (λ o. accesses the_machine (terms_of c) h o b) (access_at c b h None st is);
  supply = all_left b.supply left outside;
  stands = st;
  agrees = a;
  terms = refl;
}

pub no_word : (c : Crew) (r : Run) (h : ℕ) (access : Access) (b : Board FlatState) (left : Supply) → Stands c b → Agrees r h b.at → hart_access b.at.flat h
    ≡ Some access → device_word c.harts access.at ≡ None
    → b.supply ≡ followed_by (record { answers = []; takes = 0; times = [] }) left → Does c c r h None (touches the_machine (terms_of c) h b) left
no_word c r h access b left st a is word outside = record {
  to = b;
  is = ap (λ o. accesses the_machine (terms_of c) h o b) (access_at c b h (Some access) st is
      ∙ ap (option_map (λ (word : DeviceWord). (word, access.store))) word);
  supply = all_left b.supply left outside;
  stands = st;
  agrees = a;
  terms = refl;
}

touch_step : (c : Crew) (h : ℕ) (access : Access) (word : DeviceWord) (b : Board FlatState) → Stands c b → hart_access b.at.flat h ≡ Some access
    → device_word c.harts access.at ≡ Some word
    → touches the_machine (terms_of c) h b ≡ with_room the_machine (terms_of c) (touch_of the_machine (terms_of c) h b Nothing)
    (λ d. touches_with the_machine (terms_of c) h word access.store d (console_gives word access.store d.supply)) b
touch_step c h access word b st is word_is = ap (λ o. accesses the_machine (terms_of c) h o b)
    (access_at c b h (Some access) st is ∙ ap (option_map (λ (word : DeviceWord). (word, access.store))) word_is)

pub full_touch : (c new : Crew) (r : Run) (h : ℕ) (access : Access) (word : DeviceWord) (b : Board FlatState) (left : Supply) → Stands c b → Agrees r h b.at
    → hart_access b.at.flat h ≡ Some access → device_word c.harts access.at ≡ Some word
    → nat_le (c.size + 22) c.log_limit ≡ false → new ≡ record c { closed = Some (unwrap_or c.closed Full) } → b.supply
    ≡ followed_by (record { answers = []; takes = 0; times = [] }) left → Does c new r h (Some Rest) (touches the_machine (terms_of c) h b) left
full_touch c new r h access word b left st a is word_is full new_is outside =
    subst (λ z. Does c new r h (Some Rest) z left) (sym (touch_step c h access word b st is word_is))
    (subst (λ o. Does c new r h (Some Rest) (with_room the_machine (terms_of c) (touch_of the_machine (terms_of c) h b Nothing)
    (λ d. touches_with the_machine (terms_of c) h word access.store d (console_gives word access.store d.supply)) b) o) (all_left b.supply left outside)
    (filled c new r h b (touch_of the_machine (terms_of c) h b Nothing) 22
    (λ d. touches_with the_machine (terms_of c) h word access.store d (console_gives word access.store d.supply)) st a refl full new_is))

pub touch_there : (c new : Crew) (r next : Run) (h : ℕ) (access : Access) (word : DeviceWord) (b : Board FlatState) (left : Supply) (answer : Option Order)
    → Stands c b → hart_access b.at.flat h ≡ Some access → device_word c.harts access.at ≡ Some word
    → nat_le (c.size + 22) c.log_limit ≡ true → Does c new next h answer (touches_with the_machine (terms_of c) h word access.store b
    (console_gives word access.store b.supply)) left → Does c new next h answer (touches the_machine (terms_of c) h b) left
touch_there c new r next h access word b left answer st is word_is room does =
    subst (λ z. Does c new next h answer z left) (sym (touch_step c h access word b st is word_is
    ∙ ap (λ t. if t then touches_with the_machine (terms_of c) h word access.store b (console_gives word access.store b.supply) else Ends model.Rest
    (closes Full b)) (room_is c b (touch_of the_machine (terms_of c) h b Nothing) 22 st refl ∙ room))) does
