-- The bytes that an access sends, and the failures that the console counts.
use Rattle.std.proofs.Common.{◌≡◌, ℕ, false, [], ◌++◌, Option, Some, None, unwrap_or, append-nil}
use Rattle.std.proofs.Common.{refl, sym, ap, ◌∙◌, subst}
use Rattle.std.proofs.lemmas.Option.{none-some, same_Some}
use Rattle.std.specs.Option.{option_and_then}
use Rattle.rv_words.specs.Addresses.{device_word}
use Rattle.rv_words.specs.declared.shared.Access.{Access}
use Rattle.rv_words.specs.declared.shared.Input.{Input}
use Rattle.rv_words.specs.declared.shared.DeviceWord.{DeviceWord}
use Rattle.rv_words.specs.declared.shared.Cause.{Cause}
use Rattle.rv_words.specs.declared.shared.Cause.TheVariants.{Stop, Limit, Full, Fault, Cut}
use Rattle.outside.specs.Seen.{SeenConsole}
use Rattle.outside.specs.Causes.{Rose}
use Rattle.device_board.specs.State.{Devices}
use Rattle.device_board.specs.Accesses.{word_touched, touched}
use Rattle.device_board.specs.Recording.{bytes_given}
use Rattle.flat_machine.specs.State.{FlatState}
use Rattle.run_model.specs.Run.{Run}
use Rattle.turn_model.specs.Board.{Board, Supply}
use Rattle.turn_model.specs.Ways.{Ends}
use Rattle.turn_model.specs.Steps.{gains}
use Rattle.crew_core.specs.declared.crew.Crew.{Crew}
use Rattle.crew_core.specs.declared.order.Order.{Order}
use Rattle.crew_parts.specs.Boards.{the_machine}
use Rattle.crew_core.specs.Orders.{told}
use Rattle.crew_core.specs.Standing.{Stands, terms_of}
use Rattle.crew_core.specs.Does.{Does, IsCalm, TakesSent, bytes_sent}
use Rattle.crew_parts.specs.Turns.{CountsFaults}
use Rattle.crew_core.specs.Calls.{first_of}
use Rattle.crew_core.proofs.Rows.{KeepsRowsAlong, gains_keep, first_keep}
use Rattle.turn_model.proofs.BoardFacts.{word_did}

-- an access sends the bytes that it gives
pub access_sends : (d e : Devices) (word : DeviceWord) (access : Access) (input : Input) (w : ℕ) → device_word d.harts access.at ≡ Some word
    → touched d access input ≡ Some (e, w) → e.sent ≡ d.sent ++ bytes_given word access.store
access_sends d e word access input w word_is is =
    (word_did d e word access.store input w (ap (option_and_then (λ z. word_touched d z access.store input)) (sym word_is) ∙ is)).0

-- nothing is sent where nothing is taken
pub sends_nothing : (old new : Crew) (c : SeenConsole) → bytes_sent new ≡ bytes_sent old → TakesSent old new c c
sends_nothing old new c same = λ told. ([], sym (append-nil c.taken), same ∙ sym (append-nil (bytes_sent old)))

pub sends_behind : (old mid new : Crew) (c d : SeenConsole) → bytes_sent mid ≡ bytes_sent old → TakesSent mid new c d → TakesSent old new c d
sends_behind old mid new c d same takes = λ told. let z = takes told in (z.0, z.1, z.2 ∙ ap (λ xs. xs ++ z.0) same)

-- without a failure the count stays
pub counts_calm : (old new : Option Cause) (before now : ℕ) → (new ≡ Some Fault → old ≡ Some Fault) → now ≡ before → CountsFaults old new before now
counts_calm None None before now calm same = same
counts_calm None (Some Stop) before now calm same = same
counts_calm None (Some Limit) before now calm same = same
counts_calm None (Some Full) before now calm same = same
counts_calm None (Some Fault) before now calm same = absurd (none-some _ (calm refl))
counts_calm None (Some Cut) before now calm same = same
counts_calm (Some cause) new before now calm same = same

-- and a failure raised it
pub counts_rise : (old new : Option Cause) (before now : ℕ) → old ≡ None → new ≡ Some Fault → Rose before now → CountsFaults old new before now
counts_rise old new before now old_is new_is rose =
    subst (λ o. CountsFaults o new before now) (sym old_is) (subst (λ o. CountsFaults None o before now) (sym new_is) rose)

pub counts_behind : (old mid new : Option Cause) (before now : ℕ) → mid ≡ old → CountsFaults mid new before now → CountsFaults old new before now
counts_behind old mid new before now same counts = subst (λ o. CountsFaults o new before now) same counts

-- the board closes for want of room, or for a store to STOP
pub calm_close : (o : Option Cause) (cause : Cause) → (cause ≡ Fault → ⊥) → Some (unwrap_or o cause) ≡ Some Fault → o ≡ Some Fault
calm_close None cause other is = absurd (other (same_Some _ _ is))
calm_close (Some x) cause other is = is

pub no_full : Full ≡ Fault → ⊥
no_full e = cc

pub no_stop : Stop ≡ Fault → ⊥
no_stop e = cc

-- no gain fails, and none of the first steps
pub gains_calm : (c new : Crew) (r : Run) (h : ℕ) (order : Order) (b : Board FlatState) (left : Supply) → Stands c b
    → Does c new r h (Some order) (gains the_machine (terms_of c) h b) left → IsCalm c new
gains_calm c new r h order b left st d = λ closed.
    let kept : KeepsRowsAlong (terms_of c) h false b (Ends (told order) d.to) =
    subst (KeepsRowsAlong (terms_of c) h false b) d.is (gains_keep (terms_of c) h false b) in
    st.closed ∙ kept.0.calm refl (sym d.stands.closed ∙ closed)

pub first_calm : (c new : Crew) (r : Run) (h : ℕ) (order : Order) (b : Board FlatState) (left : Supply) → Stands c b
    → Does c new r h (Some order) (first_of c h b) left → IsCalm c new
first_calm c new r h order b left st d = λ closed.
    let kept : KeepsRowsAlong (terms_of c) h false b (Ends (told order) d.to) =
    subst (KeepsRowsAlong (terms_of c) h false b) d.is (first_keep (terms_of c) h false b) in
    st.closed ∙ kept.0.calm refl (sym d.stands.closed ∙ closed)
