-- How the streams of a log end, and which cause agrees with the state at the end.
use Rattle.std.proofs.Common.{◌≡◌, ℕ, ◌<◌, ◌==◌, ◌&&◌, not, Bool, true, false, List, [], ◌∷◌, ◌++◌, slice_index, Option, Some, None, refl, sym, ap, ap₂, ◌∙◌}
use Rattle.std.proofs.Common.{length, true≢false}
use Rattle.std.specs.Prelude.{◌↔◌, is_some, IsSome}
use Rattle.std.specs.List.{list_all}
use Rattle.std.proofs.lemmas.Bool.{and_parts, eq-eqb, eqb-true}
use Rattle.std.proofs.lemmas.Option.{none-some, same_Some}
use Rattle.rv_words.specs.declared.shared.Cause.{Cause}
use Rattle.rv_words.specs.declared.shared.Cause.TheVariants as causes
use Rattle.log_entry.specs.declared.log.Entry.{Entry}
use Rattle.log_entry.specs.declared.log.Entry.TheVariants.{Gain, Yield, Poll, Touch, End}
use Rattle.log_entry.specs.declared.log.Log.{Log}
use Rattle.log_entry.specs.Parts.{unit_of, is_end}
use Rattle.log_entry.specs.Room.{entry_without_room, stream_without_room}
use Rattle.flat_machine.specs.State.{FlatState}
use Rattle.orders_law.specs.Orders.{below}
use Rattle.orders_law.proofs.Below.{all_below}
use Rattle.replay_model.specs.Board.{board}
use Rattle.replay_core.proofs.OutcomeAtEnd.{each_below}
use Rattle.replay_model.specs.Outcome.{same, is_stop, is_limit, cause_agrees}

abbrev first : List Entry → Option Entry
first [] = None
first (e ∷ es) = Some e

abbrev rest : List Entry → List Entry
rest [] = []
rest (e ∷ es) = es

is_end_then : (e : Entry) (count : ℕ) → entry_without_room e ≡ End count → e ≡ End count
is_end_then (Gain at page seq mode waits) count is = absurd (true≢false (sym (ap is_end is)))
is_end_then (Yield at page seq left) count is = absurd (true≢false (sym (ap is_end is)))
is_end_then (Poll at ord time bits) count is = absurd (true≢false (sym (ap is_end is)))
is_end_then (Touch at ord input) count is = absurd (true≢false (sym (ap is_end is)))
is_end_then (End at) count is = is

no_entries : (es : List Entry) → stream_without_room es ≡ [] → es ≡ []
no_entries [] is = refl
no_entries (e ∷ es) is = absurd (none-some _ (sym (ap first is)))

-- a stream that without room ends with an End ends with it
pub stream_ended : (es xs : List Entry) (count : ℕ) → stream_without_room es ≡ xs ++ End count ∷ [] → (ys : List Entry) × (es ≡ ys ++ End count ∷ [])
stream_ended [] [] count is = absurd (none-some _ (ap first is))
stream_ended [] (x ∷ xs) count is = absurd (none-some _ (ap first is))
stream_ended (e ∷ es) [] count is =
    ([], ap₂ (λ a b. a ∷ b) (is_end_then e count (same_Some _ _ (ap first is))) (no_entries es (ap rest is)))
stream_ended (e ∷ es) (x ∷ xs) count is = let ended = stream_ended es xs count (ap rest is) in (e ∷ ended.0, ap (λ l. e ∷ l) ended.1)

same_tests : (a b : Bool) → same a b ≡ true → a ≡ b
same_tests true true e = refl
same_tests true false e = absurd (true≢false (sym e))
same_tests false true e = absurd (true≢false (sym e))
same_tests false false e = refl

by_stop : (cause : Cause) → is_stop cause ≡ true → cause ≡ causes.Stop
by_stop causes.Stop is = refl
by_stop causes.Limit is = absurd (true≢false (sym is))
by_stop causes.Full is = absurd (true≢false (sym is))
by_stop causes.Fault is = absurd (true≢false (sym is))
by_stop causes.Cut is = absurd (true≢false (sym is))

by_limit : (cause : Cause) → is_limit cause ≡ true → cause ≡ causes.Limit
by_limit causes.Limit is = refl
by_limit causes.Stop is = absurd (true≢false (sym is))
by_limit causes.Full is = absurd (true≢false (sym is))
by_limit causes.Fault is = absurd (true≢false (sym is))
by_limit causes.Cut is = absurd (true≢false (sym is))

nothing_so : (o : Option ℕ) → not (is_some o) ≡ true → o ≡ None
nothing_so None is = refl
nothing_so (Some n) is = absurd (true≢false (sym is))

-- a cause that agrees with a state is stop exactly where stop is set, and limit exactly where it isn't and each count is the limit
pub agrees_so : (log : Log) (s : FlatState) → cause_agrees (board (unit_of log)) log s ≡ true
    → ((log.cause ≡ causes.Stop) ↔ IsSome s.devices.stop)
    × ((log.cause ≡ causes.Limit) ↔ ((s.devices.stop ≡ None) × ((h : ℕ) → h < length log.streams → slice_index s.counts h ≡ log.limit)))
agrees_so log s agrees =
    let at_limit : ℕ → Bool = λ h. slice_index s.counts h == log.limit in
    let many = length log.streams in
    let all = list_all at_limit (below many) in
    let both = and_parts (same (is_stop log.cause) (is_some s.devices.stop)) (same (is_limit log.cause) (not (is_some s.devices.stop) && all)) agrees in
    let stop = same_tests (is_stop log.cause) (is_some s.devices.stop) both.0 in
    let limit = same_tests (is_limit log.cause) (not (is_some s.devices.stop) && all) both.1 in (
      (λ is. sym stop ∙ ap is_stop is, λ there. by_stop log.cause (stop ∙ there)),
      (
        λ is.
            let parts = and_parts (not (is_some s.devices.stop)) all (sym limit ∙ ap is_limit is) in
            (nothing_so s.devices.stop parts.0, λ h l. eqb-true (slice_index s.counts h) log.limit (each_below at_limit many parts.1 h l)),
        λ so. by_limit log.cause
            (limit ∙ ap₂ (λ a b. not (is_some a) && b) so.0 (all_below at_limit many (λ h l. eq-eqb (slice_index s.counts h) log.limit (so.1 h l)))),
      ),
    )
