-- What is made so that the log is orderly (docs/recorder.md, docs/order-rules.md).
use Rattle.std.specs.Prelude.{ℕ, ◌≡◌, ◌≢◌, ◌+◌, ◌%◌, ◌<◌, ◌≤◌, true, false, List, [], ◌∷◌, Some}
use Rattle.rv_words.specs.Limits.{poll_distance}
use Rattle.rv_words.specs.declared.shared.Cause.TheVariants.{Limit}
use Rattle.rv_words.specs.declared.shared.Input.{Input}
use Rattle.rv_words.specs.declared.shared.Input.TheVariants.{Time}
use Rattle.log_entry.specs.declared.log.Entry.{Entry}
use Rattle.log_entry.specs.declared.log.Entry.TheVariants as entries
use Rattle.log_entry.specs.declared.log.Log.{Log}
use Rattle.log_entry.specs.Parts.{strength, conflict}
use Rattle.order_rules.specs.Rules.{has_poll, waits_due}
use Rattle.flat_machine.specs.declared.act.Act.{Act}
use Rattle.flat_machine.specs.declared.act.Act.TheVariants.{Run, Touch, Poll, Lose}
use Rattle.replay_model.specs.Flat.{Flat}
use Rattle.order_rules.specs.Holders.{held}
use Rattle.replay_model.specs.Items.{Item, Ended, Move, Makes}
use Rattle.crew_recording.specs.Recording.{Recording, stream_in, Records, log_of_recording}

-- where a Poll is due at a count, the stream has it
abbrev pub IsPolled : List Entry → ℕ → Type 0
IsPolled stream count = count % poll_distance ≡ 0 → has_poll stream count ≡ true

abbrev pub actor : Act → ℕ
actor (Run h) = h
actor (Touch h input) = h
actor (Poll h time) = h
actor (Lose h) = h

-- how counts and time go on in a flat machine, at good states
pub record IsTimed {S V : Type 0} (flat : Flat S V) (Good : S → Type 0) : Type 0 where
  pub touch_moves : (s t : S) (h : ℕ) (input : Input) → Good s → flat.next s (Touch h input) ≡ Some t → flat.count t h ≡ flat.count s h + 1
  pub poll_stays : (s t : S) (h time : ℕ) → Good s → flat.next s (Poll h time) ≡ Some t → flat.count t h ≡ flat.count s h
  pub lose_stays : (s t : S) (h : ℕ) → Good s → flat.next s (Lose h) ≡ Some t → flat.count t h ≡ flat.count s h
  pub others : (s t : S) (act : Act) (g : ℕ) → Good s → flat.next s act ≡ Some t → g ≢ actor act → flat.count t g ≡ flat.count s g
  pub later : (s t : S) (act : Act) → Good s → flat.next s act ≡ Some t → flat.time s ≤ flat.time t
  pub touch_time : (s t : S) (h time : ℕ) → Good s → flat.next s (Touch h (Time time)) ≡ Some t → (flat.time s ≤ time) × (flat.time t ≡ time)
  pub poll_time : (s t : S) (h time : ℕ) → Good s → flat.next s (Poll h time) ≡ Some t → (flat.time s ≤ time) × (flat.time t ≡ time)

module _ {S V : Type 0} (flat : Flat S V) (pages limit : ℕ) where
  abbrev pub now : Recording S → ℕ → ℕ
  now r h = flat.count r.at.flat h

  -- the log, were the run to end here
  abbrev pub log_so_far : Recording S → Log
  log_so_far r = log_of_recording flat pages limit [] Limit r

  -- a move or a Touch below the limit, the Poll of its count made; a Poll where it is due and not made; a Gain of more than is
  -- held, that conflicts with nobody, with its waits; a Yield of a part of what is held
  abbrev pub Allowed : Recording S → ℕ → Item → Type 0
  Allowed r h Ended = ⊥
  Allowed r h Move = (now r h < limit) × IsPolled (stream_in r.streams h) (now r h)
  Allowed r h (Makes (entries.Poll count ord time bits)) = (now r h < limit) × (now r h % poll_distance ≡ 0)
      × (has_poll (stream_in r.streams h) (now r h) ≡ false)
  Allowed r h (Makes (entries.Gain count page seq mode waits)) =
      (now r h < limit) × IsPolled (stream_in r.streams h) (now r h) × (page < pages) × (strength (held r.at.holders page h) < strength (Some mode))
      × ((g : ℕ) → g ≢ h → conflict (Some mode) (held r.at.holders page g) ≡ false) × (waits.items ≡ waits_due (log_so_far r) page h seq)
  Allowed r h (Makes (entries.Yield count page seq left)) =
      (now r h < limit → IsPolled (stream_in r.streams h) (now r h)) × (page < pages) × (strength left < strength (held r.at.holders page h))
  Allowed r h (Makes (entries.Touch count ord input)) = (now r h < limit) × IsPolled (stream_in r.streams h) (now r h)
  Allowed r h (Makes (entries.End count)) = ⊥

  -- each item is allowed where it is made
  abbrev pub AreAllowed : (r s : Recording S) (items : List (ℕ × Item)) → Records flat r items s → Type 0
  AreAllowed r s [] is = Unit {0}
  AreAllowed r s (x ∷ items) is = Allowed r x.0 x.1 × AreAllowed is.0 s items is.2
