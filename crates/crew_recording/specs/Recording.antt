-- What the harts of a board record: items made one after another, each by one hart, and the entries that they leave in the
-- hart's stream (docs/recorder.md).
use Rattle.std.specs.Prelude.{ℕ, ◌≡◌, ◌+◌, ◌<◌, ◌≤◌, false, List, [], ◌∷◌, ◌++◌, map, length, replicate, slice_get, slice_set, Some, None, unwrap_or}
use Rattle.std.specs.List.{enumerate_from}
use Rattle.rv_words.specs.declared.shared.Cause.{Cause}
use Rattle.log_entry.specs.declared.log.Entry.{Entry}
use Rattle.log_entry.specs.declared.log.Entry.TheVariants.{End}
use Rattle.log_entry.specs.declared.log.Log.{Log}
use Rattle.log_entry.specs.Parts.{count_of, is_end}
use Rattle.flat_machine.specs.declared.act.Act.{Act}
use Rattle.flat_machine.specs.declared.act.Act.TheVariants.{Run}
use Rattle.replay_model.specs.Flat.{Flat}
use Rattle.order_rules.specs.Holders.{nobody}
use Rattle.replay_model.specs.State.{Replay}
use Rattle.replay_model.specs.Items.{Item, Ended, Move, Makes, CanGo, verdict_on, made}

-- a state of the run, and the entries of each hart so far
pub record Recording (S : Type 0) : Type 0 where
  pub at : Replay S
  pub streams : List (List Entry)

abbrev pub stream_in : List (List Entry) → ℕ → List Entry
stream_in streams h = unwrap_or (slice_get streams h) []

-- each stream with an End at its hart's count
abbrev pub with_ends : (ℕ → ℕ) → List (List Entry) → List (List Entry)
with_ends count streams = map (λ s. s.1 ++ End (count s.0) ∷ []) (enumerate_from 0 streams)

-- the streams once a hart made an item
abbrev pub with_item : ℕ → Item → List (List Entry) → List (List Entry)
with_item h (Makes e) streams = slice_set streams h (stream_in streams h ++ e ∷ [])
with_item h _ streams = streams

-- how counts go on in a flat machine with so many harts, at good states, which stay among themselves
pub record IsSteady {S V : Type 0} (flat : Flat S V) (harts : ℕ) (Good : S → Type 0) : Type 0 where
  pub lasts : (s t : S) (act : Act) → Good s → flat.next s act ≡ Some t → Good t
  pub rises : (s t : S) (act : Act) (h : ℕ) → Good s → flat.next s act ≡ Some t → flat.count s h ≤ flat.count t h
  pub moves : (s t : S) (h : ℕ) → Good s → flat.next s (Run h) ≡ Some t → flat.count t h ≡ flat.count s h + 1
  pub no_more : (s : S) (h : ℕ) → Good s → harts ≤ h → flat.next s (Run h) ≡ None

module _ {S V : Type 0} (flat : Flat S V) where
  -- an entry is made at the hart's count; an End is no item
  abbrev pub Stands : Replay S → ℕ → Item → Type 0
  Stands s h Ended = ⊥
  Stands s h Move = Unit {0}
  Stands s h (Makes e) = (count_of e ≡ flat.count s.flat h) × (is_end e ≡ false)

  pub record IsRecorded (r : Recording S) (h : ℕ) (item : Item) (s : Recording S) : Type 0 where
    pub hart : h < length r.streams
    pub stands : Stands r.at h item
    pub goes : verdict_on flat r.at h item ≡ CanGo
    pub made : made flat r.at h item ≡ Some s.at
    pub streams : s.streams ≡ with_item h item r.streams

  -- these items, one after another, each by its hart
  abbrev pub Records : Recording S → List (ℕ × Item) → Recording S → Type 0
  Records r [] s = r ≡ s
  Records r (x ∷ items) s = (m : Recording S) × IsRecorded r x.0 x.1 m × Records m items s

  abbrev pub ended_streams : Recording S → List (List Entry)
  ended_streams r = with_ends (flat.count r.at.flat) r.streams

  -- the log of a recording that ended there
  abbrev pub log_of_recording : ℕ → ℕ → List ℕ → Cause → Recording S → Log
  log_of_recording pages limit image cause r =
      record { pages = pages; limit = limit; image = image; streams = ended_streams r; cause = cause }

-- where a recording begins: nothing is held, and nothing was recorded
abbrev pub first_recording : {S : Type 0} → ℕ → ℕ → S → Recording S
first_recording pages harts first = record {
  at = record { flat = first; cursor = record { places = replicate harts 0; numbers = replicate pages 0; ordinal = 0 }; holders = nobody pages harts };
  streams = replicate harts [];
}
