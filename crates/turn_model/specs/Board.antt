-- The recorder's board (docs/recorder.md).
use Rattle.std.specs.Prelude.{ℕ, ◌==◌, ◌||◌, List, [], Bool, length, replicate, slice_get, Option, Some, None, is_some, unwrap_or}
use Rattle.std.specs.List.{list_all}
use Rattle.rv_words.specs.Limits.{page_bytes}
use Rattle.rv_words.specs.declared.shared.Mode.{Mode}
use Rattle.rv_words.specs.declared.shared.Cause.{Cause}
use Rattle.rv_words.specs.declared.shared.Cause.TheVariants.{Limit}
use Rattle.log_entry.specs.declared.log.Entry.{Entry}
use Rattle.log_entry.specs.declared.log.Log.{Log}
use Rattle.outside.specs.declared.console.Asked.{Asked}
use Rattle.orders_law.specs.Orders.{below}
use Rattle.replay_model.specs.State.{Replay, start}
use Rattle.crew_recording.specs.Recording.{stream_in, with_ends}
use Rattle.turn_model.specs.Recordable.{Recordable}

-- what a hart is told at the end of its turn: to go on up to a count, to wait for a page that another hart holds or is to have
-- first, or to rest
pub data Order : Type 0 where
  Go : ℕ → Order
  Hold : ℕ → ℕ → Order
  Rest : Order

-- what console and clock have still to give in the call: the console's answers, the number of bytes that it takes, and the
-- clock's answers
pub record Supply : Type 0 where
  pub answers : List Asked
  pub takes : ℕ
  pub times : List ℕ

-- the number of pages and the digest of the image, the most moves of a hart, and the most bytes of the log
pub record Terms : Type 0 where
  pub pages : ℕ
  pub image : List ℕ
  pub limit : ℕ
  pub log_limit : ℕ

-- `at` is the replay state to which the log so far leads, and `streams` that log, without Ends. `journal` has a row for each turn
-- that made an item, a hart and the number of its items; `turns` one for each turn that changed anything, a hart and the number
-- of its moves. By hart stand the stored wants and the last orders. `closed` is the cause that closed the board.
pub record Board (S : Type 0) : Type 0 where
  pub at : Replay S
  pub streams : List (List Entry)
  pub journal : List (ℕ × ℕ)
  pub turns : List (ℕ × ℕ)
  pub wants : List (Option (ℕ × Mode))
  pub orders : List (Option Order)
  pub favoured : ℕ
  pub closed : Option Cause
  pub supply : Supply

-- bytes owned together, in each recording by these terms
abbrev pub unit_in : Terms → ℕ
unit_in terms = page_bytes

abbrev pub log_with : Terms → List (List Entry) → Cause → Log
log_with terms streams cause =
    record { pages = terms.pages; limit = terms.limit; image = terms.image; streams = streams; cause = cause }

-- the board of so many harts before any turn
abbrev pub board_at_start : {S : Type 0} → Terms → ℕ → S → Supply → Board S
board_at_start terms harts first supply = record {
  at = start (log_with terms (replicate harts []) Limit) first;
  streams = replicate harts [];
  journal = [];
  turns = [];
  wants = replicate harts None;
  orders = replicate harts None;
  favoured = 0;
  closed = None;
  supply = supply;
}

abbrev pub harts : {S : Type 0} → Board S → List ℕ
harts b = below (length b.streams)

abbrev pub stream : {S : Type 0} → Board S → ℕ → List Entry
stream b h = stream_in b.streams h

abbrev pub wanted : {S : Type 0} → Board S → ℕ → Option (ℕ × Mode)
wanted b h = unwrap_or (slice_get b.wants h) None

abbrev pub last_order : {S : Type 0} → Board S → ℕ → Option Order
last_order b h = unwrap_or (slice_get b.orders h) None

-- the first cause stays
abbrev pub closes : {S : Type 0} → Cause → Board S → Board S
closes cause b = record b { closed = Some (unwrap_or b.closed cause) }

module _ {S V : Type 0} (machine : Recordable S V) (terms : Terms) where
  abbrev pub count : Board S → ℕ → ℕ
  count b h = machine.flat.count b.at.flat h

  abbrev pub is_at_limit : Board S → ℕ → Bool
  is_at_limit b h = count b h == terms.limit

  abbrev pub is_over : Board S → Bool
  is_over b = is_some b.closed || list_all (is_at_limit b) (harts b)

  -- each stream with an End at its hart's count
  abbrev pub ended_streams : Board S → List (List Entry)
  ended_streams b = with_ends (count b) b.streams

  -- the log, were the run to end here
  abbrev pub log_of : Board S → Log
  log_of b = log_with terms (ended_streams b) (unwrap_or b.closed Limit)
