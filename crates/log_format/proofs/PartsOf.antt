-- The parts of a log: joined they are what stands behind its head, and each has from 1 to 80 bytes.
use Rattle.std.proofs.Common.{◌≡◌, ℕ, ◌<◌, ◌≤◌, Bool, true, false, List, [], ◌∷◌, ◌++◌, ◌^◌, length, map, drop, get_or, refl, sym, ap, ◌∙◌, append_assoc, arith}
use Rattle.std.specs.Prelude.{◌&&◌, nat_lt, nat_le}
use Rattle.std.specs.List.{All, concat, flat_map, list_all}
use Rattle.std.proofs.lemmas.Bool.{leb-true}
use Rattle.std.proofs.lemmas.List.{append-nil}
use Rattle.std.proofs.lemmas.List.Folds.{concat-append}
use Rattle.std.proofs.lemmas.List.Elements.{All-cons, All-nil, All-head, All-tail, All-append, All-drop, All-map}
use Rattle.rv_words.specs.declared.shared.Cause.{Cause}
use Rattle.log_entry.specs.declared.log.Entry.{Entry}
use Rattle.log_entry.specs.declared.log.Entry.TheVariants.{Gain, Yield, Poll, Touch, End}
use Rattle.log_entry.specs.declared.log.Log.{Log}
use Rattle.log_entry.specs.Parts.{units_of}
use Rattle.log_entry.specs.Range.{is_wait, is_entry, is_stream, in_range}
use Rattle.log_entry.specs.Size.{size_of}
use Rattle.log_format.specs.Grammar.{u32, any, entry_format, stream_format, cause_format, spelling}
use Rattle.log_format.proofs.Spelling.{spelling-parts}
use Rattle.log_format.proofs.Ranges.{and_left, and_right, list_all_get, parts_of as ranges_of}
use Rattle.log_format.proofs.Sizes.{head_size, have_their_sizes}
use Rattle.log_format.specs.declared.pieces.Place.{Place}
use Rattle.log_format.specs.Parts.{head_bytes, stream_parts, parts_from, parts_of}
use Rattle.log_format.specs.Pieces.{piece_bytes, packed, pieces_of, ArePieces}
use Rattle.log_format.specs.Given.{parts_at, left_from}
use Rattle.log_format.proofs.Packed.{joined_packed, some_packed, short_packed, HasBytes, FitsIn}

-- ---- joined

joined_entries : (entries : List Entry) → concat (map (entry_format 0 0).spell entries) ≡ flat_map (entry_format 0 0).spell entries
joined_entries [] = refl
joined_entries (entry ∷ entries) = ap (λ (bytes : List ℕ). (entry_format 0 0).spell entry ++ bytes) (joined_entries entries)

joined_stream : (stream : List Entry) → concat (stream_parts stream) ≡ (stream_format 0 0).spell stream
joined_stream stream = ap (λ (bytes : List ℕ). (u32 1 any).spell (length stream) ++ bytes) (joined_entries stream)

joined_streams : (streams : List (List Entry)) (cause : Cause)
    → concat (parts_from 0 streams cause) ≡ flat_map (stream_format 0 0).spell streams ++ cause_format.spell cause
joined_streams [] cause = append-nil (cause_format.spell cause)
joined_streams (stream ∷ streams) cause =
    concat-append (stream_parts stream) (parts_from 0 streams cause)
    ∙ ap (λ (bytes : List ℕ). bytes ++ concat (parts_from 0 streams cause)) (joined_stream stream)
    ∙ ap (λ (bytes : List ℕ). (stream_format 0 0).spell stream ++ bytes) (joined_streams streams cause)
    ∙ sym (append_assoc ((stream_format 0 0).spell stream) (flat_map (stream_format 0 0).spell streams) (cause_format.spell cause))

pub joined_pieces : (log : Log) → concat (pieces_of log) ≡ spelling log
joined_pieces log =
    ap (λ (bytes : List ℕ). head_bytes log ++ bytes) (joined_packed piece_bytes (parts_of log) ∙ joined_streams log.streams log.cause)
    ∙ sym (append_assoc (head_bytes log) (flat_map (stream_format 0 0).spell log.streams) (cause_format.spell log.cause))
    ∙ spelling-parts log log.streams refl

-- ---- what each part is

module _ (P : List ℕ → Type 0) (number : (n : ℕ) → P ((u32 1 any).spell n)) (last : (cause : Cause) → P (cause_format.spell cause)) where
  stream_all : (stream : List Entry) → All (λ entry. P ((entry_format 0 0).spell entry)) stream → All P (stream_parts stream)
  stream_all stream all =
      All-cons P ((u32 1 any).spell (length stream)) (map (entry_format 0 0).spell stream) (number (length stream))
      (All-map P (entry_format 0 0).spell stream all)

  -- what number, entries and cause are, each part is
  pub parts_all : (next : ℕ) (streams : List (List Entry)) (cause : Cause) → All (All (λ entry. P ((entry_format 0 0).spell entry))) streams
      → All P (parts_from next streams cause)
  parts_all next [] cause all = All-drop P next (cause_format.spell cause ∷ []) (All-cons P (cause_format.spell cause) [] (last cause) (All-nil P))
  parts_all next (stream ∷ streams) cause all =
      let E : List Entry → Type 0 = All (λ entry. P ((entry_format 0 0).spell entry)) in
      All-append P (drop next (stream_parts stream)) (parts_from 0 streams cause)
      (All-drop P next (stream_parts stream) (stream_all stream (All-head E stream streams all)))
      (parts_all 0 streams cause (All-tail E stream streams all))

entry_is : (entry : Entry) → length ((entry_format 0 0).spell entry) ≡ size_of entry
entry_is entry = have_their_sizes.entry 0 0 0 entry

entry_some : (entry : Entry) → 0 < size_of entry
entry_some (Gain count page seq mode waits) = omega arith
entry_some (Yield count page seq left) = omega arith
entry_some (Poll count ord time bits) = omega arith
entry_some (Touch count ord input) = omega arith
entry_some (End count) = omega arith

-- each part has a byte
pub parts_some : (next : ℕ) (streams : List (List Entry)) (cause : Cause) → All HasBytes (parts_from next streams cause)
parts_some next streams cause =
    parts_all HasBytes (λ n. omega arith) (λ c. omega arith) next streams cause
    (λ k d lt j e within. let h = entry_is (get_or (get_or streams k d) j e) in let g = entry_some (get_or (get_or streams k d) j e) in omega (arith, h, g))

entry_short : (harts units : ℕ) (entry : Entry) → is_entry harts units entry ≡ true → size_of entry ≤ 80
entry_short harts units (Gain count page seq mode waits) h =
    let few = leb-true (length waits.items) 7
    (and_right (nat_lt page units) (nat_le (length waits.items) 7)
    (and_left (nat_lt page units && nat_le (length waits.items) 7) (list_all (is_wait harts) waits.items) h)) in
    omega (arith, few)
entry_short harts units (Yield count page seq left) h = omega arith
entry_short harts units (Poll count ord time bits) h = omega arith
entry_short harts units (Touch count ord input) h = omega arith
entry_short harts units (End count) h = omega arith

-- where the entries of streams are in range, no part is longer than the longest entry
pub streams_short : (log : Log) → in_range log ≡ true → All (All (λ entry. FitsIn 80 ((entry_format 0 0).spell entry))) log.streams
streams_short log h =
    let harts = length log.streams in
    λ k d lt j e within.
    let stream = get_or log.streams k d in
    let inside = list_all_get (is_stream harts (units_of log)) log.streams k d lt (ranges_of log h).3 in
    let entries = and_right (nat_lt (length stream) (2 ^ 32)) (list_all (is_entry harts (units_of log)) stream) inside in
    let short = entry_short harts (units_of log) (get_or stream j e) (list_all_get (is_entry harts (units_of log)) stream j e within entries) in
    let is = entry_is (get_or stream j e) in
    omega (arith, short, is)

wider : (parts : List (List ℕ)) → All (FitsIn 80) parts → All (FitsIn piece_bytes) parts
wider parts all = λ k d lt. let h = all k d lt in omega (arith, h)

-- from any place on
pub parts_short : (log : Log) → in_range log ≡ true → (next hart : ℕ) → All (FitsIn piece_bytes) (parts_from next (drop hart log.streams) log.cause)
parts_short log h next hart =
    let E : List Entry → Type 0 = All (λ entry. FitsIn 80 ((entry_format 0 0).spell entry)) in
    wider (parts_from next (drop hart log.streams) log.cause)
    (parts_all (FitsIn 80) (λ n. omega arith) (λ c. omega arith) next (drop hart log.streams) log.cause (All-drop E hart log.streams (streams_short log h)))

some_behind_head : (place : Place) (log : Log) → All HasBytes (packed piece_bytes (parts_at place log))
some_behind_head place log = some_packed piece_bytes (parts_at place log) (parts_some place.next (drop place.hart log.streams) log.cause)

-- each piece that is left has a byte
pub some_left : (begun : Bool) (place : Place) (log : Log) → All HasBytes (left_from begun place log)
some_left true place log = some_behind_head place log
some_left false place log =
    let h = head_size log in
    All-cons HasBytes (head_bytes log) (packed piece_bytes (parts_at place log)) (omega (arith, h)) (some_behind_head place log)

pub are_pieces : ArePieces
are_pieces = record {
  joined = joined_pieces;
  some = some_left false (record { hart = 0; next = 0 });
  short = λ log range image.
      let h = head_size log in
      All-cons (FitsIn piece_bytes) (head_bytes log) (packed piece_bytes (parts_of log)) (omega (arith, h, image))
      (short_packed piece_bytes (parts_of log) (parts_short log range 0 0));
}
