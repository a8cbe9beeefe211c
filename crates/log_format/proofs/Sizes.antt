-- How many bytes the grammar spells.
use Rattle.std.proofs.Common.{◌≡◌, ℕ, ◌+◌, ◌*◌, List, [], ◌∷◌, ◌++◌, map, length, refl, sym, ap, ◌∙◌, arith, length-append}
use Rattle.std.specs.List.{flat_map, sum_by}
use Rattle.std.specs.Int.{w8, w16, w32, w64, to_le_bytes}
use Rattle.std.proofs.lemmas.List.Sums.{sum_by-cons}
use Rattle.log_entry.specs.declared.waits.WaitFor.{WaitFor}
use Rattle.log_entry.specs.declared.log.Entry.{Entry}
use Rattle.log_entry.specs.declared.log.Entry.TheVariants.{Gain, Yield, Poll, Touch, End}
use Rattle.log_entry.specs.declared.log.Log.{Log}
use Rattle.log_entry.specs.Parts.{unit_of}
use Rattle.log_entry.specs.Size.{size_of, size_in, size_of_stream, size_of_log}
use Rattle.log_format.specs.Grammar.{u32, any, mode_number, wait_format, waits_format, gain_format, yield_format, poll_format, touch_format, end_format}
use Rattle.log_format.specs.Grammar.{input_format, entry_format, stream_format, head_format, cause_format, log_format, head_of, spelling}
use Rattle.log_format.specs.Sizes.{HaveTheirSizes}

waits_size : (harts : ℕ) (waits : List WaitFor) → length (flat_map (wait_format harts).spell waits) ≡ 9 * length waits
unfolding wait_format
waits_size harts [] = refl
waits_size harts (wait ∷ waits) =
    let whole = length-append ((wait_format harts).spell wait) (flat_map (wait_format harts).spell waits) in
    let one : length ((wait_format harts).spell wait) ≡ 9 = refl in
    let rest = waits_size harts waits in
    omega (arith, whole, one, rest)

-- fields of so many bytes, and what stands behind them
behind_gain : (a b c d e f rest : List ℕ) → length a ≡ 1 → length b ≡ 8 → length c ≡ 2 → length d ≡ 4 → length e ≡ 1 → length f ≡ 1
    → length (a ++ (b ++ (c ++ (d ++ (e ++ (f ++ rest)))))) ≡ 17 + length rest
behind_gain a b c d e f rest p q r s t u =
    let la = length-append a (b ++ (c ++ (d ++ (e ++ (f ++ rest))))) in
    let lb = length-append b (c ++ (d ++ (e ++ (f ++ rest)))) in
    let lc = length-append c (d ++ (e ++ (f ++ rest))) in
    let ld = length-append d (e ++ (f ++ rest)) in
    let le = length-append e (f ++ rest) in
    let lf = length-append f rest in
    omega (arith, la, lb, lc, ld, le, lf, p, q, r, s, t, u)

entry_size : (harts units : ℕ) (entry : Entry) → length ((entry_format harts units).spell entry) ≡ size_of entry
unfolding entry_format gain_format yield_format poll_format touch_format end_format waits_format input_format
entry_size harts units (Gain count page seq mode waits) =
    behind_gain (to_le_bytes w8 1) (to_le_bytes w64 count) (to_le_bytes w16 page) (to_le_bytes w32 seq) (to_le_bytes w8 (mode_number mode))
    (to_le_bytes w8 (length waits.items))
    (flat_map (wait_format harts).spell waits.items) refl refl refl refl refl refl
    ∙ ap (λ (n : ℕ). 17 + n) (waits_size harts waits.items)
entry_size harts units (Yield count page seq left) = refl
entry_size harts units (Poll count ord time bits) = refl
entry_size harts units (Touch count ord input) = refl
entry_size harts units (End count) = refl

entries_size : (unit harts units : ℕ) (entries : List Entry) → length (flat_map (entry_format harts units).spell entries) ≡ sum_by (size_in unit harts) entries
entries_size unit harts units [] = refl
entries_size unit harts units (entry ∷ entries) =
    length-append ((entry_format harts units).spell entry) (flat_map (entry_format harts units).spell entries)
    ∙ ap (λ (n : ℕ). n + length (flat_map (entry_format harts units).spell entries)) (entry_size harts units entry)
    ∙ ap (λ (n : ℕ). size_of entry + n) (entries_size unit harts units entries)
    ∙ sym (sum_by-cons (size_in unit harts) entry entries)

stream_size : (unit harts units : ℕ) (stream : List Entry) → length ((stream_format harts units).spell stream) ≡ size_of_stream unit harts stream
stream_size unit harts units stream =
    length-append ((u32 1 any).spell (length stream)) (flat_map (entry_format harts units).spell stream)
    ∙ ap (λ (n : ℕ). 4 + n) (entries_size unit harts units stream)

streams_size : (unit harts units : ℕ) (streams : List (List Entry))
    → length (flat_map (stream_format harts units).spell streams) ≡ sum_by (size_of_stream unit harts) streams
streams_size unit harts units [] = refl
streams_size unit harts units (stream ∷ streams) =
    length-append ((stream_format harts units).spell stream) (flat_map (stream_format harts units).spell streams)
    ∙ ap (λ (n : ℕ). n + length (flat_map (stream_format harts units).spell streams)) (stream_size unit harts units stream)
    ∙ ap (λ (n : ℕ). size_of_stream unit harts stream + n) (streams_size unit harts units streams)
    ∙ sym (sum_by-cons (size_of_stream unit harts) stream streams)

behind_head : (a b c d e image : List ℕ) → length a ≡ 4 → length b ≡ 1 → length c ≡ 1 → length d ≡ 2 → length e ≡ 8
    → length (a ++ (b ++ (c ++ (d ++ (e ++ image))))) ≡ 16 + length image
behind_head a b c d e image p q r s t =
    let la = length-append a (b ++ (c ++ (d ++ (e ++ image)))) in
    let lb = length-append b (c ++ (d ++ (e ++ image))) in
    let lc = length-append c (d ++ (e ++ image)) in
    let ld = length-append d (e ++ image) in
    let le = length-append e image in
    omega (arith, la, lb, lc, ld, le, p, q, r, s, t)

pub head_size : (log : Log) → length (head_format.spell (head_of log)) ≡ 16 + length log.image
unfolding head_format
head_size log =
    behind_head (to_le_bytes w32 0x4C545652) (to_le_bytes w8 1) (to_le_bytes w8 (length log.streams)) (to_le_bytes w16 log.pages)
    (to_le_bytes w64 log.limit) log.image refl refl refl refl refl

log_size : (log : Log) → length log.image ≡ 32 → length (spelling log) ≡ size_of_log (unit_of log) log.streams
unfolding log_format
log_size log image =
    let s = (stream_format (length log.streams) log.pages).spell in
    let head = length-append (head_format.spell (head_of log)) (flat_map s log.streams ++ cause_format.spell log.cause) in
    let tail = length-append (flat_map s log.streams) (cause_format.spell log.cause) in
    let cause : length (cause_format.spell log.cause) ≡ 1 = refl in
    let first = head_size log in
    let body = streams_size (unit_of log) (length log.streams) log.pages log.streams in
    omega (arith, head, tail, cause, first, body, image)

ends_size : (unit harts : ℕ) (counts : List ℕ) → sum_by (size_of_stream unit harts) (map (λ count. End count ∷ []) counts) ≡ 13 * length counts
ends_size unit harts [] = refl
ends_size unit harts (count ∷ counts) =
    let whole = sum_by-cons (size_of_stream unit harts) (End count ∷ []) (map (λ count. End count ∷ []) counts) in
    let one : size_of_stream unit harts (End count ∷ []) ≡ 13 = refl in
    let rest = ends_size unit harts counts in
    omega (arith, whole, one, rest)

pub have_their_sizes : HaveTheirSizes
have_their_sizes = record {
  entry = λ unit harts units entry. entry_size harts units entry;
  log = log_size;
  frame = λ unit counts. ap (λ (n : ℕ). 49 + n) (ends_size unit (length (map (λ count. End count ∷ []) counts)) counts);
}
