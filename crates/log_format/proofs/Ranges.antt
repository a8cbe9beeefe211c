-- What fits the grammar is in range, and what is in range can be spelled.
use Rattle.std.proofs.Common.{◌≡◌, ℕ, zero, suc, ◌<◌, ◌≤◌, ◌^◌, Bool, true, false, Option, List, [], ◌∷◌, length, map, get_or, refl, subst, arith}
use Rattle.std.specs.Prelude.{◌&&◌, nat_lt, nat_le, All}
use Rattle.std.specs.List.{list_all, AllByRecursion}
use Rattle.std.proofs.lemmas.Bool.{and_from, lt-ltb, ltb-true, leb-true}
use Rattle.std.proofs.lemmas.List.{length-map}
use Rattle.std.proofs.lemmas.List.Elements.{All-from_get_or}
use Rattle.std.proofs.lemmas.List.Folds.{list_all_at}
use Rattle.rv_words.specs.declared.shared.Mode.{Mode}
use Rattle.rv_words.specs.Limits.{most_pages}
use Rattle.log_entry.specs.declared.waits.WaitFor.{WaitFor}
use Rattle.log_entry.specs.declared.log.Entry.{Entry}
use Rattle.log_entry.specs.declared.log.Entry.TheVariants.{Gain, Yield, Poll, Touch, End}
use Rattle.log_entry.specs.declared.log.Log.{Log}
use Rattle.log_entry.specs.Room.{entry_without_room, stream_without_room, log_without_room}
use Rattle.log_entry.specs.Range.{is_wait, is_left, is_entry, is_stream, in_range}
use Rattle.log_format.specs.Grammar.{between, at_most, left_of, left_number, left_format, wait_format, waits_format, gain_format, yield_format, poll_format}
use Rattle.log_format.specs.Grammar.{entry_format, stream_format, head_format, log_format}
use Rattle.log_format.specs.Writing.{IsSpellable, IsSpellableStream}

pub and_left : (x y : Bool) → (x && y) ≡ true → x ≡ true
and_left true y h = refl
and_left false y h = absurd cc

pub and_right : (x y : Bool) → (x && y) ≡ true → y ≡ true
and_right true y h = h
and_right false y h = absurd cc

waits_in : (harts : ℕ) (waits : List WaitFor) → AllByRecursion (wait_format harts).Fits waits → list_all (is_wait harts) waits ≡ true
unfolding wait_format
waits_in harts [] fits = refl
waits_in harts (wait ∷ waits) fits = and_from (is_wait harts wait) (list_all (is_wait harts) waits) fits.0.0.0.1 (waits_in harts waits fits.1)

left_of_in : (n : ℕ) → is_left (left_of n) ≡ true
left_of_in zero = refl
left_of_in (suc n) = refl

left_in : (left : Option Mode) → left_format.Fits left → is_left left ≡ true
left_in left fits = subst (λ (x : Option Mode). is_left x ≡ true) fits.1 (left_of_in (left_number left))

bits_in : (bits : ℕ) → nat_le bits 3 ≡ true → nat_lt bits 4 ≡ true
bits_in bits h = lt-ltb bits 4 (omega (arith, leb-true bits 3 h))

entry_in : (harts units : ℕ) (entry : Entry) → (entry_format harts units).Fits (entry_without_room entry) → is_entry harts units entry ≡ true
unfolding entry_format gain_format yield_format poll_format waits_format
entry_in harts units (Gain count page seq mode waits) fits =
    let list = fits.1.0.1.1.1.1 in
    and_from (nat_lt page units && nat_le (length waits.items) 7) (list_all (is_wait harts) waits.items)
    (and_from (nat_lt page units) (nat_le (length waits.items) 7) fits.1.0.1.0.1 list.0.0.0.1)
    (waits_in harts waits.items list.0.0.1.1)
entry_in harts units (Yield count page seq left) fits = and_from (nat_lt page units) (is_left left) fits.1.0.1.0.1 (left_in left fits.1.0.1.1.1)
entry_in harts units (Poll count ord time bits) fits = bits_in bits fits.1.0.1.1.1.1
entry_in harts units (Touch count ord input) fits = refl
entry_in harts units (End count) fits = refl

entries_in : (harts units : ℕ) (entries : List Entry) → AllByRecursion (entry_format harts units).Fits (map entry_without_room entries)
    → list_all (is_entry harts units) entries ≡ true
entries_in harts units [] fits = refl
entries_in harts units (entry ∷ entries) fits =
    and_from (is_entry harts units entry) (list_all (is_entry harts units) entries) (entry_in harts units entry fits.0) (entries_in harts units entries fits.1)

stream_in : (harts units : ℕ) (entries : List Entry) → (stream_format harts units).Fits (stream_without_room entries) → is_stream harts units entries ≡ true
stream_in harts units entries fits =
    and_from (nat_lt (length entries) (2 ^ 32)) (list_all (is_entry harts units) entries)
    (lt-ltb (length entries) (2 ^ 32) (subst (λ (n : ℕ). n < 2 ^ 32) (length-map entries entry_without_room) fits.0.0.0))
    (entries_in harts units entries fits.0.1.1)

streams_in : (harts units : ℕ) (streams : List (List Entry)) → AllByRecursion (stream_format harts units).Fits (map stream_without_room streams)
    → list_all (is_stream harts units) streams ≡ true
streams_in harts units [] fits = refl
streams_in harts units (stream ∷ streams) fits =
    and_from (is_stream harts units stream) (list_all (is_stream harts units) streams) (stream_in harts units stream fits.0)
    (streams_in harts units streams fits.1)

six : (a b c d e f : Bool) → (a && b) ≡ true → (c && d) ≡ true → e ≡ true → f ≡ true → (a && b && c && d && e && f) ≡ true
six true true true true true true p q r s = refl
six true true true true true false p q r s = s
six true true true true false f p q r s = r
six true true true false e f p q r s = q
six true true false d e f p q r s = q
six true false c d e f p q r s = p
six false b c d e f p q r s = p

-- a log that fits the grammar is in range
pub range-from_fits : (log : Log) → log_format.Fits (log_without_room log) → in_range log ≡ true
unfolding log_format head_format
range-from_fits log fits =
    let head = fits.0.0 in
    let count : length (map stream_without_room log.streams) ≡ length log.streams = length-map log.streams stream_without_room in
    six (nat_le 1 (length log.streams)) (nat_le (length log.streams) 8) (nat_le 1 log.pages) (nat_le log.pages most_pages) (nat_le log.limit 1000000000000)
    (list_all (is_stream (length log.streams) log.pages) log.streams)
    (subst (λ (n : ℕ). (nat_le 1 n && nat_le n 8) ≡ true) count head.1.1.0.1)
    head.1.1.1.0.1
    head.1.1.1.1.0.1
    (streams_in (length log.streams) log.pages log.streams
    (subst (λ (n : ℕ). AllByRecursion (stream_format n log.pages).Fits (map stream_without_room log.streams)) count fits.0.1.0.1))

-- ---- what is in range can be spelled

parts_from : (a b c d e f : Bool) → (a && b && c && d && e && f) ≡ true → ((a && b) ≡ true) × ((c && d) ≡ true) × (e ≡ true) × (f ≡ true)
parts_from a b c d e f h =
    let five = and_left (a && b && c && d && e) f h in
    let four = and_left (a && b && c && d) e five in
    let three = and_left (a && b && c) d four in (
      and_left (a && b) c three,
      and_from c d (and_right (a && b) c three) (and_right (a && b && c) d four),
      and_right (a && b && c && d) e five,
      and_right (a && b && c && d && e) f h,
    )

-- the streams, the pages and the limit are in range, and so is what each stream has
abbrev pub Parts : Log → Type 0
Parts log =
    (between 1 8 (length log.streams) ≡ true) × (between 1 most_pages log.pages ≡ true) × (at_most 1000000000000 log.limit ≡ true)
    × (list_all (is_stream (length log.streams) log.pages) log.streams ≡ true)

pub parts_of : (log : Log) → in_range log ≡ true → Parts log
parts_of log h =
    parts_from (nat_le 1 (length log.streams)) (nat_le (length log.streams) 8) (nat_le 1 log.pages) (nat_le log.pages most_pages)
    (nat_le log.limit 1000000000000) (list_all (is_stream (length log.streams) log.pages) log.streams) h

pub up_to : (low high n : ℕ) → between low high n ≡ true → n ≤ high
up_to low high n h = leb-true n high (and_right (nat_le low n) (nat_le n high) h)

pub few_streams : (log : Log) → in_range log ≡ true → length log.streams < 2 ^ 8
few_streams log h = omega (arith, up_to 1 8 (length log.streams) (parts_of log h).0)

clash : (b : Bool) → b ≡ true → b ≡ false → ⊥
clash true h e = cc
clash false h e = cc

pick : (b : Bool) → (b ≡ false → ⊥) → b ≡ true
pick true h = refl
pick false h = absurd (h refl)

pub list_all_get : {X : Type 0} (p : X → Bool) (xs : List X) (i : ℕ) (d : X) → i < length xs → list_all p xs ≡ true → p (get_or xs i d) ≡ true
list_all_get p xs i d lt all = pick (p (get_or xs i d)) (λ e. clash (list_all p xs) all (list_all_at p xs i d lt e))

pub page_fits : (page units : ℕ) → units ≤ most_pages → nat_lt page units ≡ true → page < 2 ^ 16
page_fits page units le h = omega (arith, ltb-true page units h)

entry_spellable : (harts units : ℕ) → units ≤ most_pages → (entry : Entry) → is_entry harts units entry ≡ true → IsSpellable entry
entry_spellable harts units le (Gain count page seq mode waits) h =
    page_fits page units le
    (and_left (nat_lt page units) (nat_le (length waits.items) 7)
    (and_left (nat_lt page units && nat_le (length waits.items) 7) (list_all (is_wait harts) waits.items) h))
entry_spellable harts units le (Yield count page seq left) h = page_fits page units le (and_left (nat_lt page units) (is_left left) h)
entry_spellable harts units le (Poll count ord time bits) h = tt
entry_spellable harts units le (Touch count ord input) h = tt
entry_spellable harts units le (End count) h = tt

stream_spellable : (harts units : ℕ) → units ≤ most_pages → (stream : List Entry) → is_stream harts units stream ≡ true → IsSpellableStream stream
stream_spellable harts units le stream h = record {
  short = ltb-true (length stream) (2 ^ 32) (and_left (nat_lt (length stream) (2 ^ 32)) (list_all (is_entry harts units) stream) h);
  entries = All-from_get_or IsSpellable stream (End 0) (λ i lt. entry_spellable harts units le (get_or stream i (End 0))
      (list_all_get (is_entry harts units) stream i (End 0) lt (and_right (nat_lt (length stream) (2 ^ 32)) (list_all (is_entry harts units) stream) h)));
}

pub spellable-from_range : (log : Log) → in_range log ≡ true → All IsSpellableStream log.streams
spellable-from_range log h =
    let parts = parts_of log h in
    All-from_get_or IsSpellableStream log.streams []
    (λ i lt. stream_spellable (length log.streams) log.pages (up_to 1 most_pages log.pages parts.1) (get_or log.streams i [])
    (list_all_get (is_stream (length log.streams) log.pages) log.streams i [] lt parts.3))
