-- A log in range whose numbers fit their fields fits the grammar, so that its bytes are read as that log.
use Rattle.std.proofs.Common.{◌≡◌, ℕ, suc, ◌-◌, ◌<◌, ◌≤◌, ◌^◌, Bool, true, Option, Some, None, List, [], ◌∷◌, length, map, Ok, refl, sym, ap, subst, ◌∙◌, arith}
use Rattle.std.specs.Prelude.{◌&&◌, nat_lt, nat_le, All}
use Rattle.std.specs.List.{list_all, AllByRecursion}
use Rattle.std.proofs.lemmas.Bool.{le-leb, ltb-true, leb-true}
use Rattle.std.proofs.lemmas.List.{length-map}
use Rattle.rv_words.specs.declared.shared.Mode.{Mode}
use Rattle.rv_words.specs.declared.shared.Mode.TheVariants.{Read, Write}
use Rattle.rv_words.specs.declared.shared.Input.{Input}
use Rattle.rv_words.specs.declared.shared.Input.TheVariants.{Nothing, Empty, Byte, Time}
use Rattle.rv_words.specs.declared.shared.Cause.{Cause}
use Rattle.rv_words.specs.declared.shared.Cause.TheVariants as causes
use Rattle.rv_words.specs.Limits.{most_pages}
use Rattle.log_entry.specs.declared.waits.WaitFor.{WaitFor}
use Rattle.log_entry.specs.declared.log.Entry.{Entry}
use Rattle.log_entry.specs.declared.log.Entry.TheVariants.{Gain, Yield, Poll, Touch, End}
use Rattle.log_entry.specs.declared.log.Log.{Log}
use Rattle.log_entry.specs.Room.{entry_without_room, stream_without_room, log_without_room}
use Rattle.log_entry.specs.Range.{is_wait, is_left, is_entry, is_stream, in_range}
use Rattle.log_format.specs.Grammar.{mode_format, left_format, cause_format, input_format, wait_format, waits_format, gain_format, yield_format, poll_format}
use Rattle.log_format.specs.Grammar.{touch_format, end_format, entry_format, stream_format, magic, head_format, head_of, log_format, spelling, by_offset}
use Rattle.log_format.specs.Grammar.{reading}
use Rattle.log_format.specs.Writing.{IsNarrowInput, IsNarrowWait, IsNarrow}
use Rattle.log_format.proofs.Exact.{whole-again}
use Rattle.log_format.proofs.Grammar.{log-exact}
use Rattle.log_format.proofs.Ranges.{and_left, and_right, Parts, parts_of, up_to, page_fits}
use Rattle.log_format.proofs.Spelling.{spelling-room}

each_fits : {X : Type 0} (p : X → Bool) (P Q : X → Type 0) → ((x : X) → p x ≡ true → P x → Q x) → (xs : List X) → list_all p xs ≡ true → All P xs
    → AllByRecursion Q xs
each_fits p P Q one [] inside narrow = tt
each_fits p P Q one (x ∷ xs) inside narrow = (
  one x (and_left (p x) (list_all p xs) inside) (narrow 0 x (omega arith)),
  each_fits p P Q one xs (and_right (p x) (list_all p xs) inside) (λ i d within. narrow (suc i) d (omega (arith, within))),
)

all_mapped : {X Y : Type 0} (f : X → Y) (Q : Y → Type 0) (xs : List X) → AllByRecursion (λ x. Q (f x)) xs → AllByRecursion Q (map f xs)
all_mapped f Q [] fits = tt
all_mapped f Q (x ∷ xs) fits = (fits.0, all_mapped f Q xs fits.1)

mode_fits : (mode : Mode) → mode_format.Fits mode
mode_fits Read = ((omega arith, refl), refl)
mode_fits Write = ((omega arith, refl), refl)

left_fits : (left : Option Mode) → is_left left ≡ true → left_format.Fits left
left_fits None h = ((omega arith, refl), refl)
left_fits (Some Read) h = ((omega arith, refl), refl)
left_fits (Some Write) h = absurd cc

cause_fits : (cause : Cause) → cause_format.Fits cause
cause_fits causes.Stop = ((omega arith, refl), refl)
cause_fits causes.Limit = ((omega arith, refl), refl)
cause_fits causes.Full = ((omega arith, refl), refl)
cause_fits causes.Fault = ((omega arith, refl), refl)
cause_fits causes.Cut = ((omega arith, refl), refl)

input_fits : (input : Input) → IsNarrowInput input → input_format.Fits input
unfolding input_format
input_fits Nothing narrow = (((omega arith, refl), (omega arith, refl)), refl)
input_fits Empty narrow = (((omega arith, refl), (omega arith, refl)), refl)
input_fits (Byte byte) narrow = (((omega arith, refl), (omega (arith, narrow), le-leb byte 255 (omega (arith, narrow)))), refl)
input_fits (Time time) narrow = (((omega arith, refl), (narrow, le-leb time (2 ^ 64 - 1) (omega (arith, narrow)))), refl)

wait_fits : (harts : ℕ) → harts ≤ 8 → (wait : WaitFor) → is_wait harts wait ≡ true → IsNarrowWait wait → (wait_format harts).Fits wait
unfolding wait_format
wait_fits harts few wait inside narrow = (((omega (arith, few, ltb-true wait.hart harts inside), inside), (narrow, refl)), refl)

entry_fits : (harts units : ℕ) → harts ≤ 8 → units ≤ most_pages → (entry : Entry) → is_entry harts units entry ≡ true → IsNarrow entry
    → (entry_format harts units).Fits (entry_without_room entry)
unfolding entry_format gain_format yield_format poll_format touch_format end_format waits_format
entry_fits harts units few small (Gain count page seq mode waits) inside narrow =
    let two = and_left (nat_lt page units && nat_le (length waits.items) 7) (list_all (is_wait harts) waits.items) inside in
    let below = and_left (nat_lt page units) (nat_le (length waits.items) 7) two in
    let seven = and_right (nat_lt page units) (nat_le (length waits.items) 7) two in
    let each = each_fits (is_wait harts) IsNarrowWait (wait_format harts).Fits (wait_fits harts few) waits.items
    (and_right (nat_lt page units && nat_le (length waits.items) 7) (list_all (is_wait harts) waits.items) inside) narrow.2 in
    let list : (waits_format harts).Fits (record { items = waits.items; room = 0 }) =
    ((((omega (arith, leb-true (length waits.items) 7 seven), seven), (refl, each)), refl), refl) in
    ((omega arith, refl), (((narrow.0, refl), ((page_fits page units small below, below), ((narrow.1, refl), (mode_fits mode, list)))), refl))
entry_fits harts units few small (Yield count page seq left) inside narrow =
    let below = and_left (nat_lt page units) (is_left left) inside in (
      (omega arith, refl),
      (
        (
          (narrow.0, refl),
          ((page_fits page units small below, below), ((narrow.1, refl), left_fits left (and_right (nat_lt page units) (is_left left) inside))),
        ),
        refl,
      ),
    )
entry_fits harts units few small (Poll count ord time bits) inside narrow =
    let low = ltb-true bits 4 inside in
    ((omega arith, refl), (((narrow.0, refl), ((narrow.1, refl), ((narrow.2, refl), (omega (arith, low), le-leb bits 3 (omega (arith, low)))))), refl))
entry_fits harts units few small (Touch count ord input) inside narrow =
    ((omega arith, refl), (((narrow.0, refl), ((narrow.1, refl), input_fits input narrow.2)), refl))
entry_fits harts units few small (End count) inside narrow = ((omega arith, refl), ((narrow, refl), refl))

stream_fits : (harts units : ℕ) → harts ≤ 8 → units ≤ most_pages → (stream : List Entry) → is_stream harts units stream ≡ true → All IsNarrow stream
    → (stream_format harts units).Fits (stream_without_room stream)
stream_fits harts units few small stream inside narrow =
    let short = ltb-true (length stream) (2 ^ 32) (and_left (nat_lt (length stream) (2 ^ 32)) (list_all (is_entry harts units) stream) inside) in
    let each = each_fits (is_entry harts units) IsNarrow (λ entry. (entry_format harts units).Fits (entry_without_room entry))
    (entry_fits harts units few small) stream
    (and_right (nat_lt (length stream) (2 ^ 32)) (list_all (is_entry harts units) stream) inside) narrow in (
      (
        (subst (λ (n : ℕ). n < 2 ^ 32) (sym (length-map stream entry_without_room)) short, refl),
        (refl, all_mapped entry_without_room (entry_format harts units).Fits stream each),
      ),
      refl,
    )

streams_fit : (harts units : ℕ) → harts ≤ 8 → units ≤ most_pages → (streams : List (List Entry)) → list_all (is_stream harts units) streams ≡ true
    → All (All IsNarrow) streams
    → AllByRecursion (stream_format harts units).Fits (map stream_without_room streams)
streams_fit harts units few small streams inside narrow =
    all_mapped stream_without_room (stream_format harts units).Fits streams
    (each_fits (is_stream harts units) (All IsNarrow) (λ stream. (stream_format harts units).Fits (stream_without_room stream))
    (stream_fits harts units few small) streams inside narrow)

head_fits : (log : Log) → Parts log → length log.image ≡ 32 → head_format.Fits (head_of log)
unfolding head_format
head_fits log parts image =
    let few = up_to 1 8 (length log.streams) parts.0 in
    let small = up_to 1 most_pages log.pages parts.1 in
    let low = leb-true log.limit 1000000000000 parts.2 in
    ((omega arith, refl), ((omega arith, refl), ((omega (arith, few), parts.0), ((omega (arith, small), parts.1), ((omega (arith, low), parts.2), image)))))

-- a log in range fits
fits-from_range : (log : Log) → in_range log ≡ true → All (All IsNarrow) log.streams → length log.image ≡ 32 → log_format.Fits (log_without_room log)
unfolding log_format
fits-from_range log inside narrow image =
    let parts = parts_of log inside in
    let harts : length (map stream_without_room log.streams) ≡ length log.streams = length-map log.streams stream_without_room in
    let head = subst (λ (n : ℕ). head_format.Fits (magic, (1, (n, (log.pages, (log.limit, log.image)))))) (sym harts) (head_fits log parts image) in
    let streams = subst (λ (n : ℕ). AllByRecursion (stream_format n log.pages).Fits (map stream_without_room log.streams)) (sym harts)
    (streams_fit (length log.streams) log.pages (up_to 1 8 (length log.streams) parts.0) (up_to 1 most_pages log.pages parts.1) log.streams parts.3 narrow) in
    ((head, ((refl, streams), cause_fits log.cause)), refl)

-- its bytes are read as that log
pub read-again : (log : Log) → in_range log ≡ true → All (All IsNarrow) log.streams → length log.image ≡ 32 → reading (spelling log) ≡ Ok (log_without_room log)
read-again log inside narrow image =
    ap reading (sym (spelling-room log))
    ∙ ap (by_offset (length (spelling (log_without_room log))))
    (whole-again 14 log_format log-exact (log_without_room log) (fits-from_range log inside narrow image))
