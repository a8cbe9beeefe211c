-- The bytes of a log of version 1, field by field, each with the rule that it breaks where it is bad.
use Rattle.std.specs.Prelude.{ℕ, zero, suc, ◌^◌, ◌-◌, length, List, [], Bool, true, Option, Some, None, Result, Ok, Err, nat_lt, nat_le, ◌&&◌, ◌==◌}
use Rattle.std.specs.Int.{w8, w16, w32, w64}
use Rattle.rv_words.specs.declared.shared.Mode.{Mode}
use Rattle.rv_words.specs.declared.shared.Mode.TheVariants.{Read, Write}
use Rattle.rv_words.specs.declared.shared.Input.{Input}
use Rattle.rv_words.specs.declared.shared.Input.TheVariants as inputs
use Rattle.rv_words.specs.declared.shared.Cause.{Cause}
use Rattle.rv_words.specs.declared.shared.Cause.TheVariants as causes
use Rattle.rv_words.specs.Limits.{most_pages, most_moves}
use Rattle.log_entry.specs.declared.waits.WaitFor.{WaitFor}
use Rattle.log_entry.specs.Waits.{WaitList}
use Rattle.log_entry.specs.declared.log.Entry.{Entry}
use Rattle.log_entry.specs.declared.log.Entry.TheVariants.{Gain, Yield, Poll, Touch, End}
use Rattle.log_entry.specs.declared.log.Log.{Log}
use Rattle.log_entry.specs.Parts.{count_of}
use Rattle.log_format.specs.Format.{Format, Bad, number, block, bind, as_value, tagged, repeat, counted, whole}

-- ---- numbers, little-endian

abbrev pub any : ℕ → Bool
any n = true

abbrev pub exactly : ℕ → ℕ → Bool
exactly value n = n == value

abbrev pub below : ℕ → ℕ → Bool
below limit n = nat_lt n limit

abbrev pub at_most : ℕ → ℕ → Bool
at_most limit n = nat_le n limit

abbrev pub between : ℕ → ℕ → ℕ → Bool
between low high n = nat_le low n && nat_le n high

abbrev pub u8 : ℕ → (ℕ → Bool) → Format ℕ
u8 = number w8 (2 ^ 8)

abbrev pub u16 : ℕ → (ℕ → Bool) → Format ℕ
u16 = number w16 (2 ^ 16)

abbrev pub u32 : ℕ → (ℕ → Bool) → Format ℕ
u32 = number w32 (2 ^ 32)

abbrev pub u64 : ℕ → (ℕ → Bool) → Format ℕ
u64 = number w64 (2 ^ 64)

-- ---- values of one byte

abbrev pub mode_of : ℕ → Mode
mode_of (suc zero) = Read
mode_of n = Write

abbrev pub mode_number : Mode → ℕ
mode_number Read = 1
mode_number Write = 2

abbrev pub left_of : ℕ → Option Mode
left_of zero = None
left_of n = Some Read

abbrev pub left_number : Option Mode → ℕ
left_number None = 0
left_number (Some mode) = 1

abbrev pub cause_of : ℕ → Cause
cause_of (suc zero) = causes.Stop
cause_of (suc (suc zero)) = causes.Limit
cause_of (suc (suc (suc zero))) = causes.Full
cause_of (suc (suc (suc (suc zero)))) = causes.Fault
cause_of n = causes.Cut

abbrev pub cause_number : Cause → ℕ
cause_number causes.Stop = 1
cause_number causes.Limit = 2
cause_number causes.Full = 3
cause_number causes.Fault = 4
cause_number causes.Cut = 5

abbrev pub mode_format : Format Mode
mode_format = as_value mode_of mode_number (u8 9 (between 1 2))

abbrev pub left_format : Format (Option Mode)
left_format = as_value left_of left_number (u8 9 (at_most 1))

abbrev pub cause_format : Format Cause
cause_format = as_value cause_of cause_number (u8 13 (between 1 5))

-- ---- an input: its kind, and its value, which is 0 where the kind has none

abbrev pub input_of : ℕ → ℕ → Input
input_of zero value = inputs.Nothing
input_of (suc zero) value = inputs.Empty
input_of (suc (suc zero)) value = inputs.Byte value
input_of kind value = inputs.Time value

abbrev pub kind_number : Input → ℕ
kind_number inputs.Nothing = 0
kind_number inputs.Empty = 1
kind_number (inputs.Byte byte) = 2
kind_number (inputs.Time time) = 3

abbrev pub value_number : Input → ℕ
value_number inputs.Nothing = 0
value_number inputs.Empty = 0
value_number (inputs.Byte byte) = byte
value_number (inputs.Time time) = time

abbrev pub greatest_value : ℕ → ℕ
greatest_value zero = 0
greatest_value (suc zero) = 0
greatest_value (suc (suc zero)) = 255
greatest_value kind = 2 ^ 64 - 1

unfoldable pub input_format : Format Input
input_format = as_value (λ x. input_of x.0 x.1) (λ i. (kind_number i, value_number i))
    (bind (u8 12 (at_most 3)) (λ kind. u64 12 (at_most (greatest_value kind))))

-- ---- entries

-- a wait: a hart of the log, and a count
unfoldable pub wait_format : ℕ → Format WaitFor
wait_format harts = as_value (λ x. record { hart = x.0; count = x.1 }) (λ w. (w.hart, w.count))
    (bind (u8 10 (below harts)) (λ _. u64 1 any))

-- the number of waits, and they
unfoldable pub waits_format : ℕ → Format WaitList
waits_format harts = as_value (λ waits. record { items = waits; room = 0 }) (λ w. w.items)
    (counted (u8 10 (at_most 7)) (wait_format harts))

-- a Gain: count, page, number, mode, waits
unfoldable pub gain_format : ℕ → ℕ → Format Entry
gain_format harts units = as_value (λ x. Gain x.0 x.1.0 x.1.1.0 x.1.1.1.0 x.1.1.1.1) gain_parts
    (bind (u64 1 any) (λ _. bind (u16 8 (below units)) (λ _. bind (u32 1 any) (λ _. bind mode_format (λ _. waits_format harts))))) where
      gain_parts : Entry → ℕ × (ℕ × (ℕ × (Mode × WaitList)))
      gain_parts (Gain count page seq mode waits) = (count, (page, (seq, (mode, waits))))
      gain_parts entry = (0, (0, (0, (Read, record { items = []; room = 0 }))))

-- a Yield: count, page, number, what is left
unfoldable pub yield_format : ℕ → Format Entry
yield_format units = as_value (λ x. Yield x.0 x.1.0 x.1.1.0 x.1.1.1) yield_parts
    (bind (u64 1 any) (λ _. bind (u16 8 (below units)) (λ _. bind (u32 1 any) (λ _. left_format)))) where
      yield_parts : Entry → ℕ × (ℕ × (ℕ × Option Mode))
      yield_parts (Yield count page seq left) = (count, (page, (seq, left)))
      yield_parts entry = (0, (0, (0, None)))

-- a Poll: count, ordinal, time, bits
unfoldable pub poll_format : Format Entry
poll_format = as_value (λ x. Poll x.0 x.1.0 x.1.1.0 x.1.1.1) poll_parts
    (bind (u64 1 any) (λ _. bind (u32 1 any) (λ _. bind (u64 1 any) (λ _. u8 11 (at_most 3))))) where
      poll_parts : Entry → ℕ × (ℕ × (ℕ × ℕ))
      poll_parts (Poll count ord time bits) = (count, (ord, (time, bits)))
      poll_parts entry = (0, (0, (0, 0)))

-- a Touch: count, ordinal, input
unfoldable pub touch_format : Format Entry
touch_format = as_value (λ x. Touch x.0 x.1.0 x.1.1) touch_parts
    (bind (u64 1 any) (λ _. bind (u32 1 any) (λ _. input_format))) where
      touch_parts : Entry → ℕ × (ℕ × Input)
      touch_parts (Touch count ord input) = (count, (ord, input))
      touch_parts entry = (0, (0, inputs.Nothing))

-- an End: its count
unfoldable pub end_format : Format Entry
end_format = as_value End count_of (u64 1 any)

abbrev pub tag_of : Entry → ℕ
tag_of (Gain count page seq mode waits) = 1
tag_of (Yield count page seq left) = 2
tag_of (Poll count ord time bits) = 3
tag_of (Touch count ord input) = 4
tag_of (End count) = 5

abbrev pub fields_of_tag : ℕ → ℕ → ℕ → Format Entry
fields_of_tag harts units (suc zero) = gain_format harts units
fields_of_tag harts units (suc (suc zero)) = yield_format units
fields_of_tag harts units (suc (suc (suc zero))) = poll_format
fields_of_tag harts units (suc (suc (suc (suc zero)))) = touch_format
fields_of_tag harts units tag = end_format

-- an entry: its tag, and its fields
unfoldable pub entry_format : ℕ → ℕ → Format Entry
entry_format harts units = tagged (u8 7 (between 1 5)) (fields_of_tag harts units) tag_of

-- ---- a log

-- a stream: the number of its entries, and they
abbrev pub stream_format : ℕ → ℕ → Format (List Entry)
stream_format harts units = counted (u32 1 any) (entry_format harts units)

-- the bytes 52 56 54 4C
abbrev pub magic : ℕ
magic = 0x4C545652

-- what stands before the streams: magic, version, harts, pages, limit, start digest
abbrev pub Head : Type 0
Head = ℕ × (ℕ × (ℕ × (ℕ × (ℕ × List ℕ))))

unfoldable pub head_format : Format Head
head_format =
    bind (u32 2 (exactly magic)) (λ _. bind (u8 3 (exactly 1)) (λ _. bind (u8 4 (between 1 8)) (λ _.
    bind (u16 5 (between 1 most_pages)) (λ _. bind (u64 6 (at_most most_moves)) (λ _. block 32)))))

abbrev pub head_of : Log → Head
head_of log = (magic, (1, (length log.streams, (log.pages, (log.limit, log.image)))))

abbrev pub log_of : Head → List (List Entry) → Cause → Log
log_of head streams cause =
    record { pages = head.1.1.1.0; limit = head.1.1.1.1.0; image = head.1.1.1.1.1; streams = streams; cause = cause }

-- a log: the head, a stream for each hart, the cause
unfoldable pub log_format : Format Log
log_format = as_value (λ x. log_of x.0 x.1.0 x.1.1) (λ log. (head_of log, (log.streams, log.cause)))
    (bind head_format (λ head. bind (repeat head.1.1.0 (stream_format head.1.1.0 head.1.1.1.0)) (λ _. cause_format)))

-- ---- what other crates cite

-- the bytes of a log
abbrev pub spelling : Log → List ℕ
spelling = log_format.spell

-- a bad field by the offset of its first byte, in place of the bytes that are left there
abbrev pub by_offset : ℕ → Result Log Bad → Result Log Bad
by_offset size (Ok log) = Ok log
by_offset size (Err bad) = Err (size - bad.0, bad.1)

-- the log that the bytes spell, or the offset of the first bad field and the rule that it breaks
abbrev pub reading : List ℕ → Result Log Bad
reading bytes = by_offset (length bytes) (whole 14 log_format bytes)
