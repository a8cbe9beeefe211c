-- What a log's bytes are made of: the head, and behind it parts that no piece divides.
use Rattle.std.specs.Prelude.{ℕ, List, [], ◌∷◌, ◌++◌, map, drop, length, slice_index_or}
use Rattle.rv_words.specs.declared.shared.Cause.{Cause}
use Rattle.log_entry.specs.declared.log.Entry.{Entry}
use Rattle.log_entry.specs.declared.log.Log.{Log}
use Rattle.log_format.specs.Grammar.{u32, any, entry_format, cause_format, head_format, head_of}

-- the head
abbrev pub head_bytes : Log → List ℕ
head_bytes log = head_format.spell (head_of log)

-- the parts of a stream: the number of its entries, and each entry; bounds change no byte
abbrev pub stream_parts : List Entry → List (List ℕ)
stream_parts stream = (u32 1 any).spell (length stream) ∷ map (entry_format 0 0).spell stream

abbrev pub part_at : ℕ → List Entry → List ℕ
part_at next stream = slice_index_or (stream_parts stream) next []

-- the parts of streams, without so many of the first stream's, and then the cause
abbrev pub parts_from : ℕ → List (List Entry) → Cause → List (List ℕ)
parts_from next [] cause = drop next (cause_format.spell cause ∷ [])
parts_from next (stream ∷ streams) cause = drop next (stream_parts stream) ++ parts_from 0 streams cause

-- all that stands behind the head
abbrev pub parts_of : Log → List (List ℕ)
parts_of log = parts_from 0 log.streams log.cause
