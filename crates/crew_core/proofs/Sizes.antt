-- The bytes of a board's log, as entries are added.
use Rattle.std.proofs.Common.{replicate, ◌≡◌, ℕ, zero, suc, ◌+◌, ◌*◌, ◌<◌, ◌≤◌, ◌++◌, List, [], ◌∷◌, length, slice_set, ap, arith}
use Rattle.log_entry.specs.declared.log.Entry.{Entry}
use Rattle.log_entry.specs.Size.{size_of}
use Rattle.flat_machine.specs.State.{FlatState}
use Rattle.crew_recording.specs.Recording.{stream_in}
use Rattle.crew_parts.specs.Boards.{the_machine}
use Rattle.turn_model.specs.Board.{Board, Terms, stream}
use Rattle.turn_model.specs.Ways.{log_size}
use Rattle.turn_laws.proofs.Sizes.{size_is, total_more}
use Rattle.turn_model.proofs.LogSizes.{total, total_none}
use Rattle.turn_laws.proofs.EndsKept.{entries_size}

pub size_alike : (terms : Terms) (b d : Board FlatState) → d.streams ≡ b.streams → log_size the_machine terms d ≡ log_size the_machine terms b
size_alike terms b d same = let x = size_is the_machine terms b in let y = size_is the_machine terms d in let t = ap total same in omega (arith, x, y, t)

pub size_more : (terms : Terms) (b d : Board FlatState) (h : ℕ) (e : Entry) → h < length b.streams → d.streams
    ≡ slice_set b.streams h (stream_in b.streams h ++ e ∷ [])
    → log_size the_machine terms d ≡ log_size the_machine terms b + size_of e
size_more terms b d h e l is = let x = size_is the_machine terms b in let y = size_is the_machine terms d in let t = ap total is in let m = total_more
    b.streams h e l in omega
    (arith, x, y, t, m)

pub size_begin : (terms : Terms) (b : Board FlatState) (n : ℕ) → b.streams ≡ replicate n [] → log_size the_machine terms b ≡ 49 + 13 * n
size_begin terms b n is = let x = size_is the_machine terms b in let t = ap total is in let m = total_none n in omega (arith, x, t, m)

fits_total : (streams : List (List Entry)) (h : ℕ) → length (stream_in streams h) ≤ total streams
fits_total [] h = omega arith
fits_total (s ∷ streams) zero = let m = entries_size s in omega (arith, m)
fits_total (s ∷ streams) (suc h) = let r = fits_total streams h in omega (arith, r)

-- a log has no more entries of a hart than bytes
pub entries_fit : (terms : Terms) (b : Board FlatState) (h : ℕ) → length (stream b h) ≤ log_size the_machine terms b
entries_fit terms b h = let x = size_is the_machine terms b in let m = fits_total b.streams h in omega (arith, x, m)
