-- How many entries and moves are left: each item takes one.
use Rattle.std.proofs.Common.{◌≡◌, ℕ, suc, ◌+◌, ◌*◌, ◌<◌, ◌≤◌, List, [], ◌∷◌, map, length, Option, Some}
use Rattle.std.proofs.Common.{slice_index}
use Rattle.std.proofs.Common.{sym, ap, ◌∙◌, arith}
use Rattle.std.proofs.lemmas.List.{length-map}
use Rattle.std.proofs.lemmas.Option.{slice_get_within}
use Rattle.elf_image.specs.Image.{Image}
use Rattle.log_entry.specs.declared.log.Log.{Log}
use Rattle.log_entry.specs.Parts.{unit_of}
use Rattle.orders_law.proofs.Totals.{total_least, index_map}
use Rattle.orders_law.specs.Orders.{total}
use Rattle.order_rules.specs.Places.{stream}
use Rattle.flat_machine.specs.State.{FlatState}
use Rattle.flat_machine.specs.declared.results.Step.{Step}
use Rattle.replay_model.specs.Board.{board}
use Rattle.replay_model.specs.Items.{step}
use Rattle.replay_model.specs.State.{Replay}
use Rattle.replay_law.specs.Laws.{IsReplayable}
use Rattle.replay_law.proofs.Progress.{Going, goes, going_lasts}
use Rattle.replay_parts.proofs.Within.{did, one_done}
use Rattle.replay_core.proofs.CountLimits.{at_most_limit}

-- numbers of at most so much
total_most : (xs : List ℕ) (most : ℕ) → ((i : ℕ) → i < length xs → slice_index xs i ≤ most) → total xs ≤ length xs * most
total_most [] most each = omega arith
total_most (x ∷ xs) most each =
    let here : x ≤ most = each 0 (omega arith) in
    let rest = total_most xs most (λ i l. each (suc i) (omega (arith, l))) in
    let more : suc (length xs) * most ≡ most + length xs * most = omega arith in
    omega (arith, here, rest, more)

module _ (log : Log) (image : Image) (is : IsReplayable log image) where
  abbrev pub done : Replay FlatState → ℕ
  done s = total s.cursor.places + total s.flat.counts

  counts_size : (s : Replay FlatState) → Going log image is s → length s.flat.counts ≡ length log.streams
  counts_size s going = going.good.sound.sized.counts_size ∙ going.good.sound.sized.harts_size

  pub within : (s : Replay FlatState) → Going log image is s → done s ≤ total (map length log.streams) + length log.streams * log.limit
  within s going =
      let places = total_least s.cursor.places (map length log.streams) (going.places ∙ sym (length-map log.streams length)) (λ i l.
      let inside : i < length log.streams = (let p = going.places in omega (arith, l, p)) in
      let b = going.behind i inside in
      let w = slice_get_within (stream log i) (slice_index s.cursor.places i) b.entry b.first in
      let size = index_map length log.streams i inside in omega (arith, w, size)) in
      let counts = total_most s.flat.counts log.limit (λ i l.
      let inside : i < length log.streams = (let p = counts_size s going in omega (arith, l, p)) in
      let b = going.behind i inside in
      let count = b.count in
      let top = at_most_limit log is.orderly.counts_rise_to_the_end i (slice_index s.cursor.places i) b.entry b.first in
      omega (arith, count, top)) in
      let size = ap (λ n. n * log.limit) (counts_size s going) in
      omega (arith, places, counts, size)

  -- an item does one more
  pub item_grows : (s a : Replay FlatState) (h : ℕ) (w : Option (List Step)) → Going log image is s → step (board (unit_of log)) log h s ≡ Some (a, w)
      → done s + 1 ≤ done a
  item_grows s a h w going made =
      one_done log image is s a h (did log image is s a h w going made) (goes log image is s a h w going made).inside going
      (going_lasts log image is s a h w going made)
