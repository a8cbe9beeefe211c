-- The size of a board's log.
use Rattle.std.proofs.Common.{◌≡◌, ℕ, zero, suc, ◌+◌, ◌*◌, ◌<◌, ◌++◌, List, [], ◌∷◌, Some, length, map, replicate, slice_set, refl, sym, ap, arith}
use Rattle.std.proofs.lemmas.List.Sums.{sum_by_push}
use Rattle.log_entry.specs.declared.log.Entry.{Entry}
use Rattle.log_entry.specs.Size.{size_of, frame_size}
use Rattle.turn_model.specs.Board.{unit_in, Board, Supply, Terms, board_at_start, ended_streams, stream}
use Rattle.replay_model.specs.State.{Replay}
use Rattle.replay_model.specs.Items.{Makes, made}
use Rattle.shared_types.proofs.Lists.{mapped}
use Rattle.crew_recording.specs.Recording.{stream_in}
use Rattle.turn_model.specs.Recordable.{Recordable}
use Rattle.turn_model.specs.Ways.{log_size, entered}
use Rattle.turn_model.proofs.LogSizes.{total, total_is, total_none}

pub total_more : (streams : List (List Entry)) (h : ℕ) (e : Entry) → h < length streams
    → total (slice_set streams h (stream_in streams h ++ e ∷ [])) ≡ total streams + size_of e
total_more [] h e l = absurd (omega (arith, l))
total_more (s ∷ streams) zero e l = let m = sum_by_push size_of s e in omega (arith, m)
total_more (s ∷ streams) (suc h) e l = let r = total_more streams h e (omega (arith, l)) in omega (arith, r)

module _ {S V : Type 0} (machine : Recordable S V) (terms : Terms) where
  pub size_is : (b : Board S) → log_size machine terms b ≡ 49 + total b.streams
  size_is b = let t = total_is (unit_in terms) (length (ended_streams machine terms b)) 0 (machine.flat.count b.at.flat) b.streams in omega (arith, t)

  pub sizes_stay : (b c : Board S) → c.streams ≡ b.streams → log_size machine terms c ≡ log_size machine terms b
  sizes_stay b c same = let x = size_is b in let y = size_is c in let t = ap total same in omega (arith, x, y, t)

  pub sizes_begin : (harts : ℕ) (first : S) (supply : Supply)
      → log_size machine terms (board_at_start terms harts first supply) ≡ frame_size (unit_in terms) harts
  sizes_begin harts first supply = let s = size_is (board_at_start terms harts first supply) in let t = total_none harts in omega (arith, s, t)

  pub sizes_grow : (h : ℕ) (e : Entry) (b c : Board S) → h < length b.streams → entered machine terms h e b ≡ Some c
      → log_size machine terms c ≡ log_size machine terms b + size_of e
  sizes_grow h e b c l is =
      let a =
      mapped (λ (s : Replay S). record b { at = s; streams = slice_set b.streams h (stream b h ++ e ∷ []) }) (made machine.flat b.at h (Makes e)) c is in
      let t = ap (λ (x : Board S). total x.streams) (sym a.2) in
      let m = total_more b.streams h e l in
      let x = size_is b in let y = size_is c in omega (arith, x, y, t, m)
