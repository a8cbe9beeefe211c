-- The log of a board stays within the log limit.
use Rattle.std.proofs.Common.{◌≡◌, ℕ, zero, suc, ◌+◌, ◌*◌, ◌<◌, ◌≤◌, ◌++◌, true, List, [], ◌∷◌, length, map, max, replicate, slice_set, refl, ap, arith}
use Rattle.std.specs.Prelude.{sum_by}
use Rattle.std.specs.List.{enumerate_from}
use Rattle.std.proofs.lemmas.Bool.{leb-true}
use Rattle.std.proofs.lemmas.List.Sums.{sum_by-cons, sum_by_push}
use Rattle.log_entry.specs.declared.log.Entry.{Entry}
use Rattle.log_entry.specs.declared.log.Entry.TheVariants.{End}
use Rattle.log_entry.specs.Size.{size_of, size_of_stream, frame_size}
use Rattle.rv_words.specs.declared.shared.Input.TheVariants.{Nothing}
use Rattle.device_board.specs.Recording.{recorded_input}
use Rattle.crew_recording.specs.Recording.{stream_in}
use Rattle.turn_model.specs.Recordable.{Recordable}
use Rattle.turn_model.specs.Board.{Board, Supply, Terms, unit_in, board_at_start, ended_streams}
use Rattle.turn_model.specs.Ways.{has_room, log_size}
use Rattle.turn_model.specs.Steps.{poll_at, yield_of, gain_of, touch_of}
use Rattle.turn_model.specs.Faithful.{IsFaithful}
use Rattle.turn_model.proofs.StepInvariants.{Preserves}
use Rattle.turn_model.proofs.Entries.{Entered, after_entry}

-- the bytes of streams, each with an End
abbrev pub total : List (List Entry) → ℕ
total [] = 0
total (s ∷ streams) = 13 + sum_by size_of s + total streams

pub total_is : (unit k n : ℕ) (count : ℕ → ℕ) (streams : List (List Entry))
    → sum_by (size_of_stream unit k) (map (λ (s : ℕ × List Entry). s.1 ++ End (count s.0) ∷ []) (enumerate_from n streams)) ≡ total streams
total_is unit k n count [] = refl
total_is unit k n count (s ∷ streams) =
    let c = sum_by-cons (size_of_stream unit k) (s ++ End (count n) ∷ [])
    (map (λ (s : ℕ × List Entry). s.1 ++ End (count s.0) ∷ []) (enumerate_from (n + 1) streams)) in
    let r = total_is unit k (n + 1) count streams in
    let m = sum_by_push size_of s (End (count n)) in omega (arith, c, r, m)

total_more : (streams : List (List Entry)) (h : ℕ) (e : Entry) → total (slice_set streams h (stream_in streams h ++ e ∷ [])) ≤ total streams + size_of e
total_more [] h e = omega arith
total_more (s ∷ streams) zero e = let m = sum_by_push size_of s e in omega (arith, m)
total_more (s ∷ streams) (suc h) e = let r = total_more streams h e in omega (arith, r)

pub total_none : (n : ℕ) → total (replicate n []) ≡ 13 * n
total_none zero = refl
total_none (suc n) = let r = total_none n in omega (arith, r)

module _ {S V : Type 0} (machine : Recordable S V) (terms : Terms) (many pages : ℕ) (Good : S → Type 0)
    (faithful : IsFaithful machine.flat many pages Good) where
  size_is : (b : Board S) → log_size machine terms b ≡ 49 + total b.streams
  size_is b = let t = total_is (unit_in terms) (length (ended_streams machine terms b)) 0 (machine.flat.count b.at.flat) b.streams in omega (arith, t)

  -- where a log of Ends alone is within the limit
  abbrev pub IsWithin : Board S → Type 0
  IsWithin b = frame_size (unit_in terms) many ≤ terms.log_limit → log_size machine terms b ≤ terms.log_limit

  pub within_alike : (b c : Board S) → c.streams ≡ b.streams → IsWithin b → IsWithin c
  within_alike b c same within frame = let w = within frame in let x = size_is b in let y = size_is c in let t = ap total same in omega (arith, w, x, y, t)

  pub within_begin : (first : S) (supply : Supply) → IsWithin (board_at_start terms many first supply)
  within_begin first supply frame = let s = size_is (board_at_start terms many first supply) in let t = total_none many in omega (arith, frame, s, t)

  module _ (h : ℕ) (inside : h < many) where
    -- an entry for which there was room
    grows : (b c d : Board S) (e f : Entry) → c.streams ≡ b.streams → size_of f ≡ size_of e → has_room machine terms f b ≡ true
        → Entered machine terms many pages Good faithful h e c d → IsWithin d
    grows b c d e f same alike room x frame =
        let r = leb-true _ _ room in
        let t = ap total x.streams in
        let m = total_more c.streams h e in
        let s = ap total same in
        let y = size_is b in let z = size_is d in omega (arith, r, t, m, s, y, z, alike)

    pub within_keeps : Preserves machine terms many pages Good faithful h inside IsWithin IsWithin (λ order b. IsWithin b)
    within_keeps = record {
      stays = λ b within. within;
      opens = λ b within none running. within;
      rests = λ b within. within;
      goes = λ b until within. within;
      holds = λ b n g low wants within. within;
      fills = λ b low within. within;
      fills_for = λ b g n other is within. within;
      fails = λ b low within. within;
      favours = λ b within. within;
      polls = λ b d time left sound within room is made.
          let e = poll_at machine terms h b (max time (machine.flat.time b.at.flat)) in
          grows b (record b { supply = left }) d e (poll_at machine terms h b 0) refl refl room
          (after_entry machine terms many pages Good faithful h e (record b { supply = left }) d sound.ordered.tidy.good made);
      yields = λ b d n sound within room made. let e = yield_of machine terms h n b in
          grows b b d e e refl refl room (after_entry machine terms many pages Good faithful h e b d sound.ordered.tidy.good made);
      gains = λ b d n sound within room made. let e = gain_of machine terms h n b in
          grows b b d e e refl refl room (after_entry machine terms many pages Good faithful h e b d sound.ordered.tidy.good made);
      touches = λ b d word store answer now left rest sound within access room said is made.
          let e = touch_of machine terms h b (recorded_input word store (machine.flat.time b.at.flat) now answer) in
          let w = grows b (record b { supply = rest }) d e (touch_of machine terms h b Nothing) refl refl room
          (after_entry machine terms many pages Good faithful h e (record b { supply = rest }) d sound.ordered.tidy.good made) in
          (λ _. w, λ _. w);
    }
