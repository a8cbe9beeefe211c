-- Places in a log: the part that stands there, and those behind it.
use Rattle.std.proofs.Common.{◌≡◌, ℕ, ◌+◌, ◌<◌, ◌≤◌, Bool, true, false, List, [], ◌∷◌, ◌++◌, length, drop, get_or, refl, sym, ap, subst, ◌∙◌, arith}
use Rattle.std.specs.Prelude.{nat_lt}
use Rattle.std.proofs.lemmas.Bool.{ltb-true, ltb-false}
use Rattle.std.proofs.lemmas.List.{drop_more, drop_all, length-map}
use Rattle.log_entry.specs.declared.log.Entry.{Entry}
use Rattle.log_entry.specs.declared.log.Log.{Log}
use Rattle.log_format.specs.Grammar.{entry_format, cause_format}
use Rattle.log_format.specs.declared.pieces.Place.{Place}
use Rattle.log_format.specs.Parts.{stream_parts, part_at, parts_from}
use Rattle.log_format.specs.Pieces.{Puts, Adds, IsFull, piece_bytes}
use Rattle.log_format.specs.Given.{IsWithin, parts_at, place_after}

count_of_parts : (stream : List Entry) → length (stream_parts stream) ≡ 1 + length stream
count_of_parts stream = let e = length-map stream (entry_format 0 0).spell in omega (arith, e)

full_by_first : (bytes part : List ℕ) (parts rest : List (List ℕ)) → parts ≡ part ∷ rest → piece_bytes < length bytes + length part → IsFull bytes parts
full_by_first bytes part parts rest e h = subst (λ (ps : List (List ℕ)). IsFull bytes ps) (sym e) h

full_by_nil : (bytes : List ℕ) (parts : List (List ℕ)) → parts ≡ [] → IsFull bytes parts
full_by_nil bytes parts e = subst (λ (ps : List (List ℕ)). IsFull bytes ps) (sym e) tt

at_first : (streams : List (List Entry)) → IsWithin 0 streams
at_first [] = omega arith
at_first (stream ∷ streams) = omega arith

-- ---- at a stream

module _ (log : Log) (place : Place) (s : List Entry) (lt : place.hart < length log.streams) (is : s ≡ get_or log.streams place.hart s)
    (within : IsWithin place.next (drop place.hart log.streams)) where
  from_here : drop place.hart log.streams ≡ s ∷ drop (place.hart + 1) log.streams
  from_here =
      drop_more log.streams place.hart s lt ∙ ap (λ (x : List Entry). x ∷ drop (place.hart + 1) log.streams) (sym is)

  pub within_stream : place.next ≤ length s
  within_stream = subst (λ (ss : List (List Entry)). IsWithin place.next ss) from_here within

  parts_here : parts_at place log
      ≡ part_at place.next s ∷ (drop (place.next + 1) (stream_parts s) ++ parts_from 0 (drop (place.hart + 1) log.streams) log.cause)
  parts_here =
      ap (λ (ss : List (List Entry)). parts_from place.next ss log.cause) from_here
      ∙ ap (λ (ps : List (List ℕ)). ps ++ parts_from 0 (drop (place.hart + 1) log.streams) log.cause)
      (drop_more (stream_parts s) place.next [] (let e = count_of_parts s in let h = within_stream in omega (arith, e, h)))

  parts_behind : (b : Bool) → nat_lt place.next (length s) ≡ b
      → parts_at (place_after b place) log ≡ drop (place.next + 1) (stream_parts s) ++ parts_from 0 (drop (place.hart + 1) log.streams) log.cause
  parts_behind true e = ap (λ (ss : List (List Entry)). parts_from (place.next + 1) ss log.cause) from_here
  parts_behind false e =
      sym (ap (λ (ps : List (List ℕ)). ps ++ parts_from 0 (drop (place.hart + 1) log.streams) log.cause)
      (drop_all (place.next + 1) (stream_parts s) (let n = count_of_parts s in let h = ltb-false place.next (length s) e in omega (arith, n, h))))

  within_behind : (b : Bool) → nat_lt place.next (length s) ≡ b → IsWithin (place_after b place).next (drop (place_after b place).hart log.streams)
  within_behind true e =
      subst (λ (ss : List (List Entry)). IsWithin (place.next + 1) ss) (sym from_here)
      (let h = ltb-true place.next (length s) e in omega (arith, h))
  within_behind false e = at_first (drop (place.hart + 1) log.streams)

  pub still_within : IsWithin (place_after (nat_lt place.next (length s)) place).next (drop (place_after (nat_lt place.next (length s)) place).hart log.streams)
  still_within = within_behind (nat_lt place.next (length s)) refl

  pub adds_part : (bytes new : List ℕ) → Puts (part_at place.next s) bytes true new
      → Adds bytes (parts_at place log) true new (parts_at (place_after (nat_lt place.next (length s)) place) log)
  adds_part bytes new puts = (
    part_at place.next s,
    parts_here ∙ ap (λ (ps : List (List ℕ)). part_at place.next s ∷ ps) (sym (parts_behind (nat_lt place.next (length s)) refl)),
    puts.0,
    puts.1,
  )

  pub adds_no_part : (bytes new : List ℕ) → Puts (part_at place.next s) bytes false new → Adds bytes (parts_at place log) false new (parts_at place log)
  adds_no_part bytes new puts = (puts.0, refl, full_by_first bytes (part_at place.next s) (parts_at place log) _ parts_here puts.1)

-- ---- behind the streams

module _ (log : Log) (place : Place) (past : length log.streams ≤ place.hart) where
  none_here : drop place.hart log.streams ≡ []
  none_here = drop_all place.hart log.streams past

  parts_last : parts_at place log ≡ drop place.next (cause_format.spell log.cause ∷ [])
  parts_last = ap (λ (ss : List (List Entry)). parts_from place.next ss log.cause) none_here

  cause_here : place.next ≡ 0 → parts_at place log ≡ cause_format.spell log.cause ∷ []
  cause_here e = parts_last ∙ ap (λ n. drop n (cause_format.spell log.cause ∷ [])) e

  pub within_last : IsWithin 1 (drop place.hart log.streams)
  within_last = subst (λ (ss : List (List Entry)). IsWithin 1 ss) (sym none_here) (omega arith)

  nothing_left : (bytes : List ℕ) → (place.next ≡ 0 → ⊥) → IsFull bytes (parts_at place log)
  nothing_left bytes n =
      full_by_nil bytes (parts_at place log)
      (parts_last ∙ drop_all place.next (cause_format.spell log.cause ∷ []) (let h : 1 ≤ place.next = omega (arith, n) in h))

  pub adds_nothing : (bytes : List ℕ) → (place.next ≡ 0 → ⊥) → Adds bytes (parts_at place log) false bytes (parts_at place log)
  adds_nothing bytes n = (refl, refl, nothing_left bytes n)

  pub adds_cause : (bytes new : List ℕ) → place.next ≡ 0 → Puts (cause_format.spell log.cause) bytes true new
      → Adds bytes (parts_at place log) true new (parts_at (record { hart = place.hart; next = 1 }) log)
  adds_cause bytes new e puts = (
    cause_format.spell log.cause,
    cause_here e ∙ ap (λ (ps : List (List ℕ)). cause_format.spell log.cause ∷ ps) (sym (ap (λ (ss : List (List Entry)). parts_from 1 ss log.cause) none_here)),
    puts.0,
    puts.1,
  )

  pub adds_no_cause : (bytes new : List ℕ) → place.next ≡ 0 → Puts (cause_format.spell log.cause) bytes false new
      → Adds bytes (parts_at place log) false new (parts_at place log)
  adds_no_cause bytes new e puts = (puts.0, refl, full_by_first bytes (cause_format.spell log.cause) (parts_at place log) [] (cause_here e) puts.1)
