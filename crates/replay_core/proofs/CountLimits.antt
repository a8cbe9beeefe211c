-- The counts of an orderly log's entries are at most its limit.
use Rattle.std.proofs.Common.{◌≡◌, ℕ, zero, suc, ◌+◌, ◌≤◌, ◌==◌, ◌&&◌, ◌||◌, not, nat_lt, nat_le, Bool, true, false, length, Some}
use Rattle.std.proofs.Common.{refl, sym, ap, ◌∙◌, arith}
use Rattle.std.specs.Prelude.{IsTrue}
use Rattle.std.specs.List.{list_all}
use Rattle.std.proofs.lemmas.Bool.{or_parts, and_parts, leb-true, ltb-false}
use Rattle.log_entry.specs.declared.log.Entry.{Entry}
use Rattle.log_entry.specs.declared.log.Log.{Log}
use Rattle.log_entry.specs.Parts.{count_of, is_end, is_some_and, units_of}
use Rattle.log_entry.specs.Range.{in_range, is_stream}
use Rattle.rv_words.specs.Limits.{most_pages}
use Rattle.order_rules.specs.Places.{Placed, stream, entry_at}
use Rattle.order_rules.specs.Rules.{breaks_o1}
use Rattle.order_rules.specs.Orderly.{Keeps, o1}
use Rattle.order_rules.proofs.Least.{none_passes}
use Rattle.order_rules.proofs.Numbers.{in_stream, below_length}
use Rattle.std.proofs.lemmas.Option.{slice_get_within}
use Rattle.replay_law.proofs.Streams.{next_there, next_rises}

-- a log in range is of some hart
pub some_harts : (log : Log) → IsTrue (in_range log) → 1 ≤ length log.streams
some_harts log range =
    let A = nat_le 1 (length log.streams) in
    let B = nat_le (length log.streams) 8 in
    let C = nat_le 1 log.pages in
    let D = nat_le log.pages most_pages in
    let E = nat_le log.limit 1000000000000 in
    let F = list_all (is_stream (length log.streams) (units_of log)) log.streams in
    let e = and_parts (A && B && C && D && E) F range in
    let d = and_parts (A && B && C && D) E e.0 in
    let c = and_parts (A && B && C) D d.0 in
    let b = and_parts (A && B) C c.0 in
    leb-true 1 (length log.streams) (and_parts A B b.0).0

module _ (log : Log) (rises : Keeps log o1) where
  end_low : (h i : ℕ) (e : Entry) → entry_at log h i ≡ Some e → is_end e ≡ true → count_of e ≤ log.limit
  end_low h i e at end =
      let x : Placed = record { hart = h; place = i; entry = e } in
      let right = none_passes log (o1 log) (h, i) rises (stream log h, in_stream log h i e at, below_length (stream log h) i e at) in
      let here : breaks_o1 log x ≡ false =
      sym (ap (λ o. is_some_and o (λ z. breaks_o1 log (record { hart = h; place = i; entry = z }))) at) ∙ (or_parts _ _ right).0 in
      let both : (is_end e && (not (i + 1 == length (stream log h)) || nat_lt log.limit (count_of e))) ≡ false = (or_parts _ _ here).1 in
      let open_up : (not (i + 1 == length (stream log h)) || nat_lt log.limit (count_of e)) ≡ false =
      sym (ap (λ b. b && (not (i + 1 == length (stream log h)) || nat_lt log.limit (count_of e))) end) ∙ both in
      ltb-false log.limit (count_of e) (or_parts _ _ open_up).1

  at_most_from : (n h i : ℕ) (e : Entry) → entry_at log h i ≡ Some e → length (stream log h) ≤ i + n → count_of e ≤ log.limit
  at_most_from zero h i e at enough = let w = slice_get_within (stream log h) i e at in absurd (omega (arith, w, enough))
  at_most_from (suc n) h i e at enough = by (is_end e) refl (λ f then_at. at_most_from n h (i + 1) f then_at (omega (arith, enough)))
    where
      by : (b : Bool) → is_end e ≡ b → ((f : Entry) → entry_at log h (i + 1) ≡ Some f → count_of f ≤ log.limit) → count_of e ≤ log.limit
      by true end rest = end_low h i e at end
      by false on rest =
          let next = next_there log rises h i e at on in
          let more = next_rises log rises h i e next.0 at next.1 in
          let low = rest next.0 next.1 in
          omega (arith, more, low)

  pub at_most_limit : (h i : ℕ) (e : Entry) → entry_at log h i ≡ Some e → count_of e ≤ log.limit
  at_most_limit h i e at = at_most_from (length (stream log h)) h i e at (omega arith)
