-- Pages of a log in range are below its number of pages.
use Rattle.std.proofs.Common.{◌≡◌, ◌<◌, ℕ, ap, arith}
use Rattle.std.specs.Prelude.{Some, IsTrue, length, ◌^◌}
use Rattle.log_entry.specs.Range.{in_range}
use Rattle.log_order.proofs.Refusals.{small}
use Rattle.std.proofs.lemmas.Option.{none-some, same_Some}
use Rattle.log_entry.specs.declared.log.Entry.{Entry}
use Rattle.log_entry.specs.declared.log.Entry.TheVariants.{Gain, Yield, Poll, Touch, End}
use Rattle.log_entry.specs.declared.log.Log.{Log}
use Rattle.log_entry.specs.Parts.{page_number, units_of}
use Rattle.log_order.specs.Bounds.{IsSmall}
use Rattle.log_inspect.specs.declared.totals.Kind.{Kind}
use Rattle.log_inspect.specs.declared.totals.Kind.TheVariants.{Gains, Yields}
use Rattle.log_inspect.specs.Totals.{page_of, PagesBelow}

numbered : (kind : Kind) (e : Entry) (p : ℕ) → page_of kind e ≡ Some p → (n : ℕ) × (page_number e ≡ Some (p, n))
numbered Gains (Gain count page seq mode waits) p is = (seq, ap (λ q. Some (q, seq)) (same_Some _ _ is))
numbered Gains (Yield count page seq left) p is = absurd (none-some p is)
numbered Gains (Poll count ord time bits) p is = absurd (none-some p is)
numbered Gains (Touch count ord input) p is = absurd (none-some p is)
numbered Gains (End count) p is = absurd (none-some p is)
numbered Yields (Gain count page seq mode waits) p is = absurd (none-some p is)
numbered Yields (Yield count page seq left) p is = (seq, ap (λ q. Some (q, seq)) (same_Some _ _ is))
numbered Yields (Poll count ord time bits) p is = absurd (none-some p is)
numbered Yields (Touch count ord input) p is = absurd (none-some p is)
numbered Yields (End count) p is = absurd (none-some p is)

pub pages_below : (kind : Kind) (log : Log) → IsSmall log → PagesBelow kind log (units_of log)
pages_below kind log small h i e p at is =
    let n = numbered kind e p is in
    small.pages h i e (p, n.0) at n.1

pub few_harts : (log : Log) → IsTrue (in_range log) → length log.streams < 2 ^ 8
few_harts log range = omega (arith, (small log range).harts)
