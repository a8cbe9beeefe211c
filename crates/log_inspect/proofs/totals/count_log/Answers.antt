use Rattle.std.proofs.Common.{◌≡◌, ◌+◌, ◌<◌, ◌^◌, [], length, sym, ap, ◌∙◌, arith}
use Rattle.std.specs.Prelude.{count_by, unwrap_or}
use Rattle.std.proofs.lemmas.List.Sums.{count_by-le-length}
use Rattle.order_rules.specs.Places.{stream}
use Rattle.log_inspect.specs.Totals.{is_of}
use Rattle.log_order.proofs.Lift.{reading}
use Rattle.log_order.proofs.EntryCounts.{stream_counted}
use Rattle.log_inspect.proofs.totals.count_log.Goals as goal

pub loop-h-preserved : goal.loop-h-preserved
loop-h-preserved c =
    let log = c.args.l.now in
    let h = c.loop-h.h in
    let t = c.items.result.now in
    let got = reading log.streams c.items-streams.result.now h c.index-streams-h.result t c.items-streams.ensures
    c.loop-h-test.true c.index-streams-h.is c.items.ensures in
    let same : stream log h ≡ t = ap (λ o. unwrap_or o []) got in
    let small : length t < 2 ^ 32 = (let short = c.requires.short h in let e = ap length same in omega (arith, short, e)) in
    record {
      length = c.count_stream.ensures.length ∙ c.loop-h.invariant.length;
      counted = λ g. c.count_stream.ensures.counts g
          ∙ ap (λ n. n + count_by (is_of c.args.kind g) t) (c.loop-h.invariant.counted g)
          ∙ sym (stream_counted (is_of c.args.kind g) log.streams h t got);
      few = λ g.
          let sum = c.count_stream.ensures.counts g in
          let before = c.loop-h.invariant.few g in
          let own = count_by-le-length (is_of c.args.kind g) t in
          omega (arith, sum, before, own, small);
    }
