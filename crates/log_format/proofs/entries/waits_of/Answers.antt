use Rattle.std.proofs.Common.{arith, w8}
use Rattle.std.proofs.lemmas.Bool.{leb-true}
use Rattle.log_format.specs.Grammar.{at_most, wait_format}
use Rattle.log_format.proofs.Exact.{number-passes, repeat-length}
use Rattle.log_format.proofs.entries.waits_of.Goals as goal

pub of-requires : goal.of-requires
of-requires c =
    let few = number-passes w8 10 (at_most 7) c.args.bytes.now (c.in_ok-count.count, c.in_ok-count.rest.now) c.in_ok-count.ensures in
    let many = repeat-length (wait_format c.args.harts).read c.in_ok-count.count c.in_ok-count.rest.now
    (c.in_ok-waits.waits.items, c.in_ok-waits.rest.now) c.in_ok-waits.ensures in
    omega (arith, many, leb-true _ _ few)
