use Rattle.std.proofs.Common.{refl, arith}
use Rattle.log_format.specs.Grammar.{wait_format}
use Rattle.log_format.proofs.Spelling.{one_more}
use Rattle.log_format.proofs.buffer.Buffer.put_wait_list.Goals as goal

pub put_wait-requires : goal.put_wait-requires
put_wait-requires c =
    let room = c.requires in
    let less = c.loop-wait-test.true in
    let count = c.loop-wait.invariant.count in
    omega (arith, room, less, count)

pub loop-wait-preserved : goal.loop-wait-preserved
loop-wait-preserved c = record {
  bytes = one_more (wait_format 0).spell c.args.self.now c.args.waits.now c.loop-wait.wait-index _ _ c.loop-wait-test.true refl
      c.loop-wait.invariant.bytes c.put_wait.ensures.bytes;
  count = let n = c.put_wait.ensures.count in let k = c.loop-wait.invariant.count in omega (arith, n, k);
}
