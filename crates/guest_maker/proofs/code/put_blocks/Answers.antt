use Rattle.std.proofs.Common.{◌≡◌, ◌∙◌, ap, arith}
use Rattle.std.specs.Prelude.{length}
use Rattle.guest_maker.specs.Code.{bytes_of}
use Rattle.guest_maker.proofs.Blocks.{no_blocks, not_drawn, drawn_once_more, one_block_more}
use Rattle.guest_maker.proofs.code.put_blocks.Goals as goal

pub loop-n-init : goal.loop-n-init
loop-n-init c = (no_blocks c.args.number c.args.out.now.items, omega arith, not_drawn c.args.number)

pub loop-n-preserved : goal.loop-n-preserved
loop-n-preserved c =
    let i = c.loop-n.invariant in
    let size = c.in_ok-put_all.ensures.size in
    let sized = i.1 in (
      one_block_more c.args.number c.loop-n.n c.loop-n.s c.args.out.now.items c.loop-n.out.items _ _ i.0 i.2
          (ap bytes_of c.drawn_block-after.ensures.is) c.in_ok-put_all.ensures.bytes,
      omega (arith, size, sized),
      drawn_once_more c.args.number c.loop-n.n c.loop-n.s _ i.2 c.drawn_block-after.ensures.state,
    )
