use Rattle.std.proofs.Common.{◌≡◌, ◌+◌, ◌*◌, ◌<◌, ◌≤◌, take, length, sym, subst, arith}
use Rattle.board_backing.proofs.GatheredMemory.{all_pages, page_long, page_more}
use Rattle.run_model.proofs.Addresses.{page_inside}
use Rattle.board_backing.proofs.ends.put_memory.Goals as goal

pub loop-page-preserved : goal.loop-page-preserved
loop-page-preserved c =
    let b = c.args.backing.now in
    let inside : c.loop-page.page < length c.args.backing.now.pages.pages = omega arith in
    record {
      size = omega arith;
      same = λ s have. page_more c.loop-page.memory c.put_page.new.memory s.flat.memory c.args.backing.now.pages.unit c.loop-page.page
          (subst (λ n. c.loop-page.page * c.args.backing.now.pages.unit + c.args.backing.now.pages.unit ≤ n) (sym c.loop-page.invariant.size)
          (page_inside c.args.backing.now.pages.unit (length c.args.backing.now.pages.pages) c.loop-page.page have.backs.unit_is inside))
          (page_long c.args.runs.now c.args.backing.now s c.loop-page.page have inside) (c.put_page.ensures s have) (c.loop-page.invariant.same s have);
    }

pub returns : goal.returns
returns c = λ s have.
    let all : c.loop-page.page ≡ length c.args.backing.now.pages.pages = omega arith in
    all_pages c.loop-page.memory s.flat.memory (length c.args.backing.now.pages.pages * c.args.backing.now.pages.unit) c.loop-page.invariant.size
    have.backs.memory
    (subst (λ n. take (n * c.args.backing.now.pages.unit) c.loop-page.memory ≡ take (n * c.args.backing.now.pages.unit) s.flat.memory) all
    (c.loop-page.invariant.same s have))
