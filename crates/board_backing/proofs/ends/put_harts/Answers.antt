use Rattle.std.proofs.Common.{◌≡◌, ◌<◌, length, sym, arith}
use Rattle.std.proofs.lemmas.Option.{slice_get_within}
use Rattle.run_model.specs.Run.{Run}
use Rattle.board_backing.proofs.EndLists.{all_mapped}
use Rattle.board_backing.proofs.ends.put_harts.Goals as goal

pub returns : goal.returns
returns c =
    let long : length c.args.runs.now ≡ length c.loop-hart.harts = omega arith in
    sym (all_mapped (λ (r : Run). r.hart) c.args.runs.now c.loop-hart.harts long
    (λ k r at. let w = slice_get_within c.args.runs.now k r at in let less : k < c.loop-hart.hart = omega (arith, w) in c.loop-hart.invariant k r less at))
