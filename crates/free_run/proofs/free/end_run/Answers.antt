use Rattle.std.proofs.Common.{◌≡◌, ◌++◌, length, take, drop, sym, ap, ◌∙◌, subst, arith}
use Rattle.std.proofs.Math.Seq.{take-append_seam}
use Rattle.free_run.specs.Recordings.{HaveRun}
use Rattle.free_run.proofs.Freed.{ran_on}
use Rattle.free_run.proofs.free.end_run.Goals as goal

pub returns : goal.returns
returns g c =
    let n = c.args.runs.len in
    let new = c.turn_until_over.new.runs in
    let left = drop (length new) c.args.runs.items in
    let size : length new ≡ n = (let a = c.turn_until_over.auto.runs in let b = c.as_mut_slice.ensures.len in omega (arith, a, b)) in
    let same : take n (new ++ left) ≡ new = ap (λ k. take k (new ++ left)) (sym size) ∙ take-append_seam new left in
    subst (HaveRun c.args.board c.board.result) (sym same)
    (ran_on c.args.board c.turn_until_over.new.board c.board.result new c.turn_until_over.ensures.terms c.board.ensures.turns
    c.turn_until_over.ensures.ended c.board.ensures.same)
