use Rattle.std.proofs.Common.{◌≡◌, true, sym, arith, rules}
use Rattle.privilege_directory.proofs.FirstNumber.{first_from, none_from}
use Rattle.crew_core.specs.Does.{rivals}
use Rattle.crew_core.proofs.crew.Crew.rival.Goals as goal

pub returns-then-is_rival : goal.returns-then-is_rival
returns-then-is_rival c =
    let passes : rivals c.args.self.now c.args.hart c.args.page c.args.mode c.loop-other.other ≡ true = search rules in
    sym (first_from (rivals c.args.self.now c.args.hart c.args.page c.args.mode) 0 c.args.self.now.harts c.loop-other.other (omega arith) (omega arith)
    (λ g a b. c.loop-other.invariant g b) passes)

pub returns : goal.returns
returns c =
    let past : c.args.self.now.harts ≡ c.loop-other.other = omega arith in
    sym (none_from (rivals c.args.self.now c.args.hart c.args.page c.args.mode) 0 c.args.self.now.harts
    (λ g a b. c.loop-other.invariant g (omega (arith, b, past))))
