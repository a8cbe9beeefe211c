use Rattle.std.proofs.Common.{◌≡◌, ◌+◌, ◌++◌, ◌∷◌, [], length, length-append, ap, sym, subst, arith, vec_len, ◌∙◌}
use Rattle.turn_table.specs.TestPasses.{IsReady, AreFrom}
use Rattle.turn_table.proofs.TestPasses.{one_more}
use Rattle.turn_table.proofs.tests.put_back.Goals as goal

pub returns-clause-each : goal.returns-clause-each
returns-clause-each c =
    let t = c.args.table.now in
    let old = c.args.passes.now in
    let first = c.args.both.0 in
    let second = c.args.both.1 in
    let here : vec_len old ≡ 0 + length old.items = omega (arith, old.ok.0) in
    let one = one_more t 0 old.items first c.requires.each (subst (λ h. IsReady t h first) here c.requires.both.first) in
    let beside : vec_len old + 1 ≡ 0 + length (old.items ++ first ∷ []) = omega (arith, here, length-append old.items (first ∷ [])) in
    let two = one_more t 0 (old.items ++ first ∷ []) second one (subst (λ h. IsReady t h second) beside c.requires.both.second) in
    subst (AreFrom t 0) (sym (c.in-Ok-Ok.ensures'.items ∙ ap (λ l. l ++ second ∷ []) c.in-Ok-Ok.ensures.items)) two
