use Rattle.std.proofs.Common.{◌≡◌, ◌+◌, ◌++◌, ◌∷◌, [], length, length-append, ap, subst, arith, vec_len}
use Rattle.turn_table.specs.TestPasses.{IsReady, AreFrom}
use Rattle.turn_table.proofs.TestPasses.{front}
use Rattle.turn_table.proofs.tests.last_two.Goals as goal

pub returns-clause-each : goal.returns-clause-each
returns-clause-each c =
    let t = c.args.table.now in
    let whole = front t 0 c.pop.new.self.items c.in-Some-Some.second (subst (AreFrom t 0) c.in-Some-Some.ensures.items c.requires.each) in
    (front t 0 c.pop-2.new.self.items c.in-Some-Some.first (subst (AreFrom t 0) c.in-Some-Some.ensures'.items whole.0)).0

pub returns-clause-both : goal.returns-clause-both
returns-clause-both c =
    let t = c.args.table.now in
    let second = c.in-Some-Some.second in
    let first = c.in-Some-Some.first in
    let less = c.pop.new.self in
    let left = c.pop-2.new.self in
    let whole = front t 0 less.items second (subst (AreFrom t 0) c.in-Some-Some.ensures.items c.requires.each) in
    let part = front t 0 left.items first (subst (AreFrom t 0) c.in-Some-Some.ensures'.items whole.0) in
    let here : 0 + length left.items ≡ vec_len left = omega (arith, left.ok.0) in
    let beside : 0 + length less.items ≡ vec_len left + 1 =
    omega (arith, here, ap length c.in-Some-Some.ensures'.items, length-append left.items (first ∷ [])) in
    record {
      first = subst (λ h. IsReady t h first) here part.1;
      second = subst (λ h. IsReady t h second) beside whole.1;
    }
