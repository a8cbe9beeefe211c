use Rattle.std.proofs.Common.{arith, ap, length, ◌<◌, []}
use Rattle.privilege_directory.specs.Directory.{Directory, by_others}
use Rattle.privilege_directory.proofs.Table.{row_size, was_read}
use Rattle.privilege_directory.proofs.directory.Directory.waiting.Goals as goal

pub returns-clause-few : goal.returns-clause-few
returns-clause-few c =
    let d : Directory = record {
      holders = c.self.inside.holders.items;
      numbers = c.self.inside.numbers.items;
      yields = c.self.inside.yields.items;
      wants = c.self.inside.wants.items;
    } in
    let same = ap (λ (z : Directory). length z.holders) c.self.view_is in
    let there : c.args.page < length d.holders = omega (arith, c.requires.page, same) in
    let wants = ap (λ (z : Directory). length z.wants) c.self.view_is in
    let size = row_size d c.args.page c.self.invariant there in
    let few = (c.self.invariant.few c.args.page there).others c.args.hart (omega (arith, c.requires.hart, wants, size)) in
    let yields = c.self.invariant.yields_size in
    let is = ap (λ ys. length (by_others c.args.hart ys))
    (was_read c.self.inside.yields.items c.args.page c.index.result.now [] c.index.ensures (omega (arith, there, yields))) in
    omega (arith, c.others.ensures, is, few)
