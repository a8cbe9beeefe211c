use Rattle.std.proofs.Common.{rules, ◌≡◌, sym, subst}
use Rattle.privilege_directory.specs.Directory.{Directory, IsDirectory, directory_at_start}
use Rattle.privilege_directory.proofs.Table.{start_directory}
use Rattle.privilege_directory.proofs.directory.Directory.start.Goals as goal

pub invariant_of-result : goal.invariant_of-result
invariant_of-result c =
    let d : Directory =
    record {
      holders = c.in_ok-holders.holders.items;
      numbers = c.in-Ok.numbers.items;
      yields = c.in_ok-yields.yields.items;
      wants = c.in-Ok-from_elem.wants.items;
    } in
    let same : d ≡ directory_at_start c.args.harts c.args.pages = search rules in
    subst IsDirectory (sym same) (start_directory c.args.harts c.args.pages c.requires)
