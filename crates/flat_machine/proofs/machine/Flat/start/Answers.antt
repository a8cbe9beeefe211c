use Rattle.std.proofs.Common.{rules, ◌≡◌}
use Rattle.flat_machine.proofs.FirstState.{start_fits}
use Rattle.flat_machine.proofs.machine.Flat.start.Goals as goal

pub invariant_of-result : goal.invariant_of-result
invariant_of-result c =
    let memory : c.of.result ≡ c.args.image.now.bytes = search rules in
    let harts : c.reserve.new.self.devices.harts ≡ c.args.harts = search rules in
    start_fits c.args.image.now c.args.harts c.pages-pages.result c.entry.result c.reserve.new.self.devices.harts c.in-Ok.list.items
    c.in-Ok-zeros.counts.items c.of.result c.pages-pages.ensures.whole c.in-Ok.ensures c.in-Ok-zeros.ensures memory c.pages-pages.ensures.pages harts
