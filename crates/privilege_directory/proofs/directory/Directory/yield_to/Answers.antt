use Rattle.std.proofs.Common.{◌<◌, sym, subst, refl, arith, length, []}
use Rattle.rv_words.specs.declared.shared.TheConstants.{MAX_HARTS}
use Rattle.log_entry.specs.Parts.{strength}
use Rattle.order_rules.specs.Holders.{held}
use Rattle.privilege_directory.specs.Directory.{Directory, IsDirectory}
use Rattle.privilege_directory.proofs.Table.{yielded_view, yielded_directory, room_to_yield, was_read}
use Rattle.privilege_directory.proofs.directory.Directory.yield_to.Goals as goal

pub push-requires : goal.push-requires
push-requires c =
    let d : Directory = record {
      holders = c.self.inside.holders.items;
      numbers = c.self.inside.numbers.items;
      yields = c.self.inside.yields.items;
      wants = c.self.inside.wants.items;
    } in
    let hart : c.args.hart < length d.wants = subst (λ (z : Directory). c.args.hart < length z.wants) (sym c.self.view_is) c.requires.hart in
    let page : c.args.page < length d.holders = subst (λ (z : Directory). c.args.page < length z.holders) (sym c.self.view_is) c.requires.page in
    let less : strength c.args.left < strength (held d.holders c.args.page c.args.hart) =
    subst (λ (z : Directory). strength c.args.left < strength (held z.holders c.args.page c.args.hart)) (sym c.self.view_is) c.requires.less in
    let yields : c.args.page < length d.yields = omega (arith, page, c.self.invariant.yields_size) in
    subst (λ z. length z < MAX_HARTS) (was_read d.yields c.args.page c.index_mut.result.now [] c.index_mut.ensures.value yields)
    (room_to_yield d c.args.hart c.args.page c.args.left c.self.invariant hart page less)

pub invariant_of-self : goal.invariant_of-self
invariant_of-self c =
    let d : Directory = record {
      holders = c.self.inside.holders.items;
      numbers = c.self.inside.numbers.items;
      yields = c.self.inside.yields.items;
      wants = c.self.inside.wants.items;
    } in
    let hart : c.args.hart < length d.wants = subst (λ (z : Directory). c.args.hart < length z.wants) (sym c.self.view_is) c.requires.hart in
    let page : c.args.page < length d.holders = subst (λ (z : Directory). c.args.page < length z.holders) (sym c.self.view_is) c.requires.page in
    let less : strength c.args.left < strength (held d.holders c.args.page c.args.hart) =
    subst (λ (z : Directory). strength c.args.left < strength (held z.holders c.args.page c.args.hart)) (sym c.self.view_is) c.requires.less in
    let numbers : c.args.page < length d.numbers = omega (arith, page, c.self.invariant.numbers_size) in
    let yields : c.args.page < length d.yields = omega (arith, page, c.self.invariant.yields_size) in
    let view = yielded_view d d c.args.hart c.args.page c.index-number.result.now c.args.count c.args.left c.index_mut-2.result.now c.set.new.self
    c.index_mut.result.now c.push.new.self refl page numbers yields
    c.index_mut-2.ensures.value c.set.ensures c.index-number.ensures c.index_mut.ensures.value c.push.ensures in
    subst IsDirectory (sym view) (yielded_directory d c.args.hart c.args.page c.args.count c.args.left c.self.invariant hart page less)

pub returns-clause-directory : goal.returns-clause-directory
returns-clause-directory c =
    let d : Directory = record {
      holders = c.self.inside.holders.items;
      numbers = c.self.inside.numbers.items;
      yields = c.self.inside.yields.items;
      wants = c.self.inside.wants.items;
    } in
    let page : c.args.page < length d.holders = subst (λ (z : Directory). c.args.page < length z.holders) (sym c.self.view_is) c.requires.page in
    let numbers : c.args.page < length d.numbers = omega (arith, page, c.self.invariant.numbers_size) in
    let yields : c.args.page < length d.yields = omega (arith, page, c.self.invariant.yields_size) in
    yielded_view d c.args.self.now c.args.hart c.args.page c.index-number.result.now c.args.count c.args.left c.index_mut-2.result.now c.set.new.self
    c.index_mut.result.now c.push.new.self c.self.view_is page numbers yields
    c.index_mut-2.ensures.value c.set.ensures c.index-number.ensures c.index_mut.ensures.value c.push.ensures

pub returns-clause-crew : goal.returns-clause-crew
returns-clause-crew c = (invariant_of-self c).crew
