use Rattle.std.proofs.Common.{◌∙◌, ◌<◌, sym, ap, subst, refl, arith, length, []}
use Rattle.std.specs.Prelude.{IsTrue}
use Rattle.privilege_directory.specs.Directory.{Directory, IsDirectory, may_gain, by_others, yields_of}
use Rattle.privilege_directory.proofs.Table.{gained_view, gained_directory, was_read}
use Rattle.privilege_directory.proofs.directory.Directory.gain.Goals as goal

pub invariant_of-self : goal.invariant_of-self
invariant_of-self c =
    let d : Directory = record {
      holders = c.self.inside.holders.items;
      numbers = c.self.inside.numbers.items;
      yields = c.self.inside.yields.items;
      wants = c.self.inside.wants.items;
    } in
    let hart : c.args.hart < length d.wants = subst (λ (z : Directory). c.args.hart < length z.wants) (sym c.self.view_is) c.requires.hart in
    let page : c.args.page < length d.holders = subst (λ (z : Directory). c.args.page < length z.holders) (sym c.self.view_is) c.requires.page in
    let numbers : c.args.page < length d.numbers = omega (arith, page, c.self.invariant.numbers_size) in
    let view = gained_view d d c.args.hart c.args.page c.index-number.result.now c.args.mode c.index_mut-2.result.now c.set.new.self c.clear.new.self refl
    page numbers c.index_mut-2.ensures.value c.set.ensures c.index-number.ensures c.clear.ensures in
    subst IsDirectory (sym view)
    (gained_directory d c.args.hart c.args.page c.args.mode c.self.invariant hart page
    (subst (λ z. IsTrue (may_gain z c.args.hart c.args.page c.args.mode)) (sym c.self.view_is) c.requires.allowed))

pub returns-clause-directory : goal.returns-clause-directory
returns-clause-directory c =
    let d : Directory = record {
      holders = c.self.inside.holders.items;
      numbers = c.self.inside.numbers.items;
      yields = c.self.inside.yields.items;
      wants = c.self.inside.wants.items;
    } in
    let page : c.args.page < length d.holders = subst (λ (z : Directory). c.args.page < length z.holders) (sym c.self.view_is) c.requires.page in
    let numbers : c.args.page < length d.numbers = omega (arith, page, c.self.invariant.numbers_size) in
    gained_view d c.args.self.now c.args.hart c.args.page c.index-number.result.now c.args.mode c.index_mut-2.result.now c.set.new.self c.clear.new.self
    c.self.view_is page numbers c.index_mut-2.ensures.value c.set.ensures c.index-number.ensures c.clear.ensures

pub returns-clause-waits : goal.returns-clause-waits
returns-clause-waits c =
    let page : c.args.page < length c.self.inside.holders.items =
    subst (λ (z : Directory). c.args.page < length z.holders) (sym c.self.view_is) c.requires.page in
    let yields : c.args.page < length c.self.inside.yields.items = omega (arith, page, c.self.invariant.yields_size) in
    c.tell_others.ensures.list
    ∙ ap (by_others c.args.hart) (sym (was_read c.self.inside.yields.items c.args.page c.index.result.now [] c.index.ensures yields))
    ∙ ap (λ (z : Directory). by_others c.args.hart (yields_of z c.args.page)) c.self.view_is

pub returns-clause-crew : goal.returns-clause-crew
returns-clause-crew c = (invariant_of-self c).crew
