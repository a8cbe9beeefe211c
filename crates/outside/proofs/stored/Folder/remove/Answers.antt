use Rattle.std.proofs.Common.{◌≡◌, ◌+◌, ◌≤◌, List, ℕ, length, arith, take, drop, sym, ap, ◌∙◌, subst, None}
use Rattle.std.proofs.lemmas.List.{length-append, length-take-le, length-drop}
use Rattle.outside.specs.declared.heads.Head.{Head}
use Rattle.outside.specs.Rows.{files, rows, IsClosed, IsPlace}
use Rattle.outside.specs.Stored.{contents}
use Rattle.outside.specs.Files.{are_apart, lookup, without, total}
use Rattle.outside.proofs.Names.{apart_from, apart_to, apart_without, without_absent, lookup_without, lookup_without_other, total_without_most}
use Rattle.outside.proofs.Texts.{removed_files, removed_sizes, cut_closed}
use Rattle.outside.proofs.stored.Folder.remove.Goals as goal

pub invariant_of-self : goal.invariant_of-self
invariant_of-self c =
    let s = c.args.self.now in
    let name = c.args.name.now in
    let p = c.in-Some.place in
    let place : IsPlace name s.heads.items s.text.items p.from p.to p.at p.row =
    subst (λ (t : List ℕ). IsPlace name s.heads.items t p.from p.to p.at p.row) c.as_slice-2.ensures.value
    (subst (λ (hs : List Head). IsPlace name hs c.as_slice-2.result.now p.from p.to p.at p.row) c.as_slice.ensures.value c.in-Some.ensures) in
    let apart = apart_from (files (rows s.heads.items) s.text.items) s.apart in
    let all : files (rows c.cut-in-Some.new.items.items) c.cut.new.items.items ≡ without name (files (rows s.heads.items) s.text.items) =
    removed_files name s.heads.items s.text.items p.from p.to p.at p.row c.cut-in-Some.new.items.items c.cut.new.items.items place apart
    c.cut-in-Some.ensures.items c.cut.ensures.items in
    let fits = place.fits in
    let order = place.here.order in
    let within = place.here.within in
    let short : p.at ≤ length s.text.items = omega arith in
    let near : p.from ≤ length s.heads.items = omega arith in
    let l = ap length c.cut.ensures.items in
    let x = length-append (take p.at s.text.items) (drop (p.at + (p.row.name + p.row.bytes)) s.text.items) in
    let y = length-take-le p.at s.text.items short in
    let z = length-drop (p.at + (p.row.name + p.row.bytes)) s.text.items in
    let k = ap length c.cut-in-Some.ensures.items in
    let u = length-append (take p.from s.heads.items) (drop p.to s.heads.items) in
    let v = length-take-le p.from s.heads.items near in
    let w = length-drop p.to s.heads.items in
    record {
      sized = removed_sizes name s.heads.items s.text.items p.from p.to p.at p.row c.cut-in-Some.new.items.items c.cut.new.items.items place s.sized
          c.cut-in-Some.ensures.items c.cut.ensures.items;
      apart = ap are_apart all
          ∙ apart_to (without name (files (rows s.heads.items) s.text.items)) (apart_without name (files (rows s.heads.items) s.text.items) apart);
      closed = subst IsClosed (sym c.cut-in-Some.ensures.items) (cut_closed name s.heads.items s.text.items p.from p.to p.at p.row place s.closed);
      within = omega (arith, s.within, l, x, y, z);
      countable = s.countable;
      text_reserved = omega (arith, s.text_reserved, c.cut.ensures.capacity);
      heads_reserved = omega (arith, s.heads_reserved, c.cut-in-Some.ensures.capacity);
      few = omega (arith, s.few, k, u, v, w);
    }

pub returns-in-Some-clause-files : goal.returns-in-Some-clause-files
returns-in-Some-clause-files c =
    let s = c.args.self.now in
    let name = c.args.name.now in
    let p = c.in-Some.place in
    let place : IsPlace name s.heads.items s.text.items p.from p.to p.at p.row =
    subst (λ (t : List ℕ). IsPlace name s.heads.items t p.from p.to p.at p.row) c.as_slice-2.ensures.value
    (subst (λ (hs : List Head). IsPlace name hs c.as_slice-2.result.now p.from p.to p.at p.row) c.as_slice.ensures.value c.in-Some.ensures) in
    let apart = apart_from (files (rows s.heads.items) s.text.items) s.apart in
    removed_files name s.heads.items s.text.items p.from p.to p.at p.row c.cut-in-Some.new.items.items c.cut.new.items.items place apart
    c.cut-in-Some.ensures.items c.cut.ensures.items

pub returns-in-Some-clause-gone : goal.returns-in-Some-clause-gone
returns-in-Some-clause-gone c = ap (lookup c.args.name.now) (returns-in-Some-clause-files c) ∙ lookup_without c.args.name.now (contents c.args.self.now)

pub returns-in-Some-clause-others : goal.returns-in-Some-clause-others
returns-in-Some-clause-others c n other =
    ap (lookup n) (returns-in-Some-clause-files c) ∙ lookup_without_other c.args.name.now n (contents c.args.self.now) other

pub returns-in-Some-clause-total : goal.returns-in-Some-clause-total
returns-in-Some-clause-total c =
    let most = total_without_most c.args.name.now (contents c.args.self.now) in
    let same = ap total (returns-in-Some-clause-files c) in
    omega (arith, most, same)

pub returns-in_default-clause-files : goal.returns-in_default-clause-files
returns-in_default-clause-files c =
    let s = c.args.self.now in
    let name = c.args.name.now in
    let absent : lookup name (files (rows s.heads.items) s.text.items) ≡ None =
    subst (λ (t : List ℕ). lookup name (files (rows s.heads.items) t) ≡ None) c.as_slice-2.ensures.value
    (subst (λ (hs : List Head). lookup name (files (rows hs) c.as_slice-2.result.now) ≡ None) c.as_slice.ensures.value c.in_default.ensures) in
    sym (without_absent name (files (rows s.heads.items) s.text.items) absent)
