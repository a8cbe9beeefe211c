use Rattle.std.proofs.Common.{◌≡◌, List, ℕ, subst, None}
use Rattle.outside.specs.declared.heads.Head.{Head}
use Rattle.outside.specs.Rows.{files, rows, IsPlace}
use Rattle.outside.specs.Files.{lookup}
use Rattle.outside.proofs.Names.{apart_from}
use Rattle.outside.proofs.Texts.{size_here, size_absent}
use Rattle.outside.proofs.stored.Folder.size.Goals as goal

pub returns-in-Some : goal.returns-in-Some
returns-in-Some c =
    let s = c.args.self.now in
    let name = c.args.name.now in
    let p = c.in-Some.place in
    let place : IsPlace name s.heads.items s.text.items p.from p.to p.at p.row =
    subst (λ (t : List ℕ). IsPlace name s.heads.items t p.from p.to p.at p.row) c.as_slice-2.ensures.value
    (subst (λ (hs : List Head). IsPlace name hs c.as_slice-2.result.now p.from p.to p.at p.row) c.as_slice.ensures.value c.in-Some.ensures) in
    let apart = apart_from (files (rows s.heads.items) s.text.items) s.apart in
    size_here name s.heads.items s.text.items p.from p.to p.at p.row place apart

pub returns-in-None : goal.returns-in-None
returns-in-None c =
    let s = c.args.self.now in
    let name = c.args.name.now in
    let absent : lookup name (files (rows s.heads.items) s.text.items) ≡ None =
    subst (λ (t : List ℕ). lookup name (files (rows s.heads.items) t) ≡ None) c.as_slice-2.ensures.value
    (subst (λ (hs : List Head). lookup name (files (rows hs) c.as_slice-2.result.now) ≡ None) c.as_slice.ensures.value c.in-None.ensures) in
    size_absent name (rows s.heads.items) s.text.items absent
