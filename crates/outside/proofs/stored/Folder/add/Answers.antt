use Rattle.std.proofs.Common.{◌≡◌, ◌+◌, ◌*◌, ◌/◌, ◌≤◌, ◌++◌, ◌∷◌, [], length, arith, refl, sym, ap, ◌∙◌}
use Rattle.std.proofs.lemmas.List.{length-append}
use Rattle.outside.specs.declared.heads.Row.{Row}
use Rattle.outside.specs.Rows.{files, sizes, rows}
use Rattle.outside.specs.Stored.{contents}
use Rattle.outside.specs.Files.{are_apart, lookup, total}
use Rattle.outside.proofs.Names.{apart_from, apart_to, lookup_added, lookup_added_other, total_append}
use Rattle.outside.proofs.HeadRows.{heads_length}
use Rattle.outside.proofs.Texts.{total_files, files_added, sizes_added, apart_row, room_for_row, room_for_heads}
use Rattle.outside.proofs.stored.Folder.add.Goals as goal

pub push_row-requires-clause-room : goal.push_row-requires-clause-room
push_row-requires-clause-room c =
    let s = c.args.self.now in
    let most = room_for_heads c.args.name.now c.args.bytes.now s.heads.items s.text.items s.room s.sized
    (apart_from (files (rows s.heads.items) s.text.items) s.apart) s.closed c.requires.absent c.requires.room in
    let parts : s.room ≤ 255 * (s.room / 255) + 254 = omega arith in
    omega (arith, most, parts, s.heads_reserved)

pub put-requires : goal.put-requires
put-requires c =
    let s = c.args.self.now in
    let t = total_files (rows s.heads.items) s.text.items s.sized in
    omega (arith, s.text_reserved)

pub put-requires-2 : goal.put-requires-2
put-requires-2 c =
    let s = c.args.self.now in
    let t = total_files (rows s.heads.items) s.text.items s.sized in
    let a = ap length c.put.ensures.items in
    let x = length-append s.text.items c.args.name.now in
    omega (arith, s.text_reserved)

pub invariant_of-self : goal.invariant_of-self
invariant_of-self c =
    let s = c.args.self.now in
    let name = c.args.name.now in
    let bytes = c.args.bytes.now in
    let row : Row = record { name = length name; bytes = length bytes } in
    let text_is : c.put-2.new.text.items ≡ (s.text.items ++ name) ++ bytes = c.put-2.ensures.items ∙ ap (λ t. t ++ bytes) c.put.ensures.items in
    let rows_is : rows c.push_row.new.heads.items ≡ rows s.heads.items ++ row ∷ [] = c.push_row.ensures.rows in
    let apart = apart_from (files (rows s.heads.items) s.text.items) s.apart in
    let t = total_files (rows s.heads.items) s.text.items s.sized in
    let l = ap length text_is in
    let x = length-append (s.text.items ++ name) bytes in
    let y = length-append s.text.items name in
    let rows_long = ap length rows_is in
    let z = length-append (rows s.heads.items) (row ∷ []) in
    let fewer = room_for_row name bytes (rows s.heads.items) s.text.items s.room s.sized apart c.requires.absent c.requires.room in
    let size = ap sizes rows_is ∙ sizes_added name bytes (rows s.heads.items) s.text.items row refl refl s.sized ∙ sym l in
    let long = heads_length c.push_row.new.heads.items c.push_row.ensures.closed in
    let parts : s.room ≤ 255 * (s.room / 255) + 254 = omega arith in
    let short : length c.put-2.new.text.items ≤ s.room = omega (arith, l, x, y, t, c.requires.room) in
    record {
      sized = size;
      apart =
          ap are_apart (ap (λ rs. files rs c.put-2.new.text.items) rows_is ∙ ap (λ u. files (rows s.heads.items ++ row ∷ []) u) text_is)
          ∙ apart_to (files (rows s.heads.items ++ row ∷ []) ((s.text.items ++ name) ++ bytes))
          (apart_row name bytes (rows s.heads.items) s.text.items row refl refl s.sized apart c.requires.absent);
      closed = c.push_row.ensures.closed;
      within = short;
      countable = s.countable;
      text_reserved = omega (arith, s.text_reserved, c.put-2.ensures.capacity, c.put.ensures.capacity);
      heads_reserved = omega (arith, s.heads_reserved, c.push_row.ensures.capacity);
      few = omega (arith, long, size, short, rows_long, z, fewer, parts);
    }

pub returns-clause-files : goal.returns-clause-files
returns-clause-files c =
    let s = c.args.self.now in
    let name = c.args.name.now in
    let bytes = c.args.bytes.now in
    let row : Row = record { name = length name; bytes = length bytes } in
    let text_is : c.put-2.new.text.items ≡ (s.text.items ++ name) ++ bytes = c.put-2.ensures.items ∙ ap (λ t. t ++ bytes) c.put.ensures.items in
    let rows_is : rows c.push_row.new.heads.items ≡ rows s.heads.items ++ row ∷ [] = c.push_row.ensures.rows in
    ap (λ rs. files rs c.put-2.new.text.items) rows_is
    ∙ ap (λ u. files (rows s.heads.items ++ row ∷ []) u) text_is
    ∙ files_added name bytes (rows s.heads.items) s.text.items row refl refl s.sized

pub returns-clause-held : goal.returns-clause-held
returns-clause-held c =
    ap (lookup c.args.name.now) (returns-clause-files c)
    ∙ lookup_added c.args.name.now c.args.bytes.now (contents c.args.self.now) c.requires.absent

pub returns-clause-others : goal.returns-clause-others
returns-clause-others c n other =
    ap (lookup n) (returns-clause-files c) ∙ lookup_added_other c.args.name.now n c.args.bytes.now (contents c.args.self.now) other

pub returns-clause-total : goal.returns-clause-total
returns-clause-total c =
    let parts = total_append (contents c.args.self.now) ((c.args.name.now, c.args.bytes.now) ∷ []) in
    let one : total ((c.args.name.now, c.args.bytes.now) ∷ []) ≡ length c.args.name.now + length c.args.bytes.now = omega arith in
    let same = ap total (returns-clause-files c) in
    omega (arith, parts, one, same)
