use Rattle.std.proofs.Common.{◌≡◌, ◌≢◌, ◌+◌, ◌≤◌, ◌<◌, ◌-◌, ◌*◌, ℕ, zero, suc, List, [], ◌∷◌, ◌++◌, length, take, drop, None, Bool, true, false, refl, sym}
use Rattle.std.proofs.Common.{ap, ◌∙◌, subst, ◌⊎◌, inl, inr, arith, zero-add, length-append, length-drop}
use Rattle.std.proofs.lemmas.List.{take-append-le, drop-append-le, drop-drop, take-append-drop, length-take-le, append_assoc, append_cancel_left}
use Rattle.std.proofs.Math.Seq.{take-append_seam, drop-append_seam, take-length, take-add}
use Rattle.outside.specs.declared.heads.Row.{Row}
use Rattle.outside.specs.declared.heads.Head.{Head}
use Rattle.outside.specs.Rows.{sizes, files, rows, IsClosed, IsRow, IsPlace}
use Rattle.outside.specs.Files.{lookup, without, AreApart, total}
use Rattle.outside.proofs.HeadRows.{closed_append, heads_length, ended_rows}
use Rattle.outside.proofs.Names.{absent_head, absent_rest, lookup_hit, lookup_miss, without_middle, without_absent, apart_added, total_without}
use Rattle.std.specs.Str.{bytes_eq}
use Rattle.std.specs.Bool.{Decides}
use Rattle.std.proofs.lemmas.Slice.Eq.{bytes_eq-Decides}

pub sizes_append : (rs qs : List Row) → sizes (rs ++ qs) ≡ sizes rs + sizes qs
sizes_append [] qs = sym (zero-add (sizes qs))
sizes_append (r ∷ rs) qs = let h = sizes_append rs qs in omega arith

empty_if_none : (t : List ℕ) → 0 ≡ length t → t ≡ []
empty_if_none [] h = refl
empty_if_none (x ∷ t) h = absurd (omega arith)

pub files_append : (rs qs : List Row) (t u : List ℕ) → sizes rs ≡ length t → files (rs ++ qs) (t ++ u) ≡ files rs t ++ files qs u
files_append [] qs t u h = rw (empty_if_none t h) refl
files_append (r ∷ rs) qs t u h =
    let whole : r.name + r.bytes + sizes rs ≡ length t = h in
    let a : r.name ≤ length t = omega arith in
    let b : r.name + r.bytes ≤ length t = omega arith in
    let l = length-drop r.name t in
    let c : r.bytes ≤ length (drop r.name t) = omega arith in
    let k = length-drop (r.name + r.bytes) t in
    let d : sizes rs ≡ length (drop (r.name + r.bytes) t) = omega arith in
    rw (take-append-le r.name t u a, drop-append-le r.name t u a, take-append-le r.bytes (drop r.name t) u c, drop-append-le (r.name + r.bytes) t u b)
    (ap (λ fs. (take r.name t, take r.bytes (drop r.name t)) ∷ fs) (files_append rs qs (drop (r.name + r.bytes) t) u d))

pub total_files : (rs : List Row) (t : List ℕ) → sizes rs ≡ length t → total (files rs t) ≡ length t
total_files [] t h = h
total_files (r ∷ rs) t h =
    let whole : r.name + r.bytes + sizes rs ≡ length t = h in
    let a : r.name ≤ length t = omega arith in
    let l = length-drop r.name t in
    let c : r.bytes ≤ length (drop r.name t) = omega arith in
    let k = length-drop (r.name + r.bytes) t in
    let d : sizes rs ≡ length (drop (r.name + r.bytes) t) = omega arith in
    let x = length-take-le r.name t a in
    let y = length-take-le r.bytes (drop r.name t) c in
    let z = total_files rs (drop (r.name + r.bytes) t) d in
    omega arith

-- where no file has the empty name, each row has a byte of its own
rows_named : (rs : List Row) (t : List ℕ) → sizes rs ≡ length t → lookup [] (files rs t) ≡ None → length rs ≤ length t
rows_named [] t h n = omega arith
rows_named (r ∷ rs) t h n =
    let whole : r.name + r.bytes + sizes rs ≡ length t = h in
    let k = length-drop (r.name + r.bytes) t in
    let d : sizes rs ≡ length (drop (r.name + r.bytes) t) = omega arith in
    let other = absent_head [] (take r.name t) (take r.bytes (drop r.name t)) (files rs (drop (r.name + r.bytes) t)) n in
    let rest = rows_named rs (drop (r.name + r.bytes) t) d
    (absent_rest [] (take r.name t) (take r.bytes (drop r.name t)) (files rs (drop (r.name + r.bytes) t)) n) in
    let one : 0 < r.name = positive r.name (λ e. other (ap (λ i. take i t) e)) in
    omega arith
  where
    positive : (i : ℕ) → (i ≡ 0 → ⊥) → 0 < i
    positive i h = omega arith

pub rows_within : (rs : List Row) (t : List ℕ) → sizes rs ≡ length t → AreApart (files rs t) → length rs ≤ length t + 1
rows_within [] t h a = omega arith
rows_within (r ∷ rs) t h a =
    let whole : r.name + r.bytes + sizes rs ≡ length t = h in
    let k = length-drop (r.name + r.bytes) t in
    let d : sizes rs ≡ length (drop (r.name + r.bytes) t) = omega arith in
    let rest = rows_within rs (drop (r.name + r.bytes) t) d a.1 in
    elim (zero_or_more r.name) [
      | inl e ↦
          let none : lookup [] (files rs (drop (r.name + r.bytes) t)) ≡ None =
          sym (ap (λ i. lookup (take i t) (files rs (drop (r.name + r.bytes) t))) e) ∙ a.0 in
          let few = rows_named rs (drop (r.name + r.bytes) t) d none in
          omega arith
      | inr e ↦ omega arith
    ]
  where
    zero_or_more : (i : ℕ) → (i ≡ 0) ⊎ (0 < i)
    zero_or_more zero = inl refl
    zero_or_more (suc i) = inr (omega arith)

-- the rows before a place, its own, and those after it
pub rows_split : (heads : List Head) (from to : ℕ) (row : Row) → IsRow heads from to row → rows (drop from heads) ≡ row ∷ rows (drop to heads)
rows_split heads from to row r =
    let order = r.order in
    let sum : from + (to - from) ≡ to = omega arith in
    ap rows (sym (take-append-drop (to - from) (drop from heads)))
    ∙ r.opens (drop (to - from) (drop from heads))
    ∙ ap (λ hs. row ∷ rows hs) (drop-drop (to - from) from heads ∙ ap (λ k. drop k heads) sum)

pub rows_at : (heads : List Head) (from : ℕ) → ((more : List Head) → rows (take from heads ++ more) ≡ rows (take from heads) ++ rows more) →
    rows heads ≡ rows (take from heads) ++ rows (drop from heads)
rows_at heads from closed = ap rows (sym (take-append-drop from heads)) ∙ closed (drop from heads)

take_up_to : {X : Type 0} → (xs : List X) (from to : ℕ) → from ≤ to → take to xs ≡ take from xs ++ take (to - from) (drop from xs)
take_up_to xs from to h =
    let sum : from + (to - from) ≡ to = omega arith in
    ap (λ k. take k xs) (sym sum) ∙ take-add from (to - from) xs

-- behind a row the heads are closed again
pub closed_behind : (heads : List Head) (from to : ℕ) (row : Row) → IsRow heads from to row →
    ((more : List Head) → rows (take from heads ++ more) ≡ rows (take from heads) ++ rows more) →
    (more : List Head) → rows (take to heads ++ more) ≡ rows (take from heads) ++ row ∷ rows more
closed_behind heads from to row r closed more =
    let order = r.order in
    ap (λ hs. rows (hs ++ more)) (take_up_to heads from to (omega arith))
    ∙ ap rows (append_assoc (take from heads) (take (to - from) (drop from heads)) more)
    ∙ closed (take (to - from) (drop from heads) ++ more)
    ∙ ap (λ rs. rows (take from heads) ++ rs) (r.opens more)

pub split_at : (name : List ℕ) (fore aft : List Row) (text : List ℕ) (at : ℕ) (row : Row) → at ≡ sizes fore → at + (row.name + row.bytes) ≤ length text
    → take row.name (drop at text) ≡ name →
    files (fore ++ row ∷ aft) text
    ≡ files fore (take at text) ++ (name, take row.bytes (drop row.name (drop at text))) ∷ files aft (drop (at + (row.name + row.bytes)) text)
split_at name fore aft text at row before fits named =
    let short : at ≤ length text = omega arith in
    let size : sizes fore ≡ length (take at text) = sym before ∙ sym (length-take-le at text short) in
    ap (λ t. files (fore ++ row ∷ aft) t) (sym (take-append-drop at text))
    ∙ files_append fore (row ∷ aft) (take at text) (drop at text) size
    ∙ ap (λ n. files fore (take at text) ++ (n, take row.bytes (drop row.name (drop at text))) ∷ files aft (drop (row.name + row.bytes) (drop at text))) named
    ∙ ap (λ t. files fore (take at text) ++ (name, take row.bytes (drop row.name (drop at text))) ∷ files aft t) (drop-drop (row.name + row.bytes) at text)

pub files_removed : (name : List ℕ) (fore aft : List Row) (text : List ℕ) (at : ℕ) (row : Row) → at ≡ sizes fore → at + (row.name + row.bytes) ≤ length text
    → take row.name (drop at text) ≡ name →
    AreApart (files (fore ++ row ∷ aft) text)
    → files (fore ++ aft) (take at text ++ drop (at + (row.name + row.bytes)) text) ≡ without name (files (fore ++ row ∷ aft) text)
files_removed name fore aft text at row before fits named apart =
    let short : at ≤ length text = omega arith in
    let size : sizes fore ≡ length (take at text) = sym before ∙ sym (length-take-le at text short) in
    let fs = files fore (take at text) in
    let gs = files aft (drop (at + (row.name + row.bytes)) text) in
    let b = take row.bytes (drop row.name (drop at text)) in
    let split = split_at name fore aft text at row before fits named in
    let here : AreApart (fs ++ (name, b) ∷ gs) = subst AreApart split apart in
    files_append fore aft (take at text) (drop (at + (row.name + row.bytes)) text) size
    ∙ sym (without_middle name b fs gs here)
    ∙ ap (without name) (sym split)

pub sizes_removed : (fore aft : List Row) (text : List ℕ) (at : ℕ) (row : Row) → at ≡ sizes fore → at + (row.name + row.bytes) ≤ length text
    → sizes (fore ++ row ∷ aft) ≡ length text →
    sizes (fore ++ aft) ≡ length (take at text ++ drop (at + (row.name + row.bytes)) text)
sizes_removed fore aft text at row before fits sized =
    let short : at ≤ length text = omega arith in
    let whole = sizes_append fore (row ∷ aft) in
    let parts = sizes_append fore aft in
    let a = length-append (take at text) (drop (at + (row.name + row.bytes)) text) in
    let b = length-take-le at text short in
    let d = length-drop (at + (row.name + row.bytes)) text in
    omega arith

-- a place's rows in three parts
pub place_rows : (name : List ℕ) (heads : List Head) (text : List ℕ) (from to at : ℕ) (row : Row) → IsPlace name heads text from to at row →
    rows heads ≡ rows (take from heads) ++ row ∷ rows (drop to heads)
place_rows name heads text from to at row p =
    rows_at heads from p.closed ∙ ap (λ rs. rows (take from heads) ++ rs) (rows_split heads from to row p.here)

-- what is left where the heads of a place are cut out
pub cut_rows : (name : List ℕ) (heads : List Head) (text : List ℕ) (from to at : ℕ) (row : Row) → IsPlace name heads text from to at row →
    rows (take from heads ++ drop to heads) ≡ rows (take from heads) ++ rows (drop to heads)
cut_rows name heads text from to at row p = p.closed (drop to heads)

pub removed_files : (name : List ℕ) (heads : List Head) (text : List ℕ) (from to at : ℕ) (row : Row) (hs : List Head) (t : List ℕ)
    → IsPlace name heads text from to at row → AreApart (files (rows heads) text) →
    hs ≡ take from heads ++ drop to heads → t ≡ take at text ++ drop (at + (row.name + row.bytes)) text
    → files (rows hs) t ≡ without name (files (rows heads) text)
removed_files name heads text from to at row hs t p apart eh et =
    let fore = rows (take from heads) in
    let aft = rows (drop to heads) in
    let split = place_rows name heads text from to at row p in
    let here : AreApart (files (fore ++ row ∷ aft) text) = subst (λ (rs : List Row). AreApart (files rs text)) split apart in
    ap (λ h. files (rows h) t) eh
    ∙ ap (λ u. files (rows (take from heads ++ drop to heads)) u) et
    ∙ ap (λ rs. files rs (take at text ++ drop (at + (row.name + row.bytes)) text)) (cut_rows name heads text from to at row p)
    ∙ files_removed name fore aft text at row p.before p.fits p.named here
    ∙ ap (λ rs. without name (files rs text)) (sym split)

pub removed_sizes : (name : List ℕ) (heads : List Head) (text : List ℕ) (from to at : ℕ) (row : Row) (hs : List Head) (t : List ℕ)
    → IsPlace name heads text from to at row → sizes (rows heads) ≡ length text →
    hs ≡ take from heads ++ drop to heads → t ≡ take at text ++ drop (at + (row.name + row.bytes)) text → sizes (rows hs) ≡ length t
removed_sizes name heads text from to at row hs t p sized eh et =
    let fore = rows (take from heads) in
    let aft = rows (drop to heads) in
    ap (λ h. sizes (rows h)) eh
    ∙ ap sizes (cut_rows name heads text from to at row p)
    ∙ sizes_removed fore aft text at row p.before p.fits (ap sizes (sym (place_rows name heads text from to at row p)) ∙ sized)
    ∙ ap length (sym et)

pub cut_closed : (name : List ℕ) (heads : List Head) (text : List ℕ) (from to at : ℕ) (row : Row) → IsPlace name heads text from to at row → IsClosed heads →
    IsClosed (take from heads ++ drop to heads)
cut_closed name heads text from to at row p closed =
    let zero : List Head = record { name = 0; bytes = 0 } ∷ [] in
    let fore = rows (take from heads) in
    let aft = rows (drop to heads) in
    let behind = closed_behind heads from to row p.here p.closed (drop to heads ++ zero) in
    let whole : rows (take to heads ++ (drop to heads ++ zero)) ≡ (fore ++ row ∷ aft) ++ rows zero =
    ap rows (sym (append_assoc (take to heads) (drop to heads) zero) ∙ ap (λ hs. hs ++ zero) (take-append-drop to heads))
    ∙ closed_append heads closed zero
    ∙ ap (λ rs. rs ++ rows zero) (place_rows name heads text from to at row p) in
    let both : fore ++ (row ∷ rows (drop to heads ++ zero)) ≡ fore ++ (row ∷ (aft ++ rows zero)) =
    sym behind ∙ whole ∙ append_assoc fore (row ∷ aft) (rows zero) in
    let same : rows (drop to heads ++ zero) ≡ aft ++ rows zero =
    ap rest_of (append_cancel_left fore (row ∷ rows (drop to heads ++ zero)) (row ∷ (aft ++ rows zero)) both) in
    ap rows (append_assoc (take from heads) (drop to heads) zero)
    ∙ p.closed (drop to heads ++ zero)
    ∙ ap (λ rs. fore ++ rs) same
    ∙ sym (append_assoc fore aft (rows zero))
    ∙ ap (λ rs. rs ++ rows zero) (sym (cut_rows name heads text from to at row p))
  where
    rest_of : List Row → List Row
    rest_of [] = []
    rest_of (q ∷ rs) = rs

pub files_added : (name bytes : List ℕ) (rows : List Row) (text : List ℕ) (row : Row) → row.name ≡ length name → row.bytes ≡ length bytes
    → sizes rows ≡ length text →
    files (rows ++ row ∷ []) ((text ++ name) ++ bytes) ≡ files rows text ++ (name, bytes) ∷ []
files_added name bytes rows text row n b sized =
    ap (files (rows ++ row ∷ [])) (append_assoc text name bytes)
    ∙ files_append rows (row ∷ []) text (name ++ bytes) sized
    ∙ ap (λ k. files rows text ++ (take k (name ++ bytes), take row.bytes (drop k (name ++ bytes))) ∷ []) n
    ∙ ap (λ k. files rows text ++ (take (length name) (name ++ bytes), take k (drop (length name) (name ++ bytes))) ∷ []) b
    ∙ ap (λ t. files rows text ++ (t, take (length bytes) (drop (length name) (name ++ bytes))) ∷ []) (take-append_seam name bytes)
    ∙ ap (λ t. files rows text ++ (name, take (length bytes) t) ∷ []) (drop-append_seam name bytes)
    ∙ ap (λ t. files rows text ++ (name, t) ∷ []) (take-length bytes)

pub sizes_added : (name bytes : List ℕ) (rows : List Row) (text : List ℕ) (row : Row) → row.name ≡ length name → row.bytes ≡ length bytes
    → sizes rows ≡ length text →
    sizes (rows ++ row ∷ []) ≡ length ((text ++ name) ++ bytes)
sizes_added name bytes rows text row n b sized =
    let parts = sizes_append rows (row ∷ []) in
    let one : sizes (row ∷ []) ≡ row.name + row.bytes = omega arith in
    let x = length-append (text ++ name) bytes in
    let y = length-append text name in
    omega arith

named : (name text : List ℕ) (at n : ℕ) (r : Bool) → r ≡ bytes_eq (take (at + n - at) (drop at text)) name → Decides r (take n (drop at text) ≡ name)
named name text at n r h =
    let e : at + n - at ≡ n = omega arith in
    let d = bytes_eq-Decides (take n (drop at text)) name in
    let same : r ≡ bytes_eq (take n (drop at text)) name = h ∙ ap (λ k. bytes_eq (take k (drop at text)) name) e in
    (λ t. d.0 (sym same ∙ t), λ t. same ∙ d.1 t)

-- where a search has come to: the rows before a place of the heads are closed and take so many bytes, and the name is none of theirs
pub record IsSought (name : List ℕ) (heads : List Head) (text : List ℕ) (from at : ℕ) : Type 0 where
  pub within : from ≤ length heads
  pub closed : (more : List Head) → rows (take from heads ++ more) ≡ rows (take from heads) ++ rows more
  pub before : at ≡ sizes (rows (take from heads))
  pub rest : lookup name (files (rows (drop from heads)) (drop at text)) ≡ lookup name (files (rows heads) text)

pub sought_fits : (name : List ℕ) (heads : List Head) (text : List ℕ) (from at to : ℕ) (row : Row) → IsSought name heads text from at
    → IsRow heads from to row → sizes (rows heads) ≡ length text →
    at + (row.name + row.bytes) ≤ length text
sought_fits name heads text from at to row s r sized =
    let before = s.before in
    let whole = ap sizes (rows_at heads from s.closed ∙ ap (λ rs. rows (take from heads) ++ rs) (rows_split heads from to row r)) in
    let parts = sizes_append (rows (take from heads)) (row ∷ rows (drop to heads)) in
    omega arith

opened : (name : List ℕ) (heads : List Head) (text : List ℕ) (from at to : ℕ) (row : Row) → IsRow heads from to row →
    files (rows (drop from heads)) (drop at text)
    ≡ (take row.name (drop at text), take row.bytes (drop row.name (drop at text))) ∷ files (rows (drop to heads)) (drop (at + (row.name + row.bytes)) text)
opened name heads text from at to row r =
    ap (λ rs. files rs (drop at text)) (rows_split heads from to row r)
    ∙ ap (λ t. (take row.name (drop at text), take row.bytes (drop row.name (drop at text))) ∷ files (rows (drop to heads)) t)
    (drop-drop (row.name + row.bytes) at text)

-- a row whose name was found equal is the place of that name
pub place_here : (name : List ℕ) (heads : List Head) (text : List ℕ) (from at to : ℕ) (row : Row) (r : Bool) → IsSought name heads text from at
    → IsRow heads from to row → sizes (rows heads) ≡ length text →
    r ≡ bytes_eq (take (at + row.name - at) (drop at text)) name → r ≡ true → IsPlace name heads text from to at row
place_here name heads text from at to row r s i sized test t =
    let is_name = (named name text at row.name r test).0 t in
    record {
      here = i;
      closed = s.closed;
      before = s.before;
      fits = sought_fits name heads text from at to row s i sized;
      named = is_name;
      found = sym s.rest ∙ ap (lookup name) (opened name heads text from at to row i)
          ∙ lookup_hit name (take row.name (drop at text)) (take row.bytes (drop row.name (drop at text)))
          (files (rows (drop to heads)) (drop (at + (row.name + row.bytes)) text)) is_name;
    }

-- a row whose name was found other leaves the search to those after it
pub not_here : (name : List ℕ) (heads : List Head) (text : List ℕ) (from at to : ℕ) (row : Row) (r : Bool) → IsSought name heads text from at
    → IsRow heads from to row →
    r ≡ bytes_eq (take (at + row.name - at) (drop at text)) name → r ≡ false → IsSought name heads text to (at + row.name + row.bytes)
not_here name heads text from at to row r s i test f =
    let other : take row.name (drop at text) ≢ name = λ e. let t = (named name text at row.name r test).1 e in cc in
    let behind = closed_behind heads from to row i s.closed in
    let up_to : rows (take to heads) ≡ rows (take from heads) ++ row ∷ [] = ended_rows (rows (take from heads)) (take to heads) row behind in
    let before = s.before in
    let size = ap sizes up_to in
    let parts = sizes_append (rows (take from heads)) (row ∷ []) in
    let sum : at + (row.name + row.bytes) ≡ at + row.name + row.bytes = omega arith in
    record {
      within = i.within;
      closed = λ more. behind more ∙ sym (append_assoc (rows (take from heads)) (row ∷ []) (rows more)) ∙ ap (λ rs. rs ++ rows more) (sym up_to);
      before = omega arith;
      rest = ap (λ k. lookup name (files (rows (drop to heads)) (drop k text))) (sym sum)
          ∙ sym (ap (lookup name) (opened name heads text from at to row i)
          ∙ lookup_miss name (take row.name (drop at text)) (take row.bytes (drop row.name (drop at text)))
          (files (rows (drop to heads)) (drop (at + (row.name + row.bytes)) text)) other)
          ∙ s.rest;
    }

pub apart_row : (name bytes : List ℕ) (rows : List Row) (text : List ℕ) (row : Row) → row.name ≡ length name → row.bytes ≡ length bytes
    → sizes rows ≡ length text →
    AreApart (files rows text) → lookup name (files rows text) ≡ None → AreApart (files (rows ++ row ∷ []) ((text ++ name) ++ bytes))
apart_row name bytes rows text row n b sized apart absent =
    subst AreApart (sym (files_added name bytes rows text row n b sized)) (apart_added name bytes (files rows text) absent apart)

-- there are never more rows than bytes, but for one of an empty name
pub room_for_row : (name bytes : List ℕ) (rows : List Row) (text : List ℕ) (room : ℕ) → sizes rows ≡ length text → AreApart (files rows text) →
    lookup name (files rows text) ≡ None → total (files rows text) + (length name + length bytes) ≤ room → length rows ≤ room
room_for_row name bytes rows text room sized apart absent fits =
    let row : Row = record { name = length name; bytes = length bytes } in
    let size = sizes_added name bytes rows text row refl refl sized in
    let most = rows_within (rows ++ row ∷ []) ((text ++ name) ++ bytes) size (apart_row name bytes rows text row refl refl sized apart absent) in
    let x = length-append (text ++ name) bytes in
    let y = length-append text name in
    let z = length-append rows (row ∷ []) in
    let t = total_files rows text sized in
    omega arith

-- what a place has is what the file takes
pub size_here : (name : List ℕ) (heads : List Head) (text : List ℕ) (from to at : ℕ) (row : Row) → IsPlace name heads text from to at row
    → AreApart (files (rows heads) text) →
    total (without name (files (rows heads) text)) + (row.name + row.bytes) ≡ total (files (rows heads) text)
size_here name heads text from to at row p apart =
    let fits = p.fits in
    let a = length-drop at text in
    let short : row.name ≤ length (drop at text) = omega arith in
    let n = length-take-le row.name (drop at text) short in
    let same : length (take row.name (drop at text)) ≡ length name = ap length p.named in
    let b = length-drop row.name (drop at text) in
    let rest : row.bytes ≤ length (drop row.name (drop at text)) = omega arith in
    let m = length-take-le row.bytes (drop row.name (drop at text)) rest in
    let t = total_without name (take row.bytes (drop row.name (drop at text))) (files (rows heads) text) apart p.found in
    omega arith

pub size_absent : (name : List ℕ) (rows : List Row) (text : List ℕ) → lookup name (files rows text) ≡ None
    → total (without name (files rows text)) + 0 ≡ total (files rows text)
size_absent name rows text absent =
    let t = ap total (without_absent name (files rows text) absent) in
    omega arith

-- there is room for the heads of one more row
pub room_for_heads : (name bytes : List ℕ) (heads : List Head) (text : List ℕ) (room : ℕ) → sizes (rows heads) ≡ length text
    → AreApart (files (rows heads) text) → IsClosed heads →
    lookup name (files (rows heads) text) ≡ None → total (files (rows heads) text) + (length name + length bytes) ≤ room →
    255 * (length heads + 1) + (length name + length bytes) ≤ 255 * (room + 1) + room
room_for_heads name bytes heads text room sized apart closed absent fits =
    let few = room_for_row name bytes (rows heads) text room sized apart absent fits in
    let long = heads_length heads closed in
    let t = total_files (rows heads) text sized in
    omega arith
