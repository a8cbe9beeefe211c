-- How heads tell rows.
use Rattle.std.proofs.Common.{◌≡◌, ◌+◌, ◌-◌, ◌*◌, ◌≤◌, ◌<◌, ◌==◌, ℕ, List, [], ◌∷◌, ◌++◌, length, take, drop, true, false, refl, sym, ap, ◌∙◌, inl, inr}
use Rattle.std.proofs.Common.{arith, get_or, length-drop}
use Rattle.std.proofs.lemmas.List.{append_assoc, append-nil, take_more, get_or-drop}
use Rattle.std.proofs.lemmas.Bool.{cases_Bool, or_cases, eqb-true}
use Rattle.std.proofs.Math.Seq.{take-length}
use Rattle.outside.specs.declared.heads.Head.{Head}
use Rattle.outside.specs.declared.heads.Row.{Row}
use Rattle.outside.specs.Rows.{goes_on, rows_after, rows, IsClosed, sizes}

on_true : (n b : ℕ) (h : Head) (hs : List Head) → goes_on h ≡ true → rows_after n b (h ∷ hs) ≡ rows_after (n + h.name) (b + h.bytes) hs
on_true n b h hs t = rw t refl

on_false : (n b : ℕ) (h : Head) (hs : List Head) → goes_on h ≡ false → rows_after n b (h ∷ hs) ≡ record { name = n + h.name; bytes = b + h.bytes } ∷ rows hs
on_false n b h hs f = rw f refl

abbrev zero_head : Head
zero_head = record { name = 0; bytes = 0 }

abbrev zero_row : Row
zero_row = record { name = 0; bytes = 0 }

abbrev first_of : Row → List Row → Row
first_of r [] = r
first_of r (q ∷ rs) = q

abbrev rest_of : List Row → List Row
rest_of [] = []
rest_of (q ∷ rs) = rs

-- what is closed tells its rows before whatever follows
closed_from : (n b : ℕ) (hs : List Head) → rows_after n b (hs ++ zero_head ∷ []) ≡ rows_after n b hs ++ zero_row ∷ [] → (more : List Head)
    → rows_after n b (hs ++ more) ≡ rows_after n b hs ++ rows more
closed_from n b [] e more =
    let row : Row = record { name = n + 0; bytes = b + 0 } in
    let same : row ≡ zero_row = ap (first_of zero_row) e in
    let name_is : n + 0 ≡ 0 = ap (λ (r : Row). r.name) same in
    let bytes_is : b + 0 ≡ 0 = ap (λ (r : Row). r.bytes) same in
    let no_name : n ≡ 0 = omega arith in
    let no_bytes : b ≡ 0 = omega arith in
    rw (no_name, no_bytes) refl
closed_from n b (h ∷ hs) e more =
    elim (cases_Bool (goes_on h)) [
      | inl t ↦
          on_true n b h (hs ++ more) t
          ∙ closed_from (n + h.name) (b + h.bytes) hs
          (sym (on_true n b h (hs ++ zero_head ∷ []) t) ∙ e ∙ ap (λ rs. rs ++ zero_row ∷ []) (on_true n b h hs t)) more
          ∙ ap (λ rs. rs ++ rows more) (sym (on_true n b h hs t))
      | inr f ↦
          on_false n b h (hs ++ more) f
          ∙ ap (λ rs. record { name = n + h.name; bytes = b + h.bytes } ∷ rs)
          (closed_from 0 0 hs (ap rest_of (sym (on_false n b h (hs ++ zero_head ∷ []) f) ∙ e ∙ ap (λ rs. rs ++ zero_row ∷ []) (on_false n b h hs f))) more)
          ∙ ap (λ rs. rs ++ rows more) (sym (on_false n b h hs f))
    ]

pub closed_append : (hs : List Head) → IsClosed hs → (more : List Head) → rows (hs ++ more) ≡ rows hs ++ rows more
closed_append hs c more = closed_from 0 0 hs c more

full_part : (h : Head) → goes_on h ≡ true → 255 ≤ h.name + h.bytes
full_part h t =
    elim (or_cases (h.name == 255) (h.bytes == 255) t) [
      | inl e ↦ let n = eqb-true h.name 255 e in omega arith
      | inr e ↦ let b = eqb-true h.bytes 255 e in omega arith
    ]

-- a head for each row, and a further one for each 255 bytes at most
length_from : (n b : ℕ) (hs : List Head) → rows_after n b (hs ++ zero_head ∷ []) ≡ rows_after n b hs ++ zero_row ∷ [] →
    255 * length hs + (n + b) ≤ sizes (rows_after n b hs) + 255 * length (rows_after n b hs)
length_from n b [] e =
    let row : Row = record { name = n + 0; bytes = b + 0 } in
    let same : row ≡ zero_row = ap (first_of zero_row) e in
    let name_is : n + 0 ≡ 0 = ap (λ (r : Row). r.name) same in
    let bytes_is : b + 0 ≡ 0 = ap (λ (r : Row). r.bytes) same in
    let no_name : n ≡ 0 = omega arith in
    let no_bytes : b ≡ 0 = omega arith in
    omega arith
length_from n b (h ∷ hs) e =
    elim (cases_Bool (goes_on h)) [
      | inl t ↦
          let rest = length_from (n + h.name) (b + h.bytes) hs
          (sym (on_true n b h (hs ++ zero_head ∷ []) t) ∙ e ∙ ap (λ rs. rs ++ zero_row ∷ []) (on_true n b h hs t)) in
          let full = full_part h t in
          rw (on_true n b h hs t) (omega arith)
      | inr f ↦
          let rest = length_from 0 0 hs
          (ap rest_of (sym (on_false n b h (hs ++ zero_head ∷ []) f) ∙ e ∙ ap (λ rs. rs ++ zero_row ∷ []) (on_false n b h hs f))) in
          rw (on_false n b h hs f) (omega arith)
    ]

pub heads_length : (hs : List Head) → IsClosed hs → 255 * length hs ≤ sizes (rows hs) + 255 * length (rows hs)
heads_length hs c = let h = length_from 0 0 hs c in omega arith

-- one more head of a row that goes on
pub row_goes_on : (rs : List Row) (hs : List Head) (n b m c : ℕ) (h : Head) → ((more : List Head) → rows (hs ++ more) ≡ rs ++ rows_after n b more) →
    goes_on h ≡ true → m ≡ n + h.name → c ≡ b + h.bytes → (more : List Head) → rows ((hs ++ h ∷ []) ++ more) ≡ rs ++ rows_after m c more
row_goes_on rs hs n b m c h told t en eb more =
    ap rows (append_assoc hs (h ∷ []) more) ∙ told (h ∷ more) ∙ ap (λ qs. rs ++ qs) (on_true n b h more t) ∙ rw (en, eb) refl

-- the last head of a row
pub row_ends : (rs : List Row) (hs : List Head) (n b : ℕ) (h : Head) (row : Row) → ((more : List Head) → rows (hs ++ more) ≡ rs ++ rows_after n b more) →
    goes_on h ≡ false → row.name ≡ n + h.name → row.bytes ≡ b + h.bytes → (more : List Head) → rows ((hs ++ h ∷ []) ++ more) ≡ rs ++ row ∷ rows more
row_ends rs hs n b h row told f en eb more =
    let same : record { name = n + h.name; bytes = b + h.bytes } ≡ row = rw (sym en, sym eb) refl in
    ap rows (append_assoc hs (h ∷ []) more) ∙ told (h ∷ more) ∙ ap (λ qs. rs ++ qs) (on_false n b h more f) ∙ ap (λ q. rs ++ q ∷ rows more) same

pub ended_rows : (rs : List Row) (hs : List Head) (row : Row) → ((more : List Head) → rows (hs ++ more) ≡ rs ++ row ∷ rows more) → rows hs ≡ rs ++ row ∷ []
ended_rows rs hs row told = ap rows (sym (append-nil hs)) ∙ told []

pub ended_closed : (rs : List Row) (hs : List Head) (row : Row) → ((more : List Head) → rows (hs ++ more) ≡ rs ++ row ∷ rows more) → IsClosed hs
ended_closed rs hs row told =
    told (zero_head ∷ []) ∙ sym (append_assoc rs (row ∷ []) (zero_row ∷ [])) ∙ ap (λ qs. qs ++ zero_row ∷ []) (sym (ended_rows rs hs row told))

-- one head more of the row at a place
pub piece_more : (hs : List Head) (from at : ℕ) (z : Head) → from ≤ at → at < length hs →
    take (at + 1 - from) (drop from hs) ≡ take (at - from) (drop from hs) ++ get_or hs at z ∷ []
piece_more hs from at z order within =
    let k : at + 1 - from ≡ at - from + 1 = omega arith in
    let l = length-drop from hs in
    let inside : at - from < length (drop from hs) = omega arith in
    let sum : from + (at - from) ≡ at = omega arith in
    ap (λ i. take i (drop from hs)) k
    ∙ take_more (drop from hs) (at - from) z inside
    ∙ ap (λ h. take (at - from) (drop from hs) ++ h ∷ []) (get_or-drop from hs (at - from) z ∙ ap (λ i. get_or hs i z) sum)

-- where no row ended there is none
pub none_left : (hs : List Head) (from at n b : ℕ) → from ≤ at → at ≡ length hs →
    ((more : List Head) → rows (take (at - from) (drop from hs) ++ more) ≡ rows_after n b more) → rows (drop from hs) ≡ []
none_left hs from at n b order end told =
    let l = length-drop from hs in
    let whole : at - from ≡ length (drop from hs) = omega arith in
    let all : take (at - from) (drop from hs) ≡ drop from hs = ap (λ k. take k (drop from hs)) whole ∙ take-length (drop from hs) in
    ap rows (sym all ∙ sym (append-nil (take (at - from) (drop from hs)))) ∙ told []
