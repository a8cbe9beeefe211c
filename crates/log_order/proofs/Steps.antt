-- Along a stream whose counts don't fall, the entry before alone tells where O2 is first broken.
use Rattle.std.proofs.Common.{◌≡◌, ℕ, zero, suc, ◌-◌, ◌<◌, ◌≤◌, Bool, true, false, eqb, List, [], ◌∷◌, ◌++◌, length, get_or, take, Option, Some, refl, sym}
use Rattle.std.proofs.Common.{ap, ◌∙◌, inl, inr, arith}
use Rattle.std.specs.Prelude.{◌&&◌, ◌||◌, nat_le, nat_lt, slice_get, ◌==◌}
use Rattle.std.specs.List.{list_any, list_all}
use Rattle.std.proofs.Math.Seq.{take-suc}
use Rattle.std.proofs.lemmas.Bool.{and_from, and_parts, or_from, or_parts, eqb-true, eq-eqb, leb-true, le-leb, ltb-false}
use Rattle.std.proofs.lemmas.List.Folds.{list_any-append, list_all-append}
use Rattle.std.proofs.lemmas.Option.{slice_get_cases, slice_get_within}
use Rattle.log_entry.specs.declared.log.Entry.{Entry}
use Rattle.log_entry.specs.Parts.{count_of, is_end, is_poll, is_touch, is_some_and}
use Rattle.log_order.specs.InStream.{previous_in, falls, NoFall, o2_in, steps_wrongly}

-- two entries of one count that can't stand in this order
abbrev pub is_wrong : Entry → Entry → Bool
is_wrong e x = (count_of e == count_of x) && (is_touch e || is_end e || is_poll x)

same_block : (cp cx cy : ℕ) → cy ≤ cp → cp ≤ cx → eqb cy cx ≡ true → (eqb cp cx ≡ true) × (eqb cy cp ≡ true)
same_block cp cx cy one two h =
    let same = eqb-true cy cx h in
    let up : cp ≡ cx = omega (arith, same, one, two) in
    let down : cy ≡ cp = omega (arith, same, one, two) in
    (eq-eqb cp cx up, eq-eqb cy cp down)

block : (a b c ty ey tp ep pp px : Bool) → (c ≡ true → (a ≡ true) × (b ≡ true)) → (a && (tp || ep || px)) ≡ false → (b && (ty || ey || pp)) ≡ false
    → (c && (ty || ey || px)) ≡ false
block a b false ty ey tp ep pp px h p q = refl
block false b true ty ey tp ep pp px h p q = absurd (let never = (h refl).0 in cc)
block true false true ty ey tp ep pp px h p q = absurd (let never = (h refl).1 in cc)
block true true true ty ey tp ep pp px h p q = or_from (ty || ey) px (or_parts (ty || ey) pp q).0 (or_parts (tp || ep) px p).1

one_quiet : (y p x : Entry) → count_of y ≤ count_of p → count_of p ≤ count_of x → is_wrong p x ≡ false → is_wrong y p ≡ false → is_wrong y x ≡ false
one_quiet y p x yp px wrong before =
    block (eqb (count_of p) (count_of x)) (eqb (count_of y) (count_of p)) (eqb (count_of y) (count_of x)) (is_touch y) (is_end y) (is_touch p) (is_end p)
    (is_poll p) (is_poll x)
    (same_block (count_of p) (count_of x) (count_of y) yp px) wrong before

all_quiet : (p x : Entry) → count_of p ≤ count_of x → is_wrong p x ≡ false → (ys : List Entry) → list_all (λ y. nat_le (count_of y) (count_of p)) ys ≡ true
    → list_any (λ y. is_wrong y p) ys ≡ false → list_any (λ y. is_wrong y x) ys ≡ false
all_quiet p x px wrong [] low before = refl
all_quiet p x px wrong (y ∷ ys) low before =
    let l = and_parts (nat_le (count_of y) (count_of p)) (list_all (λ z. nat_le (count_of z) (count_of p)) ys) low in
    let b = or_parts (is_wrong y p) (list_any (λ z. is_wrong z p) ys) before in
    or_from (is_wrong y x) (list_any (λ z. is_wrong z x) ys) (one_quiet y p x (leb-true (count_of y) (count_of p) l.0) px wrong b.0)
    (all_quiet p x px wrong ys l.1 b.1)

weaken : (a b : ℕ) → a ≤ b → (ys : List Entry) → list_all (λ y. nat_le (count_of y) a) ys ≡ true → list_all (λ y. nat_le (count_of y) b) ys ≡ true
weaken a b le [] low = refl
weaken a b le (y ∷ ys) low =
    let l = and_parts (nat_le (count_of y) a) (list_all (λ z. nat_le (count_of z) a) ys) low in
    let one = leb-true (count_of y) a l.0 in
    and_from (nat_le (count_of y) b) (list_all (λ z. nat_le (count_of z) b) ys) (le-leb (count_of y) b (omega (arith, one, le))) (weaken a b le ys l.1)

before-suc : (s : List Entry) (k : ℕ) → previous_in s (suc k) ≡ slice_get s k
before-suc s k =
    let a : eqb (suc k) 0 ≡ false = grind arith in
    let b : suc k - 1 ≡ k = omega arith in
    rw (a, b) refl

-- an entry that is there
pub record At (s : List Entry) (k : ℕ) : Type 0 where
  pub entry : Entry
  pub got : slice_get s k ≡ Some entry
  pub same : get_or s k entry ≡ entry

pub at_place : (s : List Entry) (k : ℕ) → k < length s → At s k
at_place s k lt = elim ((slice_get_cases s k).1) [
  | inl h ↦ record { entry = h.0; got = h.2; same = h.3 }
  | inr h ↦ absurd (let past = h.0 in omega (arith, past, lt))
]

rises : (s : List Entry) → NoFall s → (k : ℕ) (p x : Entry) → slice_get s k ≡ Some p → slice_get s (suc k) ≡ Some x → count_of p ≤ count_of x
rises s n k p x f e =
    let h : falls s (suc k) ≡ false = n (suc k) (slice_get_within s (suc k) x e) in
    let one : falls s (suc k) ≡ is_some_and (previous_in s (suc k)) (λ q. nat_lt (count_of x) (count_of q)) =
    ap (λ (o : Option Entry). is_some_and o (λ z. is_some_and (previous_in s (suc k)) (λ q. nat_lt (count_of z) (count_of q)))) e in
    let two : is_some_and (previous_in s (suc k)) (λ q. nat_lt (count_of x) (count_of q)) ≡ nat_lt (count_of x) (count_of p) =
    ap (λ (o : Option Entry). is_some_and o (λ q. nat_lt (count_of x) (count_of q))) (before-suc s k ∙ f) in
    ltb-false (count_of x) (count_of p) (sym two ∙ sym one ∙ h)

front : (s : List Entry) (k : ℕ) (q : At s k) → k < length s → take (suc k) s ≡ take k s ++ (q.entry ∷ [])
front s k q lt = take-suc s k q.entry lt ∙ ap (λ (z : Entry). take k s ++ (z ∷ [])) q.same

pub lower : (s : List Entry) → NoFall s → (k : ℕ) (p : Entry) → slice_get s k ≡ Some p → list_all (λ y. nat_le (count_of y) (count_of p)) (take k s) ≡ true
lower [] n k p f = absurd (let lt = slice_get_within [] k p f in omega (arith, lt))
lower (x ∷ s) n zero p f = refl
lower (x ∷ s) n (suc k) p f =
    let lt = slice_get_within (x ∷ s) (suc k) p f in
    let lt' : k < length (x ∷ s) = omega (arith, lt) in
    let q = at_place (x ∷ s) k lt' in
    let up = rises (x ∷ s) n k q.entry p q.got f in
    let rest = weaken (count_of q.entry) (count_of p) up (take k (x ∷ s)) (lower (x ∷ s) n k q.entry q.got) in
    let low : ℕ → List Entry → Bool = λ c. list_all (λ y. nat_le (count_of y) c) in
    ap (low (count_of p)) (front (x ∷ s) k q lt')
    ∙ list_all-append (λ y. nat_le (count_of y) (count_of p)) (take k (x ∷ s)) (q.entry ∷ [])
    ∙ and_from (low (count_of p) (take k (x ∷ s))) (nat_le (count_of q.entry) (count_of p) && true) rest
    (and_from (nat_le (count_of q.entry) (count_of p)) true (le-leb (count_of q.entry) (count_of p) up) refl)

last_decides : (a b : Bool) → (b ≡ false → a ≡ false) → (a || (b || false)) ≡ b
last_decides true true h = refl
last_decides true false h = absurd (let never = h refl in cc)
last_decides false true h = refl
last_decides false false h = refl

wrong_step : (s : List Entry) → NoFall s → (k : ℕ) → suc k < length s → o2_in s k ≡ false → o2_in s (suc k) ≡ steps_wrongly s (suc k)
wrong_step s n k lt quiet =
    let lt' : k < length s = omega (arith, lt) in
    let p = at_place s k lt' in
    let x = at_place s (suc k) lt in
    let wrong : Entry → List Entry → Bool = λ z. list_any (λ y. is_wrong y z) in
    let before : wrong p.entry (take k s) ≡ false =
    sym (ap (λ (o : Option Entry). is_some_and o (λ z. list_any (λ y. is_wrong y z) (take k s))) p.got) ∙ quiet in
    let left : o2_in s (suc k) ≡ wrong x.entry (take (suc k) s) =
    ap (λ (o : Option Entry). is_some_and o (λ z. list_any (λ y. is_wrong y z) (take (suc k) s))) x.got in
    let right : steps_wrongly s (suc k) ≡ is_wrong p.entry x.entry =
    ap (λ (o : Option Entry). is_some_and o (λ z. is_some_and (previous_in s (suc k)) (λ y. is_wrong y z))) x.got
    ∙ ap (λ (o : Option Entry). is_some_and o (λ y. is_wrong y x.entry)) (before-suc s k ∙ p.got) in
    let middle : wrong x.entry (take (suc k) s) ≡ is_wrong p.entry x.entry =
    ap (wrong x.entry) (front s k p lt')
    ∙ list_any-append (λ y. is_wrong y x.entry) (take k s) (p.entry ∷ [])
    ∙ last_decides (wrong x.entry (take k s)) (is_wrong p.entry x.entry)
    (λ h. all_quiet p.entry x.entry (rises s n k p.entry x.entry p.got x.got) h (take k s) (lower s n k p.entry p.got) before) in
    left ∙ middle ∙ sym right

-- where no place before breaks O2, this place does exactly where its entry follows wrongly on the one before
pub o2_by_steps : (s : List Entry) → NoFall s → (i : ℕ) → i < length s → ((j : ℕ) → j < i → o2_in s j ≡ false) → o2_in s i ≡ steps_wrongly s i
o2_by_steps [] n i lt before = absurd (omega arith)
o2_by_steps (x ∷ s) n zero lt before = refl
o2_by_steps (x ∷ s) n (suc k) lt before = wrong_step (x ∷ s) n k lt (before k (omega arith))
