-- The table of holders once a hart holds something else of a page.
use Rattle.std.proofs.Common.{◌≡◌, ◌≢◌, inl, inr, ℕ, ◌+◌, ◌==◌, ◌<◌, ◌≤◌, ◌&&◌, not, Bool, true, false, List, [], ◌∷◌, ◌++◌, length, replicate, get_or}
use Rattle.std.proofs.Common.{slice_get, slice_set, slice_index, unwrap_or, Option, Some, None, refl, ap, ap₂, ◌∙◌, sym, subst, arith}
use Rattle.std.specs.Prelude.{is_none, IsTrue, nat_lt}
use Rattle.std.proofs.lemmas.Bool.{cases_eq, cases_lt}
use Rattle.std.proofs.lemmas.Bool.Decides.{eqb_tells}
use Rattle.std.proofs.lemmas.Option.{slice_get_past, unwrap_or-slice_get, slice_get_read}
use Rattle.std.proofs.lemmas.List.{length-set, length-replicate, get_or-replicate}
use Rattle.std.proofs.lemmas.List.Folds.{sum_by-replicate}
use Rattle.std.proofs.lemmas.Grind.{get_or_default_zero}
use Rattle.std.proofs.lemmas.List.Elements.{All-set, All-replicate}
use Rattle.shared_types.proofs.Lists.{set_here, set_there, is_none_so}
use Rattle.rv_words.specs.declared.shared.Mode.{Mode}
use Rattle.rv_words.specs.declared.shared.TheConstants.{MAX_HARTS}
use Rattle.log_entry.specs.declared.waits.WaitFor.{WaitFor}
use Rattle.log_entry.specs.Parts.{strength, conflict}
use Rattle.order_rules.specs.Holders.{Holders, row, held, with_held, IsCrew}
use Rattle.privilege_directory.specs.Directory.{Directory, IsDirectory, AreFew, clash_of, may_gain, yields_of, gained, yielded, weight, directory_at_start}
use Rattle.order_rules.proofs.Crew.{conflict_turned}
use Rattle.order_rules.proofs.Follow.{row_here, row_there, held_here, held_beside, held_elsewhere}
use Rattle.privilege_directory.proofs.FirstNumber.{none_passes}
use Rattle.privilege_directory.proofs.Holds.{hold, NoneAgainst, less_conflict, few_yielded, few_gained, weight-set}

-- a hold against which no other hart stands
abbrev pub Fits : Holders → ℕ → ℕ → Option Mode → Type 0
Fits holders page h left = (g : ℕ) → g ≢ h → conflict left (held holders page g) ≡ false

crew_on : (holders : Holders) (page h a b : ℕ) (left : Option Mode) → IsCrew holders → page < length holders → h < length (row holders page)
    → Fits holders page h left → a ≢ b
    → conflict (held (with_held holders page h left) page a) (held (with_held holders page h left) page b) ≡ false
crew_on holders page h a b left crew p l fits n = elim (cases_eq a h) [
  | inl e ↦ elim (cases_eq b h) [
    | inl f ↦ absurd (n (e ∙ sym f))
    | inr f ↦
        ap₂ conflict (ap (held (with_held holders page h left) page) e ∙ held_here holders page h left p l) (held_beside holders page h b left p f)
        ∙ fits b f
  ]
  | inr d ↦ elim (cases_eq b h) [
    | inl f ↦
        ap₂ conflict (held_beside holders page h a left p d) (ap (held (with_held holders page h left) page) f ∙ held_here holders page h left p l)
        ∙ conflict_turned (held holders page a) left ∙ fits a d
    | inr f ↦ ap₂ conflict (held_beside holders page h a left p d) (held_beside holders page h b left p f) ∙ crew page a b n
  ]
]

pub crew_after : (holders : Holders) (page h : ℕ) (left : Option Mode) → IsCrew holders → page < length holders → h < length (row holders page)
    → Fits holders page h left → IsCrew (with_held holders page h left)
crew_after holders page h left crew p l fits q a b n = elim (cases_eq q page) [
  | inl e ↦ subst (λ z. conflict (held (with_held holders page h left) z a) (held (with_held holders page h left) z b) ≡ false) (sym e)
      (crew_on holders page h a b left crew p l fits n)
  | inr d ↦ ap₂ conflict (held_elsewhere holders page q h a left d) (held_elsewhere holders page q h b left d) ∙ crew q a b n
]

hold_of_nobody : (k g : ℕ) → hold (replicate k None) g ≡ None
hold_of_nobody k g = elim (cases_lt g k) [
  | inl l ↦ unwrap_or-slice_get (replicate k None) g None ∙ get_or-replicate k g None None l
  | inr m ↦ ap (λ o. unwrap_or o None) (slice_get_past (replicate k None) g (omega (arith, m, length-replicate {A = Option Mode} k None)))
]

pub held_of_nobody : (pages harts page g : ℕ) → held (replicate pages (replicate harts None)) page g ≡ None
held_of_nobody pages harts page g = elim (cases_lt page pages) [
  | inl l ↦
      let r : row (replicate pages (replicate harts None)) page ≡ replicate harts None =
      unwrap_or-slice_get (replicate pages (replicate harts None)) page [] ∙ get_or-replicate pages page (replicate harts None) [] l in
      ap (λ z. hold z g) r ∙ hold_of_nobody harts g
  | inr m ↦
      ap (λ o. hold (unwrap_or o []) g)
      (slice_get_past (replicate pages (replicate harts None)) page
      (omega (arith, m, length-replicate {A = List (Option Mode)} pages (replicate harts None))))
]

pub nobody_crew : (pages harts : ℕ) → IsCrew (replicate pages (replicate harts None))
nobody_crew pages harts page g h n = ap (λ o. conflict o (held (replicate pages (replicate harts None)) page h)) (held_of_nobody pages harts page g)

-- what was read at a place
pub was_read : {X : Type 0} (xs : List X) (i : ℕ) (x d : X) → x ≡ get_or xs i x → i < length xs → unwrap_or (slice_get xs i) d ≡ x
was_read xs i x d e l = ap (λ o. unwrap_or o d) (slice_get_read xs (length xs) i x refl l e)

weight_of_nobody : (harts : ℕ) → weight (replicate harts None) ≡ 0
weight_of_nobody harts = sum_by-replicate strength harts None ∙ omega arith

-- a row has all harts
pub row_size : (d : Directory) (page : ℕ) → IsDirectory d → page < length d.holders → length (row d.holders page) ≡ length d.wants
row_size d page sound l = ap length (unwrap_or-slice_get d.holders page []) ∙ sound.rows page [] l

both_true : (a b : Bool) → IsTrue (a && b) → a ≡ true
both_true true b t = refl
both_true false b t = let bad : ⊥ = cc in absurd bad

other_test : (g h : ℕ) (b : Bool) → g ≢ h → (not (g == h) && b) ≡ false → b ≡ false
other_test g h b n e = elim (eqb_tells g h) [
  | inl (t, same) ↦ absurd (n same)
  | inr (f, d) ↦ sym (ap (λ z. not z && b) f) ∙ e
]

nobody_few : (harts : ℕ) → harts ≤ MAX_HARTS → AreFew (replicate harts None) []
nobody_few harts most =
    let w = weight_of_nobody harts in
    record {
      all = omega (arith, w);
      others = λ h l. let s = weight-set (replicate harts None) h None l in omega (arith, w, s);
    }

pub start_directory : (harts pages : ℕ) → harts ≤ MAX_HARTS → IsDirectory (directory_at_start harts pages)
start_directory harts pages most =
    let long : length (directory_at_start harts pages).holders ≡ pages = length-replicate pages (replicate harts None) in
    let asks : length (directory_at_start harts pages).wants ≡ harts = length-replicate harts None in
    let wide : length (replicate harts None) ≡ length (directory_at_start harts pages).wants = length-replicate harts None ∙ sym asks in
    record {
      crew = nobody_crew pages harts;
      harts = omega (arith, asks, most);
      rows = All-replicate (λ (holds : List (Option Mode)). length holds ≡ length (directory_at_start harts pages).wants) pages (replicate harts None) wide;
      numbers_size = length-replicate pages 0 ∙ sym long;
      yields_size = length-replicate pages [] ∙ sym long;
      few = λ page l.
          let inside : page < pages = omega (arith, l, long) in
          let r : row (replicate pages (replicate harts None)) page ≡ replicate harts None =
          unwrap_or-slice_get (replicate pages (replicate harts None)) page [] ∙ get_or-replicate pages page (replicate harts None) [] inside in
          let y : yields_of (directory_at_start harts pages) page ≡ [] =
          unwrap_or-slice_get (replicate pages []) page [] ∙ get_or-replicate pages page [] [] inside in
          subst (λ z. AreFew z (yields_of (directory_at_start harts pages) page)) (sym r)
          (subst (λ z. AreFew (replicate harts None) z) (sym y) (nobody_few harts most));
    }

-- no other hart of the row stands against the mode, and none beyond it
none_against : (d : Directory) (h page : ℕ) (mode : Mode) → IsTrue (may_gain d h page mode) → (g : ℕ) → g < length d.wants → g ≢ h
    → conflict (Some mode) (held d.holders page g) ≡ false
none_against d h page mode allowed g l n =
    let both = both_true (is_none (clash_of d h page mode)) (nat_lt (strength (held d.holders page h)) (strength (Some mode))) allowed in
    let none : clash_of d h page mode ≡ None = is_none_so (clash_of d h page mode) both in
    let passes = none_passes (λ k. not (k == h) && conflict (Some mode) (held d.holders page k)) 0 (length d.wants) g none (omega arith) (omega (arith, l)) in
    other_test g h (conflict (Some mode) (held d.holders page g)) n passes

beyond : (d : Directory) (page g : ℕ) → IsDirectory d → page < length d.holders → length d.wants ≤ g → held d.holders page g ≡ None
beyond d page g sound l m = ap (λ o. unwrap_or o None) (slice_get_past (row d.holders page) g (omega (arith, m, row_size d page sound l)))

fits_gain : (d : Directory) (h page : ℕ) (mode : Mode) → IsDirectory d → page < length d.holders → IsTrue (may_gain d h page mode)
    → Fits d.holders page h (Some mode)
fits_gain d h page mode sound l allowed g n = elim (cases_lt g (length d.wants)) [
  | inl m ↦ none_against d h page mode allowed g m n
  | inr m ↦ ap (conflict (Some mode)) (beyond d page g sound l m)
]

-- the parts after a page's row, number and Yields changed
changed_directory : (d : Directory) (h page n : ℕ) (left : Option Mode) (ys : List WaitFor) → IsDirectory d → h < length d.wants → page < length d.holders
    → Fits d.holders page h left
    → AreFew (slice_set (row d.holders page) h left) ys
    → IsDirectory (record d { holders = with_held d.holders page h left; numbers = slice_set d.numbers page n; yields = slice_set d.yields page ys })
changed_directory d h page n left ys sound hl pl fits few =
    let size = row_size d page sound pl in
    record {
      crew = crew_after d.holders page h left sound.crew pl (omega (arith, hl, size)) fits;
      harts = sound.harts;
      rows = All-set (λ (holds : List (Option Mode)). length holds ≡ length d.wants) d.holders page (slice_set (row d.holders page) h left)
          (length-set (row d.holders page) h left ∙ size) sound.rows;
      numbers_size = length-set d.numbers page n ∙ sound.numbers_size ∙ sym (length-set d.holders page (slice_set (row d.holders page) h left));
      yields_size = length-set d.yields page ys ∙ sound.yields_size ∙ sym (length-set d.holders page (slice_set (row d.holders page) h left));
      few = λ q l.
          let inside : q < length d.holders = omega (arith, l, length-set d.holders page (slice_set (row d.holders page) h left)) in
          elim (cases_eq q page) [
            | inl e ↦
                let r : row (with_held d.holders page h left) q ≡ slice_set (row d.holders page) h left =
                ap (row (with_held d.holders page h left)) e ∙ row_here d.holders page h left pl in
                let y : unwrap_or (slice_get (slice_set d.yields page ys) q) [] ≡ ys =
                ap (λ k. unwrap_or (slice_get (slice_set d.yields page ys) k) []) e
                ∙ ap (λ o. unwrap_or o []) (set_here d.yields page ys (omega (arith, pl, sound.yields_size))) in
                subst (λ z. AreFew z (unwrap_or (slice_get (slice_set d.yields page ys) q) [])) (sym r)
                (subst (λ z. AreFew (slice_set (row d.holders page) h left) z) (sym y) few)
            | inr m ↦
                let y : unwrap_or (slice_get (slice_set d.yields page ys) q) [] ≡ yields_of d q = ap (λ o. unwrap_or o []) (set_there d.yields page q ys m) in
                subst (λ z. AreFew z (unwrap_or (slice_get (slice_set d.yields page ys) q) [])) (sym (row_there d.holders page q h left m))
                (subst (λ z. AreFew (row d.holders q) z) (sym y) (sound.few q inside))
          ];
    }

pub gained_directory : (d : Directory) (h page : ℕ) (mode : Mode) → IsDirectory d → h < length d.wants → page < length d.holders
    → IsTrue (may_gain d h page mode) → IsDirectory (gained d h page mode)
gained_directory d h page mode sound hl pl allowed =
    let size = row_size d page sound pl in
    let none : NoneAgainst (row d.holders page) h mode = λ g l n. none_against d h page mode allowed g (omega (arith, l, size)) n in
    let most = sound.harts in
    changed_directory d h page (slice_index d.numbers page + 1) (Some mode) [] sound hl pl (fits_gain d h page mode sound pl allowed)
    (few_gained mode (row d.holders page) h (omega (arith, size, most)) (omega (arith, hl, size)) none)

pub yielded_directory : (d : Directory) (h page count : ℕ) (left : Option Mode) → IsDirectory d → h < length d.wants → page < length d.holders
    → strength left < strength (held d.holders page h) → IsDirectory (yielded d h page count left)
yielded_directory d h page count left sound hl pl less =
    let size = row_size d page sound pl in
    changed_directory d h page (slice_index d.numbers page + 1) left (yields_of d page ++ record { hart = h; count = count } ∷ []) sound hl pl
    (λ g n. less_conflict left (held d.holders page h) (held d.holders page g) less (sound.crew page h g (λ e. n (sym e))))
    (few_yielded (row d.holders page) (yields_of d page) h count left (sound.few page pl) (omega (arith, hl, size)) less)

-- there is room for a Yield
pub room_to_yield : (d : Directory) (h page : ℕ) (left : Option Mode) → IsDirectory d → h < length d.wants → page < length d.holders
    → strength left < strength (held d.holders page h) → length (yields_of d page) < MAX_HARTS
room_to_yield d h page left sound hl pl less =
    let size = row_size d page sound pl in
    let few = (sound.few page pl).all in
    let w = weight-set (row d.holders page) h None (omega (arith, hl, size)) in
    omega (arith, few, w)

-- what a Gain and a Yield leave, by what was read and written in the parts
pub gained_view : (d e : Directory) (h page n : ℕ) (mode : Mode) (r r' : List (Option Mode)) (ys : List WaitFor) → d ≡ e → page < length d.holders
    → page < length d.numbers
    → r ≡ get_or d.holders page r → r' ≡ slice_set r h (Some mode) → n ≡ get_or d.numbers page n → ys ≡ []
    → record d { holders = slice_set d.holders page r'; numbers = slice_set d.numbers page (n + 1); yields = slice_set d.yields page ys } ≡ gained e h page mode
gained_view d e h page n mode r r' ys same pl nl read wrote number none =
    let row_is : row d.holders page ≡ r = was_read d.holders page r [] read pl in
    let number_is : n ≡ slice_index d.numbers page = number ∙ get_or_default_zero d.numbers page n nl in
    ap (λ z. record d { holders = slice_set d.holders page z; numbers = slice_set d.numbers page (n + 1); yields = slice_set d.yields page ys })
    (wrote ∙ ap (λ z. slice_set z h (Some mode)) (sym row_is))
    ∙ ap (λ z. record d {
      holders = with_held d.holders page h (Some mode);
      numbers = slice_set d.numbers page (z + 1);
      yields = slice_set d.yields page ys;
    }) number_is
    ∙ ap (λ z. record d {
      holders = with_held d.holders page h (Some mode);
      numbers = slice_set d.numbers page (slice_index d.numbers page + 1);
      yields = slice_set d.yields page z;
    }) none
    ∙ ap (λ z. gained z h page mode) same

pub yielded_view : (d e : Directory) (h page n count : ℕ) (left : Option Mode) (r r' : List (Option Mode)) (y ys : List WaitFor) → d ≡ e
    → page < length d.holders → page < length d.numbers → page < length d.yields
    → r ≡ get_or d.holders page r → r' ≡ slice_set r h left → n ≡ get_or d.numbers page n → y ≡ get_or d.yields page y
    → ys ≡ y ++ record { hart = h; count = count } ∷ []
    → record d { holders = slice_set d.holders page r'; numbers = slice_set d.numbers page (n + 1); yields = slice_set d.yields page ys }
    ≡ yielded e h page count left
yielded_view d e h page n count left r r' y ys same pl nl yl read wrote number told more =
    let row_is : row d.holders page ≡ r = was_read d.holders page r [] read pl in
    let yields_are : yields_of d page ≡ y = was_read d.yields page y [] told yl in
    let number_is : n ≡ slice_index d.numbers page = number ∙ get_or_default_zero d.numbers page n nl in
    ap (λ z. record d { holders = slice_set d.holders page z; numbers = slice_set d.numbers page (n + 1); yields = slice_set d.yields page ys })
    (wrote ∙ ap (λ z. slice_set z h left) (sym row_is))
    ∙ ap (λ z. record d {
      holders = with_held d.holders page h left;
      numbers = slice_set d.numbers page (z + 1);
      yields = slice_set d.yields page ys;
    }) number_is
    ∙ ap (λ z. record d {
      holders = with_held d.holders page h left;
      numbers = slice_set d.numbers page (slice_index d.numbers page + 1);
      yields = slice_set d.yields page z;
    })
    (more ∙ ap (λ z. z ++ record { hart = h; count = count } ∷ []) (sym yields_are))
    ∙ ap (λ z. yielded z h page count left) same
