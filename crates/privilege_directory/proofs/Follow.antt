-- The directory follows a log.
use Rattle.std.proofs.Common.{◌≡◌, inl, inr, ℕ, zero, suc, ◌+◌, ◌<◌, Bool, true, false, ◌&&◌, ◌==◌, not, List, [], ◌∷◌, ◌++◌, length, replicate, Option}
use Rattle.std.proofs.Common.{Some, None, slice_get, slice_index, slice_set, nat_le, nat_lt, is_none, unwrap_or, if◌then◌else◌, refl, ap, ◌∙◌, sym, subst}
use Rattle.std.proofs.Common.{arith, true≢false}
use Rattle.std.specs.Prelude.{IsTrue}
use Rattle.std.specs.List.{list_any}
use Rattle.std.specs.Option.{option_map_or}
use lib.Pointwise.{pointwise}
use Rattle.std.proofs.lemmas.Bool.{cases_eq, eqb-true, not-false, and_parts, or_parts, leb-false, lt-ltb}
use Rattle.std.proofs.lemmas.Bool.Decides.{eqb_tells}
use Rattle.std.proofs.lemmas.List.{length-set, length-replicate, get_or-set_other, get_or-replicate}
use Rattle.std.proofs.lemmas.Option.{same_Some, slice_get_within, get_or_from_slice_get, unwrap_or-slice_get}
use Rattle.shared_types.proofs.Lists.{set_here, set_there}
use Rattle.orders_law.specs.Orders.{Leads}
use Rattle.log_entry.specs.declared.waits.WaitFor.{WaitFor}
use Rattle.log_entry.specs.declared.log.Entry.{Entry}
use Rattle.log_entry.specs.declared.log.Entry.TheVariants.{Gain, Yield, Poll, Touch, End}
use Rattle.log_entry.specs.declared.log.Log.{Log}
use Rattle.log_entry.specs.Parts.{page_number, ordinal_of, holds_then, strength, conflict, units_of}
use Rattle.order_rules.specs.Places.{harts, entry_at, stream, numbered}
use Rattle.order_rules.specs.Rules.{waits_due, waits_after, same_wait, breaks_o6, breaks_o7, yields_after}
use Rattle.order_rules.specs.Rules as rules
use Rattle.order_rules.specs.Orderly.{Keeps, o5, o6, o7}
use Rattle.order_rules.specs.Cursor.{Cursor, start, take_one, guard_is_met}
use Rattle.order_rules.specs.Holders.{row, held}
use Rattle.order_rules.proofs.Numbers.{numbers_name, in_stream, kept_at}
use Rattle.order_rules.proofs.Takings.{took, number_met, met_by, numbers_by, guard_is, taken_is}
use Rattle.order_rules.proofs.Crew.{any_below}
use Rattle.order_rules.proofs.Follow.{still_follow}
use Rattle.privilege_directory.specs.Directory.{Directory, directory_at_start, clash_of, by_others, yields_of}
use Rattle.privilege_directory.specs.Laws.{left_by, left_by_all, directory_along, AreTaken, StandsAt, IsGiven, MayCall, IsNext, AlongOrders, GivesEntries}
use Rattle.privilege_directory.specs.Laws.{AllowsEntries}
use Rattle.privilege_directory.proofs.Holds.{others_and_one, others_and_own}
use Rattle.privilege_directory.proofs.Table.{held_of_nobody}
use Rattle.privilege_directory.proofs.FirstNumber.{none_from}
use Rattle.order_rules.proofs.Follow.{row_here, row_there}

-- what a Gain by g waits for after the entry by h
pub after_entry : (g h : ℕ) (e : Entry) (waits yields : List WaitFor) → waits ≡ by_others g yields
    → waits_after g waits (Some (h, e)) ≡ by_others g (yields_after h e yields)
after_entry g h (Gain count page seq mode ws) waits yields same = refl
after_entry g h (Poll count ord time bits) waits yields same = refl
after_entry g h (Touch count ord input) waits yields same = refl
after_entry g h (End count) waits yields same = refl
after_entry g h (Yield count page seq left) waits yields same = elim (eqb_tells h g) [
  | inl (t, e) ↦
      ap (λ b. if b then waits else waits ++ record { hart = h; count = count } ∷ []) t ∙ same
      ∙ subst (λ z. by_others z yields ≡ by_others z (yields ++ record { hart = h; count = count } ∷ [])) e (sym (others_and_own h count yields))
  | inr (f, n) ↦
      ap (λ b. if b then waits else waits ++ record { hart = h; count = count } ∷ []) f ∙ ap (λ ws. ws ++ record { hart = h; count = count } ∷ []) same
      ∙ sym (others_and_one h g count yields (λ e. n (sym e)))
]

-- of each page, the Yields that a Gain by any hart with its next number has to wait for, beside its own
abbrev pub AreAwaited : Log → List (List WaitFor) → List ℕ → Type 0
AreAwaited log yields numbers =
    (page h : ℕ) → page < length yields → waits_due log page h (slice_index numbers page) ≡ by_others h (unwrap_or (slice_get yields page) [])

on_page : (log : Log) (yields : List (List WaitFor)) (numbers : List ℕ) (h g page k : ℕ) (e : Entry) → numbered log page k ≡ Some (h, e)
    → slice_get numbers page ≡ Some k → AreAwaited log yields numbers → page < length yields
    → waits_due log page g (slice_index (slice_set numbers page (k + 1)) page)
    ≡ by_others g (unwrap_or (slice_get (slice_set yields page (yields_after h e (unwrap_or (slice_get yields page) []))) page) [])
on_page log yields numbers h g page k e is number follow l =
    let next : k + 1 ≡ suc k = omega arith in
    let now : slice_index (slice_set numbers page (k + 1)) page ≡ suc k =
    get_or_from_slice_get (slice_set numbers page (k + 1)) page (k + 1) 0 (set_here numbers page (k + 1) (slice_get_within numbers page k number)) ∙ next in
    let before : waits_due log page g k ≡ by_others g (unwrap_or (slice_get yields page) []) =
    ap (waits_due log page g) (sym (get_or_from_slice_get numbers page k 0 number)) ∙ follow page g l in
    ap (waits_due log page g) now ∙ ap (waits_after g (waits_due log page g k)) is
    ∙ after_entry g h e (waits_due log page g k) (unwrap_or (slice_get yields page) []) before
    ∙ ap (λ o. by_others g (unwrap_or o [])) (sym (set_here yields page (yields_after h e (unwrap_or (slice_get yields page) [])) l))

-- so it stays where a hart takes the entry of a page with the page's next number
still_awaited : (log : Log) (yields : List (List WaitFor)) (numbers : List ℕ) (h i page k : ℕ) (e : Entry) → Keeps log o5 → entry_at log h i ≡ Some e
    → page_number e ≡ Some (page, k)
    → slice_get numbers page ≡ Some k → AreAwaited log yields numbers
    → AreAwaited log (slice_set yields page (yields_after h e (unwrap_or (slice_get yields page) []))) (slice_set numbers page (k + 1))
still_awaited log yields numbers h i page k e kept at is number follow q g l =
    let inside : q < length yields = omega (arith, l, length-set yields page (yields_after h e (unwrap_or (slice_get yields page) []))) in
    elim (cases_eq q page) [
      | inl same ↦
          subst (λ z. waits_due log z g (slice_index (slice_set numbers page (k + 1)) z)
          ≡ by_others g (unwrap_or (slice_get (slice_set yields page (yields_after h e (unwrap_or (slice_get yields page) []))) z) [])) (sym same)
          (on_page log yields numbers h g page k e (numbers_name log h i page k e kept at is) number follow (subst (λ z. z < length yields) same inside))
      | inr n ↦
          ap (waits_due log q g) (get_or-set_other numbers page q (k + 1) 0 n) ∙ follow q g inside
          ∙ ap (λ o. by_others g (unwrap_or o [])) (sym (set_there yields page q (yields_after h e (unwrap_or (slice_get yields page) [])) n))
    ]

-- the parts are of one board
pub record IsOf (harts pages : ℕ) (d : Directory) : Type 0 where
  pub holders : length d.holders ≡ pages
  pub rows : (page : ℕ) → page < pages → length (row d.holders page) ≡ harts
  pub numbers : length d.numbers ≡ pages
  pub yields : length d.yields ≡ pages
  pub wants : length d.wants ≡ harts

-- a directory after a call for an entry of the page with this number
abbrev pub after : Directory → ℕ → Entry → ℕ → ℕ → Directory
after d h e page k = record d {
  holders = slice_set d.holders page (slice_set (row d.holders page) h (holds_then e));
  numbers = slice_set d.numbers page (k + 1);
  yields = slice_set d.yields page (yields_after h e (yields_of d page));
}

left_is : (d : Directory) (h : ℕ) (e : Entry) (page k : ℕ) → page_number e ≡ Some (page, k) → slice_index d.numbers page ≡ k
    → left_by d h e ≡ after d h e page k
left_is d h (Gain count p seq mode waits) page k is number =
    let same : p ≡ page = ap (λ (z : Option (ℕ × ℕ)). (unwrap_or z (0, 0)).0) is in
    ap (λ q. left_by d h (Gain count q seq mode waits)) same
    ∙ ap (λ n. record d {
      holders = slice_set d.holders page (slice_set (row d.holders page) h (Some mode));
      numbers = slice_set d.numbers page (n + 1);
      yields = slice_set d.yields page [];
    }) number
left_is d h (Yield count p seq left) page k is number =
    let same : p ≡ page = ap (λ (z : Option (ℕ × ℕ)). (unwrap_or z (0, 0)).0) is in
    ap (λ q. left_by d h (Yield count q seq left)) same
    ∙ ap (λ n. record d {
      holders = slice_set d.holders page (slice_set (row d.holders page) h left);
      numbers = slice_set d.numbers page (n + 1);
      yields = slice_set d.yields page (yields_of d page ++ record { hart = h; count = count } ∷ []);
    }) number
left_is d h (Poll count ord time bits) page k is number = let bad : ⊥ = cc in absurd bad
left_is d h (Touch count ord input) page k is number = let bad : ⊥ = cc in absurd bad
left_is d h (End count) page k is number = let bad : ⊥ = cc in absurd bad

untouched : (d : Directory) (h : ℕ) (e : Entry) → page_number e ≡ None → left_by d h e ≡ d
untouched d h (Gain count p seq mode waits) is = let bad : ⊥ = cc in absurd bad
untouched d h (Yield count p seq left) is = let bad : ⊥ = cc in absurd bad
untouched d h (Poll count ord time bits) is = refl
untouched d h (Touch count ord input) is = refl
untouched d h (End count) is = refl

of_board_after : (harts pages : ℕ) (d : Directory) (h : ℕ) (e : Entry) (page k : ℕ) → page < pages → IsOf harts pages d → IsOf harts pages (after d h e page k)
of_board_after harts pages d h e page k l of =
    let there : page < length d.holders = let size = of.holders in omega (arith, size, l) in
    record {
      holders = length-set d.holders page (slice_set (row d.holders page) h (holds_then e)) ∙ of.holders;
      rows = λ q m. elim (cases_eq q page) [
        | inl same ↦ ap length (ap (row (after d h e page k).holders) same ∙ row_here d.holders page h (holds_then e) there)
            ∙ length-set (row d.holders page) h (holds_then e) ∙ of.rows page l
        | inr n ↦ ap length (row_there d.holders page q h (holds_then e) n) ∙ of.rows q m
      ];
      numbers = length-set d.numbers page (k + 1) ∙ of.numbers;
      yields = length-set d.yields page (yields_after h e (yields_of d page)) ∙ of.yields;
      wants = of.wants;
    }

-- a directory of the log's board that stands at a cursor
pub record Is (log : Log) (c : Cursor) (d : Directory) : Type 0 where
  pub of : IsOf (length log.streams) (units_of log) d
  pub stands : StandsAt log c d

-- the number of a page's entry that can be taken is the directory's next
next_number : (log : Log) (c : Cursor) (d : Directory) (e : Entry) (page k : ℕ) → StandsAt log c d → page_number e ≡ Some (page, k) → guard_is_met c e ≡ true
    → slice_get d.numbers page ≡ Some k
next_number log c d e page k stands is met =
    ap (λ ns. slice_get ns page) stands.numbers
    ∙ number_met k (slice_get c.numbers page) (sym (guard_is c e ∙ ap (λ p. met_by p (ordinal_of e) c.numbers c.ordinal) is) ∙ met)

-- what a hart takes
pub record Takes (log : Log) (c m : Cursor) (h : ℕ) (e : Entry) : Type 0 where
  pub place : ℕ
  pub at : entry_at log h place ≡ Some e
  pub met : guard_is_met c e ≡ true
  pub numbers : m.numbers ≡ numbers_by (page_number e) c.numbers

takes_there : (log : Log) (c m : Cursor) (h i : ℕ) → take_one log h c ≡ Some (m, i) → (e : Entry) × (entry_at log h i ≡ Some e) × Takes log c m h e
takes_there log c m h i step =
    let t = took log h c m i step in
    let at : entry_at log h i ≡ Some t.entry = ap (entry_at log h) (sym t.place) ∙ t.first in
    (t.entry, at, record { place = i; at = at; met = t.guard; numbers = ap (λ (z : Cursor). z.numbers) (sym t.cursor ∙ taken_is c h t.entry) })

hart_within : (log : Log) (h i : ℕ) (e : Entry) → entry_at log h i ≡ Some e → h < length log.streams
hart_within log h i e at = slice_get_within log.streams h (stream log h) (in_stream log h i e at)

-- it still stands where the cursor does once a hart took an entry and its call was made
goes_on : (log : Log) (c m : Cursor) (d : Directory) (h : ℕ) (e : Entry) → Keeps log o5 → Takes log c m h e → Is log c d → Is log m (left_by d h e)
goes_on log c m d h e kept t is = by (page_number e) refl
  where
    by : (o : Option (ℕ × ℕ)) → page_number e ≡ o → Is log m (left_by d h e)
    by None none =
        subst (Is log m) (sym (untouched d h e none)) (record {
          of = is.of;
          stands = record {
            numbers = is.stands.numbers ∙ sym (t.numbers ∙ ap (λ p. numbers_by p c.numbers) none);
            holders = is.stands.holders;
            waits = is.stands.waits;
          };
        })
    by (Some (page, k)) some =
        let number : slice_get d.numbers page ≡ Some k = next_number log c d e page k is.stands some t.met in
        let low : page < length d.numbers = slice_get_within d.numbers page k number in
        let numbers = is.of.numbers in
        let holders = is.of.holders in
        let inside : page < units_of log = omega (arith, low, numbers) in
        let hart = hart_within log h t.place e t.at in
        let wide = is.of.rows page inside in
        subst (Is log m) (sym (left_is d h e page k some (get_or_from_slice_get d.numbers page k 0 number))) (record {
          of = of_board_after (length log.streams) (units_of log) d h e page k inside is.of;
          stands = record {
            numbers = ap (λ ns. slice_set ns page (k + 1)) is.stands.numbers ∙ sym (t.numbers ∙ ap (λ p. numbers_by p c.numbers) some);
            holders = still_follow log d.holders d.numbers h t.place page k e kept t.at some number (omega (arith, inside, holders))
                (omega (arith, hart, wide)) is.stands.holders;
            waits = still_awaited log d.yields d.numbers h t.place page k e kept t.at some number is.stands.waits;
          };
        })

pub number_at_start : (pages page : ℕ) → slice_index (replicate pages 0) page ≡ 0
number_at_start zero page = refl
number_at_start (suc n) zero = refl
number_at_start (suc n) (suc i) = number_at_start n i

yields_at_start : (pages page : ℕ) → unwrap_or (slice_get {X = List WaitFor} (replicate pages []) page) [] ≡ []
yields_at_start zero page = refl
yields_at_start (suc n) zero = refl
yields_at_start (suc n) (suc i) = yields_at_start n i

begins : (log : Log) → Is log (start log) (directory_at_start (length log.streams) (units_of log))
begins log =
    let pages = units_of log in
    let harts = length log.streams in
    record {
      of = record {
        holders = length-replicate pages (replicate harts None);
        rows = λ page l. ap length
            (unwrap_or-slice_get (replicate pages (replicate harts None)) page [] ∙ get_or-replicate pages page (replicate harts None) [] l)
            ∙ length-replicate harts None;
        numbers = length-replicate pages 0;
        yields = length-replicate pages [];
        wants = length-replicate harts None;
      };
      stands = record {
        numbers = refl;
        holders = λ page h. held_of_nobody pages harts page h ∙ sym (ap (rules.held log page h) (number_at_start pages page));
        waits = λ page h l. ap (waits_due log page h) (number_at_start pages page) ∙ sym (ap (by_others h) (yields_at_start pages page));
      };
    }

all_along : (log : Log) (order : List (ℕ × ℕ)) (s t : Cursor) (d : Directory) → Keeps log o5 → Leads (take_one log) s order t → Is log s d
    → Is log t (left_by_all log d order)
all_along log [] s t d kept leads is = subst (λ z. Is log z d) leads is
all_along log (x ∷ xs) s t d kept leads is =
    let m = leads.0 in
    let step = leads.1 in
    let rest = leads.2 in
    let e = takes_there log s m x.0 x.1 step in
    let then_is = all_along log xs m t (left_by d x.0 e.0) kept rest (goes_on log s m d x.0 e.0 kept e.2 is) in
    subst (λ (o : Option Entry). Is log t (left_by_all log (option_map_or (left_by d x.0) o d) xs)) (sym e.1) then_is

pub along : (log : Log) (order : List (ℕ × ℕ)) (c : Cursor) → Keeps log o5 → AreTaken log order c → Is log c (directory_along log order)
along log order c kept leads = all_along log order (start log) c (directory_at_start (length log.streams) (units_of log)) kept leads (begins log)

pub along_orders : AlongOrders
along_orders log order c kept leads = (along log order c kept leads).stands

-- an entry that is next can be taken
takes_next : (log : Log) (order : List (ℕ × ℕ)) (h : ℕ) (e : Entry) → (n : IsNext log order h e) → Takes log n.before n.after h e
takes_next log order h e n =
    let t = takes_there log n.before n.after h n.place n.next in
    subst (Takes log n.before n.after h) (same_Some _ _ (sym t.1 ∙ n.entry)) t.2

same_waits : (xs ys : List WaitFor) → pointwise same_wait xs ys ≡ true → xs ≡ ys
same_waits [] [] t = refl
same_waits [] (y ∷ ys) t = absurd (true≢false (sym t))
same_waits (x ∷ xs) [] t = absurd (true≢false (sym t))
same_waits (x ∷ xs) (y ∷ ys) t =
    let both = and_parts (same_wait x y) (pointwise same_wait xs ys) t in
    let parts = and_parts (x.hart == y.hart) (x.count == y.count) both.0 in
    let hart : x.hart ≡ y.hart = eqb-true x.hart y.hart parts.0 in
    let count : x.count ≡ y.count = eqb-true x.count y.count parts.1 in
    let first : x ≡ y = (λ i. record { hart = hart i; count = count i }) in
    ap (λ z. z ∷ xs) first ∙ ap (λ zs. y ∷ zs) (same_waits xs ys both.1)

given : (log : Log) (c : Cursor) (d : Directory) (h i : ℕ) (e : Entry) → Is log c d → Keeps log o7 → entry_at log h i ≡ Some e → guard_is_met c e ≡ true
    → IsGiven d h e
given log c d h i (Gain count page seq mode waits) is kept at met =
    let number = next_number log c d (Gain count page seq mode waits) page seq is.stands refl met in
    let same = get_or_from_slice_get d.numbers page seq 0 number in
    let low = slice_get_within d.numbers page seq number in
    let numbers = is.of.numbers in
    let yields = is.of.yields in
    let due : waits_due log page h seq ≡ by_others h (yields_of d page) =
    ap (waits_due log page h) (sym same) ∙ is.stands.waits page h (omega (arith, low, numbers, yields)) in
    let named = same_waits waits.items (waits_due log page h seq) (not-false _ (kept_at log (breaks_o7 log) h i (Gain count page seq mode waits) kept at)) in
    (same, sym (named ∙ due))
given log c d h i (Yield count page seq left) is kept at met =
    get_or_from_slice_get d.numbers page seq 0 (next_number log c d (Yield count page seq left) page seq is.stands refl met)
given log c d h i (Poll count ord time bits) is kept at met = tt
given log c d h i (Touch count ord input) is kept at met = tt
given log c d h i (End count) is kept at met = tt

pub gives_entries : GivesEntries
gives_entries log order h e five seven n =
    let t = takes_next log order h e n in
    given log n.before (directory_along log order) h t.place e (along log order n.before five n.taken) seven t.at t.met

both_hold : (a b : Bool) → a ≡ true → b ≡ true → IsTrue (a && b)
both_hold true true s t = refl
both_hold true false s t = absurd (true≢false (sym t))
both_hold false b s t = absurd (true≢false (sym s))

allowed : (log : Log) (c : Cursor) (d : Directory) (h i : ℕ) (e : Entry) → Is log c d → Keeps log o6 → entry_at log h i ≡ Some e → guard_is_met c e ≡ true
    → MayCall d h e
allowed log c d h i (Gain count page seq mode waits) is kept at met =
    let number = get_or_from_slice_get d.numbers page seq 0 (next_number log c d (Gain count page seq mode waits) page seq is.stands refl met) in
    let holds = λ (g : ℕ). is.stands.holders page g ∙ ap (rules.held log page g) number in
    let parts = or_parts (nat_le (strength (Some mode)) (strength (rules.held log page h seq)))
    (list_any (λ g. not (g == h) && conflict (Some mode) (rules.held log page g seq)) (harts log))
    (kept_at log (breaks_o6 log) h i (Gain count page seq mode waits) kept at) in
    let more : nat_lt (strength (held d.holders page h)) (strength (Some mode)) ≡ true =
    lt-ltb _ _ (subst (λ z. strength z < strength (Some mode)) (sym (holds h))
    (leb-false (strength (Some mode)) (strength (rules.held log page h seq)) parts.0)) in
    let none : clash_of d h page mode ≡ None =
    none_from (λ g. not (g == h) && conflict (Some mode) (held d.holders page g)) 0 (length d.wants) (λ g l m.
    ap (λ z. not (g == h) && conflict (Some mode) z) (holds g)
    ∙ any_below (λ g. not (g == h) && conflict (Some mode) (rules.held log page g seq)) (length log.streams) parts.1 g
    (let wants = is.of.wants in omega (arith, m, wants))) in
    both_hold (is_none (clash_of d h page mode)) (nat_lt (strength (held d.holders page h)) (strength (Some mode))) (ap is_none none) more
allowed log c d h i (Yield count page seq left) is kept at met =
    let number = get_or_from_slice_get d.numbers page seq 0 (next_number log c d (Yield count page seq left) page seq is.stands refl met) in
    let holds : held d.holders page h ≡ rules.held log page h seq = is.stands.holders page h ∙ ap (rules.held log page h) number in
    subst (λ z. strength left < strength z) (sym holds) (leb-false _ _ (kept_at log (breaks_o6 log) h i (Yield count page seq left) kept at))
allowed log c d h i (Poll count ord time bits) is kept at met = tt
allowed log c d h i (Touch count ord input) is kept at met = tt
allowed log c d h i (End count) is kept at met = tt

pub allows_entries : AllowsEntries
allows_entries log order h e five six n =
    let t = takes_next log order h e n in
    allowed log n.before (directory_along log order) h t.place e (along log order n.before five n.taken) six t.at t.met
