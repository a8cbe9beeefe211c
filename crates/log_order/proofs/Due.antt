-- Along a stream whose counts don't fall, the least multiple of `poll_distance` without a Poll so far tells where O3 is first broken.
use Rattle.std.proofs.Common.{◌≡◌, ℕ, suc, ◌+◌, ◌-◌, ◌*◌, ◌/◌, ◌<◌, ◌≤◌, Bool, true, false, cond, List, [], ◌∷◌, length, take, Option, Some, refl, sym, ap}
use Rattle.std.proofs.Common.{◌∙◌, subst, inl, inr, ◌⊎◌, arith, eq-or-lt_of_le, le_of_suc-le-suc}
use Rattle.std.specs.Prelude.{◌&&◌, ◌||◌, not, nat_le, nat_lt, slice_get, ◌==◌}
use Rattle.std.specs.List.{list_any, list_all}
use Rattle.std.specs.Option.{option_map_or}
use Rattle.std.proofs.lemmas.Bool.{cases_lt, and_from, and_parts, and_left, and_right, or_parts, or_left, or_right, eqb-true, ne_eqb, leb-true, le-leb}
use Rattle.std.proofs.lemmas.Bool.{ltb-false, lt-ltb, le-ltb}
use Rattle.std.proofs.lemmas.Option.{slice_get_within, same_Some}
use Rattle.rv_words.specs.Limits.{poll_distance}
use Rattle.log_entry.specs.declared.log.Entry.{Entry}
use Rattle.log_entry.specs.Parts.{count_of, is_poll, is_some_and}
use Rattle.order_rules.specs.Rules.{end_count, has_poll, polls_due}
use Rattle.log_order.specs.InStream.{NoFall, o3_in, may_poll_in, polls_wrongly, due_after}
use Rattle.shared_types.proofs.Lists.{any_there, none_there, all_at, get_take}
use Rattle.log_order.proofs.Lists.{all_in_take, any_below, none_below}
use Rattle.log_order.proofs.Steps.{at_place, lower}

-- counts don't fall from one place to a later one
pub rises_to : (s : List Entry) → NoFall s → (i j : ℕ) (x y : Entry) → i < j → slice_get s i ≡ Some x → slice_get s j ≡ Some y → count_of x ≤ count_of y
rises_to s n i j x y l f g =
    leb-true (count_of x) (count_of y) (all_at (λ z. nat_le (count_of z) (count_of y)) (take j s) i x (lower s n j y g) (get_take s j i l ∙ f))

-- and to the last
pub to_the_end : (s : List Entry) → NoFall s → (i : ℕ) (x : Entry) → slice_get s i ≡ Some x → count_of x ≤ end_count s
to_the_end [] n i x f = absurd (let l = slice_get_within [] i x f in omega (arith, l))
to_the_end (z ∷ s) n i x f =
    let l = slice_get_within (z ∷ s) i x f in
    let m : length (z ∷ s) - 1 < length (z ∷ s) = omega (arith, l) in
    let last = at_place (z ∷ s) (length (z ∷ s) - 1) m in
    let end : end_count (z ∷ s) ≡ count_of last.entry = ap (λ (o : Option Entry). option_map_or count_of o 0) last.got in
    elim (cases_lt i (length (z ∷ s) - 1)) [
      | inl less ↦ let r = rises_to (z ∷ s) n i (length (z ∷ s) - 1) x last.entry less f last.got in omega (arith, r, end)
      | inr past ↦
          let same : i ≡ length (z ∷ s) - 1 = omega (arith, l, past) in
          let one : x ≡ last.entry = same_Some _ _ (sym f ∙ ap (slice_get (z ∷ s)) same ∙ last.got) in
          let c : count_of x ≡ count_of last.entry = ap count_of one in
          omega (arith, c, end)
    ]

-- the state of the walk before a place
pub record IsDue (s : List Entry) (i due : ℕ) : Type 0 where
  pub number : ℕ
  pub multiple : due ≡ number * poll_distance
  pub bound : due ≤ end_count s + poll_distance
  pub low : (j : ℕ) (y : Entry) → j < i → slice_get s j ≡ Some y → count_of y ≤ due
  pub had : (k : ℕ) → k < number → has_poll s (k * poll_distance) ≡ true
  pub lacks : (j : ℕ) (y : Entry) → j < i → slice_get s j ≡ Some y → (is_poll y && (count_of y == due)) ≡ false

pub begins : (s : List Entry) → IsDue s 0 0
begins s = record {
  number = 0;
  multiple = refl;
  bound = omega arith;
  low = λ j y l at. absurd (omega (arith, l));
  had = λ k l. absurd (omega (arith, l));
  lacks = λ j y l at. absurd (omega (arith, l));
}

abbrev is_missed : List Entry → ℕ → Entry → ℕ → Bool
is_missed s i x due = not (has_poll s due) && (nat_lt due (count_of x) && list_all (λ e. nat_le (count_of e) due) (take i s))

missed : (s : List Entry) → NoFall s → (i due : ℕ) (x : Entry) → IsDue s i due → slice_get s i ≡ Some x → due < count_of x → is_missed s i x due ≡ true
missed s n i due x d at less =
    let none : has_poll s due ≡ false = none_there (λ e. is_poll e && (count_of e == due)) s (λ j y f. elim (cases_lt j i) [
      | inl before ↦ d.lacks j y before f
      | inr after ↦ and_right (is_poll y) (count_of y == due) (ne_eqb (count_of y) due (λ same. later j y f after same))
    ]) in
    and_from (not (has_poll s due)) (nat_lt due (count_of x) && list_all (λ e. nat_le (count_of e) due) (take i s))
    (ap not none)
    (and_from (nat_lt due (count_of x)) (list_all (λ e. nat_le (count_of e) due) (take i s)) (lt-ltb due (count_of x) less)
    (all_in_take (λ e. nat_le (count_of e) due) s i (λ j y l f. le-leb (count_of y) due (d.low j y l f))))
  where
    above : (j : ℕ) (y : Entry) → slice_get s j ≡ Some y → i ≤ j → count_of x ≤ count_of y
    above j y f after = elim (eq-or-lt_of_le after) [
      | inl same ↦ let one : count_of x ≡ count_of y = ap count_of (same_Some x y (sym at ∙ ap (slice_get s) same ∙ f)) in omega (arith, one)
      | inr l ↦ rises_to s n i j x y l at f
    ]

    later : (j : ℕ) (y : Entry) → slice_get s j ≡ Some y → i ≤ j → count_of y ≡ due → ⊥
    later j y f after same = let up = above j y f after in omega (arith, up, same, less)

not_missed : (s : List Entry) (i due : ℕ) (x : Entry) → IsDue s i due → count_of x ≤ due → (k : ℕ) → is_missed s i x (k * poll_distance) ≡ false
not_missed s i due x d le k =
    let whole = d.multiple in
    elim (cases_lt k d.number) [
      | inl less ↦
          and_left (not (has_poll s (k * poll_distance)))
          (nat_lt (k * poll_distance) (count_of x) && list_all (λ e. nat_le (count_of e) (k * poll_distance)) (take i s)) (ap not (d.had k less))
      | inr more ↦
          and_right (not (has_poll s (k * poll_distance)))
          (nat_lt (k * poll_distance) (count_of x) && list_all (λ e. nat_le (count_of e) (k * poll_distance)) (take i s))
          (and_left (nat_lt (k * poll_distance) (count_of x)) (list_all (λ e. nat_le (count_of e) (k * poll_distance)) (take i s))
          (le-ltb (k * poll_distance) (count_of x) (omega (arith, whole, more, le))))
    ]

ends_true : (a b : Bool) → b ≡ true → (a || b) ≡ true
ends_true a b t = or_right a b t

-- where no place before breaks O3, this place does exactly where the walk says so
pub o3_by_due : (limit : ℕ) (s : List Entry) → NoFall s → (i due : ℕ) (x : Entry) → IsDue s i due → slice_get s i ≡ Some x
    → o3_in limit s i ≡ polls_wrongly limit (end_count s) due x
o3_by_due limit s n i due x d at =
    let bad : Bool = is_poll x && not (may_poll_in limit (end_count s) (count_of x)) in
    let open_up : o3_in limit s i ≡ (bad || list_any (is_missed s i x) (polls_due (end_count s))) =
    ap (λ (o : Option Entry). is_some_and o
    (λ z. (is_poll z && not (may_poll_in limit (end_count s) (count_of z))) || list_any (is_missed s i z) (polls_due (end_count s)))) at in
    open_up ∙ elim (cases_lt due (count_of x)) [
      | inl less ↦
          let whole = d.multiple in
          let end = to_the_end s n i x at in
          let within : d.number < (end_count s + (poll_distance - 1)) / poll_distance = omega (arith, whole, end, less) in
          let any : list_any (is_missed s i x) (polls_due (end_count s)) ≡ true =
          any_below (λ (k : ℕ). k * poll_distance) (is_missed s i x) ((end_count s + (poll_distance - 1)) / poll_distance) d.number within
          (ap (is_missed s i x) (sym d.multiple) ∙ missed s n i due x d at less) in
          or_right bad (list_any (is_missed s i x) (polls_due (end_count s))) any ∙ sym (or_left (nat_lt due (count_of x)) bad (lt-ltb due (count_of x) less))
      | inr le ↦
          let none : list_any (is_missed s i x) (polls_due (end_count s)) ≡ false =
          none_below (λ (k : ℕ). k * poll_distance) (is_missed s i x) ((end_count s + (poll_distance - 1)) / poll_distance)
          (λ k l. not_missed s i due x d le k) in
          ap (λ b. bad || b) none ∙ turned bad ∙ ap (λ b. b || bad) (sym (le-ltb due (count_of x) le))
    ]
  where
    turned : (b : Bool) → (b || false) ≡ (false || b)
    turned true = refl
    turned false = refl

at_or_before : (i j : ℕ) → j < i + 1 → (j ≡ i) ⊎ (j < i)
at_or_before i j l = let m : j < suc i = omega (arith, l) in eq-or-lt_of_le (le_of_suc-le-suc m)

pub due_step : (limit : ℕ) (s : List Entry) → NoFall s → (i due : ℕ) (x : Entry) → IsDue s i due → slice_get s i ≡ Some x
    → polls_wrongly limit (end_count s) due x ≡ false → IsDue s (i + 1) (due_after due x)
due_step limit s n i due x d at right = by (is_poll x && (count_of x == due)) refl
  where
    le : count_of x ≤ due
    le = ltb-false due (count_of x) (or_parts (nat_lt due (count_of x)) (is_poll x && not (may_poll_in limit (end_count s) (count_of x))) right).0

    here : (j : ℕ) (y : Entry) → j ≡ i → slice_get s j ≡ Some y → y ≡ x
    here j y same f = same_Some y x (sym f ∙ ap (slice_get s) same ∙ at)

    low : (j : ℕ) (y : Entry) → j < i + 1 → slice_get s j ≡ Some y → count_of y ≤ due
    low j y l f = elim (at_or_before i j l) [
      | inl same ↦ let c = ap count_of (here j y same f) in omega (arith, c, le)
      | inr less ↦ d.low j y less f
    ]

    multiple : due ≡ d.number * poll_distance
    multiple = d.multiple

    polled : (is_poll x && (count_of x == due)) ≡ true → (k : ℕ) → k < d.number + 1 → has_poll s (k * poll_distance) ≡ true
    polled b k l = elim (at_or_before d.number k l) [
      | inl same ↦
          let there : has_poll s due ≡ true = any_there (λ e. is_poll e && (count_of e == due)) s i x at b in
          let whole : due ≡ k * poll_distance = omega (arith, multiple, same) in
          subst (λ (m : ℕ). has_poll s m ≡ true) whole there
      | inr less ↦ d.had k less
    ]

    by : (b : Bool) → (is_poll x && (count_of x == due)) ≡ b → IsDue s (i + 1) (due_after due x)
    by true b =
        let next : due_after due x ≡ due + poll_distance = ap (λ c. cond c (due + poll_distance) due) b in
        let same = eqb-true (count_of x) due (and_parts (is_poll x) (count_of x == due) b).1 in
        let end = to_the_end s n i x at in
        let z : IsDue s (i + 1) (due + poll_distance) = record {
          number = d.number + 1;
          multiple = omega (arith, multiple);
          bound = omega (arith, same, end);
          low = λ j y l f. (let m = low j y l f in omega (arith, m));
          had = polled b;
          lacks = λ j y l f. and_right (is_poll y) (count_of y == due + poll_distance)
              (ne_eqb (count_of y) (due + poll_distance) (λ e. (let m = low j y l f in omega (arith, m, e))));
        } in
        subst (λ (m : ℕ). IsDue s (i + 1) m) (sym next) z
    by false b =
        let next : due_after due x ≡ due = ap (λ c. cond c (due + poll_distance) due) b in
        let z : IsDue s (i + 1) due = record {
          number = d.number;
          multiple = d.multiple;
          bound = d.bound;
          low = low;
          had = d.had;
          lacks = λ j y l f. elim (at_or_before i j l) [
            | inl same ↦ ap (λ (e : Entry). is_poll e && (count_of e == due)) (here j y same f) ∙ b
            | inr less ↦ d.lacks j y less f
          ];
        } in
        subst (λ (m : ℕ). IsDue s (i + 1) m) (sym next) z
