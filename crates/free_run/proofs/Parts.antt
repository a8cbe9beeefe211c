-- A run that is a hart's part of a board, and one that is the part on record.
use Rattle.std.proofs.Common.{◌≡◌, inl, inr, ◌≢◌, ℕ, zero, suc, ◌*◌, ◌<◌, ◌≤◌, List, [], ◌∷◌, ◌++◌, map, length, slice_get, Option, Some}
use Rattle.std.proofs.Common.{None, unwrap_or}
use Rattle.std.proofs.Common.{refl, sym, ap, ap₂, ◌∙◌, subst, arith, option_map, eq-or-lt_of_le, le_of_suc-le-suc}
use Rattle.std.specs.Prelude.{IsSome}
use Rattle.std.proofs.lemmas.Bool.{cases_lt}
use Rattle.std.proofs.lemmas.List.{length-map}
use Rattle.std.proofs.lemmas.Option.{none-some, same_Some, get_or_from_slice_get, slice_get_past, slice_get_within}
use Rattle.shared_types.proofs.Lists.{get_map}
use Rattle.rv_words.specs.Limits.{IsUnit, page_bytes}
use Rattle.rv_words.specs.declared.shared.Mode.{Mode}
use Rattle.guest_pages.specs.Pages.{bytes_of, page_of}
use Rattle.orders_law.specs.Orders.{below}
use Rattle.orders_law.proofs.Below.{length_below}
use Rattle.order_rules.specs.Holders.{held}
use Rattle.flat_machine.specs.State.{FlatState}
use Rattle.replay_model.specs.State.{Replay}
use Rattle.run_model.specs.Run.{Run, hold_of}
use Rattle.run_model.specs.Agreement.{Agrees}
use Rattle.run_model.specs.PagesHeld.{with_bytes}
use Rattle.turn_laws.proofs.Legs.{board_sound, reached_are_crew}
use Rattle.turn_table.specs.Passes.{ChangesOnly}
use Rattle.crew_parts.specs.Boards.{Plain, IsBoardOf, board_of, spent, state_of, terms_of}
use Rattle.crew_parts.specs.Parts.{Part, IsPart, part_of}
use Rattle.crew_parts.proofs.Laws.{parts_have_unit}
use Rattle.free_run.specs.Parts.{IsRunOf, page_held, parts_of}

-- ---- lists by place

push_at : {X : Type 0} (xs : List X) (x : X) → slice_get (xs ++ x ∷ []) (length xs) ≡ Some x
push_at [] x = refl
push_at (y ∷ ys) x = push_at ys x

push_before : {X : Type 0} (xs : List X) (x : X) (i : ℕ) → i < length xs → slice_get (xs ++ x ∷ []) i ≡ slice_get xs i
push_before [] x i l = absurd (omega (arith, l))
push_before (y ∷ ys) x zero l = refl
push_before (y ∷ ys) x (suc i) l = push_before ys x i (omega (arith, l))

below_here : (n i : ℕ) → i < n → slice_get (below n) i ≡ Some i
below_here zero i l = absurd (omega (arith, l))
below_here (suc n) i l = elim (eq-or-lt_of_le (le_of_suc-le-suc l)) [
  | inl same ↦ ap (slice_get (below n ++ n ∷ [])) (same ∙ sym (length_below n)) ∙ push_at (below n) n ∙ ap Some (sym same)
  | inr less ↦ push_before (below n) n i (let k = length_below n in omega (arith, less, k)) ∙ below_here n i less
]

pub each_here : {X : Type 0} (f : ℕ → X) (n i : ℕ) → i < n → slice_get (map f (below n)) i ≡ Some (f i)
each_here f n i l = get_map f (below n) i i (below_here n i l)

pub none_past : {X : Type 0} (f : ℕ → X) (n i : ℕ) → n ≤ i → slice_get (map f (below n)) i ≡ None
none_past f n i l = slice_get_past (map f (below n)) i (let k = length-map (below n) f in let j = length_below n in omega (arith, k, j, l))

-- ---- the parts of a board

pub parts_number : (p : Plain) → length (parts_of p) ≡ p.harts
parts_number p = length-map (below p.harts) (part_of p) ∙ length_below p.harts

pub part_there : (p : Plain) (h : ℕ) (x : Part) → slice_get (parts_of p) h ≡ Some x → (h < p.harts) × (x ≡ part_of p h)
part_there p h x at =
    let inside : h < p.harts = (let l = slice_get_within (parts_of p) h x at in let k = parts_number p in omega (arith, l, k)) in
    (inside, same_Some _ _ (sym at ∙ each_here (part_of p) p.harts h inside))

-- a board with the same number of harts, and the same parts of all but one
pub changes_only : (p q : Plain) (h : ℕ) → q.harts ≡ p.harts → ((g : ℕ) → g < p.harts → g ≢ h → part_of q g ≡ part_of p g)
    → ChangesOnly h (parts_of p) (parts_of q)
changes_only p q h harts others = record {
  count = parts_number q ∙ harts ∙ sym (parts_number p);
  others = λ k ne. elim (cases_lt k p.harts) [
    | inl less ↦
        each_here (part_of q) q.harts k (let e = harts in omega (arith, less, e)) ∙ ap Some (others k less ne)
        ∙ sym (each_here (part_of p) p.harts k less)
    | inr more ↦ none_past (part_of q) q.harts k (let e = harts in omega (arith, more, e)) ∙ sym (none_past (part_of p) p.harts k more)
  ];
}

-- ---- what is held of a page

mode_in : Option (Mode × List ℕ) → Option Mode
mode_in = option_map (λ x. x.0)

mode_with : (bytes : List ℕ) (hold : Option Mode) → mode_in (with_bytes bytes hold) ≡ hold
unfolding mode_in
mode_with bytes None = refl
mode_with bytes (Some mode) = refl

pub same_modes : (one other : List ℕ) (a b : Option Mode) → with_bytes one a ≡ with_bytes other b → a ≡ b
same_modes one other a b e = sym (mode_with one a) ∙ ap mode_in e ∙ mode_with other b

pub none_or_some : (hold : Option Mode) → hold ≡ None → IsSome hold → ⊥
none_or_some None e some = let bad : ⊥ = cc in bad
none_or_some (Some mode) e some = none-some mode (sym e)

pub same_bytes : (one other : List ℕ) (a b : Option Mode) → with_bytes one a ≡ with_bytes other b → IsSome b → one ≡ other
same_bytes one other a None e some = absurd (none_or_some None refl some)
same_bytes one other None (Some mode) e some = absurd (none-some _ e)
same_bytes one other (Some m) (Some mode) e some = ap (λ x. x.1) (same_Some _ _ e)

pub no_mode : (bytes : List ℕ) (hold : Option Mode) → None ≡ with_bytes bytes hold → hold ≡ None
unfolding mode_in
no_mode bytes hold e = sym (mode_with bytes hold) ∙ ap mode_in (sym e)

pub no_bytes : (bytes : List ℕ) (hold : Option Mode) → hold ≡ None → None ≡ with_bytes bytes hold
no_bytes bytes hold e = sym (ap (with_bytes bytes) e)

-- a table has nothing of pages that it hasn't
pub held_past : (s : Replay FlatState) (page h : ℕ) → length s.holders ≤ page → held s.holders page h ≡ None
held_past s page h l = ap (λ o. unwrap_or (slice_get (unwrap_or o []) h) None) (slice_get_past s.holders page l)

-- ---- a run that is a part, and one that is the part on record

pub part_on_record : (p : Plain) (h : ℕ) (r : Run) → IsBoardOf p → h < p.harts → IsPart p h r → IsRunOf (part_of p h) r
part_on_record p h r holds there part = record {
  hart = part.hart;
  count = get_or_from_slice_get (state_of p).flat.counts h r.count 0 part.count;
  pages = λ page. elim (cases_lt page (length (state_of p).holders)) [
    | inl less ↦ ap (λ o. unwrap_or o None) (each_here own (length (state_of p).holders) page less) ∙ within page
    | inr more ↦
        ap (λ o. unwrap_or o None) (none_past own (length (state_of p).holders) page more)
        ∙ no_bytes (bytes_of r.frames page) (hold_of r page) (sym (part.modes page) ∙ held_past (state_of p) page h more)
  ];
  harts = sym part.harts ∙ (reached_are_crew (terms_of p) p.image p.harts holds.reached.0 holds.whole refl (board_of p spent) holds.reached.1).0.harts_size;
  number = sym part.table ∙ (board_sound (terms_of p) p.image p.harts holds.reached.0 holds.whole refl (board_of p spent) holds.reached.1).table;
  unit = unit;
} where
  own : ℕ → Option (Mode × List ℕ)
  own page = with_bytes (page_of page_bytes (state_of p).flat.memory page) (held (state_of p).holders page h)

  unit : r.frames.unit ≡ page_bytes
  unit = parts_have_unit p h r holds.whole holds.reached there part

  within : (page : ℕ) → own page ≡ page_held r page
  within page =
      ap (with_bytes (page_of page_bytes (state_of p).flat.memory page)) (part.modes page)
      ∙ alike (hold_of r page) (λ some. ap (λ u. page_of u (state_of p).flat.memory page) (sym unit) ∙ part.bytes page some) where
        alike : (hold : Option Mode) → (IsSome hold → page_of page_bytes (state_of p).flat.memory page ≡ bytes_of r.frames page)
            → with_bytes (page_of page_bytes (state_of p).flat.memory page) hold ≡ with_bytes (bytes_of r.frames page) hold
        alike None same = refl
        alike (Some mode) same = ap (λ bytes. Some (mode, bytes)) (same refl)

-- where some run of the board agrees, the part's run does
agrees_by : (p : Plain) (h : ℕ) (r z : Run) → Agrees z h (state_of p) → z.frames.unit ≡ page_bytes → length (state_of p).flat.harts ≡ p.harts
    → length (state_of p).holders ≡ p.image.pages → IsRunOf (part_of p h) r → IsPart p h r
agrees_by p h r z a unit harts table is = record {
  unit_is = subst IsUnit (unit ∙ sym is.unit) a.unit_is;
  harts = harts ∙ sym is.harts;
  memory = a.memory ∙ ap₂ (λ k u. k * u) (sym a.table ∙ table ∙ sym is.number) (unit ∙ sym is.unit);
  table = table ∙ sym is.number;
  rows = a.rows;
  hart = is.hart;
  count = a.count ∙ ap Some (sym (get_or_from_slice_get (state_of p).flat.counts h z.count 0 a.count) ∙ is.count);
  modes = modes;
  bytes = λ page some. ap (λ u. page_of u (state_of p).flat.memory page) is.unit ∙ elim (cases_lt page (length (state_of p).holders)) [
    | inl less ↦
        same_bytes (page_of page_bytes (state_of p).flat.memory page) (bytes_of r.frames page) (held (state_of p).holders page h) (hold_of r page)
        (within page less) some
    | inr more ↦ absurd (none_or_some (hold_of r page) (sym (modes page) ∙ held_past (state_of p) page h more) some)
  ];
} where
  own : ℕ → Option (Mode × List ℕ)
  own page = with_bytes (page_of page_bytes (state_of p).flat.memory page) (held (state_of p).holders page h)

  within : (page : ℕ) → page < length (state_of p).holders
      → with_bytes (page_of page_bytes (state_of p).flat.memory page) (held (state_of p).holders page h) ≡ page_held r page
  within page less = sym (ap (λ o. unwrap_or o None) (each_here own (length (state_of p).holders) page less)) ∙ is.pages page

  modes : (page : ℕ) → held (state_of p).holders page h ≡ hold_of r page
  modes page = elim (cases_lt page (length (state_of p).holders)) [
    | inl less ↦
        same_modes (page_of page_bytes (state_of p).flat.memory page) (bytes_of r.frames page) (held (state_of p).holders page h) (hold_of r page)
        (within page less)
    | inr more ↦
        held_past (state_of p) page h more
        ∙ sym (no_mode (bytes_of r.frames page) (hold_of r page)
        (sym (ap (λ o. unwrap_or o None) (none_past own (length (state_of p).holders) page more)) ∙ is.pages page))
  ]

pub run_of_part : (p : Plain) (h : ℕ) (r : Run) → IsBoardOf p → h < p.harts → IsRunOf (part_of p h) r → IsPart p h r
run_of_part p h r holds there is =
    let sound = board_sound (terms_of p) p.image p.harts holds.reached.0 holds.whole refl (board_of p spent) holds.reached.1 in
    let crew = reached_are_crew (terms_of p) p.image p.harts holds.reached.0 holds.whole refl (board_of p spent) holds.reached.1 in
    let x = crew.3 h there in
    agrees_by p h r x.0 x.2.1 x.2.0 crew.0.harts_size sound.table is
