-- A run that is a hart's part of a board, and one that is the part on record.
use Rattle.std.proofs.Common.{◌≡◌, inl, inr, ◌≢◌, ℕ, ◌*◌, ◌<◌, List, length, slice_get, Option, Some, None, unwrap_or}
use Rattle.std.proofs.Common.{refl, sym, ap, ap₂, ◌∙◌, subst, arith}
use Rattle.std.specs.Prelude.{IsSome}
use Rattle.std.proofs.lemmas.Bool.{cases_lt}
use Rattle.std.proofs.lemmas.List.{length-map}
use Rattle.std.proofs.lemmas.Option.{same_Some, get_or_from_slice_get, slice_get_within}
use Rattle.rv_words.specs.Limits.{IsUnit}
use Rattle.rv_words.specs.declared.shared.Mode.{Mode}
use Rattle.guest_pages.specs.Pages.{bytes_of, page_of}
use Rattle.orders_law.specs.Orders.{below}
use Rattle.orders_law.proofs.Below.{length_below}
use Rattle.order_rules.specs.Holders.{held}
use Rattle.flat_machine.specs.State.{FlatState}
use Rattle.replay_model.specs.State.{Replay}
use Rattle.run_model.specs.Run.{Run, hold_of}
use Rattle.run_model.specs.Agreement.{Agrees}
use Rattle.run_model.specs.PagesHeld.{with_bytes}
use Rattle.log_entry.specs.Parts.{unit_of}
use Rattle.turn_table.specs.Passes.{ChangesOnly}
use Rattle.replay_law.proofs.Views.{shape_of, view, view_agrees}
use Rattle.replay_parts.specs.Boards.{Plain, state_of}
use Rattle.replay_parts.specs.Laws.{Reaches}
use Rattle.replay_parts.specs.Parts.{Part, IsPart, part_of}
use Rattle.replay_parts.proofs.Advancing.{goes_there, parts_have_unit}
use Rattle.free_run.specs.Parts.{page_held}
use Rattle.free_run.proofs.Parts.{each_here, none_past, same_modes, none_or_some, same_bytes, no_mode, no_bytes, held_past}
use Rattle.free_replay.specs.Parts.{IsRunOf, parts_of}

-- ---- the parts of a board

pub parts_number : (p : Plain) → length (parts_of p) ≡ length p.log.streams
parts_number p = length-map (below (length p.log.streams)) (part_of p) ∙ length_below (length p.log.streams)

pub part_here : (p : Plain) (h : ℕ) → h < length p.log.streams → slice_get (parts_of p) h ≡ Some (part_of p h)
part_here p h inside = each_here (part_of p) (length p.log.streams) h inside

pub part_there : (p : Plain) (h : ℕ) (x : Part) → slice_get (parts_of p) h ≡ Some x → (h < length p.log.streams) × (x ≡ part_of p h)
part_there p h x at =
    let inside : h < length p.log.streams = (let l = slice_get_within (parts_of p) h x at in let k = parts_number p in omega (arith, l, k)) in
    (inside, same_Some _ _ (sym at ∙ part_here p h inside))

-- a board with the same number of harts, and the same parts of all but one
pub changes_only : (p q : Plain) (h : ℕ) → length q.log.streams ≡ length p.log.streams
    → ((g : ℕ) → g < length p.log.streams → g ≢ h → part_of q g ≡ part_of p g) → ChangesOnly h (parts_of p) (parts_of q)
changes_only p q h harts others = record {
  count = parts_number q ∙ harts ∙ sym (parts_number p);
  others = λ k ne. elim (cases_lt k (length p.log.streams)) [
    | inl less ↦ part_here q k (let e = harts in omega (arith, less, e)) ∙ ap Some (others k less ne) ∙ sym (part_here p k less)
    | inr more ↦
        none_past (part_of q) (length q.log.streams) k (let e = harts in omega (arith, more, e))
        ∙ sym (none_past (part_of p) (length p.log.streams) k more)
  ];
}

-- ---- a run that is a part, and one that is the part on record

-- how large the state of a board is
module _ (p : Plain) (s : Replay FlatState) (reaches : Reaches p s) where
  harts_are : length (state_of p).flat.harts ≡ length p.log.streams
  harts_are = (goes_there p s reaches).good.sound.sized.harts_size

  table_is : length (state_of p).holders ≡ p.image.pages
  table_is = (goes_there p s reaches).good.sound.table ∙ reaches.replayable.pages

pub part_on_record : (p : Plain) (s : Replay FlatState) (h : ℕ) (r : Run) → Reaches p s → IsPart p h r → IsRunOf (part_of p h) r
part_on_record p s h r reaches part = record {
  hart = part.hart;
  count = get_or_from_slice_get (state_of p).flat.counts h r.count 0 part.count;
  pages = λ page. elim (cases_lt page (length (state_of p).holders)) [
    | inl less ↦ ap (λ o. unwrap_or o None) (each_here own (length (state_of p).holders) page less) ∙ within page
    | inr more ↦
        ap (λ o. unwrap_or o None) (none_past own (length (state_of p).holders) page more)
        ∙ no_bytes (bytes_of r.frames page) (hold_of r page) (sym (part.modes page) ∙ held_past (state_of p) page h more)
  ];
  harts = sym part.harts ∙ harts_are p s reaches;
  number = sym part.table ∙ table_is p s reaches;
  unit = unit;
} where
  own : ℕ → Option (Mode × List ℕ)
  own page = with_bytes (page_of (unit_of p.log) (state_of p).flat.memory page) (held (state_of p).holders page h)

  unit : r.frames.unit ≡ (unit_of p.log)
  unit = parts_have_unit p s h r reaches part

  within : (page : ℕ) → own page ≡ page_held r page
  within page =
      ap (with_bytes (page_of (unit_of p.log) (state_of p).flat.memory page)) (part.modes page)
      ∙ alike (hold_of r page) (λ some. ap (λ u. page_of u (state_of p).flat.memory page) (sym unit) ∙ part.bytes page some) where
        alike : (hold : Option Mode) → (IsSome hold → page_of (unit_of p.log) (state_of p).flat.memory page ≡ bytes_of r.frames page)
            → with_bytes (page_of (unit_of p.log) (state_of p).flat.memory page) hold ≡ with_bytes (bytes_of r.frames page) hold
        alike None same = refl
        alike (Some mode) same = ap (λ bytes. Some (mode, bytes)) (same refl)

-- where some run of the board agrees, the part's run does
agrees_by : (p : Plain) (h : ℕ) (r z : Run) → Agrees z h (state_of p) → z.frames.unit ≡ (unit_of p.log) → length (state_of p).flat.harts ≡ length p.log.streams
    → length (state_of p).holders ≡ p.image.pages → IsRunOf (part_of p h) r → IsPart p h r
agrees_by p h r z a unit harts table is = record {
  unit_is = subst IsUnit (unit ∙ sym is.unit) a.unit_is;
  harts = harts ∙ sym is.harts;
  memory = a.memory ∙ ap₂ (λ k u. k * u) (sym a.table ∙ table ∙ sym is.number) (unit ∙ sym is.unit);
  table = table ∙ sym is.number;
  rows = a.rows;
  hart = is.hart;
  count = a.count ∙ ap Some (sym (get_or_from_slice_get (state_of p).flat.counts h z.count 0 a.count) ∙ is.count);
  modes = modes;
  bytes = λ page some. ap (λ u. page_of u (state_of p).flat.memory page) is.unit ∙ elim (cases_lt page (length (state_of p).holders)) [
    | inl less ↦
        same_bytes (page_of (unit_of p.log) (state_of p).flat.memory page) (bytes_of r.frames page) (held (state_of p).holders page h) (hold_of r page)
        (within page less) some
    | inr more ↦ absurd (none_or_some (hold_of r page) (sym (modes page) ∙ held_past (state_of p) page h more) some)
  ];
} where
  own : ℕ → Option (Mode × List ℕ)
  own page = with_bytes (page_of (unit_of p.log) (state_of p).flat.memory page) (held (state_of p).holders page h)

  within : (page : ℕ) → page < length (state_of p).holders
      → with_bytes (page_of (unit_of p.log) (state_of p).flat.memory page) (held (state_of p).holders page h) ≡ page_held r page
  within page less = sym (ap (λ o. unwrap_or o None) (each_here own (length (state_of p).holders) page less)) ∙ is.pages page

  modes : (page : ℕ) → held (state_of p).holders page h ≡ hold_of r page
  modes page = elim (cases_lt page (length (state_of p).holders)) [
    | inl less ↦
        same_modes (page_of (unit_of p.log) (state_of p).flat.memory page) (bytes_of r.frames page) (held (state_of p).holders page h) (hold_of r page)
        (within page less)
    | inr more ↦
        held_past (state_of p) page h more
        ∙ sym (no_mode (bytes_of r.frames page) (hold_of r page)
        (sym (ap (λ o. unwrap_or o None) (none_past own (length (state_of p).holders) page more)) ∙ is.pages page))
  ]

pub run_of_part : (p : Plain) (s : Replay FlatState) (h : ℕ) (r : Run) → Reaches p s → IsRunOf (part_of p h) r → IsPart p h r
run_of_part p s h r reaches is =
    let sound = (goes_there p s reaches).good.sound in
    agrees_by p h r (view (shape_of p.log) (state_of p) h r.hart) (view_agrees (shape_of p.log) (state_of p) h r.hart sound is.hart) refl
    (harts_are p s reaches) (table_is p s reaches) is
