-- A run at its start agrees with the start of the flat machine.
use Rattle.std.proofs.Common.{◌≡◌, ℕ, ◌*◌, ◌/◌, ◌<◌, inl, inr, false, List, [], map, length, replicate, Option, Some, None, slice_get, unwrap_or}
use Rattle.std.proofs.Common.{true≢false, sym, ap, ◌∙◌, arith, zero-add}
use Rattle.std.specs.Prelude.{is_some}
use Rattle.std.specs.List.{range_with_len}
use Rattle.std.proofs.lemmas.Bool.{cases_lt}
use Rattle.std.proofs.lemmas.List.{length-replicate, get_or-replicate}
use Rattle.std.proofs.lemmas.List.FromFn.{length-map-range_with_len, get_or-map-range_with_len}
use Rattle.std.proofs.lemmas.Option.{slice_get_past, slice_get-get_or, unwrap_or-slice_get}
use Rattle.rv_words.specs.Limits.{IsUnit, page_bytes}
use Rattle.rv_words.specs.declared.shared.Mode.{Mode}
use Rattle.rv_hart.specs.State.{Hart}
use Rattle.rv_hart.specs.Moves.{hart_at_start}
use Rattle.elf_image.specs.Image.{Image, IsWhole}
use Rattle.flat_machine.specs.State.{FlatState}
use Rattle.order_rules.specs.Holders.{held, row, nobody}
use Rattle.replay_model.specs.State.{Replay}
use Rattle.run_model.specs.Run.{hold_of, run_at_start, IsOneRun}
use Rattle.run_model.proofs.Addresses.{whole_units}
use Rattle.run_model.specs.Agreement.{Agrees, IsFirst}

hold_of_nobody : (k g : ℕ) → unwrap_or (slice_get {X = Option Mode} (replicate k None) g) None ≡ None
hold_of_nobody k g = elim (cases_lt g k) [
  | inl l ↦ unwrap_or-slice_get (replicate k None) g None ∙ get_or-replicate k g None None l
  | inr m ↦ ap (λ o. unwrap_or o None) (slice_get_past (replicate k None) g (omega (arith, m, length-replicate {A = Option Mode} k None)))
]

pub row_of_nobody : (pages harts page : ℕ) → page < pages → row (nobody pages harts) page ≡ replicate harts None
row_of_nobody pages harts page l = unwrap_or-slice_get (replicate pages (replicate harts None)) page []
    ∙ get_or-replicate pages page (replicate harts None) [] l

pub held_of_nobody : (pages harts page g : ℕ) → held (nobody pages harts) page g ≡ None
held_of_nobody pages harts page g = elim (cases_lt page pages) [
  | inl l ↦ ap (λ z. unwrap_or (slice_get z g) None) (row_of_nobody pages harts page l) ∙ hold_of_nobody harts g
  | inr m ↦ ap (λ o. unwrap_or (slice_get (unwrap_or o []) g) None)
      (slice_get_past (replicate pages (replicate harts None)) page
      (omega (arith, m, length-replicate {A = List (Option Mode)} pages (replicate harts None))))
]

unit_of_image : (image : Image) → IsWhole image → IsUnit image.unit
unit_of_image image whole = inr (inr whole.unit)

whole_pages : (image : Image) → IsWhole image → length image.bytes / image.unit * image.unit ≡ page_bytes * image.pages
whole_pages image whole = ap (λ k. k / image.unit * image.unit) whole.size ∙ whole_units image.unit image.pages (unit_of_image image whole)

frames_number : (id harts : ℕ) (image : Image) → length (run_at_start id harts image).frames.pages ≡ length image.bytes / image.unit
frames_number id harts image = length-replicate (length image.bytes / image.unit) (replicate image.unit 0)

pub start_is_one : (id harts : ℕ) (image : Image) → IsWhole image → IsOneRun (run_at_start id harts image)
start_is_one id harts image whole =
    let long = frames_number id harts image in
    record {
      unit = unit_of_image image whole;
      pages = ap (λ k. k * image.unit) long ∙ whole_pages image whole;
      held_size = length-replicate (length image.bytes / image.unit) None ∙ sym long;
    }

pub start_agrees : (id harts : ℕ) (image : Image) → IsWhole image → id < harts → (s : Replay FlatState) → IsFirst image harts s
    → Agrees (run_at_start id harts image) id s
start_agrees id harts image whole l s (flat, table) =
    let f : ℕ → Hart = λ k. hart_at_start k harts image.pages image.entry in
    let harts_are : s.flat.harts ≡ map f (range_with_len 0 harts) = ap (λ (z : FlatState). z.harts) flat in
    let number : length s.flat.harts ≡ harts = ap length harts_are ∙ length-map-range_with_len f 0 harts in
    let long = frames_number id harts image in
    let rows_are : length s.holders ≡ length image.bytes / image.unit = ap length table
    ∙ length-replicate (length image.bytes / image.unit) (replicate harts None) in
    record {
      unit_is = unit_of_image image whole;
      harts = number;
      memory = ap (λ (z : FlatState). length z.memory) flat ∙ whole.size ∙ sym (whole_pages image whole) ∙ ap (λ k. k * image.unit) (sym long);
      table = rows_are ∙ sym long;
      rows = λ page m. ap (λ z. length (row z page)) table ∙ ap length
          (row_of_nobody (length image.bytes / image.unit) harts page (omega (arith, m, rows_are))) ∙ length-replicate harts None ∙ sym number;
      hart = ap (λ xs. slice_get xs id) harts_are ∙ slice_get-get_or (map f (range_with_len 0 harts)) id (f id)
          (omega (arith, l, length-map-range_with_len f 0 harts))
          ∙ ap Some (get_or-map-range_with_len f 0 harts id id (f id) l (zero-add id));
      count = ap (λ (z : FlatState). slice_get z.counts id) flat
          ∙ slice_get-get_or (replicate harts 0) id 0 (omega (arith, l, length-replicate {A = ℕ} harts 0)) ∙ ap Some (get_or-replicate harts id 0 0 l);
      modes = λ page. ap (λ z. held z page id) table ∙ held_of_nobody (length image.bytes / image.unit) harts page id
          ∙ sym (hold_of_nobody (length image.bytes / image.unit) page);
      bytes = λ page some. let none : is_some (hold_of (run_at_start id harts image) page) ≡ false =
          ap is_some (hold_of_nobody (length image.bytes / image.unit) page) in absurd (true≢false (sym some ∙ none));
    }
