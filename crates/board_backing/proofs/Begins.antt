-- A backing at the start, and after moves of a hart.
use Rattle.std.proofs.Common.{inr, ◌≡◌, ◌≢◌, ℕ, ◌*◌, ◌/◌, ◌<◌, length, Some, refl, sym, ap, ◌∙◌, subst, arith, zero-add}
use Rattle.std.proofs.lemmas.List.{length-replicate}
use Rattle.std.proofs.lemmas.List.FromFn.{length-map-range_with_len, get_or-map-range_with_len}
use Rattle.std.proofs.lemmas.Option.{unwrap_or-slice_get}
use Rattle.rv_words.specs.declared.shared.Mode.TheVariants.{Write}
use Rattle.elf_image.specs.Image.{Image, IsWhole}
use Rattle.guest_pages.specs.Pages.{paged, page_of}
use Rattle.flat_machine.specs.State.{FlatState}
use Rattle.order_rules.specs.Holders.{Holders, held}
use Rattle.replay_model.specs.State.{Replay}
use Rattle.rv_words.specs.Limits.{IsUnit, page_bytes}
use Rattle.run_model.specs.Legs.{DifferFor}
use Rattle.board_backing.specs.declared.backing.Backing.{Backing}
use Rattle.run_model.specs.Run.{Run, run_at_start}
use Rattle.run_model.proofs.Addresses.{whole_units}
use Rattle.board_backing.specs.Backing.{Backs, BacksFirst, IsDesk, backing_at_start}

pub start_backs : (image : Image) (harts : ℕ) → IsWhole image → BacksFirst image harts (backing_at_start image harts)
start_backs image harts whole s (flat, table) =
    let number = length image.bytes / image.unit in
    let long : length (paged image.unit image.bytes).pages ≡ number = length-map-range_with_len (page_of image.unit image.bytes) 0 number in
    let rows : length s.holders ≡ number = ap (λ (xs : Holders). length xs) table ∙ length-replicate number _ in
    record {
      unit_is = inr (inr whole.unit);
      number = long ∙ sym rows;
      memory = ap (λ (z : FlatState). length z.memory) flat ∙ whole.size ∙ sym (whole_units image.unit image.pages (inr (inr whole.unit)))
          ∙ ap (λ k. k / image.unit * image.unit) (sym whole.size) ∙ ap (λ k. k * image.unit) (sym long);
      devices_are = ap (λ (z : FlatState). z.devices) (sym flat);
      bytes = λ page l free.
          unwrap_or-slice_get (paged image.unit image.bytes).pages page _
          ∙ get_or-map-range_with_len (page_of image.unit image.bytes) 0 number page page _ (omega (arith, l, rows)) (zero-add page)
          ∙ ap (λ (z : FlatState). page_of image.unit z.memory page) (sym flat);
    }

-- moves of a hart change bytes of pages alone that it holds in Write
pub leg_backs : (b : Backing) (h : ℕ) (s t : Replay FlatState) → Backs b s → DifferFor b.pages.unit h s t
    → length t.flat.memory ≡ length s.flat.memory → Backs b t
leg_backs b h s t backs differ long = record {
  unit_is = backs.unit_is;
  number = backs.number ∙ ap (λ (xs : Holders). length xs) (sym differ.holders);
  memory = long ∙ backs.memory;
  devices_are = backs.devices_are ∙ sym differ.devices;
  bytes = λ page l free.
      let there : page < length s.holders = subst (λ (xs : Holders). page < length xs) differ.holders l in
      let unwritten : (g : ℕ) → held s.holders page g ≢ Some Write = λ g w. free g (ap (λ xs. held xs page g) differ.holders ∙ w) in
      backs.bytes page there unwritten ∙ sym (differ.pages page (unwritten h));
}

pub begun_backs : (image : Image) (harts : ℕ) (b : Backing) → IsWhole image → b ≡ backing_at_start image harts → BacksFirst image harts b
begun_backs image harts b whole is s first = subst (λ z. Backs z s) (sym is) (start_backs image harts whole s first)

-- one hart's run and a backing of the same image
pub starts_together : (image : Image) (b : Backing) (r : Run) → b ≡ backing_at_start image 1 → r ≡ run_at_start 0 1 image → IsDesk b r
starts_together image b r backing run =
    subst (λ (z : Backing). IsDesk z r) (sym backing) (subst (λ (z : Run). IsDesk (backing_at_start image 1) z) (sym run) (
      (
        refl,
        length-map-range_with_len (page_of image.unit image.bytes) 0 (length image.bytes / image.unit)
            ∙ sym (length-replicate (length image.bytes / image.unit) _),
      ),
      refl,
    ))
