-- A part's run has frames of the board's unit.
use Rattle.std.proofs.Common.{◌≡◌, ℕ, ◌*◌, ◌/◌, ◌<◌, ◌≤◌, length, refl, sym, ap, ap₂, ◌∙◌}
use Rattle.std.proofs.Math.Nat.{mul-div_cancel_left}
use Rattle.rv_words.specs.Limits.{page_bytes}
use Rattle.elf_image.specs.Image.{IsWhole}
use Rattle.run_model.specs.Run.{Run}
use Rattle.turn_laws.proofs.Legs.{board_sound, reached_are_crew}
use Rattle.crew_parts.specs.Boards.{Plain, IsReached, board_of, spent, state_of, terms_of}
use Rattle.crew_parts.specs.Parts.{IsPart}

unit_of_run : (units : ℕ) (x : Run) (memory pages : ℕ) → 1 ≤ units → pages ≡ units → memory ≡ units * page_bytes → memory ≡ pages * x.frames.unit
    → x.frames.unit ≡ page_bytes
unit_of_run units x memory pages some same all own =
    sym (mul-div_cancel_left x.frames.unit {n = units} some)
    ∙ ap (λ k. k / units) (ap (λ k. k * x.frames.unit) (sym same) ∙ sym own ∙ all)
    ∙ mul-div_cancel_left page_bytes {n = units} some

pub part_unit : (p : Plain) (h : ℕ) (r : Run) → IsWhole p.image → IsReached p → h < p.harts → IsPart p h r → r.frames.unit ≡ page_bytes
part_unit p h r whole reached there part =
    let t = terms_of p in
    let sound = board_sound t p.image p.harts reached.0 whole refl (board_of p spent) reached.1 in
    let one = (reached_are_crew t p.image p.harts reached.0 whole refl (board_of p spent) reached.1).3 h there in
    let of_one = one.2.1 in
    let memory : length (state_of p).flat.memory ≡ p.image.pages * page_bytes =
    of_one.memory ∙ ap₂ (λ k u. k * u) (sym of_one.table ∙ sound.table) one.2.0 in
    unit_of_run p.image.pages r (length (state_of p).flat.memory) (length r.frames.pages) whole.least_pages (sym part.table ∙ sound.table) memory part.memory
