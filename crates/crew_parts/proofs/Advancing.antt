-- A run advances its hart's part.
use Rattle.std.proofs.Common.{ℕ, ◌*◌, ◌<◌, ◌≤◌, refl, sym, ap₂, ◌∙◌, subst, arith}
use Rattle.std.proofs.lemmas.Option.{get_or_from_slice_get}
use Rattle.elf_image.specs.Image.{IsWhole}
use Rattle.replay_model.specs.Board.{board}
use Rattle.run_model.specs.Run.{Run}
use Rattle.run_model.specs.Legs.{Runs, DifferFor, KeepsPages, MakesLeg}
use Rattle.run_model.specs.declared.asked.Pause.{Pause}
use Rattle.crew_parts.specs.Boards.{Plain, IsReached, state_of}
use Rattle.crew_parts.specs.Parts.{IsPart, IsPartAdvanced, until_of}
use Rattle.crew_parts.proofs.Frames.{part_unit}

pub part_unmoved : (p : Plain) (h : ℕ) (r : Run) → IsPart p h r → r.count ≤ until_of p h → IsPartAdvanced p h 0 r
part_unmoved p h r part within = record {
  led = record {
    at = state_of p;
    runs = refl;
    differ = record { harts = λ g other. refl; counts = λ g other. refl; pages = λ page free. refl; devices = refl; holders = refl; cursor = refl };
    memory = refl;
    agrees = part;
  };
  within = within;
}

pub leg_advances : (p : Plain) (h until : ℕ) (r after : Run) (pause : Pause) → IsWhole p.image → IsReached p → h < p.harts → IsPart p h r → KeepsPages r after
    → (leg : MakesLeg r.frames.unit after pause h until (state_of p)) → until ≤ until_of p h → IsPartAdvanced p h leg.leg.moves after
leg_advances p h until r after pause whole reached there part keeps leg within =
    let unit = part_unit p h r whole reached there part in
    let now = get_or_from_slice_get leg.at.flat.counts h after.count 0 leg.agrees.count in
    let most = leg.leg.within in
    record {
      led = record {
        at = leg.at;
        runs = subst (λ u. Runs (board u) h leg.leg.moves (state_of p) leg.at) unit leg.leg.runs;
        differ = subst (λ u. DifferFor u h (state_of p) leg.at) unit leg.others;
        memory = leg.agrees.memory ∙ ap₂ (λ k u. k * u) keeps.number keeps.unit_is ∙ sym part.memory;
        agrees = leg.agrees;
      };
      within = omega (arith, now, most, within);
    }
