-- An item of one hart leaves what the runs of the others agree with.
use Rattle.std.proofs.Common.{◌≡◌, ◌≢◌, ℕ, List, [], ◌∷◌, zero, suc, Option, Some, None, slice_get}
use Rattle.std.proofs.Common.{slice_set, refl, sym, ap}
use Rattle.std.specs.Option.{option_map_or}
use Rattle.std.proofs.lemmas.Option.{same_Some}
use Rattle.elf_image.specs.Image.{Image}
use Rattle.log_entry.specs.Parts.{unit_of}
use Rattle.flat_machine.specs.State.{FlatState}
use Rattle.flat_machine.specs.declared.results.Step.{Step}
use Rattle.replay_model.specs.Board.{board}
use Rattle.replay_model.specs.State.{Replay}
use Rattle.replay_model.specs.Items.{step}
use Rattle.run_model.specs.Run.{Run}
use Rattle.run_model.specs.Agreement.{Agrees}
use Rattle.replay_core.specs.declared.position.Position.{Position}
use Rattle.replay_core.specs.Items.{after}
use Rattle.replay_core.specs.Standing.{Stands}
use Rattle.replay_parts.proofs.Led.{others_agree}
use Rattle.replay_core.proofs.StateAfterItem.{reached, run_unit}

pub others_after : (image : Image) (b : Position) (s : Replay FlatState) (g h : ℕ) (r : Run) → Stands image b s → g ≢ h → Agrees r g s
    → Agrees r g (after b.log h s)
others_after image b s g h r st n k = by (step (board (unit_of b.log)) b.log h s) refl where
  by : (o : Option (Replay FlatState × Option (List Step))) → step (board (unit_of b.log)) b.log h s ≡ o → Agrees r g (option_map_or (λ m. m.0) o s)
  by None e = k
  by (Some m) e = others_agree b.log image st.replayable s m.0 m.1 g h r (reached image b s st).going e n (run_unit image b r g s st k) k

pub set_same : {X : Type 0} (xs : List X) (i : ℕ) (x : X) → slice_get xs i ≡ Some x → slice_set xs i x ≡ xs
set_same [] i x e = refl
set_same (y ∷ xs) zero x e = ap (λ z. z ∷ xs) (sym (same_Some _ _ e))
set_same (y ∷ xs) (suc i) x e = ap (λ z. y ∷ z) (set_same xs i x e)
