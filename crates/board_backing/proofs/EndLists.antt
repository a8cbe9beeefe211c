-- The lists of an end, filled from the runs.
use Rattle.std.proofs.Common.{◌≡◌, inl, inr, ℕ, suc, ◌+◌, ◌<◌, ◌++◌, List, [], ◌∷◌, map, take, drop, length, Option, Some, slice_get, slice_set, refl}
use Rattle.std.proofs.Common.{sym, ap, ap₂, ◌∙◌, arith}
use Rattle.std.proofs.Math.Seq.{take-append_seam}
use Rattle.std.proofs.lemmas.Bool.{cases_eq}
use Rattle.std.proofs.lemmas.Option.{same_Some}
use Rattle.shared_types.proofs.Lists.{set_here, set_there}
use Rattle.rv_words.specs.declared.shared.Cause.{Cause}
use Rattle.rv_hart.specs.State.{Hart}
use Rattle.device_board.specs.State.{Devices}
use Rattle.flat_machine.specs.State.{FlatState}
use Rattle.flat_machine.specs.Runs.{final_of}
use Rattle.replay_model.specs.State.{Replay}
use Rattle.run_model.specs.Run.{Run}
use Rattle.board_backing.specs.declared.backing.Backing.{Backing}
use Rattle.board_backing.specs.Ends.{Have, IsMemory}

-- a list that has at each place what the other is mapped to
pub all_mapped : {X Y : Type 0} (f : X → Y) (xs : List X) (ys : List Y) → length xs ≡ length ys
    → ((i : ℕ) (x : X) → slice_get xs i ≡ Some x → slice_get ys i ≡ Some (f x)) → map f xs ≡ ys
all_mapped f [] [] long each = refl
all_mapped f [] (y ∷ ys) long each = absurd (omega (arith, long))
all_mapped f (x ∷ xs) [] long each = absurd (omega (arith, long))
all_mapped f (x ∷ xs) (y ∷ ys) long each =
    ap₂ (λ z zs. z ∷ zs) (sym (same_Some _ _ (each 0 x refl))) (all_mapped f xs ys (omega (arith, long)) (λ i z at. each (suc i) z at))

-- one place more has what its run is mapped to
pub one_more : {X Y : Type 0} (f : X → Y) (xs : List X) (ys : List Y) (n : ℕ) (x : X) (y : Y) → n < length ys → slice_get xs n ≡ Some x → y ≡ f x
    → ((k : ℕ) (r : X) → k < n → slice_get xs k ≡ Some r → slice_get ys k ≡ Some (f r))
    → (k : ℕ) (r : X) → k < n + 1 → slice_get xs k ≡ Some r → slice_get (slice_set ys n y) k ≡ Some (f r)
one_more f xs ys n x y inside is made before k r less at = elim (cases_eq k n) [
  | inl same ↦
      ap (slice_get (slice_set ys n y)) same ∙ set_here ys n y inside ∙ ap Some (made ∙ ap f (same_Some _ _ (sym is ∙ ap (slice_get xs) (sym same) ∙ at)))
  | inr d ↦ set_there ys n k y d ∙ before k r (omega (arith, less, d)) at
]

-- a list whose elements were all written anew
pub written : {X : Type 0} (was new : List X) (size : ℕ) → length new ≡ size → take size (new ++ drop (length new) was) ≡ new
written was new size long = ap (λ n. take n (new ++ drop (length new) was)) (sym long) ∙ take-append_seam new (drop (length new) was)

-- what the lists tell of a state that runs and backing have
pub end_is : (runs : List Run) (b : Backing) (s : Replay FlatState) (cause : Cause) (stop : Option ℕ) (all : List Hart) (counts memory sent : List ℕ) (time : ℕ)
    → Have runs b s → stop ≡ b.devices.devices.stop → all ≡ map (λ (r : Run). r.hart) runs → counts ≡ map (λ (r : Run). r.count) runs
    → IsMemory runs b memory → sent ≡ b.devices.devices.sent → time ≡ b.devices.devices.mtime
    → record { cause = cause; stop = stop; harts = all; counts = counts; memory = memory; sent = sent; time = time } ≡ final_of s.flat cause
end_is runs b s cause stop all counts memory sent time have stop_is all_are counts_are memory_is sent_is time_is =
    let d = have.backs.devices_are in
    let w = stop_is ∙ ap (λ (z : Devices). z.stop) d in
    let a = all_are ∙ all_mapped (λ (r : Run). r.hart) runs s.flat.harts have.number (λ h r is. (have.agree h r is).hart) in
    let c = counts_are ∙ all_mapped (λ (r : Run). r.count) runs s.flat.counts have.counted (λ h r is. (have.agree h r is).count) in
    let m = memory_is s have in
    let x = sent_is ∙ ap (λ (z : Devices). z.sent) d in
    let t = time_is ∙ ap (λ (z : Devices). z.mtime) d in
    λ i. record { cause = cause; stop = w i; harts = a i; counts = c i; memory = m i; sent = x i; time = t i }
