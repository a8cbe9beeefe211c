-- The first places of a list, which are those of the harts that a board has.
use Rattle.std.proofs.Common.{◌≡◌, ◌<◌, ◌≤◌, ℕ, List, [], ◌∷◌, slice_index_or, slice_set}
use Rattle.std.specs.Prelude.{take, replicate}
use Rattle.std.proofs.Math.Seq.{take-set-lt}
use Rattle.std.proofs.lemmas.List.{take-replicate, get_or-take}

pub take_set_below : {X : Type 0} → (n : ℕ) (l : List X) (i : ℕ) (x : X) → i < n → take n (slice_set l i x) ≡ slice_set (take n l) i x
take_set_below n l i x h = take-set-lt n l i x h

pub read_below : {X : Type 0} → (n : ℕ) (l : List X) (i : ℕ) (x : X) → i < n → slice_index_or (take n l) i x ≡ slice_index_or l i x
read_below n l i x h = get_or-take n l i x h

pub take_eight : {X : Type 0} → (n : ℕ) (x : X) → n ≤ 8 → take n (x ∷ x ∷ x ∷ x ∷ x ∷ x ∷ x ∷ x ∷ []) ≡ replicate n x
take_eight n x h = take-replicate n 8 x h
