-- A list in the order of its elements' numbers, those of one number in their order.
use Rattle.std.specs.Prelude.{ℕ, if◌then◌else◌, nat_le, List, [], ◌∷◌}

-- before the first element whose number isn't below its own
abbrev pub placed_by : {X : Type 0} → (X → ℕ) → X → List X → List X
placed_by number x [] = x ∷ []
placed_by number x (y ∷ ys) = if nat_le (number x) (number y) then x ∷ y ∷ ys else y ∷ placed_by number x ys

abbrev pub by_number : {X : Type 0} → (X → ℕ) → List X → List X
by_number number [] = []
by_number number (x ∷ xs) = placed_by number x (by_number number xs)
