-- Moves that lead on behind moves that led there.
use Rattle.std.proofs.Common.{◌≡◌, ℕ, List, [], ◌∷◌, ◌++◌, Option, sym, subst}
use Rattle.orders_law.specs.Orders.{Leads}

pub leads_on : {S E : Type 0} (step : ℕ → S → Option (S × E)) (r m s : S) (xs ys : List (ℕ × E)) → Leads step r xs m → Leads step m ys s
    → Leads step r (xs ++ ys) s
leads_on step r m s [] ys one two = subst (λ z. Leads step z ys s) (sym one) two
leads_on step r m s (x ∷ xs) ys one two = (one.0, one.1, leads_on step one.0 m s xs ys one.2 two)
