-- Arithmetic of units: what holds of each of the three holds of a unit.
use Rattle.std.proofs.Common.{◌≡◌, inl, inr, ℕ, ◌*◌, ◌/◌, ◌<◌, ◌≤◌, refl, sym, subst, arith}
use Rattle.rv_words.specs.Limits.{IsUnit, page_bytes}

pub at_units : (P : ℕ → Type 0) (unit : ℕ) → IsUnit unit → P 256 → P 1024 → P 4096 → P unit
at_units P unit (inl e) small middle page = subst P (sym e) small
at_units P unit (inr (inl e)) small middle page = subst P (sym e) middle
at_units P unit (inr (inr e)) small middle page = subst P (sym e) page

pub unit_positive : (unit : ℕ) → IsUnit unit → 0 < unit
unit_positive unit is = at_units (λ u. 0 < u) unit is (omega arith) (omega arith) (omega arith)

pub unit_at_most : (unit : ℕ) → IsUnit unit → unit ≤ page_bytes
unit_at_most unit is = at_units (λ u. u ≤ page_bytes) unit is (omega arith) (omega arith) (omega arith)

-- it holds whole words, and a page holds whole units
pub unit_of_words : (unit : ℕ) → IsUnit unit → unit / 4 * 4 ≡ unit
unit_of_words unit is = at_units (λ u. u / 4 * 4 ≡ u) unit is refl refl refl

pub page_of_units : (unit : ℕ) → IsUnit unit → page_bytes / unit * unit ≡ page_bytes
page_of_units unit is = at_units (λ u. page_bytes / u * u ≡ page_bytes) unit is refl refl refl
