-- What 12 digits write is below 10^12.
use Rattle.std.proofs.Common.{ℕ, ◌+◌, ◌^◌, ◌<◌, ◌≤◌, arith}
use Rattle.std.proofs.Math.Nat.{pow-le-pow_right}

pub small : (n i : ℕ) → n < 10 ^ (i + 1) → i < 12 → n < 1000000000000
small n i below few =
    let e : i + 1 ≤ 12 = omega arith in
    let h : 10 ^ (i + 1) ≤ 10 ^ 12 = pow-le-pow_right {n = 10} (omega arith) e in
    omega (arith, h)
