-- Powers of ten.
use Rattle.std.proofs.Common.{ℕ, ◌^◌, ◌≤◌, ◌<◌, arith}
use Rattle.std.proofs.Math.Nat.{pow-le-pow_right}

pub ten-above : (n : ℕ) → 0 < 10 ^ n
ten-above n =
    let one : 10 ^ 0 ≤ 10 ^ n = pow-le-pow_right {n = 10} (omega arith) {i = 0} {j = n} (omega arith) in
    omega (arith, one)
