-- Bytes and the numbers that they are.
use Rattle.std.proofs.Common.{ℕ, suc, ◌+◌, ◌*◌, ◌^◌, ◌<◌, ◌≤◌, arith, lit<}
use Rattle.std.proofs.Math.Nat.{pow-le-pow_right}

-- one more byte
pub bytes_bound : (b n rest : ℕ) → b < 256 → rest < 256 ^ n → b + 256 * rest < 256 ^ suc n
bytes_bound b n rest small below = omega (arith, small, below)

pub seven_bytes : (n rest : ℕ) → n ≤ 7 → rest < 256 ^ n → rest < 2 ^ 56
seven_bytes n rest short below = omega (arith, below, pow-le-pow_right {n = 256} (lit< tt) {i = n} {j = 7} short)
