-- Powers of two of at most 126 bits.
use Rattle.std.proofs.Common.{ℕ, ◌^◌, ◌≤◌, arith}
use Rattle.std.proofs.Math.Nat.{pow-le-pow_right}

pub power_fits : (bits : ℕ) → bits ≤ 126 → 2 ^ bits ≤ 2 ^ 126
power_fits bits h = pow-le-pow_right (omega arith) h
