-- Powers of two of at most 64 bits.
use Rattle.std.proofs.Common.{◌≡◌, ℕ, zero, suc, ◌+◌, ◌-◌, ◌^◌, ◌<◌, ◌≤◌, arith}
use Rattle.std.proofs.lemmas.Nat.{pow_pos}
use Rattle.std.proofs.Math.Nat.{pow-le-pow_right, two-pow-succ}

pub power_grows : (m n : ℕ) → m ≤ n → 2 ^ m ≤ 2 ^ n
power_grows m n h = pow-le-pow_right (omega arith) h

pub power_fits : (bits : ℕ) → bits ≤ 64 → 2 ^ bits ≤ 18446744073709551616
power_fits bits h = power_grows bits 64 h

pub power_some : (bits : ℕ) → 0 < 2 ^ bits
power_some bits = pow_pos bits

pub twice : (bits : ℕ) → 0 < bits → 2 ^ bits ≡ 2 ^ (bits - 1) + 2 ^ (bits - 1)
twice zero h = absurd (omega arith)
twice (suc n) h = let one : suc n - 1 ≡ n = omega arith in rw one (two-pow-succ n)
