-- Rounding gives the least multiple that is not below.
use Rattle.std.proofs.Common.{◌+◌, ◌-◌, ◌/◌, arith}
use Rattle.std.proofs.Math.Nat.{mul-mod_left}
use Rattle.sb_core.specs.Laws.{RoundsUp}

pub rounds_up : RoundsUp
rounds_up at align h = (mul-mod_left ((at + (align - 1)) / align) align, omega arith, omega arith)
