use Rattle.std.proofs.Common.{◌≡◌, ◌-◌, length}
use Rattle.sb_picture.specs.Regions.{absorbed}
use Rattle.sb_picture.proofs.regions.absorb.Given as goal

abbrev pub invariant-loop-turn : goal.invariant-loop-turn
invariant-loop-turn l = absorbed (length l.fn.region.islands - l._turn) l.region ≡ absorbed (length l.fn.region.islands) l.fn.region
