-- The greatest alignment of the members that are left, and of those before, is that of all.
use Rattle.std.proofs.Common.{◌≡◌, ◌<◌, ◌≤◌, drop}
use Rattle.sb_core.specs.Layout.{greatest_align}
use Rattle.sb_layout.proofs.structs.greatest_align.Given as goal

abbrev pub invariant-loop-b : goal.invariant-loop-b
invariant-loop-b l = (greatest_align l.most (drop l.b-index l.bases) ≡ greatest_align 1 l.bases) × (0 < l.most) × (l.most ≤ 32)
