-- The spots so far, and those of the members that are left, are those of all, and the members end where all end.
use Rattle.std.proofs.Common.{◌≡◌, ◌<◌, ◌++◌, drop}
use Rattle.sb_core.specs.Layout.{end_from, spots_from}
use Rattle.sb_layout.proofs.spots.spots_from.Given as goal

abbrev pub invariant-loop-i : goal.invariant-loop-i
invariant-loop-i l =
    (l.spots.items ++ spots_from l.whole l.at (drop l.i l.bases) ≡ spots_from l.whole 0 l.bases)
    × (end_from l.at (drop l.i l.bases) ≡ end_from 0 l.bases)
    × (l.at < 2147483648)
