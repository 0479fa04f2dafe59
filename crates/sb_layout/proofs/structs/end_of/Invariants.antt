-- The members that are left end where all end.
use Rattle.std.proofs.Common.{◌≡◌, ◌<◌, drop}
use Rattle.sb_core.specs.Layout.{end_from}
use Rattle.sb_layout.proofs.structs.end_of.Given as goal

abbrev pub invariant-loop-b : goal.invariant-loop-b
invariant-loop-b l = (end_from l.end (drop l.b-index l.bases) ≡ end_from 0 l.bases) × (l.end < 2147483648)
