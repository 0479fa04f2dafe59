use Rattle.std.proofs.Common.{◌≡◌, map, take}
use Rattle.sb_core.specs.Layout.{base_or_none}
use Rattle.sb_layout.proofs.table.bases_in.Given as goal

abbrev pub invariant-loop-b : goal.invariant-loop-b
invariant-loop-b l = l.bases.items ≡ map base_or_none (take l.b-index l.known)
