use Rattle.std.proofs.Common.{◌≡◌, map, take}
use Rattle.sb_core.specs.Layout.{spots_of}
use Rattle.sb_layout.proofs.table.spots_in.Given as goal

abbrev pub invariant-loop-kind : goal.invariant-loop-kind
invariant-loop-kind l = map (λ v. v.items) l.spots.items ≡ map (spots_of l.known) (take l.kind-index l.types)
