-- The bases so far, and those of the members that are left, are those of all.
use Rattle.std.proofs.Common.{◌≡◌, ◌++◌, drop}
use Rattle.std.specs.List.{All}
use Rattle.std.specs.Option.{option_map}
use Rattle.sb_core.specs.Layout.{bases_of}
use Rattle.sb_layout.specs.Faults.{IsSmall}
use Rattle.sb_layout.proofs.bases.bases_of.Given as goal

abbrev pub invariant-loop-member : goal.invariant-loop-member
invariant-loop-member l = (option_map (λ rest. l.bases.items ++ rest) (bases_of l.known (drop l.member-index l.members)) ≡ bases_of l.known l.members) × All IsSmall l.bases.items
