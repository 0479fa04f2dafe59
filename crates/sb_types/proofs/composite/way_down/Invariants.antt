-- The steps lead to two types that are compatible; each step goes to types that stand before.
use Rattle.std.proofs.Common.{◌≡◌, reverse, true}
use Rattle.sb_typing.specs.Classes.{compatible}
use Rattle.sb_types.specs.Steps.{Leads}
use Rattle.sb_types.proofs.composite.way_down.Given as goal

abbrev pub invariant-loop-parts : goal.invariant-loop-parts
invariant-loop-parts l = Leads l.types l.fn.a l.fn.b (reverse l.steps.items) l.left l.right × (compatible l.types l.left l.right ≡ true)

abbrev pub decreases-loop-parts : goal.decreases-loop-parts
decreases-loop-parts l = l.left.0
