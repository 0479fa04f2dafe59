-- The table knows the composite of the types to which the steps that are left lead.
use Rattle.std.proofs.Common.{length, reverse}
use Rattle.sb_types.specs.Steps.{IsRising}
use Rattle.sb_types.proofs.table.TypeTable.composite.Given as goal

abbrev pub invariant-loop-step : goal.invariant-loop-step
invariant-loop-step l = IsRising l.fn.self l.self (reverse l.steps.items) l.fn.a l.fn.b l.t

abbrev pub decreases-loop-step : goal.decreases-loop-step
decreases-loop-step l = length l.steps.items
