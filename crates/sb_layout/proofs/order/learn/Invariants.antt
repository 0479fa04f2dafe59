use Rattle.sb_layout.specs.Faults.{IsPart, Grows}
use Rattle.sb_layout.proofs.order.learn.Given as goal

abbrev pub invariant-loop-turn : goal.invariant-loop-turn
invariant-loop-turn l = IsPart l.types l.known.items × Grows l.initial.known.items l.known.items
