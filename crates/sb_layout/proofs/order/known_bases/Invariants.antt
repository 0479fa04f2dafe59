-- The types before the root are known.
use Rattle.std.proofs.Common.{◌≡◌, ℕ, ◌<◌, true}
use Rattle.std.specs.Prelude.{is_some}
use Rattle.sb_core.specs.Layout.{base_at}
use Rattle.sb_layout.specs.Faults.{IsPart}
use Rattle.sb_layout.proofs.order.known_bases.Given as goal

abbrev pub invariant-loop-root : goal.invariant-loop-root
invariant-loop-root l = IsPart l.types l.known.items × ((t : ℕ) → t < l.root → is_some (base_at l.known.items t) ≡ true)
