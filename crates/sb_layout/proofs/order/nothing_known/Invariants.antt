use Rattle.std.proofs.Common.{◌≡◌, None, map, take}
use Rattle.sb_layout.proofs.order.nothing_known.Given as goal

abbrev pub invariant-loop-kind : goal.invariant-loop-kind
invariant-loop-kind l = l.known.items ≡ map (λ _. None) (take l._kind-index l.types)
