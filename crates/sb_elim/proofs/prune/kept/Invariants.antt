use Rattle.std.proofs.Common.{◌≡◌, [], ◌∷◌, ◌++◌, take, reverse}
use Rattle.sb_term.specs.Pruning.{kept as kept_steps}
use Rattle.sb_elim.proofs.prune.kept.Given as goal

abbrev pub invariant-loop-k : goal.invariant-loop-k
invariant-loop-k l =
    l.out.items ++ kept_steps l.base l.need.items (reverse (take l.k l.steps)) ≡ kept_steps l.base (l.newest ∷ []) (reverse l.steps)
