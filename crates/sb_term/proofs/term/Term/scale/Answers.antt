use Rattle.std.proofs.Common.{rules}
use Rattle.sb_term.proofs.Kept.{scaled_term}
use Rattle.sb_term.proofs.term.Term.scale.Goals as goal

pub invariant_of-result : goal.invariant_of-result
invariant_of-result c =
    scaled_term _ c.as_slice.result.now _ _ (rw c.as_slice.ensures c.self.invariant.rising)
    c.in_ok-entries.ensures.items c.in_ok-entries.ensures.within (search rules)
