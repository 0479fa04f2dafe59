use Rattle.std.proofs.Common.{rules}
use Rattle.sb_term.proofs.Kept.{merged_term}
use Rattle.sb_term.proofs.term.Term.mixed.Goals as goal

pub invariant_of-result : goal.invariant_of-result
invariant_of-result c =
    merged_term _ _ c.as_slice.result.now c.as_slice-2.result.now _ _
    (rw c.as_slice.ensures c.self.invariant.rising) (rw c.as_slice-2.ensures c.other.invariant.rising)
    c.in_ok-entries.ensures.items c.in_ok-entries.ensures.within (search rules)
