use Rattle.std.proofs.Common.{arith, sym}
use Rattle.sb_directive.proofs.Angles.{Gathered-more}
use Rattle.sb_directive.proofs.headers.up_to_angle.Goals as goal

pub loop-piece-preserved : goal.loop-piece-preserved
loop-piece-preserved c =
    let other = rw (c.spelling-spelled.ensures.spelling, c.as_slice.ensures) at (sym c.if-eq.ensures) in
    rw (c.in_ok-extend_from_slice-2.ensures.items, c.in_ok-extend_from_slice.ensures.items, c.space_before.ensures.space, c.spelling-spelled.ensures.spelling)
    (Gathered-more _ _ _ c.loop-piece.piece-index _ (omega arith) c.loop-piece.invariant other)
