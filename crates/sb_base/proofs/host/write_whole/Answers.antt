use Rattle.sb_base.proofs.Writing.{puts_more}
use Rattle.sb_base.proofs.host.write_whole.Goals as goal

pub loop-rest-preserved : goal.loop-rest-preserved
loop-rest-preserved g c = puts_more _ _ _ c.args.piece.now c.loop-rest.rest.now c.in-Ok.count c.loop-rest.invariant c.in-Ok.ensures.bytes
