use Rattle.std.proofs.Common.{arith}
use Rattle.sb_elim.proofs.Reversed.{kept_skipped}
use Rattle.sb_elim.proofs.prune.kept.Goals as goal

pub loop-k-preserved : goal.loop-k-preserved
loop-k-preserved c =
    let e = kept_skipped c.args.base c.loop-k.need.items c.args.steps.now c.loop-k.k (omega arith) (omega arith) (cc) in cc
