use Rattle.sb_sum.proofs.Values.{adds}
use Rattle.sb_sum.proofs.meaning.laws.Goals as goal

pub returns : goal.returns
returns c = record { adds = adds }
