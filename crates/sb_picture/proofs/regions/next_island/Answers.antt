use Rattle.std.proofs.Common.{sym}
use Rattle.std.proofs.lemmas.Iterator.Adapters.{position_from-zero}
use Rattle.sb_picture.specs.Regions.{is_next}
use Rattle.sb_picture.proofs.regions.next_island.Goals as goal

pub loop-at-init : goal.loop-at-init
loop-at-init c = sym (position_from-zero (is_next c.args.written.now) c.args.islands.now)
