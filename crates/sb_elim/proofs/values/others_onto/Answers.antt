use Rattle.std.proofs.Common.{pos, arith}
use Rattle.sb_term.proofs.Narrow.{entry-narrow}
use Rattle.sb_elim.proofs.values.others_onto.Goals as goal

pub plus_other-requires : goal.plus_other-requires
plus_other-requires c = entry-narrow c.args.entries.now c.loop-entry.entry-index (record { symbol = 0; coefficient = pos 0 }) c.requires (omega arith)
