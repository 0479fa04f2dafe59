use Rattle.std.proofs.Common.{pos, arith}
use Rattle.sb_term.proofs.Narrow.{entry-narrow}
use Rattle.sb_elim.proofs.values.products_onto.Goals as goal

pub plus_product-requires : goal.plus_product-requires
plus_product-requires c = entry-narrow c.args.entries.now c.loop-entry.entry-index (record { symbol = 0; coefficient = pos 0 }) c.requires (omega arith)
