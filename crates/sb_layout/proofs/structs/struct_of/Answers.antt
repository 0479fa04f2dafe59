use Rattle.std.proofs.Common.{arith}
use Rattle.sb_layout.proofs.Rounding.{struct_ends}
use Rattle.sb_layout.proofs.structs.struct_of.Goals as goal

pub returns-in-None : goal.returns-in-None
returns-in-None c = omega (arith, struct_ends c.args.bases.now, c.in-None.ensures)
