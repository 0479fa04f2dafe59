use Rattle.std.proofs.Common.{None, refl}
use Rattle.sb_core.proofs.Beginning.{begins_formed}
use Rattle.sb_core.proofs.program.Core.new.Goals as goal

pub returns-clause-formed : goal.returns-clause-formed
returns-clause-formed c =
    begins_formed
    (record { types = c.in_ok-types.types; tables = c.new-2.result; texts = c.new-3.result; functions = c.new-4.result; clash = None })
    (record { types = c.in_ok-types.ensures; tables = c.new-2.ensures.items; texts = c.new-3.ensures.items; functions = c.new-4.ensures.items; clash = refl })
