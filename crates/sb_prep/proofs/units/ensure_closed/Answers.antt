use Rattle.std.proofs.Common.{refl}
use Rattle.sb_prep.proofs.Passages.{none_open, some_open}
use Rattle.sb_prep.proofs.units.ensure_closed.Goals as goal

pub returns-in-Some : goal.returns-in-Some
returns-in-Some c = record { closed = rw c.stop_at.ensures (some_open c.args.branches.now c.in-Some.field-0 c.end_of.result _ c.in-Some.ensures.innermost c.end_of.ensures.place, refl) }

pub returns-in-None : goal.returns-in-None
returns-in-None c = record { closed = none_open c.args.branches.now c.in-None.ensures.innermost }
