use Rattle.std.proofs.Common.{sym}
use Rattle.sb_directive.proofs.Truths.{first_is}
use Rattle.sb_directive.proofs.conditions.first_refusal.Goals as goal

pub returns-in-Ok : goal.returns-in-Ok
returns-in-Ok c = record { first = first_is _ _ _ _ _ _ c.in-Ok.first c.stop_at.result c.in-Ok.ensures.refused (sym c.sooner-earliest.ensures.sooner) c.stop_at.ensures }
