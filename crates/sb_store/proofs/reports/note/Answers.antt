use Rattle.sb_store.proofs.Noting.{added_kept, added_noted, like_noted}
use Rattle.sb_store.proofs.reports.note.Goals as goal

pub invariant_of-report-then-not-contains_key : goal.invariant_of-report-then-not-contains_key
invariant_of-report-then-not-contains_key c =
    added_kept c.args.warning c.spot_of-spot.result c.report.inside.warnings.entries c.spot_of-spot.ensures c.report.invariant c.insert.new.self.entries c.contains_key.ensures
    c.if-not-contains_key.true c.in_ok-replaced.ensures.entries c.insert.ensures.ordered

pub returns-in_ok-replaced : goal.returns-in_ok-replaced
returns-in_ok-replaced c =
    rw (← c.report.view_is)
    (added_noted c.args.warning c.spot_of-spot.result c.report.inside.warnings.entries c.spot_of-spot.ensures c.report.invariant c.insert.new.self.entries c.contains_key.ensures
    c.if-not-contains_key.true c.in_ok-replaced.ensures.entries)

pub returns-else-not-contains_key : goal.returns-else-not-contains_key
returns-else-not-contains_key c =
    rw (← c.report.view_is)
    (like_noted c.args.warning c.spot_of-spot.result c.report.inside.warnings.entries c.spot_of-spot.ensures c.report.invariant c.contains_key.ensures c.if-not-contains_key.false)
