use Rattle.std.proofs.Common.{◌≡◌, ◌++◌}
use Rattle.sb_store.proofs.reports.Report.into_list.Given as goal

abbrev pub invariant-loop-warning : goal.invariant-loop-warning
invariant-loop-warning l = l.list.items ++ l.warning-iterator ≡ l.fn.self
