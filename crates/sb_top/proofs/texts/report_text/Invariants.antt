use Rattle.std.proofs.Common.{◌≡◌, ◌++◌, drop}
use Rattle.sb_top.specs.Texts as text
use Rattle.sb_top.proofs.texts.report_text.Given as goal

abbrev pub invariant-loop-report : goal.invariant-loop-report
invariant-loop-report l =
    l.out.items ++ text.functions l.files l.names.texts (drop l.report-index l.reports) ≡ text.functions l.files l.names.texts l.reports
