use Rattle.std.proofs.Common.{◌≡◌, ◌+◌, ◌*◌, ◌^◌, ◌≤◌, drop}
use Rattle.sb_top.specs.Texts as text
use Rattle.sb_top.proofs.texts.count_of.Given as goal

abbrev pub invariant-loop-report : goal.invariant-loop-report
invariant-loop-report l = record {
  counts : l.count + text.count_of (drop l.report-index l.reports) ≡ text.count_of l.reports;
  fits : l.count ≤ l.report-index * 2 ^ 64;
}
