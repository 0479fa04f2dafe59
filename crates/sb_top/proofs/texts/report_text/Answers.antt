use Rattle.std.proofs.Common.{◌∙◌, refl, arith}
use Rattle.sb_top.specs.Texts as text
use Rattle.sb_top.proofs.Appending.{ended}
use Rattle.sb_top.proofs.texts.report_text.Goals as goal

pub returns : goal.returns
returns c =
    let functions = ended (text.functions c.args.files.now c.args.names.now.texts) c.args.reports.now c.loop-report.report-index c.loop-report.out.items _ refl (omega arith) c.loop-report.invariant in
    let last = c.as_bytes.ensures.value ∙ c.in_ok-last.ensures.ok in
    c.in_ok-extend_from_slice.ensures.items ∙ rw (functions, last, c.count_of-warnings.ensures) refl
