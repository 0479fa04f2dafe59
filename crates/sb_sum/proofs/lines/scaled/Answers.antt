use Rattle.std.proofs.Common.{rules, FitsSigned, ◌∙◌}
use Rattle.std.proofs.lemmas.Int.{to_z-of_z}
use mir.Syntax.{w128}
use Rattle.sb_sum.specs.Lines.{plain_line, scaled}
use Rattle.sb_sum.proofs.Merging.{line_held}
use Rattle.sb_sum.proofs.lines.scaled.Goals as goal

pub returns : goal.returns
returns c =
    let fits : FitsSigned w128 c.args.line.now.constant = search rules in
    let a = to_z-of_z w128 c.args.line.now.constant fits in
    let by = to_z-of_z w128 c.args.c c.ranges.c in
    c.line_of.ensures
    ∙ rw (c.in_ok-parts.ensures, c.product-constant.ensures, c.as_slice.ensures.value, a, by) (line_held (scaled c.args.c (plain_line c.args.line.now)))
