use Rattle.std.proofs.Common.{rules, FitsSigned, ◌∙◌}
use Rattle.std.proofs.lemmas.Int.{to_z-of_z}
use mir.Syntax.{w128}
use Rattle.sb_sum.specs.Lines.{combined, plain_line, sign_of}
use Rattle.sb_sum.proofs.Merging.{line_held}
use Rattle.sb_sum.proofs.lines.combined.Goals as goal

pub returns : goal.returns
returns c =
    let left : FitsSigned w128 c.args.left.now.constant = search rules in
    let right : FitsSigned w128 c.args.right.now.constant = search rules in
    let a = to_z-of_z w128 c.args.left.now.constant left in
    let b = to_z-of_z w128 c.args.right.now.constant right in
    c.line_of.ensures
    ∙ rw (c.in_ok-parts.ensures, c.joined_number-constant.ensures, c.as_slice.ensures.value, c.as_slice-2.ensures.value, a, b)
    (line_held (combined (plain_line c.args.left.now) (sign_of c.args.minus) (plain_line c.args.right.now)))
