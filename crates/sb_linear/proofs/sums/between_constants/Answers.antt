use Rattle.std.proofs.Common.{rules, FitsSigned, ap, ◌∙◌}
use Rattle.std.proofs.lemmas.Int.{to_z-of_z}
use Rattle.std.specs.Option.{option_map}
use mir.Syntax.{w128}
use Rattle.sb_sum.specs.Lines.{constant_line, plain_line}
use Rattle.sb_linear.proofs.Answering.{between_held}
use Rattle.sb_linear.proofs.sums.between_constants.Goals as goal

pub returns-then-is_constant-2 : goal.returns-then-is_constant-2
returns-then-is_constant-2 c =
    let left : FitsSigned w128 c.args.left.now.constant = search rules in
    let right : FitsSigned w128 c.args.right.now.constant = search rules in
    let a = to_z-of_z w128 c.args.left.now.constant left in
    let b = to_z-of_z w128 c.args.right.now.constant right in
    c.constant_if.ensures
    ∙ ap (option_map constant_line) (rw (a, b) at c.constant_of.ensures)
    ∙ between_held c.args.op (plain_line c.args.left.now) (plain_line c.args.right.now) c.if-is_constant.ensures c.if-is_constant-2.ensures
