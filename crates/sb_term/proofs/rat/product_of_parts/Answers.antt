use Rattle.std.proofs.Common.{◌∙◌, ap, unsigned_abs}
use Rattle.std.proofs.lemmas.Int.{to_z-of_z}
use mir.Syntax.{w128}
use Rattle.sb_term.specs.Ratio.{Ratio}
use Rattle.sb_term.proofs.Fractions.{cancelled_coprime, cancelled_product}
use Rattle.sb_term.proofs.rat.product_of_parts.Goals as goal

pub limited_product-requires-clause-lowest : goal.limited_product-requires-clause-lowest
limited_product-requires-clause-lowest c =
    let num = to_z-of_z w128 c.args.num c.ranges.num in
    let more = to_z-of_z w128 c.args.more c.ranges.more in
    let r : Ratio = record { num = c.args.num; den = c.args.den } in
    let s : Ratio = record { num = c.args.more; den = c.args.more_den } in
    cancelled_coprime r s c.unsigned_abs.result c.unsigned_abs-2.result _ _ _ _ c.requires.left c.requires.right
    (record {
      u_is = c.unsigned_abs.ensures.value ∙ ap unsigned_abs num;
      v_is = c.unsigned_abs-2.ensures.value ∙ ap unsigned_abs more;
      x_is = c.cancelled-x.ensures.left;
      d_is = c.cancelled-x.ensures.right;
      y_is = c.cancelled-y.ensures.left;
      b_is = c.cancelled-y.ensures.right;
    })

pub returns : goal.returns
returns c =
    let num = to_z-of_z w128 c.args.num c.ranges.num in
    let more = to_z-of_z w128 c.args.more c.ranges.more in
    let r : Ratio = record { num = c.args.num; den = c.args.den } in
    let s : Ratio = record { num = c.args.more; den = c.args.more_den } in
    c.limited_product.ensures
    ∙ cancelled_product r s c.unsigned_abs.result c.unsigned_abs-2.result _ _ _ _ c.requires.left c.requires.right
    (record {
      u_is = c.unsigned_abs.ensures.value ∙ ap unsigned_abs num;
      v_is = c.unsigned_abs-2.ensures.value ∙ ap unsigned_abs more;
      x_is = c.cancelled-x.ensures.left;
      d_is = c.cancelled-x.ensures.right;
      y_is = c.cancelled-y.ensures.left;
      b_is = c.cancelled-y.ensures.right;
    }) _ _ num more
