use Rattle.std.proofs.Common.{arith}
use Rattle.sb_term.proofs.Products.{product_back, short_factors}
use Rattle.sb_term.proofs.limits.short_product.Goals as goal

pub returns-clause-value : goal.returns-clause-value
returns-clause-value c =
    let below = short_factors c.args.factor c.args.constant c.requires.factor c.requires.constant in
    product_back c.args.factor c.args.constant c.ranges.factor c.ranges.constant (omega arith)

pub returns-clause-below : goal.returns-clause-below
returns-clause-below c =
    let below = short_factors c.args.factor c.args.constant c.requires.factor c.requires.constant in
    rw (product_back c.args.factor c.args.constant c.ranges.factor c.ranges.constant (omega arith)) below
