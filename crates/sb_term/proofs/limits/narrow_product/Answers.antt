use Rattle.std.proofs.Common.{arith}
use Rattle.sb_term.proofs.Products.{product_back, narrow_factors}
use Rattle.sb_term.proofs.limits.narrow_product.Goals as goal

pub returns-clause-value : goal.returns-clause-value
returns-clause-value c =
    let below = narrow_factors c.args.factor c.args.coefficient c.requires.factor c.requires.coefficient in
    product_back c.args.factor c.args.coefficient c.ranges.factor c.ranges.coefficient (omega arith)

pub returns-clause-below : goal.returns-clause-below
returns-clause-below c =
    let below = narrow_factors c.args.factor c.args.coefficient c.requires.factor c.requires.coefficient in
    rw (product_back c.args.factor c.args.coefficient c.ranges.factor c.ranges.coefficient (omega arith)) below
