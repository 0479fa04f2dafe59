use Rattle.std.proofs.Common.{rules, FitsSigned, sym, ◌∙◌, ◌*ℤ◌}
use Rattle.std.proofs.lemmas.Int.{to_z-of_z}
use mir.Syntax.{w128}
use Rattle.sb_sum.proofs.Merging.{held_is, scaling_on, scaling_stops, unheld}
use Rattle.sb_sum.proofs.lines.times.Goals as goal

pub returns-in_default-product : goal.returns-in_default-product
returns-in_default-product c =
    let by = to_z-of_z w128 c.args.c c.ranges.c in
    let fits : FitsSigned w128 c.in-Some.part.0 = search rules in
    let own = to_z-of_z w128 c.in-Some.part.0 fits in
    let none = sym (rw (by, own) at c.product.ensures) ∙ c.in_default-product.is in
    sym (scaling_stops _ _ _ _ (rw by at c.loop-part.invariant) _ _ c.in-Some.ensures.some (unheld (c.args.c *ℤ c.in-Some.part.0) none))

pub loop-part-preserved : goal.loop-part-preserved
loop-part-preserved c =
    let by = to_z-of_z w128 c.args.c c.ranges.c in
    let fits : FitsSigned w128 c.in-Some.part.0 = search rules in
    let own = to_z-of_z w128 c.in-Some.part.0 fits in
    let multiple_fits : FitsSigned w128 c.in-Some-product.multiple = search rules in
    let multiple = to_z-of_z w128 c.in-Some-product.multiple multiple_fits in
    let h = held_is (c.args.c *ℤ c.in-Some.part.0) _ (sym c.in-Some-product.is ∙ (rw (by, own) at c.product.ensures)) in
    rw (by, (rw multiple at c.in_ok-keep.ensures)) (scaling_on _ _ _ _ (rw by at c.loop-part.invariant) _ _ c.in-Some.ensures.some _ h.0 (rw h.0 h.1))
