use Rattle.std.proofs.Common.{rules, FitsSigned, sym, ◌∙◌}
use Rattle.std.proofs.lemmas.Int.{to_z-of_z}
use mir.Syntax.{w128}
use Rattle.sb_sum.specs.Fronts.{first_number}
use Rattle.sb_sum.specs.Lines.{sign_of}
use Rattle.sb_sum.proofs.Merging.{held_is, merging_on, merging_stops, some_part, unheld}
use Rattle.sb_sum.proofs.merge.merged.Goals as goal

pub returns-in_default-multiple : goal.returns-in_default-multiple
returns-in_default-multiple c =
    let first = first_number (sign_of c.args.minus) c.loop-front.left.now c.loop-front.right.now in
    sym (merging_stops _ _ _ _ _ _ c.loop-front.invariant (some_part _ _ c.in-Some.ensures.some) (unheld first (sym c.in-Some.ensures.multiple ∙ c.in_default-multiple.is)))

pub loop-front-preserved : goal.loop-front-preserved
loop-front-preserved c =
    let fits : FitsSigned w128 c.in-Some-multiple.multiple = search rules in
    let same = to_z-of_z w128 c.in-Some-multiple.multiple fits in
    let h = held_is _ _ (sym c.in-Some-multiple.is ∙ c.in-Some.ensures.multiple) in
    rw (c.in-Some.ensures.left, c.in-Some.ensures.right, (rw same at c.in_ok-keep.ensures))
    (merging_on _ _ _ _ _ _ c.loop-front.invariant (some_part _ _ c.in-Some.ensures.some) _ _ h.0 c.in-Some.ensures.atom (rw h.0 h.1))
