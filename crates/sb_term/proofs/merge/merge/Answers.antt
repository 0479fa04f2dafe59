use Rattle.std.proofs.Common.{rules, FitsSigned}
use Rattle.std.proofs.lemmas.Int.{to_z-of_z}
use mir.Syntax.{w128}
use Rattle.std.proofs.lemmas.Result.{err_from_is_err_and}
use Rattle.sb_term.proofs.Merging.{merging_begins, merging_on, wide_at, items_at_end, within_at_end, err_elsewhere}
use Rattle.sb_term.proofs.merge.merge.Goals as goal

pub loop-front-init : goal.loop-front-init
loop-front-init c =
    rw c.new-out.ensures.items (merging_begins _ _ c.args.xs.now c.args.ys.now c.requires.xs c.requires.ys)

pub front_of-requires-clause-xs : goal.front_of-requires-clause-xs
front_of-requires-clause-xs c = c.loop-front.invariant.left_narrow

pub front_of-requires-clause-ys : goal.front_of-requires-clause-ys
front_of-requires-clause-ys c = c.loop-front.invariant.right_narrow

pub returns-in_err-keep_entry-clause-wide : goal.returns-in_err-keep_entry-clause-wide
returns-in_err-keep_entry-clause-wide c =
    let fits : FitsSigned w128 c.in-Some.front.coefficient = search rules in
    let same = to_z-of_z w128 c.in-Some.front.coefficient fits in
    let p = err_from_is_err_and c.from_residual.result c.from_residual.ensures.1 in
    rw (p.1, p.2) (λ is. wide_at c.args.a c.args.b _ _ _ _ _ _ _ (to_z-of_z w128 c.args.a c.ranges.a) (to_z-of_z w128 c.args.b c.ranges.b)
    c.loop-front.invariant _ _ _ _ c.in-Some.ensures.some (rw same at (c.in_err-keep_entry.ensures.wide (err_elsewhere _ _ is))))

pub loop-front-preserved : goal.loop-front-preserved
loop-front-preserved c =
    let fits : FitsSigned w128 c.in-Some.front.coefficient = search rules in
    let same = to_z-of_z w128 c.in-Some.front.coefficient fits in
    merging_on _ _ _ _ _ _ _ c.loop-front.invariant _ _ _ _ c.in-Some.ensures.some _
    (rw same at c.in_ok-keep_entry.ensures.within) (rw same at c.in_ok-keep_entry.ensures.kept)
    c.in-Some.ensures.narrow_xs c.in-Some.ensures.narrow_ys

pub returns-clause-items : goal.returns-clause-items
returns-clause-items c =
    items_at_end c.args.a c.args.b _ _ _ _ _ _ _ (to_z-of_z w128 c.args.a c.ranges.a) (to_z-of_z w128 c.args.b c.ranges.b)
    c.loop-front.invariant c.in_default.ensures.none

pub returns-clause-within : goal.returns-clause-within
returns-clause-within c =
    within_at_end c.args.a c.args.b _ _ _ _ _ _ _ (to_z-of_z w128 c.args.a c.ranges.a) (to_z-of_z w128 c.args.b c.ranges.b)
    c.loop-front.invariant c.in_default.ensures.none
