-- Each turn goes one part down.
use Rattle.std.proofs.Common.{◌≡◌, ◌-◌, length, Some, None, sym, ap, ◌∙◌, arith}
use Rattle.sb_typing.specs.Classes.{compatible_down}
use Rattle.sb_typing.proofs.Depths.{same_down, turn_down, end_down}
use Rattle.sb_typing.proofs.classes.compatible.Goals as goal

pub loop-depth-init : goal.loop-depth-init
loop-depth-init c =
    let same : length c.args.types.now - 0 ≡ length c.args.types.now = omega arith in
    ap (λ k. compatible_down k c.args.types.now c.args.t c.args.u) same

pub returns-then-left-right : goal.returns-then-left-right
returns-then-left-right c =
    sym (same_down (length c.args.types.now - c.loop-depth._depth) c.args.types.now c.loop-depth.left c.loop-depth.right c.if-left-right.true) ∙ c.loop-depth.invariant

pub returns-in-None : goal.returns-in-None
returns-in-None c =
    sym (turn_down (length c.args.types.now) c.loop-depth._depth c.args.types.now c.loop-depth.left c.loop-depth.right None
    c.loop-depth-test.true c.if-left-right.false (sym c.parts_of.ensures ∙ c.in-None.is))
    ∙ c.loop-depth.invariant

pub loop-depth-preserved : goal.loop-depth-preserved
loop-depth-preserved c =
    sym (turn_down (length c.args.types.now) c.loop-depth._depth c.args.types.now c.loop-depth.left c.loop-depth.right (Some c.in-Some.parts)
    c.loop-depth-test.true c.if-left-right.false (sym c.parts_of.ensures ∙ c.in-Some.is))
    ∙ c.loop-depth.invariant

pub returns : goal.returns
returns c =
    sym (end_down (length c.args.types.now - c.loop-depth._depth) c.args.types.now c.loop-depth.left c.loop-depth.right (omega arith)) ∙ c.loop-depth.invariant
