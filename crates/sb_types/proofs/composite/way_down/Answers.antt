-- Each turn goes one step further down.
use Rattle.std.proofs.Common.{sym, ◌∙◌, reverse}
use Rattle.sb_types.specs.Steps.{nowhere, further}
use Rattle.sb_types.proofs.Rising.{stepped, one_at_end}
use Rattle.sb_types.proofs.Composed.{leads_along, turned}
use Rattle.sb_types.proofs.composite.way_down.Goals as goal

pub loop-parts-init : goal.loop-parts-init
loop-parts-init c = rw c.new-steps.ensures.items (nowhere, c.requires.compatible)

pub loop-parts-preserved : goal.loop-parts-preserved
loop-parts-preserved c =
    let down = stepped c.args.types.now c.requires.ordered c.loop-parts.left c.loop-parts.right c.in-Some.parts c.loop-parts.invariant.1 (sym c.parts_of.ensures ∙ c.in-Some.is) in (
      leads_along c.args.types.now c.args.a c.args.b _ _ c.in-Some.parts.left c.in-Some.parts.right
          (sym (turned c.push.new.self.items c.loop-parts.steps.items c.in-Some.parts.step c.in_ok-push.ensures.items))
          (further c.in-Some.parts.step (reverse c.loop-parts.steps.items) c.loop-parts.left c.loop-parts.right c.in-Some.parts.left c.in-Some.parts.right
          c.loop-parts.invariant.0 down.step),
      down.compatible,
    )

pub returns : goal.returns
returns c = record {
  other = c.loop-parts.right;
  leads = c.loop-parts.invariant.0;
  one =
      one_at_end c.args.types.now c.requires.ordered c.loop-parts.left c.loop-parts.right c.loop-parts.invariant.1 (sym c.parts_of.ensures ∙ c.in_default.is);
}
