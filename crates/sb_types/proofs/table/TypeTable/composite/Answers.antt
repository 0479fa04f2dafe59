-- Each turn goes one step up.
use Rattle.std.proofs.Common.{reverse}
use Rattle.sb_types.proofs.Composed.{begun, risen, rising_along, rising_within, turned}
use Rattle.sb_types.proofs.Alike.{rising_room}
use Rattle.sb_types.proofs.table.TypeTable.composite.Goals as goal

pub loop-step-init : goal.loop-step-init
loop-step-init c =
    begun c.args.self.now (reverse c.in_ok-way.way.steps.items) c.args.a c.args.b c.in_ok-way.way.end c.requires.table (rw c.kinds.ensures at c.in_ok-way.ensures)

pub step_up-requires-clause-within : goal.step_up-requires-clause-within
step_up-requires-clause-within c =
    rising_within c.args.self.now c.loop-step.self c.in-Some.step (reverse c.pop.new.self.items) c.args.a c.args.b c.loop-step.t
    (rising_along c.args.self.now c.loop-step.self (reverse c.loop-step.steps.items) _ c.args.a c.args.b c.loop-step.t
    (turned c.loop-step.steps.items c.pop.new.self.items c.in-Some.step c.in-Some.ensures.items) c.loop-step.invariant)

pub step_up-requires-clause-room : goal.step_up-requires-clause-room
step_up-requires-clause-room c =
    rising_room c.args.self.now c.loop-step.self c.in-Some.step (reverse c.pop.new.self.items) c.args.a c.args.b c.loop-step.t
    (rising_along c.args.self.now c.loop-step.self (reverse c.loop-step.steps.items) _ c.args.a c.args.b c.loop-step.t
    (turned c.loop-step.steps.items c.pop.new.self.items c.in-Some.step c.in-Some.ensures.items) c.loop-step.invariant)

pub loop-step-preserved : goal.loop-step-preserved
loop-step-preserved c =
    risen c.args.self.now c.loop-step.self c.step_up.new.self c.in-Some.step (reverse c.pop.new.self.items) c.args.a c.args.b c.loop-step.t c.in_ok-t.t
    (rising_along c.args.self.now c.loop-step.self (reverse c.loop-step.steps.items) _ c.args.a c.args.b c.loop-step.t
    (turned c.loop-step.steps.items c.pop.new.self.items c.in-Some.step c.in-Some.ensures.items) c.loop-step.invariant)
    c.in_ok-t.ensures.keeps c.in_ok-t.ensures.table c.in_ok-t.ensures.gives
