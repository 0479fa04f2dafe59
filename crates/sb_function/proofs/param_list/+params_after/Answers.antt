use Rattle.std.proofs.Common.{rules, arith, ◌<◌, ◌≤◌, length, sym, ◌∙◌}
use Rattle.sb_function.specs.Headers.{seen_of}
use Rattle.sb_function.proofs.Steps.Params as steps
use Rattle.sb_function.proofs.param_list.+params_after.Goals as goal

pub params_after-returns-then-room-eq0-clause-read : goal.params_after-returns-then-room-eq0-clause-read
params_after-returns-then-room-eq0-clause-read t c = steps.no_room (seen_of c.args.header) c.args.pieces.now c.args.room (sym c.is_next.ensures.next ∙ c.if-is_next.true) c.if-room-eq0.true

pub params_after-returns-then-is_next-clause-read : goal.params_after-returns-then-is_next-clause-read
params_after-returns-then-is_next-clause-read t c = rw (steps.one_more (seen_of c.args.header) c.args.pieces.now c.args.room (sym c.is_next.ensures.next ∙ c.if-is_next.true) c.if-room-eq0.false) c.params_behind.ensures.read

pub params_after-returns-then-is_next-2-clause-read : goal.params_after-returns-then-is_next-2-clause-read
params_after-returns-then-is_next-2-clause-read t c =
    let none : length c.args.header.pending.items ≤ 0 = search rules in
    rw (steps.the_end (seen_of c.args.header) c.args.pieces.now c.args.room (sym c.is_next.ensures.next ∙ c.if-is_next.false) (sym c.is_next-2.ensures.next ∙ c.if-is_next-2.true) (omega arith)) c.close.ensures.read

pub params_after-returns-clause-read : goal.params_after-returns-clause-read
params_after-returns-clause-read t c = steps.nothing_goes (seen_of c.args.header) c.args.pieces.now c.args.room (sym c.is_next.ensures.next ∙ c.if-is_next.false) (sym c.is_next-2.ensures.next ∙ c.if-is_next-2.false)

pub params_after-returns-then-len-gt0-clause-read : goal.params_after-returns-then-len-gt0-clause-read
params_after-returns-then-len-gt0-clause-read t c =
    let some : 0 < length c.args.header.pending.items = search rules in
    steps.no_end (seen_of c.args.header) c.args.pieces.now c.args.room (sym c.is_next.ensures.next ∙ c.if-is_next.false) (sym c.is_next-2.ensures.next ∙ c.if-is_next-2.true) (omega arith)
