use Rattle.std.proofs.Common.{rules, ◌<◌, ◌≤◌, length, sym, ◌∙◌}
use Rattle.sb_function.specs.Headers.{seen_of}
use Rattle.sb_function.proofs.Steps.Params as steps
use Rattle.sb_function.proofs.param_list.param.Goals as goal

pub returns-then-is_next-clause-read : goal.returns-then-is_next-clause-read
returns-then-is_next-clause-read c = rw (steps.an_int c.args.room (seen_of c.args.header) c.args.pieces.now (sym c.is_next.ensures.next ∙ c.if-is_next.true)) c.int_param.ensures.read

pub returns-then-is_next-2-clause-read : goal.returns-then-is_next-2-clause-read
returns-then-is_next-2-clause-read c = rw (steps.an_unsigned c.args.room (seen_of c.args.header) c.args.pieces.now (sym c.is_next.ensures.next ∙ c.if-is_next.false) (sym c.is_next-2.ensures.next ∙ c.if-is_next-2.true)) c.unsigned_param.ensures.read

pub returns-then-room-len-clause-read : goal.returns-then-room-len-clause-read
returns-then-room-len-clause-read c =
    let more : c.args.room < length c.args.header.pending.items = search rules in
    steps.no_pointer c.args.room (seen_of c.args.header) c.args.pieces.now (sym c.is_next.ensures.next ∙ c.if-is_next.false) (sym c.is_next-2.ensures.next ∙ c.if-is_next-2.false) (sym c.is_next-3.ensures.next ∙ c.if-is_next-3.true) more

pub returns-then-is_next-3-clause-read : goal.returns-then-is_next-3-clause-read
returns-then-is_next-3-clause-read c =
    let fits : length c.args.header.pending.items ≤ c.args.room = search rules in
    rw (steps.a_pointer c.args.room (seen_of c.args.header) c.args.pieces.now (sym c.is_next.ensures.next ∙ c.if-is_next.false) (sym c.is_next-2.ensures.next ∙ c.if-is_next-2.false) (sym c.is_next-3.ensures.next ∙ c.if-is_next-3.true) fits) c.pointer_param.ensures.read

pub returns-clause-read : goal.returns-clause-read
returns-clause-read c = steps.no_param c.args.room (seen_of c.args.header) c.args.pieces.now (sym c.is_next.ensures.next ∙ c.if-is_next.false) (sym c.is_next-2.ensures.next ∙ c.if-is_next-2.false) (sym c.is_next-3.ensures.next ∙ c.if-is_next-3.false)
