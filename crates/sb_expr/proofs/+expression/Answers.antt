use Rattle.std.proofs.Common.{◌<◌, sym, refl, arith, length}
use Rattle.std.proofs.lemmas.Result.{err_from_is_err_and}
use Rattle.sb_tree.specs.Plain.{plain_exprs}
use Rattle.sb_expr.specs.Expression.{Prefix, Infix, Conditional, Assignment, Sequence}
use Rattle.sb_operand.specs.Meaning.{plain_found, plain_pieces}
use Rattle.sb_lexicon.specs.Meaning.{meant}
use Rattle.sb_expr.proofs.Deeper.{one_expr, no_exprs, one_type, no_types, one_declarator, no_declarators, no_infix, some_infix, arrayed_at, pointed_at}
use Rattle.sb_lexicon.proofs.Loops.{loop_ends, loop_over, loop_goes, loop_faults, fault_first}
use Rattle.sb_expr.proofs.+expression.Goals as goal

pub postfix::suffixes-returns-then-not-is_suffix_next-clause-read : goal.postfix::suffixes-returns-then-not-is_suffix_next-clause-read
postfix::suffixes-returns-then-not-is_suffix_next-clause-read t c = (loop_ends _ _ (plain_found c.args.first) c.args.first.rest.now c.loop-turn._turn (length c.args.first.rest.now) (plain_found c.loop-turn.found) c.loop-turn.found.rest.now c.loop-turn.invariant.0 (sym c.if-not-is_suffix_next.ensures), c.loop-turn.invariant.1)

pub postfix::suffixes-returns-in_err-found-clause-read : goal.postfix::suffixes-returns-in_err-found-clause-read
postfix::suffixes-returns-in_err-found-clause-read t c =
    let p = err_from_is_err_and c.from_residual.result c.from_residual.ensures.1 in
    rw (p.1, p.2) (loop_faults _ _ (plain_found c.args.first) c.args.first.rest.now c.loop-turn._turn (length c.args.first.rest.now) (plain_found c.loop-turn.found) c.loop-turn.found.rest.now c.loop-turn.invariant.0 c.loop-turn-test.true (sym c.if-not-is_suffix_next.ensures) _ c.in_err-found.ensures.read)

pub postfix::suffixes-loop-turn-preserved : goal.postfix::suffixes-loop-turn-preserved
postfix::suffixes-loop-turn-preserved t c =
    (loop_goes _ _ (plain_found c.args.first) c.args.first.rest.now c.loop-turn._turn (length c.args.first.rest.now) (plain_found c.loop-turn.found) c.loop-turn.found.rest.now c.loop-turn.invariant.0 c.loop-turn-test.true (sym c.if-not-is_suffix_next.ensures) (plain_found c.in_ok-found.found) c.in_ok-found.found.rest.now c.in_ok-found.ensures.read.0, c.in_ok-found.ensures.read.1, c.in_ok-found.ensures.depth)

pub postfix::suffixes-returns-clause-read : goal.postfix::suffixes-returns-clause-read
postfix::suffixes-returns-clause-read t c = (loop_over _ _ (plain_found c.args.first) c.args.first.rest.now c.loop-turn._turn (length c.args.first.rest.now) (plain_found c.loop-turn.found) c.loop-turn.found.rest.now c.loop-turn.invariant.0 c.loop-turn-test.false, c.loop-turn.invariant.1)

pub postfix::more_arguments-returns-then-not-is_mark_next-clause-read : goal.postfix::more_arguments-returns-then-not-is_mark_next-clause-read
postfix::more_arguments-returns-then-not-is_mark_next-clause-read t c = (loop_ends _ _ (plain_exprs c.args.first.list.items) c.args.first.rest.now c.loop-turn._turn (length c.args.first.rest.now) (plain_exprs c.loop-turn.found.list.items) c.loop-turn.found.rest.now c.loop-turn.invariant.0 (sym c.if-not-is_mark_next.ensures), c.loop-turn.invariant.1)

pub postfix::more_arguments-returns-in_err-found-clause-read : goal.postfix::more_arguments-returns-in_err-found-clause-read
postfix::more_arguments-returns-in_err-found-clause-read t c =
    let p = err_from_is_err_and c.from_residual.result c.from_residual.ensures.1 in
    rw (p.1, p.2) (loop_faults _ _ (plain_exprs c.args.first.list.items) c.args.first.rest.now c.loop-turn._turn (length c.args.first.rest.now) (plain_exprs c.loop-turn.found.list.items) c.loop-turn.found.rest.now c.loop-turn.invariant.0 c.loop-turn-test.true (sym c.if-not-is_mark_next.ensures) _ c.in_err-found.ensures.read)

pub postfix::more_arguments-loop-turn-preserved : goal.postfix::more_arguments-loop-turn-preserved
postfix::more_arguments-loop-turn-preserved t c =
    (loop_goes _ _ (plain_exprs c.args.first.list.items) c.args.first.rest.now c.loop-turn._turn (length c.args.first.rest.now) (plain_exprs c.loop-turn.found.list.items) c.loop-turn.found.rest.now c.loop-turn.invariant.0 c.loop-turn-test.true (sym c.if-not-is_mark_next.ensures) (plain_exprs c.in_ok-found.found.list.items) c.in_ok-found.found.rest.now c.in_ok-found.ensures.read.0, c.in_ok-found.ensures.read.1, c.in_ok-found.ensures.depth)

pub postfix::more_arguments-returns-clause-read : goal.postfix::more_arguments-returns-clause-read
postfix::more_arguments-returns-clause-read t c = (loop_over _ _ (plain_exprs c.args.first.list.items) c.args.first.rest.now c.loop-turn._turn (length c.args.first.rest.now) (plain_exprs c.loop-turn.found.list.items) c.loop-turn.found.rest.now c.loop-turn.invariant.0 c.loop-turn-test.false, c.loop-turn.invariant.1)

pub expressions::operators-returns-then-not-is_operator_next-clause-read : goal.expressions::operators-returns-then-not-is_operator_next-clause-read
expressions::operators-returns-then-not-is_operator_next-clause-read t c = (loop_ends _ _ (plain_found c.args.first) c.args.first.rest.now c.loop-turn._turn (length c.args.first.rest.now) (plain_found c.loop-turn.found) c.loop-turn.found.rest.now c.loop-turn.invariant.0 (sym c.if-not-is_operator_next.ensures), c.loop-turn.invariant.1)

pub expressions::operators-returns-in_err-found-clause-read : goal.expressions::operators-returns-in_err-found-clause-read
expressions::operators-returns-in_err-found-clause-read t c =
    let p = err_from_is_err_and c.from_residual.result c.from_residual.ensures.1 in
    rw (p.1, p.2) (loop_faults _ _ (plain_found c.args.first) c.args.first.rest.now c.loop-turn._turn (length c.args.first.rest.now) (plain_found c.loop-turn.found) c.loop-turn.found.rest.now c.loop-turn.invariant.0 c.loop-turn-test.true (sym c.if-not-is_operator_next.ensures) _ c.in_err-found.ensures.read)

pub expressions::operators-loop-turn-preserved : goal.expressions::operators-loop-turn-preserved
expressions::operators-loop-turn-preserved t c =
    (loop_goes _ _ (plain_found c.args.first) c.args.first.rest.now c.loop-turn._turn (length c.args.first.rest.now) (plain_found c.loop-turn.found) c.loop-turn.found.rest.now c.loop-turn.invariant.0 c.loop-turn-test.true (sym c.if-not-is_operator_next.ensures) (plain_found c.in_ok-found.found) c.in_ok-found.found.rest.now c.in_ok-found.ensures.read.0, c.in_ok-found.ensures.read.1, c.in_ok-found.ensures.depth)

pub expressions::operators-returns-clause-read : goal.expressions::operators-returns-clause-read
expressions::operators-returns-clause-read t c = (loop_over _ _ (plain_found c.args.first) c.args.first.rest.now c.loop-turn._turn (length c.args.first.rest.now) (plain_found c.loop-turn.found) c.loop-turn.found.rest.now c.loop-turn.invariant.0 c.loop-turn-test.false, c.loop-turn.invariant.1)

pub expressions::commas-returns-then-not-is_mark_next-clause-read : goal.expressions::commas-returns-then-not-is_mark_next-clause-read
expressions::commas-returns-then-not-is_mark_next-clause-read t c = (loop_ends _ _ (plain_found c.args.first) c.args.first.rest.now c.loop-turn._turn (length c.args.first.rest.now) (plain_found c.loop-turn.found) c.loop-turn.found.rest.now c.loop-turn.invariant.0 (sym c.if-not-is_mark_next.ensures), c.loop-turn.invariant.1)

pub expressions::commas-returns-in_err-found-clause-read : goal.expressions::commas-returns-in_err-found-clause-read
expressions::commas-returns-in_err-found-clause-read t c =
    let p = err_from_is_err_and c.from_residual.result c.from_residual.ensures.1 in
    rw (p.1, p.2) (loop_faults _ _ (plain_found c.args.first) c.args.first.rest.now c.loop-turn._turn (length c.args.first.rest.now) (plain_found c.loop-turn.found) c.loop-turn.found.rest.now c.loop-turn.invariant.0 c.loop-turn-test.true (sym c.if-not-is_mark_next.ensures) _ c.in_err-found.ensures.read)

pub expressions::commas-loop-turn-preserved : goal.expressions::commas-loop-turn-preserved
expressions::commas-loop-turn-preserved t c =
    (loop_goes _ _ (plain_found c.args.first) c.args.first.rest.now c.loop-turn._turn (length c.args.first.rest.now) (plain_found c.loop-turn.found) c.loop-turn.found.rest.now c.loop-turn.invariant.0 c.loop-turn-test.true (sym c.if-not-is_mark_next.ensures) (plain_found c.in_ok-found.found) c.in_ok-found.found.rest.now c.in_ok-found.ensures.read.0, c.in_ok-found.ensures.read.1, c.in_ok-found.ensures.depth)

pub expressions::commas-returns-clause-read : goal.expressions::commas-returns-clause-read
expressions::commas-returns-clause-read t c = (loop_over _ _ (plain_found c.args.first) c.args.first.rest.now c.loop-turn._turn (length c.args.first.rest.now) (plain_found c.loop-turn.found) c.loop-turn.found.rest.now c.loop-turn.invariant.0 c.loop-turn-test.false, c.loop-turn.invariant.1)

pub declarators::arrays-returns-then-not-is_mark_next-clause-read : goal.declarators::arrays-returns-then-not-is_mark_next-clause-read
declarators::arrays-returns-then-not-is_mark_next-clause-read t c = (loop_ends _ _ (plain_pieces c.args.first.list.items) c.args.first.rest.now c.loop-turn._turn (length c.args.first.rest.now) (plain_pieces c.loop-turn.found.list.items) c.loop-turn.found.rest.now c.loop-turn.invariant.0 (sym c.if-not-is_mark_next.ensures), c.loop-turn.invariant.1)

pub declarators::arrays-returns-in_err-found-clause-read : goal.declarators::arrays-returns-in_err-found-clause-read
declarators::arrays-returns-in_err-found-clause-read t c =
    let p = err_from_is_err_and c.from_residual.result c.from_residual.ensures.1 in
    rw (p.1, p.2) (loop_faults _ _ (plain_pieces c.args.first.list.items) c.args.first.rest.now c.loop-turn._turn (length c.args.first.rest.now) (plain_pieces c.loop-turn.found.list.items) c.loop-turn.found.rest.now c.loop-turn.invariant.0 c.loop-turn-test.true (sym c.if-not-is_mark_next.ensures) _ c.in_err-found.ensures.read)

pub declarators::arrays-loop-turn-preserved : goal.declarators::arrays-loop-turn-preserved
declarators::arrays-loop-turn-preserved t c =
    (loop_goes _ _ (plain_pieces c.args.first.list.items) c.args.first.rest.now c.loop-turn._turn (length c.args.first.rest.now) (plain_pieces c.loop-turn.found.list.items) c.loop-turn.found.rest.now c.loop-turn.invariant.0 c.loop-turn-test.true (sym c.if-not-is_mark_next.ensures) (plain_pieces c.in_ok-found.found.list.items) c.in_ok-found.found.rest.now c.in_ok-found.ensures.read.0, c.in_ok-found.ensures.read.1, c.in_ok-found.ensures.bounds)

pub declarators::arrays-returns-clause-read : goal.declarators::arrays-returns-clause-read
declarators::arrays-returns-clause-read t c = (loop_over _ _ (plain_pieces c.args.first.list.items) c.args.first.rest.now c.loop-turn._turn (length c.args.first.rest.now) (plain_pieces c.loop-turn.found.list.items) c.loop-turn.found.rest.now c.loop-turn.invariant.0 c.loop-turn-test.false, c.loop-turn.invariant.1)

pub expressions::within-returns-in-Prefix-clause-read : goal.expressions::within-returns-in-Prefix-clause-read
expressions::within-returns-in-Prefix-clause-read t c =
    let some : 0 < c.args.left = omega (arith, c.if-left-eq0.false) in
    rw (c.in-Prefix.is, one_expr (meant c.args.lexicon.now) c.args.left Prefix c.args.tokens.now some) c.prefix_expr.ensures.read

pub expressions::within-returns-in-Infix-clause-read : goal.expressions::within-returns-in-Infix-clause-read
expressions::within-returns-in-Infix-clause-read t c =
    let some : 0 < c.args.left = omega (arith, c.if-left-eq0.false) in
    rw (c.in-Infix.is, one_expr (meant c.args.lexicon.now) c.args.left (Infix c.in-Infix.rank) c.args.tokens.now some) c.infix.ensures.read

pub expressions::within-returns-in-Conditional-clause-read : goal.expressions::within-returns-in-Conditional-clause-read
expressions::within-returns-in-Conditional-clause-read t c =
    let some : 0 < c.args.left = omega (arith, c.if-left-eq0.false) in
    rw (c.in-Conditional.is, one_expr (meant c.args.lexicon.now) c.args.left Conditional c.args.tokens.now some) c.conditional.ensures.read

pub expressions::within-returns-in-Assignment-clause-read : goal.expressions::within-returns-in-Assignment-clause-read
expressions::within-returns-in-Assignment-clause-read t c =
    let some : 0 < c.args.left = omega (arith, c.if-left-eq0.false) in
    rw (c.in-Assignment.is, one_expr (meant c.args.lexicon.now) c.args.left Assignment c.args.tokens.now some) c.assignment.ensures.read

pub expressions::within-returns-in-Sequence-clause-read : goal.expressions::within-returns-in-Sequence-clause-read
expressions::within-returns-in-Sequence-clause-read t c =
    let some : 0 < c.args.left = omega (arith, c.if-left-eq0.false) in
    rw (c.in-Sequence.is, one_expr (meant c.args.lexicon.now) c.args.left Sequence c.args.tokens.now some) c.sequence.ensures.read

pub expressions::within-returns-then-left-eq0-clause-read : goal.expressions::within-returns-then-left-eq0-clause-read
expressions::within-returns-then-left-eq0-clause-read t c = rw (no_exprs (meant c.args.lexicon.now) c.args.left c.args.level c.args.tokens.now c.if-left-eq0.true) c.no_room.ensures

pub expressions::infix-returns-then-rank-eq0-clause-read : goal.expressions::infix-returns-then-rank-eq0-clause-read
expressions::infix-returns-then-rank-eq0-clause-read t c = rw (no_infix (meant c.args.lexicon.now) c.args.below c.args.rank c.args.tokens.now c.if-rank-eq0.true) c.cast_expr.ensures.read

pub expressions::infix-returns-in_err-first-clause-read : goal.expressions::infix-returns-in_err-first-clause-read
expressions::infix-returns-in_err-first-clause-read t c =
    let p = err_from_is_err_and c.from_residual.result c.from_residual.ensures.1 in
    rw (p.1, p.2, some_infix (meant c.args.lexicon.now) c.args.below c.args.rank c.args.tokens.now c.if-rank-eq0.false) (fault_first _ _ _ c.in_err-first.ensures.read)

pub expressions::infix-returns-clause-read : goal.expressions::infix-returns-clause-read
expressions::infix-returns-clause-read t c =
    rw (some_infix (meant c.args.lexicon.now) c.args.below c.args.rank c.args.tokens.now c.if-rank-eq0.false, c.in_ok-first.ensures.read.0) c.operators.ensures.read

pub type_names::type_within-returns-clause-read : goal.type_names::type_within-returns-clause-read
type_names::type_within-returns-clause-read t c =
    let some : 0 < c.args.left = omega (arith, c.if-left-eq0.false) in
    rw (one_type (meant c.args.lexicon.now) c.args.left c.args.tokens.now some) c.type_named.ensures.read

pub type_names::type_within-returns-then-left-eq0-clause-read : goal.type_names::type_within-returns-then-left-eq0-clause-read
type_names::type_within-returns-then-left-eq0-clause-read t c = rw (no_types (meant c.args.lexicon.now) c.args.left c.args.tokens.now c.if-left-eq0.true) c.no_room.ensures

pub declarators::declarator-returns-then-room-eq0-clause-read : goal.declarators::declarator-returns-then-room-eq0-clause-read
declarators::declarator-returns-then-room-eq0-clause-read t c = rw (no_declarators (meant c.args.lexicon.now) c.args.below c.args.room c.args.tokens.now c.if-room-eq0.true) c.no_declarator.ensures.read

pub declarators::declarator-returns-clause-read : goal.declarators::declarator-returns-clause-read
declarators::declarator-returns-clause-read t c =
    let some : 0 < c.args.room = omega (arith, c.if-room-eq0.false) in
    rw (one_declarator (meant c.args.lexicon.now) c.args.below c.args.room c.args.tokens.now some) c.abstract_declarator.ensures.read

pub declarators::arrayed-returns-in_err-size-clause-read : goal.declarators::arrayed-returns-in_err-size-clause-read
declarators::arrayed-returns-in_err-size-clause-read t c =
    let p = err_from_is_err_and c.from_residual-in_err-size.result c.from_residual-in_err-size.ensures.1 in
    rw (p.1, p.2, arrayed_at (meant c.args.lexicon.now) c.args.below c.args.room c.len-count.result c.args.first.list.items c.args.first.rest.now c.in_ok-open.open.value c.in_ok-open.open.rest.now (omega (arith, c.len-count.ensures)) (omega (arith, c.len.ensures, c.if-len-room.false)) c.in_ok-open.ensures) (fault_first _ _ _ c.in_err-size.ensures.read)

pub declarators::arrayed-returns-in_err-close-clause-read : goal.declarators::arrayed-returns-in_err-close-clause-read
declarators::arrayed-returns-in_err-close-clause-read t c =
    let p = err_from_is_err_and c.from_residual-in_err-close.result c.from_residual-in_err-close.ensures.1 in
    rw (p.1, p.2, arrayed_at (meant c.args.lexicon.now) c.args.below c.args.room c.len-count.result c.args.first.list.items c.args.first.rest.now c.in_ok-open.open.value c.in_ok-open.open.rest.now (omega (arith, c.len-count.ensures)) (omega (arith, c.len.ensures, c.if-len-room.false)) c.in_ok-open.ensures, c.in_ok-size.ensures.read.0) (fault_first _ _ _ c.in_err-close.ensures)

pub declarators::arrayed-returns-clause-read : goal.declarators::arrayed-returns-clause-read
declarators::arrayed-returns-clause-read t c =
    (rw (arrayed_at (meant c.args.lexicon.now) c.args.below c.args.room c.len-count.result c.args.first.list.items c.args.first.rest.now c.in_ok-open.open.value c.in_ok-open.open.rest.now (omega (arith, c.len-count.ensures)) (omega (arith, c.len.ensures, c.if-len-room.false)) c.in_ok-open.ensures, c.in_ok-size.ensures.read.0, c.in_ok-close.ensures, c.in_ok-with.ensures.list, c.in_ok-with.ensures.rest) refl, c.in_ok-with.ensures.known)

pub declarators::pointed-returns-in_err-inner-clause-read : goal.declarators::pointed-returns-in_err-inner-clause-read
declarators::pointed-returns-in_err-inner-clause-read t c =
    let p = err_from_is_err_and c.from_residual-in_err-inner.result c.from_residual-in_err-inner.ensures.1 in
    rw (p.1, p.2, pointed_at (meant c.args.lexicon.now) c.args.below c.args.room c.room_behind-left.result c.in_ok-constant.constant.value c.args.tokens.now c.in_ok-star.star.value c.in_ok-star.star.rest.now c.in_ok-constant.constant.rest.now c.room_behind-left.ensures c.in_ok-star.ensures c.in_ok-constant.ensures.read) (fault_first _ _ _ c.in_err-inner.ensures.read)

pub declarators::pointed-returns-clause-read : goal.declarators::pointed-returns-clause-read
declarators::pointed-returns-clause-read t c =
    (rw (pointed_at (meant c.args.lexicon.now) c.args.below c.args.room c.room_behind-left.result c.in_ok-constant.constant.value c.args.tokens.now c.in_ok-star.star.value c.in_ok-star.star.rest.now c.in_ok-constant.constant.rest.now c.room_behind-left.ensures c.in_ok-star.ensures c.in_ok-constant.ensures.read, c.in_ok-inner.ensures.read.0, c.in_ok-pointing.ensures.list, c.in_ok-pointing.ensures.rest) refl, c.in_ok-pointing.ensures.known)
