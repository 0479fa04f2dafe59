use Rattle.std.proofs.Common.{sym, refl, length}
use Rattle.std.proofs.lemmas.Result.{err_from_is_err_and}
use Rattle.sb_cond.specs.Readers as spec
use Rattle.sb_cond.specs.declared.expression.Entry.TheVariants as entry
use Rattle.sb_cond.proofs.Loops.{loop_ends, loop_over, loop_goes, loop_stops, deeper, no_infix, some_infix}
use Rattle.sb_cond.proofs.expression.+expression.Goals as goal

pub commas-returns-then-not-is_comma_next : goal.commas-returns-then-not-is_comma_next
commas-returns-then-not-is_comma_next t c = record {
  read = loop_ends _ _ c.args.first.value c.args.first.rest.now c.loop-turn._turn (length c.args.first.rest.now) c.loop-turn.found.value c.loop-turn.found.rest.now c.loop-turn.invariant (sym c.if-not-is_comma_next.ensures.next);
}

pub commas-returns-in_err-found : goal.commas-returns-in_err-found
commas-returns-in_err-found t c =
    let p = err_from_is_err_and c.from_residual.result c.from_residual.ensures.1 in
    record {
      read = rw (p.1, p.2) (loop_stops _ _ c.args.first.value c.args.first.rest.now c.loop-turn._turn (length c.args.first.rest.now) c.loop-turn.found.value c.loop-turn.found.rest.now c.loop-turn.invariant c.loop-turn-test.true
          (sym c.if-not-is_comma_next.ensures.next) _ _ c.in_err-found.ensures.read);
    }

pub commas-loop-turn-preserved : goal.commas-loop-turn-preserved
commas-loop-turn-preserved t c = loop_goes _ _ c.args.first.value c.args.first.rest.now c.loop-turn._turn (length c.args.first.rest.now) c.loop-turn.found.value c.loop-turn.found.rest.now c.loop-turn.invariant c.loop-turn-test.true
    (sym c.if-not-is_comma_next.ensures.next) c.in_ok-found.found.value c.in_ok-found.found.rest.now c.in_ok-found.ensures.read

pub commas-returns : goal.commas-returns
commas-returns t c = record {
  read = loop_over _ _ c.args.first.value c.args.first.rest.now c.loop-turn._turn (length c.args.first.rest.now) c.loop-turn.found.value c.loop-turn.found.rest.now c.loop-turn.invariant c.loop-turn-test.false;
}

pub infix-returns-then-rank-eq0 : goal.infix-returns-then-rank-eq0
infix-returns-then-rank-eq0 t c = record { read = rw (no_infix (spec.is_zero c.args.left) (spec.below c.args.left) c.args.rank c.args.tokens.now c.if-rank-eq0.true) c.operand.ensures.read }

pub infix-returns-in_err-first : goal.infix-returns-in_err-first
infix-returns-in_err-first t c =
    let p = err_from_is_err_and c.from_residual.result c.from_residual.ensures.1 in
    record { read = rw (p.1, p.2, some_infix (spec.is_zero c.args.left) (spec.below c.args.left) c.args.rank c.args.tokens.now c.if-rank-eq0.false, c.in_err-first.ensures.read) refl }

pub infix-returns : goal.infix-returns
infix-returns t c = record {
  read = rw (some_infix (spec.is_zero c.args.left) (spec.below c.args.left) c.args.rank c.args.tokens.now c.if-rank-eq0.false, c.in_ok-first.ensures.read) c.operators.ensures.read;
}

pub operators-returns-then-not-is_operator_next : goal.operators-returns-then-not-is_operator_next
operators-returns-then-not-is_operator_next t c = record {
  read = loop_ends _ _ c.args.first.value c.args.first.rest.now c.loop-turn._turn (length c.args.first.rest.now) c.loop-turn.found.value c.loop-turn.found.rest.now c.loop-turn.invariant (sym c.if-not-is_operator_next.ensures.next);
}

pub operators-returns-in_err-found : goal.operators-returns-in_err-found
operators-returns-in_err-found t c =
    let p = err_from_is_err_and c.from_residual.result c.from_residual.ensures.1 in
    record {
      read = rw (p.1, p.2) (loop_stops _ _ c.args.first.value c.args.first.rest.now c.loop-turn._turn (length c.args.first.rest.now) c.loop-turn.found.value c.loop-turn.found.rest.now c.loop-turn.invariant c.loop-turn-test.true
          (sym c.if-not-is_operator_next.ensures.next) _ _ c.in_err-found.ensures.read);
    }

pub operators-loop-turn-preserved : goal.operators-loop-turn-preserved
operators-loop-turn-preserved t c = loop_goes _ _ c.args.first.value c.args.first.rest.now c.loop-turn._turn (length c.args.first.rest.now) c.loop-turn.found.value c.loop-turn.found.rest.now c.loop-turn.invariant c.loop-turn-test.true
    (sym c.if-not-is_operator_next.ensures.next) c.in_ok-found.found.value c.in_ok-found.found.rest.now c.in_ok-found.ensures.read

pub operators-returns : goal.operators-returns
operators-returns t c = record {
  read = loop_over _ _ c.args.first.value c.args.first.rest.now c.loop-turn._turn (length c.args.first.rest.now) c.loop-turn.found.value c.loop-turn.found.rest.now c.loop-turn.invariant c.loop-turn-test.false;
}

pub part-returns-in-Operand : goal.part-returns-in-Operand
part-returns-in-Operand t c = record { read = rw (c.in-Operand.is, deeper c.args.left entry.Operand c.args.tokens.now c.requires.some) c.operand.ensures.read }

pub part-returns-in-Branch : goal.part-returns-in-Branch
part-returns-in-Branch t c = record { read = rw (c.in-Branch.is, deeper c.args.left entry.Branch c.args.tokens.now c.requires.some) c.conditional.ensures.read }

pub part-returns-in-Whole : goal.part-returns-in-Whole
part-returns-in-Whole t c = record { read = rw (c.in-Whole.is, deeper c.args.left entry.Whole c.args.tokens.now c.requires.some) c.sequence.ensures.read }
