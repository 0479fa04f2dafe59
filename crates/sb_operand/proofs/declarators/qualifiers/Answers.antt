use Rattle.std.proofs.Common.{sym, length, false}
use Rattle.std.proofs.lemmas.Result.{err_from_is_err_and}
use Rattle.sb_lexicon.proofs.Loops.{loop_ends, loop_over, loop_goes, loop_faults}
use Rattle.sb_operand.proofs.declarators.qualifiers.Goals as goal

pub returns-then-not-is_qualifier_next-clause-read : goal.returns-then-not-is_qualifier_next-clause-read
returns-then-not-is_qualifier_next-clause-read c =
    loop_ends _ _ false c.args.tokens.now c.loop-turn._turn (length c.args.tokens.now) c.loop-turn.found.value c.loop-turn.found.rest.now c.loop-turn.invariant.0
    (sym c.if-not-is_qualifier_next.ensures)

pub returns-in_err-found-clause-read : goal.returns-in_err-found-clause-read
returns-in_err-found-clause-read c =
    let p = err_from_is_err_and c.from_residual.result c.from_residual.ensures.1 in
    rw (p.1, p.2) (loop_faults _ _ false c.args.tokens.now c.loop-turn._turn (length c.args.tokens.now) c.loop-turn.found.value c.loop-turn.found.rest.now c.loop-turn.invariant.0
    c.loop-turn-test.true (sym c.if-not-is_qualifier_next.ensures) _ c.in_err-found.ensures.read)

pub loop-turn-preserved : goal.loop-turn-preserved
loop-turn-preserved c = (
  loop_goes _ _ false c.args.tokens.now c.loop-turn._turn (length c.args.tokens.now) c.loop-turn.found.value c.loop-turn.found.rest.now c.loop-turn.invariant.0
      c.loop-turn-test.true (sym c.if-not-is_qualifier_next.ensures) c.in_ok-found.found.value c.in_ok-found.found.rest.now c.in_ok-found.ensures.read,
  c.in_ok-found.ensures.room,
)

pub returns-clause-read : goal.returns-clause-read
returns-clause-read c =
    loop_over _ _ false c.args.tokens.now c.loop-turn._turn (length c.args.tokens.now) c.loop-turn.found.value c.loop-turn.found.rest.now c.loop-turn.invariant.0 c.loop-turn-test.false
