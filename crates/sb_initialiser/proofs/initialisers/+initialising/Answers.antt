use Rattle.std.proofs.Common.{◌<◌, sym, length, arith}
use Rattle.std.proofs.lemmas.Result.{err_from_is_err_and}
use Rattle.sb_lexicon.specs.Meaning.{meant}
use Rattle.sb_lexicon.proofs.Loops.{loop_ends, loop_over, loop_goes, loop_faults}
use Rattle.sb_initialiser.specs.Initialisers.{plain_initialisers}
use Rattle.sb_initialiser.proofs.Steps.{some_initialiser}
use Rattle.sb_initialiser.proofs.initialisers.+initialising.Goals as goal

pub more_initialisers-returns-then-not-is_unclosed-clause-read : goal.more_initialisers-returns-then-not-is_unclosed-clause-read
more_initialisers-returns-then-not-is_unclosed-clause-read t c = (loop_ends _ _ (plain_initialisers c.args.first) c.args.first.rest.now c.loop-turn._turn (length c.args.first.rest.now) (plain_initialisers c.loop-turn.found) c.loop-turn.found.rest.now c.loop-turn.invariant.0 (sym c.if-not-is_unclosed.ensures), c.loop-turn.invariant.1)

pub more_initialisers-returns-in_err-found-clause-read : goal.more_initialisers-returns-in_err-found-clause-read
more_initialisers-returns-in_err-found-clause-read t c =
    let p = err_from_is_err_and c.from_residual.result c.from_residual.ensures.1 in
    rw (p.1, p.2) (loop_faults _ _ (plain_initialisers c.args.first) c.args.first.rest.now c.loop-turn._turn (length c.args.first.rest.now) (plain_initialisers c.loop-turn.found) c.loop-turn.found.rest.now c.loop-turn.invariant.0 c.loop-turn-test.true (sym c.if-not-is_unclosed.ensures) _ c.in_err-found.ensures.read)

pub more_initialisers-loop-turn-preserved : goal.more_initialisers-loop-turn-preserved
more_initialisers-loop-turn-preserved t c =
    (loop_goes _ _ (plain_initialisers c.args.first) c.args.first.rest.now c.loop-turn._turn (length c.args.first.rest.now) (plain_initialisers c.loop-turn.found) c.loop-turn.found.rest.now c.loop-turn.invariant.0 c.loop-turn-test.true (sym c.if-not-is_unclosed.ensures) (plain_initialisers c.in_ok-found.found) c.in_ok-found.found.rest.now c.in_ok-found.ensures.read.0, c.in_ok-found.ensures.read.1, c.in_ok-found.ensures.depth)

pub more_initialisers-returns-clause-read : goal.more_initialisers-returns-clause-read
more_initialisers-returns-clause-read t c = (loop_over _ _ (plain_initialisers c.args.first) c.args.first.rest.now c.loop-turn._turn (length c.args.first.rest.now) (plain_initialisers c.loop-turn.found) c.loop-turn.found.rest.now c.loop-turn.invariant.0 c.loop-turn-test.false, c.loop-turn.invariant.1)

pub initialiser-returns-clause-read : goal.initialiser-returns-clause-read
initialiser-returns-clause-read t c =
    let some : 0 < c.args.left = omega (arith, c.if-left-eq0.false) in
    rw (some_initialiser (meant c.args.lexicon.now) c.args.left c.args.tokens.now some) c.initialiser_at.ensures.read
