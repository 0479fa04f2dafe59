use Rattle.std.proofs.Common.{sym, length, false}
use Rattle.std.proofs.lemmas.Result.{err_from_is_err_and}
use Rattle.sb_lexicon.proofs.Loops.{loop_ends, loop_over, loop_goes, loop_faults}
use Rattle.sb_specifier.proofs.sizes.size_words.Goals as goal

pub returns-then-not-is_size_word_next : goal.returns-then-not-is_size_word_next
returns-then-not-is_size_word_next c =
    loop_ends _ _ (false, false) c.args.tokens.now c.loop-turn._turn (length c.args.tokens.now) c.loop-turn.found.value c.loop-turn.found.rest.now c.loop-turn.invariant (sym c.if-not-is_size_word_next.ensures)

pub returns-in_err-found : goal.returns-in_err-found
returns-in_err-found c =
    let p = err_from_is_err_and c.from_residual.result c.from_residual.ensures.1 in
    rw (p.1, p.2) (loop_faults _ _ (false, false) c.args.tokens.now c.loop-turn._turn (length c.args.tokens.now) c.loop-turn.found.value c.loop-turn.found.rest.now c.loop-turn.invariant
    c.loop-turn-test.true (sym c.if-not-is_size_word_next.ensures) _ c.in_err-found.ensures)

pub loop-turn-preserved : goal.loop-turn-preserved
loop-turn-preserved c =
    loop_goes _ _ (false, false) c.args.tokens.now c.loop-turn._turn (length c.args.tokens.now) c.loop-turn.found.value c.loop-turn.found.rest.now c.loop-turn.invariant
    c.loop-turn-test.true (sym c.if-not-is_size_word_next.ensures) c.in_ok-found.found.value c.in_ok-found.found.rest.now c.in_ok-found.ensures

pub returns : goal.returns
returns c =
    loop_over _ _ (false, false) c.args.tokens.now c.loop-turn._turn (length c.args.tokens.now) c.loop-turn.found.value c.loop-turn.found.rest.now c.loop-turn.invariant c.loop-turn-test.false
