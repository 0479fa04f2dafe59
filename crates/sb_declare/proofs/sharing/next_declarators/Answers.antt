use Rattle.std.proofs.Common.{sym, length}
use Rattle.std.proofs.lemmas.Result.{err_from_is_err_and}
use Rattle.sb_lexicon.proofs.Loops.{loop_ends, loop_over, loop_goes, loop_faults}
use Rattle.sb_declare.specs.Openings.{plain_listing}
use Rattle.sb_declare.proofs.sharing.next_declarators.Goals as goal

pub returns-then-not-is_mark_next : goal.returns-then-not-is_mark_next
returns-then-not-is_mark_next c = record { read = loop_ends _ _ (plain_listing c.args.first.value) c.args.first.rest.now c.loop-turn._turn (length c.args.first.rest.now) (plain_listing c.loop-turn.found.value) c.loop-turn.found.rest.now c.loop-turn.invariant (sym c.if-not-is_mark_next.ensures) }

pub returns-in_err-found : goal.returns-in_err-found
returns-in_err-found c =
    let p = err_from_is_err_and c.from_residual.result c.from_residual.ensures.1 in
    record { read = rw (p.1, p.2) (loop_faults _ _ (plain_listing c.args.first.value) c.args.first.rest.now c.loop-turn._turn (length c.args.first.rest.now) (plain_listing c.loop-turn.found.value) c.loop-turn.found.rest.now c.loop-turn.invariant c.loop-turn-test.true (sym c.if-not-is_mark_next.ensures) _ c.in_err-found.ensures.read) }

pub loop-turn-preserved : goal.loop-turn-preserved
loop-turn-preserved c =
    (loop_goes _ _ (plain_listing c.args.first.value) c.args.first.rest.now c.loop-turn._turn (length c.args.first.rest.now) (plain_listing c.loop-turn.found.value) c.loop-turn.found.rest.now c.loop-turn.invariant c.loop-turn-test.true (sym c.if-not-is_mark_next.ensures) (plain_listing c.in_ok-found.found.value) c.in_ok-found.found.rest.now c.in_ok-found.ensures.read)

pub returns : goal.returns
returns c = record { read = loop_over _ _ (plain_listing c.args.first.value) c.args.first.rest.now c.loop-turn._turn (length c.args.first.rest.now) (plain_listing c.loop-turn.found.value) c.loop-turn.found.rest.now c.loop-turn.invariant c.loop-turn-test.false }
