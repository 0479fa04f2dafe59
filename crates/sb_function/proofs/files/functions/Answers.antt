use Rattle.std.proofs.Common.{length, sym, ◌∙◌}
use Rattle.std.proofs.lemmas.Result.{err_from_is_err_and}
use Rattle.sb_function.specs.Trees.{trees}
use Rattle.sb_function.proofs.Steps.Files as steps
use Rattle.sb_function.proofs.files.functions.Goals as goal

pub returns-then-not-is_next : goal.returns-then-not-is_next
returns-then-not-is_next c = record { read = steps.list_ends c.args.pieces.now c.loop-turn._turn (length c.args.pieces.now) (trees c.loop-turn.found.value.items) c.loop-turn.found.rest.now c.loop-turn.invariant (sym c.is_next.ensures.next ∙ c.if-not-is_next.true) }

pub returns : goal.returns
returns c = record { read = steps.list_over c.args.pieces.now c.loop-turn._turn (length c.args.pieces.now) (trees c.loop-turn.found.value.items) c.loop-turn.found.rest.now c.loop-turn.invariant c.loop-turn-test.false }

pub loop-turn-preserved : goal.loop-turn-preserved
loop-turn-preserved c = steps.list_goes c.args.pieces.now c.loop-turn._turn (length c.args.pieces.now) (trees c.loop-turn.found.value.items) c.loop-turn.found.rest.now c.loop-turn.invariant c.loop-turn-test.true
    (sym c.is_next.ensures.next ∙ c.if-not-is_next.false) (trees c.in_ok-found.found.value.items) c.in_ok-found.found.rest.now c.in_ok-found.ensures.read

pub returns-in_err-found : goal.returns-in_err-found
returns-in_err-found c =
    let p = err_from_is_err_and c.from_residual.result c.from_residual.ensures.1 in
    record {
      read = rw (p.1, p.2) (steps.list_fault c.args.pieces.now c.loop-turn._turn (length c.args.pieces.now) (trees c.loop-turn.found.value.items) c.loop-turn.found.rest.now c.loop-turn.invariant c.loop-turn-test.true
          (sym c.is_next.ensures.next ∙ c.if-not-is_next.false) _ c.in_err-found.ensures.read);
    }
