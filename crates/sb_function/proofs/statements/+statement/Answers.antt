use Rattle.std.proofs.Common.{sym, ◌∙◌, length}
use Rattle.std.proofs.lemmas.Result.{err_from_is_err_and}  -- what the exit of a `?` returns
use Rattle.sb_function.specs.Statements as spec
use Rattle.sb_function.specs.Trees.{plains}
use Rattle.sb_function.proofs.Steps.Statements as steps
use Rattle.sb_function.proofs.statements.+statement.Goals as goal

pub statement-returns-then-left-eq0 : goal.statement-returns-then-left-eq0
statement-returns-then-left-eq0 t c = record { read = steps.no_depth c.args.params.now c.args.pieces.now c.args.left c.if-left-eq0.true }

pub statement-returns-then-is_next : goal.statement-returns-then-is_next
statement-returns-then-is_next t c = record { read = rw (steps.a_block c.args.params.now c.args.pieces.now c.args.left c.if-left-eq0.false (sym c.is_next.ensures.next ∙ c.if-is_next.true)) c.braced.ensures.read }

pub statement-returns-then-left-eq1 : goal.statement-returns-then-left-eq1
statement-returns-then-left-eq1 t c = record { read = steps.no_if c.args.params.now c.args.pieces.now c.args.left c.if-left-eq0.false (sym c.is_next.ensures.next ∙ c.if-is_next.false) (sym c.is_next-2.ensures.next ∙ c.if-is_next-2.true) c.if-left-eq1.true }

pub statement-returns-then-is_next-2 : goal.statement-returns-then-is_next-2
statement-returns-then-is_next-2 t c = record { read = rw (steps.an_if c.args.params.now c.args.pieces.now c.args.left c.if-left-eq0.false (sym c.is_next.ensures.next ∙ c.if-is_next.false) (sym c.is_next-2.ensures.next ∙ c.if-is_next-2.true) c.if-left-eq1.false) c.conditional.ensures.read }

pub statement-returns-then-begins_store : goal.statement-returns-then-begins_store
statement-returns-then-begins_store t c = record { read = rw (steps.a_store c.args.params.now c.args.pieces.now c.args.left c.if-left-eq0.false (sym c.is_next.ensures.next ∙ c.if-is_next.false) (sym c.is_next-2.ensures.next ∙ c.if-is_next-2.false) (sym c.begins_store.ensures.begins ∙ c.if-begins_store.true)) c.store.ensures.read }

pub statement-returns : goal.statement-returns
statement-returns t c = record { read = steps.no_statement c.args.params.now c.args.pieces.now c.args.left c.if-left-eq0.false (sym c.is_next.ensures.next ∙ c.if-is_next.false) (sym c.is_next-2.ensures.next ∙ c.if-is_next-2.false) (sym c.begins_store.ensures.begins ∙ c.if-begins_store.false) }

pub statements-returns-then-not-begins_statement : goal.statements-returns-then-not-begins_statement
statements-returns-then-not-begins_statement t c = record {
  read = steps.list_ends c.args.params.now (spec.statement c.args.params.now c.args.left) c.args.pieces.now c.loop-turn._turn (length c.args.pieces.now)
      (plains c.loop-turn.found.value.items) c.loop-turn.found.rest.now c.loop-turn.invariant (sym c.begins_statement.ensures.begins ∙ c.if-not-begins_statement.true);
}

pub statements-returns : goal.statements-returns
statements-returns t c = record {
  read = steps.list_over c.args.params.now (spec.statement c.args.params.now c.args.left) c.args.pieces.now c.loop-turn._turn (length c.args.pieces.now)
      (plains c.loop-turn.found.value.items) c.loop-turn.found.rest.now c.loop-turn.invariant c.loop-turn-test.false;
}

pub statements-loop-turn-preserved : goal.statements-loop-turn-preserved
statements-loop-turn-preserved t c = steps.list_goes c.args.params.now (spec.statement c.args.params.now c.args.left) c.args.pieces.now c.loop-turn._turn (length c.args.pieces.now)
    (plains c.loop-turn.found.value.items) c.loop-turn.found.rest.now c.loop-turn.invariant c.loop-turn-test.true (sym c.begins_statement.ensures.begins ∙ c.if-not-begins_statement.false)
    (plains c.in_ok-found.found.value.items) c.in_ok-found.found.rest.now c.in_ok-found.ensures.read

pub statements-returns-in_err-found : goal.statements-returns-in_err-found
statements-returns-in_err-found t c =
    let p = err_from_is_err_and c.from_residual.result c.from_residual.ensures.1 in
    record {
      read = rw (p.1, p.2) (steps.list_fault c.args.params.now (spec.statement c.args.params.now c.args.left) c.args.pieces.now c.loop-turn._turn (length c.args.pieces.now)
          (plains c.loop-turn.found.value.items) c.loop-turn.found.rest.now c.loop-turn.invariant c.loop-turn-test.true (sym c.begins_statement.ensures.begins ∙ c.if-not-begins_statement.false) _ c.in_err-found.ensures.read);
    }
