use Rattle.std.proofs.Common.{◌<◌, length, sym, ap, subst, ◌∙◌, arith}
use Rattle.std.proofs.lemmas.Result.{err_from_is_err_and}
use Rattle.sb_lexicon.proofs.Loops.{loop_ends, loop_over, loop_goes, loop_faults}
use Rattle.sb_lexicon.specs.Meaning.{IsFault}
use Rattle.sb_specifier.specs.Specified.{reading}
use Rattle.sb_statement.specs.Meaning.{plain_body}
use Rattle.sb_statement.specs.Parts as part
use Rattle.sb_statement.proofs.steps.Levels.{one_statement, one_block, one_item, no_statements, no_blocks, no_items}
use Rattle.sb_block.proofs.+statement.Goals as goal

pub blocks::more_items-returns-then-not-is_item_next : goal.blocks::more_items-returns-then-not-is_item_next
blocks::more_items-returns-then-not-is_item_next t c = loop_ends _ _ (plain_body c.args.start.value) c.args.start.rest.now c.loop-turn._turn (length c.args.start.rest.now) (plain_body c.loop-turn.found.value) c.loop-turn.found.rest.now c.loop-turn.invariant (sym c.if-not-is_item_next.ensures)

pub blocks::more_items-returns-in_err-found : goal.blocks::more_items-returns-in_err-found
blocks::more_items-returns-in_err-found t c =
    let p = err_from_is_err_and c.from_residual.result c.from_residual.ensures.1 in
    rw (p.1, p.2) (loop_faults _ _ (plain_body c.args.start.value) c.args.start.rest.now c.loop-turn._turn (length c.args.start.rest.now) (plain_body c.loop-turn.found.value) c.loop-turn.found.rest.now c.loop-turn.invariant c.loop-turn-test.true (sym c.if-not-is_item_next.ensures) _ c.in_err-found.ensures)

pub blocks::more_items-loop-turn-preserved : goal.blocks::more_items-loop-turn-preserved
blocks::more_items-loop-turn-preserved t c =
    (loop_goes _ _ (plain_body c.args.start.value) c.args.start.rest.now c.loop-turn._turn (length c.args.start.rest.now) (plain_body c.loop-turn.found.value) c.loop-turn.found.rest.now c.loop-turn.invariant c.loop-turn-test.true (sym c.if-not-is_item_next.ensures) (plain_body c.in_ok-found.found.value) c.in_ok-found.found.rest.now c.in_ok-found.ensures)

pub blocks::more_items-returns : goal.blocks::more_items-returns
blocks::more_items-returns t c = loop_over _ _ (plain_body c.args.start.value) c.args.start.rest.now c.loop-turn._turn (length c.args.start.rest.now) (plain_body c.loop-turn.found.value) c.loop-turn.found.rest.now c.loop-turn.invariant c.loop-turn-test.false

pub statements::statement_within-returns : goal.statements::statement_within-returns
statements::statement_within-returns t c =
    let some : 0 < c.args.left = omega (arith, c.if-left-eq0.false) in
    rw (one_statement c.args.names.now.texts c.args.left c.args.cases c.args.types.now c.args.tokens.now some) c.statement.ensures

pub statements::statement_within-returns-then-left-eq0 : goal.statements::statement_within-returns-then-left-eq0
statements::statement_within-returns-then-left-eq0 t c =
    rw (no_statements c.args.names.now.texts c.args.left c.args.cases c.args.types.now c.args.tokens.now c.if-left-eq0.true) c.no_statement.ensures

pub statements::block_within-returns : goal.statements::block_within-returns
statements::block_within-returns t c =
    let some : 0 < c.args.left = omega (arith, c.if-left-eq0.false) in
    rw (one_block c.args.names.now.texts c.args.left c.args.cases c.args.types.now c.args.tokens.now some) c.block.ensures

pub statements::block_within-returns-then-left-eq0 : goal.statements::block_within-returns-then-left-eq0
statements::block_within-returns-then-left-eq0 t c =
    rw (no_blocks c.args.names.now.texts c.args.left c.args.cases c.args.types.now c.args.tokens.now c.if-left-eq0.true) c.no_block.ensures

pub statements::item_within-returns : goal.statements::item_within-returns
statements::item_within-returns t c =
    let some : 0 < c.args.left = omega (arith, c.if-left-eq0.false) in
    rw (one_item c.args.names.now.texts c.args.left c.args.cases (plain_body c.args.body.value) c.args.body.rest.now some) c.item.ensures

pub statements::item_within-returns-then-left-eq0 : goal.statements::item_within-returns-then-left-eq0
statements::item_within-returns-then-left-eq0 t c =
    rw (no_items c.args.names.now.texts c.args.left c.args.cases (plain_body c.args.body.value) c.args.body.rest.now c.if-left-eq0.true)
    (subst (λ w. IsFault (part.no_item w c.args.cases c.args.body.rest.now) c.no_item.result) c.reading-lexicon.ensures c.no_item.ensures)
