use Rattle.std.proofs.Common.{◌≡◌, ◌+◌, ◌*◌, ◌-◌, length, []}
use Rattle.sb_parse.specs.Parser.{loop}
use Rattle.sb_function.specs.Statements.{begins_statement, statement_more, statement}
use Rattle.sb_function.specs.Trees.{plains}
use Rattle.sb_function.proofs.statements.+statement.Given as goal

abbrev pub decreases-statement : goal.decreases-statement
decreases-statement l = 6 * l.left

abbrev pub decreases-conditional : goal.decreases-conditional
decreases-conditional l = 6 * l.left + 1

abbrev pub decreases-statement_more : goal.decreases-statement_more
decreases-statement_more l = 6 * l.left + 2

abbrev pub decreases-statements : goal.decreases-statements
decreases-statements l = 6 * l.left + 3

abbrev pub decreases-block_rest : goal.decreases-block_rest
decreases-block_rest l = 6 * l.left + 4

abbrev pub decreases-braced : goal.decreases-braced
decreases-braced l = 6 * l.left + 5

abbrev pub invariant-statements-loop-turn : goal.invariant-statements-loop-turn
invariant-statements-loop-turn l =
    loop (begins_statement l.fn.params) (statement_more l.fn.params (statement l.fn.params l.fn.left)) (length l.fn.pieces) [] l.fn.pieces
    ≡ loop (begins_statement l.fn.params) (statement_more l.fn.params (statement l.fn.params l.fn.left)) (l._turn-end - l._turn) (plains l.found.value.items) l.found.rest.now
