use Rattle.std.proofs.Common.{◌≡◌, ◌+◌, ◌*◌, ◌-◌, length}
use Rattle.sb_parse.specs.Parser.{loop}
use Rattle.sb_cond.specs.Readers.{is_operator, is_comma, is_zero, below, operation_on, infix_at, comma_on}
use Rattle.sb_cond.proofs.expression.+expression.Given as goal

abbrev pub decreases-part : goal.decreases-part
decreases-part l = 100 * l.left

abbrev pub decreases-group : goal.decreases-group
decreases-group l = 100 * l.left + 1

abbrev pub decreases-primary : goal.decreases-primary
decreases-primary l = 100 * l.left + 2

abbrev pub decreases-prefix_expression : goal.decreases-prefix_expression
decreases-prefix_expression l = 100 * l.left + 1

abbrev pub decreases-operand : goal.decreases-operand
decreases-operand l = 100 * l.left + 3

abbrev pub decreases-operation_on : goal.decreases-operation_on
decreases-operation_on l = 100 * l.left + 4 * l.tighter + 5

abbrev pub decreases-operators : goal.decreases-operators
decreases-operators l = 100 * l.left + 4 * l.tighter + 6

abbrev pub decreases-infix : goal.decreases-infix
decreases-infix l = 100 * l.left + 4 * l.rank + 4

abbrev pub decreases-second_branch : goal.decreases-second_branch
decreases-second_branch l = 100 * l.left + 1

abbrev pub decreases-branches : goal.decreases-branches
decreases-branches l = 100 * l.left + 2

abbrev pub decreases-conditional : goal.decreases-conditional
decreases-conditional l = 100 * l.left + 50

abbrev pub decreases-comma_on : goal.decreases-comma_on
decreases-comma_on l = 100 * l.left + 51

abbrev pub decreases-commas : goal.decreases-commas
decreases-commas l = 100 * l.left + 52

abbrev pub decreases-sequence : goal.decreases-sequence
decreases-sequence l = 100 * l.left + 53

abbrev pub invariant-operators-loop-turn : goal.invariant-operators-loop-turn
invariant-operators-loop-turn l =
    let turn = operation_on (is_zero l.fn.left) (below l.fn.left) l.fn.tighter (infix_at (is_zero l.fn.left) (below l.fn.left) l.fn.tighter) in
    loop (is_operator (l.fn.tighter + 1)) turn (length l.fn.first.rest.now) l.fn.first.value l.fn.first.rest.now
    ≡ loop (is_operator (l.fn.tighter + 1)) turn (l._turn-end - l._turn) l.found.value l.found.rest.now

abbrev pub invariant-commas-loop-turn : goal.invariant-commas-loop-turn
invariant-commas-loop-turn l =
    let turn = comma_on (is_zero l.fn.left) (below l.fn.left) in
    loop is_comma turn (length l.fn.first.rest.now) l.fn.first.value l.fn.first.rest.now
    ≡ loop is_comma turn (l._turn-end - l._turn) l.found.value l.found.rest.now
