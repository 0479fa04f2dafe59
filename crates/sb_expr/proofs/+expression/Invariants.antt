use Rattle.std.proofs.Common.{◌≡◌, ◌≤◌, ◌+◌, ◌*◌, ◌-◌, length, suc}
use Rattle.sb_parse.specs.Parser.{loop}
use Rattle.sb_tree.specs.Plain.{plain_exprs}
use Rattle.sb_operand.specs.Meaning.{plain_found, plain_pieces, IsKnown, IsDeep, IsSized}
use Rattle.sb_expr.specs.Meaning.{nested, piecewise, IsListKnown}
use Rattle.sb_lexicon.specs.Meaning.{meant}
use Rattle.sb_expr.specs.Readers as spec
use Rattle.sb_lexicon.specs.Tokens as lexeme
use Rattle.sb_expr.proofs.+expression.Given as goal

abbrev pub decreases-expressions::within : goal.decreases-expressions::within
decreases-expressions::within l = 3000 * l.left

abbrev pub decreases-type_names::type_within : goal.decreases-type_names::type_within
decreases-type_names::type_within l = 3000 * l.left

abbrev pub decreases-postfix::grouped : goal.decreases-postfix::grouped
decreases-postfix::grouped l = 3000 * l.below + 10

abbrev pub decreases-postfix::next_argument : goal.decreases-postfix::next_argument
decreases-postfix::next_argument l = 3000 * l.below + 10

abbrev pub decreases-postfix::more_arguments : goal.decreases-postfix::more_arguments
decreases-postfix::more_arguments l = 3000 * l.below + 20

abbrev pub decreases-postfix::some_arguments : goal.decreases-postfix::some_arguments
decreases-postfix::some_arguments l = 3000 * l.below + 30

abbrev pub decreases-postfix::arguments : goal.decreases-postfix::arguments
decreases-postfix::arguments l = 3000 * l.below + 40

abbrev pub decreases-postfix::indexed : goal.decreases-postfix::indexed
decreases-postfix::indexed l = 3000 * l.below + 50

abbrev pub decreases-postfix::called : goal.decreases-postfix::called
decreases-postfix::called l = 3000 * l.below + 50

abbrev pub decreases-postfix::suffixed_by : goal.decreases-postfix::suffixed_by
decreases-postfix::suffixed_by l = 3000 * l.below + 60

abbrev pub decreases-postfix::suffixed : goal.decreases-postfix::suffixed
decreases-postfix::suffixed l = 3000 * l.below + 70

abbrev pub decreases-postfix::suffixes : goal.decreases-postfix::suffixes
decreases-postfix::suffixes l = 3000 * l.below + 80

abbrev pub decreases-postfix::primary : goal.decreases-postfix::primary
decreases-postfix::primary l = 3000 * l.below + 80

abbrev pub decreases-postfix::postfix : goal.decreases-postfix::postfix
decreases-postfix::postfix l = 3000 * l.below + 90

abbrev pub decreases-prefix::prefixed : goal.decreases-prefix::prefixed
decreases-prefix::prefixed l = 3000 * l.below + 100

abbrev pub decreases-prefix::stepping : goal.decreases-prefix::stepping
decreases-prefix::stepping l = 3000 * l.below + 100

abbrev pub decreases-prefix::size_of_named : goal.decreases-prefix::size_of_named
decreases-prefix::size_of_named l = 3000 * l.below + 100

abbrev pub decreases-prefix::size_of_operand : goal.decreases-prefix::size_of_operand
decreases-prefix::size_of_operand l = 3000 * l.below + 100

abbrev pub decreases-prefix::size_of_either : goal.decreases-prefix::size_of_either
decreases-prefix::size_of_either l = 3000 * l.below + 110

abbrev pub decreases-prefix::size_of : goal.decreases-prefix::size_of
decreases-prefix::size_of l = 3000 * l.below + 120

abbrev pub decreases-prefix::prefix_expr : goal.decreases-prefix::prefix_expr
decreases-prefix::prefix_expr l = 3000 * l.below + 130

abbrev pub decreases-prefix::converted : goal.decreases-prefix::converted
decreases-prefix::converted l = 3000 * l.below + 130

abbrev pub decreases-prefix::cast_expr : goal.decreases-prefix::cast_expr
decreases-prefix::cast_expr l = 3000 * l.below + 140

abbrev pub decreases-expressions::operated : goal.decreases-expressions::operated
decreases-expressions::operated l = 3000 * l.below + 4 * l.tighter + 151

abbrev pub decreases-expressions::operators : goal.decreases-expressions::operators
decreases-expressions::operators l = 3000 * l.below + 4 * l.tighter + 152

abbrev pub decreases-expressions::infix : goal.decreases-expressions::infix
decreases-expressions::infix l = 3000 * l.below + 4 * l.rank + 150

abbrev pub decreases-expressions::branches : goal.decreases-expressions::branches
decreases-expressions::branches l = 3000 * l.below + 10

abbrev pub decreases-expressions::conditional : goal.decreases-expressions::conditional
decreases-expressions::conditional l = 3000 * l.below + 200

abbrev pub decreases-expressions::assigned : goal.decreases-expressions::assigned
decreases-expressions::assigned l = 3000 * l.below + 10

abbrev pub decreases-expressions::assignment : goal.decreases-expressions::assignment
decreases-expressions::assignment l = 3000 * l.below + 220

abbrev pub decreases-expressions::followed : goal.decreases-expressions::followed
decreases-expressions::followed l = 3000 * l.below + 10

abbrev pub decreases-expressions::commas : goal.decreases-expressions::commas
decreases-expressions::commas l = 3000 * l.below + 230

abbrev pub decreases-expressions::sequence : goal.decreases-expressions::sequence
decreases-expressions::sequence l = 3000 * l.below + 240

abbrev pub decreases-declarators::pointed : goal.decreases-declarators::pointed
decreases-declarators::pointed l = 3000 * l.below + 10 * l.room + 301

abbrev pub decreases-declarators::inside : goal.decreases-declarators::inside
decreases-declarators::inside l = 3000 * l.below + 10 * l.room + 301

abbrev pub decreases-declarators::in_parentheses : goal.decreases-declarators::in_parentheses
decreases-declarators::in_parentheses l = 3000 * l.below + 10 * l.room + 302

abbrev pub decreases-declarators::arrayed : goal.decreases-declarators::arrayed
decreases-declarators::arrayed l = 3000 * l.below + 10 * l.room + 303

abbrev pub decreases-declarators::arrays : goal.decreases-declarators::arrays
decreases-declarators::arrays l = 3000 * l.below + 10 * l.room + 304

abbrev pub decreases-declarators::enclosed : goal.decreases-declarators::enclosed
decreases-declarators::enclosed l = 3000 * l.below + 10 * l.room + 303

abbrev pub decreases-declarators::direct : goal.decreases-declarators::direct
decreases-declarators::direct l = 3000 * l.below + 10 * l.room + 305

abbrev pub decreases-declarators::abstract_declarator : goal.decreases-declarators::abstract_declarator
decreases-declarators::abstract_declarator l = 3000 * l.below + 10 * l.room + 306

abbrev pub decreases-declarators::declarator : goal.decreases-declarators::declarator
decreases-declarators::declarator l = 3000 * l.below + 10 * l.room + 300

abbrev pub decreases-declarators::sized : goal.decreases-declarators::sized
decreases-declarators::sized l = 3000 * l.below + 300

abbrev pub decreases-type_names::type_named : goal.decreases-type_names::type_named
decreases-type_names::type_named l = 3000 * l.below + 2900

abbrev pub invariant-postfix::suffixes-loop-turn : goal.invariant-postfix::suffixes-loop-turn
invariant-postfix::suffixes-loop-turn l =
    let w = meant l.fn.lexicon in
    let turn = nested spec.suffixed w l.fn.below in
    (loop (lexeme.is_suffix w) turn (length l.fn.first.rest.now) (plain_found l.fn.first) l.fn.first.rest.now
    ≡ loop (lexeme.is_suffix w) turn (l.most - l._turn) (plain_found l.found) l.found.rest.now)
    × IsKnown l.found
    × (l.found.depth ≤ l.fn.below + 1)

abbrev pub invariant-expressions::operators-loop-turn : goal.invariant-expressions::operators-loop-turn
invariant-expressions::operators-loop-turn l =
    let w = meant l.fn.lexicon in
    let turn = nested spec.operated w l.fn.below l.fn.tighter in
    (loop (lexeme.is_operator w (suc l.fn.tighter)) turn (length l.fn.first.rest.now) (plain_found l.fn.first) l.fn.first.rest.now
    ≡ loop (lexeme.is_operator w (suc l.fn.tighter)) turn (l.most - l._turn) (plain_found l.found) l.found.rest.now)
    × IsKnown l.found
    × (l.found.depth ≤ l.fn.below + 1)

abbrev pub invariant-expressions::commas-loop-turn : goal.invariant-expressions::commas-loop-turn
invariant-expressions::commas-loop-turn l =
    let w = meant l.fn.lexicon in
    let turn = nested spec.followed w l.fn.below in
    (loop (lexeme.is_comma w) turn (length l.fn.first.rest.now) (plain_found l.fn.first) l.fn.first.rest.now
    ≡ loop (lexeme.is_comma w) turn (l.most - l._turn) (plain_found l.found) l.found.rest.now)
    × IsKnown l.found
    × (l.found.depth ≤ l.fn.below + 1)

abbrev pub invariant-postfix::more_arguments-loop-turn : goal.invariant-postfix::more_arguments-loop-turn
invariant-postfix::more_arguments-loop-turn l =
    let w = meant l.fn.lexicon in
    let turn = nested spec.next_argument w l.fn.below in
    (loop (lexeme.is_comma w) turn (length l.fn.first.rest.now) (plain_exprs l.fn.first.list.items) l.fn.first.rest.now
    ≡ loop (lexeme.is_comma w) turn (l.most - l._turn) (plain_exprs l.found.list.items) l.found.rest.now)
    × IsListKnown l.found
    × (l.found.depth ≤ l.fn.below)

abbrev pub invariant-declarators::arrays-loop-turn : goal.invariant-declarators::arrays-loop-turn
invariant-declarators::arrays-loop-turn l =
    let w = meant l.fn.lexicon in
    let turn = piecewise spec.arrayed w l.fn.below l.fn.room in
    (loop (lexeme.is_open_bracket w) turn (length l.fn.first.rest.now) (plain_pieces l.fn.first.list.items) l.fn.first.rest.now
    ≡ loop (lexeme.is_open_bracket w) turn (l.most - l._turn) (plain_pieces l.found.list.items) l.found.rest.now)
    × IsDeep l.found
    × IsSized l.fn.below (l.fn.room + 1) l.found
