use Rattle.std.proofs.Common.{◌≡◌, ◌+◌, ◌*◌, ◌-◌, not, length}
use Rattle.sb_base.specs.declared.tokens.Token.{Token}
use Rattle.sb_parse.specs.Parser.{loop}
use Rattle.sb_specifier.specs.Readers.{is_close_brace}
use Rattle.sb_specifier.specs.Specified.{reading}
use Rattle.sb_statement.specs.Meaning.{plain_body}
use Rattle.sb_statement.specs.Readers.{statements}
use Rattle.sb_block.proofs.+statement.Given as goal

abbrev pub decreases-statements::statement_within : goal.decreases-statements::statement_within
decreases-statements::statement_within l = 1000 * l.left

abbrev pub decreases-statements::block_within : goal.decreases-statements::block_within
decreases-statements::block_within l = 1000 * l.left

abbrev pub decreases-statements::item_within : goal.decreases-statements::item_within
decreases-statements::item_within l = 1000 * l.left

abbrev pub decreases-labels::labelled : goal.decreases-labels::labelled
decreases-labels::labelled l = 1000 * l.below + 10

abbrev pub decreases-labels::case_of : goal.decreases-labels::case_of
decreases-labels::case_of l = 1000 * l.below + 10

abbrev pub decreases-labels::default_of : goal.decreases-labels::default_of
decreases-labels::default_of l = 1000 * l.below + 10

abbrev pub decreases-labels::cased : goal.decreases-labels::cased
decreases-labels::cased l = 1000 * l.below + 20

abbrev pub decreases-labels::by_name : goal.decreases-labels::by_name
decreases-labels::by_name l = 1000 * l.below + 20

abbrev pub decreases-iteration::repeated : goal.decreases-iteration::repeated
decreases-iteration::repeated l = 1000 * l.below + 10

abbrev pub decreases-iteration::done_first : goal.decreases-iteration::done_first
decreases-iteration::done_first l = 1000 * l.below + 10

abbrev pub decreases-iteration::stepped : goal.decreases-iteration::stepped
decreases-iteration::stepped l = 1000 * l.below + 10

abbrev pub decreases-iteration::iterated : goal.decreases-iteration::iterated
decreases-iteration::iterated l = 1000 * l.below + 20

abbrev pub decreases-selection::other : goal.decreases-selection::other
decreases-selection::other l = 1000 * l.below + 10

abbrev pub decreases-selection::switched : goal.decreases-selection::switched
decreases-selection::switched l = 1000 * l.below + 10

abbrev pub decreases-selection::selected : goal.decreases-selection::selected
decreases-selection::selected l = 1000 * l.below + 20

abbrev pub decreases-statements::jumping : goal.decreases-statements::jumping
decreases-statements::jumping l = 1000 * l.below + 30

abbrev pub decreases-blocks::more_items : goal.decreases-blocks::more_items
decreases-blocks::more_items l = 1000 * l.below + 10

abbrev pub decreases-blocks::block : goal.decreases-blocks::block
decreases-blocks::block l = 1000 * l.below + 20

abbrev pub decreases-blocks::statement_item : goal.decreases-blocks::statement_item
decreases-blocks::statement_item l = 1000 * l.below + 70

abbrev pub decreases-blocks::named_item : goal.decreases-blocks::named_item
decreases-blocks::named_item l = 1000 * l.below + 80

abbrev pub decreases-blocks::item : goal.decreases-blocks::item
decreases-blocks::item l = 1000 * l.below + 90

abbrev pub decreases-statements::iterating : goal.decreases-statements::iterating
decreases-statements::iterating l = 1000 * l.below + 40

abbrev pub decreases-statements::by_keyword : goal.decreases-statements::by_keyword
decreases-statements::by_keyword l = 1000 * l.below + 50

abbrev pub decreases-statements::statement : goal.decreases-statements::statement
decreases-statements::statement l = 1000 * l.below + 60

abbrev pub invariant-blocks::more_items-loop-turn : goal.invariant-blocks::more_items-loop-turn
invariant-blocks::more_items-loop-turn l =
    let goes = λ (t : Token). not (is_close_brace (reading l.fn.names.texts l.fn.types) t) in
    let turn = (statements l.fn.names.texts l.fn.below).item l.fn.cases in
    loop goes turn (length l.fn.start.rest.now) (plain_body l.fn.start.value) l.fn.start.rest.now
    ≡ loop goes turn (l.most - l._turn) (plain_body l.found.value) l.found.rest.now

abbrev pub decreases-blocks::items : goal.decreases-blocks::items
decreases-blocks::items l = 1000 * l.below + 15
