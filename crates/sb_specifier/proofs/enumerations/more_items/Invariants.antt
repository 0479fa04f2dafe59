use Rattle.std.proofs.Common.{◌≡◌, ◌≤◌, ◌-◌, [], length}
use Rattle.sb_parse.specs.Parser.{loop}
use Rattle.sb_specifier.specs.Meaning.{plain_listing, AreItemsKnown}
use Rattle.sb_specifier.specs.Parts.{item}
use Rattle.sb_specifier.specs.Readers.{is_name}
use Rattle.sb_specifier.specs.Specified.{reading}
use Rattle.sb_specifier.proofs.enumerations.more_items.Given as goal

abbrev pub invariant-loop-turn : goal.invariant-loop-turn
invariant-loop-turn l =
    let goes = is_name (reading l.fn.names.texts []) in
    let turn = item l.fn.names.texts l.fn.left in
    (loop goes turn (length l.fn.tokens) (plain_listing l.fn.first) l.fn.tokens
    ≡ loop goes turn (length l.fn.tokens - l._turn) (plain_listing l.found.value) l.found.rest.now)
    × AreItemsKnown l.found.value
    × (l.found.value.depth ≤ l.fn.left)
