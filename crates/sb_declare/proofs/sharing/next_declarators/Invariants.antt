use Rattle.std.proofs.Common.{◌≡◌, ◌-◌, [], length}
use Rattle.sb_parse.specs.Parser.{loop}
use Rattle.sb_sign.specs.declared.sign.Mark.TheVariants as mark
use Rattle.sb_lexicon.specs.Lexicon.{is_mark}
use Rattle.sb_declare.specs.Openings.{plain_listing, next_declarator}
use Rattle.sb_specifier.specs.Specified.{reading}
use Rattle.sb_declare.proofs.sharing.next_declarators.Given as goal

abbrev pub invariant-loop-turn : goal.invariant-loop-turn
invariant-loop-turn l =
    let goes = is_mark (reading l.fn.names.texts []) mark.Comma in
    let turn = next_declarator l.fn.names.texts l.fn.below l.fn.shared in
    loop goes turn (length l.fn.first.rest.now) (plain_listing l.fn.first.value) l.fn.first.rest.now
    ≡ loop goes turn (l.most - l._turn) (plain_listing l.found.value) l.found.rest.now
