use Rattle.std.proofs.Common.{◌≡◌, ◌-◌, ◌<◌, length, true, false}
use Rattle.sb_parse.specs.Parser.{loop}
use Rattle.sb_lexicon.specs.Meaning.{meant}
use Rattle.sb_operand.specs.Readers.{qualifier}
use Rattle.sb_lexicon.specs.Tokens.{is_qualifier}
use Rattle.sb_operand.proofs.declarators.qualifiers.Given as goal

abbrev pub invariant-loop-turn : goal.invariant-loop-turn
invariant-loop-turn l =
    let w = meant l.fn.lexicon in
    (loop (is_qualifier w) (qualifier w l.fn.room) (length l.fn.tokens) false l.fn.tokens
    ≡ loop (is_qualifier w) (qualifier w l.fn.room) (l._turn-end - l._turn) l.found.value l.found.rest.now)
    × (l.found.value ≡ true → 0 < l.fn.room)
