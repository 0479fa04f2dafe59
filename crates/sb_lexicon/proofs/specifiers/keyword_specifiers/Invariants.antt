use Rattle.std.proofs.Common.{◌≡◌, ◌-◌, ◌<◌, length, true}
use Rattle.sb_parse.specs.Parser.{loop}
use Rattle.sb_lexicon.specs.Lexicon.{is_type_word}
use Rattle.sb_lexicon.specs.Meaning.{meant, plain_specifiers}
use Rattle.sb_lexicon.specs.SpecifierReaders.{specified}
use Rattle.sb_lexicon.specs.Tokens.{is_zero}
use Rattle.sb_lexicon.proofs.specifiers.keyword_specifiers.Given as goal

abbrev pub invariant-loop-turn : goal.invariant-loop-turn
invariant-loop-turn l =
    let w = meant l.fn.lexicon in
    let turn = specified w (is_zero l.fn.below) in
    (loop (is_type_word w) turn (length l.fn.tokens) (plain_specifiers l.fn.first) l.fn.tokens
    ≡ loop (is_type_word w) turn (l._turn-end - l._turn) (plain_specifiers l.found.value) l.found.rest.now)
    × (l.found.value.constant ≡ true → 0 < l.fn.below)
