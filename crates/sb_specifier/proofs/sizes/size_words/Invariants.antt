use Rattle.std.proofs.Common.{◌≡◌, ◌-◌, length, false}
use Rattle.sb_parse.specs.Parser.{loop}
use Rattle.sb_lexicon.specs.Meaning.{meant}
use Rattle.sb_specifier.specs.Sizes.{is_size_word, size_word}
use Rattle.sb_specifier.proofs.sizes.size_words.Given as goal

abbrev pub invariant-loop-turn : goal.invariant-loop-turn
invariant-loop-turn l =
    let w = meant l.fn.lexicon in
    loop (is_size_word w) (size_word w) (length l.fn.tokens) (false, false) l.fn.tokens
    ≡ loop (is_size_word w) (size_word w) (l._turn-end - l._turn) l.found.value l.found.rest.now
