-- The parts of the readers of specifiers that are functions of their own in code.
use Rattle.std.specs.Prelude.{Bool, ◌&&◌, Option, Some, None}
use Rattle.sb_base.specs.declared.tokens.Token.{Token}
use Rattle.sb_parse.specs.Parser.{Parser, ◌>>=◌, pure, refuse, token, taken, choose, guard}
use Rattle.sb_sign.specs.declared.sign.Keyword.TheVariants as keyword
use Rattle.sb_tree.specs.Trees.{TypeTree}
use Rattle.sb_lexicon.specs.Lexicon.{Lexicon, is_keyword, is_type_name}
use Rattle.sb_lexicon.specs.SpecifierReaders.{is_floating, is_union, is_complex, word_after, structure_named, enumeration_named, SpecifierReader}
use Rattle.sb_lexicon.specs.Tokens.{unexpected, too_deep, floating, union, volatile, complex}
use Rattle.sb_lexicon.specs.Words.{Said, Specifiers, is_nothing, constantly}

abbrev pub names_type : Lexicon → Said → Token → Bool
names_type w said t = is_nothing said && is_type_name w t

abbrev pub constant : Lexicon → Bool → Specifiers → SpecifierReader
constant w bar s = guard bar too_deep (token unexpected (is_keyword w keyword.Const) >>= (λ t. pure (constantly s)))

abbrev pub structure : Lexicon → Specifiers → SpecifierReader
structure w s = token unexpected (is_keyword w keyword.Struct) >>= (λ t. taken unexpected (structure_named w s))

abbrev pub enumeration : Lexicon → Specifiers → SpecifierReader
enumeration w s = token unexpected (is_keyword w keyword.Enum) >>= (λ t. taken unexpected (enumeration_named w s))

-- a word of an arithmetic type, or one that is left out
abbrev pub word_or_lacking : Lexicon → Specifiers → SpecifierReader
word_or_lacking w s =
    choose (is_floating w s.said) (refuse floating)
    (choose (is_union w s.said) (refuse union)
    (choose (is_keyword w keyword.Volatile) (refuse volatile)
    (choose (is_complex w s.said) (refuse complex)
    (taken unexpected (word_after w s)))))

abbrev pub completed : Option TypeTree → Parser Token TypeTree
completed None = refuse unexpected
completed (Some t) = pure t
