-- The readers of the specifiers of a type name, as functions on the tokens that are left (C99 6.7.2, 6.7.3, 6.7.7).
use Rattle.std.specs.Prelude.{Bool, true, false, ◌&&◌, ◌||◌, length, Option, Some, None}
use Rattle.std.specs.Option.{option_map_or}
use Rattle.sb_base.specs.declared.refusals.Place.{Place}
use Rattle.sb_base.specs.declared.tokens.Token.{Token}
use Rattle.sb_parse.specs.Parser.{Parser, ◌>>=◌, pure, refuse, token, taken, choose, guard, looped}
use Rattle.sb_sign.specs.declared.sign.Keyword.{Keyword}
use Rattle.sb_sign.specs.declared.sign.Keyword.TheVariants as keyword
use Rattle.sb_sign.specs.Signs as sign
use Rattle.sb_tree.specs.Trees as tree
use Rattle.sb_tree.specs.Trees.{TypeTree}
use Rattle.sb_lexicon.specs.declared.words.Length.{Length}
use Rattle.sb_lexicon.specs.declared.words.Length.TheVariants as lengths
use Rattle.sb_lexicon.specs.Lexicon.{Lexicon, is_keyword, name_of, is_type_name, is_type_word}
use Rattle.sb_lexicon.specs.Words.{Said, Nothing, Words, Whole, Specifiers, unspecified, saying, constantly, is_nothing, is_no_sign, is_no_kind, said_after, type_specified}
use Rattle.sb_lexicon.specs.Tokens.{unexpected, too_deep, floating, union, volatile, complex}

abbrev pub is_only_long : Length → Bool
is_only_long lengths.Long = true
is_only_long _ = false

-- `double` and `_Complex` may follow
abbrev pub may_be_floating : Said → Bool
may_be_floating Nothing = true
may_be_floating (Words v place) = is_no_sign v.sign && (is_only_long v.length && is_no_kind v.kind)
may_be_floating (Whole t) = false

abbrev pub is_floating : Lexicon → Said → Token → Bool
is_floating w said t = (is_keyword w keyword.Float t && is_nothing said) || (is_keyword w keyword.Double t && may_be_floating said)

abbrev pub is_complex : Lexicon → Said → Token → Bool
is_complex w said t = (is_keyword w keyword.Complex t || is_keyword w keyword.Imaginary t) && may_be_floating said

abbrev pub is_union : Lexicon → Said → Token → Bool
is_union w said t = is_keyword w keyword.Union t && is_nothing said

abbrev pub word_by : Place → Specifiers → Option Keyword → Option Specifiers
word_by place s None = None
word_by place s (Some k) = option_map_or (λ said. Some (saying said s)) (said_after k place s.said) None

-- the specifiers with one more word of an arithmetic type
abbrev pub word_after : Lexicon → Specifiers → Token → Option Specifiers
word_after w s t = word_by t.place s (sign.keyword_of w.texts t)

abbrev pub structure_named : Lexicon → Specifiers → Token → Option Specifiers
structure_named w s n = option_map_or (λ tag. Some (saying (Whole (tree.Struct (Some tag) tree.Undeclared n.place)) s)) (name_of w n) None

abbrev pub enumeration_named : Lexicon → Specifiers → Token → Option Specifiers
enumeration_named w s n = option_map_or (λ tag. Some (saying (Whole (tree.Enum (Some tag) tree.Unlisted n.place)) s)) (name_of w n) None

abbrev pub defined_by : Specifiers → Token → Specifiers
defined_by s t = saying (Whole (tree.Defined t.text t.place)) s

abbrev pub is_tag_word : Lexicon → Said → Keyword → Token → Bool
is_tag_word w said k t = is_keyword w k t && is_nothing said

abbrev pub SpecifierReader : Type 0
SpecifierReader = Parser Token Specifiers

-- `bar`: there is no room for a type inside another
module _ (w : Lexicon) (bar : Bool) where
  -- one specifier that begins with a keyword
  unfoldable pub specified : Specifiers → SpecifierReader
  specified s =
      choose (is_keyword w keyword.Const) (guard bar too_deep (token unexpected (is_keyword w keyword.Const) >>= (λ t. pure (constantly s))))
      (choose (is_keyword w keyword.Restrict) (token unexpected (is_keyword w keyword.Restrict) >>= (λ t. pure s))
      (choose (is_tag_word w s.said keyword.Struct) (token unexpected (is_keyword w keyword.Struct) >>= (λ t. taken unexpected (structure_named w s)))
      (choose (is_tag_word w s.said keyword.Enum) (token unexpected (is_keyword w keyword.Enum) >>= (λ t. taken unexpected (enumeration_named w s)))
      (choose (is_floating w s.said) (refuse floating)
      (choose (is_union w s.said) (refuse union)
      (choose (is_keyword w keyword.Volatile) (refuse volatile)
      (choose (is_complex w s.said) (refuse complex)
      (taken unexpected (word_after w s)))))))))

  unfoldable pub keyword_specifiers : Specifiers → SpecifierReader
  keyword_specifiers s = looped (is_type_word w) specified s

  abbrev pub names_type : Specifiers → Token → Bool
  names_type s t = is_nothing s.said && is_type_name w t

  -- a typedef name where no type is named so far
  unfoldable pub defined : Specifiers → SpecifierReader
  defined s = choose (names_type s) (token unexpected (is_type_name w) >>= (λ t. keyword_specifiers (defined_by s t))) (pure s)

  abbrev pub completed : Option TypeTree → Parser Token TypeTree
  completed None = refuse unexpected
  completed (Some t) = pure t

  unfoldable pub base_type : Parser Token TypeTree
  base_type = keyword_specifiers unspecified >>= defined >>= (λ s. completed (type_specified s))
