-- Which lists of tokens are specifiers of a type name, and what they say: words, qualifiers and one tag or typedef name (C99 6.7.2, 6.7.3, 6.7.7).
use Rattle.std.specs.Prelude.{◌≡◌, true, List, [], ◌∷◌, ◌++◌, Some}
use Rattle.sb_base.specs.declared.interning.Name.{Name}
use Rattle.sb_base.specs.declared.tokens.Token.{Token}
use Rattle.sb_sign.specs.declared.sign.Keyword.{Keyword}
use Rattle.sb_sign.specs.declared.sign.Keyword.TheVariants as keyword
use Rattle.sb_sign.specs.Signs as sign
use Rattle.sb_tree.specs.Trees as tree
use Rattle.sb_lexicon.specs.Lexicon.{Lexicon, is_keyword, name_of, is_type_name}
use Rattle.sb_lexicon.specs.Words.{Said, Nothing, Whole, Specifiers, saying, constantly, said_after}

pub data IsSpecifier (w : Lexicon) : Specifiers → List Token → Specifiers → Type 0 where
  is_word : (s : Specifiers) (t : Token) (k : Keyword) (said : Said) → sign.keyword_of w.texts t ≡ Some k → said_after k t.place s.said ≡ Some said → IsSpecifier w s (t ∷ []) (saying said s)
  is_constant : (s : Specifiers) (t : Token) → is_keyword w keyword.Const t ≡ true → IsSpecifier w s (t ∷ []) (constantly s)
  is_restricted : (s : Specifiers) (t : Token) → is_keyword w keyword.Restrict t ≡ true → IsSpecifier w s (t ∷ []) s
  is_structure : (s : Specifiers) (t n : Token) (tag : Name) → is_keyword w keyword.Struct t ≡ true → s.said ≡ Nothing → name_of w n ≡ Some tag
      → IsSpecifier w s (t ∷ (n ∷ [])) (saying (Whole (tree.Struct (Some tag) tree.Undeclared n.place)) s)
  is_enumeration : (s : Specifiers) (t n : Token) (tag : Name) → is_keyword w keyword.Enum t ≡ true → s.said ≡ Nothing → name_of w n ≡ Some tag
      → IsSpecifier w s (t ∷ (n ∷ [])) (saying (Whole (tree.Enum (Some tag) tree.Unlisted n.place)) s)
  is_defined : (s : Specifiers) (t : Token) → is_type_name w t ≡ true → s.said ≡ Nothing → IsSpecifier w s (t ∷ []) (saying (Whole (tree.Defined t.text t.place)) s)

pub data AreSpecifiers (w : Lexicon) : Specifiers → List Token → Specifiers → Type 0 where
  no_specifiers : (s : Specifiers) → AreSpecifiers w s [] s
  more_specifiers : (s s' s'' : Specifiers) (xs ys : List Token) → IsSpecifier w s xs s' → AreSpecifiers w s' ys s'' → AreSpecifiers w s (xs ++ ys) s''
