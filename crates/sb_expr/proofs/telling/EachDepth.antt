-- Why the readers of each depth stop.
use Rattle.std.proofs.Common.{◌≡◌, ℕ, zero, suc, Bool, true, false, ◌||◌, ◌&&◌, List, [], ◌∷◌, ◌++◌, Option, Some, None, if◌then◌else◌, refl, ap, ◌∙◌, append-nil, subst, length}
use Rattle.std.specs.Option.{option_map_or}
use Rattle.sb_base.specs.declared.tokens.Token.{Token}
use Rattle.sb_parse.specs.Parser.{Outcome, stop}
use Rattle.sb_parse.specs.Read.{CanBegin}
use Rattle.sb_sign.specs.declared.sign.Keyword.{Keyword}
use Rattle.sb_sign.specs.declared.sign.Keyword.TheVariants as keyword
use Rattle.sb_sign.specs.Signs as sign
use Rattle.sb_lexicon.specs.declared.words.TypeWords.{TypeWords}
use Rattle.sb_parse.specs.Descent.{descent}
use Rattle.sb_lexicon.specs.Lexicon.{Lexicon, is_keyword, is_type_name, is_type_keyword}
use Rattle.sb_operand.specs.Pieces.{Declared}
use Rattle.sb_lexicon.specs.Words.{Words, Specifiers, unspecified, saying, put, no_words, worded}
use Rattle.sb_expr.specs.Expression.{Level, Assignment, IsExpr, IsType, is_type, is_direct, is_nothing_more}
use Rattle.sb_lexicon.specs.Specifiers.{IsSpecifier, is_word, is_constant, is_restricted, is_structure, is_enumeration, is_defined, no_specifiers, more_specifiers}
use Rattle.sb_expr.specs.Readers.{no_type, Parts, parts}
use Rattle.sb_lexicon.specs.SpecifierReaders.{defined_by}
use Rattle.sb_lexicon.specs.Tokens.{unexpected, too_deep, floating, union, volatile, complex}
use Rattle.sb_lexicon.proofs.Lexemes.{name_token, name_token_is}
use Rattle.sb_lexicon.proofs.Grounds.{plain, deep, lacking, Why, Fair, Grounded, begin_as}
use Rattle.sb_expr.proofs.telling.TypeNames.{Named, Based, based, type_grounded}
use Rattle.sb_expr.proofs.telling.Expressions.{none_grounded, expr_grounded}

-- ---- type names without room

module _ (w : Lexicon) where
  -- Some type name begins with a specifier's first token.
  begins_with : (t : Token) (xs : List Token) (s : Specifiers) → IsSpecifier w unspecified (t ∷ xs) s → CanBegin (IsType w) (t ∷ [])
  begins_with t xs s is =
      let all : CanBegin (IsType w) (t ∷ xs) = begin_as (Based w false) (IsType w) (λ ts t b. record { rest = []; tree = record { base = t; pieces = [] }; is = is_type ts [] b.value t [] b.is b.gives_it (is_direct [] [] is_nothing_more) }) (t ∷ xs) (based w false (t ∷ xs) s named) in
      record { rest = xs ++ all.rest; tree = all.tree; is = all.is }
    where
      named : Named w false (t ∷ xs) s
      named = subst (λ z. Named w false z s) (append-nil (t ∷ xs)) (more_specifiers unspecified s s (t ∷ xs) [] is (no_specifiers s))

  module _ (t : Token) (ts : List Token) where
    -- the outcome by the keyword and by whether the token names a type
    abbrev pub refused_by : Option Keyword → Bool → Outcome Token Declared
    refused_by o named =
        if (option_map_or (sign.is_same_keyword keyword.Float) o false && true) || (option_map_or (sign.is_same_keyword keyword.Double) o false && true) then stop floating (length (t ∷ ts))
        else (if option_map_or (sign.is_same_keyword keyword.Union) o false && true then stop union (length (t ∷ ts))
        else (if option_map_or (sign.is_same_keyword keyword.Volatile) o false then stop volatile (length (t ∷ ts))
        else (if (option_map_or (sign.is_same_keyword keyword.Complex) o false || option_map_or (sign.is_same_keyword keyword.Imaginary) o false) && true then stop complex (length (t ∷ ts))
        else (if option_map_or is_type_keyword o false || named then stop too_deep (length (t ∷ ts))
        else stop unexpected (length (t ∷ ts))))))

    too_deep_here : CanBegin (IsType w) (t ∷ []) → Why w (IsType w) (t ∷ ts) too_deep (length (t ∷ ts))
    too_deep_here c = deep [] t refl (record { rest = ts; split = refl; left_is = refl }) c

    word_here : (k : Keyword) (v : TypeWords) → sign.keyword_of w.texts t ≡ Some k → put k no_words ≡ Some v → Why w (IsType w) (t ∷ ts) too_deep (length (t ∷ ts))
    word_here k v h e = too_deep_here (begins_with t [] (saying (Words v t.place) unspecified) (is_word unspecified t k (Words v t.place) h (ap (worded t.place) e)))

    by_name : (named : Bool) → is_type_name w t ≡ named → Fair w (IsType w) (t ∷ ts) (if named then stop too_deep (length (t ∷ ts)) else stop unexpected (length (t ∷ ts)))
    by_name true h = too_deep_here (begins_with t [] (defined_by unspecified t) (is_defined unspecified t h refl))
    by_name false h = plain refl

    keyword_there : (k : Keyword) → sign.keyword_of w.texts t ≡ Some k → sign.is_same_keyword k k ≡ true → is_keyword w k t ≡ true
    keyword_there k h same = ap (λ o. option_map_or (sign.is_same_keyword k) o false) h ∙ same

    by_keyword : (o : Option Keyword) → sign.keyword_of w.texts t ≡ o → Fair w (IsType w) (t ∷ ts) (refused_by o (is_type_name w t))
    by_keyword None h = by_name (is_type_name w t) refl
    by_keyword (Some keyword.Void) h = word_here keyword.Void _ h refl
    by_keyword (Some keyword.Bool) h = word_here keyword.Bool _ h refl
    by_keyword (Some keyword.Char) h = word_here keyword.Char _ h refl
    by_keyword (Some keyword.Short) h = word_here keyword.Short _ h refl
    by_keyword (Some keyword.Int) h = word_here keyword.Int _ h refl
    by_keyword (Some keyword.Long) h = word_here keyword.Long _ h refl
    by_keyword (Some keyword.Signed) h = word_here keyword.Signed _ h refl
    by_keyword (Some keyword.Unsigned) h = word_here keyword.Unsigned _ h refl
    by_keyword (Some keyword.Struct) h = too_deep_here (begins_with t (name_token ∷ []) _ (is_structure unspecified t name_token name_token.text (keyword_there keyword.Struct h refl) refl (name_token_is w)))
    by_keyword (Some keyword.Enum) h = too_deep_here (begins_with t (name_token ∷ []) _ (is_enumeration unspecified t name_token name_token.text (keyword_there keyword.Enum h refl) refl (name_token_is w)))
    by_keyword (Some keyword.Const) h = too_deep_here (begins_with t [] _ (is_constant unspecified t (keyword_there keyword.Const h refl)))
    by_keyword (Some keyword.Restrict) h = too_deep_here (begins_with t [] _ (is_restricted unspecified t (keyword_there keyword.Restrict h refl)))
    by_keyword (Some keyword.Float) h = lacking 1 [] t refl (record { rest = ts; split = refl; left_is = refl }) (ap (λ o. option_map_or (sign.is_same_keyword keyword.Float) o false || is_keyword w keyword.Double t) h)
    by_keyword (Some keyword.Double) h =
        lacking 1 [] t refl (record { rest = ts; split = refl; left_is = refl }) (ap (λ o. option_map_or (sign.is_same_keyword keyword.Float) o false || option_map_or (sign.is_same_keyword keyword.Double) o false) h)
    by_keyword (Some keyword.Union) h = lacking 2 [] t refl (record { rest = ts; split = refl; left_is = refl }) (keyword_there keyword.Union h refl)
    by_keyword (Some keyword.Volatile) h = lacking 7 [] t refl (record { rest = ts; split = refl; left_is = refl }) (keyword_there keyword.Volatile h refl)
    by_keyword (Some keyword.Complex) h = lacking 8 [] t refl (record { rest = ts; split = refl; left_is = refl }) (ap (λ o. option_map_or (sign.is_same_keyword keyword.Complex) o false || is_keyword w keyword.Imaginary t) h)
    by_keyword (Some keyword.Imaginary) h =
        lacking 8 [] t refl (record { rest = ts; split = refl; left_is = refl }) (ap (λ o. option_map_or (sign.is_same_keyword keyword.Complex) o false || option_map_or (sign.is_same_keyword keyword.Imaginary) o false) h)
    by_keyword (Some _) h = by_name (is_type_name w t) refl

  no_type_grounded : Grounded w (IsType w) (no_type w)
  no_type_grounded [] = plain refl
  no_type_grounded (t ∷ ts) = by_keyword t ts (sign.keyword_of w.texts t) refl

-- ---- each depth

abbrev pub GroundedParts : Lexicon → Parts → Type 0
GroundedParts w p = ((level : Level) → Grounded w (IsExpr w level) (p.expr level)) × Grounded w (IsType w) p.type_name

pub parts_grounded : (w : Lexicon) (left k : ℕ) → GroundedParts w (parts w left k)
unfolding descent
parts_grounded w zero k = (none_grounded w, no_type_grounded w)
parts_grounded w (suc n) zero = (
  expr_grounded w n (parts w n) (parts_grounded w n 0).0 (parts_grounded w n 0).1,
  type_grounded w n (parts w n) (λ k. (parts_grounded w n k).0 Assignment),
)
parts_grounded w (suc n) (suc k) = parts_grounded w n k
