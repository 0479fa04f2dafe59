-- The readers of each depth, and those of a greater one.
use Rattle.std.proofs.Common.{◌≡◌, ◌≤◌, ◌-◌, ℕ, zero, suc, Bool, true, false, ◌||◌, ◌&&◌, List, [], ◌∷◌, length, Option, Some, None, if◌then◌else◌, refl, ap, ◌∙◌, arith}
use Rattle.std.specs.Option.{option_map_or}
use Rattle.sb_base.specs.declared.tokens.Token.{Token}
use Rattle.sb_parse.specs.Parser.{Outcome, Parser, done, stop, at_next, and_then, ◌>>=◌, pure, token, taken, guard, loop}
use Rattle.sb_sign.specs.declared.sign.Keyword.{Keyword}
use Rattle.sb_sign.specs.declared.sign.Keyword.TheVariants as keyword
use Rattle.sb_sign.specs.Signs as sign
use Rattle.sb_tree.specs.Trees.{TypeTree, depth_of_type}
use Rattle.sb_parse.specs.Descent.{descent}
use Rattle.sb_expr.specs.Expression.{Level, Assignment}
use Rattle.sb_lexicon.specs.Lexicon.{Lexicon, is_keyword, is_type_name, is_type_keyword, is_type_word}
use Rattle.sb_operand.specs.Pieces.{Declared}
use Rattle.sb_lexicon.specs.Words.{Specifiers, unspecified, constantly, type_specified}
use Rattle.sb_expr.specs.Readers.{declarators, Parts, size_at, type_named, begins_at, no_type, parts}
use Rattle.sb_lexicon.specs.SpecifierReaders.{word_after, structure_named, enumeration_named, defined_by, specified, keyword_specifiers, defined, completed, base_type}
use Rattle.sb_lexicon.specs.Tokens.{unexpected, too_deep, floating, union, volatile, complex, is_zero}
use Rattle.sb_expr.proofs.telling.EachDepth.{refused_by}
use Rattle.sb_lexicon.proofs.Wider.{Held, short, same, Wider, alike}
use Rattle.sb_expr.proofs.widening.Starts.{expr_starts, group_starts}
use Rattle.sb_expr.proofs.widening.TypeNames.{type_wider}
use Rattle.sb_expr.proofs.widening.Expressions.{level_wider}

module _ (w : Lexicon) where
  -- ---- type names with room, by their first token

  module _ (n : ℕ) (part : ℕ → Parts) (t : Token) (ts : List Token) where
    abbrev with_declarator : TypeTree → Parser Token Declared
    with_declarator b = declarators w (size_at w n part) (suc n - depth_of_type b) 0 >>= (λ ps. pure (record { base = b; pieces = ps }))

    -- the rest of the reader behind its keywords
    abbrev later : Outcome Token Specifiers → Outcome Token Declared
    later o = and_then (and_then (and_then o (defined w (is_zero n))) (λ s. completed w (is_zero n) (type_specified s))) with_declarator

    by_word : (i left : ℕ) → is_type_word w t ≡ true → specified w (is_zero n) unspecified (t ∷ ts) ≡ stop i left → type_named w n part (t ∷ ts) ≡ stop i left
    unfolding type_named base_type keyword_specifiers loop
    by_word i left h e =
        ap (λ b. later (if b then and_then (specified w (is_zero n) unspecified (t ∷ ts)) (loop (is_type_word w) (specified w (is_zero n)) (length ts)) else done unspecified (t ∷ ts))) h
        ∙ ap (λ o. later (and_then o (loop (is_type_word w) (specified w (is_zero n)) (length ts)))) e

    by_none : is_type_word w t ≡ false → is_type_name w t ≡ false → type_named w n part (t ∷ ts) ≡ stop unexpected (length (t ∷ ts))
    unfolding type_named base_type keyword_specifiers defined loop
    by_none h k =
        ap (λ b. later (if b then and_then (specified w (is_zero n) unspecified (t ∷ ts)) (loop (is_type_word w) (specified w (is_zero n)) (length ts)) else done unspecified (t ∷ ts))) h
        ∙ ap (λ b. and_then (and_then (if b then (token unexpected (is_type_name w) >>= (λ t. keyword_specifiers w (is_zero n) (defined_by unspecified t))) (t ∷ ts) else done unspecified (t ∷ ts)) (λ s. completed w (is_zero n) (type_specified s))) with_declarator) k

    -- the outcome of one specifier by the keyword
    abbrev specified_by : (a b c d e : Outcome Token Specifiers) → Option Keyword → Outcome Token Specifiers
    specified_by a b c d e o =
        if option_map_or (sign.is_same_keyword keyword.Const) o false then a
        else (if option_map_or (sign.is_same_keyword keyword.Restrict) o false then b
        else (if option_map_or (sign.is_same_keyword keyword.Struct) o false && true then c
        else (if option_map_or (sign.is_same_keyword keyword.Enum) o false && true then d
        else (if (option_map_or (sign.is_same_keyword keyword.Float) o false && true) || (option_map_or (sign.is_same_keyword keyword.Double) o false && true) then stop floating (length (t ∷ ts))
        else (if option_map_or (sign.is_same_keyword keyword.Union) o false && true then stop union (length (t ∷ ts))
        else (if option_map_or (sign.is_same_keyword keyword.Volatile) o false then stop volatile (length (t ∷ ts))
        else (if (option_map_or (sign.is_same_keyword keyword.Complex) o false || option_map_or (sign.is_same_keyword keyword.Imaginary) o false) && true then stop complex (length (t ∷ ts))
        else e)))))))

    by_specifier : (k : Keyword) → sign.keyword_of w.texts t ≡ Some k → specified w (is_zero n) unspecified (t ∷ ts)
        ≡ specified_by (guard (is_zero n) too_deep (token unexpected (is_keyword w keyword.Const) >>= (λ t. pure (constantly unspecified))) (t ∷ ts)) ((token unexpected (is_keyword w keyword.Restrict) >>= (λ t. pure unspecified)) (t ∷ ts))
        ((token unexpected (is_keyword w keyword.Struct) >>= (λ t. taken unexpected (structure_named w unspecified))) (t ∷ ts)) ((token unexpected (is_keyword w keyword.Enum) >>= (λ t. taken unexpected (enumeration_named w unspecified))) (t ∷ ts))
        (taken unexpected (word_after w unspecified) (t ∷ ts)) (Some k)
    unfolding specified
    by_specifier k h =
        ap (specified_by (guard (is_zero n) too_deep (token unexpected (is_keyword w keyword.Const) >>= (λ t. pure (constantly unspecified))) (t ∷ ts)) ((token unexpected (is_keyword w keyword.Restrict) >>= (λ t. pure unspecified)) (t ∷ ts))
        ((token unexpected (is_keyword w keyword.Struct) >>= (λ t. taken unexpected (structure_named w unspecified))) (t ∷ ts)) ((token unexpected (is_keyword w keyword.Enum) >>= (λ t. taken unexpected (enumeration_named w unspecified))) (t ∷ ts))
        (taken unexpected (word_after w unspecified) (t ∷ ts))) h

    feature_there : (k : Keyword) (i : ℕ) → sign.keyword_of w.texts t ≡ Some k → is_type_keyword k ≡ true → specified w (is_zero n) unspecified (t ∷ ts) ≡ stop i (length (t ∷ ts)) → Held (stop i (length (t ∷ ts))) (type_named w n part (t ∷ ts))
    feature_there k i h word e = same (by_word i (length (t ∷ ts)) (ap (λ o. option_map_or is_type_keyword o false) h ∙ word) e)

    by_name : (named : Bool) → is_type_name w t ≡ named → is_type_word w t ≡ false → Held (if named then stop too_deep (length (t ∷ ts)) else stop unexpected (length (t ∷ ts))) (type_named w n part (t ∷ ts))
    by_name true h word = short (length (t ∷ ts)) refl
    by_name false h word = same (by_none word h)

    by_keyword : (o : Option Keyword) → sign.keyword_of w.texts t ≡ o → Held (refused_by w t ts o (is_type_name w t)) (type_named w n part (t ∷ ts))
    by_keyword None h = by_name (is_type_name w t) refl (ap (λ o. option_map_or is_type_keyword o false) h)
    by_keyword (Some keyword.Void) h = short (length (t ∷ ts)) refl
    by_keyword (Some keyword.Bool) h = short (length (t ∷ ts)) refl
    by_keyword (Some keyword.Char) h = short (length (t ∷ ts)) refl
    by_keyword (Some keyword.Short) h = short (length (t ∷ ts)) refl
    by_keyword (Some keyword.Int) h = short (length (t ∷ ts)) refl
    by_keyword (Some keyword.Long) h = short (length (t ∷ ts)) refl
    by_keyword (Some keyword.Signed) h = short (length (t ∷ ts)) refl
    by_keyword (Some keyword.Unsigned) h = short (length (t ∷ ts)) refl
    by_keyword (Some keyword.Struct) h = short (length (t ∷ ts)) refl
    by_keyword (Some keyword.Enum) h = short (length (t ∷ ts)) refl
    by_keyword (Some keyword.Const) h = short (length (t ∷ ts)) refl
    by_keyword (Some keyword.Restrict) h = short (length (t ∷ ts)) refl
    by_keyword (Some keyword.Float) h = feature_there keyword.Float floating h refl (by_specifier keyword.Float h)
    by_keyword (Some keyword.Double) h = feature_there keyword.Double floating h refl (by_specifier keyword.Double h)
    by_keyword (Some keyword.Union) h = feature_there keyword.Union union h refl (by_specifier keyword.Union h)
    by_keyword (Some keyword.Volatile) h = feature_there keyword.Volatile volatile h refl (by_specifier keyword.Volatile h)
    by_keyword (Some keyword.Complex) h = feature_there keyword.Complex complex h refl (by_specifier keyword.Complex h)
    by_keyword (Some keyword.Imaginary) h = feature_there keyword.Imaginary complex h refl (by_specifier keyword.Imaginary h)
    by_keyword (Some _) h = by_name (is_type_name w t) refl (ap (λ o. option_map_or is_type_keyword o false) h)

  type_starts : (n : ℕ) (part : ℕ → Parts) → Wider (no_type w) (type_named w n part)
  unfolding type_named base_type keyword_specifiers defined loop
  type_starts n part [] = same refl
  type_starts n part (t ∷ ts) = by_keyword n part t ts (sign.keyword_of w.texts t) refl

  no_type_wider : (m k : ℕ) → Wider (no_type w) (parts w m k).type_name
  unfolding descent
  no_type_wider zero k = alike (no_type w)
  no_type_wider (suc m) zero = type_starts m (parts w m)
  no_type_wider (suc m) (suc k) = no_type_wider m k

  -- ---- expressions without room

  no_expr_wider : (m k : ℕ) (level : Level) → Wider ((parts w 0 k).expr level) ((parts w m k).expr level)
  unfolding descent
  no_expr_wider m k level ts = by_test (at_next (begins_at w level) ts) refl
    where
      by_test : (b : Bool) → at_next (begins_at w level) ts ≡ b → Held (if b then stop too_deep (length ts) else stop unexpected (length ts)) ((parts w m k).expr level ts)
      by_test true h = short (length ts) refl
      by_test false h = same (expr_starts w m k level ts h)

  -- ---- each depth

  pub parts_wider : (n m k : ℕ) → n ≤ m → ((level : Level) → Wider ((parts w n k).expr level) ((parts w m k).expr level)) × Wider (parts w n k).type_name (parts w m k).type_name
  unfolding descent
  parts_wider zero m k le = (no_expr_wider m k, no_type_wider m k)
  parts_wider (suc n) zero k le = absurd (omega arith)
  parts_wider (suc n) (suc m) zero le =
      let below : n ≤ m = omega arith in (
        level_wider w n m below (parts w n) (parts w m) (parts_wider n m 0 below).0 (parts_wider n m 0 below).1 (group_starts w m),
        type_wider w n m below (parts w n) (parts w m) (λ k. (parts_wider n m k below).0 Assignment),
      )
  parts_wider (suc n) (suc m) (suc k) le = parts_wider n m k (omega arith)
