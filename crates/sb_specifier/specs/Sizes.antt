-- The readers of the sizes of arrays that are functions of their own in code.
use Rattle.std.specs.Prelude.{◌-◌, ℕ, suc, Bool, true, false, ◌&&◌, ◌||◌, not, if◌then◌else◌}
use Rattle.sb_base.specs.declared.tokens.Token.{Token}
use Rattle.sb_parse.specs.Parser.{Parser, ◌>>=◌, pure, refuse, token, choose, looped, guard}
use Rattle.sb_sign.specs.declared.sign.Keyword.TheVariants as keyword
use Rattle.sb_tree.specs.Trees as tree
use Rattle.sb_tree.specs.Trees.{OptionalExpr}
use Rattle.sb_expr.specs.Expression.{Assignment}
use Rattle.sb_lexicon.specs.Lexicon.{Lexicon, is_keyword}
use Rattle.sb_lexicon.specs.Tokens as lexeme
use Rattle.sb_expr.specs.Readers.{expr_reader}
use Rattle.sb_lexicon.specs.Tokens.{unexpected, is_close_bracket, is_qualifier}

-- ---- sizes of arrays under n pieces

abbrev pub size : Lexicon → (below n : ℕ) → Parser Token OptionalExpr
size w below n = expr_reader w (below - suc n) Assignment >>= (λ e. pure (tree.AnExpr e))

abbrev pub sized : Lexicon → (below n : ℕ) → Parser Token OptionalExpr
sized w below n = choose (is_close_bracket w) (pure tree.NoExpr) (size w below n)

abbrev pub is_size_word : Lexicon → Token → Bool
is_size_word w t = is_keyword w keyword.Static t || is_qualifier w t

abbrev pub is_first_static : Lexicon → Bool → Token → Bool
is_first_static w fixed t = is_keyword w keyword.Static t && not fixed

-- `found`: whether qualifiers stand before `static`, and whether it was read: `[static const 3]` and `[const static 3]` are read, and `[const static const 3]` is refused at the second `const`
abbrev pub size_word : Lexicon → Bool × Bool → Parser Token (Bool × Bool)
size_word w found =
    choose (is_first_static w found.1) (token unexpected (is_keyword w keyword.Static) >>= (λ t. pure (found.0, true)))
    (guard (found.0 && found.1) unexpected
    (choose (is_keyword w keyword.Volatile) (refuse lexeme.volatile)
    (token unexpected (is_qualifier w) >>= (λ t. pure (not found.1, found.1)))))

abbrev pub outermost_size : Lexicon → (below n : ℕ) → Parser Token OptionalExpr
outermost_size w below n = looped (is_size_word w) (size_word w) (false, false) >>= (λ found. if found.1 then size w below n else sized w below n)

abbrev pub array_size : Lexicon → Bool → (below n : ℕ) → Parser Token OptionalExpr
array_size w outermost below n = if outermost then outermost_size w below n else sized w below n
