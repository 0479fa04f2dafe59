-- The readers that read no expression: what begins and ends the pieces of a declarator.
use Rattle.std.specs.Prelude.{ℕ, Bool, true, ◌&&◌, ◌||◌, List, [], if◌then◌else◌}
use Rattle.sb_base.specs.declared.tokens.Token.{Token}
use Rattle.sb_parse.specs.Parser.{Parser, ◌>>=◌, pure, refuse, token, choose, guard}
use Rattle.sb_sign.specs.declared.sign.Keyword.TheVariants as keyword
use Rattle.sb_lexicon.specs.Annotations.{is_listed}
use Rattle.sb_lexicon.specs.Lexicon.{Lexicon, is_keyword, begins_type}
use Rattle.sb_operand.specs.Pieces.{Piece, points}
use Rattle.sb_lexicon.specs.Tokens.{unexpected, too_deep, volatile, is_zero, is_open, is_close, is_open_bracket, is_star}

abbrev pub PieceReader : Type 0
PieceReader = Parser Token (List Piece)

abbrev pub begins_abstract : Lexicon → Token → Bool
begins_abstract w t = is_star w t || (is_open w t || is_open_bracket w t)

-- with this token only a function type goes on behind a parenthesis that has no declarator
abbrev pub begins_parameters : Lexicon → Token → Bool
begins_parameters w t = is_close w t || (begins_type w t || (is_keyword w keyword.Register t || (is_keyword w keyword.Inline t || is_listed w t)))

-- behind these pieces an opening parenthesis makes a pointer to a function
abbrev pub calls : Lexicon → List Piece → Token → Bool
calls w ps t = points ps && is_open w t

abbrev pub one_if : Bool → ℕ
one_if b = if b then 1 else 0

-- a qualifier behind a `*`
abbrev pub qualifier : Lexicon → ℕ → Bool → Parser Token Bool
qualifier w room c =
    choose (is_keyword w keyword.Const) (guard (is_zero room) too_deep (token unexpected (is_keyword w keyword.Const) >>= (λ t. pure true)))
    (choose (is_keyword w keyword.Restrict) (token unexpected (is_keyword w keyword.Restrict) >>= (λ t. pure c))
    (refuse volatile))

-- without room for a piece
abbrev pub no_declarator : Lexicon → PieceReader
no_declarator w = choose (begins_abstract w) (refuse too_deep) (pure [])
