-- Why readers stop, by number, and the tests of one token by which they choose. A stop has the number of its refusal: 31 for a token with which no text goes on,
-- 32 where only a deeper one does, and for a feature that the profile leaves out 100 and the feature's number.
use Rattle.std.specs.Prelude.{ℕ, zero, suc, ◌+◌, Bool, true, false, ◌||◌, Option, Some, None, is_some}
use Rattle.std.specs.Option.{option_map_or}
use Rattle.sb_base.specs.declared.interning.Name.{Name}
use Rattle.sb_base.specs.declared.refusals.Place.{Place}
use Rattle.sb_base.specs.declared.tokens.Token.{Token}
use Rattle.sb_sign.specs.declared.sign.Keyword.TheVariants as keyword
use Rattle.sb_sign.specs.declared.sign.Mark.TheVariants as mark
use Rattle.sb_lexicon.specs.Lexicon.{Lexicon, is_mark, is_keyword, name_of, operand_of, operator_of, prefix_of, step_of, suffix_of}

-- ---- refusals

abbrev pub unexpected : ℕ
unexpected = 31

abbrev pub too_deep : ℕ
too_deep = 32

-- a feature that the profile leaves out
abbrev pub lacks : ℕ → ℕ
lacks feature = 100 + feature

abbrev pub floating : ℕ
floating = lacks 1

abbrev pub union : ℕ
union = lacks 2

abbrev pub function_pointer : ℕ
function_pointer = lacks 4

abbrev pub volatile : ℕ
volatile = lacks 7

abbrev pub complex : ℕ
complex = lacks 8

abbrev pub compound_literal : ℕ
compound_literal = lacks 16

-- other arguments than an annotation takes
abbrev pub bad_arguments : ℕ
bad_arguments = 35

-- an argument that began so many tokens before is of another kind
abbrev pub bad_kind : ℕ → ℕ
bad_kind count = 1000 + count

-- a word that is no annotation, where it stands and one token behind it
abbrev pub unknown : ℕ
unknown = 36

abbrev pub unknown_before : ℕ
unknown_before = 2001

-- an annotation that may not stand there, where it stands and so many tokens behind it
abbrev pub misplaced : ℕ
misplaced = 37

abbrev pub misplaced_before : ℕ → ℕ
misplaced_before count = 3000 + count

-- a token that begins a parameter too many
abbrev pub too_many_parameters : ℕ
too_many_parameters = 38

abbrev pub is_zero : ℕ → Bool
is_zero zero = true
is_zero (suc n) = false

-- ---- tests of one token

abbrev pub is_open : Lexicon → Token → Bool
is_open w = is_mark w mark.OpenParenthesis

abbrev pub is_close : Lexicon → Token → Bool
is_close w = is_mark w mark.CloseParenthesis

abbrev pub is_open_bracket : Lexicon → Token → Bool
is_open_bracket w = is_mark w mark.OpenBracket

abbrev pub is_close_bracket : Lexicon → Token → Bool
is_close_bracket w = is_mark w mark.CloseBracket

abbrev pub is_comma : Lexicon → Token → Bool
is_comma w = is_mark w mark.Comma

abbrev pub is_question : Lexicon → Token → Bool
is_question w = is_mark w mark.Question

abbrev pub is_colon : Lexicon → Token → Bool
is_colon w = is_mark w mark.Colon

abbrev pub is_star : Lexicon → Token → Bool
is_star w = is_mark w mark.Star

abbrev pub is_open_brace : Lexicon → Token → Bool
is_open_brace w = is_mark w mark.OpenBrace

abbrev pub is_size_of : Lexicon → Token → Bool
is_size_of w = is_keyword w keyword.SizeOf

abbrev pub is_prefix : Lexicon → Token → Bool
is_prefix w t = is_some (prefix_of w t)

abbrev pub is_step : Lexicon → Token → Bool
is_step w t = is_some (step_of w t)

abbrev pub is_suffix : Lexicon → Token → Bool
is_suffix w t = is_some (suffix_of w t)

abbrev pub is_operator : Lexicon → ℕ → Token → Bool
is_operator w k t = is_some (operator_of w k t)

abbrev pub begins_expr : Lexicon → Token → Bool
begins_expr w t = is_some (operand_of w t) || (is_open w t || (is_prefix w t || (is_step w t || is_size_of w t)))

abbrev pub member_of : Lexicon → Token → Option (Name × Place)
member_of w t = option_map_or (λ n. Some (n, t.place)) (name_of w t) None

abbrev pub is_qualifier : Lexicon → Token → Bool
is_qualifier w t = is_keyword w keyword.Const t || (is_keyword w keyword.Restrict t || is_keyword w keyword.Volatile t)
