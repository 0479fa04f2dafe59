-- What the tokens of expressions and type names are, by the table of names and the typedef names in force (C99 6.4, 6.7.7).
use Rattle.std.specs.Prelude.{ℕ, Bool, true, false, ◌&&◌, ◌||◌, List, nat_eq, Option, Some, None, if◌then◌else◌}
use Rattle.std.specs.Option.{option_map_or}
use Rattle.sb_base.specs.declared.interning.Name.{Name}
use Rattle.sb_base.specs.declared.refusals.Place.{Place}
use Rattle.sb_base.specs.declared.tokens.Token.{Token}
pub use Rattle.sb_scope.specs.Names.{is_among}
use Rattle.sb_tree.specs.declared.operator.BinaryOp.{BinaryOp}
use Rattle.sb_tree.specs.declared.operator.BinaryOp.TheVariants as binary
use Rattle.sb_tree.specs.declared.operator.UnaryOp.{UnaryOp}
use Rattle.sb_tree.specs.declared.operator.UnaryOp.TheVariants as unary
use Rattle.sb_sign.specs.declared.sign.Keyword.{Keyword}
use Rattle.sb_sign.specs.declared.sign.Keyword.TheVariants as keyword
use Rattle.sb_sign.specs.declared.sign.Mark.{Mark}
use Rattle.sb_sign.specs.declared.sign.Mark.TheVariants as mark
use Rattle.sb_sign.specs.Signs as sign
use Rattle.sb_tree.specs.Trees.{ExprTree, Number, Text, Identifier}
use Rattle.sb_lexicon.specs.declared.operators.Suffix.{Suffix}
use Rattle.sb_lexicon.specs.declared.operators.Suffix.TheVariants as suffix

pub record Lexicon : Type 0 where
  pub texts : List (List ℕ)
  -- the typedef names in force
  pub types : List Name
  -- in the arguments of an annotation `return` is an operand
  pub in_note : Bool

abbrev pub is_mark : Lexicon → Mark → Token → Bool
is_mark w = sign.is_mark w.texts

abbrev pub is_keyword : Lexicon → Keyword → Token → Bool
is_keyword w = sign.is_keyword w.texts

abbrev pub name_of : Lexicon → Token → Option Name
name_of w = sign.name_of w.texts

abbrev pub is_type_name : Lexicon → Token → Bool
is_type_name w t = option_map_or (λ n. is_among n w.types) (name_of w t) false

-- ---- operands (6.5.1)

abbrev pub named_operand : Lexicon → Place → Option Name → Option ExprTree
named_operand w place None = None
named_operand w place (Some n) = if is_among n w.types then None else Some (Identifier n place)

abbrev pub is_returned : Lexicon → Token → Bool
is_returned w t = w.in_note && is_keyword w keyword.Return t

-- the operand that a token is by itself
abbrev pub operand_of : Lexicon → Token → Option ExprTree
operand_of w t =
    if sign.is_number t then Some (Number t.text t.value t.place)
    else (if sign.is_text t then Some (Text t.text t.place)
    else (if is_returned w t then Some (Identifier t.text t.place)
    else named_operand w t.place (name_of w t)))

-- ---- operators

-- how loosely an operator binds (6.5.5 to 6.5.14)
abbrev pub rank : BinaryOp → ℕ
rank binary.Mul = 1
rank binary.Div = 1
rank binary.Rem = 1
rank binary.Add = 2
rank binary.Sub = 2
rank binary.Shl = 3
rank binary.Shr = 3
rank binary.Less = 4
rank binary.AtMost = 4
rank binary.Greater = 4
rank binary.AtLeast = 4
rank binary.Equal = 5
rank binary.NotEqual = 5
rank binary.BitAnd = 6
rank binary.BitXor = 7
rank binary.BitOr = 8
rank binary.And = 9
rank binary.Or = 10
rank binary.Comma = 11

abbrev pub binary_at : Mark → Option BinaryOp
binary_at mark.Star = Some binary.Mul
binary_at mark.Slash = Some binary.Div
binary_at mark.Percent = Some binary.Rem
binary_at mark.Plus = Some binary.Add
binary_at mark.Minus = Some binary.Sub
binary_at mark.ShiftLeft = Some binary.Shl
binary_at mark.ShiftRight = Some binary.Shr
binary_at mark.Less = Some binary.Less
binary_at mark.AtMost = Some binary.AtMost
binary_at mark.Greater = Some binary.Greater
binary_at mark.AtLeast = Some binary.AtLeast
binary_at mark.Equal = Some binary.Equal
binary_at mark.NotEqual = Some binary.NotEqual
binary_at mark.Ampersand = Some binary.BitAnd
binary_at mark.Caret = Some binary.BitXor
binary_at mark.Bar = Some binary.BitOr
binary_at mark.And = Some binary.And
binary_at mark.Or = Some binary.Or
binary_at mark.Comma = Some binary.Comma
binary_at _ = None

-- before an operand (6.5.3.2, 6.5.3.3)
abbrev pub prefix_at : Mark → Option UnaryOp
prefix_at mark.Ampersand = Some unary.Address
prefix_at mark.Star = Some unary.Deref
prefix_at mark.Plus = Some unary.Plus
prefix_at mark.Minus = Some unary.Minus
prefix_at mark.Tilde = Some unary.Invert
prefix_at mark.Exclamation = Some unary.Not
prefix_at _ = None

-- `++` and `--` before an operand (6.5.3.1)
abbrev pub step_at : Mark → Option UnaryOp
step_at mark.Increment = Some unary.PreInc
step_at mark.Decrement = Some unary.PreDec
step_at _ = None

-- (6.5.16)
abbrev pub assignment_at : Mark → Option (Option BinaryOp)
assignment_at mark.Assign = Some None
assignment_at mark.StarAssign = Some (Some binary.Mul)
assignment_at mark.SlashAssign = Some (Some binary.Div)
assignment_at mark.PercentAssign = Some (Some binary.Rem)
assignment_at mark.PlusAssign = Some (Some binary.Add)
assignment_at mark.MinusAssign = Some (Some binary.Sub)
assignment_at mark.ShiftLeftAssign = Some (Some binary.Shl)
assignment_at mark.ShiftRightAssign = Some (Some binary.Shr)
assignment_at mark.AmpersandAssign = Some (Some binary.BitAnd)
assignment_at mark.CaretAssign = Some (Some binary.BitXor)
assignment_at mark.BarAssign = Some (Some binary.BitOr)
assignment_at _ = None

-- (6.5.2)
abbrev pub suffix_at : Place → Mark → Option Suffix
suffix_at place mark.OpenBracket = Some (suffix.Index place)
suffix_at place mark.OpenParenthesis = Some (suffix.Call place)
suffix_at place mark.Dot = Some (suffix.Member false place)
suffix_at place mark.Arrow = Some (suffix.Member true place)
suffix_at place mark.Increment = Some (suffix.Step unary.PostInc place)
suffix_at place mark.Decrement = Some (suffix.Step unary.PostDec place)
suffix_at place _ = None

-- what a mark's table gives a token, with the token's place
abbrev pub by_mark : {A : Type 0} → (Mark → Option A) → Place → Option Mark → Option (A × Place)
by_mark gives place None = None
by_mark gives place (Some m) = option_map_or (λ a. Some (a, place)) (gives m) None

abbrev pub prefix_of : Lexicon → Token → Option (UnaryOp × Place)
prefix_of w t = by_mark prefix_at t.place (sign.mark_of w.texts t)

abbrev pub step_of : Lexicon → Token → Option (UnaryOp × Place)
step_of w t = by_mark step_at t.place (sign.mark_of w.texts t)

abbrev pub assignment_of : Lexicon → Token → Option (Option BinaryOp × Place)
assignment_of w t = by_mark assignment_at t.place (sign.mark_of w.texts t)

abbrev pub of_rank : ℕ → Mark → Option BinaryOp
of_rank k m = option_map_or (λ op. if nat_eq (rank op) k then Some op else None) (binary_at m) None

-- an operator that binds so loosely
abbrev pub operator_of : Lexicon → ℕ → Token → Option (BinaryOp × Place)
operator_of w k t = by_mark (of_rank k) t.place (sign.mark_of w.texts t)

abbrev pub suffix_of : Lexicon → Token → Option Suffix
suffix_of w t = option_map_or (suffix_at t.place) (sign.mark_of w.texts t) None

-- ---- the first tokens of type names (6.7.2, 6.7.3)

-- a word with which a type name can begin, in C99 whole
abbrev pub is_type_keyword : Keyword → Bool
is_type_keyword keyword.Void = true
is_type_keyword keyword.Bool = true
is_type_keyword keyword.Char = true
is_type_keyword keyword.Short = true
is_type_keyword keyword.Int = true
is_type_keyword keyword.Long = true
is_type_keyword keyword.Signed = true
is_type_keyword keyword.Unsigned = true
is_type_keyword keyword.Float = true
is_type_keyword keyword.Double = true
is_type_keyword keyword.Complex = true
is_type_keyword keyword.Imaginary = true
is_type_keyword keyword.Struct = true
is_type_keyword keyword.Union = true
is_type_keyword keyword.Enum = true
is_type_keyword keyword.Const = true
is_type_keyword keyword.Restrict = true
is_type_keyword keyword.Volatile = true
is_type_keyword _ = false

abbrev pub is_type_word : Lexicon → Token → Bool
is_type_word w t = option_map_or is_type_keyword (sign.keyword_of w.texts t) false

abbrev pub begins_type : Lexicon → Token → Bool
begins_type w t = is_type_word w t || is_type_name w t
