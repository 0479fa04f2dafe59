-- The readers of statements.
use Rattle.std.specs.Prelude.{ℕ, zero, suc, ◌^◌, Bool, ◌||◌, nat_lt, List, [], ◌∷◌, ◌++◌, Option, Some, None, is_some, if◌then◌else◌}
use Rattle.sb_base.specs.declared.interning.Name.{Name}
use Rattle.sb_parse.specs.Parser.{◌>>=◌, pure, refuse, taken, expect, choose, only, guard, looped}
use Rattle.sb_function.specs.declared.lexeme.Lexeme.{Lexeme}
use Rattle.sb_function.specs.declared.lexeme.Lexeme.TheVariants as sign
use Rattle.sb_function.specs.declared.lexeme.Piece.{Piece}
use Rattle.sb_function.specs.declared.syntax.Comparison.{Comparison}
use Rattle.sb_function.specs.declared.syntax.Comparison.TheVariants as comparison
use Rattle.sb_function.specs.declared.syntax.Param.{Param}
use Rattle.sb_function.specs.declared.syntax.ParamKind.{ParamKind}
use Rattle.sb_function.specs.declared.syntax.ParamKind.TheVariants.{Int, Unsigned, OutWrites}
use Rattle.sb_function.specs.declared.syntax.Simple.{Simple}
use Rattle.sb_function.specs.declared.syntax.Simple.TheVariants as simple
use Rattle.sb_function.specs.Syntax.{Plain, Skip, Then, Store, Choose}
use Rattle.sb_function.specs.Grammar.{same_name, type_of, agree}
use Rattle.sb_function.specs.Marks.{Reader, misplaced, is_mark, mark}
use Rattle.sb_function.specs.Params.{is_zero}

-- ---- names of parameters

abbrev pub one_on : Option (ℕ × ParamKind) → Option (ℕ × ParamKind)
one_on None = None
one_on (Some f) = Some (suc f.0, f.1)

-- the first parameter of the name: its position and its kind
unfoldable pub found : Name → List Param → Option (ℕ × ParamKind)
found n [] = None
found n (p ∷ rest) = if same_name n p.name then Some (0, p.kind) else one_on (found n rest)

abbrev pub number_of_kind : ℕ → ParamKind → Option Simple
number_of_kind k Int = Some (simple.Param k)
number_of_kind k Unsigned = Some (simple.Param k)
number_of_kind k (OutWrites size) = None

abbrev pub number_found : Option (ℕ × ParamKind) → Option Simple
number_found None = None
number_found (Some f) = number_of_kind f.0 f.1

abbrev pub pointer_of_kind : ℕ → ParamKind → Option ℕ
pointer_of_kind k Int = None
pointer_of_kind k Unsigned = None
pointer_of_kind k (OutWrites size) = Some k

abbrev pub pointer_found : Option (ℕ × ParamKind) → Option ℕ
pointer_found None = None
pointer_found (Some f) = pointer_of_kind f.0 f.1

-- ---- single words that have a value

abbrev pub constant : ℕ → Option Simple
constant n = if nat_lt n (2 ^ 31) then Some (simple.Number n) else None

unfoldable pub simple_at : List Param → Lexeme → Option Simple
simple_at params (sign.Number n) = constant n
simple_at params (sign.Named n) = number_found (found n params)
simple_at params _ = None

unfoldable pub array_at : List Param → Lexeme → Option ℕ
array_at params (sign.Named n) = pointer_found (found n params)
array_at params _ = None

unfoldable pub comparison_at : Lexeme → Option Comparison
comparison_at sign.Less = Some comparison.Less
comparison_at sign.AtMost = Some comparison.AtMost
comparison_at sign.Greater = Some comparison.Greater
comparison_at sign.AtLeast = Some comparison.AtLeast
comparison_at sign.Equal = Some comparison.Equal
comparison_at sign.NotEqual = Some comparison.NotEqual
comparison_at _ = None

abbrev pub of_type : List Param → Option ParamKind → Option Simple → Option Simple
of_type params t None = None
of_type params t (Some s) = if agree t (type_of params s) then Some s else None

-- what may stand on the right of a comparison
unfoldable pub right_at : List Param → Simple → Lexeme → Option Simple
right_at params left l = of_type params (type_of params left) (simple_at params l)

abbrev pub of_int : List Param → Option Simple → Option Simple
of_int params None = None
of_int params (Some s) = if agree (type_of params s) (Some Int) then Some s else None

-- what may be stored
unfoldable pub value_at : List Param → Lexeme → Option Simple
value_at params l = of_int params (simple_at params l)

-- ---- statements

abbrev pub in_order : List Plain → Plain
in_order [] = Skip
in_order (s ∷ rest) = Then s (in_order rest)

module _ (params : List Param) where
  unfoldable pub store : Reader Plain
  store =
      taken misplaced (λ t. array_at params t.lexeme) >>= (λ array. expect misplaced (is_mark sign.OpenBracket) (λ bracket. taken misplaced (λ t. simple_at params t.lexeme) >>= (λ index.
      mark sign.CloseBracket (mark sign.Assign (taken misplaced (λ t. value_at params t.lexeme) >>= (λ value. mark sign.Semicolon (pure (Store array index value bracket.place))))))))

  -- `if`, with the statement under it read by `part`
  unfoldable pub conditional : Reader Plain → Reader Plain
  conditional part =
      mark sign.If (mark sign.OpenParenthesis (taken misplaced (λ t. simple_at params t.lexeme) >>= (λ left. taken misplaced (λ t. comparison_at t.lexeme) >>= (λ op.
      taken misplaced (λ t. right_at params left t.lexeme) >>= (λ right. mark sign.CloseParenthesis (part >>= (λ body. pure (Choose left op right body))))))))

  abbrev pub begins_store : Piece → Bool
  begins_store t = is_some (array_at params t.lexeme)

  abbrev pub begins_statement : Piece → Bool
  begins_statement t = is_mark sign.OpenBrace t || (is_mark sign.If t || begins_store t)

  -- one statement more
  unfoldable pub statement_more : Reader Plain → List Plain → Reader (List Plain)
  statement_more part list = part >>= (λ s. pure (list ++ (s ∷ [])))

  unfoldable pub statements : Reader Plain → Reader Plain
  statements part = (pure [] >>= looped begins_statement (statement_more part)) >>= (λ list. pure (in_order list))

  -- the statements of a block, up to its brace
  unfoldable pub block_rest : Reader Plain → Reader Plain
  block_rest part = statements part >>= (λ list. mark sign.CloseBrace (pure list))

  unfoldable pub braced : Reader Plain → Reader Plain
  braced part = mark sign.OpenBrace (block_rest part)

  -- statements that are nested at most so deep
  unfoldable pub statement : ℕ → Reader Plain
  statement zero = refuse misplaced
  statement (suc left) =
      only misplaced begins_statement (
      choose (is_mark sign.OpenBrace) (braced (statement left)) (
      choose (is_mark sign.If) (guard (is_zero left) misplaced (conditional (statement left))) store))
