-- The grammar: which lists of words and marks are the text of a file, and what tree each has.
use Rattle.std.specs.Prelude.{◌≡◌, ℕ, suc, ◌^◌, ◌≤◌, ◌<◌, max, Bool, true, false, ◌||◌, nat_eq, List, [], ◌∷◌, ◌++◌, map, length, slice_get, Option, Some, None}
use Rattle.sb_base.specs.declared.interning.Name.{Name}
use Rattle.sb_base.specs.declared.refusals.Place.{Place}
use Rattle.sb_function.specs.declared.lexeme.Lexeme.{Lexeme}
use Rattle.sb_function.specs.declared.lexeme.Lexeme.TheVariants as sign
use Rattle.sb_function.specs.declared.lexeme.Piece.{Piece}
use Rattle.sb_function.specs.declared.syntax.Comparison.{Comparison}
use Rattle.sb_function.specs.declared.syntax.Comparison.TheVariants as comparison
use Rattle.sb_function.specs.declared.syntax.Param.{Param}
use Rattle.sb_function.specs.declared.syntax.ParamKind.{ParamKind}
use Rattle.sb_function.specs.declared.syntax.ParamKind.TheVariants.{Int, Unsigned, OutWrites}
use Rattle.sb_function.specs.declared.syntax.Simple.{Simple}
use Rattle.sb_function.specs.declared.syntax.Simple.TheVariants as simple
use Rattle.sb_function.specs.Syntax.{Plain, Skip, Then, Store, Choose, FunctionTree}

infix 70 ◌at◌
abbrev pub ◌at◌ : Lexeme → Place → Piece
l at p = record { lexeme = l; place = p }

-- ---- names

abbrev pub same_name : Name → Name → Bool
same_name a b = nat_eq (a).0 (b).0

abbrev pub is_among : Name → List Name → Bool
is_among n [] = false
is_among n (m ∷ rest) = same_name n m || is_among n rest

-- no name comes twice
abbrev pub AreDistinct : List Name → Type 0
AreDistinct [] = Unit {0}
AreDistinct (n ∷ rest) = (is_among n rest ≡ false) × AreDistinct rest

abbrev pub names_of : List Param → List Name
names_of params = map (λ p. p.name) params

-- ---- parameters: `int n`, `unsigned int n` or `_Out_writes_(n) int *p` (C99 6.7.5.3; SAL `_Out_writes_`)

abbrev pub is_number : ParamKind → Bool
is_number Int = true
is_number Unsigned = true
is_number (OutWrites size) = false

-- Of a function that has all these parameters. The size is a number parameter of the same function, before or after the pointer.
pub data IsParam (all : List Param) : List Piece → Param → Type 0 where
  is_int : (n : Name) (p q : Place) → IsParam all (sign.Int at p ∷ sign.Named n at q ∷ []) (record { name = n; kind = Int })
  is_unsigned : (n : Name) (p q r : Place) → IsParam all (sign.Unsigned at p ∷ sign.Int at q ∷ sign.Named n at r ∷ []) (record { name = n; kind = Unsigned })
  is_out_writes : (n : Name) (size : ℕ) (sized : Param) (p q r s t u v : Place) → slice_get all size ≡ Some sized → is_number sized.kind ≡ true
      → IsParam all (sign.OutWrites at p ∷ sign.OpenParenthesis at q ∷ sign.Named sized.name at r ∷ sign.CloseParenthesis at s ∷ sign.Int at t ∷ sign.Star at u ∷ sign.Named n at v ∷ [])
      (record { name = n; kind = OutWrites size })

pub data AreParams (all : List Param) : List Piece → List Param → Type 0 where
  one : (ts : List Piece) (a : Param) → IsParam all ts a → AreParams all ts (a ∷ [])
  more : (xs ys : List Piece) (a : Param) (rest : List Param) (p : Place) → IsParam all xs a → AreParams all ys rest → AreParams all (xs ++ (sign.Comma at p ∷ ys)) (a ∷ rest)

-- ---- numbers and comparisons (C99 6.4.4.1, 6.5.8, 6.5.9)

pub data IsSimple (params : List Param) : List Piece → Simple → Type 0 where
  is_constant : (n : ℕ) (p : Place) → n < 2 ^ 31 → IsSimple params (sign.Number n at p ∷ []) (simple.Number n)
  is_param : (k : ℕ) (a : Param) (p : Place) → slice_get params k ≡ Some a → is_number a.kind ≡ true → IsSimple params (sign.Named a.name at p ∷ []) (simple.Param k)

abbrev pub kind_at : Option Param → Option ParamKind
kind_at None = None
kind_at (Some a) = Some a.kind

-- the type of a number parameter; a number of the text takes any
abbrev pub type_of : List Param → Simple → Option ParamKind
type_of params (simple.Number n) = None
type_of params (simple.Param k) = kind_at (slice_get params k)

-- one type, or no type of its own
abbrev pub agree : Option ParamKind → Option ParamKind → Bool
agree None b = true
agree (Some a) None = true
agree (Some Int) (Some Int) = true
agree (Some Int) (Some Unsigned) = false
agree (Some Int) (Some (OutWrites size)) = false
agree (Some Unsigned) (Some Int) = false
agree (Some Unsigned) (Some Unsigned) = true
agree (Some Unsigned) (Some (OutWrites size)) = false
agree (Some (OutWrites size)) (Some b) = false

pub data IsComparison : Lexeme → Comparison → Type 0 where
  is_less : IsComparison sign.Less comparison.Less
  is_at_most : IsComparison sign.AtMost comparison.AtMost
  is_greater : IsComparison sign.Greater comparison.Greater
  is_at_least : IsComparison sign.AtLeast comparison.AtLeast
  is_equal : IsComparison sign.Equal comparison.Equal
  is_not_equal : IsComparison sign.NotEqual comparison.NotEqual

-- ---- statements (C99 6.8): a block, `p[i] = v;` through a pointer parameter, and `if (a < b) statement`

mutual
  pub data IsStatement (params : List Param) : List Piece → Plain → Type 0 where
    is_block : (xs : List Piece) (list : Plain) (p q : Place) → AreStatements params xs list → IsStatement params (sign.OpenBrace at p ∷ (xs ++ (sign.CloseBrace at q ∷ []))) list
    -- what is stored is an `int` or a number of the text
    is_store : (array : ℕ) (pointer : Param) (size : ℕ) (xs ys : List Piece) (index value : Simple) (p q r s t : Place) → slice_get params array ≡ Some pointer → pointer.kind ≡ OutWrites size
        → IsSimple params xs index → IsSimple params ys value → agree (type_of params value) (Some Int) ≡ true
        → IsStatement params (sign.Named pointer.name at p ∷ sign.OpenBracket at q ∷ (xs ++ (sign.CloseBracket at r ∷ sign.Assign at s ∷ (ys ++ (sign.Semicolon at t ∷ []))))) (Store array index value q)
    -- both sides have one type, or one is a number of the text
    is_if : (l : Lexeme) (op : Comparison) (xs ys zs : List Piece) (left right : Simple) (body : Plain) (p q r s : Place) → IsSimple params xs left → IsComparison l op → IsSimple params ys right
        → agree (type_of params left) (type_of params right) ≡ true → IsStatement params zs body
        → IsStatement params (sign.If at p ∷ sign.OpenParenthesis at q ∷ (xs ++ (l at r ∷ (ys ++ (sign.CloseParenthesis at s ∷ zs))))) (Choose left op right body)

  pub data AreStatements (params : List Param) : List Piece → Plain → Type 0 where
    none : AreStatements params [] Skip
    next : (xs ys : List Piece) (a rest : Plain) → IsStatement params xs a → AreStatements params ys rest → AreStatements params (xs ++ ys) (Then a rest)

-- how deep statements are nested, a list of them counted as the block that it stands in
abbrev pub depth_of : Plain → ℕ
depth_of Skip = 1
depth_of (Then a rest) = max (suc (depth_of a)) (depth_of rest)
depth_of (Store array index value place) = 1
depth_of (Choose left op right body) = suc (depth_of body)

-- ---- functions (C99 6.9.1): `void f(params) { statements }`

pub data IsFunction : List Piece → FunctionTree → Type 0 where
  is_function : (n : Name) (params : List Param) (body : Plain) (xs ys : List Piece) (p q r s t u : Place) → AreParams params xs params → length params ≤ 32 → AreDistinct (names_of params)
      → AreStatements params ys body → depth_of body ≤ 100
      → IsFunction (sign.Void at p ∷ sign.Named n at q ∷ sign.OpenParenthesis at r ∷ (xs ++ (sign.CloseParenthesis at s ∷ sign.OpenBrace at t ∷ (ys ++ (sign.CloseBrace at u ∷ [])))))
      (record { name = n; place = q; params = params; body = body })

pub data AreFunctions : List Piece → List FunctionTree → Type 0 where
  ended : AreFunctions [] []
  after : (xs ys : List Piece) (f : FunctionTree) (rest : List FunctionTree) → IsFunction xs f → AreFunctions ys rest → AreFunctions (xs ++ ys) (f ∷ rest)

-- a file: functions whose names differ
pub record IsFile (ts : List Piece) (functions : List FunctionTree) : Type 0 where
  pub are : AreFunctions ts functions
  pub distinct : AreDistinct (map (λ f. f.name) functions)
