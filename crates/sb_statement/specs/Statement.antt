-- Which lists of tokens are a statement, and the trees of each (C99 6.8).
use Rattle.std.specs.Prelude.{◌≡◌, ℕ, Bool, true, false, List, [], ◌∷◌, ◌++◌, Some}
use Rattle.sb_base.specs.declared.interning.Name.{Name}
use Rattle.sb_base.specs.declared.tokens.Token.{Token}
use Rattle.sb_parse.specs.Parser.{at_next}
use Rattle.sb_sign.specs.declared.sign.Keyword.TheVariants as keyword
use Rattle.sb_sign.specs.declared.sign.Mark.TheVariants as mark
use Rattle.sb_tree.specs.Plain.{decl_list, stmt_list}
use Rattle.sb_tree.specs.Trees as tree
use Rattle.sb_tree.specs.Trees.{ExprTree, OptionalExpr, StmtTree}
use Rattle.sb_expr.specs.Expression.{Conditional, Sequence, IsExpr}
use Rattle.sb_lexicon.specs.Lexicon.{Lexicon, is_mark, is_keyword, name_of}
use Rattle.sb_sal.specs.Spellings.{begins_note}
use Rattle.sb_declare.specs.Declaration.{IsDeclaration}
use Rattle.sb_specifier.specs.Readers.{Declarations}
use Rattle.sb_specifier.specs.Specified.{reading}
use Rattle.sb_statement.specs.Readers.{Body, First, first_place}

-- the last part of the statement is an `if` without `else`, so that an `else` behind it belongs to that (6.8.4.1 paragraph 3)
abbrev pub takes_else : StmtTree → Bool
takes_else (tree.If e s tree.NoStmt place) = true
takes_else (tree.If e s (tree.AStmt o) place) = takes_else o
takes_else (tree.While e s place) = takes_else s
takes_else (tree.For first e f s place) = takes_else s
takes_else (tree.Case e s place) = takes_else s
takes_else (tree.Default s place) = takes_else s
takes_else (tree.Label n s place) = takes_else s
takes_else _ = false

pub data IsTested (w : Lexicon) : List Token → ExprTree → Type 0 where
  -- 6.8.4, 6.8.5
  is_tested : (o c : Token) (ts : List Token) (e : ExprTree) → is_mark w mark.OpenParenthesis o ≡ true → is_mark w mark.CloseParenthesis c ≡ true → IsExpr w Sequence ts e → IsTested w (o ∷ (ts ++ (c ∷ []))) e

pub data IsOptional (w : Lexicon) : List Token → OptionalExpr → Type 0 where
  -- 6.8.5.3, 6.8.6.4
  no_expr : IsOptional w [] tree.NoExpr
  -- 6.8.5.3, 6.8.6.4
  an_expr : (ts : List Token) (e : ExprTree) → IsExpr w Sequence ts e → IsOptional w ts (tree.AnExpr e)

-- an expression with its semicolon, which does not begin with what looks like an annotation
pub data IsEvaluated (w : Lexicon) : List Token → StmtTree → Type 0 where
  -- 6.8.3
  is_evaluated : (c : Token) (ts : List Token) (e : ExprTree) → is_mark w mark.Semicolon c ≡ true → at_next (begins_note w) ts ≡ false → IsExpr w Sequence ts e
      → IsEvaluated w (ts ++ (c ∷ [])) (tree.Evaluate (tree.AnExpr e) (first_place ts))

-- a declaration as a statement, with the typedef names in force behind it
pub data IsDeclared (texts : List (List ℕ)) : List Name → List Token → StmtTree → List Name → Type 0 where
  -- 6.8.2
  is_declared : (types : List Name) (ts : List Token) (ds : Declarations) → IsDeclaration texts types ts ds → IsDeclared texts types ts (tree.Declare (decl_list ds.list) (first_place ts)) ds.types

-- the first part of a `for` with its semicolon
pub data IsFirst (texts : List (List ℕ)) (types : List Name) : List Token → First → Type 0 where
  -- 6.8.5.3
  no_first : (c : Token) → is_mark (reading texts types) mark.Semicolon c ≡ true → IsFirst texts types (c ∷ []) (record { first = tree.NoStmt; types = types })
  -- 6.8.5.3
  an_expression : (ts : List Token) (s : StmtTree) → IsEvaluated (reading texts types) ts s → IsFirst texts types ts (record { first = tree.AStmt s; types = types })
  -- 6.8.5.3
  a_declaration : (ts : List Token) (s : StmtTree) (now : List Name) → IsDeclared texts types ts s now → IsFirst texts types ts (record { first = tree.AStmt s; types = now })

-- `cases`: in the block of a `switch`; `types`: the typedef names in force
mutual
  pub data IsStatement (texts : List (List ℕ)) : (cases : Bool) → List Name → List Token → StmtTree → Type 0 where
    -- 6.8.2
    is_block : (cases : Bool) (types : List Name) (ts : List Token) (s : StmtTree) → IsBlock texts false types ts s → IsStatement texts cases types ts s
    -- 6.8.3 paragraph 3
    is_empty : (cases : Bool) (types : List Name) (c : Token) → is_mark (reading texts types) mark.Semicolon c ≡ true → IsStatement texts cases types (c ∷ []) (tree.Evaluate tree.NoExpr c.place)
    -- 6.8.3
    is_expression : (cases : Bool) (types : List Name) (ts : List Token) (s : StmtTree) → IsEvaluated (reading texts types) ts s → IsStatement texts cases types ts s
    -- 6.8.4.1
    is_if : (cases : Bool) (types : List Name) (t : Token) (xs ys : List Token) (e : ExprTree) (s : StmtTree) → is_keyword (reading texts types) keyword.If t ≡ true → IsTested (reading texts types) xs e
        → IsStatement texts false types ys s → IsStatement texts cases types (t ∷ (xs ++ ys)) (tree.If e s tree.NoStmt t.place)
    -- 6.8.4.1
    is_if_else : (cases : Bool) (types : List Name) (t l : Token) (xs ys zs : List Token) (e : ExprTree) (s o : StmtTree) → is_keyword (reading texts types) keyword.If t ≡ true → is_keyword (reading texts types) keyword.Else l ≡ true
        → IsTested (reading texts types) xs e → IsStatement texts false types ys s → takes_else s ≡ false → IsStatement texts false types zs o
        → IsStatement texts cases types (t ∷ (xs ++ (ys ++ (l ∷ zs)))) (tree.If e s (tree.AStmt o) t.place)
    -- 6.8.4.2
    is_switch : (cases : Bool) (types : List Name) (t : Token) (xs ys : List Token) (e : ExprTree) (s : StmtTree) → is_keyword (reading texts types) keyword.Switch t ≡ true → IsTested (reading texts types) xs e
        → IsBlock texts true types ys s → IsStatement texts cases types (t ∷ (xs ++ ys)) (tree.Switch e s t.place)
    -- 6.8.5.1
    is_while : (cases : Bool) (types : List Name) (t : Token) (xs ys : List Token) (e : ExprTree) (s : StmtTree) → is_keyword (reading texts types) keyword.While t ≡ true → IsTested (reading texts types) xs e
        → IsStatement texts false types ys s → IsStatement texts cases types (t ∷ (xs ++ ys)) (tree.While e s t.place)
    -- 6.8.5.2
    is_do : (cases : Bool) (types : List Name) (t u c : Token) (xs ys : List Token) (s : StmtTree) (e : ExprTree) → is_keyword (reading texts types) keyword.Do t ≡ true → is_keyword (reading texts types) keyword.While u ≡ true
        → is_mark (reading texts types) mark.Semicolon c ≡ true → IsStatement texts false types xs s → IsTested (reading texts types) ys e
        → IsStatement texts cases types (t ∷ (xs ++ (u ∷ (ys ++ (c ∷ []))))) (tree.Do s e t.place)
    -- 6.8.5.3
    is_for : (cases : Bool) (types : List Name) (t o c d : Token) (xs ys zs us : List Token) (f : First) (e g : OptionalExpr) (s : StmtTree) → is_keyword (reading texts types) keyword.For t ≡ true
        → is_mark (reading texts types) mark.OpenParenthesis o ≡ true → is_mark (reading texts types) mark.Semicolon c ≡ true → is_mark (reading texts types) mark.CloseParenthesis d ≡ true
        → IsFirst texts types xs f → IsOptional (reading texts f.types) ys e → IsOptional (reading texts f.types) zs g → IsStatement texts false f.types us s
        → IsStatement texts cases types (t ∷ (o ∷ (xs ++ (ys ++ (c ∷ (zs ++ (d ∷ us))))))) (tree.For f.first e g s t.place)
    -- 6.8.6.1
    is_goto : (cases : Bool) (types : List Name) (t l c : Token) (n : Name) → is_keyword (reading texts types) keyword.Goto t ≡ true → name_of (reading texts types) l ≡ Some n → is_mark (reading texts types) mark.Semicolon c ≡ true
        → IsStatement texts cases types (t ∷ (l ∷ (c ∷ []))) (tree.Goto n l.place t.place)
    -- 6.8.6.3
    is_break : (cases : Bool) (types : List Name) (t c : Token) → is_keyword (reading texts types) keyword.Break t ≡ true → is_mark (reading texts types) mark.Semicolon c ≡ true
        → IsStatement texts cases types (t ∷ (c ∷ [])) (tree.Break t.place)
    -- 6.8.6.2
    is_continue : (cases : Bool) (types : List Name) (t c : Token) → is_keyword (reading texts types) keyword.Continue t ≡ true → is_mark (reading texts types) mark.Semicolon c ≡ true
        → IsStatement texts cases types (t ∷ (c ∷ [])) (tree.Continue t.place)
    -- 6.8.6.4
    is_return : (cases : Bool) (types : List Name) (t c : Token) (ts : List Token) (e : OptionalExpr) → is_keyword (reading texts types) keyword.Return t ≡ true → is_mark (reading texts types) mark.Semicolon c ≡ true
        → IsOptional (reading texts types) ts e → IsStatement texts cases types (t ∷ (ts ++ (c ∷ []))) (tree.Return e t.place)
    -- 6.8.1
    is_label : (cases : Bool) (types : List Name) (t c : Token) (n : Name) (ts : List Token) (s : StmtTree) → name_of (reading texts types) t ≡ Some n → is_mark (reading texts types) mark.Colon c ≡ true
        → IsStatement texts cases types ts s → IsStatement texts cases types (t ∷ (c ∷ ts)) (tree.Label n s t.place)
    -- 6.8.1
    is_case : (types : List Name) (t c : Token) (xs ys : List Token) (e : ExprTree) (s : StmtTree) → is_keyword (reading texts types) keyword.Case t ≡ true → is_mark (reading texts types) mark.Colon c ≡ true
        → IsExpr (reading texts types) Conditional xs e → IsStatement texts true types ys s → IsStatement texts true types (t ∷ (xs ++ (c ∷ ys))) (tree.Case e s t.place)
    -- 6.8.1
    is_default : (types : List Name) (t c : Token) (ts : List Token) (s : StmtTree) → is_keyword (reading texts types) keyword.Default t ≡ true → is_mark (reading texts types) mark.Colon c ≡ true
        → IsStatement texts true types ts s → IsStatement texts true types (t ∷ (c ∷ ts)) (tree.Default s t.place)

  pub data IsBlock (texts : List (List ℕ)) : (cases : Bool) → List Name → List Token → StmtTree → Type 0 where
    -- 6.8.2
    is_braced : (cases : Bool) (types : List Name) (o c : Token) (ts : List Token) (b : Body) → is_mark (reading texts types) mark.OpenBrace o ≡ true → is_mark (reading texts types) mark.CloseBrace c ≡ true
        → AreItems texts cases types ts b → IsBlock texts cases types (o ∷ (ts ++ (c ∷ []))) (tree.Block (stmt_list b.list) o.place c.place)

  -- declarations and statements one after the other, with the typedef names in force before and behind them
  pub data AreItems (texts : List (List ℕ)) : (cases : Bool) → List Name → List Token → Body → Type 0 where
    -- 6.8.2
    no_items : (cases : Bool) (types : List Name) → AreItems texts cases types [] (record { list = []; types = types })
    -- 6.8.2
    a_statement : (cases : Bool) (types : List Name) (xs ys : List Token) (b : Body) (s : StmtTree) → AreItems texts cases types xs b → IsStatement texts cases b.types ys s
        → AreItems texts cases types (xs ++ ys) (record { list = b.list ++ (s ∷ []); types = b.types })
    -- 6.8.2
    some_declaration : (cases : Bool) (types now : List Name) (xs ys : List Token) (b : Body) (s : StmtTree) → AreItems texts cases types xs b → IsDeclared texts b.types ys s now
        → AreItems texts cases types (xs ++ ys) (record { list = b.list ++ (s ∷ []); types = now })
