-- Which lists of tokens are an initialiser, and the tree of each (C99 6.7.8).
use Rattle.std.specs.Prelude.{◌≡◌, Bool, true, false, List, [], ◌∷◌, ◌++◌}
use Rattle.sb_base.specs.declared.tokens.Token.{Token}
use Rattle.sb_sign.specs.declared.sign.Mark.TheVariants as mark
use Rattle.sb_tree.specs.Plain.{init_list}
use Rattle.sb_tree.specs.Trees as tree
use Rattle.sb_tree.specs.Trees.{ExprTree, InitTree}
use Rattle.sb_expr.specs.Expression.{Assignment, IsExpr}
use Rattle.sb_lexicon.specs.Lexicon.{Lexicon, is_mark}

mutual
  pub data IsInitialiser (w : Lexicon) : List Token → InitTree → Type 0 where
    is_value : (ts : List Token) (e : ExprTree) → IsExpr w Assignment ts e → IsInitialiser w ts (tree.One e)
    is_list : (o c : Token) (ts : List Token) (is : List InitTree) (comma : Bool) → is_mark w mark.OpenBrace o ≡ true → is_mark w mark.CloseBrace c ≡ true
        → AreInitialisers w ts is comma → IsInitialiser w (o ∷ (ts ++ (c ∷ []))) (tree.Braces (init_list is) o.place)

  -- at least one, with commas between them, and whether a comma stands behind the last
  pub data AreInitialisers (w : Lexicon) : List Token → List InitTree → Bool → Type 0 where
    first_initialiser : (ts : List Token) (i : InitTree) → IsInitialiser w ts i → AreInitialisers w ts (i ∷ []) false
    initialiser_behind : (xs ys : List Token) (is : List InitTree) (i : InitTree) → AreInitialisers w xs is true → IsInitialiser w ys i → AreInitialisers w (xs ++ ys) (is ++ (i ∷ [])) false
    comma_behind : (c : Token) (ts : List Token) (is : List InitTree) → is_mark w mark.Comma c ≡ true → AreInitialisers w ts is false → AreInitialisers w (ts ++ (c ∷ [])) is true
