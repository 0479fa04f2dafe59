-- The readers of initialisers, as functions on the tokens that are left (C99 6.7.8).
use Rattle.std.specs.Prelude.{ℕ, zero, suc, Bool, true, false, ◌||◌, not, List, [], ◌∷◌, ◌++◌, nat_lt, if◌then◌else◌}
use Rattle.sb_base.specs.declared.tokens.Token.{Token}
use Rattle.sb_parse.specs.Parser.{Parser, ◌>>=◌, pure, refuse, token, choose, guard, looped}
use Rattle.sb_tree.specs.Plain.{init_list}
use Rattle.sb_tree.specs.Trees as tree
use Rattle.sb_tree.specs.Trees.{InitTree}
use Rattle.sb_expr.specs.Expression.{Assignment}
use Rattle.sb_lexicon.specs.Lexicon.{Lexicon}
use Rattle.sb_lexicon.specs.Tokens as expr
use Rattle.sb_expr.specs.Readers.{expr_reader}
use Rattle.sb_lexicon.specs.Tokens.{unexpected, too_deep, is_open_brace, is_comma}
use Rattle.sb_specifier.specs.Readers.{begins_designator, designated, is_close_brace}

pub record Initialisers : Type 0 where
  pub list : List InitTree
  -- a comma was read, or nothing yet
  pub more : Bool

-- `part`: initialisers that are at most `below` deep
module _ (w : Lexicon) (below : ℕ) (part : Parser Token InitTree) where
  unfoldable pub next_initialiser : Initialisers → Parser Token Initialisers
  next_initialiser is = if is.more
      then choose (begins_designator w) (refuse designated) part >>= (λ i. choose (is_comma w) (token unexpected (is_comma w) >>= (λ t. pure true)) (pure false) >>= (λ more.
      pure (record { list = is.list ++ (i ∷ []); more = more })))
      else refuse unexpected

  unfoldable pub braces : Parser Token InitTree
  braces = token unexpected (is_open_brace w) >>= (λ o. next_initialiser (record { list = []; more = true }) >>= looped (λ t. not (is_close_brace w t)) next_initialiser >>= (λ is.
      token unexpected (is_close_brace w) >>= (λ c. pure (tree.Braces (init_list is.list) o.place))))

  unfoldable pub initialiser_at : Parser Token InitTree
  initialiser_at = choose (is_open_brace w) (guard (nat_lt below 2) too_deep braces) (expr_reader w below Assignment >>= (λ e. pure (tree.One e)))

unfoldable pub initialiser : Lexicon → ℕ → Parser Token InitTree
initialiser w zero = choose (λ t. is_open_brace w t || expr.begins_expr w t) (refuse too_deep) (refuse unexpected)
initialiser w (suc below) = initialiser_at w below (initialiser w below)
