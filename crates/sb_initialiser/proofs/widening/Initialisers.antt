-- Readers of initialisers with more room.
use Rattle.std.proofs.Common.{◌≡◌, ◌≤◌, ℕ, zero, suc, Bool, true, false, ◌||◌, not, List, [], ◌∷◌, length, nat_lt, if◌then◌else◌, refl, ap, ◌∙◌, arith}
use Rattle.sb_base.specs.declared.tokens.Token.{Token}
use Rattle.sb_parse.specs.Parser.{Parser, stop, at_next, and_then, ◌>>=◌, pure, choose, guard, refuse}
use Rattle.sb_parse.proofs.Heads.{chosen}
use Rattle.sb_tree.specs.Trees as tree
use Rattle.sb_tree.specs.Trees.{InitTree}
use Rattle.sb_expr.specs.Expression.{Assignment}
use Rattle.sb_lexicon.specs.Lexicon.{Lexicon}
use Rattle.sb_expr.specs.Readers.{expr_reader}
use Rattle.sb_lexicon.specs.Tokens.{unexpected, too_deep, is_open_brace, begins_expr}
use Rattle.sb_expr.proofs.widening.EachDepth.{parts_wider}
use Rattle.sb_expr.proofs.widening.Starts.{expr_starts}
use Rattle.sb_parse.proofs.Ways.{first_fails, second_fails}
use Rattle.sb_lexicon.proofs.Wider.{Held, short, same, Wider, alike, one_by_one, behind, before, guarding, choosing, turning, room_wider}
use Rattle.sb_initialiser.specs.Readers.{Initialisers, next_initialiser, braces, initialiser_at, initialiser}
use Rattle.sb_specifier.specs.Readers.{is_close_brace, begins_designator}
use Rattle.sb_specifier.proofs.widening.Specifiers.{either_way}

module _ (w : Lexicon) where
  -- ---- with room

  module _ (n m : ℕ) (le : n ≤ m) (part more : Parser Token InitTree) (Part : Wider part more) where
    next_wider : (is : Initialisers) → Wider (next_initialiser w n part is) (next_initialiser w m more is)
    unfolding next_initialiser
    next_wider is = either_way is.more _ _ _ _ (before _ _ _ (choosing (begins_designator w) _ _ part more (alike _) Part)) (alike _)

    braces_wider : Wider (braces w n part) (braces w m more)
    unfolding braces
    braces_wider =
        behind _ _ _ (λ o. before _ _ _ (one_by_one _ _ _ _ (next_wider _) (turning (λ t. not (is_close_brace w t)) (next_initialiser w n part) (next_initialiser w m more) next_wider)))

    at_wider : Wider (initialiser_at w n part) (initialiser_at w m more)
    unfolding initialiser_at
    at_wider =
        choosing (is_open_brace w) _ _ _ _ (guarding (nat_lt n 2) (nat_lt m 2) _ _ (room_wider n m 2 le) braces_wider)
        (before (expr_reader w n Assignment) (expr_reader w m Assignment) _ ((parts_wider w n m 0 le).0 Assignment))

  -- ---- without room

  abbrev begins : Token → Bool
  begins t = is_open_brace w t || begins_expr w t

  none_there : (m : ℕ) (part : Parser Token InitTree) (ts : List Token) → at_next begins ts ≡ false → initialiser_at w m part ts ≡ stop unexpected (length ts)
  unfolding initialiser_at
  none_there m part ts h =
      chosen (is_open_brace w) (guard (nat_lt m 2) too_deep (braces w m part)) (expr_reader w m Assignment >>= (λ e. pure (tree.One e))) ts false (no_brace ts h)
      ∙ ap (λ o. and_then o (λ e. pure (tree.One e))) (expr_starts w m 0 Assignment ts (no_expr ts h))
    where
      no_brace : (ts : List Token) → at_next begins ts ≡ false → at_next (is_open_brace w) ts ≡ false
      no_brace [] h = refl
      no_brace (t ∷ ts) h = first_fails (is_open_brace w t) (begins_expr w t) h

      no_expr : (ts : List Token) → at_next begins ts ≡ false → at_next (begins_expr w) ts ≡ false
      no_expr [] h = refl
      no_expr (t ∷ ts) h = second_fails (is_open_brace w t) (begins_expr w t) h

  none_wider : (m : ℕ) (part : Parser Token InitTree) → Wider (choose begins (refuse too_deep) (refuse unexpected)) (initialiser_at w m part)
  none_wider m part ts = by_test (at_next begins ts) refl
    where
      by_test : (b : Bool) → at_next begins ts ≡ b → Held (if b then stop too_deep (length ts) else stop unexpected (length ts)) (initialiser_at w m part ts)
      by_test true h = short (length ts) refl
      by_test false h = same (none_there m part ts h)

  pub initialiser_wider : (n m : ℕ) → n ≤ m → Wider (initialiser w n) (initialiser w m)
  unfolding initialiser
  initialiser_wider zero zero le = alike _
  initialiser_wider zero (suc m) le = none_wider m (initialiser w m)
  initialiser_wider (suc n) zero le = absurd (omega arith)
  initialiser_wider (suc n) (suc m) le = at_wider n m (omega arith) (initialiser w n) (initialiser w m) (initialiser_wider n m (omega arith))
