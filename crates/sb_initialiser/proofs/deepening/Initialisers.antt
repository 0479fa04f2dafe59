-- Where readers of initialisers stop for want of depth, deeper readers get past that token.
use Rattle.std.proofs.Common.{◌≡◌, ◌≤◌, ℕ, zero, suc, Bool, true, false, ◌||◌, not, List, [], length, nat_lt, if◌then◌else◌, refl, sym, ap, subst, arith}
use Rattle.sb_base.specs.declared.tokens.Token.{Token}
use Rattle.sb_parse.specs.Parser.{Outcome, Parser, stop, at_next, ◌>>=◌, pure, token, guard, looped}
use Rattle.sb_parse.proofs.Heads.{either_passes}
use Rattle.sb_tree.specs.Plain.{init_list}
use Rattle.sb_tree.specs.Trees as tree
use Rattle.sb_tree.specs.Trees.{InitTree}
use Rattle.sb_parse.specs.Descent.{descent}
use Rattle.sb_expr.specs.Expression.{Assignment}
use Rattle.sb_lexicon.specs.Lexicon.{Lexicon}
use Rattle.sb_expr.specs.Readers.{expr_reader}
use Rattle.sb_lexicon.specs.Tokens.{unexpected, too_deep, is_comma, is_open_brace, begins_expr}
use Rattle.sb_lexicon.proofs.Wider.{room_wider}
use Rattle.sb_sal.proofs.Deepening.{Past, Shrinks, Deepens, shrinks_pure, shrinks_refuse, shrinks_token, shrinks_then, shrinks_choose, shrinks_either, shrinks_guard, shrinks_looped, enters, past_bind, in_order, choosing, either_way, turning, still_pure, open_room}
use Rattle.sb_sal.proofs.ExprDeepening.{expr_deepens}
use Rattle.sb_sal.proofs.Lowered.{not_unexpected, raised, expects, unexpecting, lacking}
use Rattle.sb_initialiser.specs.Readers.{Initialisers, next_initialiser, braces, initialiser_at, initialiser}
use Rattle.sb_specifier.specs.Readers.{is_close_brace, begins_designator}
use Rattle.sb_initialiser.proofs.widening.Initialisers.{initialiser_wider}
use Rattle.sb_specifier.proofs.deepening.Specifiers.{barred_token}

module _ (w : Lexicon) where
  -- ---- what is left

  module _ (n : ℕ) (part : Parser Token InitTree) (Part : Shrinks part) where
    next_shrinks : (is : Initialisers) → Shrinks (next_initialiser w n part is)
    unfolding next_initialiser
    next_shrinks is =
        shrinks_either is.more _ _
        (λ h. shrinks_then _ _ (shrinks_choose (begins_designator w) _ part (shrinks_refuse _) Part)
        (λ i. shrinks_then _ _ (shrinks_choose (is_comma w) _ _ (shrinks_then _ _ (shrinks_token _ _) (λ t. shrinks_pure true)) (shrinks_pure false)) (λ more. shrinks_pure _)))
        (λ h. shrinks_refuse unexpected)

    -- the rest of the braces
    abbrev inside : Token → Parser Token InitTree
    inside o = next_initialiser w n part (record { list = []; more = true }) >>= looped (λ t. not (is_close_brace w t)) (next_initialiser w n part) >>= (λ is.
        token unexpected (is_close_brace w) >>= (λ c. pure (tree.Braces (init_list is.list) o.place)))

    inside_shrinks : (o : Token) → Shrinks (inside o)
    inside_shrinks o =
        shrinks_then _ _ (shrinks_then _ _ (next_shrinks _) (shrinks_looped (λ t. not (is_close_brace w t)) (next_initialiser w n part) next_shrinks))
        (λ is. shrinks_then _ _ (shrinks_token _ _) (λ c. shrinks_pure _))

    at_shrinks : Shrinks (initialiser_at w n part)
    unfolding initialiser_at braces
    at_shrinks =
        shrinks_choose (is_open_brace w) _ _ (shrinks_guard (nat_lt n 2) too_deep _ (λ h. shrinks_then _ _ (shrinks_token _ _) inside_shrinks))
        (shrinks_then (expr_reader w n Assignment) _ ((expr_deepens w Assignment n).shrinks n (omega arith)) (λ e. shrinks_pure (tree.One e)))

  initialiser_shrinks : (m : ℕ) → Shrinks (initialiser w m)
  unfolding initialiser
  initialiser_shrinks zero = shrinks_choose _ _ _ (shrinks_refuse too_deep) (shrinks_refuse unexpected)
  initialiser_shrinks (suc m) = at_shrinks m (initialiser w m) (initialiser_shrinks m)

  -- ---- with room

  next_deepens : (n : ℕ) → Deepens n (initialiser w) → (is : Initialisers) → Deepens n (λ m. next_initialiser w m (initialiser w m) is)
  unfolding next_initialiser
  next_deepens n Part is =
      either_way n is.more _ _
      (λ h. in_order n _ _ (choosing n (begins_designator w) _ (initialiser w) (lacking n 15) Part)
      (λ i. in_order n _ _ (choosing n (is_comma w) _ _ (in_order n _ _ (expects n (is_comma w)) (λ t. still_pure n true)) (still_pure n false)) (λ more. still_pure n _)))
      (λ h. unexpecting n)

  inside_deepens : (n : ℕ) → Deepens n (initialiser w) → (o : Token) → Deepens n (λ m. inside m (initialiser w m) (initialiser_shrinks m) o)
  inside_deepens n Part o =
      in_order n _ _ (in_order n _ _ (next_deepens n Part _) (turning n (λ t. not (is_close_brace w t)) (λ m. next_initialiser w m (initialiser w m)) (next_deepens n Part)))
      (λ is. in_order n _ _ (expects n (is_close_brace w)) (λ c. still_pure n _))

  at_deepens : (n : ℕ) → Deepens n (initialiser w) → Deepens n (λ m. initialiser_at w m (initialiser w m))
  unfolding initialiser_at braces
  at_deepens n Part =
      barred_token n (is_open_brace w) (λ m. nat_lt m 2) (λ m o. inside m (initialiser w m) (initialiser_shrinks m) o) (λ m le h. room_wider n m 2 le h) (open_room n 2) (λ h. inside_deepens n Part)
      (λ m le h. inside_shrinks m (initialiser w m) (initialiser_shrinks m)) (λ m. expr_reader w m Assignment >>= (λ e. pure (tree.One e)))
      (in_order n (λ m. expr_reader w m Assignment) _ (expr_deepens w Assignment n) (λ e. still_pure n (tree.One e)))

  -- ---- without room

  abbrev begins : Token → Bool
  begins t = is_open_brace w t || begins_expr w t

  -- braces, or an expression
  from_none : (ts : List Token) → at_next begins ts ≡ true → (m : ℕ) × Past (length ts) (initialiser_at w m (initialiser w m) ts)
  unfolding initialiser_at braces descent
  from_none ts h = by_brace (at_next (is_open_brace w) ts) refl
    where
      expr_begins : (ts : List Token) → at_next begins ts ≡ true → at_next (is_open_brace w) ts ≡ false → at_next (begins_expr w) ts ≡ true
      expr_begins ts h k = either_passes (is_open_brace w) (begins_expr w) ts h k

      one : ℕ → Parser Token InitTree
      one m = expr_reader w m Assignment >>= (λ e. pure (tree.One e))

      by_brace : (b : Bool) → at_next (is_open_brace w) ts ≡ b → (m : ℕ) × Past (length ts) (initialiser_at w m (initialiser w m) ts)
      by_brace true k = (
        2,
        subst (λ b. Past (length ts) (if b then guard (nat_lt 2 2) too_deep (braces w 2 (initialiser w 2)) ts else one 2 ts)) (sym k)
            (enters unexpected (is_open_brace w) (inside 2 (initialiser w 2) (initialiser_shrinks 2)) (inside_shrinks 2 (initialiser w 2) (initialiser_shrinks 2)) ts k),
      )
      by_brace false k =
          let refused : expr_reader w 0 Assignment ts ≡ stop too_deep (length ts) = ap (λ b. if b then stop too_deep (length ts) else stop unexpected (length ts)) (expr_begins ts h k) in
          let d : (m : ℕ) × (0 ≤ m) × Past (length ts) (expr_reader w m Assignment ts) = (expr_deepens w Assignment 0).deeper ts (length ts) refused in (
            d.0,
            subst (λ b. Past (length ts) (if b then guard (nat_lt d.0 2) too_deep (braces w d.0 (initialiser w d.0)) ts else one d.0 ts)) (sym k)
                (past_bind (expr_reader w d.0 Assignment) (λ e. pure (tree.One e)) (length ts) ts d.2 (λ e. shrinks_pure (tree.One e))),
          )

  none_deeper : (ts : List Token) (left : ℕ) → initialiser w 0 ts ≡ stop too_deep left → (m : ℕ) × (0 ≤ m) × Past left (initialiser w m ts)
  unfolding initialiser
  none_deeper ts left e = by_test (at_next begins ts) refl e
    where
      by_test : (b : Bool) → at_next begins ts ≡ b → Path (Outcome Token InitTree) (if b then stop too_deep (length ts) else stop unexpected (length ts)) (stop too_deep left) → (m : ℕ) × (0 ≤ m) × Past left (initialiser w m ts)
      by_test true h f =
          let d : (m : ℕ) × Past (length ts) (initialiser_at w m (initialiser w m) ts) = from_none ts h in
          let lefts : length ts ≡ left = cc f in
          (suc d.0, omega arith, subst (λ z. Past z (initialiser_at w d.0 (initialiser w d.0) ts)) lefts d.1)
      by_test false h f = absurd (not_unexpected (cc f))

  pub initialiser_deepens : (n : ℕ) → Deepens n (λ m. initialiser w m)
  unfolding initialiser
  initialiser_deepens zero = record { wide = λ m le. initialiser_wider w 0 m le; shrinks = λ m le. initialiser_shrinks m; deeper = none_deeper }
  initialiser_deepens (suc n) = raised n (initialiser w) (at_deepens n (initialiser_deepens n))
