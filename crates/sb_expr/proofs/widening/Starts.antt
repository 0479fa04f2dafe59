-- Where no text begins with the next token, the readers of expressions stop there as unexpected, whatever room there is.
use Rattle.std.proofs.Common.{◌≡◌, ◌≤◌, ℕ, zero, suc, Bool, true, false, ◌||◌, List, [], ◌∷◌, length, nat_lt, Option, Some, None, is_some, if◌then◌else◌, refl, ap, ◌∙◌, arith}
use Rattle.sb_base.specs.declared.tokens.Token.{Token}
use Rattle.sb_parse.specs.Parser.{done, stop, at_next, and_then, ◌>>=◌, pure, token, taken, taken_as, choose, guard, refuse, looped}
use Rattle.sb_parse.proofs.Heads.{chosen}
use Rattle.sb_tree.specs.Trees as tree
use Rattle.sb_tree.specs.Trees.{ExprTree, depth_of_expr}
use Rattle.sb_parse.specs.Descent.{descent, choose_second}
use Rattle.sb_lexicon.specs.Lexicon.{Lexicon, operand_of, begins_type}
use Rattle.sb_expr.specs.Expression.{Level, Primary, Postfix, Prefix, Infix, Conditional, Assignment, Sequence}
use Rattle.sb_expr.specs.Readers.{assigns, Parts, within, grouped, primary, suffixed, postfix, prefixed, stepping, size_of, prefix_expr, cast, cast_expr, operated, infix_at, branches, conditional, assigned, assignment, followed, sequence, at_level, begins_at, parts}
use Rattle.sb_lexicon.specs.Tokens.{unexpected, too_deep, is_zero, is_open, is_close, is_comma, is_question, is_size_of, is_prefix, is_step, is_suffix, is_operator, begins_expr}
use Rattle.sb_parse.proofs.Ways.{first_fails, second_fails}
use Rattle.sb_expr.proofs.tokens.Begins.{open_no_prefix}

module _ (w : Lexicon) where
  abbrev begins_operand : Token → Bool
  begins_operand t = is_some (operand_of w t) || is_open w t

  fails_too : (test other : Token → Bool) → ((t : Token) → test t ≡ false → other t ≡ false) → (ts : List Token) → at_next test ts ≡ false → at_next other ts ≡ false
  fails_too test other to [] h = refl
  fails_too test other to (t ∷ ts) h = to t h

  -- what a token that begins no expression is not
  no_open : (t : Token) → begins_expr w t ≡ false → is_open w t ≡ false
  no_open t h = first_fails (is_open w t) (is_prefix w t || (is_step w t || is_size_of w t)) (second_fails (is_some (operand_of w t)) (is_open w t || (is_prefix w t || (is_step w t || is_size_of w t))) h)

  no_sign : (t : Token) → begins_expr w t ≡ false → (is_prefix w t || (is_step w t || is_size_of w t)) ≡ false
  no_sign t h = second_fails (is_open w t) (is_prefix w t || (is_step w t || is_size_of w t)) (second_fails (is_some (operand_of w t)) (is_open w t || (is_prefix w t || (is_step w t || is_size_of w t))) h)

  no_prefix : (t : Token) → begins_expr w t ≡ false → is_prefix w t ≡ false
  no_prefix t h = first_fails (is_prefix w t) (is_step w t || is_size_of w t) (no_sign t h)

  no_step : (t : Token) → begins_expr w t ≡ false → is_step w t ≡ false
  no_step t h = first_fails (is_step w t) (is_size_of w t) (second_fails (is_prefix w t) (is_step w t || is_size_of w t) (no_sign t h))

  no_size : (t : Token) → begins_expr w t ≡ false → is_size_of w t ≡ false
  no_size t h = second_fails (is_step w t) (is_size_of w t) (second_fails (is_prefix w t) (is_step w t || is_size_of w t) (no_sign t h))

  no_operand : (t : Token) → begins_expr w t ≡ false → begins_operand t ≡ false
  no_operand t h = by_test (is_some (operand_of w t)) (is_open w t) (first_fails (is_some (operand_of w t)) (is_open w t || (is_prefix w t || (is_step w t || is_size_of w t))) h) (no_open t h)
    where
      by_test : (b c : Bool) → b ≡ false → c ≡ false → (b || c) ≡ false
      by_test true c h k = absurd (cc h)
      by_test false c h k = k

  module _ (n : ℕ) (part : ℕ → Parts) where
    primary_starts : (ts : List Token) → at_next begins_operand ts ≡ false → primary w n part ts ≡ stop unexpected (length ts)
    unfolding primary
    primary_starts [] h = refl
    primary_starts (t ∷ ts) h =
        chosen (is_open w) (guard (is_zero n) too_deep (grouped w n part)) (taken unexpected (operand_of w)) (t ∷ ts) false (second_fails (is_some (operand_of w t)) (is_open w t) h)
        ∙ by_value (operand_of w t) (first_fails (is_some (operand_of w t)) (is_open w t) h)
      where
        by_value : (o : Option ExprTree) → is_some o ≡ false → taken_as unexpected o ts ≡ stop unexpected (length (t ∷ ts))
        by_value None k = refl
        by_value (Some e) k = absurd (cc k)

    postfix_starts : (ts : List Token) → at_next begins_operand ts ≡ false → postfix w n part ts ≡ stop unexpected (length ts)
    unfolding postfix
    postfix_starts ts h = ap (λ o. and_then o (looped (is_suffix w) (suffixed w n part))) (primary_starts ts h)

    -- without an operator before it, what stands there is read as an operand and what follows it
    signless : (ts : List Token) → at_next (is_prefix w) ts ≡ false → at_next (is_step w) ts ≡ false → at_next (is_size_of w) ts ≡ false → prefix_expr w n part ts ≡ postfix w n part ts
    unfolding prefix_expr
    signless ts prefix step size =
        chosen (is_prefix w) (guard (is_zero n) too_deep (prefixed w n part))
        (choose (is_step w) (guard (is_zero n) too_deep (stepping w n part)) (choose (is_size_of w) (guard (is_zero n) too_deep (size_of w n part)) (postfix w n part))) ts false prefix
        ∙ chosen (is_step w) (guard (is_zero n) too_deep (stepping w n part)) (choose (is_size_of w) (guard (is_zero n) too_deep (size_of w n part)) (postfix w n part)) ts false step
        ∙ chosen (is_size_of w) (guard (is_zero n) too_deep (size_of w n part)) (postfix w n part) ts false size

    prefix_starts : (ts : List Token) → at_next (begins_expr w) ts ≡ false → prefix_expr w n part ts ≡ stop unexpected (length ts)
    prefix_starts ts h =
        signless ts (fails_too (begins_expr w) (is_prefix w) no_prefix ts h) (fails_too (begins_expr w) (is_step w) no_step ts h) (fails_too (begins_expr w) (is_size_of w) no_size ts h)
        ∙ postfix_starts ts (fails_too (begins_expr w) begins_operand no_operand ts h)

    infix_starts : (k : ℕ) (ts : List Token) → at_next (begins_expr w) ts ≡ false → infix_at w n part k ts ≡ stop unexpected (length ts)
    unfolding infix_at cast_expr
    infix_starts zero ts h =
        chosen (is_open w) (guard (is_zero n) too_deep (choose_second (begins_type w) (cast w n part) (prefix_expr w n part))) (prefix_expr w n part) ts false (fails_too (begins_expr w) (is_open w) no_open ts h)
        ∙ prefix_starts ts h
    infix_starts (suc k) ts h = ap (λ o. and_then o (looped (is_operator w (suc k)) (operated w n part k))) (infix_starts k ts h)

    conditional_starts : (ts : List Token) → at_next (begins_expr w) ts ≡ false → conditional w n part ts ≡ stop unexpected (length ts)
    unfolding conditional
    conditional_starts ts h = ap (λ o. and_then o (λ e. choose (is_question w) (guard (nat_lt n (depth_of_expr e)) too_deep (branches w n part e)) (pure e))) (infix_starts 10 ts h)

    assignment_starts : (ts : List Token) → at_next (begins_expr w) ts ≡ false → assignment w n part ts ≡ stop unexpected (length ts)
    unfolding assignment
    assignment_starts ts h = ap (λ o. and_then o (λ e. choose (assigns w e) (guard (nat_lt n (depth_of_expr e)) too_deep (assigned w n part e)) (pure e))) (conditional_starts ts h)

    sequence_starts : (ts : List Token) → at_next (begins_expr w) ts ≡ false → sequence w n part ts ≡ stop unexpected (length ts)
    unfolding sequence
    sequence_starts ts h = ap (λ o. and_then o (looped (is_comma w) (followed w n part))) (assignment_starts ts h)

    level_starts : (level : Level) (ts : List Token) → at_next (begins_at w level) ts ≡ false → at_level w n part level ts ≡ stop unexpected (length ts)
    level_starts Primary ts h = primary_starts ts h
    level_starts Postfix ts h = postfix_starts ts h
    level_starts Prefix ts h = prefix_starts ts h
    level_starts (Infix k) ts h = infix_starts k ts h
    level_starts Conditional ts h = conditional_starts ts h
    level_starts Assignment ts h = assignment_starts ts h
    level_starts Sequence ts h = sequence_starts ts h

  pub expr_starts : (n k : ℕ) (level : Level) (ts : List Token) → at_next (begins_at w level) ts ≡ false → (parts w n k).expr level ts ≡ stop unexpected (length ts)
  unfolding descent
  expr_starts zero k level ts h = chosen (begins_at w level) (refuse too_deep) (refuse unexpected) ts false h
  expr_starts (suc n) zero level ts h = level_starts n (parts w n) level ts h
  expr_starts (suc n) (suc k) level ts h = expr_starts n k level ts h

  -- the same behind a parenthesis
  pub group_starts : (n : ℕ) → 2 ≤ n → (o : Token) (ts : List Token) → is_open w o ≡ true → at_next (begins_expr w) ts ≡ false → (parts w n 0).expr Prefix (o ∷ ts) ≡ stop unexpected (length ts)
  unfolding descent postfix primary grouped
  group_starts zero le o ts opens h = absurd (omega arith)
  group_starts (suc zero) le o ts opens h = absurd (omega arith)
  group_starts (suc (suc n)) le o ts opens h =
      let none : (is_prefix w o ≡ false) × (is_step w o ≡ false) × (is_size_of w o ≡ false) = open_no_prefix w o opens in
      signless (suc n) (parts w (suc n)) (o ∷ ts) none.0 none.1 none.2
      ∙ ap (λ b. and_then (if b then grouped w (suc n) (parts w (suc n)) (o ∷ ts) else taken unexpected (operand_of w) (o ∷ ts)) (looped (is_suffix w) (suffixed w (suc n) (parts w (suc n))))) opens
      ∙ ap (λ b. and_then (and_then (if b then done o ts else stop unexpected (suc (length ts)))
      (λ o. within w (suc n) (parts w (suc n)) Sequence >>= (λ e. token unexpected (is_close w) >>= (λ c. pure (tree.Paren e o.place))))) (looped (is_suffix w) (suffixed w (suc n) (parts w (suc n))))) opens
      ∙ ap (λ r. and_then (and_then r (λ e. token unexpected (is_close w) >>= (λ c. pure (tree.Paren e o.place)))) (looped (is_suffix w) (suffixed w (suc n) (parts w (suc n)))))
      (sequence_starts n (parts w n) ts h)
