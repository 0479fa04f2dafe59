-- Readers of expressions with more room, by what is known of those of smaller depth.
use Rattle.std.proofs.Common.{◌≡◌, ◌≤◌, ℕ, zero, suc, Bool, true, false, List, [], ◌∷◌, length, nat_lt, if◌then◌else◌, refl, sym, ap, ◌∙◌}
use Rattle.sb_base.specs.declared.refusals.Place.{Place}
use Rattle.sb_base.specs.declared.tokens.Token.{Token}
use Rattle.sb_parse.specs.Parser.{done, stop, at_next, and_then, pure, token, choose, refuse}
use Rattle.sb_tree.specs.Trees as tree
use Rattle.sb_tree.specs.Trees.{ExprTree, depth_of_expr}
use Rattle.sb_lexicon.specs.declared.operators.Suffix.{Suffix}
use Rattle.sb_lexicon.specs.declared.operators.Suffix.TheVariants as suffix
use Rattle.sb_parse.specs.Descent.{at_second}
use Rattle.sb_lexicon.specs.Lexicon.{Lexicon, begins_type}
use Rattle.sb_expr.specs.Expression.{Level, Primary, Postfix, Prefix, Infix, Conditional, Assignment, Sequence}
use Rattle.sb_expr.specs.Readers.{assigns, Parts, within, grouped, primary, next_argument, some_arguments, arguments, indexed, called, member, suffixed_by, suffixed, postfix, prefixed, stepping, size_of_type, no_room_inside, size_of_expr, size_of_either, size_of, prefix_expr, cast, cast_expr, operated, infix_at, branches, conditional, assigned, assignment, followed, sequence, at_level}
use Rattle.sb_lexicon.specs.Tokens.{unexpected, too_deep, is_zero, is_open, is_close, is_comma, is_size_of, is_suffix, is_operator, begins_expr}
use Rattle.sb_lexicon.proofs.Depths.{within_room}
use Rattle.sb_lexicon.proofs.Wider.{Held, short, same, Wider, alike, one_by_one, behind, before, guarding, by_choice, choosing, turning, zero_wider, room_wider}

module _ (w : Lexicon) (n m : ℕ) (le : n ≤ m) (part more : ℕ → Parts) (Expr : (level : Level) → Wider ((part 0).expr level) ((more 0).expr level)) (Types : Wider (part 0).type_name (more 0).type_name)
    (Inside : 2 ≤ m → (o : Token) (ts : List Token) → is_open w o ≡ true → at_next (begins_expr w) ts ≡ false → (more 0).expr Prefix (o ∷ ts) ≡ stop unexpected (length ts)) where
  zero_room : is_zero n ≡ false → is_zero m ≡ false
  zero_room h = zero_wider n m le h

  beside : (e : ExprTree) → nat_lt n (depth_of_expr e) ≡ false → nat_lt m (depth_of_expr e) ≡ false
  beside e h = room_wider n m (depth_of_expr e) le h

  -- ---- operands and what stands behind them

  grouped_wider : Wider (grouped w n part) (grouped w m more)
  unfolding grouped
  grouped_wider = behind (token unexpected (is_open w)) _ _ (λ o. before (within w n part Sequence) (within w m more Sequence) _ (Expr Sequence))

  primary_wider : Wider (primary w n part) (primary w m more)
  unfolding primary
  primary_wider = choosing (is_open w) _ _ _ _ (guarding (is_zero n) (is_zero m) _ _ zero_room grouped_wider) (alike _)

  next_wider : (es : List ExprTree) → Wider (next_argument w n part es) (next_argument w m more es)
  unfolding next_argument
  next_wider es = behind (token unexpected (is_comma w)) _ _ (λ t. before (within w n part Assignment) (within w m more Assignment) _ (Expr Assignment))

  arguments_wider : Wider (arguments w n part) (arguments w m more)
  unfolding arguments some_arguments
  arguments_wider =
      choosing (is_close w) (pure []) (pure []) _ _ (alike (pure []))
      (one_by_one (within w n part Assignment) (within w m more Assignment) _ _ (Expr Assignment) (λ e. turning (is_comma w) (next_argument w n part) (next_argument w m more) next_wider (e ∷ [])))

  suffix_wider : (e : ExprTree) (s : Suffix) → Wider (suffixed_by w n part e s) (suffixed_by w m more e s)
  unfolding indexed called member
  suffix_wider e (suffix.Index at) = before (within w n part Sequence) (within w m more Sequence) _ (Expr Sequence)
  suffix_wider e (suffix.Call at) = before (arguments w n part) (arguments w m more) _ arguments_wider
  suffix_wider e (suffix.Member arrow at) = alike (member w n part e arrow at)
  suffix_wider e (suffix.Step op at) = alike (pure (tree.Unary op e at))

  suffixed_wider : (e : ExprTree) → Wider (suffixed w n part e) (suffixed w m more e)
  unfolding suffixed
  suffixed_wider e = guarding (nat_lt n (depth_of_expr e)) (nat_lt m (depth_of_expr e)) _ _ (beside e) (behind _ (suffixed_by w n part e) (suffixed_by w m more e) (suffix_wider e))

  postfix_wider : Wider (postfix w n part) (postfix w m more)
  unfolding postfix
  postfix_wider = one_by_one (primary w n part) (primary w m more) _ _ primary_wider (turning (is_suffix w) (suffixed w n part) (suffixed w m more) suffixed_wider)

  -- ---- operators before an operand, sizes and casts

  prefixed_wider : Wider (prefixed w n part) (prefixed w m more)
  unfolding prefixed
  prefixed_wider = behind _ _ _ (λ op. before (within w n part (Infix 0)) (within w m more (Infix 0)) _ (Expr (Infix 0)))

  stepping_wider : Wider (stepping w n part) (stepping w m more)
  unfolding stepping
  stepping_wider = behind _ _ _ (λ op. before (within w n part Prefix) (within w m more Prefix) _ (Expr Prefix))

  size_of_type_wider : (at : Place) → Wider (size_of_type w n part at) (size_of_type w m more at)
  unfolding size_of_type
  size_of_type_wider at = behind (token unexpected (is_open w)) _ _ (λ o. before (part 0).type_name (more 0).type_name _ Types)

  size_of_expr_wider : (at : Place) → Wider (size_of_expr w n part at) (size_of_expr w m more at)
  unfolding size_of_expr
  size_of_expr_wider at = before (within w n part Prefix) (within w m more Prefix) _ (Expr Prefix)

  -- without room for an expression in parentheses, and with it
  no_room_wider : 2 ≤ m → (at : Place) (o : Token) (ts : List Token) → is_open w o ≡ true → Held (no_room_inside w n part (o ∷ ts)) (size_of_expr w m more at (o ∷ ts))
  unfolding no_room_inside size_of_expr
  no_room_wider enough at o ts opens = by_test (at_next (begins_expr w) ts) refl
    where
      reads : no_room_inside w n part (o ∷ ts) ≡ (if at_next (begins_expr w) ts then stop too_deep (length ts) else stop unexpected (length ts))
      reads = ap (λ b. and_then (if b then done o ts else stop unexpected (suc (length ts))) (λ o. choose (begins_expr w) (refuse too_deep) (refuse unexpected))) opens

      by_test : (b : Bool) → at_next (begins_expr w) ts ≡ b → Held (no_room_inside w n part (o ∷ ts)) (size_of_expr w m more at (o ∷ ts))
      by_test true h = short (length ts) (reads ∙ ap (λ b. if b then stop too_deep (length ts) else stop unexpected (length ts)) h)
      by_test false h =
          same (ap (λ r. and_then r (λ e. pure (tree.SizeOfExpr e at))) (Inside enough o ts opens h) ∙ sym (reads ∙ ap (λ b. if b then stop too_deep (length ts) else stop unexpected (length ts)) h))

  either_wider : (at : Place) (o : Token) (ts : List Token) → is_open w o ≡ true
      → Held ((if nat_lt n 2 then no_room_inside w n part else size_of_expr w n part at) (o ∷ ts)) ((if nat_lt m 2 then no_room_inside w m more else size_of_expr w m more at) (o ∷ ts))
  unfolding no_room_inside
  either_wider at o ts opens = by_tests (nat_lt n 2) (nat_lt m 2) refl refl
    where
      by_tests : (b c : Bool) → nat_lt n 2 ≡ b → nat_lt m 2 ≡ c → Held ((if b then no_room_inside w n part else size_of_expr w n part at) (o ∷ ts)) ((if c then no_room_inside w m more else size_of_expr w m more at) (o ∷ ts))
      by_tests true true h k = same refl
      by_tests true false h k = no_room_wider (within_room m 2 k) at o ts opens
      by_tests false true h k = absurd (let both : false ≡ true = sym (room_wider n m 2 le h) ∙ k in cc both)
      by_tests false false h k = size_of_expr_wider at (o ∷ ts)

  behind_size : (at : Place) (ts : List Token) → at_next (is_open w) ts ≡ true → Held (size_of_either w n part at ts) (size_of_either w m more at ts)
  unfolding size_of_either
  behind_size at [] h = absurd (cc h)
  behind_size at (o ∷ ts) h = by_choice (at_second (begins_type w) (o ∷ ts)) _ _ _ _ (λ k. size_of_type_wider at (o ∷ ts)) (λ k. either_wider at o ts h)

  size_of_wider : Wider (size_of w n part) (size_of w m more)
  unfolding size_of
  size_of_wider = behind (token unexpected (is_size_of w)) _ _ (λ s ts. by_choice (at_next (is_open w) ts) _ _ _ _ (λ h. behind_size s.place ts h) (λ h. size_of_expr_wider s.place ts))

  prefix_wider : Wider (prefix_expr w n part) (prefix_expr w m more)
  unfolding prefix_expr
  prefix_wider =
      choosing _ _ _ _ _ (guarding (is_zero n) (is_zero m) _ _ zero_room prefixed_wider)
      (choosing _ _ _ _ _ (guarding (is_zero n) (is_zero m) _ _ zero_room stepping_wider)
      (choosing _ _ _ _ _ (guarding (is_zero n) (is_zero m) _ _ zero_room size_of_wider)
      postfix_wider))

  cast_wider : Wider (cast w n part) (cast w m more)
  unfolding cast
  cast_wider =
      behind (token unexpected (is_open w)) _ _
      (λ o. one_by_one (part 0).type_name (more 0).type_name _ _ Types (λ t. behind (token unexpected (is_close w)) _ _ (λ c. choosing _ _ _ _ _ (alike _) (before (within w n part (Infix 0)) (within w m more (Infix 0)) _ (Expr (Infix 0))))))

  cast_expr_wider : Wider (cast_expr w n part) (cast_expr w m more)
  unfolding cast_expr
  cast_expr_wider =
      choosing (is_open w) _ _ _ _ (guarding (is_zero n) (is_zero m) _ _ zero_room (λ ts. by_choice (at_second (begins_type w) ts) _ _ _ _ (λ h. cast_wider ts) (λ h. prefix_wider ts)))
      prefix_wider

  -- ---- operators between operands

  operated_wider : (k : ℕ) (e : ExprTree) → Wider (operated w n part k e) (operated w m more k e)
  unfolding operated
  operated_wider k e = guarding (nat_lt n (depth_of_expr e)) (nat_lt m (depth_of_expr e)) _ _ (beside e) (behind _ _ _ (λ op. before (within w n part (Infix k)) (within w m more (Infix k)) _ (Expr (Infix k))))

  infix_wider : (k : ℕ) → Wider (infix_at w n part k) (infix_at w m more k)
  unfolding infix_at
  infix_wider zero = cast_expr_wider
  infix_wider (suc k) = one_by_one (infix_at w n part k) (infix_at w m more k) _ _ (infix_wider k) (turning (is_operator w (suc k)) (operated w n part k) (operated w m more k) (operated_wider k))

  branches_wider : (e : ExprTree) → Wider (branches w n part e) (branches w m more e)
  unfolding branches
  branches_wider e =
      behind _ _ _ (λ q. one_by_one (within w n part Sequence) (within w m more Sequence) _ _ (Expr Sequence) (λ f. behind _ _ _ (λ c. before (within w n part Conditional) (within w m more Conditional) _ (Expr Conditional))))

  conditional_wider : Wider (conditional w n part) (conditional w m more)
  unfolding conditional
  conditional_wider =
      one_by_one (infix_at w n part 10) (infix_at w m more 10) _ _ (infix_wider 10)
      (λ e. choosing _ _ _ _ _ (guarding (nat_lt n (depth_of_expr e)) (nat_lt m (depth_of_expr e)) _ _ (beside e) (branches_wider e)) (alike (pure e)))

  -- ---- assignments and commas

  assigned_wider : (e : ExprTree) → Wider (assigned w n part e) (assigned w m more e)
  unfolding assigned
  assigned_wider e = behind _ _ _ (λ op. before (within w n part Assignment) (within w m more Assignment) _ (Expr Assignment))

  assignment_wider : Wider (assignment w n part) (assignment w m more)
  unfolding assignment
  assignment_wider =
      one_by_one (conditional w n part) (conditional w m more) _ _ conditional_wider
      (λ e. choosing (assigns w e) _ _ _ _ (guarding (nat_lt n (depth_of_expr e)) (nat_lt m (depth_of_expr e)) _ _ (beside e) (assigned_wider e)) (alike (pure e)))

  followed_wider : (e : ExprTree) → Wider (followed w n part e) (followed w m more e)
  unfolding followed
  followed_wider e = guarding (nat_lt n (depth_of_expr e)) (nat_lt m (depth_of_expr e)) _ _ (beside e) (behind _ _ _ (λ t. before (within w n part Assignment) (within w m more Assignment) _ (Expr Assignment)))

  sequence_wider : Wider (sequence w n part) (sequence w m more)
  unfolding sequence
  sequence_wider = one_by_one (assignment w n part) (assignment w m more) _ _ assignment_wider (turning (is_comma w) (followed w n part) (followed w m more) followed_wider)

  pub level_wider : (level : Level) → Wider (at_level w n part level) (at_level w m more level)
  level_wider Primary = primary_wider
  level_wider Postfix = postfix_wider
  level_wider Prefix = prefix_wider
  level_wider (Infix k) = infix_wider k
  level_wider Conditional = conditional_wider
  level_wider Assignment = assignment_wider
  level_wider Sequence = sequence_wider
