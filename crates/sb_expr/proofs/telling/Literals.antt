-- Behind an expression that ends with `sizeof (type)` a brace is refused as that of a compound literal.
use Rattle.std.proofs.Common.{◌≡◌, ◌≤◌, ℕ, zero, suc, max, Bool, true, false, List, [], ◌∷◌, ◌++◌, length, nat_lt, Option, Some, None, is_some, if◌then◌else◌, refl, sym, ap, ◌∙◌, append_assoc, arith}
use Rattle.std.proofs.Math.Nat.{le-max_left, le-max_right}
use Rattle.sb_base.specs.declared.refusals.Place.{Place}
use Rattle.sb_base.specs.declared.tokens.Token.{Token}
use Rattle.sb_parse.specs.Parser.{done, stop, at_next, and_then, pure, choose, guard, looped}
use Rattle.sb_parse.proofs.Descending.{descent_step}
use Rattle.sb_parse.proofs.Heads.{chosen, head_of_append}
use Rattle.sb_parse.proofs.Ways.{goes_on_where}
use Rattle.sb_tree.specs.declared.operator.BinaryOp.{BinaryOp}
use Rattle.sb_tree.specs.Trees as tree
use Rattle.sb_tree.specs.Trees.{ExprTree, depth_of_expr, depth_of_type}
use Rattle.sb_lexicon.specs.Lexicon.{Lexicon, begins_type, operator_of}
use Rattle.sb_lexicon.specs.Tokens.{too_deep, compound_literal, is_open, is_comma, is_question, is_open_brace, is_operator}
use Rattle.sb_lexicon.proofs.Depths.{some_depth, some_type_depth, some_room, room_for, room_is, room_within, first_fits, second_fits}
use Rattle.sb_operand.specs.Pieces.{type_of}
use Rattle.sb_expr.specs.Expression.{Level, Primary, Postfix, Prefix, Infix, Conditional, Assignment, Sequence, IsExpr, is_primary, is_postfix, is_prefixed, is_stepping, is_size_of_expr, is_size_of_type, is_uncast, is_cast, is_tighter, is_binary, is_infix, is_conditional, is_chosen, is_assignment, is_assigned, is_sequence}
use Rattle.sb_expr.specs.Readers.{Parts, assigns, prefixed, stepping, size_of_type, no_room_inside, size_of_expr, size_of_either, size_of, prefix_expr, cast, cast_expr, operated, infix_at, branches, conditional, assigned, assignment, followed, sequence, at_level, whole_parts, no_parts, parts, expr_reader}
use Rattle.sb_expr.proofs.tokens.More.{more_assignment, last_of}
use Rattle.sb_expr.specs.Reasons.{ends_in_type}
use Rattle.sb_expr.proofs.tokens.Begins.{expr_begins, step_no_prefix, size_no_sign, begins_with_no_brace}
use Rattle.sb_expr.proofs.tokens.Ends.{comma_ends, question_ends, colon_ends, assigns_ends, operator_ends}
use Rattle.sb_expr.proofs.laws.Parenthesized.{first_of, prefix_is_deep, prefix_no_type, raised, type_begins, close_ends_type}
use Rattle.sb_expr.proofs.laws.Primary.{LawfulInside}
use Rattle.sb_expr.proofs.laws.Prefix.{prefix_op, step_op, postfix_plain}
use Rattle.sb_expr.proofs.laws.Infixes as infixes
use Rattle.sb_expr.proofs.laws.Infixes.{operated_head, infix_law}
use Rattle.sb_expr.proofs.laws.Conditionals.{conditional_law}
use Rattle.sb_expr.proofs.laws.Assignments.{prefix_unary, assignment_law}
use Rattle.sb_expr.proofs.laws.Expressions as commas
use Rattle.sb_expr.proofs.laws.Expressions.{assignment_last, followed_head}
use Rattle.sb_expr.proofs.telling.Loops.{loop_stops}
use Rattle.sb_expr.proofs.Tying.{lawful_parts}

module _ (w : Lexicon) (below : ℕ) (part : ℕ → Parts) (P : LawfulInside w below part)
    (Inner : (level : Level) (xs : List Token) (e : ExprTree) (rest : List Token) → IsExpr w level xs e → depth_of_expr e ≤ below → ends_in_type e ≡ true → at_next (is_open_brace w) rest ≡ true
    → (part 0).expr level (xs ++ rest) ≡ stop compound_literal (length rest)) where
  -- ---- what stands before an operand

  sized_halts : (at : Place) (xs : List Token) (e : ExprTree) (rest : List Token) → IsExpr w Prefix xs e → depth_of_expr e ≤ below → ends_in_type e ≡ true → at_next (is_open_brace w) rest ≡ true
      → choose (is_open w) (size_of_either w below part at) (size_of_expr w below part at) (xs ++ rest) ≡ stop compound_literal (length rest)
  unfolding size_of_either size_of_expr
  sized_halts at xs e rest is fits ends brace = by_test (at_next (is_open w) (xs ++ rest)) refl
    where
      inner : and_then ((part 0).expr Prefix (xs ++ rest)) (λ e. pure (tree.SizeOfExpr e at)) ≡ stop compound_literal (length rest)
      inner = ap (λ o. and_then o (λ e. pure (tree.SizeOfExpr e at))) (Inner Prefix xs e rest is fits ends brace)

      by_test : (b : Bool) → at_next (is_open w) (xs ++ rest) ≡ b → choose (is_open w) (size_of_either w below part at) (size_of_expr w below part at) (xs ++ rest) ≡ stop compound_literal (length rest)
      by_test false k = chosen (is_open w) (size_of_either w below part at) (size_of_expr w below part at) (xs ++ rest) false k ∙ inner
      by_test true k =
          let opens : at_next (is_open w) xs ≡ true = first_of w (is_open w) xs rest (expr_begins w Prefix xs e is) k in
          let two : 2 ≤ depth_of_expr e = prefix_is_deep w xs e is opens in
          chosen (is_open w) (size_of_either w below part at) (size_of_expr w below part at) (xs ++ rest) true k
          ∙ ap (λ z. if z then size_of_type w below part at (xs ++ rest) else (if nat_lt below 2 then no_room_inside w below part else size_of_expr w below part at) (xs ++ rest)) (prefix_no_type w xs e rest is opens)
          ∙ ap (λ z. (if z then no_room_inside w below part else size_of_expr w below part at) (xs ++ rest)) (room_within below 2 (omega arith)) ∙ inner

  prefix_halts : (xs : List Token) (e : ExprTree) → IsExpr w Prefix xs e → depth_of_expr e ≤ suc below → ends_in_type e ≡ true → (rest : List Token) → at_next (is_open_brace w) rest ≡ true
      → prefix_expr w below part (xs ++ rest) ≡ stop compound_literal (length rest)
  unfolding prefix_expr prefixed stepping size_of size_of_either size_of_type
  prefix_halts _ _ (is_postfix xs e is) deep ends rest brace = absurd (cc (sym (postfix_plain w xs e is) ∙ ends))
  prefix_halts _ _ (is_prefixed t op at xs e h is) deep ends rest brace =
      let fits : depth_of_expr e ≤ below = omega arith in
      let last : ends_in_type e ≡ true = sym (ap (λ b. if b then false else ends_in_type e) (prefix_op w t op at h)) ∙ ends in
      rw (h, room_for below e fits, Inner (Infix 0) xs e rest is fits last brace) refl
  prefix_halts _ _ (is_stepping t op at xs e h is) deep ends rest brace =
      let fits : depth_of_expr e ≤ below = omega arith in
      let last : ends_in_type e ≡ true = sym (ap (λ b. if b then false else ends_in_type e) (step_op w t op at h)) ∙ ends in
      rw (step_no_prefix w t (ap is_some h), h, room_for below e fits, Inner Prefix xs e rest is fits last brace) refl
  prefix_halts _ _ (is_size_of_expr t xs e h is) deep ends rest brace =
      let fits : depth_of_expr e ≤ below = omega arith in
      let inner : choose (is_open w) (size_of_either w below part t.place) (size_of_expr w below part t.place) (xs ++ rest) ≡ stop compound_literal (length rest) = sized_halts t.place xs e rest is fits ends brace in
      rw ((size_no_sign w t h).0, (size_no_sign w t h).1, h, room_for below e fits) inner
  prefix_halts _ _ (is_size_of_type t o c xs a h opens closes is) deep ends rest brace =
      let fits : depth_of_type (type_of a) ≤ below = omega arith in
      let room = some_room below (depth_of_type (type_of a)) (some_type_depth (type_of a)) fits in
      let second : at_next (begins_type w) ((xs ++ (c ∷ [])) ++ rest) ≡ true = head_of_append (begins_type w) (xs ++ (c ∷ [])) rest (head_of_append (begins_type w) xs (c ∷ []) (type_begins w xs a is)) in
      let reads : (part 0).type_name ((xs ++ (c ∷ [])) ++ rest) ≡ done a (c ∷ rest) = ap (part 0).type_name (append_assoc xs (c ∷ []) rest) ∙ (P room).type_name.complete xs a (c ∷ rest) (is, fits) (close_ends_type w a c closes) in
      rw ((size_no_sign w t h).0, (size_no_sign w t h).1, h, room, opens, second, reads, closes, brace) refl

  -- ---- casts

  uncast_halts : (xs : List Token) (e : ExprTree) → IsExpr w Prefix xs e → depth_of_expr e ≤ suc below → ends_in_type e ≡ true → (rest : List Token) → at_next (is_open_brace w) rest ≡ true
      → cast_expr w below part (xs ++ rest) ≡ stop compound_literal (length rest)
  unfolding cast_expr
  uncast_halts xs e is deep ends rest brace = by_test (at_next (is_open w) (xs ++ rest)) refl
    where
      by_test : (b : Bool) → at_next (is_open w) (xs ++ rest) ≡ b → cast_expr w below part (xs ++ rest) ≡ stop compound_literal (length rest)
      by_test false k = rw k (prefix_halts xs e is deep ends rest brace)
      by_test true k =
          let opens : at_next (is_open w) xs ≡ true = first_of w (is_open w) xs rest (expr_begins w Prefix xs e is) k in
          let two : 2 ≤ depth_of_expr e = prefix_is_deep w xs e is opens in
          rw (k, some_room below 1 (omega arith) (omega arith), prefix_no_type w xs e rest is opens) (prefix_halts xs e is deep ends rest brace)

  cast_halts : (xs : List Token) (e : ExprTree) → IsExpr w (Infix 0) xs e → depth_of_expr e ≤ suc below → ends_in_type e ≡ true → (rest : List Token) → at_next (is_open_brace w) rest ≡ true
      → cast_expr w below part (xs ++ rest) ≡ stop compound_literal (length rest)
  unfolding cast_expr cast
  cast_halts _ _ (is_uncast xs e is) deep ends rest brace = uncast_halts xs e is deep ends rest brace
  cast_halts _ _ (is_cast o c xs ys a e opens closes type is) deep ends rest brace =
      let before : depth_of_type (type_of a) ≤ below = first_fits (depth_of_type (type_of a)) (depth_of_expr e) below deep in
      let fits : depth_of_expr e ≤ below = second_fits (depth_of_type (type_of a)) (depth_of_expr e) below deep in
      let room = room_for below e fits in
      let second : at_next (begins_type w) ((xs ++ (c ∷ ys)) ++ rest) ≡ true = head_of_append (begins_type w) (xs ++ (c ∷ ys)) rest (head_of_append (begins_type w) xs (c ∷ ys) (type_begins w xs a type)) in
      let reads : (part 0).type_name ((xs ++ (c ∷ ys)) ++ rest) ≡ done a (c ∷ (ys ++ rest)) =
      ap (part 0).type_name (append_assoc xs (c ∷ ys) rest) ∙ (P room).type_name.complete xs a (c ∷ (ys ++ rest)) (type, before) (close_ends_type w a c closes) in
      rw (opens, room, second, reads, closes, begins_with_no_brace w (Infix 0) ys e rest is, Inner (Infix 0) ys e rest is fits ends brace) refl

  -- ---- operators between operands

  operated_halts : (k : ℕ) (t : Token) (ys : List Token) (e f : ExprTree) (rest : List Token) → is_operator w (suc k) t ≡ true → depth_of_expr e ≤ below → IsExpr w (Infix k) ys f → depth_of_expr f ≤ below → ends_in_type f ≡ true
      → at_next (is_open_brace w) rest ≡ true → operated w below part k e (t ∷ (ys ++ rest)) ≡ stop compound_literal (length rest)
  unfolding operated
  operated_halts k t ys e f rest h left is right ends brace = by_value (operator_of w (suc k) t) refl h
    where
      by_value : (o : Option (BinaryOp × Place)) → operator_of w (suc k) t ≡ o → is_some o ≡ true → operated w below part k e (t ∷ (ys ++ rest)) ≡ stop compound_literal (length rest)
      by_value None i j = absurd (cc j)
      by_value (Some op) i j = rw (room_within below (depth_of_expr e) left, i, Inner (Infix k) ys f rest is right ends brace) refl

  infix_halts : (k : ℕ) (xs : List Token) (e : ExprTree) → IsExpr w (Infix k) xs e → depth_of_expr e ≤ suc below → ends_in_type e ≡ true → (rest : List Token) → at_next (is_open_brace w) rest ≡ true
      → infix_at w below part k (xs ++ rest) ≡ stop compound_literal (length rest)
  unfolding infix_at
  infix_halts _ _ _ (is_uncast xs e is) deep ends rest brace = uncast_halts xs e is deep ends rest brace
  infix_halts _ _ _ (is_cast o c xs ys a e opens closes type is) deep ends rest brace = cast_halts (o ∷ (xs ++ (c ∷ ys))) (tree.Cast (type_of a) e o.place) (is_cast o c xs ys a e opens closes type is) deep ends rest brace
  infix_halts _ _ _ (is_tighter k xs e is) deep ends rest brace = ap (λ o. and_then o (looped (is_operator w (suc k)) (operated w below part k))) (infix_halts k xs e is deep ends rest brace)
  infix_halts _ _ _ (is_binary k t op at xs ys e f h first second) deep ends rest brace =
      let left : depth_of_expr e ≤ below = first_fits (depth_of_expr e) (depth_of_expr f) below deep in
      let right : depth_of_expr f ≤ below = second_fits (depth_of_expr e) (depth_of_expr f) below deep in
      ap (infix_at w below part (suc k)) (append_assoc xs (t ∷ ys) rest)
      ∙ loop_stops (operated_head w below part P k) (λ e t h. operator_ends w t k h e) (infix_law w below part P k) xs (t ∷ (ys ++ rest)) e (infixes.from w below k xs e first (omega arith)) (ap is_some h) compound_literal (length rest)
      (operated_halts k t ys e f rest (ap is_some h) left second right ends brace)

  -- ---- `?:`, assignments and commas

  conditional_halts : (xs : List Token) (e : ExprTree) → IsExpr w Conditional xs e → depth_of_expr e ≤ suc below → ends_in_type e ≡ true → (rest : List Token) → at_next (is_open_brace w) rest ≡ true
      → conditional w below part (xs ++ rest) ≡ stop compound_literal (length rest)
  unfolding conditional branches
  conditional_halts _ _ (is_infix xs e is) deep ends rest brace =
      ap (λ o. and_then o (λ e. choose (is_question w) (guard (nat_lt below (depth_of_expr e)) too_deep (branches w below part e)) (pure e))) (infix_halts 10 xs e is deep ends rest brace)
  conditional_halts _ _ (is_conditional q c xs ys zs e f g question colon first second third) deep ends rest brace =
      let left : depth_of_expr e ≤ below = first_fits (depth_of_expr e) (max (depth_of_expr f) (depth_of_expr g)) below deep in
      let right : max (depth_of_expr f) (depth_of_expr g) ≤ below = second_fits (depth_of_expr e) (max (depth_of_expr f) (depth_of_expr g)) below deep in
      let middle : depth_of_expr f ≤ max (depth_of_expr f) (depth_of_expr g) = le-max_left (depth_of_expr f) (depth_of_expr g) in
      let last : depth_of_expr g ≤ max (depth_of_expr f) (depth_of_expr g) = le-max_right (depth_of_expr f) (depth_of_expr g) in
      let reads : infix_at w below part 10 ((xs ++ (q ∷ (ys ++ (c ∷ zs)))) ++ rest) ≡ done e (q ∷ ((ys ++ (c ∷ zs)) ++ rest)) =
      ap (infix_at w below part 10) (append_assoc xs (q ∷ (ys ++ (c ∷ zs))) rest)
      ∙ (infix_law w below part P 10).complete xs e (q ∷ ((ys ++ (c ∷ zs)) ++ rest)) (first, omega arith) (question_ends w q question e) in
      let then_reads : (part 0).expr Sequence ((ys ++ (c ∷ zs)) ++ rest) ≡ done f (c ∷ (zs ++ rest)) =
      ap ((part 0).expr Sequence) (append_assoc ys (c ∷ zs) rest) ∙ ((P (room_for below e left)).expr Sequence).complete ys f (c ∷ (zs ++ rest)) (second, omega arith) (colon_ends w c colon f) in
      rw (reads, question, room_within below (depth_of_expr e) left, then_reads, colon, Inner Conditional zs g rest third (omega arith) ends brace) refl

  assignment_halts : (xs : List Token) (e : ExprTree) → IsExpr w Assignment xs e → depth_of_expr e ≤ suc below → ends_in_type e ≡ true → (rest : List Token) → at_next (is_open_brace w) rest ≡ true
      → assignment w below part (xs ++ rest) ≡ stop compound_literal (length rest)
  unfolding assignment assigned
  assignment_halts _ _ (is_chosen xs e is) deep ends rest brace =
      ap (λ o. and_then o (λ e. choose (assigns w e) (guard (nat_lt below (depth_of_expr e)) too_deep (assigned w below part e)) (pure e))) (conditional_halts xs e is deep ends rest brace)
  assignment_halts _ _ (is_assignment t op at xs ys e f h first second) deep ends rest brace =
      let left : depth_of_expr e ≤ below = first_fits (depth_of_expr e) (depth_of_expr f) below deep in
      let right : depth_of_expr f ≤ below = second_fits (depth_of_expr e) (depth_of_expr f) below deep in
      let reads : conditional w below part ((xs ++ (t ∷ ys)) ++ rest) ≡ done e (t ∷ (ys ++ rest)) =
      ap (conditional w below part) (append_assoc xs (t ∷ ys) rest)
      ∙ (conditional_law w below part P).complete xs e (t ∷ (ys ++ rest)) (is_infix xs e (raised w 10 xs e (is_uncast xs e first)), omega arith) (assigns_ends w t (ap is_some h) e) in
      rw (reads, prefix_unary w xs e first, h, room_within below (depth_of_expr e) left, Inner Assignment ys f rest second right ends brace) refl

  followed_halts : (t : Token) (ys : List Token) (e f : ExprTree) (rest : List Token) → is_comma w t ≡ true → depth_of_expr e ≤ below → IsExpr w Assignment ys f → depth_of_expr f ≤ below → ends_in_type f ≡ true
      → at_next (is_open_brace w) rest ≡ true → followed w below part e (t ∷ (ys ++ rest)) ≡ stop compound_literal (length rest)
  unfolding followed
  followed_halts t ys e f rest h left is right ends brace = rw (room_within below (depth_of_expr e) left, h, Inner Assignment ys f rest is right ends brace) refl

  sequence_halts : (xs : List Token) (e : ExprTree) → IsExpr w Sequence xs e → depth_of_expr e ≤ suc below → ends_in_type e ≡ true → (rest : List Token) → at_next (is_open_brace w) rest ≡ true
      → sequence w below part (xs ++ rest) ≡ stop compound_literal (length rest)
  unfolding sequence
  sequence_halts _ _ (is_assigned xs e is) deep ends rest brace = ap (λ o. and_then o (looped (is_comma w) (followed w below part))) (assignment_halts xs e is deep ends rest brace)
  sequence_halts _ _ (is_sequence t xs ys e f h first second) deep ends rest brace =
      let left : depth_of_expr e ≤ below = first_fits (depth_of_expr e) (depth_of_expr f) below deep in
      let right : depth_of_expr f ≤ below = second_fits (depth_of_expr e) (depth_of_expr f) below deep in
      ap (sequence w below part) (append_assoc xs (t ∷ ys) rest)
      ∙ loop_stops (followed_head w below part P) (λ e t h. comma_ends w t h (last_of e))
      (goes_on_where (assignment_law w below part P) (λ e. more_assignment w (last_of e)) (λ ts e f t. ap (λ x. more_assignment w x t) (assignment_last w ts e f.0)))
      xs (t ∷ (ys ++ rest)) e (commas.from w below xs e first (omega arith)) h compound_literal (length rest) (followed_halts t ys e f rest h left second right ends brace)

  level_halts : (level : Level) (xs : List Token) (e : ExprTree) → IsExpr w level xs e → depth_of_expr e ≤ suc below → ends_in_type e ≡ true → (rest : List Token) → at_next (is_open_brace w) rest ≡ true
      → at_level w below part level (xs ++ rest) ≡ stop compound_literal (length rest)
  level_halts Primary xs e is deep ends rest brace = absurd (cc (sym (postfix_plain w xs e (is_primary xs e is)) ∙ ends))
  level_halts Postfix xs e is deep ends rest brace = absurd (cc (sym (postfix_plain w xs e is) ∙ ends))
  level_halts Prefix xs e is deep ends rest brace = prefix_halts xs e is deep ends rest brace
  level_halts (Infix k) xs e is deep ends rest brace = infix_halts k xs e is deep ends rest brace
  level_halts Conditional xs e is deep ends rest brace = conditional_halts xs e is deep ends rest brace
  level_halts Assignment xs e is deep ends rest brace = assignment_halts xs e is deep ends rest brace
  level_halts Sequence xs e is deep ends rest brace = sequence_halts xs e is deep ends rest brace

-- with any room that is enough
pub literal_refused : (w : Lexicon) (left : ℕ) (level : Level) (xs : List Token) (e : ExprTree) (rest : List Token) → IsExpr w level xs e → depth_of_expr e ≤ left → ends_in_type e ≡ true → at_next (is_open_brace w) rest ≡ true
    → expr_reader w left level (xs ++ rest) ≡ stop compound_literal (length rest)
literal_refused w zero level xs e rest is deep ends brace = absurd (let some : 1 ≤ depth_of_expr e = some_depth e in omega arith)
literal_refused w (suc n) level xs e rest is deep ends brace =
    ap (λ p. p.expr level (xs ++ rest)) (descent_step (no_parts w) (whole_parts w) n)
    ∙ level_halts w n (parts w n) (λ room. lawful_parts w n (room_is n room)) (λ level xs e rest is fits ends brace. literal_refused w n level xs e rest is fits ends brace) level xs e is deep ends rest brace
