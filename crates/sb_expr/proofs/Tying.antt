-- The readers of each depth keep the laws; and what that comes to in the grammar's words.
use Rattle.std.proofs.Common.{◌≡◌, ◌≤◌, ◌<◌, ◌-◌, ℕ, zero, suc, max, Bool, true, false, List, length, drop, Result, Ok, Err, if◌then◌else◌, refl, sym, ap, ◌∙◌, subst, inl, inr, arith}
use Rattle.std.proofs.Math.Nat.{le-max_left, le-max_right}
use Rattle.sb_base.specs.declared.refusals.Stop.{Stop}
use Rattle.sb_base.specs.declared.refusals.Stop.TheVariants.{Refused, Memory}
use Rattle.sb_base.specs.declared.tokens.Token.{Token}
use Rattle.sb_parse.specs.Parser.{Outcome, Parser, done, stop, at_next, choose, refuse}
use Rattle.sb_parse.specs.Read.{IsLongest}
use Rattle.sb_parse.proofs.Reading.{one_tree, longest, refused}
use Rattle.sb_tree.specs.declared.syntax.Expr.{Expr}
use Rattle.sb_tree.specs.declared.syntax.TypeName.{TypeName}
use Rattle.sb_tree.specs.Plain.{plain_expr, plain_type}
use Rattle.sb_tree.specs.Trees.{ExprTree, depth_of_expr, depth_of_type}
use Rattle.sb_lexicon.specs.Lexicon.{Lexicon}
use Rattle.sb_operand.specs.Pieces.{Declared, type_of}
use Rattle.sb_expr.specs.Expression.{Level, Sequence, IsExpr, IsType}
use Rattle.sb_expr.specs.Readers.{begins_at, no_type, whole_parts, no_parts, parts, expr_reader, type_reader}
use Rattle.sb_lexicon.specs.Tokens.{too_deep, unexpected, floating, union, volatile, complex}
use Rattle.sb_expr.specs.Reads.{FitsExpr, FitsType, IsExprRead, IsTypeRead}
use Rattle.sb_lexicon.specs.Outcomes.{IsRefusedThere, IsLongestRead}
use Rattle.sb_expr.proofs.tokens.More.{LawfulParts}
use Rattle.sb_parse.proofs.Descending.{descent_from, descent_step, descent_bottom}
use Rattle.sb_lexicon.proofs.Depths.{some_depth, some_type_depth}
use Rattle.sb_expr.proofs.laws.Expressions.{lawful_expr}
use Rattle.sb_expr.proofs.laws.TypeNames.{lawful_type}

-- ---- without room

-- a reader that refuses whatever is next
abbrev Refusing : {A : Type 0} → Parser Token A → Type 0
Refusing p = (ts : List Token) → (n : ℕ) × (p ts ≡ stop n (length ts))

refusing_choice : {A : Type 0} (goes : Token → Bool) (p q : Parser Token A) → Refusing p → Refusing q → Refusing (choose goes p q)
refusing_choice goes p q P Q ts = by_test (at_next goes ts)
  where
    by_test : (b : Bool) → (n : ℕ) × ((if b then p ts else q ts) ≡ stop n (length ts))
    by_test true = P ts
    by_test false = Q ts

refusing : {A : Type 0} (n : ℕ) → Refusing {A = A} (refuse n)
refusing n ts = (n, refl)

no_expr_read : (w : Lexicon) (level : Level) → Refusing ((no_parts w).expr level)
no_expr_read w level = refusing_choice (begins_at w level) (refuse too_deep) (refuse unexpected) (refusing too_deep) (refusing unexpected)

no_type_read : (w : Lexicon) → Refusing (no_type w)
no_type_read w =
    refusing_choice _ _ _ (refusing floating)
    (refusing_choice _ _ _ (refusing union)
    (refusing_choice _ _ _ (refusing volatile)
    (refusing_choice _ _ _ (refusing complex)
    (refusing_choice _ _ _ (refusing too_deep) (refusing unexpected)))))

never_done : {A : Type 0} (p : Parser Token A) → Refusing p → (ts : List Token) (a : A) (rest : List Token) → p ts ≡ done a rest → ⊥
never_done p P ts a rest e = let both : stop (P ts).0 (length ts) ≡ done a rest = sym (P ts).1 ∙ e in cc both

stops_at_once : {A : Type 0} (p : Parser Token A) → Refusing p → (ts : List Token) (n left : ℕ) → p ts ≡ stop n left → left ≡ length ts
stops_at_once {A = A} p P ts n left e = let both : Path (Outcome Token A) (stop (P ts).0 (length ts)) (stop n left) = sym (P ts).1 ∙ e in cc both

no_expr_fits : (w : Lexicon) (level : Level) (ts : List Token) (e : ExprTree) → FitsExpr w 0 level ts e → ⊥
no_expr_fits w level ts e is = let some : 1 ≤ depth_of_expr e = some_depth e in let none : depth_of_expr e ≤ 0 = is.1 in absurd (omega arith)

no_type_fits : (w : Lexicon) (ts : List Token) (d : Declared) → FitsType w 0 ts d → ⊥
no_type_fits w ts d is = let some : 1 ≤ depth_of_type (type_of d) = some_type_depth (type_of d) in let none : depth_of_type (type_of d) ≤ 0 = is.1 in absurd (omega arith)

without_room : (w : Lexicon) → parts w 0 0 ≡ no_parts w
without_room w = descent_bottom (no_parts w) (whole_parts w)

-- ---- with room

module _ (w : Lexicon) where
  up_to : (most left : ℕ) → left ≤ most → 1 ≤ left → LawfulParts w left (parts w left 0)
  up_to most zero le some = absurd (omega arith)
  up_to zero (suc n) le some = absurd (omega arith)
  up_to (suc most) (suc n) le some =
      let below : (k : ℕ) → k < n → LawfulParts w (n - k) (parts w n k) = λ k lt. subst (LawfulParts w (n - k)) (sym (descent_from (no_parts w) (whole_parts w) n k)) (up_to most (n - k) (omega arith) (omega arith)) in
      subst (LawfulParts w (suc n)) (sym (descent_step (no_parts w) (whole_parts w) n)) (record { expr = lawful_expr w n (parts w n) below; type_name = lawful_type w n (parts w n) below })

  pub lawful_parts : (left : ℕ) → 1 ≤ left → LawfulParts w left (parts w left 0)
  lawful_parts left some = up_to left left (omega arith) some

  -- ---- in the grammar's words

  pub expr_longest : (left : ℕ) (level : Level) (ts : List Token) (e : ExprTree) (rest : List Token) → expr_reader w left level ts ≡ done e rest → IsLongest (FitsExpr w left level) ts e rest
  expr_longest zero level ts e rest h = absurd (never_done ((no_parts w).expr level) (no_expr_read w level) ts e rest (sym (ap (λ p. p.expr level ts) (without_room w)) ∙ h))
  expr_longest (suc n) level ts e rest h = longest ((lawful_parts (suc n) (omega arith)).expr level) ts e rest h

  pub expr_refused : (left : ℕ) (level : Level) (ts : List Token) (n k : ℕ) → expr_reader w left level ts ≡ stop n k → IsRefusedThere (FitsExpr w left level) ts k
  expr_refused zero level ts n k h =
      inr (record { left_is = stops_at_once ((no_parts w).expr level) (no_expr_read w level) ts n k (sym (ap (λ p. p.expr level ts) (without_room w)) ∙ h); none = no_expr_fits w level })
  expr_refused (suc m) level ts n k h = inl (refused ((lawful_parts (suc m) (omega arith)).expr level) ts n k h)

  pub type_longest : (left : ℕ) (ts : List Token) (d : Declared) (rest : List Token) → type_reader w left ts ≡ done d rest → IsLongest (FitsType w left) ts d rest
  type_longest zero ts d rest h = absurd (never_done (no_type w) (no_type_read w) ts d rest (sym (ap (λ p. p.type_name ts) (without_room w)) ∙ h))
  type_longest (suc n) ts d rest h = longest (lawful_parts (suc n) (omega arith)).type_name ts d rest h

  pub type_refused : (left : ℕ) (ts : List Token) (n k : ℕ) → type_reader w left ts ≡ stop n k → IsRefusedThere (FitsType w left) ts k
  type_refused zero ts n k h =
      inr (record { left_is = stops_at_once (no_type w) (no_type_read w) ts n k (sym (ap (λ p. p.type_name ts) (without_room w)) ∙ h); none = no_type_fits w })
  type_refused (suc m) ts n k h = inl (refused (lawful_parts (suc m) (omega arith)).type_name ts n k h)

  -- no text has two trees
  pub one_expr : (level : Level) (ts : List Token) (e f : ExprTree) → IsExpr w level ts e → IsExpr w level ts f → e ≡ f
  one_expr level ts e f is also =
      let some : 1 ≤ depth_of_expr e = some_depth e in
      let first : depth_of_expr e ≤ max (depth_of_expr e) (depth_of_expr f) = le-max_left (depth_of_expr e) (depth_of_expr f) in
      let second : depth_of_expr f ≤ max (depth_of_expr e) (depth_of_expr f) = le-max_right (depth_of_expr e) (depth_of_expr f) in
      one_tree ((lawful_parts (max (depth_of_expr e) (depth_of_expr f)) (omega arith)).expr level) ts e f (is, first) (also, second)

  pub one_type : (ts : List Token) (d f : Declared) → IsType w ts d → IsType w ts f → d ≡ f
  one_type ts d f is also =
      let some : 1 ≤ depth_of_type (type_of d) = some_type_depth (type_of d) in
      let first : depth_of_type (type_of d) ≤ max (depth_of_type (type_of d)) (depth_of_type (type_of f)) = le-max_left (depth_of_type (type_of d)) (depth_of_type (type_of f)) in
      let second : depth_of_type (type_of f) ≤ max (depth_of_type (type_of d)) (depth_of_type (type_of f)) = le-max_right (depth_of_type (type_of d)) (depth_of_type (type_of f)) in
      one_tree (lawful_parts (max (depth_of_type (type_of d)) (depth_of_type (type_of f))) (omega arith)).type_name ts d f (is, first) (also, second)

  -- ---- what a call answers

  pub expr_read : (tokens : List Token) (next left now : ℕ) (result : Result Expr Stop) → IsExprRead w tokens next left now result
      → IsLongestRead (FitsExpr w left Sequence) (λ a e. a ≡ plain_expr e) tokens next now result
  expr_read tokens next left now (Ok e) is = (is.0, expr_longest left Sequence (drop next tokens) is.0 (drop now tokens) is.1, is.2)
  expr_read tokens next left now (Err (Refused r)) is = (is.number, is.left, is.is, expr_refused left Sequence (drop next tokens) is.number is.left is.stops)
  expr_read tokens next left now (Err Memory) is = tt

  pub type_read : (tokens : List Token) (next left now : ℕ) (result : Result TypeName Stop) → IsTypeRead w tokens next left now result
      → IsLongestRead (FitsType w left) (λ d t. type_of d ≡ plain_type t) tokens next now result
  type_read tokens next left now (Ok t) is = (is.0, type_longest left (drop next tokens) is.0 (drop now tokens) is.1, is.2)
  type_read tokens next left now (Err (Refused r)) is = (is.number, is.left, is.is, type_refused left (drop next tokens) is.number is.left is.stops)
  type_read tokens next left now (Err Memory) is = tt
