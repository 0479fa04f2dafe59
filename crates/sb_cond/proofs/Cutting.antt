-- Where the reader of a condition stops, its number is that of the first operator without a value in what is cut off there.
use Rattle.std.proofs.Common.{◌≡◌, ◌⊎◌, ℕ, zero, suc, Bool, true, false, List, [], ◌∷◌, ◌++◌, length, Option, Some, None, refl, sym, ap, ◌∙◌, subst, append_assoc, append-nil, inl, inr}
use Rattle.sb_parse.specs.Parser.{done, stop, at_next, and_then, ◌>>=◌, pure, token, taken, choose, guard, loop, looped}
use Rattle.sb_parse.specs.Lawful.{Part, over, turn}
use Rattle.sb_parse.proofs.Heads.{chosen}
use Rattle.sb_cond.specs.declared.arithmetic.Operand.{Operand}
use Rattle.sb_cond.specs.declared.arithmetic.Operator.{Operator}
use Rattle.sb_cond.specs.declared.expression.Entry.{Entry}
use Rattle.sb_cond.specs.declared.expression.Entry.TheVariants as entry
use Rattle.sb_cond.specs.declared.sign.ConditionToken.{ConditionToken}
use Rattle.sb_cond.specs.Arithmetic.{unary, binary, selected, in_sequence as in_a_sequence, fault_of, fault_behind, fault_selected, none_at}
use Rattle.sb_cond.specs.Cut.{IsCut, nothing, in_group, behind_group, in_primary, in_prefixed, in_tighter, in_binary, in_infix, too_deep, in_first, behind_first, in_second, in_conditional, in_sequence}
use Rattle.sb_cond.specs.Expression.{operand_of, prefix_of, operator_of, is_open, is_close, is_question, is_colon, comma_of, Level, Primary, Infix, Conditional, Sequence, IsExpression, is_tighter, is_conditional}
use Rattle.sb_cond.specs.Readers.{Reader, number_of, fault_in, number_after, number_behind, number_first, number_second, number_in_sequence, renumbered, is_prefix, is_operator, is_comma, is_zero, group, primary, prefix_expression, operand, operation_on, infix_at, second_branch, branches, conditional, comma_on, sequence, at_entry, below}
use Rattle.sb_cond.proofs.Laws.{level_of, less_one, deeper, infix_law, conditional_law, operated_head, turns_are, followed_head, sequences_are}
use Rattle.sb_cond.proofs.Signs.{goes_on}
use Rattle.sb_cond.proofs.Stops.{bound_stop, token_stops, token_reads, taken_stops, taken_reads, token_passes, taken_passes, renumbered_stop, renumbered_done, fault_in_number}

-- the tokens up to where so many are left are cut off there
pub record CutAt (left : ℕ) (level : Level) (ts : List ConditionToken) (n k : ℕ) : Type 0 where
  pub front : List ConditionToken
  pub bad : List ConditionToken
  pub split : ts ≡ front ++ bad
  pub left_is : k ≡ length bad
  pub is : IsCut left level front (fault_in n)

-- the same behind tokens that were read
record CutBehind (left : ℕ) (level : Level) (xs ts : List ConditionToken) (n k : ℕ) : Type 0 where
  front : List ConditionToken
  bad : List ConditionToken
  split : ts ≡ front ++ bad
  left_is : k ≡ length bad
  is : IsCut left level (xs ++ front) (fault_in n)

at_once : (left : ℕ) (ts : List ConditionToken) (n k : ℕ) → 0 ≡ n → k ≡ length ts → CutAt left Primary ts n k
at_once left ts n k number lefts = record { front = []; bad = ts; split = refl; left_is = lefts; is = subst (λ m. IsCut left Primary [] (fault_in m)) number (nothing left) }

at_level : (left : ℕ) (a b : Level) (ts : List ConditionToken) (n k : ℕ) → ((xs : List ConditionToken) (f : Option ℕ) → IsCut left a xs f → IsCut left b xs f) → CutAt left a ts n k → CutAt left b ts n k
at_level left a b ts n k to c = record { front = c.front; bad = c.bad; split = c.split; left_is = c.left_is; is = to c.front (fault_in n) c.is }

abbrev pub Cuts : ℕ → Type 0
Cuts left = is_zero left ≡ false → (e : Entry) (ts : List ConditionToken) (n k : ℕ) → below left e ts ≡ stop n k → CutAt (less_one left) (level_of e) ts n k

-- ---- a loop

module _ (left : ℕ) (level : Level) (test : ConditionToken → Bool) (op : Operand → Reader)
    (reads : (a b : Operand) (xs ts rest : List ConditionToken) → IsExpression left level xs a → at_next test ts ≡ true → op a ts ≡ done b rest
    → (us : List ConditionToken) × (ts ≡ us ++ rest) × IsExpression left level (xs ++ us) b)
    (stops : (a : Operand) (xs ts : List ConditionToken) (n k : ℕ) → IsExpression left level xs a → at_next test ts ≡ true → op a ts ≡ stop n k → CutBehind left level xs ts n k) where
  loop_cut : (turns : ℕ) (a : Operand) (xs ts : List ConditionToken) (n k : ℕ) → IsExpression left level xs a → loop test op turns a ts ≡ stop n k → CutBehind left level xs ts n k
  unfolding loop
  loop_cut zero a xs ts n k is h = absurd (cc h)
  loop_cut (suc turns) a xs ts n k is h = by_test (at_next test ts) refl (loop_cut turns)
    where
      by_test : (b : Bool) → at_next test ts ≡ b → ((b : Operand) (ys us : List ConditionToken) (n k : ℕ) → IsExpression left level ys b → loop test op turns b us ≡ stop n k → CutBehind left level ys us n k) → CutBehind left level xs ts n k
      by_test false e later = let halt : done a ts ≡ stop n k = sym (chosen test (op a >>= loop test op turns) (pure a) ts false e) ∙ h in absurd (cc halt)
      by_test true e later = go (bound_stop (op a ts) (loop test op turns) n k (sym (chosen test (op a >>= loop test op turns) (pure a) ts true e) ∙ h))
        where
          go : (op a ts ≡ stop n k) ⊎ ((b : Operand) × (rest : List ConditionToken) × (op a ts ≡ done b rest) × (loop test op turns b rest ≡ stop n k)) → CutBehind left level xs ts n k
          go (inl s) = stops a xs ts n k is e s
          go (inr d) =
              let once : (us : List ConditionToken) × (ts ≡ us ++ d.1) × IsExpression left level (xs ++ us) d.0 = reads a d.0 xs ts d.1 is e d.2 in
              let c : CutBehind left level (xs ++ once.0) d.1 n k = later d.0 (xs ++ once.0) d.1 n k once.2 d.3 in
              record {
                front = once.0 ++ c.front;
                bad = c.bad;
                split = once.1 ∙ ap (λ l. once.0 ++ l) c.split ∙ sym (append_assoc once.0 c.front c.bad);
                left_is = c.left_is;
                is = subst (λ l. IsCut left level l (fault_in n)) (append_assoc xs once.0 c.front) c.is;
              }

-- ---- the readers, where those one level deeper do so

module _ (left : ℕ) (C : Cuts left) where
  abbrev bar : Bool
  bar = is_zero left

  abbrev part : Entry → Reader
  part = below left

  grouped_cut : (left : ℕ) → Cuts left → is_zero left ≡ false → (ts : List ConditionToken) (n k : ℕ) → at_next is_open ts ≡ true → group (is_zero left) (below left) ts ≡ stop n k → CutAt left Primary ts n k
  unfolding group
  grouped_cut zero C deep ts n k next h = absurd (cc deep)
  grouped_cut (suc l) C deep ts n k next h = go (bound_stop (token 0 is_open ts) (λ o. below (suc l) entry.Whole >>= (λ a. token (number_after a) is_close >>= (λ c. pure a))) n k h)
    where
      go : (token 0 is_open ts ≡ stop n k) ⊎ ((o : ConditionToken) × (r : List ConditionToken) × (token 0 is_open ts ≡ done o r)
          × (and_then (below (suc l) entry.Whole r) (λ a. token (number_after a) is_close >>= (λ c. pure a)) ≡ stop n k)) → CutAt (suc l) Primary ts n k
      go (inl s) = absurd (token_passes 0 is_open ts n k next s)
      go (inr d) = inside (bound_stop (below (suc l) entry.Whole d.1) (λ a. token (number_after a) is_close >>= (λ c. pure a)) n k d.3)
        where
          opening : (ts ≡ d.0 ∷ d.1) × (is_open d.0 ≡ true)
          opening = token_reads 0 is_open ts d.0 d.1 d.2

          inside : (below (suc l) entry.Whole d.1 ≡ stop n k) ⊎ ((a : Operand) × (r : List ConditionToken) × (below (suc l) entry.Whole d.1 ≡ done a r)
              × (and_then (token (number_after a) is_close r) (λ c. pure a) ≡ stop n k)) → CutAt (suc l) Primary ts n k
          inside (inl s) =
              let c : CutAt l Sequence d.1 n k = C deep entry.Whole d.1 n k s in
              record { front = d.0 ∷ c.front; bad = c.bad; split = opening.0 ∙ ap (λ z. d.0 ∷ z) c.split; left_is = c.left_is; is = in_group l d.0 c.front (fault_in n) opening.1 c.is }
          inside (inr e) =
              let u = (deeper (suc l) deep entry.Whole).sound d.1 e.0 e.1 e.2 in
              closing u.front u.split u.is (bound_stop (token (number_after e.0) is_close e.1) (λ c. pure e.0) n k e.3)
            where
              closing : (xs : List ConditionToken) → d.1 ≡ xs ++ e.1 → IsExpression l Sequence xs e.0
                  → (token (number_after e.0) is_close e.1 ≡ stop n k) ⊎ ((c : ConditionToken) × (r : List ConditionToken) × (token (number_after e.0) is_close e.1 ≡ done c r) × (pure e.0 r ≡ stop n k)) → CutAt (suc l) Primary ts n k
              closing xs split is (inr f) = absurd (cc f.3)
              closing xs split is (inl s) =
                  let w : (number_after e.0 ≡ n) × (k ≡ length e.1) = token_stops (number_after e.0) is_close e.1 n k s in
                  record {
                    front = d.0 ∷ xs;
                    bad = e.1;
                    split = opening.0 ∙ ap (λ z. d.0 ∷ z) split;
                    left_is = w.1;
                    is = subst (λ f. IsCut (suc l) Primary (d.0 ∷ xs) f) (sym (fault_in_number (fault_of e.0.value)) ∙ ap fault_in w.0) (behind_group l d.0 xs e.0 opening.1 is);
                  }

  primary_cut : (ts : List ConditionToken) (n k : ℕ) → primary bar part ts ≡ stop n k → CutAt left Primary ts n k
  unfolding primary
  primary_cut ts n k h = by_test (at_next is_open ts) refl
    where
      guarded : (b : Bool) → bar ≡ b → at_next is_open ts ≡ true → guard bar 0 (group bar part) ts ≡ stop n k → CutAt left Primary ts n k
      guarded true e next s = let barred : stop 0 (length ts) ≡ stop n k = sym (ap (λ b. guard b 0 (group bar part) ts) e) ∙ s in at_once left ts n k (cc barred) (cc barred)
      guarded false e next s = grouped_cut left C e ts n k next (sym (ap (λ b. guard b 0 (group bar part) ts) e) ∙ s)

      by_test : (b : Bool) → at_next is_open ts ≡ b → CutAt left Primary ts n k
      by_test true e = guarded bar refl e (sym (chosen is_open (guard bar 0 (group bar part)) (taken 0 operand_of) ts true e) ∙ h)
      by_test false e =
          let w : (0 ≡ n) × (k ≡ length ts) = taken_stops 0 operand_of ts n k (sym (chosen is_open (guard bar 0 (group bar part)) (taken 0 operand_of) ts false e) ∙ h) in
          at_once left ts n k w.0 w.1

  prefixed_cut : (left : ℕ) → Cuts left → is_zero left ≡ false → (ts : List ConditionToken) (n k : ℕ) → at_next is_prefix ts ≡ true → prefix_expression (is_zero left) (below left) ts ≡ stop n k → CutAt left (Infix 0) ts n k
  unfolding prefix_expression
  prefixed_cut zero C deep ts n k next h = absurd (cc deep)
  prefixed_cut (suc l) C deep ts n k next h = go (bound_stop (taken 0 prefix_of ts) (λ op. below (suc l) entry.Operand >>= (λ a. pure (unary op a))) n k h)
    where
      go : (taken 0 prefix_of ts ≡ stop n k) ⊎ ((op : _) × (r : List ConditionToken) × (taken 0 prefix_of ts ≡ done op r) × (and_then (below (suc l) entry.Operand r) (λ a. pure (unary op a)) ≡ stop n k)) → CutAt (suc l) (Infix 0) ts n k
      go (inl s) = absurd (taken_passes 0 prefix_of ts n k next s)
      go (inr d) = inside (bound_stop (below (suc l) entry.Operand d.1) (λ a. pure (unary d.0 a)) n k d.3)
        where
          opening : (t : ConditionToken) × (ts ≡ t ∷ d.1) × (prefix_of t ≡ Some d.0)
          opening = taken_reads 0 prefix_of ts d.0 d.1 d.2

          inside : (below (suc l) entry.Operand d.1 ≡ stop n k) ⊎ ((a : Operand) × (r : List ConditionToken) × (below (suc l) entry.Operand d.1 ≡ done a r) × (pure (unary d.0 a) r ≡ stop n k)) → CutAt (suc l) (Infix 0) ts n k
          inside (inr e) = absurd (cc e.3)
          inside (inl s) =
              let c : CutAt l (Infix 0) d.1 n k = C deep entry.Operand d.1 n k s in
              record { front = opening.0 ∷ c.front; bad = c.bad; split = opening.1 ∙ ap (λ z. opening.0 ∷ z) c.split; left_is = c.left_is; is = in_prefixed l opening.0 d.0 c.front (fault_in n) opening.2 c.is }

  operand_cut : (ts : List ConditionToken) (n k : ℕ) → operand bar part ts ≡ stop n k → CutAt left (Infix 0) ts n k
  unfolding operand
  operand_cut ts n k h = by_test (at_next is_prefix ts) refl
    where
      guarded : (b : Bool) → bar ≡ b → at_next is_prefix ts ≡ true → guard bar 0 (prefix_expression bar part) ts ≡ stop n k → CutAt left (Infix 0) ts n k
      guarded true e next s =
          let barred : stop 0 (length ts) ≡ stop n k = sym (ap (λ b. guard b 0 (prefix_expression bar part) ts) e) ∙ s in
          at_level left Primary (Infix 0) ts n k (in_primary left) (at_once left ts n k (cc barred) (cc barred))
      guarded false e next s = prefixed_cut left C e ts n k next (sym (ap (λ b. guard b 0 (prefix_expression bar part) ts) e) ∙ s)

      by_test : (b : Bool) → at_next is_prefix ts ≡ b → CutAt left (Infix 0) ts n k
      by_test true e = guarded bar refl e (sym (chosen is_prefix (guard bar 0 (prefix_expression bar part)) (primary bar part) ts true e) ∙ h)
      by_test false e = at_level left Primary (Infix 0) ts n k (in_primary left) (primary_cut ts n k (sym (chosen is_prefix (guard bar 0 (prefix_expression bar part)) (primary bar part) ts false e) ∙ h))

  -- ---- operators between operands

  operated_cut : (i : ℕ) → ((ts : List ConditionToken) (n k : ℕ) → infix_at bar part i ts ≡ stop n k → CutAt left (Infix i) ts n k)
      → (a : Operand) (xs ts : List ConditionToken) (n k : ℕ) → IsExpression left (Infix (suc i)) xs a → at_next (is_operator (suc i)) ts ≡ true → operation_on bar part i (infix_at bar part i) a ts ≡ stop n k
      → CutBehind left (Infix (suc i)) xs ts n k
  unfolding operation_on
  operated_cut i below_it a xs ts n k is next h = go (bound_stop (taken 0 (operator_of (suc i)) ts) (λ op us. and_then (renumbered (number_behind op.0 a) (infix_at bar part i us)) (λ b. pure (binary op.1 op.0 a b))) n k h)
    where
      go : (taken 0 (operator_of (suc i)) ts ≡ stop n k) ⊎ ((op : Operator × ℕ) × (r : List ConditionToken) × (taken 0 (operator_of (suc i)) ts ≡ done op r)
          × (and_then (renumbered (number_behind op.0 a) (infix_at bar part i r)) (λ b. pure (binary op.1 op.0 a b)) ≡ stop n k)) → CutBehind left (Infix (suc i)) xs ts n k
      go (inl s) = absurd (taken_passes 0 (operator_of (suc i)) ts n k next s)
      go (inr d) = inside (bound_stop (renumbered (number_behind d.0.0 a) (infix_at bar part i d.1)) (λ b. pure (binary d.0.1 d.0.0 a b)) n k d.3)
        where
          opening : (t : ConditionToken) × (ts ≡ t ∷ d.1) × (operator_of (suc i) t ≡ Some d.0)
          opening = taken_reads 0 (operator_of (suc i)) ts d.0 d.1 d.2

          inside : (renumbered (number_behind d.0.0 a) (infix_at bar part i d.1) ≡ stop n k)
              ⊎ ((b : Operand) × (r : List ConditionToken) × (renumbered (number_behind d.0.0 a) (infix_at bar part i d.1) ≡ done b r) × (pure (binary d.0.1 d.0.0 a b) r ≡ stop n k)) → CutBehind left (Infix (suc i)) xs ts n k
          inside (inr e) = absurd (cc e.3)
          inside (inl s) =
              let w : (m : ℕ) × (infix_at bar part i d.1 ≡ stop m k) × (number_behind d.0.0 a m ≡ n) = renumbered_stop (number_behind d.0.0 a) (infix_at bar part i d.1) n k s in
              let c : CutAt left (Infix i) d.1 w.0 k = below_it d.1 w.0 k w.1 in
              record {
                front = opening.0 ∷ c.front;
                bad = c.bad;
                split = opening.1 ∙ ap (λ z. opening.0 ∷ z) c.split;
                left_is = c.left_is;
                is = subst (λ f. IsCut left (Infix (suc i)) (xs ++ (opening.0 ∷ c.front)) f) (sym (fault_in_number (fault_behind d.0.0 a.value (fault_in w.0))) ∙ ap fault_in w.2)
                    (in_binary left i d.0.1 opening.0 d.0.0 xs c.front a (fault_in w.0) opening.2 is c.is);
              }

  operated_reads : (i : ℕ) (a b : Operand) (xs ts rest : List ConditionToken) → IsExpression left (Infix (suc i)) xs a → at_next (is_operator (suc i)) ts ≡ true → operation_on bar part i (infix_at bar part i) a ts ≡ done b rest
      → (us : List ConditionToken) × (ts ≡ us ++ rest) × IsExpression left (Infix (suc i)) (xs ++ us) b
  operated_reads i a b xs ts rest is next h =
      let u = (operated_head left (deeper left) i (infix_law left (deeper left) i) a).sound ts b rest next h in
      (u.front, u.split, subst (λ l. IsExpression left (Infix (suc i)) (xs ++ l) b) (append-nil u.front) (turns_are left (deeper left) i a b xs (u.front ++ []) is (turn a b b u.front [] u.is (over b))))

  infix_cut : (i : ℕ) (ts : List ConditionToken) (n k : ℕ) → infix_at bar part i ts ≡ stop n k → CutAt left (Infix i) ts n k
  unfolding infix_at
  infix_cut zero ts n k h = operand_cut ts n k h
  infix_cut (suc i) ts n k h = go (bound_stop (infix_at bar part i ts) (looped (is_operator (suc i)) (operation_on bar part i (infix_at bar part i))) n k h) (infix_cut i)
    where
      go : (infix_at bar part i ts ≡ stop n k) ⊎ ((a : Operand) × (r : List ConditionToken) × (infix_at bar part i ts ≡ done a r) × (loop (is_operator (suc i)) (operation_on bar part i (infix_at bar part i)) (length r) a r ≡ stop n k))
          → ((ts : List ConditionToken) (n k : ℕ) → infix_at bar part i ts ≡ stop n k → CutAt left (Infix i) ts n k) → CutAt left (Infix (suc i)) ts n k
      go (inl s) below_it = at_level left (Infix i) (Infix (suc i)) ts n k (in_tighter left i) (below_it ts n k s)
      go (inr d) below_it =
          let u = (infix_law left (deeper left) i).sound ts d.0 d.1 d.2 in
          let c : CutBehind left (Infix (suc i)) u.front d.1 n k =
          loop_cut left (Infix (suc i)) (is_operator (suc i)) (operation_on bar part i (infix_at bar part i)) (operated_reads i) (operated_cut i below_it) (length d.1) d.0 u.front d.1 n k (is_tighter left i u.front d.0 u.is) d.3 in
          record { front = u.front ++ c.front; bad = c.bad; split = u.split ∙ ap (λ l. u.front ++ l) c.split ∙ sym (append_assoc u.front c.front c.bad); left_is = c.left_is; is = c.is }

  -- ---- `?:`

  branches_cut : (left : ℕ) → Cuts left → is_zero left ≡ false → (a : Operand) (xs ts : List ConditionToken) (n k : ℕ) → IsExpression left (Infix 10) xs a → at_next is_question ts ≡ true
      → branches (is_zero left) (below left) a ts ≡ stop n k → CutBehind left Conditional xs ts n k
  unfolding branches second_branch
  branches_cut zero C deep a xs ts n k is next h = absurd (cc deep)
  branches_cut (suc l) C deep a xs ts n k is next h = go (bound_stop (token 0 is_question ts) (λ q us. and_then (renumbered (number_first a) (below (suc l) entry.Whole us)) (second_branch false (below (suc l)) a)) n k h)
    where
      go : (token 0 is_question ts ≡ stop n k) ⊎ ((q : ConditionToken) × (r : List ConditionToken) × (token 0 is_question ts ≡ done q r)
          × (and_then (renumbered (number_first a) (below (suc l) entry.Whole r)) (second_branch false (below (suc l)) a) ≡ stop n k)) → CutBehind (suc l) Conditional xs ts n k
      go (inl s) = absurd (token_passes 0 is_question ts n k next s)
      go (inr d) = first (bound_stop (renumbered (number_first a) (below (suc l) entry.Whole d.1)) (second_branch false (below (suc l)) a) n k d.3)
        where
          opening : (ts ≡ d.0 ∷ d.1) × (is_question d.0 ≡ true)
          opening = token_reads 0 is_question ts d.0 d.1 d.2

          first : (renumbered (number_first a) (below (suc l) entry.Whole d.1) ≡ stop n k) ⊎ ((b : Operand) × (r : List ConditionToken) × (renumbered (number_first a) (below (suc l) entry.Whole d.1) ≡ done b r)
              × (second_branch false (below (suc l)) a b r ≡ stop n k)) → CutBehind (suc l) Conditional xs ts n k
          first (inl s) =
              let w : (m : ℕ) × (below (suc l) entry.Whole d.1 ≡ stop m k) × (number_first a m ≡ n) = renumbered_stop (number_first a) (below (suc l) entry.Whole d.1) n k s in
              let c : CutAt l Sequence d.1 w.0 k = C deep entry.Whole d.1 w.0 k w.1 in
              record {
                front = d.0 ∷ c.front;
                bad = c.bad;
                split = opening.0 ∙ ap (λ z. d.0 ∷ z) c.split;
                left_is = c.left_is;
                is = subst (λ f. IsCut (suc l) Conditional (xs ++ (d.0 ∷ c.front)) f) (sym (fault_in_number (fault_selected a.value (fault_in w.0) None)) ∙ ap fault_in w.2)
                    (in_first l d.0 xs c.front a (fault_in w.0) opening.1 is c.is);
              }
          first (inr e) =
              let u = (deeper (suc l) deep entry.Whole).sound d.1 e.0 e.1 (renumbered_done (number_first a) (below (suc l) entry.Whole d.1) e.0 e.1 e.2) in
              second u.front u.split u.is
              (bound_stop (token (number_of (fault_selected a.value (fault_of e.0.value) None)) is_colon e.1) (λ c us. and_then (renumbered (number_second a e.0) (below (suc l) entry.Branch us)) (λ b. pure (selected a e.0 b))) n k e.3)
            where
              second : (ys : List ConditionToken) → d.1 ≡ ys ++ e.1 → IsExpression l Sequence ys e.0
                  → (token (number_of (fault_selected a.value (fault_of e.0.value) None)) is_colon e.1 ≡ stop n k) ⊎ ((c : ConditionToken) × (r : List ConditionToken)
                  × (token (number_of (fault_selected a.value (fault_of e.0.value) None)) is_colon e.1 ≡ done c r)
                  × (and_then (renumbered (number_second a e.0) (below (suc l) entry.Branch r)) (λ b. pure (selected a e.0 b)) ≡ stop n k)) → CutBehind (suc l) Conditional xs ts n k
              second ys split are (inl s) =
                  let w : (number_of (fault_selected a.value (fault_of e.0.value) None) ≡ n) × (k ≡ length e.1) = token_stops (number_of (fault_selected a.value (fault_of e.0.value) None)) is_colon e.1 n k s in
                  record {
                    front = d.0 ∷ ys;
                    bad = e.1;
                    split = opening.0 ∙ ap (λ z. d.0 ∷ z) split;
                    left_is = w.1;
                    is = subst (λ f. IsCut (suc l) Conditional (xs ++ (d.0 ∷ ys)) f) (sym (fault_in_number (fault_selected a.value (fault_of e.0.value) None)) ∙ ap fault_in w.0) (behind_first l d.0 xs ys a e.0 opening.1 is are);
                  }
              second ys split are (inr g) = third (bound_stop (renumbered (number_second a e.0) (below (suc l) entry.Branch g.1)) (λ b. pure (selected a e.0 b)) n k g.3)
                where
                  colon : (e.1 ≡ g.0 ∷ g.1) × (is_colon g.0 ≡ true)
                  colon = token_reads (number_of (fault_selected a.value (fault_of e.0.value) None)) is_colon e.1 g.0 g.1 g.2

                  third : (renumbered (number_second a e.0) (below (suc l) entry.Branch g.1) ≡ stop n k) ⊎ ((b : Operand) × (r : List ConditionToken) × (renumbered (number_second a e.0) (below (suc l) entry.Branch g.1) ≡ done b r)
                      × (pure (selected a e.0 b) r ≡ stop n k)) → CutBehind (suc l) Conditional xs ts n k
                  third (inr x) = absurd (cc x.3)
                  third (inl s) =
                      let w : (m : ℕ) × (below (suc l) entry.Branch g.1 ≡ stop m k) × (number_second a e.0 m ≡ n) = renumbered_stop (number_second a e.0) (below (suc l) entry.Branch g.1) n k s in
                      let c : CutAt l Conditional g.1 w.0 k = C deep entry.Branch g.1 w.0 k w.1 in
                      record {
                        front = d.0 ∷ (ys ++ (g.0 ∷ c.front));
                        bad = c.bad;
                        split = opening.0 ∙ ap (λ z. d.0 ∷ z) (split ∙ ap (λ z. ys ++ z) (colon.0 ∙ ap (λ z. g.0 ∷ z) c.split) ∙ sym (append_assoc ys (g.0 ∷ c.front) c.bad));
                        left_is = c.left_is;
                        is = subst (λ f. IsCut (suc l) Conditional (xs ++ (d.0 ∷ (ys ++ (g.0 ∷ c.front)))) f) (sym (fault_in_number (fault_selected a.value (fault_of e.0.value) (fault_in w.0))) ∙ ap fault_in w.2)
                            (in_second l d.0 g.0 xs ys c.front a e.0 (fault_in w.0) opening.1 colon.1 is are c.is);
                      }

  -- before a question mark
  barred_cut : (left : ℕ) (a : Operand) (xs ts : List ConditionToken) (n k : ℕ) → is_zero left ≡ true → IsExpression left (Infix 10) xs a → number_after a ≡ n → k ≡ length ts → CutBehind left Conditional xs ts n k
  barred_cut (suc l) a xs ts n k e is number lefts = absurd (cc e)
  barred_cut zero a xs ts n k e is number lefts = record {
    front = [];
    bad = ts;
    split = refl;
    left_is = lefts;
    is = subst (λ l. IsCut 0 Conditional l (fault_in n)) (sym (append-nil xs)) (subst (λ f. IsCut 0 Conditional xs f) (sym (fault_in_number (fault_of a.value)) ∙ ap fault_in number) (too_deep xs a is));
  }

  conditional_cut : (ts : List ConditionToken) (n k : ℕ) → conditional bar part ts ≡ stop n k → CutAt left Conditional ts n k
  unfolding conditional
  conditional_cut ts n k h = go (bound_stop (infix_at bar part 10 ts) (λ a. choose is_question (guard bar (number_after a) (branches bar part a)) (pure a)) n k h)
    where
      go : (infix_at bar part 10 ts ≡ stop n k) ⊎ ((a : Operand) × (r : List ConditionToken) × (infix_at bar part 10 ts ≡ done a r) × (choose is_question (guard bar (number_after a) (branches bar part a)) (pure a) r ≡ stop n k))
          → CutAt left Conditional ts n k
      go (inl s) = at_level left (Infix 10) Conditional ts n k (in_infix left) (infix_cut 10 ts n k s)
      go (inr d) = joined (by_test (at_next is_question d.1) refl)
        where
          u : Part (IsExpression left (Infix 10)) (λ a. goes_on 10) d.0 ts d.1
          u = (infix_law left (deeper left) 10).sound ts d.0 d.1 d.2

          guarded : (b : Bool) → bar ≡ b → at_next is_question d.1 ≡ true → guard bar (number_after d.0) (branches bar part d.0) d.1 ≡ stop n k → CutBehind left Conditional u.front d.1 n k
          guarded true e next s =
              let barred : stop (number_after d.0) (length d.1) ≡ stop n k = sym (ap (λ b. guard b (number_after d.0) (branches bar part d.0) d.1) e) ∙ s in
              barred_cut left d.0 u.front d.1 n k e u.is (cc barred) (cc barred)
          guarded false e next s = branches_cut left C e d.0 u.front d.1 n k u.is next (sym (ap (λ b. guard b (number_after d.0) (branches bar part d.0) d.1) e) ∙ s)

          by_test : (b : Bool) → at_next is_question d.1 ≡ b → CutBehind left Conditional u.front d.1 n k
          by_test true e = guarded bar refl e (sym (chosen is_question (guard bar (number_after d.0) (branches bar part d.0)) (pure d.0) d.1 true e) ∙ d.3)
          by_test false e = let halt : done d.0 d.1 ≡ stop n k = sym (chosen is_question (guard bar (number_after d.0) (branches bar part d.0)) (pure d.0) d.1 false e) ∙ d.3 in absurd (cc halt)

          joined : CutBehind left Conditional u.front d.1 n k → CutAt left Conditional ts n k
          joined c = record { front = u.front ++ c.front; bad = c.bad; split = u.split ∙ ap (λ l. u.front ++ l) c.split ∙ sym (append_assoc u.front c.front c.bad); left_is = c.left_is; is = c.is }

  -- ---- the comma

  followed_cut : (a : Operand) (xs ts : List ConditionToken) (n k : ℕ) → IsExpression left Sequence xs a → at_next is_comma ts ≡ true → comma_on bar part a ts ≡ stop n k → CutBehind left Sequence xs ts n k
  unfolding comma_on
  followed_cut a xs ts n k is next h = go (bound_stop (taken 0 comma_of ts) (λ at us. and_then (renumbered (number_in_sequence at a) (conditional bar part us)) (λ b. pure (in_a_sequence at a b))) n k h)
    where
      go : (taken 0 comma_of ts ≡ stop n k) ⊎ ((at : ℕ) × (r : List ConditionToken) × (taken 0 comma_of ts ≡ done at r) × (and_then (renumbered (number_in_sequence at a) (conditional bar part r)) (λ b. pure (in_a_sequence at a b)) ≡ stop n k))
          → CutBehind left Sequence xs ts n k
      go (inl s) = absurd (taken_passes 0 comma_of ts n k next s)
      go (inr d) = inside (bound_stop (renumbered (number_in_sequence d.0 a) (conditional bar part d.1)) (λ b. pure (in_a_sequence d.0 a b)) n k d.3)
        where
          opening : (t : ConditionToken) × (ts ≡ t ∷ d.1) × (comma_of t ≡ Some d.0)
          opening = taken_reads 0 comma_of ts d.0 d.1 d.2

          inside : (renumbered (number_in_sequence d.0 a) (conditional bar part d.1) ≡ stop n k) ⊎ ((b : Operand) × (r : List ConditionToken) × (renumbered (number_in_sequence d.0 a) (conditional bar part d.1) ≡ done b r)
              × (pure (in_a_sequence d.0 a b) r ≡ stop n k)) → CutBehind left Sequence xs ts n k
          inside (inr e) = absurd (cc e.3)
          inside (inl s) =
              let w : (m : ℕ) × (conditional bar part d.1 ≡ stop m k) × (number_in_sequence d.0 a m ≡ n) = renumbered_stop (number_in_sequence d.0 a) (conditional bar part d.1) n k s in
              let c : CutAt left Conditional d.1 w.0 k = conditional_cut d.1 w.0 k w.1 in
              record {
                front = opening.0 ∷ c.front;
                bad = c.bad;
                split = opening.1 ∙ ap (λ z. opening.0 ∷ z) c.split;
                left_is = c.left_is;
                is = subst (λ f. IsCut left Sequence (xs ++ (opening.0 ∷ c.front)) f) (sym (fault_in_number (fault_of (none_at d.0 a.value))) ∙ ap fault_in w.2)
                    (in_sequence left d.0 opening.0 xs c.front a (fault_in w.0) opening.2 is c.is);
              }

  followed_reads : (a b : Operand) (xs ts rest : List ConditionToken) → IsExpression left Sequence xs a → at_next is_comma ts ≡ true → comma_on bar part a ts ≡ done b rest
      → (us : List ConditionToken) × (ts ≡ us ++ rest) × IsExpression left Sequence (xs ++ us) b
  followed_reads a b xs ts rest is next h =
      let u = (followed_head left (deeper left) a).sound ts b rest next h in
      (u.front, u.split, subst (λ l. IsExpression left Sequence (xs ++ l) b) (append-nil u.front) (sequences_are left (deeper left) a b xs (u.front ++ []) is (turn a b b u.front [] u.is (over b))))

  sequence_cut : (ts : List ConditionToken) (n k : ℕ) → sequence bar part ts ≡ stop n k → CutAt left Sequence ts n k
  unfolding sequence
  sequence_cut ts n k h = go (bound_stop (conditional bar part ts) (looped is_comma (comma_on bar part)) n k h)
    where
      go : (conditional bar part ts ≡ stop n k) ⊎ ((a : Operand) × (r : List ConditionToken) × (conditional bar part ts ≡ done a r) × (loop is_comma (comma_on bar part) (length r) a r ≡ stop n k)) → CutAt left Sequence ts n k
      go (inl s) = at_level left Conditional Sequence ts n k (in_conditional left) (conditional_cut ts n k s)
      go (inr d) =
          let u = (conditional_law left (deeper left)).sound ts d.0 d.1 d.2 in
          let c : CutBehind left Sequence u.front d.1 n k = loop_cut left Sequence is_comma (comma_on bar part) followed_reads followed_cut (length d.1) d.0 u.front d.1 n k (is_conditional left u.front d.0 u.is) d.3 in
          record { front = u.front ++ c.front; bad = c.bad; split = u.split ∙ ap (λ l. u.front ++ l) c.split ∙ sym (append_assoc u.front c.front c.bad); left_is = c.left_is; is = c.is }

  entry_cut : (e : Entry) (ts : List ConditionToken) (n k : ℕ) → at_entry bar part e ts ≡ stop n k → CutAt left (level_of e) ts n k
  entry_cut entry.Operand ts n k h = operand_cut ts n k h
  entry_cut entry.Branch ts n k h = conditional_cut ts n k h
  entry_cut entry.Whole ts n k h = sequence_cut ts n k h

cuts : (left : ℕ) → Cuts left
unfolding below
cuts zero deep e ts n k h = absurd (cc deep)
cuts (suc left) deep e ts n k h = entry_cut left (cuts left) e ts n k h

-- at every depth
pub cut_off : (left : ℕ) (ts : List ConditionToken) (n k : ℕ) → sequence (is_zero left) (below left) ts ≡ stop n k → CutAt left Sequence ts n k
cut_off left ts n k h = sequence_cut left (cuts left) ts n k h
