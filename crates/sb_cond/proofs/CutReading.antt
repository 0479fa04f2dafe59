-- What the reader gives of an expression that is cut off: it stops at the end, and its number is that of the first operator without a value. Where only a level is lacking, it reads all.
use Rattle.std.proofs.Common.{◌≡◌, ◌⊎◌, ◌≤◌, ℕ, zero, suc, Bool, true, false, List, [], ◌∷◌, ◌++◌, length, Option, Some, None, is_some, Result, Ok, Err, if◌then◌else◌, refl, sym, ap, ◌∙◌, append_assoc, append-nil, length-append, inl, inr, arith}
use Rattle.sb_parse.specs.Parser.{Outcome, done, stop, at_next, and_then, ◌>>=◌, pure, token, taken, taken_as, choose, guard, loop, looped}
use Rattle.sb_parse.proofs.Heads.{chosen}
use Rattle.sb_cond.specs.declared.arithmetic.Operand.{Operand}
use Rattle.sb_cond.specs.declared.arithmetic.Operator.{Operator}
use Rattle.sb_cond.specs.declared.arithmetic.Prefix.{Prefix}
use Rattle.sb_cond.specs.declared.expression.Entry.{Entry}
use Rattle.sb_cond.specs.declared.expression.Entry.TheVariants as entry
use Rattle.sb_cond.specs.declared.sign.ConditionToken.{ConditionToken}
use Rattle.sb_cond.specs.Arithmetic.{unary, binary, selected, selected_value, in_sequence, fault_of, fault_behind, fault_selected, none_at, is_true}
use Rattle.sb_cond.specs.Cut.{IsCut}
use Rattle.sb_cond.specs.Expression.{operand_of, prefix_of, operator_of, is_open, is_close, is_question, is_colon, comma_of, Level, Primary, Infix, Conditional, Sequence, IsExpression}
use Rattle.sb_cond.specs.Readers.{Reader, number_of, fault_in, number_after, number_behind, number_first, number_second, number_in_sequence, renumbered, telling, is_prefix, is_operator, is_comma, is_zero, group, primary, prefix_expression, operand, operation_on, infix_at, second_branch, branches, conditional, comma_on, sequence, below}
use Rattle.sb_cond.proofs.Laws.{deeper, infix_law, conditional_law, lawful}
use Rattle.sb_cond.proofs.Signs.{goes_on, goes_on_conditional, goes_on_sequence, looser, open_not_prefix, question_ends, colon_ends, comma_ends}
use Rattle.sb_cond.proofs.Stops.{fault_in_number}

-- it stops at the end, with this fault
pub record StopsWith (o : Outcome ConditionToken Operand) (f : Option ℕ) : Type 0 where
  pub number : ℕ
  pub is : o ≡ stop number 0
  pub fault : fault_in number ≡ f

-- it reads all
pub record ReadsWith (o : Outcome ConditionToken Operand) (f : Option ℕ) : Type 0 where
  pub value : Operand
  pub is : o ≡ done value []
  pub fault : fault_of value.value ≡ f

abbrev pub EndsWith : Outcome ConditionToken Operand → Option ℕ → Type 0
EndsWith o f = StopsWith o f ⊎ ReadsWith o f

abbrev pub AtLevel : ℕ → Level → List ConditionToken → Option ℕ → Type 0
AtLevel left Primary xs f = StopsWith (primary (is_zero left) (below left) xs) f
AtLevel left (Infix k) xs f = StopsWith (infix_at (is_zero left) (below left) k xs) f
AtLevel left Conditional xs f = EndsWith (conditional (is_zero left) (below left) xs) f
AtLevel left Sequence xs f = EndsWith (sequence (is_zero left) (below left) xs) f

stopped : (o p : Outcome ConditionToken Operand) (f : Option ℕ) → o ≡ p → StopsWith p f → StopsWith o f
stopped o p f same s = record { number = s.number; is = same ∙ s.is; fault = s.fault }

-- ---- operands

at_once : (left : ℕ) → StopsWith (primary (is_zero left) (below left) []) None
unfolding primary
at_once left = record { number = 0; is = refl; fault = refl }

-- what stands behind the opening parenthesis
abbrev closing : Operand → Reader
closing a = token (number_after a) is_close >>= (λ c. pure a)

group_is : (left : ℕ) (o : ConditionToken) (xs : List ConditionToken) → is_open o ≡ true → primary false (below (suc left)) (o ∷ xs) ≡ and_then (sequence (is_zero left) (below left) xs) closing
unfolding primary group below
group_is left o xs opens =
    chosen is_open (guard false 0 (group false (below (suc left)))) (taken 0 operand_of) (o ∷ xs) true opens
    ∙ ap (λ b. and_then (if b then done o xs else stop 0 (suc (length xs))) (λ o. below (suc left) entry.Whole >>= closing)) opens

group_stops : (left : ℕ) (o : ConditionToken) (xs : List ConditionToken) (f : Option ℕ) → is_open o ≡ true → EndsWith (sequence (is_zero left) (below left) xs) f → StopsWith (primary false (below (suc left)) (o ∷ xs)) f
group_stops left o xs f opens (inl s) = record { number = s.number; is = group_is left o xs opens ∙ ap (λ z. and_then z closing) s.is; fault = s.fault }
group_stops left o xs f opens (inr r) =
    record { number = number_after r.value; is = group_is left o xs opens ∙ ap (λ z. and_then z closing) r.is; fault = fault_in_number (fault_of r.value.value) ∙ r.fault }

no_prefix : {left : ℕ} {xs : List ConditionToken} {f : Option ℕ} → IsCut left Primary xs f → at_next is_prefix xs ≡ false
no_prefix (IsCut.nothing left) = refl
no_prefix (IsCut.in_group left o xs f opens c) = open_not_prefix o opens
no_prefix (IsCut.behind_group left o xs a opens is) = open_not_prefix o opens

operand_is : (left : ℕ) (xs : List ConditionToken) → at_next is_prefix xs ≡ false → infix_at (is_zero left) (below left) 0 xs ≡ primary (is_zero left) (below left) xs
unfolding infix_at operand
operand_is left xs none = chosen is_prefix (guard (is_zero left) 0 (prefix_expression (is_zero left) (below left))) (primary (is_zero left) (below left)) xs false none

prefixed_is : (left : ℕ) (t : ConditionToken) (op : Prefix) (xs : List ConditionToken) → prefix_of t ≡ Some op
    → infix_at false (below (suc left)) 0 (t ∷ xs) ≡ and_then (infix_at (is_zero left) (below left) 0 xs) (λ a. pure (unary op a))
unfolding infix_at operand prefix_expression below
prefixed_is left t op xs e =
    chosen is_prefix (guard false 0 (prefix_expression false (below (suc left)))) (primary false (below (suc left))) (t ∷ xs) true (ap is_some e)
    ∙ ap (λ v. and_then (taken_as 0 v xs) (λ op. below (suc left) entry.Operand >>= (λ a. pure (unary op a)))) e

-- ---- operators between operands

tighter_is : (left k : ℕ) (xs : List ConditionToken)
    → infix_at (is_zero left) (below left) (suc k) xs ≡ and_then (infix_at (is_zero left) (below left) k xs) (looped (is_operator (suc k)) (operation_on (is_zero left) (below left) k (infix_at (is_zero left) (below left) k)))
unfolding infix_at
tighter_is left k xs = refl

module _ (test : ConditionToken → Bool) (op : Operand → Reader) where
  turn_is : (n : ℕ) (a : Operand) (ts : List ConditionToken) → at_next test ts ≡ true → loop test op (suc n) a ts ≡ and_then (op a ts) (loop test op n)
  unfolding loop
  turn_is n a ts next = chosen test (op a >>= loop test op n) (pure a) ts true next

  over_is : (n : ℕ) (a : Operand) → loop test op n a [] ≡ done a []
  unfolding loop
  over_is zero a = refl
  over_is (suc n) a = refl

-- the loop goes on from a value, with turns enough
record GoesOn (test : ConditionToken → Bool) (op : Operand → Reader) (o : Outcome ConditionToken Operand) (a : Operand) (rest : List ConditionToken) : Type 0 where
  turns : ℕ
  enough : length rest ≤ turns
  is : o ≡ loop test op turns a rest

-- once more
next_turn : (test : ConditionToken → Bool) (op : Operand → Reader) (o : Outcome ConditionToken Operand) (a : Operand) (t : ConditionToken) (rest : List ConditionToken) → GoesOn test op o a (t ∷ rest) → test t ≡ true
    → (m : ℕ) × (length rest ≤ m) × (o ≡ and_then (op a (t ∷ rest)) (loop test op m))
next_turn test op o a t rest g next = by_turns g.turns g.enough g.is
  where
    by_turns : (n : ℕ) → suc (length rest) ≤ n → o ≡ loop test op n a (t ∷ rest) → (m : ℕ) × (length rest ≤ m) × (o ≡ and_then (op a (t ∷ rest)) (loop test op m))
    by_turns zero le is = absurd (omega arith)
    by_turns (suc m) le is = (m, omega arith, is ∙ turn_is test op m a (t ∷ rest) next)

module _ (left : ℕ) where
  abbrev bar : Bool
  bar = is_zero left

  abbrev part : Entry → Reader
  part = below left

  abbrev infix_reader : ℕ → Reader
  infix_reader k = infix_at bar part k

  operated_is : (k at : ℕ) (t : ConditionToken) (op : Operator) (us : List ConditionToken) (a : Operand) → operator_of (suc k) t ≡ Some (op, at)
      → operation_on bar part k (infix_reader k) a (t ∷ us) ≡ and_then (renumbered (number_behind op a) (infix_reader k us)) (λ b. pure (binary at op a b))
  unfolding operation_on
  operated_is k at t op us a e = ap (λ v. and_then (taken_as 0 v us) (λ o. telling (number_behind o.0 a) (infix_reader k) >>= (λ b. pure (binary o.1 o.0 a b)))) e

  ends_infix : (k : ℕ) (rest : List ConditionToken) → at_next (is_operator (suc k)) rest ≡ true → at_next (goes_on k) rest ≡ false
  ends_infix k [] next = absurd (cc next)
  ends_infix k (t ∷ rest) next = looser k (suc k) t (omega arith) next

  infix_reads : (k : ℕ) (xs : List ConditionToken) (a : Operand) (rest : List ConditionToken) → IsExpression left (Infix k) xs a → at_next (goes_on k) rest ≡ false → infix_reader k (xs ++ rest) ≡ done a rest
  infix_reads k xs a rest is ends = (infix_law left (deeper left) k).complete xs a rest is ends

-- an expression before an operator of its rank
infix_goes : {left k : ℕ} {xs : List ConditionToken} {a : Operand} → IsExpression left (Infix (suc k)) xs a → (t : ConditionToken) (rest : List ConditionToken) → is_operator (suc k) t ≡ true
    → GoesOn (is_operator (suc k)) (operation_on (is_zero left) (below left) k (infix_at (is_zero left) (below left) k)) (infix_at (is_zero left) (below left) (suc k) (xs ++ (t ∷ rest))) a (t ∷ rest)
infix_goes (IsExpression.is_tighter left k xs a is) t rest next =
    record {
      turns = suc (length rest);
      enough = omega arith;
      is = tighter_is left k (xs ++ (t ∷ rest))
          ∙ ap (λ o. and_then o (looped (is_operator (suc k)) (operation_on (is_zero left) (below left) k (infix_at (is_zero left) (below left) k)))) (infix_reads left k xs a (t ∷ rest) is (looser k (suc k) t (omega arith) next));
    }
infix_goes (IsExpression.is_binary left k at s op xs ys a b e is_left is_right) t rest next =
    let g = infix_goes is_left s (ys ++ (t ∷ rest)) (ap is_some e) in
    let n = next_turn _ _ _ a s (ys ++ (t ∷ rest)) g (ap is_some e) in
    let right = infix_reads left k ys b (t ∷ rest) is_right (looser k (suc k) t (omega arith) next) in
    let more = loop (is_operator (suc k)) (operation_on (is_zero left) (below left) k (infix_at (is_zero left) (below left) k)) n.0 in
    record {
      turns = n.0;
      enough = omega (arith, n.1, length-append ys (t ∷ rest));
      is = ap (infix_at (is_zero left) (below left) (suc k)) (append_assoc xs (s ∷ ys) (t ∷ rest)) ∙ n.2
          ∙ ap (λ o. and_then o more) (operated_is left k at s op (ys ++ (t ∷ rest)) a e ∙ ap (λ o. and_then (renumbered (number_behind op a) o) (λ b. pure (binary at op a b))) right);
    }

binary_stops : (left k at : ℕ) (t : ConditionToken) (op : Operator) (xs ys : List ConditionToken) (a : Operand) (f : Option ℕ) → operator_of (suc k) t ≡ Some (op, at) → IsExpression left (Infix (suc k)) xs a
    → StopsWith (infix_at (is_zero left) (below left) k ys) f → StopsWith (infix_at (is_zero left) (below left) (suc k) (xs ++ (t ∷ ys))) (fault_behind op a.value f)
binary_stops left k at t op xs ys a f e is s =
    let n = next_turn _ _ _ a t ys (infix_goes is t ys (ap is_some e)) (ap is_some e) in
    let more = loop (is_operator (suc k)) (operation_on (is_zero left) (below left) k (infix_at (is_zero left) (below left) k)) n.0 in
    record {
      number = number_behind op a s.number;
      is = n.2 ∙ ap (λ o. and_then o more) (operated_is left k at t op ys a e ∙ ap (λ o. and_then (renumbered (number_behind op a) o) (λ b. pure (binary at op a b))) s.is);
      fault = fault_in_number (fault_behind op a.value (fault_in s.number)) ∙ ap (fault_behind op a.value) s.fault;
    }

-- ---- `?:`

-- what stands behind the first operand
abbrev maybe_branches : ℕ → Operand → Reader
maybe_branches left a = choose is_question (guard (is_zero left) (number_after a) (branches (is_zero left) (below left) a)) (pure a)

conditional_is : (left : ℕ) (xs : List ConditionToken) → conditional (is_zero left) (below left) xs ≡ and_then (infix_at (is_zero left) (below left) 10 xs) (maybe_branches left)
unfolding conditional
conditional_is left xs = refl

too_deep_reads : (xs : List ConditionToken) (a : Operand) → IsExpression 0 (Infix 10) xs a → ReadsWith (conditional true (below 0) xs) (fault_of a.value)
too_deep_reads xs a is =
    let read = ap (infix_at true (below 0) 10) (sym (append-nil xs)) ∙ infix_reads 0 10 xs a [] is refl in
    record { value = a; is = conditional_is 0 xs ∙ ap (λ o. and_then o (maybe_branches 0)) read; fault = refl }

branches_is : (left : ℕ) (q : ConditionToken) (xs rest : List ConditionToken) (a : Operand) → is_question q ≡ true → IsExpression (suc left) (Infix 10) xs a
    → conditional false (below (suc left)) (xs ++ (q ∷ rest)) ≡ and_then (renumbered (number_first a) (sequence (is_zero left) (below left) rest)) (second_branch false (below (suc left)) a)
unfolding branches below
branches_is left q xs rest a question is =
    conditional_is (suc left) (xs ++ (q ∷ rest)) ∙ ap (λ o. and_then o (maybe_branches (suc left))) (infix_reads (suc left) 10 xs a (q ∷ rest) is (question_ends q question))
    ∙ chosen is_question (guard false (number_after a) (branches false (below (suc left)) a)) (pure a) (q ∷ rest) true question
    ∙ ap (λ b. and_then (if b then done q rest else stop 0 (suc (length rest))) (λ q. telling (number_first a) (below (suc left) entry.Whole) >>= second_branch false (below (suc left)) a)) question

no_colon : (left : ℕ) (a b : Operand) → second_branch false (below (suc left)) a b [] ≡ stop (number_of (fault_selected a.value (fault_of b.value) None)) 0
unfolding second_branch
no_colon left a b = refl

first_stops : (left : ℕ) (q : ConditionToken) (xs ys : List ConditionToken) (a : Operand) (f : Option ℕ) → is_question q ≡ true → IsExpression (suc left) (Infix 10) xs a
    → EndsWith (sequence (is_zero left) (below left) ys) f → EndsWith (conditional false (below (suc left)) (xs ++ (q ∷ ys))) (fault_selected a.value f None)
first_stops left q xs ys a f question is (inl s) =
    inl record {
      number = number_first a s.number;
      is = branches_is left q xs ys a question is ∙ ap (λ o. and_then (renumbered (number_first a) o) (second_branch false (below (suc left)) a)) s.is;
      fault = fault_in_number (fault_selected a.value (fault_in s.number) None) ∙ ap (λ g. fault_selected a.value g None) s.fault;
    }
first_stops left q xs ys a f question is (inr r) =
    inl record {
      number = number_of (fault_selected a.value (fault_of r.value.value) None);
      is = branches_is left q xs ys a question is ∙ ap (λ o. and_then (renumbered (number_first a) o) (second_branch false (below (suc left)) a)) r.is ∙ no_colon left a r.value;
      fault = fault_in_number (fault_selected a.value (fault_of r.value.value) None) ∙ ap (λ g. fault_selected a.value g None) r.fault;
    }

whole_reads : (left : ℕ) (xs : List ConditionToken) (a : Operand) → IsExpression left Sequence xs a → sequence (is_zero left) (below left) xs ≡ done a []
whole_reads left xs a is = ap (sequence (is_zero left) (below left)) (sym (append-nil xs)) ∙ (lawful left entry.Whole).complete xs a [] is refl

second_is : (left : ℕ) (c : ConditionToken) (zs : List ConditionToken) (a b : Operand) → is_colon c ≡ true
    → second_branch false (below (suc left)) a b (c ∷ zs) ≡ and_then (renumbered (number_second a b) (conditional (is_zero left) (below left) zs)) (λ d. pure (selected a b d))
unfolding second_branch below
second_is left c zs a b colon =
    ap (λ t. and_then (if t then done c zs else stop (number_of (fault_selected a.value (fault_of b.value) None)) (suc (length zs))) (λ c. telling (number_second a b) (below (suc left) entry.Branch) >>= (λ d. pure (selected a b d)))) colon

fault_of_if : (t : Bool) (y z : Result ℕ ℕ) → fault_of (if t then y else z) ≡ (if t then fault_of y else fault_of z)
fault_of_if true y z = refl
fault_of_if false y z = refl

selected_fault : (x y z : Result ℕ ℕ) → fault_of (selected_value x y z) ≡ fault_selected x (fault_of y) (fault_of z)
selected_fault (Err at) y z = refl
selected_fault (Ok x) y z = fault_of_if (is_true x) y z

second_ends : (left : ℕ) (q c : ConditionToken) (xs ys zs : List ConditionToken) (a b : Operand) (f : Option ℕ) → is_question q ≡ true → is_colon c ≡ true → IsExpression (suc left) (Infix 10) xs a
    → IsExpression left Sequence ys b → EndsWith (conditional (is_zero left) (below left) zs) f → EndsWith (conditional false (below (suc left)) (xs ++ (q ∷ (ys ++ (c ∷ zs))))) (fault_selected a.value (fault_of b.value) f)
second_ends left q c xs ys zs a b f question colon is are ends = by_end ends
  where
    read : conditional false (below (suc left)) (xs ++ (q ∷ (ys ++ (c ∷ zs)))) ≡ and_then (renumbered (number_second a b) (conditional (is_zero left) (below left) zs)) (λ d. pure (selected a b d))
    read =
        branches_is left q xs (ys ++ (c ∷ zs)) a question is
        ∙ ap (λ o. and_then (renumbered (number_first a) o) (second_branch false (below (suc left)) a)) ((lawful left entry.Whole).complete ys b (c ∷ zs) are (colon_ends c colon)) ∙ second_is left c zs a b colon

    by_end : EndsWith (conditional (is_zero left) (below left) zs) f → EndsWith (conditional false (below (suc left)) (xs ++ (q ∷ (ys ++ (c ∷ zs))))) (fault_selected a.value (fault_of b.value) f)
    by_end (inl s) =
        inl record {
          number = number_second a b s.number;
          is = read ∙ ap (λ o. and_then (renumbered (number_second a b) o) (λ d. pure (selected a b d))) s.is;
          fault = fault_in_number (fault_selected a.value (fault_of b.value) (fault_in s.number)) ∙ ap (fault_selected a.value (fault_of b.value)) s.fault;
        }
    by_end (inr r) =
        inr record {
          value = selected a b r.value;
          is = read ∙ ap (λ o. and_then (renumbered (number_second a b) o) (λ d. pure (selected a b d))) r.is;
          fault = selected_fault a.value b.value r.value.value ∙ ap (fault_selected a.value (fault_of b.value)) r.fault;
        }

-- ---- the comma

sequence_is : (left : ℕ) (xs : List ConditionToken) → sequence (is_zero left) (below left) xs ≡ and_then (conditional (is_zero left) (below left) xs) (looped is_comma (comma_on (is_zero left) (below left)))
unfolding sequence
sequence_is left xs = refl

sequence_ends : (left : ℕ) (xs : List ConditionToken) (f : Option ℕ) → EndsWith (conditional (is_zero left) (below left) xs) f → EndsWith (sequence (is_zero left) (below left) xs) f
sequence_ends left xs f (inl s) = inl record { number = s.number; is = sequence_is left xs ∙ ap (λ o. and_then o (looped is_comma (comma_on (is_zero left) (below left)))) s.is; fault = s.fault }
sequence_ends left xs f (inr r) =
    inr record { value = r.value; is = sequence_is left xs ∙ ap (λ o. and_then o (looped is_comma (comma_on (is_zero left) (below left)))) r.is ∙ over_is _ _ 0 r.value; fault = r.fault }

followed_is : (left at : ℕ) (t : ConditionToken) (us : List ConditionToken) (a : Operand) → comma_of t ≡ Some at
    → comma_on (is_zero left) (below left) a (t ∷ us) ≡ and_then (renumbered (number_in_sequence at a) (conditional (is_zero left) (below left) us)) (λ b. pure (in_sequence at a b))
unfolding comma_on
followed_is left at t us a e = ap (λ v. and_then (taken_as 0 v us) (λ at. telling (number_in_sequence at a) (conditional (is_zero left) (below left)) >>= (λ b. pure (in_sequence at a b)))) e

sequence_goes : {left : ℕ} {xs : List ConditionToken} {a : Operand} → IsExpression left Sequence xs a → (t : ConditionToken) (rest : List ConditionToken) → is_comma t ≡ true
    → GoesOn is_comma (comma_on (is_zero left) (below left)) (sequence (is_zero left) (below left) (xs ++ (t ∷ rest))) a (t ∷ rest)
sequence_goes (IsExpression.is_conditional left xs a is) t rest next =
    record {
      turns = suc (length rest);
      enough = omega arith;
      is = sequence_is left (xs ++ (t ∷ rest))
          ∙ ap (λ o. and_then o (looped is_comma (comma_on (is_zero left) (below left)))) ((conditional_law left (deeper left)).complete xs a (t ∷ rest) is (comma_ends t next));
    }
sequence_goes (IsExpression.is_sequence left at s xs ys a b e is_left is_right) t rest next =
    let g = sequence_goes is_left s (ys ++ (t ∷ rest)) (ap is_some e) in
    let n = next_turn _ _ _ a s (ys ++ (t ∷ rest)) g (ap is_some e) in
    let right = (conditional_law left (deeper left)).complete ys b (t ∷ rest) is_right (comma_ends t next) in
    let more = loop is_comma (comma_on (is_zero left) (below left)) n.0 in
    record {
      turns = n.0;
      enough = omega (arith, n.1, length-append ys (t ∷ rest));
      is = ap (sequence (is_zero left) (below left)) (append_assoc xs (s ∷ ys) (t ∷ rest)) ∙ n.2
          ∙ ap (λ o. and_then o more) (followed_is left at s (ys ++ (t ∷ rest)) a e ∙ ap (λ o. and_then (renumbered (number_in_sequence at a) o) (λ b. pure (in_sequence at a b))) right);
    }

comma_ends_with : (left at : ℕ) (t : ConditionToken) (xs ys : List ConditionToken) (a : Operand) (f : Option ℕ) → comma_of t ≡ Some at → IsExpression left Sequence xs a
    → EndsWith (conditional (is_zero left) (below left) ys) f → EndsWith (sequence (is_zero left) (below left) (xs ++ (t ∷ ys))) (fault_of (none_at at a.value))
comma_ends_with left at t xs ys a f e is ends = by_end ends
  where
    n : (m : ℕ) × (length ys ≤ m) × (sequence (is_zero left) (below left) (xs ++ (t ∷ ys)) ≡ and_then (comma_on (is_zero left) (below left) a (t ∷ ys)) (loop is_comma (comma_on (is_zero left) (below left)) m))
    n = next_turn _ _ _ a t ys (sequence_goes is t ys (ap is_some e)) (ap is_some e)

    more : Operand → Reader
    more = loop is_comma (comma_on (is_zero left) (below left)) n.0

    by_end : EndsWith (conditional (is_zero left) (below left) ys) f → EndsWith (sequence (is_zero left) (below left) (xs ++ (t ∷ ys))) (fault_of (none_at at a.value))
    by_end (inl s) =
        inl record {
          number = number_in_sequence at a s.number;
          is = n.2 ∙ ap (λ o. and_then o (loop is_comma (comma_on (is_zero left) (below left)) n.0)) (followed_is left at t ys a e ∙ ap (λ o. and_then (renumbered (number_in_sequence at a) o) (λ b. pure (in_sequence at a b))) s.is);
          fault = fault_in_number (fault_of (none_at at a.value));
        }
    by_end (inr r) =
        inr record {
          value = in_sequence at a r.value;
          is = n.2 ∙ ap (λ o. and_then o (loop is_comma (comma_on (is_zero left) (below left)) n.0)) (followed_is left at t ys a e ∙ ap (λ o. and_then (renumbered (number_in_sequence at a) o) (λ b. pure (in_sequence at a b))) r.is)
              ∙ over_is _ _ n.0 (in_sequence at a r.value);
          fault = refl;
        }

-- ---- at each level

pub at_cut : {left : ℕ} {level : Level} {xs : List ConditionToken} {f : Option ℕ} → IsCut left level xs f → AtLevel left level xs f
at_cut (IsCut.nothing left) = at_once left
at_cut (IsCut.in_group left o xs f opens c) = group_stops left o xs f opens (at_cut c)
at_cut (IsCut.behind_group left o xs a opens is) = group_stops left o xs (fault_of a.value) opens (inr record { value = a; is = whole_reads left xs a is; fault = refl })
at_cut (IsCut.in_primary left xs f c) = stopped _ _ f (operand_is left xs (no_prefix c)) (at_cut c)
at_cut (IsCut.in_prefixed left t op xs f e c) = let s = at_cut c in record { number = s.number; is = prefixed_is left t op xs e ∙ ap (λ o. and_then o (λ a. pure (unary op a))) s.is; fault = s.fault }
at_cut (IsCut.in_tighter left k xs f c) =
    let s = at_cut c in
    record { number = s.number; is = tighter_is left k xs ∙ ap (λ o. and_then o (looped (is_operator (suc k)) (operation_on (is_zero left) (below left) k (infix_at (is_zero left) (below left) k)))) s.is; fault = s.fault }
at_cut (IsCut.in_binary left k at t op xs ys a f e is c) = binary_stops left k at t op xs ys a f e is (at_cut c)
at_cut (IsCut.in_infix left xs f c) = let s = at_cut c in inl record { number = s.number; is = conditional_is left xs ∙ ap (λ o. and_then o (maybe_branches left)) s.is; fault = s.fault }
at_cut (IsCut.too_deep xs a is) = inr (too_deep_reads xs a is)
at_cut (IsCut.in_first left q xs ys a f question is c) = first_stops left q xs ys a f question is (at_cut c)
at_cut (IsCut.behind_first left q xs ys a b question is are) = first_stops left q xs ys a (fault_of b.value) question is (inr record { value = b; is = whole_reads left ys b are; fault = refl })
at_cut (IsCut.in_second left q c xs ys zs a b f question colon is are cut) = second_ends left q c xs ys zs a b f question colon is are (at_cut cut)
at_cut (IsCut.in_conditional left xs f c) = sequence_ends left xs f (at_cut c)
at_cut (IsCut.in_sequence left at t xs ys a f e is c) = comma_ends_with left at t xs ys a f e is (at_cut c)
