-- A loop of a reader, a turn at a time, and the readers one level deeper.
use Rattle.std.proofs.Common.{◌≡◌, ◌+◌, ◌-◌, ◌<◌, ◌≤◌, ℕ, zero, suc, Bool, true, false, List, length, if◌then◌else◌, refl, ap, ◌∙◌, arith, subst}
use Rattle.sb_parse.specs.Parser.{Parser, done, stop, at_next, and_then, looped, loop}
use Rattle.sb_cond.specs.declared.expression.Entry.{Entry}
use Rattle.sb_cond.specs.declared.sign.ConditionToken.{ConditionToken}
use Rattle.sb_cond.specs.Readers.{Reader, is_zero, is_operator, operand, operation_on, infix_at, at_entry, below}

module _ {T A : Type 0} (goes : T → Bool) (op : A → Parser T A) where
  off : (n : ℕ) (a : A) (ts : List T) → at_next goes ts ≡ false → loop goes op n a ts ≡ done a ts
  unfolding loop
  off zero a ts h = refl
  off (suc n) a ts h = ap (λ b. if b then and_then (op a ts) (loop goes op n) else done a ts) h

  once : (n : ℕ) (a : A) (ts : List T) → at_next goes ts ≡ true → loop goes op (suc n) a ts ≡ and_then (op a ts) (loop goes op n)
  unfolding loop
  once n a ts h = ap (λ b. if b then and_then (op a ts) (loop goes op n) else done a ts) h

  none_left : (a : A) (ts : List T) → loop goes op 0 a ts ≡ done a ts
  unfolding loop
  none_left a ts = refl

  module _ (start : A) (all : List T) (i end : ℕ) (a : A) (ts : List T) (so_far : loop goes op (length all) start all ≡ loop goes op (end - i) a ts) where
    pub loop_ends : at_next goes ts ≡ false → loop goes op (length all) start all ≡ done a ts
    loop_ends h = so_far ∙ off (end - i) a ts h

    pub loop_over : end ≤ i → loop goes op (length all) start all ≡ done a ts
    loop_over most = so_far ∙ ap (λ n. loop goes op n a ts) (let none : end - i ≡ 0 = omega arith in none) ∙ none_left a ts

    turned : i < end → at_next goes ts ≡ true → loop goes op (length all) start all ≡ and_then (op a ts) (loop goes op (end - (i + 1)))
    turned less h = so_far ∙ ap (λ n. loop goes op n a ts) (let next : end - i ≡ suc (end - (i + 1)) = omega arith in next) ∙ once (end - (i + 1)) a ts h

    pub loop_goes : i < end → at_next goes ts ≡ true → (b : A) (rest : List T) → op a ts ≡ done b rest → loop goes op (length all) start all ≡ loop goes op (end - (i + 1)) b rest
    loop_goes less h b rest e = turned less h ∙ ap (λ o. and_then o (loop goes op (end - (i + 1)))) e

    pub loop_stops : i < end → at_next goes ts ≡ true → (n left : ℕ) → op a ts ≡ stop n left → loop goes op (length all) start all ≡ stop n left
    loop_stops less h n left e = turned less h ∙ ap (λ o. and_then o (loop goes op (end - (i + 1)))) e

-- the readers one level deeper
pub deeper : (left : ℕ) (e : Entry) (ts : List ConditionToken) → 0 < left → below left e ts ≡ at_entry (is_zero (left - 1)) (below (left - 1)) e ts
unfolding below
deeper zero e ts some = absurd (omega arith)
deeper (suc left) e ts some = ap (λ n. at_entry (is_zero n) (below n) e ts) (let less : left ≡ suc left - 1 = omega arith in less)

-- operators of a rank and of tighter ones
pub no_infix : (bar : Bool) (part : Entry → Reader) (rank : ℕ) (ts : List ConditionToken) → rank ≡ 0 → infix_at bar part rank ts ≡ operand bar part ts
unfolding infix_at
no_infix bar part rank ts none = ap (λ k. infix_at bar part k ts) none

pub some_infix : (bar : Bool) (part : Entry → Reader) (rank : ℕ) (ts : List ConditionToken) → (rank ≡ 0 → ⊥)
    → infix_at bar part rank ts ≡ and_then (infix_at bar part (rank - 1) ts) (looped (is_operator (rank - 1 + 1)) (operation_on bar part (rank - 1) (infix_at bar part (rank - 1))))
unfolding infix_at
some_infix bar part zero ts some = absurd (some refl)
some_infix bar part (suc k) ts some =
    subst (λ n. infix_at bar part (suc k) ts ≡ and_then (infix_at bar part n ts) (looped (is_operator (n + 1)) (operation_on bar part n (infix_at bar part n)))) (let less : k ≡ suc k - 1 = omega arith in less)
    (ap (λ m. and_then (infix_at bar part k ts) (looped (is_operator m) (operation_on bar part k (infix_at bar part k)))) (let more : suc k ≡ k + 1 = omega arith in more))
