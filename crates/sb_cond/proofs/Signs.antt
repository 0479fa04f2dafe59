-- What the tests of tokens say of one another: no sign is two things.
use Rattle.std.proofs.Common.{◌≡◌, ◌<◌, ℕ, zero, suc, Bool, true, false, ◌||◌, Some, None, is_some, cond, nat_eq, refl, sym, ap, ◌∙◌, arith, eqb-true}
use Rattle.std.proofs.lemmas.Bool.{ne_eqb}
use Rattle.sb_cond.specs.declared.arithmetic.Operand.{Operand}
use Rattle.sb_cond.specs.declared.arithmetic.Operator.{Operator}
use Rattle.sb_cond.specs.declared.sign.ConditionToken.{ConditionToken}
use Rattle.sb_cond.specs.declared.sign.Mark.TheVariants as mark
use Rattle.sb_cond.specs.declared.sign.Sign.{Sign}
use Rattle.sb_cond.specs.declared.sign.Sign.TheVariants as sign
use Rattle.sb_cond.specs.Expression.{number_at, operand_of, prefix_at, rank, operator_at, is_mark, is_open, is_close, is_question, is_colon, comma_at}
use Rattle.sb_cond.specs.Readers.{is_prefix, is_operator, is_comma}

-- what goes on from an expression of infix operators
abbrev pub goes_on : ℕ → ConditionToken → Bool
goes_on zero t = false
goes_on (suc k) t = is_operator (suc k) t || goes_on k t

number_not_open : (s : Sign) (a : Operand) → number_at s ≡ Some a → is_mark mark.Open s ≡ false
number_not_open sign.Open a e = absurd (cc e)
number_not_open _ a e = refl

pub operand_not_open : (t : ConditionToken) (a : Operand) → operand_of t ≡ Some a → is_open t ≡ false
operand_not_open t a e = number_not_open t.sign a e

number_not_prefix : (s : Sign) (a : Operand) → number_at s ≡ Some a → is_some (prefix_at s) ≡ false
number_not_prefix (sign.Number bits unsigned) a e = refl
number_not_prefix _ a e = absurd (cc e)

pub operand_not_prefix : (t : ConditionToken) (a : Operand) → operand_of t ≡ Some a → is_prefix t ≡ false
operand_not_prefix t a e = number_not_prefix t.sign a e

open_sign_not_prefix : (s : Sign) → is_mark mark.Open s ≡ true → is_some (prefix_at s) ≡ false
open_sign_not_prefix sign.Open e = refl
open_sign_not_prefix _ e = absurd (cc e)

pub open_not_prefix : (t : ConditionToken) → is_open t ≡ true → is_prefix t ≡ false
open_not_prefix t e = open_sign_not_prefix t.sign e

-- ---- operators have one rank

tested : (b : Bool) (o : Operator × ℕ) → is_some (cond b (Some o) None) ≡ b
tested true o = refl
tested false o = refl

one_rank_at : (s : Sign) (i j at : ℕ) → is_some (operator_at i at s) ≡ true → (i ≡ j → ⊥) → is_some (operator_at j at s) ≡ false
one_rank_at (sign.Binary op) i j at h apart =
    let r : rank op ≡ i = eqb-true (rank op) i (sym (tested (nat_eq (rank op) i) (op, at)) ∙ h) in
    tested (nat_eq (rank op) j) (op, at) ∙ ne_eqb (rank op) j (λ e. apart (sym r ∙ e))
one_rank_at _ i j at h apart = absurd (cc h)

pub one_rank : (t : ConditionToken) (i j : ℕ) → is_operator i t ≡ true → (i ≡ j → ⊥) → is_operator j t ≡ false
one_rank t i j h apart = one_rank_at t.sign i j t.at h apart

pub looser : (k j : ℕ) (t : ConditionToken) → k < j → is_operator j t ≡ true → goes_on k t ≡ false
looser zero j t less h = refl
looser (suc k) j t less h = ap (λ b. b || goes_on k t) (one_rank t j (suc k) h (λ e. omega arith)) ∙ looser k j t (omega arith) h

-- ---- no mark is an operator

no_operator : (k : ℕ) (t : ConditionToken) → ((j : ℕ) → is_operator j t ≡ false) → goes_on k t ≡ false
no_operator zero t none = refl
no_operator (suc k) t none = ap (λ b. b || goes_on k t) (none (suc k)) ∙ no_operator k t none

close_at : (s : Sign) (j at : ℕ) → is_mark mark.Close s ≡ true → is_some (operator_at j at s) ≡ false
close_at sign.Close j at h = refl
close_at _ j at h = absurd (cc h)

question_at : (s : Sign) (j at : ℕ) → is_mark mark.Question s ≡ true → is_some (operator_at j at s) ≡ false
question_at sign.Question j at h = refl
question_at _ j at h = absurd (cc h)

colon_at : (s : Sign) (j at : ℕ) → is_mark mark.Colon s ≡ true → is_some (operator_at j at s) ≡ false
colon_at sign.Colon j at h = refl
colon_at _ j at h = absurd (cc h)

comma_sign_at : (s : Sign) (j at : ℕ) → is_some (comma_at at s) ≡ true → is_some (operator_at j at s) ≡ false
comma_sign_at sign.Comma j at h = refl
comma_sign_at _ j at h = absurd (cc h)

-- what goes on from a conditional expression, and from a sequence
abbrev pub goes_on_conditional : ConditionToken → Bool
goes_on_conditional t = is_question t || goes_on 10 t

abbrev pub goes_on_sequence : ConditionToken → Bool
goes_on_sequence t = is_comma t || goes_on_conditional t

close_elsewhere : (s : Sign) (at : ℕ) → is_mark mark.Close s ≡ true → (is_some (comma_at at s) ≡ false) × (is_mark mark.Question s ≡ false)
close_elsewhere sign.Close at h = (refl, refl)
close_elsewhere _ at h = absurd (cc h)

colon_elsewhere : (s : Sign) (at : ℕ) → is_mark mark.Colon s ≡ true → (is_some (comma_at at s) ≡ false) × (is_mark mark.Question s ≡ false)
colon_elsewhere sign.Colon at h = (refl, refl)
colon_elsewhere _ at h = absurd (cc h)

comma_elsewhere : (s : Sign) (at : ℕ) → is_some (comma_at at s) ≡ true → is_mark mark.Question s ≡ false
comma_elsewhere sign.Comma at h = refl
comma_elsewhere _ at h = absurd (cc h)

pub question_ends : (t : ConditionToken) → is_question t ≡ true → goes_on 10 t ≡ false
question_ends t h = no_operator 10 t (λ j. question_at t.sign j t.at h)

pub close_ends : (t : ConditionToken) → is_close t ≡ true → goes_on_sequence t ≡ false
close_ends t h =
    let other = close_elsewhere t.sign t.at h in
    ap (λ b. b || goes_on_conditional t) other.0 ∙ ap (λ b. b || goes_on 10 t) other.1 ∙ no_operator 10 t (λ j. close_at t.sign j t.at h)

pub colon_ends : (t : ConditionToken) → is_colon t ≡ true → goes_on_sequence t ≡ false
colon_ends t h =
    let other = colon_elsewhere t.sign t.at h in
    ap (λ b. b || goes_on_conditional t) other.0 ∙ ap (λ b. b || goes_on 10 t) other.1 ∙ no_operator 10 t (λ j. colon_at t.sign j t.at h)

pub comma_ends : (t : ConditionToken) → is_comma t ≡ true → goes_on_conditional t ≡ false
comma_ends t h = ap (λ b. b || goes_on 10 t) (comma_elsewhere t.sign t.at h) ∙ no_operator 10 t (λ j. comma_sign_at t.sign j t.at h)
