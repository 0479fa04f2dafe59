-- What the reader of conditions gives of a front is where it is refused.
use Rattle.std.proofs.Common.{◌≡◌, ◌-◌, ℕ, zero, suc, List, [], ◌∷◌, ◌++◌, length, Option, Some, None, unwrap_or, refl, sym, ap, ◌∙◌, subst, append-nil, length-append, arith}
use Rattle.sb_parse.specs.Parser.{Outcome, done, stop}
use Rattle.sb_parse.specs.Read.{CanBegin, IsRefused, IsLongest}
use Rattle.sb_parse.proofs.Reading.{refused, longest}
use Rattle.sb_cond.specs.declared.arithmetic.Operand.{Operand}
use Rattle.sb_cond.specs.declared.sign.ConditionToken.{ConditionToken}
use Rattle.sb_cond.specs.Arithmetic.{fault_of}
use Rattle.sb_cond.specs.Condition.{IsCondition, HasFault, whole, cut}
use Rattle.sb_cond.specs.Front.{IsRefusedIn, begins, goes_wrong, refusal_in, front_judged}
use Rattle.sb_cond.specs.Readers.{fault_in}
use Rattle.sb_cond.proofs.Cutting.{CutAt, cut_off}
use Rattle.sb_cond.proofs.Judging.{reader, reads, size}

-- what stands before parts of one length
pub same_front : {A : Type 0} (xs us ys vs : List A) → xs ++ ys ≡ us ++ vs → length ys ≡ length vs → (xs ≡ us) × (ys ≡ vs)
same_front [] [] ys vs e n = (refl, e)
same_front [] (u ∷ us) ys vs e n = absurd (omega (arith, ap length e, length-append us vs))
same_front (x ∷ xs) [] ys vs e n = absurd (omega (arith, ap length e, length-append xs ys))
same_front (x ∷ xs) (u ∷ us) ys vs e n =
    let head : x ≡ u = cc e in
    let tail : xs ++ ys ≡ us ++ vs = cc e in
    let same = same_front xs us ys vs tail n in
    (cc (head, same.0), same.1)

-- a front that can go on, or that a token follows with which it does not
module _ (ts front bad : List ConditionToken) (fault : Option ℕ) (split : ts ≡ front ++ bad) (good : CanBegin IsCondition front)
    (first : (t : ConditionToken) (tail : List ConditionToken) → bad ≡ t ∷ tail → CanBegin IsCondition (front ++ (t ∷ [])) → ⊥) (has : HasFault front fault) where
  by_rest : (rest : List ConditionToken) → bad ≡ rest → IsRefusedIn ts (refusal_in fault (length ts) (length rest))
  by_rest [] none =
      let alone : front ≡ ts = sym (split ∙ ap (λ l. front ++ l) none ∙ append-nil front) in
      begins fault (subst (CanBegin IsCondition) alone good) (subst (λ l. HasFault l fault) alone has)
  by_rest (t ∷ tail) some =
      let sizes : length ts - length (t ∷ tail) ≡ length front = ap (λ l. length ts - length l) (sym some) ∙ size front bad ts split in
      subst (λ k. IsRefusedIn ts (Some (unwrap_or fault k))) (sym sizes) (goes_wrong front tail t fault (split ∙ ap (λ l. front ++ l) some) good (first t tail some) has)

pub front_is : (ts : List ConditionToken) (o : Outcome ConditionToken Operand) → reader ts ≡ o → IsRefusedIn ts (front_judged (length ts) o)
front_is ts (done a rest) e =
    let l = longest reads ts a rest e in
    by_rest ts l.front rest (fault_of a.value) l.split (record { rest = []; tree = a; is = subst (λ xs. IsCondition xs a) (sym (append-nil l.front)) l.is }) l.ends (whole l.front a l.is) rest refl
front_is ts (stop n left) e =
    let c : CutAt 200 _ ts n left = cut_off 200 ts n left e in
    let r = refused reads ts n left e in
    let same = same_front r.front c.front r.bad c.bad (sym r.split ∙ c.split) (sym r.left_is ∙ c.left_is) in
    let good = subst (CanBegin IsCondition) same.0 r.good in
    let first = λ (t : ConditionToken) (tail : List ConditionToken) (is : c.bad ≡ t ∷ tail) (begun : CanBegin IsCondition (c.front ++ (t ∷ []))).
    r.first t tail (same.1 ∙ is) (subst (λ xs. CanBegin IsCondition (xs ++ (t ∷ []))) (sym same.0) begun) in
    subst (λ k. IsRefusedIn ts (refusal_in (fault_in n) (length ts) k)) (sym c.left_is)
    (by_rest ts c.front c.bad (fault_in n) c.split good first (cut c.front (fault_in n) c.is) c.bad refl)
