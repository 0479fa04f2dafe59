-- the turns of an elimination of several symbols
use Rattle.std.proofs.Common.{◌≡◌, ℕ, zero, suc, ◌-◌, ◌<◌, List, [], ◌∷◌, Some, None, refl, sym, ap, ◌∙◌, arith}
use Rattle.sb_term.specs.Elimination.{State, Progress, going, on_going, eliminate, eliminate_all, cheapest, without}
use Rattle.sb_elim.specs.declared.outcome.Outcome.{Outcome}
use Rattle.sb_elim.specs.declared.outcome.Outcome.TheVariants.{Going, Proved, TooManyRows, TooManyDigits}
use Rattle.sb_elim.specs.Outcomes.{progress, next_of}

pub eliminate_all-none : (n : ℕ) (left : List ℕ) (st : State) → next_of st.rows left ≡ None → eliminate_all n left st ≡ going st
eliminate_all-none zero left st h = refl
eliminate_all-none (suc n) [] st h = refl
eliminate_all-none (suc n) (s ∷ ss) st h = absurd (cc)

pub eliminate_all-some : (n : ℕ) (left : List ℕ) (st : State) (s : ℕ) (p : Progress) → 0 < n → next_of st.rows left ≡ Some s → p ≡ eliminate s st
    → eliminate_all n left st ≡ on_going p (λ next. eliminate_all (n - 1) (without s left) next)
eliminate_all-some zero left st s p h e f = absurd (omega arith)
eliminate_all-some (suc n) [] st s p h e f = absurd (cc)
eliminate_all-some (suc n) (t ∷ ts) st s p h e f =
    let best : cheapest st.rows t ts ≡ s = cc in
    let m : n ≡ suc n - 1 = omega arith in
    ap (λ (b : ℕ). on_going (eliminate b st) (λ next. eliminate_all n (without b (t ∷ ts)) next)) best
    ∙ ap (λ (q : Progress). on_going q (λ next. eliminate_all n (without s (t ∷ ts)) next)) (sym f)
    ∙ ap (λ (k : ℕ). on_going p (λ next. eliminate_all k (without s (t ∷ ts)) next)) m

-- what is over stays so
pub on_going-over : (o : Outcome) (st : State) (next : State → Progress) → (o ≡ Going → ⊥) → on_going (progress o st) next ≡ progress o st
on_going-over Going st next h = absurd (h refl)
on_going-over Proved st next h = refl
on_going-over TooManyRows st next h = refl
on_going-over TooManyDigits st next h = refl
