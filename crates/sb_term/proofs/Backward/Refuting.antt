-- LimitDigits is answered exactly where a number passes a limit
use Rattle.std.proofs.Common.{◌≡◌, ◌≢◌, ◌↔◌, ℕ, ◌+◌, ◌*◌, ◌<◌, ◌≤◌, Bool, true, false, cond, List, [], ◌∷◌, length, Option, Some, None, ℤ, pos, negsuc, ◌*ℤ◌, ◌≤ℤ◌, refl, sym, ap, ◌∙◌, arith}
use Rattle.std.specs.Prelude.{◌==◌, not, is_some}
use Rattle.std.specs.List.{AllByRecursion, list_all}
use Rattle.std.proofs.lemmas.Int.{ints}
use Rattle.std.proofs.lemmas.Bool.{eq-eqb, and_from, and_parts}
use Rattle.std.proofs.Math.Nat.{le_of_mul-le-mul_left}
use borrow.Author.Differences.{up, down}
use Rattle.sb_term.specs.declared.entry.Entry.{Entry}
use Rattle.sb_term.specs.declared.sym.Sym.{Sym}
use Rattle.sb_term.specs.declared.row.Row.{Row}
use Rattle.sb_term.specs.declared.query.Query.{Query}
use Rattle.sb_term.specs.declared.numbered.Numbered.{Numbered}
use Rattle.sb_term.specs.declared.answer.Answer.TheVariants.{Refuted, LimitDigits}
use Rattle.sb_term.specs.Linear.{Linear, coefficient_of}
use Rattle.sb_term.specs.Ratio.{Ratio, IsAtMost}
use Rattle.sb_term.specs.Order.{ratio_le-from_IsAtMost}
use Rattle.sb_term.specs.Ring.{*ℤ_comm, *ℤ-+ℤ, ≤ℤ-*ℤ}
use Rattle.sb_term.specs.Rows.{negated}
use Rattle.sb_term.specs.Values.{sum_at-scaled_entries}
use Rattle.sb_term.specs.Refutes.{symbols_of, value_under}
use Rattle.sb_term.specs.Elimination.{State, Progress, going, proved, too_many_rows, too_many_digits, on_going, start, eliminate_all}
use Rattle.sb_term.specs.Bounds.{zero_ratio, values, in_order}
use Rattle.sb_term.specs.AnswerOf.{is_from_zero, is_up_to_minus_one, facts_stand, is_refuted_by, refuted, answer_from, answer_of}
use Rattle.sb_term.specs.Passed.{AreTerms, have_values, passes_with, passes_from, passes_limit}
use Rattle.sb_term.proofs.Tracking.{Keeps}
use Rattle.sb_term.proofs.Backward.Exact.{IsShare, IsShare-zero}
use Rattle.sb_term.proofs.Backward.Points.{Point, worth, HoldsAt, Gives, Gives-in_order, value-exact}
use Rattle.sb_term.proofs.Backward.Between.{opposite}
use Rattle.sb_term.proofs.Backward.Standing.{IsSound}
use Rattle.sb_term.proofs.Backward.Placing.{HoldAll, Stands, Over}
use Rattle.sb_term.proofs.Backward.Eliminating.{Solution, IsSolved}
use Rattle.sb_term.proofs.Backward.Starting.{FactsHold, Counters, solved}

-- the sign of a share is that of the whole
from_zero : (x : ℤ) (d : ℕ) (v : Ratio) → 0 < d → pos 0 ≤ℤ x → IsShare x d v → IsAtMost zero_ratio v
from_zero x d v hd h s =
    let e = s.same in
    let p : d * down v.num ≤ d * up v.num = (let t = *ℤ_comm x (pos v.den) in let m = ≤ℤ-*ℤ v.den (pos 0) x h in omega (arith, ints)) in
    let q = le_of_mul-le-mul_left p hd in
    omega (arith, ints)

-- where the negation of a term holds, its value is at most -1
up_to_minus_one : (p : Point) (t : Linear) (v : Ratio) → 0 < p.den → HoldsAt p (negated t) → IsShare (worth p t) p.den v → IsAtMost v (record { num = negsuc 0; den = 1 })
up_to_minus_one p t v hd h s =
    let e = s.same in
    let sum = sum_at-scaled_entries p.at (negsuc 0) t.entries in
    let part = *ℤ-+ℤ (pos p.den) (negsuc 0 *ℤ t.rest) (negsuc 0) in
    let turned = opposite (pos p.den) t.rest in
    let one = opposite (pos p.den) (pos 1) in
    let below : worth p t ≤ℤ (negsuc 0 *ℤ pos p.den) = omega (arith, ints) in
    let m = ≤ℤ-*ℤ v.den (worth p t) (negsuc 0 *ℤ pos p.den) below in
    let c = *ℤ_comm (worth p t) (pos v.den) in
    let o = opposite (pos v.den) (pos p.den) in
    let k : p.den * (up v.num + v.den) ≤ p.den * down v.num = omega (arith, ints) in
    let q = le_of_mul-le-mul_left k hd in
    omega (arith, ints)

module _ (a : List (Sym × Ratio)) (p : Point) (some : 0 < p.den) (gives : Gives a p) where
  fact_stands : (t : Linear) → HoldsAt p t → is_some (value_under a t) ≡ true → is_from_zero (value_under a t) ≡ true
  fact_stands t h = by (value_under a t) refl
    where
      by : (o : Option Ratio) → value_under a t ≡ o → is_some o ≡ true → is_from_zero o ≡ true
      by None e s = absurd (cc)
      by (Some v) e s = ratio_le-from_IsAtMost zero_ratio v (from_zero (worth p t) p.den v some h (value-exact a p some gives t v e))

  goal_fails : (t : Linear) → HoldsAt p (negated t) → is_some (value_under a t) ≡ true → is_up_to_minus_one (value_under a t) ≡ true
  goal_fails t h = by (value_under a t) refl
    where
      by : (o : Option Ratio) → value_under a t ≡ o → is_some o ≡ true → is_up_to_minus_one o ≡ true
      by None e s = absurd (cc)
      by (Some v) e s = ratio_le-from_IsAtMost v (record { num = negsuc 0; den = 1 }) (up_to_minus_one p t v some h (value-exact a p some gives t v e))

  all_stand : (rs : List Row) → FactsHold p rs → list_all (λ f. is_some (value_under a f.term)) rs ≡ true → facts_stand a rs ≡ true
  all_stand [] h s = refl
  all_stand (r ∷ rs) h s =
      let here = fact_stands r.term h.0 (and_parts (is_some (value_under a r.term)) (list_all (λ f. is_some (value_under a f.term)) rs) s).0 in
      let later = all_stand rs h.1 (and_parts (is_some (value_under a r.term)) (list_all (λ f. is_some (value_under a f.term)) rs) s).1 in
      and_from (is_from_zero (value_under a r.term)) (facts_stand a rs) here later

module _ (q : Query) (terms : AreTerms q) where
  -- no row stands whose symbols are all eliminated
  nothing_stands : (p : Point) (rs : List Numbered) → AllByRecursion (Stands []) rs → HoldAll p rs
  nothing_stands p [] h = tt
  nothing_stands p (r ∷ rs) h = absurd (by r.term.entries h.0.some h.0.sound)
    where
      by : (es : List Entry) → es ≢ [] → IsSound [] es → ⊥
      by [] some s = some refl
      by (e ∷ es) some s =
          let here : coefficient_of e.symbol (e ∷ es) ≡ e.coefficient = ap (λ (b : Bool). cond b e.coefficient (coefficient_of e.symbol es)) (let k : (e.symbol == e.symbol) ≡ true = eq-eqb e.symbol e.symbol refl in k) in
          s.within e.symbol (λ none. s.no_zero.0 (sym here ∙ none))

  origin : Point
  origin = record { at = λ s. pos 0; den = 1 }

  -- the values that are found are those of a point where the facts hold and the goal does not
  solution : (st : State) (known : List (Sym × Ratio)) → IsSolved (Counters q) [] st → values st.asides [] ≡ Some known → Solution (Counters q) known
  unfolding origin
  solution st known i e =
      i.solved [] known origin (omega arith) (λ s. IsShare-zero 1 (omega arith)) (λ s none. refl) (nothing_stands origin st.rows i.rows) e

  refuted_by_values : (st : State) (known : List (Sym × Ratio)) → IsSolved (Counters q) [] st → values st.asides [] ≡ Some known
      → have_values q (in_order known (symbols_of q)) ≡ true → is_refuted_by q (in_order known (symbols_of q)) ≡ true
  refuted_by_values st known i e h =
      let a = in_order known (symbols_of q) in
      let found = solution st known i e in
      let p = found.point in
      let gives = Gives-in_order known (symbols_of q) p found.agrees in
      let all = list_all (λ (f : Row). is_some (value_under a f.term)) q.facts in
      let last = is_some (value_under a q.goal.term) in
      and_from (facts_stand a q.facts) (is_up_to_minus_one (value_under a q.goal.term))
      (all_stand a p found.some gives q.facts found.holds.0 (and_parts all last h).0)
      (goal_fails a p found.some gives q.goal.term found.holds.1 (and_parts all last h).1)

  not_refuted : (o : Option (List (Sym × Ratio))) → ((known : List (Sym × Ratio)) → o ≡ Some known → have_values q (in_order known (symbols_of q)) ≡ true → is_refuted_by q (in_order known (symbols_of q)) ≡ true)
      → refuted q o ≡ LimitDigits → passes_with q o ≡ true
  not_refuted None f e = refl
  not_refuted (Some known) f e = by (have_values q (in_order known (symbols_of q))) refl
    where
      a : List (Sym × Ratio)
      a = in_order known (symbols_of q)

      by : (b : Bool) → have_values q a ≡ b → not b ≡ true
      by false h = refl
      by true h =
          let stands = f known refl h in
          let answer : Refuted (record { list = a }) ≡ LimitDigits = sym (ap (λ (b : Bool). cond b (Refuted (record { list = a })) LimitDigits) stands) ∙ e in
          absurd (cc)

  passed_from : (o : Progress) → Keeps (IsSolved (Counters q) []) Over o → answer_from q o ≡ LimitDigits → passes_from q o ≡ true
  passed_from (going st) i e = not_refuted (values st.asides []) (λ known f h. refuted_by_values st known i f h) e
  passed_from (proved steps) i e = absurd (cc)
  passed_from too_many_rows i e = absurd (cc)
  passed_from too_many_digits i e = refl

  -- by the theorem of Fourier and Motzkin: LimitDigits comes only where a number passes a limit
  pub passed_where_limit : answer_of q ≡ LimitDigits → passes_limit q ≡ true
  passed_where_limit e = passed_from (on_going (start q) (λ st. eliminate_all (length (symbols_of q)) (symbols_of q) st)) (solved q terms) e

-- and wherever one does
valued_facts : (a : List (Sym × Ratio)) (rs : List Row) → facts_stand a rs ≡ true → list_all (λ f. is_some (value_under a f.term)) rs ≡ true
valued_facts a [] h = refl
valued_facts a (r ∷ rs) h =
    and_from (is_some (value_under a r.term)) (list_all (λ f. is_some (value_under a f.term)) rs)
    (by (value_under a r.term) (and_parts (is_from_zero (value_under a r.term)) (facts_stand a rs) h).0)
    (valued_facts a rs (and_parts (is_from_zero (value_under a r.term)) (facts_stand a rs) h).1)
  where
    by : (o : Option Ratio) → is_from_zero o ≡ true → is_some o ≡ true
    by None h = h
    by (Some v) h = refl

valued : (q : Query) (a : List (Sym × Ratio)) → is_refuted_by q a ≡ true → have_values q a ≡ true
valued q a h =
    and_from (list_all (λ f. is_some (value_under a f.term)) q.facts) (is_some (value_under a q.goal.term))
    (valued_facts a q.facts (and_parts (facts_stand a q.facts) (is_up_to_minus_one (value_under a q.goal.term)) h).0)
    (by (value_under a q.goal.term) (and_parts (facts_stand a q.facts) (is_up_to_minus_one (value_under a q.goal.term)) h).1)
  where
    by : (o : Option Ratio) → is_up_to_minus_one o ≡ true → is_some o ≡ true
    by None h = h
    by (Some v) h = refl

limit_with : (q : Query) (o : Option (List (Sym × Ratio))) → passes_with q o ≡ true → refuted q o ≡ LimitDigits
limit_with q None h = refl
limit_with q (Some known) h = by (is_refuted_by q (in_order known (symbols_of q))) refl
  where
    a : List (Sym × Ratio)
    a = in_order known (symbols_of q)

    by : (b : Bool) → is_refuted_by q a ≡ b → cond b (Refuted (record { list = a })) LimitDigits ≡ LimitDigits
    by false e = refl
    by true e =
        let none : false ≡ true = sym (ap not (valued q a e)) ∙ h in
        absurd (cc)

limit_from : (q : Query) (o : Progress) → passes_from q o ≡ true → answer_from q o ≡ LimitDigits
limit_from q (going st) h = limit_with q (values st.asides []) h
limit_from q (proved steps) h = absurd (cc)
limit_from q too_many_rows h = absurd (cc)
limit_from q too_many_digits h = refl

pub limit_where_passed : (q : Query) → passes_limit q ≡ true → answer_of q ≡ LimitDigits
limit_where_passed q h = limit_from q (on_going (start q) (λ st. eliminate_all (length (symbols_of q)) (symbols_of q) st)) h

pub limit_digits : (q : Query) → AreTerms q → (answer_of q ≡ LimitDigits) ↔ (passes_limit q ≡ true)
limit_digits q terms = (passed_where_limit q terms, limit_where_passed q)
