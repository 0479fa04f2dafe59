-- the answer of the elimination is lawful
use Rattle.std.proofs.Common.{◌≡◌, ℕ, ◌+◌, Bool, true, false, cond, inl, inr, List, [], ◌∷◌, ◌++◌, map, length, Option, Some, None, pos, negsuc, refl, sym, ap, ◌∙◌, arith, length-append, append_assoc, subst}
use Rattle.std.specs.Prelude.{All, int_le, ◌≤ℤ◌, ℤ, ◌*ℤ◌}
use Rattle.std.specs.Option.{IsSomeAnd}
use Rattle.std.proofs.lemmas.Float.{T_from_true}
use Rattle.std.proofs.lemmas.Option.{unwrap_or-slice_get}
use Rattle.std.proofs.lemmas.List.{length-map}
use Rattle.std.proofs.lemmas.List.Elements.{All-nil, All-cons}
use Rattle.std.proofs.lemmas.Bool.{and_parts}
use Rattle.sb_term.specs.declared.row.Row.{Row}
use Rattle.sb_term.specs.declared.sym.Sym.{Sym}
use Rattle.sb_term.specs.declared.steps.Step.{Step}
use Rattle.sb_term.specs.declared.query.Query.{Query}
use Rattle.sb_term.specs.declared.numbered.Numbered.{Numbered}
use Rattle.sb_term.specs.Linear.{Linear, constant, value, formed, is_within}
use Rattle.sb_term.specs.declared.answer.Answer.TheVariants.{Refuted, LimitDigits}
use Rattle.sb_term.specs.Ratio.{Ratio, IsAtMost}
use Rattle.sb_term.specs.Rows.{Follows, negated}
use Rattle.sb_term.specs.Refutes.{Refutes, symbols_of, value_under}
use Rattle.sb_term.specs.Steps.{first_rows, row_at, IsAbsurd, Proves, HaveSymbols}
use Rattle.sb_term.specs.StepLaws.{NoneBelow-append, row_at-holds, facts-hold, absurd_row, holds_or_negated, follows_from_steps}
use Rattle.sb_term.specs.Answers.{IsLawful}
use Rattle.sb_term.specs.Elimination.{State, Progress, going, proved, too_many_rows, too_many_digits, on_going, place, place_facts, place_formed, empty, start, eliminate_all}
use Rattle.sb_term.specs.Pruning.{pruned}
use Rattle.sb_term.specs.Bounds.{values, in_order, zero_ratio}
use Rattle.sb_term.specs.AnswerOf.{is_from_zero, is_up_to_minus_one, facts_stand, is_refuted_by, refuted, answer_from, answer_of}
use Rattle.sb_term.proofs.Checked.{row_at-last}
use Rattle.sb_term.proofs.Tracking.{Keeps, keeps_on, IsNamed, IsTracked, IsOwn, Ends, place-keeps, eliminate_all-keeps}
use Rattle.sb_term.proofs.Prunes.{proves_pruned, length-first_rows}

-- a row that holds nowhere among the facts and the negated goal
module _ (q : Query) where
  pub follows_from_absurd : (r : Numbered) → IsNamed (first_rows q) r → IsAbsurd r.term → Follows q
  follows_from_absurd r n a p facts =
      elim (holds_or_negated p q.goal.term) [
        | inl h ↦ h
        | inr h ↦ absurd (absurd_row p r.term a (subst (λ (t : Linear). pos 0 ≤ℤ value p t) n.is
            (row_at-holds p (first_rows q) (NoneBelow-append p (map (λ f. f.term) q.facts) (negated q.goal.term ∷ []) (facts-hold p q.facts facts) (h, tt)) r.number)))
      ]

  no_symbols_from_absurd : (r : Numbered) → IsNamed (first_rows q) r → IsAbsurd r.term → HaveSymbols q → ⊥
  no_symbols_from_absurd r n a h =
      h.rows r.number (constant (pos 0)) n.stands (ap (λ (t : Linear). t.entries) (sym (unwrap_or-slice_get (first_rows q) r.number (constant (pos 0))) ∙ n.is) ∙ a.bare)

  abbrev EndsEarly : List Step → Type 0
  EndsEarly steps = Follows q × (HaveSymbols q → ⊥)

  EndsEarly-from_absurd : (r : Numbered) → IsNamed (first_rows q) r → (steps : List Step) → IsAbsurd r.term → EndsEarly steps
  EndsEarly-from_absurd r n steps a = (follows_from_absurd r n a, no_symbols_from_absurd r n a)

  abbrev Tracked : State → Type 0
  Tracked st = IsTracked (first_rows q) [] st

  place_first-keeps : (r : Numbered) (st : State) → IsNamed (first_rows q) r → Tracked st → Keeps Tracked EndsEarly (place r st)
  place_first-keeps r st n k = place-keeps (first_rows q) [] EndsEarly r st k (k.grown r n) (λ a. EndsEarly-from_absurd r n st.steps a)

  row_at-fact : (done rs : List Row) (r : Row) (last : List Linear) → row_at (map (λ f. f.term) (done ++ r ∷ rs) ++ last) (length done) ≡ r.term
  row_at-fact [] rs r last = refl
  row_at-fact (d ∷ done) rs r last = row_at-fact done rs r last

  IsNamed-fact : (done rs : List Row) (r : Row) → q.facts ≡ done ++ r ∷ rs → IsNamed (first_rows q) (record { number = length done; term = r.term })
  IsNamed-fact done rs r e = record {
    stands = omega (arith, length-first_rows q, ap length e, length-append done (r ∷ rs));
    is = ap (λ (fs : List Row). row_at (map (λ f. f.term) fs ++ negated q.goal.term ∷ []) (length done)) e ∙ row_at-fact done rs r (negated q.goal.term ∷ []);
  }

  IsNamed-goal : IsNamed (first_rows q) (record { number = length q.facts; term = negated q.goal.term })
  IsNamed-goal = record {
    stands = omega (arith, length-first_rows q);
    is = ap (row_at (first_rows q)) (sym (length-map q.facts (λ (f : Row). f.term))) ∙ row_at-last (map (λ f. f.term) q.facts) (negated q.goal.term);
  }

  place_facts-keeps : (done rs : List Row) (k : ℕ) (st : State) → q.facts ≡ done ++ rs → k ≡ length done → Tracked st → Keeps Tracked EndsEarly (place_facts k rs st)
  place_facts-keeps done [] k st e n t = t
  place_facts-keeps done (r ∷ rs) k st e n t =
      let named : IsNamed (first_rows q) (record { number = k; term = r.term }) =
      subst (λ (m : ℕ). IsNamed (first_rows q) (record { number = m; term = r.term })) (sym n) (IsNamed-fact done rs r e) in
      keeps_on Tracked Tracked EndsEarly (place (record { number = k; term = r.term }) st) (λ next. place_facts (k + 1) rs next)
      (place_first-keeps (record { number = k; term = r.term }) st named t)
      (λ next h. place_facts-keeps (done ++ r ∷ []) rs (k + 1) next (e ∙ sym (append_assoc done (r ∷ []) rs)) (omega (arith, length-append done (r ∷ []))) h)

  -- the state once the facts and the negated goal are placed
  abbrev Started : State → Type 0
  Started st = IsOwn (first_rows q) st × (is_within (negated q.goal.term) ≡ true)

  started-progress : (p : Progress) → is_within (negated q.goal.term) ≡ true → Keeps Tracked EndsEarly p → Keeps Started EndsEarly p
  started-progress (going st) w k = (record { checked = k.checked; rows = k.rows; base = k.base; grown = λ r n. n }, w)
  started-progress (proved steps) w k = k
  started-progress too_many_rows w k = tt
  started-progress too_many_digits w k = tt

  place_goal-keeps : (b : Bool) (st : State) → is_within (negated q.goal.term) ≡ b → Tracked st → Keeps Started EndsEarly (place_formed (cond b (Some (negated q.goal.term)) None) (length q.facts) st)
  place_goal-keeps false st w k = tt
  place_goal-keeps true st w k =
      let r : Numbered = record { number = length q.facts; term = negated q.goal.term } in
      started-progress (place r st) w (place_first-keeps r st IsNamed-goal k)

  start-keeps : Keeps Started EndsEarly (start q)
  start-keeps =
      keeps_on Tracked Started EndsEarly (place_facts 0 q.facts (empty (length q.facts + 1))) (λ st. place_formed (formed (negated q.goal.term)) (length q.facts) st)
      (place_facts-keeps [] q.facts 0 (empty (length q.facts + 1)) refl refl
      (record { checked = tt; rows = All-nil (IsNamed (first_rows q)); base = sym (length-first_rows q); grown = λ r n. n }))
      (λ st k. place_goal-keeps (is_within (negated q.goal.term)) st refl k)

  -- the query follows, and the pruned steps prove it
  abbrev Decides : List Step → Type 0
  Decides steps = Follows q × (HaveSymbols q → Proves q (pruned (length q.facts + 1) steps))

  decides-early : (p : Progress) → Keeps Started EndsEarly p → Keeps Started Decides p
  decides-early (going st) k = k
  decides-early (proved steps) k = (k.0, λ h. absurd (k.1 h))
  decides-early too_many_rows k = tt
  decides-early too_many_digits k = tt

  abbrev Anything : State → Type 0
  Anything st = Unit {0}

  decides-late : (p : Progress) → is_within (negated q.goal.term) ≡ true → Keeps (IsOwn (first_rows q)) (Ends (first_rows q)) p → Keeps Anything Decides p
  decides-late (going st) w k = tt
  decides-late (proved steps) w k =
      let proof = proves_pruned q steps w k in (follows_from_steps q (pruned (length q.facts + 1) steps) proof, λ h. proof)
  decides-late too_many_rows w k = tt
  decides-late too_many_digits w k = tt

  elimination-keeps : (n : ℕ) (left : List ℕ) → Keeps Anything Decides (on_going (start q) (λ st. eliminate_all n left st))
  elimination-keeps n left =
      keeps_on Started Anything Decides (start q) (λ st. eliminate_all n left st) (decides-early (start q) start-keeps)
      (λ st s. decides-late (eliminate_all n left st) s.1 (eliminate_all-keeps (first_rows q) n left st s.0))

IsAtMost-from_test : (a b : ℤ) → int_le a b ≡ true → a ≤ℤ b
IsAtMost-from_test a b h = record { le = T_from_true (int_le a b) h }

from_zero : (v : Option Ratio) → is_from_zero v ≡ true → IsSomeAnd v (IsAtMost zero_ratio)
from_zero None h = absurd (cc)
from_zero (Some v) h = IsAtMost-from_test (pos 0 *ℤ pos v.den) (v.num *ℤ pos 1) h

up_to_minus_one : (v : Option Ratio) → is_up_to_minus_one v ≡ true → IsSomeAnd v (λ x. IsAtMost x (record { num = negsuc 0; den = 1 }))
up_to_minus_one None h = absurd (cc)
up_to_minus_one (Some v) h = IsAtMost-from_test (v.num *ℤ pos 1) (negsuc 0 *ℤ pos v.den) h

facts_from_test : (a : List (Sym × Ratio)) (fs : List Row) → facts_stand a fs ≡ true → All (λ f. IsSomeAnd (value_under a f.term) (IsAtMost zero_ratio)) fs
facts_from_test a [] h = All-nil (λ (f : Row). IsSomeAnd (value_under a f.term) (IsAtMost zero_ratio))
facts_from_test a (f ∷ fs) h =
    All-cons (λ (f : Row). IsSomeAnd (value_under a f.term) (IsAtMost zero_ratio)) f fs
    (from_zero (value_under a f.term) (and_parts (is_from_zero (value_under a f.term)) (facts_stand a fs) h).0)
    (facts_from_test a fs (and_parts (is_from_zero (value_under a f.term)) (facts_stand a fs) h).1)

symbols-in_order : (known : List (Sym × Ratio)) (ss : List ℕ) → map (λ x. x.0.0) (in_order known ss) ≡ ss
symbols-in_order known [] = refl
symbols-in_order known (s ∷ ss) = ap (λ (ts : List ℕ). s ∷ ts) (symbols-in_order known ss)

refutes_from_test : (q : Query) (known : List (Sym × Ratio)) → is_refuted_by q (in_order known (symbols_of q)) ≡ true → Refutes q (in_order known (symbols_of q))
refutes_from_test q known h =
    let a = in_order known (symbols_of q) in
    record {
      symbols = symbols-in_order known (symbols_of q);
      facts = facts_from_test a q.facts (and_parts (facts_stand a q.facts) (is_up_to_minus_one (value_under a q.goal.term)) h).0;
      goal = up_to_minus_one (value_under a q.goal.term) (and_parts (facts_stand a q.facts) (is_up_to_minus_one (value_under a q.goal.term)) h).1;
    }

lawful_refuted : (q : Query) (known : Option (List (Sym × Ratio))) → IsLawful q (refuted q known)
lawful_refuted q None = tt
lawful_refuted q (Some known) = by (is_refuted_by q (in_order known (symbols_of q))) refl
  where
    by : (b : Bool) → is_refuted_by q (in_order known (symbols_of q)) ≡ b → IsLawful q (cond b (Refuted (record { list = in_order known (symbols_of q) })) LimitDigits)
    by true h = refutes_from_test q known h
    by false h = tt

lawful_from : (q : Query) (p : Progress) → Keeps (Anything q) (Decides q) p → IsLawful q (answer_from q p)
lawful_from q (going st) k = lawful_refuted q (values st.asides [])
lawful_from q (proved steps) k = k
lawful_from q too_many_rows k = tt
lawful_from q too_many_digits k = tt

pub lawful : (q : Query) → IsLawful q (answer_of q)
lawful q =
    lawful_from q (on_going (start q) (λ st. eliminate_all (length (symbols_of q)) (symbols_of q) st)) (elimination-keeps q (length (symbols_of q)) (symbols_of q))
