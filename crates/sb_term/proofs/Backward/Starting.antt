-- the rows of a query as they are placed at the start
use Rattle.std.proofs.Common.{◌≡◌, ◌≢◌, ℕ, ◌+◌, inl, inr, ⊎_elim, Bool, true, false, cond, List, [], ◌∷◌, length, Some, pos, negsuc, refl, sym, ap, ◌∙◌, subst, arith}
use Rattle.std.specs.Prelude.{◌==◌, nat_lt}
use Rattle.std.specs.List.{AllByRecursion}
use Rattle.std.proofs.lemmas.Bool.{eqb-true, ltb-false}
use Rattle.std.proofs.lemmas.List.Elements.{recursion_from_All}
use Rattle.sb_term.specs.declared.entry.Entry.{Entry}
use Rattle.sb_term.specs.declared.sym.Sym.{Sym}
use Rattle.sb_term.specs.declared.row.Row.{Row}
use Rattle.sb_term.specs.declared.query.Query.{Query}
use Rattle.sb_term.specs.declared.aside.Aside.{Aside}
use Rattle.sb_term.specs.Linear.{Linear, formed, coefficient_of, IsTerm}
use Rattle.sb_term.specs.Ratio.{Ratio}
use Rattle.sb_term.specs.Rows.{negated}
use Rattle.sb_term.specs.Refutes.{with_symbol, with_symbols, with_rows, symbols_of}
use Rattle.sb_term.specs.Elimination.{State, on_going, place, place_facts, place_formed, empty, start, eliminate_all}
use Rattle.sb_term.specs.Bounds.{values}
use Rattle.sb_term.specs.Passed.{AreTerms}
use Rattle.sb_term.proofs.Kept.{HaveNoZero-scaled_entries}
use Rattle.sb_term.proofs.Tracking.{Keeps, keeps_on}
use Rattle.sb_term.proofs.Backward.Points.{Point, HoldsAt, Agrees}
use Rattle.sb_term.proofs.Backward.Standing.{IsIn, IsSound, IsSound-scaled}
use Rattle.sb_term.proofs.Backward.Placing.{IsPlaced, Over, Placed-weaker, place-placed, formed-placed}
use Rattle.sb_term.proofs.Backward.Eliminating.{IsSolved, eliminate_all-solved}

-- each symbol with a coefficient other than zero is among those of the query
with_symbol_keeps : (s t : ℕ) (xs : List ℕ) → IsIn s xs → IsIn s (with_symbol t xs)
with_symbol_keeps s t [] h = absurd h
with_symbol_keeps s t (x ∷ xs) h = by (nat_lt t x) (nat_lt x t) (λ k. with_symbol_keeps s t xs k)
  where
    by : (u v : Bool) → (IsIn s xs → IsIn s (with_symbol t xs)) → IsIn s (cond u (t ∷ (x ∷ xs)) (cond v (x ∷ with_symbol t xs) (x ∷ xs)))
    by true v later = inr h
    by false true later = ⊎_elim (λ (e : x ≡ s). inl e) (λ (k : IsIn s xs). inr (later k)) h
    by false false later = h

with_symbol_adds : (s : ℕ) (xs : List ℕ) → IsIn s (with_symbol s xs)
with_symbol_adds s [] = inl refl
with_symbol_adds s (x ∷ xs) = by (nat_lt s x) (nat_lt x s) refl refl (with_symbol_adds s xs)
  where
    by : (u v : Bool) → nat_lt s x ≡ u → nat_lt x s ≡ v → IsIn s (with_symbol s xs) → IsIn s (cond u (s ∷ (x ∷ xs)) (cond v (x ∷ with_symbol s xs) (x ∷ xs)))
    by true v eu ev later = inl refl
    by false true eu ev later = inr later
    by false false eu ev later = let le = ltb-false s x eu in let ge = ltb-false x s ev in inl (omega arith)

with_symbols_keeps : (s : ℕ) (es : List Entry) (xs : List ℕ) → IsIn s xs → IsIn s (with_symbols es xs)
with_symbols_keeps s [] xs h = h
with_symbols_keeps s (e ∷ es) xs h = with_symbols_keeps s es (with_symbol e.symbol xs) (with_symbol_keeps s e.symbol xs h)

with_symbols_adds : (s : ℕ) (es : List Entry) (xs : List ℕ) → coefficient_of s es ≢ pos 0 → IsIn s (with_symbols es xs)
with_symbols_adds s [] xs n = absurd (n refl)
with_symbols_adds s (e ∷ es) xs n = by (e.symbol == s) refl n (λ k. with_symbols_adds s es (with_symbol e.symbol xs) k)
  where
    by : (b : Bool) → (e.symbol == s) ≡ b → cond b e.coefficient (coefficient_of s es) ≢ pos 0
        → (coefficient_of s es ≢ pos 0 → IsIn s (with_symbols es (with_symbol e.symbol xs))) → IsIn s (with_symbols es (with_symbol e.symbol xs))
    by true t k later =
        subst (λ (m : ℕ). IsIn s (with_symbols es (with_symbol m xs))) (sym (eqb-true e.symbol s t))
        (with_symbols_keeps s es (with_symbol s xs) (with_symbol_adds s xs))
    by false t k later = later k

with_rows_keeps : (s : ℕ) (rs : List Row) (xs : List ℕ) → IsIn s xs → IsIn s (with_rows rs xs)
with_rows_keeps s [] xs h = h
with_rows_keeps s (r ∷ rs) xs h = with_rows_keeps s rs (with_symbols r.term.entries xs) (with_symbols_keeps s r.term.entries xs h)

IsSound-from_term : (left : List ℕ) (t : Linear) → IsTerm t → ((s : ℕ) → coefficient_of s t.entries ≢ pos 0 → IsIn s left) → IsSound left t.entries
IsSound-from_term left t h f = record { rising = h.rising; no_zero = h.no_zero; within = f }

rows_sound : (left : List ℕ) (rs : List Row) (xs : List ℕ) → AllByRecursion (λ r. IsTerm r.term) rs → ((s : ℕ) → IsIn s (with_rows rs xs) → IsIn s left)
    → AllByRecursion (λ r. IsSound left r.term.entries) rs
rows_sound left [] xs h f = tt
rows_sound left (r ∷ rs) xs h f =
    let more = with_symbols r.term.entries xs in
    (IsSound-from_term left r.term h.0 (λ s n. f s (with_rows_keeps s rs more (with_symbols_adds s r.term.entries xs n))), rows_sound left rs more h.1 f)

-- all rows of a query that is refuted
abbrev pub FactsHold : Point → List Row → Type 0
FactsHold p rs = AllByRecursion (λ r. HoldsAt p r.term) rs

module _ (left : List ℕ) where
  abbrev Placed : (Point → Type 0) → State → Type 0
  Placed K st = IsPlaced left [] K st

  place_facts-placed : (K : Point → Type 0) (k : ℕ) (rs : List Row) (st : State) → Placed K st → AllByRecursion (λ r. IsSound left r.term.entries) rs
      → Keeps (Placed (λ p. K p × FactsHold p rs)) Over (place_facts k rs st)
  place_facts-placed K k [] st i hs = record { same = i.same; rows = i.rows; implies = λ p h. (i.implies p h, tt) }
  place_facts-placed K k (r ∷ rs) st i hs =
      let L : Point → Type 0 = λ p. K p × HoldsAt p r.term in
      let M : Point → Type 0 = λ p. K p × FactsHold p (r ∷ rs) in
      keeps_on (Placed L) (Placed M) Over (place (record { number = k; term = r.term }) st) (λ next. place_facts (k + 1) rs next)
      (place-placed left [] K (record { number = k; term = r.term }) st i hs.0)
      (λ next n. Placed-weaker left [] (λ p. L p × FactsHold p rs) M (λ p h. (h.0.0, (h.0.1, h.1))) (place_facts (k + 1) rs next) (place_facts-placed L (k + 1) rs next n hs.1))

-- the facts hold, and so does the negation of the goal
abbrev pub Counters : Query → Point → Type 0
Counters q p = FactsHold p q.facts × HoldsAt p (negated q.goal.term)

module _ (q : Query) (terms : AreTerms q) where
  facts_sound : AllByRecursion (λ r. IsSound (symbols_of q) r.term.entries) q.facts
  facts_sound =
      rows_sound (symbols_of q) q.facts [] (recursion_from_All (λ (r : Row). IsTerm r.term) q.facts terms.facts)
      (λ s h. with_symbols_keeps s q.goal.term.entries (with_rows q.facts []) h)

  goal_sound : IsSound (symbols_of q) (negated q.goal.term).entries
  goal_sound =
      IsSound-scaled (symbols_of q) (negsuc 0) q.goal.term.entries
      (IsSound-from_term (symbols_of q) q.goal.term terms.goal (λ s n. with_symbols_adds s q.goal.term.entries (with_rows q.facts []) n))
      (HaveNoZero-scaled_entries (negsuc 0) q.goal.term.entries)

  start-placed : Keeps (IsPlaced (symbols_of q) [] (Counters q)) Over (start q)
  start-placed =
      let left = symbols_of q in
      let Nothing : Point → Type 0 = λ p. Unit {0} in
      let L : Point → Type 0 = λ p. Unit {0} × FactsHold p q.facts in
      keeps_on (IsPlaced left [] L) (IsPlaced left [] (Counters q)) Over (place_facts 0 q.facts (empty (length q.facts + 1))) (λ st. place_formed (formed (negated q.goal.term)) (length q.facts) st)
      (place_facts-placed left Nothing 0 q.facts (empty (length q.facts + 1)) (record { same = refl; rows = tt; implies = λ p h. tt }) facts_sound)
      (λ st i. Placed-weaker left [] (λ p. L p × HoldsAt p (negated q.goal.term)) (Counters q) (λ p h. (h.0.1, h.1)) (place_formed (formed (negated q.goal.term)) (length q.facts) st)
      (formed-placed left [] L (negated q.goal.term) (length q.facts) st i goal_sound))

  solved_at_start : (st : State) → IsPlaced (symbols_of q) [] (Counters q) st → IsSolved (Counters q) (symbols_of q) st
  solved_at_start st i = record {
    rows = i.rows;
    solved = λ known out p some agrees are holds e. record {
      point = p;
      some = some;
      agrees =
          let whole : Some known ≡ Some out = ap (λ (kept : List Aside). values kept known) (sym i.same) ∙ e in
          let same : known ≡ out = cc in
          subst (λ (a : List (Sym × Ratio)). Agrees a p) same agrees;
      holds = i.implies p holds;
    };
  }

  pub solved : Keeps (IsSolved (Counters q) []) Over (on_going (start q) (λ st. eliminate_all (length (symbols_of q)) (symbols_of q) st))
  solved =
      keeps_on (IsPlaced (symbols_of q) [] (Counters q)) (IsSolved (Counters q) []) Over (start q) (λ st. eliminate_all (length (symbols_of q)) (symbols_of q) st) start-placed
      (λ st i. eliminate_all-solved (Counters q) (length (symbols_of q)) (symbols_of q) st (omega arith) (solved_at_start st i))
