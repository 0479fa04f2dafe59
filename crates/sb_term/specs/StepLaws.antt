-- steps that prove a query leave no point that makes its facts hold and its goal fail
use Rattle.std.proofs.Common.{◌≡◌, ℕ, zero, suc, ◌+◌, List, [], ◌∷◌, ◌++◌, map, ℤ, pos, negsuc, ◌+ℤ◌, ◌≤ℤ◌, true, Option, Some, slice_get, length, reverse, length-append, ◌⊎◌, inl, inr, refl, sym, ap, ◌∙◌, subst, arith}
use Rattle.std.specs.Option.{IsSomeAnd}
use Rattle.std.proofs.lemmas.Int.{ints}
use Rattle.std.proofs.lemmas.List.{reverse-append, length-reverse, length-map}
use Rattle.sb_term.specs.declared.row.Row.{Row}
use Rattle.sb_term.specs.declared.steps.Step.{Step}
use Rattle.sb_term.specs.declared.query.Query.{Query}
use Rattle.sb_term.specs.Linear.{Linear, value, is_within}
use Rattle.sb_term.specs.Rows.{AllHold, Follows, negated}
use Rattle.sb_term.specs.Steps.{first_rows, row_at, row_of, IsStep, rows_after, AreSteps, IsAbsurd, Proves, rows_of, AreChecked}
use Rattle.sb_term.specs.Ring.{≤ℤ-*ℤ}
use Rattle.sb_term.specs.Values.{value-combined, value-negated}

module _ (p : ℕ → ℤ) where
  -- each of these terms is at least 0
  abbrev pub NoneBelow : List Linear → Type 0
  NoneBelow [] = Unit {0}
  NoneBelow (t ∷ ts) = (pos 0 ≤ℤ value p t) × NoneBelow ts

  pub NoneBelow-append : (ts us : List Linear) → NoneBelow ts → NoneBelow us → NoneBelow (ts ++ us)
  NoneBelow-append [] us h k = k
  NoneBelow-append (t ∷ ts) us h k = (h.0, NoneBelow-append ts us h.1 k)

  pub row_at-holds : (rows : List Linear) → NoneBelow rows → (n : ℕ) → pos 0 ≤ℤ value p (row_at rows n)
  row_at-holds [] h n = omega (arith, ints)
  row_at-holds (t ∷ ts) h zero = h.0
  row_at-holds (t ∷ ts) h (suc n) = row_at-holds ts h.1 n

  pub row_of-holds : (rows : List Linear) → NoneBelow rows → (s : Step) → pos 0 ≤ℤ value p (row_of rows s)
  row_of-holds rows h s =
      let i = row_at-holds rows h s.i in
      let j = row_at-holds rows h s.j in
      let v = value-combined p (pos s.a) (pos s.b) (pos 0) (row_at rows s.i) (row_at rows s.j) in
      let x = ≤ℤ-*ℤ s.a (pos 0) (value p (row_at rows s.i)) i in
      let y = ≤ℤ-*ℤ s.b (pos 0) (value p (row_at rows s.j)) j in
      omega (arith, ints)

  pub rows_after-hold : (ss : List Step) (rows : List Linear) → NoneBelow rows → NoneBelow (rows_after rows ss)
  rows_after-hold [] rows h = h
  rows_after-hold (s ∷ ss) rows h =
      rows_after-hold ss (rows ++ row_of rows s ∷ []) (NoneBelow-append rows (row_of rows s ∷ []) h (row_of-holds rows h s, tt))

  pub facts-hold : (fs : List Row) → AllHold p fs → NoneBelow (map (λ f. f.term) fs)
  facts-hold [] h = tt
  facts-hold (f ∷ fs) h = (h.0, facts-hold fs h.1)

  -- a row that holds nowhere is not among rows that hold
  pub absurd_row : (t : Linear) → IsAbsurd t → pos 0 ≤ℤ value p t → ⊥
  absurd_row t a h =
      let e : value p t ≡ pos 0 +ℤ t.rest = ap (λ es. value p (record { entries = es; rest = t.rest })) a.bare in
      let b = a.below in
      omega (arith, ints)

  absurd_among : (rows : List Linear) (n : ℕ) → NoneBelow rows → IsSomeAnd (slice_get rows n) IsAbsurd → ⊥
  absurd_among [] n h a = a
  absurd_among (t ∷ ts) zero h a = absurd_row t a h.0
  absurd_among (t ∷ ts) (suc n) h a = absurd_among ts n h.1 a

  -- a row holds, or its negation does
  pub holds_or_negated : (t : Linear) → (pos 0 ≤ℤ value p t) ⊎ (pos 0 ≤ℤ value p (negated t))
  holds_or_negated t = by (value p t) refl
    where
      by : (z : ℤ) → value p t ≡ z → (pos 0 ≤ℤ value p t) ⊎ (pos 0 ≤ℤ value p (negated t))
      by (pos n) e = inl (omega (arith, ints))
      by (negsuc n) e = let v = value-negated p t in inr (omega (arith, ints))

pub follows_from_steps : (q : Query) (steps : List Step) → Proves q steps → Follows q
follows_from_steps q steps proof p facts =
    elim (holds_or_negated p q.goal.term) [
      | inl h ↦ h
      | inr h ↦ absurd (absurd_among p (rows_after (first_rows q) steps) (length q.facts + length steps)
          (rows_after-hold p steps (first_rows q)
          (NoneBelow-append p (map (λ f. f.term) q.facts) (negated q.goal.term ∷ []) (facts-hold p q.facts facts) (h, tt)))
          proof.end)
    ]

pub reverse-cons : (s : Step) (ss : List Step) → reverse (s ∷ ss) ≡ reverse ss ++ s ∷ []
reverse-cons s ss = reverse-append (s ∷ []) ss

-- steps that are checked with the newest first are steps in the order in which they are formed
rows_after-append : (rows : List Linear) (xs ys : List Step) → rows_after rows (xs ++ ys) ≡ rows_after (rows_after rows xs) ys
rows_after-append rows [] ys = refl
rows_after-append rows (x ∷ xs) ys = rows_after-append (rows ++ row_of rows x ∷ []) xs ys

pub rows_after-reverse : (base : List Linear) (ss : List Step) → rows_after base (reverse ss) ≡ rows_of base ss
rows_after-reverse base [] = refl
rows_after-reverse base (s ∷ ss) =
    ap (rows_after base) (reverse-cons s ss)
    ∙ rows_after-append base (reverse ss) (s ∷ [])
    ∙ ap (λ rows. rows ++ row_of rows s ∷ []) (rows_after-reverse base ss)

AreSteps-append : (rows : List Linear) (xs : List Step) (s : Step) → AreSteps rows xs → IsStep (rows_after rows xs) s → AreSteps rows (xs ++ s ∷ [])
AreSteps-append rows [] s h k = (k, tt)
AreSteps-append rows (x ∷ xs) s h k = (h.0, AreSteps-append (rows ++ row_of rows x ∷ []) xs s h.1 k)

pub AreSteps-reverse : (base : List Linear) (ss : List Step) → AreChecked base ss → AreSteps base (reverse ss)
AreSteps-reverse base [] h = tt
AreSteps-reverse base (s ∷ ss) h =
    let P : List Step → Type 0 = λ xs. AreSteps base xs in
    let Q : List Linear → Type 0 = λ rows. IsStep rows s in
    subst P (sym (reverse-cons s ss))
    (AreSteps-append base (reverse ss) s (AreSteps-reverse base ss h.1) (subst Q (sym (rows_after-reverse base ss)) h.0))

pub length-rows_of : (base : List Linear) (ss : List Step) → length (rows_of base ss) ≡ length base + length ss
length-rows_of base [] = omega arith
length-rows_of base (s ∷ ss) = omega (arith, length-rows_of base ss, length-append (rows_of base ss) (row_of (rows_of base ss) s ∷ []))

-- the last of several rows
slice_get-last : (rows : List Linear) (t : Linear) (n : ℕ) → n ≡ length rows → slice_get (rows ++ t ∷ []) n ≡ Some t
slice_get-last [] t n e = ap (slice_get (t ∷ [])) e
slice_get-last (r ∷ rows) t n e = ap (slice_get (r ∷ (rows ++ t ∷ []))) (let k : n ≡ suc (length rows) = omega arith in k) ∙ slice_get-last rows t (length rows) refl

pub proves_from_newest : (q : Query) (s : Step) (ss : List Step) → is_within (negated q.goal.term) ≡ true
    → AreChecked (first_rows q) (s ∷ ss) → IsAbsurd (row_of (rows_of (first_rows q) ss) s) → Proves q (reverse (s ∷ ss))
proves_from_newest q s ss within checked absurd_end = record {
  goal = within;
  some = λ e. absurd (omega (arith, ap length e, length-reverse (s ∷ ss)));
  each = AreSteps-reverse (first_rows q) (s ∷ ss) checked;
  end =
      let rows = rows_of (first_rows q) ss in
      let n = length q.facts + length (reverse (s ∷ ss)) in
      let number : n ≡ length rows =
      omega (
        arith,
        length-reverse (s ∷ ss),
        length-rows_of (first_rows q) ss,
        length-append (map (λ f. f.term) q.facts) (negated q.goal.term ∷ []),
        length-map q.facts (λ (f : Row). f.term),
      ) in
      let P : Option Linear → Type 0 = λ o. IsSomeAnd o IsAbsurd in
      subst P (sym (ap (λ xs. slice_get xs n) (rows_after-reverse (first_rows q) (s ∷ ss)) ∙ slice_get-last rows (row_of rows s) n number)) absurd_end;
}
