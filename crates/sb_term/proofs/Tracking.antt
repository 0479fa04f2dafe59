-- placing and forming keep each standing row the row of its number, and end only in a row that holds nowhere
use Rattle.std.proofs.Common.{◌≡◌, ℕ, zero, ◌+◌, ◌/◌, suc, ◌<◌, ◌≤◌, ◌^◌, Bool, true, false, cond, List, [], ◌∷◌, ◌++◌, length, Option, Some, None, ℤ, pos, refl, sym, ap, ◌∙◌, arith, length-append, subst, ⊎_elim}
use Rattle.std.specs.Prelude.{int_lt, nat_lt, nat_le, unsigned_abs, slice_index_or, filter, All, position}
use Rattle.std.proofs.lemmas.List.Elements.{All-push, All-set, All-filter, All-weaker, All-head, All-tail, All-nil, All-cons}
use Rattle.std.proofs.lemmas.List.{get_or_past}
use Rattle.std.proofs.lemmas.Int.{ints}
use Rattle.std.proofs.lemmas.Bool.{cases_lt, ltb-true, and_parts}
use Rattle.sb_term.specs.declared.entry.Entry.{Entry}
use Rattle.sb_term.specs.declared.steps.Step.{Step}
use Rattle.sb_term.specs.declared.numbered.Numbered.{Numbered}
use Rattle.sb_term.specs.declared.aside.Aside.{Aside}
use Rattle.sb_term.specs.Linear.{Linear, combined, formed, is_within, coefficient_of, is_same_list}
use Rattle.sb_term.specs.Steps.{row_at, row_of, rows_of, IsStep, AreChecked, IsAbsurd}
use Rattle.sb_term.specs.StepLaws.{length-rows_of}
use Rattle.sb_term.specs.Elimination.{State, Progress, going, proved, too_many_rows, too_many_digits, on_going, tighter, put_at, put, placed, place, place_formed, with_step, take_step, are_factors, size_in, combine, combine_each, combine_all, aside_for, with_aside, eliminate, is_positive, is_negative, is_without, eliminate_all, cheapest, without}
use Rattle.sb_term.specs.Ratio.{gcd}
use Rattle.sb_term.proofs.Divisors.{IsGcd-gcd, quotient_positive}
use Rattle.sb_term.proofs.Checked.{row_at-more, row_at-last}

-- what holds of the state where there is more to do, and of the steps where the end is reached
abbrev pub Keeps : (State → Type 0) → (List Step → Type 0) → Progress → Type 0
Keeps T E (going st) = T st
Keeps T E (proved steps) = E steps
Keeps T E too_many_rows = Unit {0}
Keeps T E too_many_digits = Unit {0}

pub keeps_on : (T U : State → Type 0) (E : List Step → Type 0) (p : Progress) (next : State → Progress) → Keeps T E p → ((st : State) → T st → Keeps U E (next st)) → Keeps U E (on_going p next)
keeps_on T U E (going st) next k h = h st k
keeps_on T U E (proved steps) next k h = k
keeps_on T U E too_many_rows next k h = tt
keeps_on T U E too_many_digits next k h = tt

-- a row stands under its number
pub record IsNamed (rows : List Linear) (r : Numbered) : Type 0 where
  pub stands : r.number < length rows
  pub is : row_at rows r.number ≡ r.term

pub IsNamed-more : (rows : List Linear) (t : Linear) (r : Numbered) → IsNamed rows r → IsNamed (rows ++ t ∷ []) r
IsNamed-more rows t r n = record {
  stands = omega (arith, n.stands, length-append rows (t ∷ []));
  is = row_at-more rows t r.number n.stands ∙ n.is;
}

-- what holds of rows and of one more holds once that one is put among them
module _ (P : Numbered → Type 0) where
  P-tighter : (b : Bool) (x y : Numbered) → P x → P y → P (cond b x y)
  P-tighter true x y p q = p
  P-tighter false x y p q = q

  P-standing : (rs : List Numbered) (k : ℕ) (r : Numbered) → All P rs → P r → P (slice_index_or rs k r)
  P-standing rs k r a p =
      ⊎_elim (λ (lt : k < length rs). a k r lt) (λ (le : length rs ≤ k). subst P (sym (get_or_past rs k r le)) p) (cases_lt k (length rs))

  All-put_at : (at : Option ℕ) (r : Numbered) (rs : List Numbered) → All P rs → P r → All P (put_at at r rs)
  All-put_at None r rs a p = All-push P rs r a p
  All-put_at (Some k) r rs a p =
      let old : Numbered = slice_index_or rs k r in
      All-set P rs k (tighter old r) (P-tighter (int_lt r.term.rest old.term.rest) r old p (P-standing rs k r a p)) a

  pub All-put : (r : Numbered) (rs : List Numbered) → All P rs → P r → All P (put r rs)
  All-put r rs a p = All-put_at (position (λ o. is_same_list o.term.entries r.term.entries) rs) r rs a p

-- The steps are steps, and the rows stand under their numbers. Rows that stood after the old steps still do.
pub record IsTracked (first : List Linear) (old : List Step) (st : State) : Type 0 where
  pub checked : AreChecked first st.steps
  pub rows : All (IsNamed (rows_of first st.steps)) st.rows
  pub base : st.base ≡ length first
  pub grown : (r : Numbered) → IsNamed (rows_of first old) r → IsNamed (rows_of first st.steps) r

-- steps that end in a row that holds nowhere
abbrev pub Ends : List Linear → List Step → Type 0
Ends first [] = ⊥
Ends first (s ∷ ss) = AreChecked first (s ∷ ss) × IsAbsurd (row_of (rows_of first ss) s)

module _ (first : List Linear) (old : List Step) where
  abbrev Tracked : State → Type 0
  Tracked st = IsTracked first old st

  standing-keeps : (E : List Step → Type 0) (b : Bool) (rs : List Numbered) (st : State) → Tracked st → All (IsNamed (rows_of first st.steps)) rs → Keeps Tracked E (cond b (going (record st { rows = rs })) too_many_rows)
  standing-keeps E true rs st t a = record { checked = t.checked; rows = a; base = t.base; grown = t.grown }
  standing-keeps E false rs st t a = tt

  dropped-keeps : (E : List Step → Type 0) (b : Bool) (st : State) → Tracked st → (b ≡ true → E st.steps) → Keeps Tracked E (cond b (proved st.steps) (going st))
  dropped-keeps E true st t h = h refl
  dropped-keeps E false st t h = t

  placed-keeps : (E : List Step → Type 0) (es : List Entry) (r : Numbered) (st : State) → Tracked st → IsNamed (rows_of first st.steps) r → r.term.entries ≡ es → (IsAbsurd r.term → E st.steps) → Keeps Tracked E (placed es r st)
  placed-keeps E [] r st t n e h = dropped-keeps E (int_lt r.term.rest (pos 0)) st t (λ b. h (record { bare = e; below = b }))
  placed-keeps E (x ∷ xs) r st t n e h =
      let rs : List Numbered = put r st.rows in
      standing-keeps E (nat_le (length rs) 2048) rs st t (All-put (IsNamed (rows_of first st.steps)) r st.rows t.rows n)

  pub place-keeps : (E : List Step → Type 0) (r : Numbered) (st : State) → Tracked st → IsNamed (rows_of first st.steps) r → (IsAbsurd r.term → E st.steps) → Keeps Tracked E (place r st)
  place-keeps E r st t n h = placed-keeps E r.term.entries r st t n refl h

  -- a formed row is that of the next number
  IsNamed-formed : (s : Step) (st : State) (t : Linear) → Tracked st → row_of (rows_of first st.steps) s ≡ t → IsNamed (rows_of first (s ∷ st.steps)) (record { number = st.base + length st.steps; term = t })
  IsNamed-formed s st t k e =
      let rows : List Linear = rows_of first st.steps in
      let n : length rows ≡ st.base + length st.steps = omega (arith, length-rows_of first st.steps, k.base) in
      record {
        stands = omega (arith, n, length-append rows (row_of rows s ∷ []));
        is = ap (row_at (rows ++ row_of rows s ∷ [])) (sym n) ∙ row_at-last rows (row_of rows s) ∙ e;
      }

  IsTracked-step : (s : Step) (st : State) → Tracked st → IsStep (rows_of first st.steps) s → Tracked (with_step s st)
  IsTracked-step s st k h =
      let rows : List Linear = rows_of first st.steps in
      record {
        checked = (h, k.checked);
        rows = All-weaker (IsNamed rows) (IsNamed (rows ++ row_of rows s ∷ [])) (λ r n. IsNamed-more rows (row_of rows s) r n) st.rows k.rows;
        base = k.base;
        grown = λ r n. IsNamed-more rows (row_of rows s) r (k.grown r n);
      }

  formed-keeps : (w : Bool) (s : Step) (st : State) (t : Linear) → Tracked st → (w ≡ true → IsStep (rows_of first st.steps) s) → row_of (rows_of first st.steps) s ≡ t → Keeps Tracked (Ends first) (place_formed (cond w (Some t) None) (st.base + length st.steps) (with_step s st))
  formed-keeps false s st t k h e = tt
  formed-keeps true s st t k h e =
      let r : Numbered = record { number = st.base + length st.steps; term = t } in
      place-keeps (Ends first) r (with_step s st) (IsTracked-step s st k (h refl)) (IsNamed-formed s st t k e) (λ a. ((h refl, k.checked), subst IsAbsurd (sym e) a))

  factored-keeps : (f : Bool) (s : Step) (st : State) (t : Linear) → Tracked st → (f ≡ true → is_within t ≡ true → IsStep (rows_of first st.steps) s) → row_of (rows_of first st.steps) s ≡ t → Keeps Tracked (Ends first) (cond f (place_formed (formed t) (st.base + length st.steps) (with_step s st)) too_many_digits)
  factored-keeps false s st t k h e = tt
  factored-keeps true s st t k h e = formed-keeps (is_within t) s st t k (h refl) e

  pub take_step-keeps : (a : ℕ) (x : Numbered) (b : ℕ) (y : Numbered) (st : State) → Tracked st → IsNamed (rows_of first st.steps) x → IsNamed (rows_of first st.steps) y → 0 < a → 0 < b → Keeps Tracked (Ends first) (take_step a x b y st)
  take_step-keeps a x b y st k nx ny pa pb =
      let rows : List Linear = rows_of first st.steps in
      let s : Step = record { a = a; i = x.number; b = b; j = y.number } in
      let t : Linear = combined (pos a) x.term (pos b) y.term (pos 0) in
      let e : row_of rows s ≡ t = ap (λ (u : Linear). combined (pos a) u (pos b) (row_at rows y.number) (pos 0)) nx.is ∙ ap (λ (u : Linear). combined (pos a) x.term (pos b) u (pos 0)) ny.is in
      factored-keeps (are_factors a b) s st t k (λ f w. record {
        a_positive = pa;
        a_narrow = ltb-true a (2 ^ 40) (and_parts (nat_lt a (2 ^ 40)) (nat_lt b (2 ^ 40)) f).0;
        b_positive = pb;
        b_narrow = ltb-true b (2 ^ 40) (and_parts (nat_lt a (2 ^ 40)) (nat_lt b (2 ^ 40)) f).1;
        i_stands = nx.stands;
        j_stands = ny.stands;
        within = ap is_within e ∙ w;
      }) e

  -- combining rows that stood after the old steps
  pub record IsCombined (s : ℕ) (r : Numbered) : Type 0 where
    pub named : IsNamed (rows_of first old) r
    pub size : 0 < size_in s r

  combine-keeps : (s : ℕ) (x y : Numbered) (st : State) → IsCombined s x → IsCombined s y → Tracked st → Keeps Tracked (Ends first) (combine s x y st)
  combine-keeps s x y st cx cy k =
      let a : ℕ = size_in s x in
      let b : ℕ = size_in s y in
      take_step-keeps (b / gcd a b) x (a / gcd a b) y st k (k.grown x cx.named) (k.grown y cy.named) (quotient_positive (gcd a b) b cy.size (IsGcd-gcd a b).1) (quotient_positive (gcd a b) a cx.size (IsGcd-gcd a b).0)

  combine_each-keeps : (s : ℕ) (x : Numbered) (ys : List Numbered) (st : State) → IsCombined s x → All (IsCombined s) ys → Tracked st → Keeps Tracked (Ends first) (combine_each s x ys st)
  combine_each-keeps s x [] st cx cys k = k
  combine_each-keeps s x (y ∷ ys) st cx cys k =
      keeps_on Tracked Tracked (Ends first) (combine s x y st) (λ next. combine_each s x ys next) (combine-keeps s x y st cx (All-head (IsCombined s) y ys cys) k) (λ next n. combine_each-keeps s x ys next cx (All-tail (IsCombined s) y ys cys) n)

  pub combine_all-keeps : (s : ℕ) (xs ys : List Numbered) (st : State) → All (IsCombined s) xs → All (IsCombined s) ys → Tracked st → Keeps Tracked (Ends first) (combine_all s xs ys st)
  combine_all-keeps s [] ys st cxs cys k = k
  combine_all-keeps s (x ∷ xs) ys st cxs cys k =
      keeps_on Tracked Tracked (Ends first) (combine_each s x ys st) (λ next. combine_all s xs ys next) (combine_each-keeps s x ys st (All-head (IsCombined s) x xs cxs) cys k) (λ next n. combine_all-keeps s xs ys next (All-tail (IsCombined s) x xs cxs) cys n)

-- what the steps of an elimination may be taken on
abbrev pub IsOwn : List Linear → State → Type 0
IsOwn first st = IsTracked first st.steps st

module _ (first : List Linear) where
  IsOwn-from_tracked : (old : List Step) (st : State) → IsTracked first old st → IsOwn first st
  IsOwn-from_tracked old st k = record { checked = k.checked; rows = k.rows; base = k.base; grown = λ r n. n }

  IsOwn-progress : (old : List Step) (p : Progress) → Keeps (IsTracked first old) (Ends first) p → Keeps (IsOwn first) (Ends first) p
  IsOwn-progress old (going st) k = IsOwn-from_tracked old st k
  IsOwn-progress old (proved ss) k = k
  IsOwn-progress old too_many_rows k = tt
  IsOwn-progress old too_many_digits k = tt

  -- rows that pass a test by which the symbol has a coefficient other than zero
  All-combined : (old : List Step) (s : ℕ) (test : Numbered → Bool) → ((r : Numbered) → test r ≡ true → 0 < size_in s r) → (rs : List Numbered) → All (IsNamed (rows_of first old)) rs → All (IsCombined first old s) (filter test rs)
  All-combined old s test h [] a = All-nil (IsCombined first old s)
  All-combined old s test h (r ∷ rs) a =
      by (test r) refl (All-combined old s test h rs (All-tail (IsNamed (rows_of first old)) r rs a))
    where
      by : (b : Bool) → test r ≡ b → All (IsCombined first old s) (filter test rs) → All (IsCombined first old s) (cond b (r ∷ filter test rs) (filter test rs))
      by true e rest = All-cons (IsCombined first old s) r (filter test rs) (record { named = All-head (IsNamed (rows_of first old)) r rs a; size = h r e }) rest
      by false e rest = rest

  positive_size : (z : ℤ) → int_lt (pos 0) z ≡ true → 0 < unsigned_abs z
  positive_size z h = grind (arith, ints)

  negative_size : (z : ℤ) → int_lt z (pos 0) ≡ true → 0 < unsigned_abs z
  negative_size z h = grind (arith, ints)

  pub eliminate-keeps : (s : ℕ) (st : State) → IsOwn first st → Keeps (IsOwn first) (Ends first) (eliminate s st)
  eliminate-keeps s st k =
      let named = IsNamed (rows_of first st.steps) in
      let a : Aside = aside_for s st.rows in
      let left : State = record st { rows = filter (is_without s) st.rows } in
      IsOwn-progress st.steps (eliminate s st)
      (keeps_on (IsTracked first st.steps) (IsTracked first st.steps) (Ends first) (combine_all s a.positive a.negative left) (λ next. going (with_aside a next))
      (combine_all-keeps first st.steps s a.positive a.negative left
      (All-combined st.steps s (is_positive s) (λ r h. positive_size (coefficient_of s r.term.entries) h) st.rows k.rows)
      (All-combined st.steps s (is_negative s) (λ r h. negative_size (coefficient_of s r.term.entries) h) st.rows k.rows)
      (record { checked = k.checked; rows = All-filter (is_without s) named st.rows k.rows; base = k.base; grown = λ r n. n }))
      (λ next t. record { checked = t.checked; rows = t.rows; base = t.base; grown = t.grown }))

  pub eliminate_all-keeps : (n : ℕ) (left : List ℕ) (st : State) → IsOwn first st → Keeps (IsOwn first) (Ends first) (eliminate_all n left st)
  eliminate_all-keeps zero left st k = k
  eliminate_all-keeps (suc n) [] st k = k
  eliminate_all-keeps (suc n) (s ∷ ss) st k =
      let best : ℕ = cheapest st.rows s ss in
      keeps_on (IsOwn first) (IsOwn first) (Ends first) (eliminate best st) (λ next. eliminate_all n (without best (s ∷ ss)) next) (eliminate-keeps best st k) (λ next o. eliminate_all-keeps n (without best (s ∷ ss)) next o)
