-- each elimination leaves rows from whose points the values lead back to a point of the query
use Rattle.std.proofs.Common.{◌≡◌, ◌≢◌, ℕ, zero, suc, ◌*◌, ◌<◌, ◌≤◌, inl, inr, ⊎_elim, Bool, true, false, cond, List, [], ◌∷◌, length, Some, None, pos, refl, ◌∙◌, subst, arith}
use Rattle.std.specs.Prelude.{◌||◌, not, filter, nat_lt}
use Rattle.std.specs.List.{AllByRecursion}
use Rattle.std.proofs.lemmas.Int.{ints}
use Rattle.std.proofs.lemmas.Bool.{ne_eqb}
use Rattle.std.proofs.Math.Nat.{mul-le-mul_left}
use Rattle.sb_term.specs.declared.sym.Sym.{Sym}
use Rattle.sb_term.specs.declared.numbered.Numbered.{Numbered}
use Rattle.sb_term.specs.declared.aside.Aside.{Aside}
use Rattle.sb_term.specs.Linear.{coefficient_of}
use Rattle.sb_term.specs.Ratio.{Ratio}
use Rattle.sb_term.specs.Ring.{≤ℤ-*ℤ, *ℤ_comm}
use Rattle.sb_term.specs.Refutes.{value_in}
use Rattle.sb_term.specs.Bounds.{values, value_between}
use Rattle.sb_term.specs.Elimination.{State, going, is_positive, is_negative, is_without, aside_for, with_aside, combine_all, eliminate, eliminate_all, product, cheapest, without}
use Rattle.sb_term.proofs.Tracking.{Keeps, keeps_on}
use Rattle.sb_term.proofs.Backward.Points.{Point, worth, HoldsAt, moved, worth-still, Agrees, Agrees-moved, Gives-from_agrees, with_value, value_in-other, and_then_some}
use Rattle.sb_term.proofs.Backward.Between.{IsLower, IsUpper, pair, between}
use Rattle.sb_term.proofs.Backward.Standing.{IsIn, IsIn-before, IsIn-none, length-without_one, IsSound, IsSound-none, IsSound-without, IsSound-pair}
use Rattle.sb_term.proofs.Backward.Placing.{HoldAll, Stands, IsPlaced, Pairs, Over, combine_all-placed}

-- only symbols that are left have values
abbrev pub AreLeft : List ℕ → List (Sym × Ratio) → Type 0
AreLeft left known = (s : ℕ) → (IsIn s left → ⊥) → value_in known s ≡ None

-- a point where K holds, with these values
pub record Solution (K : Point → Type 0) (known : List (Sym × Ratio)) : Type 0 where
  pub point : Point
  pub some : 0 < point.den
  pub agrees : Agrees known point
  pub holds : K point

-- wherever all standing rows hold, the values of the symbols eliminated so far give a point where K holds
pub record IsSolved (K : Point → Type 0) (left : List ℕ) (st : State) : Type 0 where
  pub rows : AllByRecursion (Stands left) st.rows
  pub solved : (known out : List (Sym × Ratio)) (p : Point) → 0 < p.den → Agrees known p → AreLeft left known → HoldAll p st.rows
      → values st.asides known ≡ Some out → Solution K out

-- each row is on one of the three sides
sides_hold : (p : Point) (s : ℕ) (rs : List Numbered) → HoldAll p (filter (is_without s) rs) → HoldAll p (filter (is_positive s) rs) → HoldAll p (filter (is_negative s) rs) → HoldAll p rs
sides_hold p s [] o a b = tt
sides_hold p s (r ∷ rs) o a b = by (is_positive s r) (is_negative s r) o a b (λ i j k. sides_hold p s rs i j k)
  where
    by : (t u : Bool) → HoldAll p (cond (not (t || u)) (r ∷ filter (is_without s) rs) (filter (is_without s) rs))
        → HoldAll p (cond t (r ∷ filter (is_positive s) rs) (filter (is_positive s) rs)) → HoldAll p (cond u (r ∷ filter (is_negative s) rs) (filter (is_negative s) rs))
        → (HoldAll p (filter (is_without s) rs) → HoldAll p (filter (is_positive s) rs) → HoldAll p (filter (is_negative s) rs) → HoldAll p rs)
        → HoldsAt p r.term × HoldAll p rs
    by true true i j k rest = (j.0, rest i j.1 k.1)
    by true false i j k rest = (j.0, rest i j.1 k)
    by false true i j k rest = (k.0, rest i j k.1)
    by false false i j k rest = (i.0, rest i.1 j k)

module _ (left : List ℕ) (s : ℕ) where
  -- rows of one side
  sides : (P : Numbered → Type 0) (test : Numbered → Bool) → ((r : Numbered) → Stands left r → test r ≡ true → P r)
      → (rs : List Numbered) → AllByRecursion (Stands left) rs → AllByRecursion P (filter test rs)
  sides P test f [] h = tt
  sides P test f (r ∷ rs) h = by (test r) refl (sides P test f rs h.1)
    where
      by : (b : Bool) → test r ≡ b → AllByRecursion P (filter test rs) → AllByRecursion P (cond b (r ∷ filter test rs) (filter test rs))
      by true e rest = (f r h.0 e, rest)
      by false e rest = rest

  -- a row without the symbol
  neither : (r : Numbered) → is_without s r ≡ true → coefficient_of s r.term.entries ≡ pos 0
  neither r h = grind (arith, ints)

  still_stands : (r : Numbered) → Stands left r → is_without s r ≡ true → Stands (without s left) r
  still_stands r h e = record { sound = IsSound-without left r.term.entries s h.sound (neither r e); some = h.some }

  record IsLow (r : Numbered) : Type 0 where
    low : IsLower s r
    sound : IsSound left r.term.entries

  record IsHigh (r : Numbered) : Type 0 where
    high : IsUpper s r
    sound : IsSound left r.term.entries

  sound_with : (x : Numbered) (ys : List Numbered) → IsLow x → AllByRecursion IsHigh ys → AllByRecursion (λ y. IsSound (without s left) (pair s x y).entries) ys
  sound_with x [] l hs = tt
  sound_with x (y ∷ ys) l hs = (IsSound-pair left s x y l.low hs.0.high l.sound hs.0.sound, sound_with x ys l hs.1)

  sound_pairs : (xs ys : List Numbered) → AllByRecursion IsLow xs → AllByRecursion IsHigh ys → Pairs s xs ys (λ t. IsSound (without s left) t.entries)
  sound_pairs [] ys ls hs = tt
  sound_pairs (x ∷ xs) ys ls hs = (sound_with x ys ls.0 hs, sound_pairs xs ys ls.1 hs)

  -- rows without the symbol hold wherever it is moved to
  still_hold : (v : Ratio) (p : Point) (rs : List Numbered) → AllByRecursion (Stands (without s left)) rs → HoldAll p rs → HoldAll (moved s v p) rs
  still_hold v p [] hs h = tt
  still_hold v p (r ∷ rs) hs h =
      let none = IsSound-none (without s left) r.term.entries s hs.0.sound (IsIn-none s left) in
      let same = worth-still s v p r.term hs.0.sound.rising none in
      let times = ≤ℤ-*ℤ v.den (pos 0) (worth p r.term) h.0 in
      let turned = *ℤ_comm (worth p r.term) (pos v.den) in
      (omega (arith, ints), still_hold v p rs hs.1 h.1)

  AreLeft-with : (known : List (Sym × Ratio)) (v : Ratio) → IsIn s left → AreLeft (without s left) known → AreLeft left (with_value known s v)
  AreLeft-with known v here h n none =
      let apart : s ≢ n = λ e. none (subst (λ (m : ℕ). IsIn m left) e here) in
      value_in-other known s n v (ne_eqb s n apart) ∙ h n (λ k. none (IsIn-before n s left k))

-- one elimination
module _ (K : Point → Type 0) (left : List ℕ) (s : ℕ) (st : State) (here : IsIn s left) (h : IsSolved K left st) where
  abbrev above : List Numbered
  above = filter (is_positive s) st.rows

  abbrev below : List Numbered
  below = filter (is_negative s) st.rows

  abbrev apart : List Numbered
  apart = filter (is_without s) st.rows

  abbrev Given : Point → Type 0
  Given p = HoldAll p apart × Pairs s above below (HoldsAt p)

  lows : AllByRecursion (IsLower s) above
  lows = sides left s (IsLower s) (is_positive s) (λ r i e. record { rising = i.sound.rising; positive = e }) st.rows h.rows

  highs : AllByRecursion (IsUpper s) below
  highs = sides left s (IsUpper s) (is_negative s) (λ r i e. record { rising = i.sound.rising; negative = e }) st.rows h.rows

  -- the value of the symbol leads back to a point where all rows hold that stood before
  solved_before : (next : State) → IsPlaced (without s left) st.asides Given next → (known out : List (Sym × Ratio)) (p : Point) → 0 < p.den → Agrees known p
      → AreLeft (without s left) known → HoldAll p next.rows → values (aside_for s st.rows ∷ next.asides) known ≡ Some out → Solution K out
  solved_before next i known out p some agrees are holds e =
      let found = and_then_some (λ (v : Ratio). values next.asides (with_value known s v)) (value_between s known above below) out e in
      let v = found.0 in
      let rows : (w : Ratio) → HoldAll (moved s w p) next.rows = λ (w : Ratio). still_hold left s w p next.rows i.rows holds in
      let met = between s known p some (Gives-from_agrees known p agrees) above below v lows highs (λ w hw. (i.implies (moved s w p) (rows w)).1) found.1 in
      let q = moved s v p in
      let positive : 0 < p.den * v.den = (let hv = met.positive in omega (arith, mul-le-mul_left p.den hv)) in
      h.solved (with_value known s v) out q positive (Agrees-moved known s v p met.positive (are s (IsIn-none s left)) agrees) (AreLeft-with left s known v here are)
      (sides_hold q s st.rows (i.implies q (rows v)).0 met.lower_met met.upper_met)
      (subst (λ (kept : List Aside). values kept (with_value known s v) ≡ Some out) i.same found.2)

  pub eliminate-solved : Keeps (IsSolved K (without s left)) Over (eliminate s st)
  eliminate-solved =
      let a : Aside = aside_for s st.rows in
      let start : State = record st { rows = apart } in
      keeps_on (IsPlaced (without s left) st.asides Given) (IsSolved K (without s left)) Over (combine_all s a.positive a.negative start) (λ next. going (with_aside a next))
      (combine_all-placed (without s left) st.asides (λ p. HoldAll p apart) s above below start
      (record { same = refl; rows = sides left s (Stands (without s left)) (is_without s) (λ r i e. still_stands left s r i e) st.rows h.rows; implies = λ p k. k })
      (sound_pairs left s above below
      (sides left s (IsLow left s) (is_positive s) (λ r i e. record { low = record { rising = i.sound.rising; positive = e }; sound = i.sound }) st.rows h.rows)
      (sides left s (IsHigh left s) (is_negative s) (λ r i e. record { high = record { rising = i.sound.rising; negative = e }; sound = i.sound }) st.rows h.rows)))
      (λ next i. record { rows = i.rows; solved = solved_before next i })

-- the cheapest symbol is one of those that are left
cheapest_is_in : (rs : List Numbered) (s : ℕ) (ss : List ℕ) → IsIn (cheapest rs s ss) (s ∷ ss)
cheapest_is_in rs s [] = inl refl
cheapest_is_in rs s (t ∷ ts) = by (nat_lt (product t rs) (product s rs)) (cheapest_is_in rs t ts) (cheapest_is_in rs s ts)
  where
    by : (b : Bool) → IsIn (cheapest rs t ts) (t ∷ ts) → IsIn (cheapest rs s ts) (s ∷ ts) → IsIn (cheapest rs (cond b t s) ts) (s ∷ (t ∷ ts))
    by true i j = inr i
    by false i j = ⊎_elim (λ (e : s ≡ cheapest rs s ts). inl e) (λ (k : IsIn (cheapest rs s ts) ts). inr (inr k)) j

pub eliminate_all-solved : (K : Point → Type 0) (n : ℕ) (left : List ℕ) (st : State) → length left ≤ n → IsSolved K left st → Keeps (IsSolved K []) Over (eliminate_all n left st)
eliminate_all-solved K zero [] st le h = h
eliminate_all-solved K zero (s ∷ ss) st le h = absurd (omega arith)
eliminate_all-solved K (suc n) [] st le h = h
eliminate_all-solved K (suc n) (s ∷ ss) st le h =
    let best = cheapest st.rows s ss in
    let here = cheapest_is_in st.rows s ss in
    keeps_on (IsSolved K (without best (s ∷ ss))) (IsSolved K []) Over (eliminate best st) (λ next. eliminate_all n (without best (s ∷ ss)) next)
    (eliminate-solved K (s ∷ ss) best st here h)
    (λ next i. eliminate_all-solved K n (without best (s ∷ ss)) next (let fewer = length-without_one best (s ∷ ss) here in omega arith) i)
