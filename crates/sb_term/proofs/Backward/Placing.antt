-- what is placed holds wherever all rows that stand then do
use Rattle.std.proofs.Common.{◌≡◌, ◌≢◌, ℕ, zero, suc, ◌+◌, ◌/◌, ◌<◌, Bool, true, false, cond, List, [], ◌∷◌, ◌++◌, length, get_or, Option, Some, None, ℤ, pos, ◌*ℤ◌, ◌≤ℤ◌, refl, sym, ap, ◌∙◌, arith}
use Rattle.std.specs.Prelude.{int_lt, nat_le, position}
use Rattle.std.specs.List.{AllByRecursion}
use Rattle.std.proofs.lemmas.Int.{ints}
use Rattle.std.proofs.lemmas.List.Elements.{All-from_recursion, recursion_from_All}
use Rattle.std.proofs.lemmas.List.Quantifiers.{position-Some}
use Rattle.std.proofs.Math.ListN.{set}
use Rattle.sb_term.specs.declared.entry.Entry.{Entry}
use Rattle.sb_term.specs.declared.steps.Step.{Step}
use Rattle.sb_term.specs.declared.numbered.Numbered.{Numbered}
use Rattle.sb_term.specs.declared.aside.Aside.{Aside}
use Rattle.sb_term.specs.Linear.{Linear, combined, formed, is_within, sum_at, is_same_list}
use Rattle.sb_term.specs.Ratio.{gcd}
use Rattle.sb_term.specs.Ring.{≤ℤ-*ℤ}
use Rattle.sb_term.specs.Elimination.{State, Progress, going, proved, too_many_rows, too_many_digits, tighter, put_at, put, placed, place, place_formed, with_step, take_step, are_factors, size_in, combine, combine_each, combine_all}
use Rattle.sb_term.proofs.SameList.{same_from_test}
use Rattle.sb_term.proofs.Tracking.{Keeps, keeps_on, All-put}
use Rattle.sb_term.proofs.Backward.Points.{Point, HoldsAt}
use Rattle.sb_term.proofs.Backward.Between.{pair}
use Rattle.sb_term.proofs.Backward.Standing.{IsSound}

abbrev pub HoldAll : Point → List Numbered → Type 0
HoldAll p rs = AllByRecursion (λ r. HoldsAt p r.term) rs

-- of two rows with equal coefficients the tighter one holds only where both do
tighter_holds : (p : Point) (x y : Numbered) → x.term.entries ≡ y.term.entries → HoldsAt p (tighter x y).term → HoldsAt p x.term × HoldsAt p y.term
tighter_holds p x y e = by (int_lt y.term.rest x.term.rest) refl
  where
    sums : sum_at p.at x.term.entries ≡ sum_at p.at y.term.entries
    sums = ap (sum_at p.at) e

    more : (d : ℕ) (r s : ℤ) → r ≤ℤ s → (pos d *ℤ r) ≤ℤ (pos d *ℤ s)
    more d r s h = ≤ℤ-*ℤ d r s h

    by : (b : Bool) → int_lt y.term.rest x.term.rest ≡ b → HoldsAt p (cond b y x).term → HoldsAt p x.term × HoldsAt p y.term
    by true t h = let k = more p.den y.term.rest x.term.rest (grind (arith, ints)) in (omega (arith, ints, sums), h)
    by false t h = let k = more p.den x.term.rest y.term.rest (grind (arith, ints)) in (h, omega (arith, ints, sums))

-- what holds of each item of a list one of which was replaced, where it holds of the old one if it does of the new one
module _ (P : Numbered → Type 0) where
  before_set : (rs : List Numbered) (k : ℕ) (v d : Numbered) → (P v → P (get_or rs k d)) → k < length rs → AllByRecursion P (set rs k v) → AllByRecursion P rs
  before_set [] k v d f lt h = h
  before_set (r ∷ rs) zero v d f lt h = (f h.0, h.1)
  before_set (r ∷ rs) (suc k) v d f lt h = (h.0, before_set rs k v d f (omega arith) h.1)

  at_set : (rs : List Numbered) (k : ℕ) (v : Numbered) → k < length rs → AllByRecursion P (set rs k v) → P v
  at_set [] k v lt h = absurd (omega arith)
  at_set (r ∷ rs) zero v lt h = h.0
  at_set (r ∷ rs) (suc k) v lt h = at_set rs k v (omega arith) h.1

  before_push : (rs : List Numbered) (r : Numbered) → AllByRecursion P (rs ++ r ∷ []) → AllByRecursion P rs × P r
  before_push [] r h = (tt, h.0)
  before_push (x ∷ rs) r h = let later = before_push rs r h.1 in ((h.0, later.0), later.1)

  put-all : (r : Numbered) (rs : List Numbered) → AllByRecursion P rs → P r → AllByRecursion P (put r rs)
  put-all r rs h p = recursion_from_All P (put r rs) (All-put P r rs (All-from_recursion P rs h) p)

put-holds : (p : Point) (r : Numbered) (rs : List Numbered) → HoldAll p (put r rs) → HoldAll p rs × HoldsAt p r.term
put-holds p r rs = by (position (λ o. is_same_list o.term.entries r.term.entries) rs) refl
  where
    by : (at : Option ℕ) → position (λ o. is_same_list o.term.entries r.term.entries) rs ≡ at → HoldAll p (put_at at r rs) → HoldAll p rs × HoldsAt p r.term
    by None e h = before_push (λ x. HoldsAt p x.term) rs r h
    by (Some k) e h =
        let P : Numbered → Type 0 = λ x. HoldsAt p x.term in
        let found = position-Some (λ (o : Numbered). is_same_list o.term.entries r.term.entries) rs k r e in
        let old : Numbered = get_or rs k r in
        let same : old.term.entries ≡ r.term.entries = same_from_test old.term.entries r.term.entries found.1 in
        let v : Numbered = tighter old r in
        (before_set P rs k v r (λ (t : P v). (tighter_holds p old r same t).0) found.0 h, (tighter_holds p old r same (at_set P rs k v found.0 h)).1)

-- a row that stands has a symbol
pub record Stands (left : List ℕ) (r : Numbered) : Type 0 where
  pub sound : IsSound left r.term.entries
  pub some : r.term.entries ≢ []

-- the rows set aside are these, and K holds wherever all standing rows do
pub record IsPlaced (left : List ℕ) (asides : List Aside) (K : Point → Type 0) (st : State) : Type 0 where
  pub same : st.asides ≡ asides
  pub rows : AllByRecursion (Stands left) st.rows
  pub implies : (p : Point) → HoldAll p st.rows → K p

-- what an end without standing rows is to be
abbrev pub Over : List Step → Type 0
Over steps = Unit {0}

pub keeps_weaker : (T U : State → Type 0) (o : Progress) → ((st : State) → T st → U st) → Keeps T Over o → Keeps U Over o
keeps_weaker T U (going st) f k = f st k
keeps_weaker T U (proved steps) f k = tt
keeps_weaker T U too_many_rows f k = tt
keeps_weaker T U too_many_digits f k = tt

-- what holds of the row that each of the first and each of the second rows give
abbrev pub Pairs : ℕ → List Numbered → List Numbered → (Linear → Type 0) → Type 0
Pairs s xs ys P = AllByRecursion (λ x. AllByRecursion (λ y. P (pair s x y)) ys) xs

module _ (left : List ℕ) (asides : List Aside) where
  abbrev pub Placed : (Point → Type 0) → State → Type 0
  Placed K st = IsPlaced left asides K st

  pub Placed-weaker : (K L : Point → Type 0) → ((p : Point) → K p → L p) → (o : Progress) → Keeps (Placed K) Over o → Keeps (Placed L) Over o
  Placed-weaker K L f o k = keeps_weaker (Placed K) (Placed L) o (λ st i. record { same = i.same; rows = i.rows; implies = λ p h. f p (i.implies p h) }) k

  module _ (K : Point → Type 0) where
    abbrev With : Linear → Point → Type 0
    With t p = K p × HoldsAt p t

    -- a row without symbols whose constant is not below 0
    dropped-placed : (r : Numbered) (st : State) → Placed K st → r.term.entries ≡ [] → (b : Bool) → int_lt r.term.rest (pos 0) ≡ b
        → Keeps (Placed (With r.term)) Over (cond b (proved st.steps) (going st))
    dropped-placed r st i e true t = tt
    dropped-placed r st i e false t = record {
      same = i.same;
      rows = i.rows;
      implies = λ p h. (
        i.implies p h,
        let sum = ap (sum_at p.at) e in
            let k = ≤ℤ-*ℤ p.den (pos 0) r.term.rest (grind (arith, ints)) in omega (arith, ints),
      );
    }

    standing-placed : (r : Numbered) (st : State) → Placed K st → Stands left r → (b : Bool) → Keeps (Placed (With r.term)) Over (cond b (going (record st { rows = put r st.rows })) too_many_rows)
    standing-placed r st i s true = record {
      same = i.same;
      rows = put-all (Stands left) r st.rows i.rows s;
      implies = λ p h. let both = put-holds p r st.rows h in (i.implies p both.0, both.1);
    }
    standing-placed r st i s false = tt

    placed-placed : (es : List Entry) (r : Numbered) (st : State) → Placed K st → IsSound left r.term.entries → r.term.entries ≡ es → Keeps (Placed (With r.term)) Over (placed es r st)
    placed-placed [] r st i s e = dropped-placed r st i e (int_lt r.term.rest (pos 0)) refl
    placed-placed (x ∷ xs) r st i s e = standing-placed r st i (record { sound = s; some = λ none. absurd (let k : x ∷ xs ≡ [] = sym e ∙ none in cc) }) (nat_le (length (put r st.rows)) 2048)

    pub place-placed : (r : Numbered) (st : State) → Placed K st → IsSound left r.term.entries → Keeps (Placed (With r.term)) Over (place r st)
    place-placed r st i s = placed-placed r.term.entries r st i s refl

    pub formed-placed : (t : Linear) (n : ℕ) (st : State) → Placed K st → IsSound left t.entries → Keeps (Placed (With t)) Over (place_formed (formed t) n st)
    formed-placed t n st i s = by (is_within t)
      where
        by : (b : Bool) → Keeps (Placed (With t)) Over (place_formed (cond b (Some t) None) n st)
        by true = place-placed (record { number = n; term = t }) st i s
        by false = tt

    take_step-placed : (a : ℕ) (x : Numbered) (b : ℕ) (y : Numbered) (st : State) → Placed K st → IsSound left (combined (pos a) x.term (pos b) y.term (pos 0)).entries
        → Keeps (Placed (With (combined (pos a) x.term (pos b) y.term (pos 0)))) Over (take_step a x b y st)
    take_step-placed a x b y st i s = by (are_factors a b)
      where
        t : Linear
        t = combined (pos a) x.term (pos b) y.term (pos 0)

        next : State
        next = with_step (record { a = a; i = x.number; b = b; j = y.number }) st

        by : (f : Bool) → Keeps (Placed (With t)) Over (cond f (place_formed (formed t) (st.base + length st.steps) next) too_many_digits)
        by true = formed-placed t (st.base + length st.steps) next (record { same = i.same; rows = i.rows; implies = i.implies }) s
        by false = tt

    pub combine-placed : (s : ℕ) (x y : Numbered) (st : State) → Placed K st → IsSound left (pair s x y).entries → Keeps (Placed (With (pair s x y))) Over (combine s x y st)
    combine-placed s x y st i h = take_step-placed (size_in s y / gcd (size_in s x) (size_in s y)) x (size_in s x / gcd (size_in s x) (size_in s y)) y st i h

  pub combine_each-placed : (K : Point → Type 0) (s : ℕ) (x : Numbered) (ys : List Numbered) (st : State) → Placed K st → AllByRecursion (λ y. IsSound left (pair s x y).entries) ys
      → Keeps (Placed (λ p. K p × AllByRecursion (λ y. HoldsAt p (pair s x y)) ys)) Over (combine_each s x ys st)
  combine_each-placed K s x [] st i hs = record { same = i.same; rows = i.rows; implies = λ p h. (i.implies p h, tt) }
  combine_each-placed K s x (y ∷ ys) st i hs =
      let L : Point → Type 0 = λ p. K p × HoldsAt p (pair s x y) in
      let M : Point → Type 0 = λ p. K p × AllByRecursion (λ z. HoldsAt p (pair s x z)) (y ∷ ys) in
      keeps_on (Placed L) (Placed M) Over (combine s x y st) (λ next. combine_each s x ys next) (combine-placed K s x y st i hs.0)
      (λ next k. Placed-weaker (λ p. L p × AllByRecursion (λ z. HoldsAt p (pair s x z)) ys) M (λ p h. (h.0.0, (h.0.1, h.1))) (combine_each s x ys next) (combine_each-placed L s x ys next k hs.1))

  pub combine_all-placed : (K : Point → Type 0) (s : ℕ) (xs ys : List Numbered) (st : State) → Placed K st → Pairs s xs ys (λ t. IsSound left t.entries)
      → Keeps (Placed (λ p. K p × Pairs s xs ys (HoldsAt p))) Over (combine_all s xs ys st)
  combine_all-placed K s [] ys st i hs = record { same = i.same; rows = i.rows; implies = λ p h. (i.implies p h, tt) }
  combine_all-placed K s (x ∷ xs) ys st i hs =
      let L : Point → Type 0 = λ p. K p × AllByRecursion (λ y. HoldsAt p (pair s x y)) ys in
      let M : Point → Type 0 = λ p. K p × Pairs s (x ∷ xs) ys (HoldsAt p) in
      keeps_on (Placed L) (Placed M) Over (combine_each s x ys st) (λ next. combine_all s xs ys next) (combine_each-placed K s x ys st i hs.0)
      (λ next k. Placed-weaker (λ p. L p × Pairs s xs ys (HoldsAt p)) M (λ p h. (h.0.0, (h.0.1, h.1))) (combine_all s xs ys next) (combine_all-placed L s xs ys next k hs.1))
