-- The order of parts: each value has a place of its own in it, and it is one order.
use Rattle.std.proofs.Common.{◌≡◌, ◌<◌, ◌⊎◌, ◌||◌, ◌&&◌, ℕ, Bool, true, false, nat_lt, nat_eq, if◌then◌else◌, List, [], ◌∷◌, ℤ, pos, ◌+ℤ◌, ◌*ℤ◌, inl, inr, refl, sym, ap, ◌∙◌, subst, arith}
use Rattle.std.proofs.lemmas.Bool.Decides.{nat_tests}
use Rattle.sb_core.specs.declared.contract.Atom.{Atom}
use Rattle.sb_core.specs.declared.contract.Location.{Location}
use Rattle.sb_core.specs.declared.contract.Location.TheVariants as location
use Rattle.sb_sum.specs.Lines.{rank_of, parameter_of, member_of, is_less, key, precedes, IsBefore, AreOrdered, is_zero, with_part, times, merged, merged_part}
use Rattle.sb_sum.specs.Laws.{HaveNoZero}

-- ---- lists of numbers

differs : (x y : ℕ) (b : Bool) → (nat_lt x y || (nat_eq x y && b)) ≡ true → (x < y) ⊎ (x ≡ y) × (b ≡ true)
differs x y b h = grind (arith, nat_tests)

less_first : (x y : ℕ) (b : Bool) → x < y → (nat_lt x y || (nat_eq x y && b)) ≡ true
less_first x y b h = grind (arith, nat_tests)

less_later : (x y : ℕ) (b : Bool) → x ≡ y → b ≡ true → (nat_lt x y || (nat_eq x y && b)) ≡ true
less_later x y b h k = grind (arith, nat_tests)

less_further : (xs ys zs : List ℕ) → is_less xs ys ≡ true → is_less ys zs ≡ true → is_less xs zs ≡ true
less_further [] ys zs h k = absurd (cc)
less_further (x ∷ xs) [] zs h k = absurd (cc)
less_further (x ∷ xs) (y ∷ ys) [] h k = absurd (cc)
less_further (x ∷ xs) (y ∷ ys) (z ∷ zs) h k =
    by_first (differs x y (is_less xs ys) h) (differs y z (is_less ys zs) k) (λ l m. less_further xs ys zs l m)
  where
    by_first : (x < y) ⊎ (x ≡ y) × (is_less xs ys ≡ true) → (y < z) ⊎ (y ≡ z) × (is_less ys zs ≡ true)
        → (is_less xs ys ≡ true → is_less ys zs ≡ true → is_less xs zs ≡ true) → is_less (x ∷ xs) (z ∷ zs) ≡ true
    by_first (inl a) (inl b) more = less_first x z (is_less xs zs) (omega arith)
    by_first (inl a) (inr b) more = less_first x z (is_less xs zs) (let e = b.0 in omega arith)
    by_first (inr a) (inl b) more = less_first x z (is_less xs zs) (let e = a.0 in omega arith)
    by_first (inr a) (inr b) more = less_later x z (is_less xs zs) (a.0 ∙ b.0) (more a.1 b.1)

-- neither number is less, and neither rest
neither : (x y : ℕ) (a b : Bool) → (nat_lt x y || (nat_eq x y && a)) ≡ false → (nat_lt y x || (nat_eq y x && b)) ≡ false
    → (x ≡ y) × (a ≡ false) × (b ≡ false)
neither x y a b h k =
    let same : x ≡ y = grind (arith, nat_tests) in
    (same, grind (arith, nat_tests), grind (arith, nat_tests))

-- ---- values

at_one_place : (x y : Location) → rank_of x ≡ rank_of y → parameter_of x ≡ parameter_of y → member_of x ≡ member_of y → x ≡ y
at_one_place (location.Param i) (location.Param k) r p m = ap location.Param p
at_one_place (location.Param i) (location.Target k) r p m = absurd (omega arith)
at_one_place (location.Param i) (location.Field k l) r p m = absurd (omega arith)
at_one_place (location.Param i) location.Result r p m = absurd (omega arith)
at_one_place (location.Target i) (location.Param k) r p m = absurd (omega arith)
at_one_place (location.Target i) (location.Target k) r p m = ap location.Target p
at_one_place (location.Target i) (location.Field k l) r p m = absurd (omega arith)
at_one_place (location.Target i) location.Result r p m = absurd (omega arith)
at_one_place (location.Field i j) (location.Param k) r p m = absurd (omega arith)
at_one_place (location.Field i j) (location.Target k) r p m = absurd (omega arith)
at_one_place (location.Field i j) (location.Field k l) r p m = rw (p, m) refl
at_one_place (location.Field i j) location.Result r p m = absurd (omega arith)
at_one_place location.Result (location.Param k) r p m = absurd (omega arith)
at_one_place location.Result (location.Target k) r p m = absurd (omega arith)
at_one_place location.Result (location.Field k l) r p m = absurd (omega arith)
at_one_place location.Result location.Result r p m = refl

abbrev old_number : Bool → ℕ
old_number old = if old then 1 else 0

both_old : (x y : Bool) → old_number x ≡ old_number y → x ≡ y
both_old true true e = refl
both_old true false e = absurd (omega arith)
both_old false true e = absurd (omega arith)
both_old false false e = refl

abbrev atom_of : Location → Bool → Atom
atom_of at old = record { at = at; old = old }

-- of two values neither of which stands before the other
pub same_value : (a b : Atom) → precedes a b ≡ false → precedes b a ≡ false → a ≡ b
same_value a b h k =
    let first = neither (rank_of a.at) (rank_of b.at) _ _ h k in
    let second = neither (parameter_of a.at) (parameter_of b.at) _ _ first.1 first.2 in
    let third = neither (member_of a.at) (member_of b.at) _ _ second.1 second.2 in
    let fourth = neither (old_number a.old) (old_number b.old) _ _ third.1 third.2 in
    ap (λ at. atom_of at a.old) (at_one_place a.at b.at first.0 second.0 third.0) ∙ ap (atom_of b.at) (both_old a.old b.old fourth.0)

pub before_next : (a b c : Atom) → precedes a b ≡ true → precedes b c ≡ true → precedes a c ≡ true
before_next a b c h k = less_further (key a) (key b) (key c) h k

-- ---- lists of parts, of which each is behind a value

abbrev pub BehindAll : Atom → List (ℤ × Atom) → Type 0
BehindAll a [] = Unit {0}
BehindAll a (p ∷ ps) = (precedes a p.1 ≡ true) × BehindAll a ps

pub behind_earlier : (a b : Atom) (ps : List (ℤ × Atom)) → precedes a b ≡ true → BehindAll b ps → BehindAll a ps
behind_earlier a b [] h k = tt
behind_earlier a b (p ∷ ps) h k = (before_next a b p.1 h k.0, behind_earlier a b ps h k.1)

pub behind_all : (a : Atom) (ps : List (ℤ × Atom)) → IsBefore a ps → AreOrdered ps → BehindAll a ps
behind_all a [] h o = tt
behind_all a (p ∷ ps) h o = (h, behind_earlier a p.1 ps h (behind_all p.1 ps o.0 o.1))

behind_first : (a : Atom) (ps : List (ℤ × Atom)) → BehindAll a ps → IsBefore a ps
behind_first a [] h = tt
behind_first a (p ∷ ps) h = h.0

behind_part : (a : Atom) (c : ℤ) (b : Atom) (ps : List (ℤ × Atom)) → precedes a b ≡ true → BehindAll a ps → BehindAll a (with_part c b ps)
behind_part a c b ps h k = by_zero (is_zero c)
  where
    by_zero : (z : Bool) → BehindAll a (if z then ps else (c, b) ∷ ps)
    by_zero true = k
    by_zero false = (h, k)

ordered_part : (c : ℤ) (a : Atom) (ps : List (ℤ × Atom)) → BehindAll a ps → AreOrdered ps → AreOrdered (with_part c a ps)
ordered_part c a ps h o = by_zero (is_zero c)
  where
    by_zero : (z : Bool) → AreOrdered (if z then ps else (c, a) ∷ ps)
    by_zero true = o
    by_zero false = (behind_first a ps h, o)

-- ---- multiples and sums

behind_times : (a : Atom) (c : ℤ) (ps : List (ℤ × Atom)) → BehindAll a ps → BehindAll a (times c ps)
behind_times a c [] h = tt
behind_times a c (p ∷ ps) h = behind_part a (c *ℤ p.0) p.1 (times c ps) h.0 (behind_times a c ps h.1)

pub ordered_times : (c : ℤ) (ps : List (ℤ × Atom)) → AreOrdered ps → AreOrdered (times c ps)
ordered_times c [] o = tt
ordered_times c (p ∷ ps) o = ordered_part (c *ℤ p.0) p.1 (times c ps) (behind_times p.1 c ps (behind_all p.1 ps o.0 o.1)) (ordered_times c ps o.1)

behind_step : (a : Atom) (c : ℤ) (p : ℤ × Atom) (more : List (ℤ × Atom) → List (ℤ × Atom))
    → ((rest : List (ℤ × Atom)) → BehindAll a rest → BehindAll a (more rest))
    → (qs : List (ℤ × Atom)) → precedes a p.1 ≡ true → BehindAll a qs → BehindAll a (merged_part c p more qs)
behind_step a c p more m [] h k = behind_part a p.0 p.1 (more []) h (m [] tt)
behind_step a c p more m (q ∷ qs) h k = by_order (precedes p.1 q.1) (precedes q.1 p.1) (behind_step a c p more m qs h k.1)
  where
    by_order : (x y : Bool) → BehindAll a (merged_part c p more qs)
        → BehindAll a (if x then with_part p.0 p.1 (more (q ∷ qs)) else (if y then with_part (c *ℤ q.0) q.1 (merged_part c p more qs) else with_part (p.0 +ℤ (c *ℤ q.0)) p.1 (more qs)))
    by_order true y rest = behind_part a p.0 p.1 (more (q ∷ qs)) h (m (q ∷ qs) k)
    by_order false true rest = behind_part a (c *ℤ q.0) q.1 (merged_part c p more qs) k.0 rest
    by_order false false rest = behind_part a (p.0 +ℤ (c *ℤ q.0)) p.1 (more qs) h (m qs k.1)

behind_merged : (a : Atom) (c : ℤ) (ps qs : List (ℤ × Atom)) → BehindAll a ps → BehindAll a qs → BehindAll a (merged c ps qs)
behind_merged a c [] qs h k = behind_times a c qs k
behind_merged a c (p ∷ ps) qs h k = behind_step a c p (λ rest. merged c ps rest) (λ rest r. behind_merged a c ps rest h.1 r) qs h.0 k

ordered_step : (c : ℤ) (p : ℤ × Atom) (ps : List (ℤ × Atom)) → BehindAll p.1 ps
    → ((rest : List (ℤ × Atom)) → AreOrdered rest → AreOrdered (merged c ps rest))
    → (qs : List (ℤ × Atom)) → AreOrdered qs → AreOrdered (merged c (p ∷ ps) qs)
ordered_step c p ps h m [] o = ordered_part p.0 p.1 (merged c ps []) (behind_merged p.1 c ps [] h tt) (m [] tt)
ordered_step c p ps h m (q ∷ qs) o =
    by_order (precedes p.1 q.1) (precedes q.1 p.1) refl refl (behind_all q.1 qs o.0 o.1) (ordered_step c p ps h m qs o.1)
  where
    by_order : (x y : Bool) → precedes p.1 q.1 ≡ x → precedes q.1 p.1 ≡ y → BehindAll q.1 qs → AreOrdered (merged c (p ∷ ps) qs)
        → AreOrdered (if x then with_part p.0 p.1 (merged c ps (q ∷ qs)) else (if y then with_part (c *ℤ q.0) q.1 (merged c (p ∷ ps) qs) else with_part (p.0 +ℤ (c *ℤ q.0)) p.1 (merged c ps qs)))
    by_order true y e f k rest =
        ordered_part p.0 p.1 (merged c ps (q ∷ qs)) (behind_merged p.1 c ps (q ∷ qs) h (e, behind_earlier p.1 q.1 qs e k)) (m (q ∷ qs) o)
    by_order false true e f k rest =
        ordered_part (c *ℤ q.0) q.1 (merged c (p ∷ ps) qs) (behind_merged q.1 c (p ∷ ps) qs (f, behind_earlier q.1 p.1 ps f h) k) rest
    by_order false false e f k rest =
        ordered_part (p.0 +ℤ (c *ℤ q.0)) p.1 (merged c ps qs)
        (behind_merged p.1 c ps qs h (subst (λ a. BehindAll a qs) (sym (same_value p.1 q.1 e f)) k)) (m qs o.1)

pub ordered_merged : (c : ℤ) (ps qs : List (ℤ × Atom)) → AreOrdered ps → AreOrdered qs → AreOrdered (merged c ps qs)
ordered_merged c [] qs o r = ordered_times c qs r
ordered_merged c (p ∷ ps) qs o r = ordered_step c p ps (behind_all p.1 ps o.0 o.1) (λ rest k. ordered_merged c ps rest o.1 k) qs r

-- ---- no part is zero times a value

not_zero : (c : ℤ) → is_zero c ≡ false → c ≡ pos 0 → ⊥
not_zero c h e = let zero : is_zero c ≡ true = ap is_zero e in absurd (cc)

some_part : (c : ℤ) (a : Atom) (ps : List (ℤ × Atom)) → HaveNoZero ps → HaveNoZero (with_part c a ps)
some_part c a ps h = by_zero (is_zero c) refl
  where
    by_zero : (z : Bool) → is_zero c ≡ z → HaveNoZero (if z then ps else (c, a) ∷ ps)
    by_zero true e = h
    by_zero false e = (not_zero c e, h)

pub some_times : (c : ℤ) (ps : List (ℤ × Atom)) → HaveNoZero (times c ps)
some_times c [] = tt
some_times c (p ∷ ps) = some_part (c *ℤ p.0) p.1 (times c ps) (some_times c ps)

some_step : (c : ℤ) (p : ℤ × Atom) (more : List (ℤ × Atom) → List (ℤ × Atom)) → ((rest : List (ℤ × Atom)) → HaveNoZero (more rest))
    → (qs : List (ℤ × Atom)) → HaveNoZero (merged_part c p more qs)
some_step c p more m [] = some_part p.0 p.1 (more []) (m [])
some_step c p more m (q ∷ qs) = by_order (precedes p.1 q.1) (precedes q.1 p.1) (some_step c p more m qs)
  where
    by_order : (x y : Bool) → HaveNoZero (merged_part c p more qs)
        → HaveNoZero (if x then with_part p.0 p.1 (more (q ∷ qs)) else (if y then with_part (c *ℤ q.0) q.1 (merged_part c p more qs) else with_part (p.0 +ℤ (c *ℤ q.0)) p.1 (more qs)))
    by_order true y rest = some_part p.0 p.1 (more (q ∷ qs)) (m (q ∷ qs))
    by_order false true rest = some_part (c *ℤ q.0) q.1 (merged_part c p more qs) rest
    by_order false false rest = some_part (p.0 +ℤ (c *ℤ q.0)) p.1 (more qs) (m qs)

pub some_merged : (c : ℤ) (ps qs : List (ℤ × Atom)) → HaveNoZero (merged c ps qs)
some_merged c [] qs = some_times c qs
some_merged c (p ∷ ps) qs = some_step c p (λ rest. merged c ps rest) (λ rest. some_merged c ps rest) qs
