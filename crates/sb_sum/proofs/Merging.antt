-- The turns of a merge.
use Rattle.std.proofs.Common.{◌≡◌, ◌+◌, ◌<◌, List, [], ◌∷◌, ◌++◌, length, Bool, true, false, ◌&&◌, if◌then◌else◌, ℤ, pos, negsuc, ◌+ℤ◌, ◌*ℤ◌, refl, sym, ap, ◌∙◌, arith}
use Rattle.std.specs.Prelude.{Some, None}
use Rattle.std.proofs.lemmas.Bool.Decides.{nat_tests}
use Rattle.std.proofs.lemmas.List.{append_assoc, append-nil}
use Rattle.sb_core.specs.declared.contract.Atom.{Atom}
use Rattle.sb_sum.specs.Lines.{Line, precedes, is_zero, is_held, held_number, are_held_parts, held_parts, held_line, line_if, with_part, merged, merged_part, times}
use Rattle.sb_sum.specs.Fronts.{first_number, first_atom, left_rest, right_rest, IsMerging, IsScaling}

pub part_append : (c : ℤ) (a : Atom) (ps : List (ℤ × Atom)) → with_part c a [] ++ ps ≡ with_part c a ps
part_append c a ps = by_zero (is_zero c)
  where
    by_zero : (z : Bool) → (if z then [] else (c, a) ∷ []) ++ ps ≡ (if z then ps else (c, a) ∷ ps)
    by_zero true = refl
    by_zero false = refl

pub held_part : (c : ℤ) (a : Atom) (ps : List (ℤ × Atom)) → is_held c ≡ true → are_held_parts (with_part c a ps) ≡ are_held_parts ps
held_part c a ps h = by_zero (is_zero c)
  where
    by_zero : (z : Bool) → are_held_parts (if z then ps else (c, a) ∷ ps) ≡ are_held_parts ps
    by_zero true = refl
    by_zero false = rw h refl

zero_is : (c : ℤ) → is_zero c ≡ true → c ≡ pos 0
zero_is (pos n) h = let z : n ≡ 0 = grind (arith, nat_tests) in ap pos z
zero_is (negsuc n) h = absurd (cc)

pub unheld_part : (c : ℤ) (a : Atom) (ps : List (ℤ × Atom)) → is_held c ≡ false → are_held_parts (with_part c a ps) ≡ false
unheld_part c a ps h = by_zero (is_zero c) refl
  where
    by_zero : (z : Bool) → is_zero c ≡ z → are_held_parts (if z then ps else (c, a) ∷ ps) ≡ false
    by_zero true e = absurd (let held : is_held (pos 0) ≡ true = refl in let unheld : is_held (pos 0) ≡ false = ap is_held (sym (zero_is c e)) ∙ h in cc)
    by_zero false e = ap (λ b. b && are_held_parts ps) h

-- a sum begins with its first part
pub merged_front : (c : ℤ) (left right : List (ℤ × Atom)) → (left ++ right ≡ [] → ⊥)
    → with_part (first_number c left right) (first_atom left right) (merged c (left_rest left right) (right_rest left right)) ≡ merged c left right
merged_front c [] [] some = absurd (some refl)
merged_front c [] (q ∷ qs) some = refl
merged_front c (p ∷ ps) [] some = refl
merged_front c (p ∷ ps) (q ∷ qs) some = by_order (precedes p.1 q.1) (precedes q.1 p.1)
  where
    by_order : (x y : Bool)
        → with_part (if x then p.0 else (if y then c *ℤ q.0 else p.0 +ℤ (c *ℤ q.0))) (if x then p.1 else (if y then q.1 else p.1))
        (merged c (if x then ps else (if y then p ∷ ps else ps)) (if x then q ∷ qs else qs))
        ≡ (if x then with_part p.0 p.1 (merged c ps (q ∷ qs)) else (if y then with_part (c *ℤ q.0) q.1 (merged_part c p (λ rest. merged c ps rest) qs) else with_part (p.0 +ℤ (c *ℤ q.0)) p.1 (merged c ps qs)))
    by_order true y = refl
    by_order false true = refl
    by_order false false = refl

pub merging_begins : (c : ℤ) (xs ys : List (ℤ × Atom)) → IsMerging c xs ys xs ys []
merging_begins c xs ys = record { is = refl; held = refl }

append_held : (ps qs : List (ℤ × Atom)) → are_held_parts ps ≡ true → are_held_parts (ps ++ qs) ≡ are_held_parts qs
append_held [] qs h = refl
append_held (p ∷ ps) qs h = by_first (is_held p.0) h (append_held ps qs)
  where
    by_first : (b : Bool) → (b && are_held_parts ps) ≡ true → (are_held_parts ps ≡ true → are_held_parts (ps ++ qs) ≡ are_held_parts qs)
        → (b && are_held_parts (ps ++ qs)) ≡ are_held_parts qs
    by_first true h' more = more h'
    by_first false h' more = absurd (cc)

pub some_part : (ps qs : List (ℤ × Atom)) → 0 < length ps + length qs → ps ++ qs ≡ [] → ⊥
some_part [] [] some e = omega arith
some_part [] (q ∷ qs) some e = cc
some_part (p ∷ ps) qs some e = cc

-- what is left of two lists is shorter than they are
pub rests_shorter : (ps qs : List (ℤ × Atom)) → 0 < length ps + length qs
    → length (left_rest ps qs) + length (right_rest ps qs) < length ps + length qs
rests_shorter [] [] some = absurd (omega arith)
rests_shorter [] (q ∷ qs) some = omega arith
rests_shorter (p ∷ ps) [] some = omega arith
rests_shorter (p ∷ ps) (q ∷ qs) some = by_order (precedes p.1 q.1) (precedes q.1 p.1)
  where
    by_order : (x y : Bool) → length (if x then ps else (if y then p ∷ ps else ps)) + length (if x then q ∷ qs else qs) < length (p ∷ ps) + length (q ∷ qs)
    by_order true y = omega arith
    by_order false true = omega arith
    by_order false false = omega arith

pub unheld : (z : ℤ) → held_number z ≡ None → is_held z ≡ false
unheld z e = by_test (is_held z) e
  where
    by_test : (b : Bool) → (if b then Some z else None) ≡ None → b ≡ false
    by_test true e' = absurd (cc)
    by_test false e' = refl

pub held_is : (z y : ℤ) → Some y ≡ held_number z → (y ≡ z) × (is_held z ≡ true)
held_is z y e = by_test (is_held z) e
  where
    by_test : (b : Bool) → Some y ≡ (if b then Some z else None) → (y ≡ z) × (b ≡ true)
    by_test true e' = (cc, refl)
    by_test false e' = absurd (cc)

module _ (c : ℤ) (xs ys left right out : List (ℤ × Atom)) (m : IsMerging c xs ys left right out) where
  module _ (some : left ++ right ≡ [] → ⊥) where
    pub merging_on : (z : ℤ) (a : Atom) → z ≡ first_number c left right → a ≡ first_atom left right → is_held z ≡ true
        → IsMerging c xs ys (left_rest left right) (right_rest left right) (out ++ with_part z a [])
    merging_on z a ez ea h = record {
      is =
          append_assoc out (with_part z a []) (merged c (left_rest left right) (right_rest left right))
          ∙ ap (λ zs. out ++ zs) (part_append z a (merged c (left_rest left right) (right_rest left right)) ∙ rw (ez, ea) (merged_front c left right some))
          ∙ m.is;
      held = append_held out (with_part z a []) m.held ∙ held_part z a [] h;
    }

    pub merging_stops : is_held (first_number c left right) ≡ false → held_parts (merged c xs ys) ≡ None
    merging_stops h =
        let front : are_held_parts (merged c left right) ≡ false = ap are_held_parts (sym (merged_front c left right some)) ∙ unheld_part (first_number c left right) (first_atom left right) (merged c (left_rest left right) (right_rest left right)) h in
        let whole : are_held_parts (merged c xs ys) ≡ false = ap are_held_parts (sym m.is) ∙ append_held out (merged c left right) m.held ∙ front in
        rw whole refl

  pub merging_ends : left ++ right ≡ [] → held_parts (merged c xs ys) ≡ Some out
  merging_ends e = by_lists left right e m.is
    where
      by_lists : (l r : List (ℤ × Atom)) → l ++ r ≡ [] → out ++ merged c l r ≡ merged c xs ys → held_parts (merged c xs ys) ≡ Some out
      by_lists [] [] e' is = rw (sym is, append-nil out, m.held) refl
      by_lists [] (q ∷ qs) e' is = absurd (cc)
      by_lists (p ∷ ps) r e' is = absurd (cc)

-- ---- multiples of one list

pub scaling_begins : (c : ℤ) (xs : List (ℤ × Atom)) → IsScaling c xs xs []
scaling_begins c xs = record { is = refl; held = refl }

module _ (c : ℤ) (xs left out : List (ℤ × Atom)) (m : IsScaling c xs left out) where
  module _ (p : ℤ × Atom) (ps : List (ℤ × Atom)) (e : left ≡ p ∷ ps) where
    pub scaling_on : (z : ℤ) → z ≡ c *ℤ p.0 → is_held z ≡ true → IsScaling c xs ps (out ++ with_part z p.1 [])
    scaling_on z ez h = record {
      is =
          append_assoc out (with_part z p.1 []) (times c ps)
          ∙ ap (λ zs. out ++ zs) (part_append z p.1 (times c ps) ∙ ap (λ y. with_part y p.1 (times c ps)) ez ∙ ap (times c) (sym e))
          ∙ m.is;
      held = append_held out (with_part z p.1 []) m.held ∙ held_part z p.1 [] h;
    }

    pub scaling_stops : is_held (c *ℤ p.0) ≡ false → held_parts (times c xs) ≡ None
    scaling_stops h =
        let whole : are_held_parts (times c xs) ≡ false =
        ap are_held_parts (sym m.is) ∙ append_held out (times c left) m.held ∙ ap (λ l. are_held_parts (times c l)) e ∙ unheld_part (c *ℤ p.0) p.1 (times c ps) h in
        rw whole refl

  pub scaling_ends : left ≡ [] → held_parts (times c xs) ≡ Some out
  scaling_ends e =
      let all : out ≡ times c xs = sym (append-nil out) ∙ ap (λ l. out ++ times c l) (sym e) ∙ m.is in
      rw (sym all, m.held) refl

-- ---- whole sums

pub line_held : (l : Line) → line_if (held_parts l.parts) (held_number l.constant) ≡ held_line l
line_held l = by_tests (are_held_parts l.parts) (is_held l.constant)
  where
    by_tests : (x y : Bool) → line_if (if x then Some l.parts else None) (if y then Some l.constant else None) ≡ (if x && y then Some l else None)
    by_tests true true = refl
    by_tests true false = refl
    by_tests false true = refl
    by_tests false false = refl
