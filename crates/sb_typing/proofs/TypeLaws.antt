-- The laws of compatible types and of operands.
use Rattle.std.proofs.Common.{◌≡◌, ℕ, zero, suc, ◌<◌, ◌≤◌, Bool, true, false, nat_eq, List, length, Option, Some, None, slice_get, refl, sym, ap, ◌∙◌, arith}
use Rattle.std.specs.Prelude.{◌||◌, if◌then◌else◌}
use Rattle.std.proofs.lemmas.Bool.Decides.{nat_tests}
use Rattle.std.proofs.lemmas.Option.{slice_get_within}
use Rattle.sb_core.specs.declared.types.Kind.{Kind}
use Rattle.sb_core.specs.declared.types.Kind.TheVariants as kind
use Rattle.sb_core.specs.declared.types.TypeId.{TypeId}
use Rattle.sb_core.specs.declared.operator.NumOp.TheVariants.{Add, Sub, Mul, Div, Rem, Shl, Shr, And, Xor, Or}
use Rattle.sb_typing.specs.Classes.{lengths_agree, parts_of_kinds, parts_of, parts_are, compatible_down}
use Rattle.sb_typing.specs.TypeLaws.{WithItself, BothWays, IsBehind, IsOrdered, ByParts, TakesNumbers, AssignsPointer, AssignsNumber}
use Rattle.sb_typing.proofs.Depths.{same_down}

pub with_itself : WithItself
with_itself types t = same_down (length types) types t t refl

-- ---- both ways

agree_swapped : (m n : ℕ) → lengths_agree m n ≡ lengths_agree n m
agree_swapped m n = grind (arith, nat_tests)

test_swapped : (m n : ℕ) → nat_eq m n ≡ nat_eq n m
test_swapped m n = grind (arith, nat_tests)

arrays_swapped : (f : TypeId → TypeId → Bool) → ((a b : TypeId) → f a b ≡ f b a) → (a b : TypeId) (x y : Bool) → x ≡ y
    → parts_are f (if x then Some (a, b) else None) ≡ parts_are f (if y then Some (b, a) else None)
arrays_swapped f h a b true true e = h a b
arrays_swapped f h a b false false e = refl
arrays_swapped f h a b true false e = absurd (cc)
arrays_swapped f h a b false true e = absurd (cc)

-- neither a pointer nor an array
abbrev IsBlank : Option Kind → Type 0
IsBlank (Some (kind.Pointer t)) = ⊥
IsBlank (Some (kind.Array t count)) = ⊥
IsBlank k = Unit {0}

blank : (f : TypeId → TypeId → Bool) (l k : Option Kind) → IsBlank k → parts_are f (parts_of_kinds l k) ≡ false
blank f (Some (kind.Pointer a)) (Some (kind.Pointer b)) h = absurd h
blank f (Some (kind.Array a m)) (Some (kind.Array b n)) h = absurd h
blank f l k h = refl

kinds_swapped : (f : TypeId → TypeId → Bool) → ((a b : TypeId) → f a b ≡ f b a) → (k l : Option Kind)
    → parts_are f (parts_of_kinds k l) ≡ parts_are f (parts_of_kinds l k)
kinds_swapped f h (Some (kind.Pointer a)) (Some (kind.Pointer b)) = h a b
kinds_swapped f h (Some (kind.Array a m)) (Some (kind.Array b n)) = arrays_swapped f h a b (lengths_agree m n) (lengths_agree n m) (agree_swapped m n)
kinds_swapped f h None l = sym (blank f l None tt)
kinds_swapped f h (Some kind.Void) l = sym (blank f l (Some kind.Void) tt)
kinds_swapped f h (Some (kind.Number bits signed)) l = sym (blank f l (Some (kind.Number bits signed)) tt)
kinds_swapped f h (Some (kind.Struct tag members)) l = sym (blank f l (Some (kind.Struct tag members)) tt)
kinds_swapped f h k l = refl

down_swapped : (n : ℕ) (types : List Kind) (t u : TypeId) → compatible_down n types t u ≡ compatible_down n types u t
unfolding compatible_down
down_swapped zero types t u = test_swapped t.0 u.0
down_swapped (suc n) types t u =
    ap (λ b. if b then true else parts_are (compatible_down n types) (parts_of types t u)) (test_swapped t.0 u.0)
    ∙ ap (λ b. if nat_eq u.0 t.0 then true else b)
    (kinds_swapped (compatible_down n types) (down_swapped n types) (slice_get types t.0) (slice_get types u.0))

pub both_ways : BothWays
both_ways types t u = down_swapped (length types) types t u

-- ---- by parts

first_of : (p q : TypeId × TypeId) → Some p ≡ Some q → p.0 ≡ q.0
first_of p q e = let same : p ≡ q = cc in ap (λ (r : TypeId × TypeId). r.0) same

along : (n : ℕ) (c a : TypeId) → c ≡ a → c.0 < n → a.0 < n
along n c a e h = rw (← e) h

array_before : (n : ℕ) (c d a b : TypeId) (x : Bool) → c.0 < n → (if◌then◌else◌ {A = Option (TypeId × TypeId)} x (Some (c, d)) None) ≡ Some (a, b) → a.0 < n
array_before n c d a b true h e = along n c a (first_of (c, d) (a, b) e) h
array_before n c d a b false h e = absurd (cc)

-- the first of two parts stands before the first type
part_before : (n : ℕ) (k l : Option Kind) (a b : TypeId) → IsBehind n k → parts_of_kinds k l ≡ Some (a, b) → a.0 < n
part_before n (Some (kind.Pointer c)) (Some (kind.Pointer d)) a b h e = along n c a (first_of (c, d) (a, b) e) h
part_before n (Some (kind.Array c i)) (Some (kind.Array d j)) a b h e = array_before n c d a b (lengths_agree i j) h e
part_before n k l a b h e = absurd (cc)

-- a type of which there are parts is one of the table
in_table_by : (types : List Kind) (t : TypeId) (k l : Option Kind) (p : TypeId × TypeId) → slice_get types t.0 ≡ k → parts_of_kinds k l ≡ Some p → t.0 < length types
in_table_by types t None l p h e = absurd (cc)
in_table_by types t (Some x) l p h e = slice_get_within types t.0 x h

in_table : (types : List Kind) (t u a b : TypeId) → parts_of types t u ≡ Some (a, b) → t.0 < length types
in_table types t u a b e = in_table_by types t (slice_get types t.0) (slice_get types u.0) (a, b) refl e

-- where all parts are compared alike, so are the types
alike : (f g : TypeId → TypeId → Bool) (p : Option (TypeId × TypeId)) → ((a b : TypeId) → p ≡ Some (a, b) → f a b ≡ g a b) → parts_are f p ≡ parts_are g p
alike f g None h = refl
alike f g (Some (a, b)) h = h a b refl

no_parts_first : (types : List Kind) → IsOrdered types → (f : TypeId → TypeId → Bool) (t u : TypeId) → t.0 ≡ 0 → parts_are f (parts_of types t u) ≡ false
no_parts_first types o f t u h = alike f (λ _ _. false) (parts_of types t u)
    (λ a b e. absurd (omega (arith, part_before t.0 (slice_get types t.0) (slice_get types u.0) a b (o t.0) e)))
    ∙ none (parts_of types t u)
  where
    none : (p : Option (TypeId × TypeId)) → parts_are (λ _ _. false) p ≡ false
    none None = refl
    none (Some (a, b)) = refl

or_false : (b c : Bool) → c ≡ false → b ≡ (if b then true else c)
or_false true c h = refl
or_false false c h = sym h

-- the depth from the first type's number on makes no difference
enough : (types : List Kind) → IsOrdered types → (n k : ℕ) (t u : TypeId) → t.0 ≤ n → t.0 ≤ k → compatible_down n types t u ≡ compatible_down k types t u
unfolding compatible_down
enough types o zero zero t u h l = refl
enough types o zero (suc k) t u h l = or_false (nat_eq t.0 u.0) _ (no_parts_first types o (compatible_down k types) t u (omega arith))
enough types o (suc n) zero t u h l = sym (or_false (nat_eq t.0 u.0) _ (no_parts_first types o (compatible_down n types) t u (omega arith)))
enough types o (suc n) (suc k) t u h l =
    ap (λ b. if nat_eq t.0 u.0 then true else b) (alike (compatible_down n types) (compatible_down k types) (parts_of types t u) (λ a b e.
    let before : a.0 < t.0 = part_before t.0 (slice_get types t.0) (slice_get types u.0) a b (o t.0) e in
    enough types o n k a b (omega arith) (omega arith)))

or_if : (b c : Bool) → (if b then true else c) ≡ b || c
or_if true c = refl
or_if false c = refl

by_depth : (types : List Kind) → IsOrdered types → (n : ℕ) → n ≡ length types → (t u : TypeId)
    → compatible_down n types t u ≡ nat_eq t.0 u.0 || parts_are (compatible_down n types) (parts_of types t u)
unfolding compatible_down
by_depth types o zero e t u =
    or_false (nat_eq t.0 u.0) (parts_are (compatible_down zero types) (parts_of types t u))
    (alike (compatible_down zero types) (λ _ _. false) (parts_of types t u) (λ a b h. absurd (omega (arith, in_table types t u a b h))) ∙ none (parts_of types t u))
    ∙ or_if (nat_eq t.0 u.0) (parts_are (compatible_down zero types) (parts_of types t u))
  where
    none : (p : Option (TypeId × TypeId)) → parts_are (λ _ _. false) p ≡ false
    none None = refl
    none (Some (a, b)) = refl
by_depth types o (suc n) e t u =
    ap (λ b. if nat_eq t.0 u.0 then true else b) (alike (compatible_down n types) (compatible_down (suc n) types) (parts_of types t u) (λ a b h.
    let before : a.0 < t.0 = part_before t.0 (slice_get types t.0) (slice_get types u.0) a b (o t.0) h in
    let within : t.0 < length types = in_table types t u a b h in
    enough types o n (suc n) a b (omega arith) (omega arith)))
    ∙ or_if (nat_eq t.0 u.0) (parts_are (compatible_down (suc n) types) (parts_of types t u))

pub by_parts : ByParts
by_parts types o t u = by_depth types o (length types) refl t u

-- ---- operators

pub takes_numbers : TakesNumbers
takes_numbers types Add t u h k = rw (h, k) (λ _. refl, λ e. absurd (cc))
takes_numbers types Sub t u h k = rw (h, k) (λ _. refl, λ e. absurd (cc))
takes_numbers types Mul t u h k = rw (h, k) (λ _. refl, λ e. absurd (cc))
takes_numbers types Div t u h k = rw (h, k) (λ _. refl, λ e. absurd (cc))
takes_numbers types Rem t u h k = rw (h, k) (λ _. refl, λ e. absurd (cc))
takes_numbers types Shl t u h k = rw (h, k) (λ e. absurd (cc), λ _. refl)
takes_numbers types Shr t u h k = rw (h, k) (λ e. absurd (cc), λ _. refl)
takes_numbers types And t u h k = rw (h, k) (λ _. refl, λ e. absurd (cc))
takes_numbers types Xor t u h k = rw (h, k) (λ _. refl, λ e. absurd (cc))
takes_numbers types Or t u h k = rw (h, k) (λ _. refl, λ e. absurd (cc))

pub assigns_pointer : AssignsPointer
assigns_pointer types t a null h = rw h (rw (with_itself types a) refl)

same_test : (n : ℕ) → nat_eq n n ≡ true
same_test n = grind (arith, nat_tests)

pub assigns_number : AssignsNumber
assigns_number types t null h = rw h (rw (same_test t.0) refl)
