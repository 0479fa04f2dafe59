-- An expression has one sort, and a number a number type.
use Rattle.std.proofs.Common.{◌≡◌, List, [], true, refl, sym, ◌∙◌, arith, inl, inr}
use Rattle.sb_core.specs.declared.types.Kind.{Kind}
use Rattle.sb_core.specs.declared.types.TypeId.{TypeId}
use Rattle.sb_core.specs.Sorts.{Sort, Numeric, HasSortOf, is_number}
use Rattle.sb_core.specs.Trees.{Number, Null, Local, At, Load, Unary, Binary, Convert, Move, Distance, Compare, Not, And, Or, Choose}
use Rattle.sb_core.specs.Laws.{HasOneSort, HasNumberType, StaysInside}
use Rattle.sb_core.specs.Formed.{IsStatement}
use Rattle.std.specs.List.{Contains}

same_sort : (types : List Kind) (t : TypeId) (a b : Sort) → HasSortOf types t a → HasSortOf types t b → a ≡ b
same_sort types t a b (inl h) (inl k) = h.1 ∙ sym k.1
same_sort types t a b (inl h) (inr k) = absurd (cc)
same_sort types t a b (inr h) (inl k) = absurd (cc)
same_sort types t a b (inr h) (inr k) = h.2 ∙ sym k.2

pub one_sort : HasOneSort
one_sort s (Number z t) a b h k = h.1 ∙ sym k.1
one_sort s Null a b h k = h ∙ sym k
one_sort s (Local local t place) a b h k = same_sort s.types t a b h.1 k.1
one_sort s (At local) a b h k = h.1 ∙ sym k.1
one_sort s (Load e t size place) a b h k = same_sort s.types t a b h.2 k.2
one_sort s (Unary op e t) a b h k = h.2 ∙ sym k.2
one_sort s (Binary op e f t place) a b h k = h.3 ∙ sym k.3
one_sort s (Convert e t) a b h k = h.2 ∙ sym k.2
one_sort s (Move e f unit) a b h k = h.3 ∙ sym k.3
one_sort s (Distance e f unit place) a b h k = h.4 ∙ sym k.4
one_sort s (Compare op e f) a b h k = h.1 ∙ sym k.1
one_sort s (Not e) a b h k = h.1 ∙ sym k.1
one_sort s (And e f) a b h k = h.2 ∙ sym k.2
one_sort s (Or e f) a b h k = h.2 ∙ sym k.2
one_sort s (Choose e f g) a b h k = one_sort s f a b h.1 k.1

number_if : (t u : TypeId) → is_number u ≡ true → Numeric t ≡ Numeric u → is_number t ≡ true
number_if t u h e = let same : t ≡ u = cc in rw same h

number_of_sort : (types : List Kind) (t u : TypeId) → HasSortOf types t (Numeric u) → is_number u ≡ true
number_of_sort types t u (inl h) = number_if u t h.0 h.1
number_of_sort types t u (inr h) = absurd (cc)

pub number_type : HasNumberType
number_type s (Number z t) u h = number_if u t h.0.0 h.1
number_type s Null u h = absurd (cc)
number_type s (Local local t place) u h = number_of_sort s.types t u h.1
number_type s (At local) u h = absurd (cc)
number_type s (Load e t size place) u h = number_of_sort s.types t u h.2
number_type s (Unary op e t) u h = number_if u t h.0 h.2
number_type s (Binary op e f t place) u h = number_if u t h.0 h.3
number_type s (Convert e t) u h = number_if u t h.0 h.2
number_type s (Move e f unit) u h = absurd (cc)
number_type s (Distance e f unit place) u h = number_if u (record { 0 = 11 }) refl h.4
number_type s (Compare op e f) u h = number_if u (record { 0 = 7 }) refl h.1
number_type s (Not e) u h = number_if u (record { 0 = 7 }) refl h.1
number_type s (And e f) u h = number_if u (record { 0 = 7 }) refl h.2
number_type s (Or e f) u h = number_if u (record { 0 = 7 }) refl h.2
number_type s (Choose e f g) u h = number_type s f u h.1

pub stays_inside : StaysInside
unfolding IsStatement
stays_inside s label = (λ h. absurd (cc), λ h. absurd (cc), λ h. nothing h)
  where
    nothing : Contains [] label → ⊥
    nothing h = omega (arith, h.1)
