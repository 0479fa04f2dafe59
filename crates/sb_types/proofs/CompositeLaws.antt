-- The laws of composite types, and the examples.
use Rattle.std.proofs.Common.{◌≡◌, ℕ, Bool, true, false, nat_eq, List, Some, None, slice_get, refl, ap, ◌∙◌, arith}
use Rattle.std.specs.Prelude.{◌||◌, if◌then◌else◌}
use Rattle.std.proofs.lemmas.Bool.Decides.{nat_tests}
use Rattle.sb_core.specs.declared.types.Kind.{Kind}
use Rattle.sb_core.specs.declared.types.Kind.TheVariants as kind
use Rattle.sb_core.specs.declared.types.TypeId.{TypeId}
use Rattle.sb_typing.specs.Classes.{lengths_agree, parts_of_kinds, parts_of, parts_are, compatible}
use Rattle.sb_typing.specs.TypeLaws.{IsOrdered}
use Rattle.sb_typing.proofs.TypeLaws.{with_itself, both_ways, by_parts}
use Rattle.sb_typing.proofs.Depths.{same_down}
use Rattle.sb_types.specs.Composite.{known_length, IsComposite, of_one, of_pointers, of_arrays}
use Rattle.sb_types.specs.CompositeLaws.{WithBoth, Examples, types_by_hand}

-- ---- compatible with both

agree_first : (m n : ℕ) → lengths_agree m n ≡ true → lengths_agree m (known_length m n) ≡ true
agree_first m n h = grind (arith, nat_tests)

agree_second : (m n : ℕ) → lengths_agree m n ≡ true → lengths_agree n (known_length m n) ≡ true
agree_second m n h = grind (arith, nat_tests)

or_true : (b c : Bool) → c ≡ true → b || c ≡ true
or_true true c h = refl
or_true false c h = h

pub along_pointers : (types : List Kind) → IsOrdered types → (t p a c : TypeId) → slice_get types t.0 ≡ Some (kind.Pointer a) → slice_get types p.0 ≡ Some (kind.Pointer c)
    → compatible types a c ≡ true → compatible types t p ≡ true
along_pointers types o t p a c e f h =
    by_parts types o t p
    ∙ or_true (nat_eq t.0 p.0) (parts_are (compatible types) (parts_of types t p))
    (ap (λ k. parts_are (compatible types) (parts_of_kinds k (slice_get types p.0))) e
    ∙ ap (λ k. parts_are (compatible types) (parts_of_kinds (Some (kind.Pointer a)) k)) f ∙ h)

chosen_parts : (f : TypeId → TypeId → Bool) (a c : TypeId) (x : Bool) → x ≡ true → f a c ≡ true → parts_are f (if x then Some (a, c) else None) ≡ true
chosen_parts f a c true e h = h
chosen_parts f a c false e h = absurd (cc)

pub along_arrays : (types : List Kind) → IsOrdered types → (t p a c : TypeId) (m n : ℕ) → slice_get types t.0 ≡ Some (kind.Array a m)
    → slice_get types p.0 ≡ Some (kind.Array c n) → lengths_agree m n ≡ true → compatible types a c ≡ true → compatible types t p ≡ true
along_arrays types o t p a c m n e f agree h =
    by_parts types o t p
    ∙ or_true (nat_eq t.0 p.0) (parts_are (compatible types) (parts_of types t p))
    (ap (λ k. parts_are (compatible types) (parts_of_kinds k (slice_get types p.0))) e
    ∙ ap (λ k. parts_are (compatible types) (parts_of_kinds (Some (kind.Array a m)) k)) f
    ∙ chosen_parts (compatible types) a c (lengths_agree m n) agree h)

pub with_both : WithBoth
with_both types o _ _ _ (of_one t u e) = (with_itself types t, both_ways types u t ∙ same_down _ types t u e)
with_both types o _ _ _ (of_pointers t u p a b c e f g h) =
    let below = with_both types o a b c h in
    (along_pointers types o t p a c e g below.0, along_pointers types o u p b c f g below.1)
with_both types o _ _ _ (of_arrays t u p a b c m n e f g agree h) =
    let below = with_both types o a b c h in (
      along_arrays types o t p a c m (known_length m n) e g (agree_first m n agree) below.0,
      along_arrays types o u p b c n (known_length m n) f g (agree_second m n agree) below.1,
    )

-- ---- by hand

abbrev at : ℕ → TypeId
at n = record { 0 = n }

inner : IsComposite types_by_hand (at 3) (at 4) (at 4)
inner =
    of_pointers (at 3) (at 4) (at 4) (at 1) (at 2) (at 2) refl refl refl
    (of_arrays (at 1) (at 2) (at 2) (at 0) (at 0) (at 0) 0 3 refl refl refl refl (of_one (at 0) (at 0) refl))

pub examples : Examples
examples = record {
  unknown_first = inner;
  unknown_second =
      of_pointers (at 4) (at 3) (at 4) (at 2) (at 1) (at 2) refl refl refl
      (of_arrays (at 2) (at 1) (at 2) (at 0) (at 0) (at 0) 3 0 refl refl refl refl (of_one (at 0) (at 0) refl));
  of_unknown = of_one (at 3) (at 3) refl;
  of_each = of_arrays (at 5) (at 6) (at 7) (at 3) (at 4) (at 4) 2 0 refl refl refl refl inner;
}
