-- Which types are compatible, one part down.
use Rattle.std.proofs.Common.{◌≡◌, ℕ, zero, suc, ◌+◌, ◌-◌, ◌<◌, true, false, nat_eq, List, Option, refl, ap, ◌∙◌, arith}
use Rattle.std.proofs.lemmas.Bool.Decides.{nat_tests}
use Rattle.sb_core.specs.declared.types.Kind.{Kind}
use Rattle.sb_core.specs.declared.types.TypeId.{TypeId}
use Rattle.sb_typing.specs.Classes.{parts_of, parts_are, compatible_down}

equal_test : (m n : ℕ) → m ≡ n → nat_eq m n ≡ true
equal_test m n h = grind (arith, nat_tests)

other_test : (m n : ℕ) → (m ≡ n → ⊥) → nat_eq m n ≡ false
other_test m n h = grind (arith, nat_tests)

pub same_down : (n : ℕ) (types : List Kind) (t u : TypeId) → t.0 ≡ u.0 → compatible_down n types t u ≡ true
unfolding compatible_down
same_down zero types t u h = equal_test t.0 u.0 h
same_down (suc n) types t u h = rw (equal_test t.0 u.0 h) refl

step_down : (n : ℕ) (types : List Kind) (t u : TypeId) → (t.0 ≡ u.0 → ⊥) → compatible_down (suc n) types t u ≡ parts_are (compatible_down n types) (parts_of types t u)
unfolding compatible_down
step_down n types t u h = rw (other_test t.0 u.0 h) refl

-- what is left of the depth at a turn is one more than at the next
next_depth : (n i : ℕ) → i < n → n - i ≡ suc (n - (i + 1))
next_depth n i h = omega arith

pub turn_down : (n i : ℕ) (types : List Kind) (t u : TypeId) (p : Option (TypeId × TypeId)) → i < n → (t.0 ≡ u.0 → ⊥) → parts_of types t u ≡ p
    → compatible_down (n - i) types t u ≡ parts_are (compatible_down (n - (i + 1)) types) p
turn_down n i types t u p l h e =
    ap (λ k. compatible_down k types t u) (next_depth n i l) ∙ step_down (n - (i + 1)) types t u h
    ∙ ap (parts_are (compatible_down (n - (i + 1)) types)) e

pub end_down : (n : ℕ) (types : List Kind) (t u : TypeId) → n ≡ 0 → compatible_down n types t u ≡ nat_eq t.0 u.0
unfolding compatible_down
end_down n types t u h = rw h refl
