-- The first part of a sum of two lists of parts, and what is left of them.
use Rattle.std.specs.Prelude.{◌≡◌, true, false, if◌then◌else◌, List, [], ◌∷◌, ◌++◌, ℤ, pos, ◌+ℤ◌, ◌*ℤ◌}
use Rattle.sb_core.specs.declared.contract.Atom.{Atom}
use Rattle.sb_core.specs.declared.contract.Location.TheVariants as location
use Rattle.sb_sum.specs.Lines.{precedes, merged, times, are_held_parts}

abbrev pub first_number : ℤ → (ps qs : List (ℤ × Atom)) → ℤ
first_number c [] [] = pos 0
first_number c [] (q ∷ qs) = c *ℤ q.0
first_number c (p ∷ ps) [] = p.0
first_number c (p ∷ ps) (q ∷ qs) = if precedes p.1 q.1 then p.0 else (if precedes q.1 p.1 then c *ℤ q.0 else p.0 +ℤ (c *ℤ q.0))

abbrev pub first_atom : (ps qs : List (ℤ × Atom)) → Atom
first_atom [] [] = record { at = location.Result; old = false }
first_atom [] (q ∷ qs) = q.1
first_atom (p ∷ ps) [] = p.1
first_atom (p ∷ ps) (q ∷ qs) = if precedes p.1 q.1 then p.1 else (if precedes q.1 p.1 then q.1 else p.1)

abbrev pub left_rest : (ps qs : List (ℤ × Atom)) → List (ℤ × Atom)
left_rest [] qs = []
left_rest (p ∷ ps) [] = ps
left_rest (p ∷ ps) (q ∷ qs) = if precedes p.1 q.1 then ps else (if precedes q.1 p.1 then p ∷ ps else ps)

abbrev pub right_rest : (ps qs : List (ℤ × Atom)) → List (ℤ × Atom)
right_rest [] [] = []
right_rest [] (q ∷ qs) = qs
right_rest (p ∷ ps) [] = []
right_rest (p ∷ ps) (q ∷ qs) = if precedes p.1 q.1 then q ∷ qs else qs

-- a sum of which `out` is made, and the rest is that of two lists
pub record IsMerging (c : ℤ) (xs ys left right out : List (ℤ × Atom)) : Type 0 where
  pub is : out ++ merged c left right ≡ merged c xs ys
  pub held : are_held_parts out ≡ true

-- multiples of which `out` is made, and the rest are those of a list
pub record IsScaling (c : ℤ) (xs left out : List (ℤ × Atom)) : Type 0 where
  pub is : out ++ times c left ≡ times c xs
  pub held : are_held_parts out ≡ true
