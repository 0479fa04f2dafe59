-- What sums mean, in the words of arithmetic.
use Rattle.std.specs.Prelude.{◌≡◌, ◌≢◌, true, List, [], ◌∷◌, ℤ, pos, ◌+ℤ◌, ◌*ℤ◌}
use Rattle.sb_core.specs.declared.contract.Atom.{Atom}
use Rattle.sb_sum.specs.Lines.{Line, AreOrdered, are_held, merged, sum_in}

-- a merged list comes to the sum of both
abbrev pub Adds : Type 0
Adds = (v : Atom → ℤ) (c : ℤ) (ps qs : List (ℤ × Atom)) → sum_in v (merged c ps qs) ≡ sum_in v ps +ℤ (c *ℤ sum_in v qs)

abbrev pub HaveNoZero : List (ℤ × Atom) → Type 0
HaveNoZero [] = Unit {0}
HaveNoZero (p ∷ ps) = (p.0 ≢ pos 0) × HaveNoZero ps

-- each value stands once, in order and not zero times, and numbers have 128 bits
pub record IsFormed (l : Line) : Type 0 where
  pub ordered : AreOrdered l.parts
  pub no_zero : HaveNoZero l.parts
  pub narrow : are_held l ≡ true
