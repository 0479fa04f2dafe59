-- What the sums of sizes mean, in the words of arithmetic.
use Rattle.std.specs.Prelude.{◌≡◌, Option, Some, None, ℤ, negsuc, ◌*ℤ◌}
use Rattle.std.specs.Int.{w128, int_bit_not}
use Rattle.sb_core.specs.declared.contract.Atom.{Atom}
use Rattle.sb_core.specs.declared.operator.SizeUnary.{SizeUnary}
use Rattle.sb_core.specs.declared.operator.SizeUnary.TheVariants as unary
use Rattle.sb_core.specs.declared.operator.SizeBinary.{SizeBinary}
use Rattle.sb_core.specs.Trees.{SizeTree, Amount, NullPointer, Identifier, Target, Field, Result, Old, Prefixed, Joined, Other}
use Rattle.sb_linear.specs.declared.moment.Moment.{Moment}
use Rattle.sb_sum.specs.Laws.{IsFormed}
use Rattle.sb_sum.specs.Lines.{Line, is_zero, value_in}
use Rattle.sb_linear.specs.Scopes.{Scope}
use Rattle.sb_linear.specs.Sizes.{Sized, Sum, Unfit, constant_of, linear, truth}

abbrev pub Forms : Type 0
Forms = (s : Scope) (m : Moment) (t : SizeTree) (l : Line) → linear s m t ≡ Sum l → IsFormed l

-- ---- the number of a tree, by the arithmetic of integers

abbrev pub value_if : (Atom → ℤ) → Sized → Option ℤ
value_if v (Unfit number place) = None
value_if v (Sum l) = Some (value_in v l)

abbrev pub prefixed_number : SizeUnary → Option ℤ → Option ℤ
prefixed_number op None = None
prefixed_number unary.Plus (Some a) = Some a
prefixed_number unary.Minus (Some a) = Some (negsuc 0 *ℤ a)
prefixed_number unary.Invert (Some a) = Some (int_bit_not w128 a)
prefixed_number unary.Not (Some a) = Some (truth (is_zero a))

abbrev pub joined_numbers : SizeBinary → Option ℤ → Option ℤ → Option ℤ
joined_numbers op None b = None
joined_numbers op (Some a) None = None
joined_numbers op (Some a) (Some b) = constant_of op a b

-- names, `*n`, `n->f`, `return` and what is `_Old_` have the values of `v`
unfoldable pub number_in : Scope → Moment → (Atom → ℤ) → SizeTree → Option ℤ
number_in s m v (Amount z place) = Some z
number_in s m v (NullPointer place) = None
number_in s m v (Identifier n place) = value_if v (linear s m (Identifier n place))
number_in s m v (Target n name_place place) = value_if v (linear s m (Target n name_place place))
number_in s m v (Field n name_place f field_place place) = value_if v (linear s m (Field n name_place f field_place place))
number_in s m v (Result place) = value_if v (linear s m (Result place))
number_in s m v (Old of place) = value_if v (linear s m (Old of place))
number_in s m v (Prefixed op of place) = prefixed_number op (number_in s m v of)
number_in s m v (Joined op left right place) = joined_numbers op (number_in s m v left) (number_in s m v right)
number_in s m v (Other place) = None

-- the sum that a size stands for has the size's value, whatever the values that it speaks of
abbrev pub KeepsValue : Type 0
KeepsValue = (s : Scope) (m : Moment) (t : SizeTree) (l : Line) → linear s m t ≡ Sum l → (v : Atom → ℤ) → number_in s m v t ≡ Some (value_in v l)
