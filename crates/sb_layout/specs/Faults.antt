-- What is small enough for a layout, and what a fault says.
use Rattle.std.specs.Prelude.{◌≡◌, ℕ, ◌<◌, ◌≤◌, List, length, Option, Some, None, Result, Ok, Err, is_some, true}
use Rattle.std.specs.List.{All}
use Rattle.sb_core.specs.declared.layout.Base.{Base}
use Rattle.sb_core.specs.declared.types.Kind.{Kind}
use Rattle.sb_core.specs.Layout.{base_at, known_of}
use Rattle.sb_layout.specs.declared.faults.Fault.{Fault}
use Rattle.sb_layout.specs.declared.faults.Fault.TheVariants.{TooBig, Memory}

-- a type has less than 2^31 bytes, and its alignment is that of a number or a pointer
pub record IsSmall (b : Base) : Type 0 where
  pub size : b.size < 2147483648
  pub positive : 0 < b.align
  pub most : b.align ≤ 32

abbrev pub IsSmallIf : Option Base → Type 0
IsSmallIf None = Unit {0}
IsSmallIf (Some b) = IsSmall b

abbrev pub size_if : Option Base → ℕ
size_if None = 0
size_if (Some b) = b.size

-- where the fault is a type that is too big, this is true
abbrev pub IfTooBig : Type 0 → Fault → Type 0
IfTooBig P TooBig = P
IfTooBig P Memory = Unit {0}

abbrev pub WhereTooBig : {A : Type 0} → Type 0 → Result A Fault → Type 0
WhereTooBig P (Ok a) = Unit {0}
WhereTooBig P (Err e) = IfTooBig P e

-- some type of the table has 2^31 bytes or more
pub record IsTooBig (types : List Kind) : Type 0 where
  pub t : ℕ
  pub big : 2147483648 ≤ size_if (base_at (known_of types) t)

-- what is known is so too in what is known later
abbrev pub Extends : List (Option Base) → List (Option Base) → Type 0
Extends known later = (t : ℕ) (b : Base) → base_at known t ≡ Some b → base_at later t ≡ Some b

-- what has a base keeps one
abbrev pub Grows : List (Option Base) → List (Option Base) → Type 0
Grows before now = (t : ℕ) → is_some (base_at before t) ≡ true → is_some (base_at now t) ≡ true

-- a part of what is known of a table
pub record IsPart (types : List Kind) (known : List (Option Base)) : Type 0 where
  pub extends : Extends known (known_of types)
  pub small : All IsSmallIf known
  pub same_length : length known ≡ length types
