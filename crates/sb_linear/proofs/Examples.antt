-- Sizes and conditions, and what the definitions make of them.
use Rattle.std.proofs.Common.{◌≡◌, ℕ, ◌+◌, true, false, List, [], ◌∷◌, ◌++◌, ℤ, pos, negsuc, refl}
use Rattle.std.specs.Prelude.{Some, None}
use Rattle.sb_base.specs.declared.interning.Name.{Name}
use Rattle.sb_base.specs.declared.refusals.Place.{Place}
use Rattle.sb_core.specs.declared.contract.Atom.{Atom}
use Rattle.sb_core.specs.declared.contract.Location.{Location}
use Rattle.sb_core.specs.declared.contract.Location.TheVariants as location
use Rattle.sb_core.specs.declared.operator.NumOp.{NumOp}
use Rattle.sb_core.specs.declared.operator.NumOp.TheVariants as num
use Rattle.sb_core.specs.declared.operator.CompareOp.TheVariants as compare
use Rattle.sb_core.specs.declared.operator.SizeUnary.TheVariants as unary
use Rattle.sb_core.specs.declared.operator.SizeBinary.TheVariants as binary
use Rattle.std.specs.declared.alloc.Global.{Global}
use Rattle.std.specs.declared.vec.Vec.{Vec}
use Rattle.sb_core.specs.declared.note.CoreNote.{CoreNote}
use Rattle.sb_core.specs.declared.types.Kind.TheVariants as kind
use Rattle.sb_core.specs.declared.types.Member.{Member}
use Rattle.sb_core.specs.declared.types.TypeId.{TypeId}
use Rattle.sb_core.specs.declared.program.Param.{Param}
use Rattle.sb_core.specs.Beginning.{first_types}
use Rattle.sb_core.specs.Trees.{SizeTree, Amount, NullPointer, Identifier, Target, Field, Result, Old, Prefixed, Joined}
use Rattle.sb_linear.specs.declared.moment.Moment.TheVariants as moment
use Rattle.sb_sum.specs.Lines.{Line, constant_line, single}
use Rattle.sb_linear.specs.Scopes.{Scope}
use Rattle.sb_linear.specs.Sizes.{Sum, Unfit, Order, Presence, Holds, Misjudged, linear, condition, bytes_of, field_of}

-- ---- `int f(int n, int m, int *p)`; each token has a column of its own

abbrev at : ℕ → Place
at column = record { file = 0; line = 1; col = column }

abbrev named : ℕ → Name
named k = record { 0 = k }

abbrev type : ℕ → TypeId
type k = record { 0 = k }

abbrev param : ℕ → Param
param t = record { type_id = type t; const_target = false }

abbrev scope : Scope
scope = record {
  types = first_types ++ (kind.Pointer (type 7) ∷ []);
  names = Some (named 1) ∷ (Some (named 2) ∷ (Some (named 3) ∷ []));
  params = param 7 ∷ (param 7 ∷ (param 13 ∷ []));
  result = type 7;
  inside = None;
}

abbrev n : ℕ → SizeTree
n column = Identifier (named 1) (at column)

abbrev m : ℕ → SizeTree
m column = Identifier (named 2) (at column)

abbrev p : ℕ → SizeTree
p column = Identifier (named 3) (at column)

abbrev zz : ℕ → SizeTree
zz column = Identifier (named 9) (at column)

-- `*p`
abbrev target : ℕ → SizeTree
target column = Target (named 3) (at (column + 1)) (at column)

abbrev number : ℤ → ℕ → SizeTree
number z column = Amount z (at column)

abbrev by : NumOp → (left right : SizeTree) → ℕ → SizeTree
by op left right column = Joined (binary.Num op) left right (at column)

abbrev value : Location → Atom
value at = record { at = at; old = false }

abbrev old_value : Location → Atom
old_value at = record { at = at; old = true }

abbrev line : List (ℤ × Atom) → ℤ → Line
line parts constant = record { parts = parts; constant = constant }

-- ---- sums

-- `n * 2 + n`
adds_up : linear scope moment.AtEntry (by num.Add (by num.Mul (n 1) (number (pos 2) 3) 1) (n 5) 1)
    ≡ Sum (line ((pos 3, value (location.Param 0)) ∷ []) (pos 0))
unfolding linear
adds_up = refl

-- `n - n`
cancels : linear scope moment.AtEntry (by num.Sub (n 1) (n 3) 1) ≡ Sum (constant_line (pos 0))
unfolding linear
cancels = refl

-- `(n - n + 2) * m`: what has no parts is a constant
constant_by_sum : linear scope moment.AtEntry (by num.Mul (by num.Add (by num.Sub (n 2) (n 4) 2) (number (pos 2) 6) 2) (m 9) 1)
    ≡ Sum (line ((pos 2, value (location.Param 1)) ∷ []) (pos 0))
unfolding linear
constant_by_sum = refl

-- `*p + m + n + 1`: parameters stand before what they point to
stands_in_order : linear scope moment.AtEntry (by num.Add (by num.Add (by num.Add (target 1) (m 4) 1) (n 6) 1) (number (pos 1) 8) 1)
    ≡ Sum (line ((pos 1, value (location.Param 0)) ∷ ((pos 1, value (location.Param 1)) ∷ ((pos 1, value (location.Target 2)) ∷ []))) (pos 1))
unfolding linear
stands_in_order = refl

-- `-(n - 3)`
negated : linear scope moment.AtEntry (Prefixed unary.Minus (by num.Sub (n 3) (number (pos 3) 5) 3) (at 1))
    ≡ Sum (line ((negsuc 0, value (location.Param 0)) ∷ []) (pos 3))
unfolding linear
negated = refl

-- `n * m`
not_a_multiple : linear scope moment.AtEntry (by num.Mul (n 1) (m 3) 1) ≡ Unfit 61 (at 1)
unfolding linear
not_a_multiple = refl

-- `(n + m) * zz`: the name is told and not the product
unknown_name : linear scope moment.AtEntry (by num.Mul (by num.Add (n 2) (m 4) 2) (zz 7) 1) ≡ Unfit 62 (at 7)
unfolding linear
unknown_name = refl

-- `zz * p`: of two refusals the first in the text
first_refusal : linear scope moment.AtEntry (by num.Mul (zz 1) (p 3) 1) ≡ Unfit 62 (at 1)
unfolding linear
first_refusal = refl

-- `p`, `*n` and `NULL` are no numbers
pointers : (linear scope moment.AtEntry (p 1) ≡ Unfit 61 (at 1))
    × (linear scope moment.AtEntry (Target (named 1) (at 2) (at 1)) ≡ Unfit 61 (at 1))
    × (linear scope moment.AtEntry (NullPointer (at 1)) ≡ Unfit 61 (at 1))
unfolding linear
pointers = (refl, refl, refl)

-- ---- constants

-- the least number of 128 bits has no negative
least_negated : linear scope moment.AtEntry (Prefixed unary.Minus (number (negsuc 170141183460469231731687303715884105727) 2) (at 1)) ≡ Unfit 61 (at 1)
unfolding linear
least_negated = refl

-- a sum past 128 bits, though what is taken away again would make it fit
past_limit : linear scope moment.AtEntry (by num.Sub (by num.Add (number (pos 170141183460469231731687303715884105727) 1) (number (pos 1) 3) 1) (number (pos 1) 5) 1)
    ≡ Unfit 61 (at 1)
unfolding linear
past_limit = refl

-- `7 / -2`, `-7 % 2`, `7 / 0` and `n / 1`
quotients : (linear scope moment.AtEntry (by num.Div (number (pos 7) 1) (Prefixed unary.Minus (number (pos 2) 4) (at 3)) 1) ≡ Sum (constant_line (negsuc 2)))
    × (linear scope moment.AtEntry (by num.Rem (Prefixed unary.Minus (number (pos 7) 2) (at 1)) (number (pos 2) 4) 1) ≡ Sum (constant_line (negsuc 0)))
    × (linear scope moment.AtEntry (by num.Div (number (pos 7) 1) (number (pos 0) 3) 1) ≡ Unfit 61 (at 1))
    × (linear scope moment.AtEntry (by num.Div (n 1) (number (pos 1) 3) 1) ≡ Unfit 61 (at 1))
unfolding linear
quotients = (refl, refl, refl, refl)

-- `1 << 126`, `1 << 127`, `1 << -1` and `-3 >> 1`
shifts : (linear scope moment.AtEntry (by num.Shl (number (pos 1) 1) (number (pos 126) 3) 1) ≡ Sum (constant_line (pos 85070591730234615865843651857942052864)))
    × (linear scope moment.AtEntry (by num.Shl (number (pos 1) 1) (number (pos 127) 3) 1) ≡ Unfit 61 (at 1))
    × (linear scope moment.AtEntry (by num.Shl (number (pos 1) 1) (number (negsuc 0) 3) 1) ≡ Unfit 61 (at 1))
    × (linear scope moment.AtEntry (by num.Shr (number (negsuc 2) 1) (number (pos 1) 3) 1) ≡ Sum (constant_line (negsuc 1)))
unfolding linear
shifts = (refl, refl, refl, refl)

-- `~5`, `!5`, `!0`, `!n` and `!p`
prefixes : (linear scope moment.AtEntry (Prefixed unary.Invert (number (pos 5) 2) (at 1)) ≡ Sum (constant_line (negsuc 5)))
    × (linear scope moment.AtEntry (Prefixed unary.Not (number (pos 5) 2) (at 1)) ≡ Sum (constant_line (pos 0)))
    × (linear scope moment.AtEntry (Prefixed unary.Not (number (pos 0) 2) (at 1)) ≡ Sum (constant_line (pos 1)))
    × (linear scope moment.AtEntry (Prefixed unary.Not (n 2) (at 1)) ≡ Unfit 61 (at 1))
    × (linear scope moment.AtEntry (Prefixed unary.Not (p 2) (at 1)) ≡ Unfit 61 (at 1))
unfolding linear
prefixes = (refl, refl, refl, refl, refl)

-- ---- moments

-- `*p - _Old_(*p)` at the exit
two_moments : linear scope moment.AtExit (by num.Sub (target 1) (Old (target 9) (at 4)) 1)
    ≡ Sum (line ((pos 1, value (location.Target 2)) ∷ ((negsuc 0, old_value (location.Target 2)) ∷ [])) (pos 0))
unfolding linear
two_moments = refl

-- `_Old_(n)` at the exit is `n`
old_param : linear scope moment.AtExit (Old (n 7) (at 1)) ≡ Sum (single (value (location.Param 0)))
unfolding linear
old_param = refl

-- `*p`, and `_Old_(*p)`, of a region at the entry
taken_at_entry : (linear scope moment.TakenAtEntry (target 1) ≡ Sum (single (old_value (location.Target 2))))
    × (linear scope moment.TakenAtEntry (Old (target 7) (at 1)) ≡ Sum (single (old_value (location.Target 2))))
unfolding linear
taken_at_entry = (refl, refl)

-- `_Old_(n)` and `return` in a clause of the entry; `_Old_(n + m)` stands around no value
not_at_entry : (linear scope moment.AtEntry (Old (n 7) (at 1)) ≡ Unfit 65 (at 1))
    × (linear scope moment.AtEntry (Result (at 1)) ≡ Unfit 65 (at 1))
    × (linear scope moment.AtEntry (Old (by num.Add (n 7) (m 9) 7) (at 1)) ≡ Unfit 61 (at 1))
    × (linear scope moment.AtExit (Old (by num.Add (n 7) (m 9) 7) (at 1)) ≡ Unfit 61 (at 1))
unfolding linear
not_at_entry = (refl, refl, refl, refl)

-- ---- conditions

-- `p`, `p == NULL`, `NULL != p`; `p == 0` and `p < NULL` compare no numbers
presences : (condition scope moment.AtEntry (p 1) ≡ Holds (Presence 2 true ∷ []))
    × (condition scope moment.AtEntry (Joined (binary.Compare compare.Equal) (p 1) (NullPointer (at 3)) (at 1)) ≡ Holds (Presence 2 false ∷ []))
    × (condition scope moment.AtEntry (Joined (binary.Compare compare.NotEqual) (NullPointer (at 1)) (p 3) (at 1)) ≡ Holds (Presence 2 true ∷ []))
    × (condition scope moment.AtEntry (Joined (binary.Compare compare.Equal) (p 1) (number (pos 0) 3) (at 1)) ≡ Misjudged 61 (at 1))
    × (condition scope moment.AtEntry (Joined (binary.Compare compare.Less) (p 1) (NullPointer (at 3)) (at 1)) ≡ Misjudged 61 (at 1))
unfolding linear condition
presences = (refl, refl, refl, refl, refl)

-- `n && m >= 2`
both_asked : condition scope moment.AtEntry (Joined binary.And (n 1) (Joined (binary.Compare compare.AtLeast) (m 3) (number (pos 2) 5) (at 3)) (at 1))
    ≡ Holds (Order compare.NotEqual (single (value (location.Param 0))) (constant_line (pos 0))
    ∷ (Order compare.AtLeast (single (value (location.Param 1))) (constant_line (pos 2)) ∷ []))
unfolding linear condition
both_asked = refl

-- `n || m`
no_disjunction : condition scope moment.AtEntry (Joined binary.Or (n 1) (m 3) (at 1)) ≡ Misjudged 61 (at 1)
unfolding linear condition
no_disjunction = refl

-- ---- sizes in bytes: `n + 1` elements of 4 bytes

in_bytes : bytes_of scope moment.AtEntry 4 (by num.Add (n 1) (number (pos 1) 3) 1)
    ≡ Sum (line ((pos 4, value (location.Param 0)) ∷ []) (pos 4))
unfolding linear
in_bytes = refl

-- ---- `struct { int len; int *data; }`

module _ (notes : Vec CoreNote Global) where
  abbrev len : Member
  len = record { name = named 4; type_id = type 7; notes = notes }

  abbrev data_pointer : Member
  data_pointer = record { name = named 5; type_id = type 13; notes = notes }

  abbrev members : List Member
  members = len ∷ (data_pointer ∷ [])

  -- `q->len`, `q->data` and `q->zz`, where `q` is parameter 3, and `n->len`
  fields : (field_of 3 members moment.AtEntry (named 4) (at 4) (at 1) ≡ Sum (single (value (location.Field 3 0))))
      × (field_of 3 members moment.AtEntry (named 5) (at 4) (at 1) ≡ Unfit 61 (at 1))
      × (field_of 3 members moment.AtEntry (named 9) (at 4) (at 1) ≡ Unfit 62 (at 4))
      × (linear scope moment.AtEntry (Field (named 1) (at 1) (named 4) (at 4) (at 1)) ≡ Unfit 61 (at 1))
  unfolding linear
  fields = (refl, refl, refl, refl)

  abbrev inside : Scope
  inside = record scope { inside = Some (record { param = 3; members = members }) }

  -- in the annotations of a member: `len`, `n` and `data`
  names_of_members : (linear inside moment.AtEntry (Identifier (named 4) (at 1)) ≡ Sum (single (value (location.Field 3 0))))
      × (linear inside moment.AtEntry (n 1) ≡ Unfit 62 (at 1))
      × (condition inside moment.AtEntry (Identifier (named 5) (at 1)) ≡ Misjudged 61 (at 1))
  unfolding linear condition
  names_of_members = (refl, refl, refl)
