-- Sizes and conditions in annotations (SAL 2.0): which trees are linear, and the sums that they stand for. Where several
-- parts are none, the first in the text is refused.
use Rattle.std.specs.Prelude.{ℕ, ◌^◌, Bool, true, false, not, ◌&&◌, ◌||◌, if◌then◌else◌, List, [], ◌∷◌, ◌++◌, Option, Some, None, ℤ, pos, negsuc, neg_ℤ, ◌+ℤ◌, ◌-ℤ◌, ◌*ℤ◌, int_lt, int_div, int_rem, unsigned_abs}
use Rattle.std.specs.Int.{w128, int_bit_and, int_bit_or, int_bit_xor, int_bit_not, int_shr}
use Rattle.std.specs.Option.{option_map}
use Rattle.sb_base.specs.declared.interning.Name.{Name}
use Rattle.sb_base.specs.declared.refusals.Place.{Place}
use Rattle.sb_core.specs.declared.contract.Location.{Location}
use Rattle.sb_core.specs.declared.contract.Location.TheVariants as location
use Rattle.sb_core.specs.declared.operator.NumOp.{NumOp}
use Rattle.sb_core.specs.declared.operator.NumOp.TheVariants as num
use Rattle.sb_core.specs.declared.operator.CompareOp.{CompareOp}
use Rattle.sb_core.specs.declared.operator.CompareOp.TheVariants as compare
use Rattle.sb_core.specs.declared.operator.SizeUnary.{SizeUnary}
use Rattle.sb_core.specs.declared.operator.SizeUnary.TheVariants as unary
use Rattle.sb_core.specs.declared.operator.SizeBinary.{SizeBinary}
use Rattle.sb_core.specs.declared.operator.SizeBinary.TheVariants as binary
use Rattle.sb_core.specs.declared.types.Member.{Member}
use Rattle.sb_core.specs.declared.types.TypeId.{TypeId}
use Rattle.sb_core.specs.Trees.{SizeTree, Amount, NullPointer, Identifier, Target, Field, Result, Old, Prefixed, Joined, Other}
use Rattle.sb_linear.specs.declared.moment.Moment.{Moment}
use Rattle.sb_linear.specs.declared.moment.Moment.TheVariants as moment
use Rattle.sb_sum.specs.Lines.{Line, constant_line, single, is_constant, is_zero, combined, scaled, held_number, held_line}
use Rattle.sb_linear.specs.Scopes.{Scope, Inside, param_named, member_named, param_type, member_type, is_number_type, target_type, members_of, pointer_named}

-- the numbers of refusals: no sum of multiples, a name that is none here, a value of the exit in a clause of the entry
abbrev pub not_linear : ℕ
not_linear = 61

abbrev pub no_such_place : ℕ
no_such_place = 62

abbrev pub exit_at_entry : ℕ
exit_at_entry = 65

pub data Sized : Type 0 where
  Sum : Line → Sized
  Unfit : (number : ℕ) → Place → Sized

abbrev pub sum_or : Place → Option Line → Sized
sum_or place None = Unfit not_linear place
sum_or place (Some l) = Sum l

abbrev pub held_line_if : Option Line → Option Line
held_line_if None = None
held_line_if (Some l) = held_line l

-- a sum whose numbers have 128 bits
abbrev pub held : Place → Option Line → Sized
held place o = sum_or place (held_line_if o)

-- ---- values

-- where `*p` and fields are taken at entry, they are the old ones; a parameter's name means its value at entry anyway
abbrev pub is_old : Moment → Location → Bool
is_old moment.AtEntry at = false
is_old moment.AtExit at = false
is_old moment.TakenAtEntry (location.Param i) = false
is_old moment.TakenAtEntry (location.Target i) = true
is_old moment.TakenAtEntry (location.Field i j) = true
is_old moment.TakenAtEntry location.Result = false

-- the value of a location of that type, which has to be a number
abbrev pub value_at : Moment → Location → Option TypeId → Place → Sized
value_at m at t place =
    if is_number_type t then Sum (single (record { at = at; old = is_old m at })) else Unfit not_linear place

-- `n` of a parameter
abbrev pub param_value : Scope → Moment → Option ℕ → Place → Sized
param_value s m None place = Unfit no_such_place place
param_value s m (Some k) place = value_at m (location.Param k) (param_type s k) place

-- `n` of a member, in the annotations of another member
abbrev pub member_value : Inside → Moment → Option ℕ → Place → Sized
member_value i m None place = Unfit no_such_place place
member_value i m (Some k) place = value_at m (location.Field i.param k) (member_type i.members k) place

abbrev pub name_value : Option Inside → Scope → Moment → Name → Place → Sized
name_value None s m n place = param_value s m (param_named s n) place
name_value (Some i) s m n place = member_value i m (member_named i.members n) place

-- `*n`: what no parameter points to has no location
abbrev pub target_of_param : Scope → Moment → Option ℕ → (name_place place : Place) → Sized
target_of_param s m None name_place place = Unfit no_such_place name_place
target_of_param s m (Some k) name_place place = value_at m (location.Target k) (target_type s.types (param_type s k)) place

abbrev pub target_of_member : Option ℕ → (name_place place : Place) → Sized
target_of_member None name_place place = Unfit no_such_place name_place
target_of_member (Some k) name_place place = Unfit not_linear place

abbrev pub target_value : Option Inside → Scope → Moment → Name → (name_place place : Place) → Sized
target_value None s m n name_place place = target_of_param s m (param_named s n) name_place place
target_value (Some i) s m n name_place place = target_of_member (member_named i.members n) name_place place

-- `n->f`: a pointer to no struct with members has no fields
abbrev pub field_among : (param : ℕ) → List Member → Moment → Option ℕ → (field_place place : Place) → Sized
field_among k [] m j field_place place = Unfit not_linear place
field_among k (first ∷ more) m None field_place place = Unfit no_such_place field_place
field_among k (first ∷ more) m (Some j) field_place place = value_at m (location.Field k j) (member_type (first ∷ more) j) place

abbrev pub field_of : (param : ℕ) → List Member → Moment → Name → (field_place place : Place) → Sized
field_of k members m f field_place place = field_among k members m (member_named members f) field_place place

abbrev pub field_of_param : Scope → Moment → Option ℕ → Name → (name_place field_place place : Place) → Sized
field_of_param s m None f name_place field_place place = Unfit no_such_place name_place
field_of_param s m (Some k) f name_place field_place place = field_of k (members_of s.types (target_type s.types (param_type s k))) m f field_place place

abbrev pub field_value : Option Inside → Scope → Moment → (n f : Name) → (name_place field_place place : Place) → Sized
field_value None s m n f name_place field_place place = field_of_param s m (param_named s n) f name_place field_place place
field_value (Some i) s m n f name_place field_place place = target_of_member (member_named i.members n) name_place place

-- `return`: no entry clause speaks of it
abbrev pub result_value : Scope → Moment → Place → Sized
result_value s moment.AtEntry place = if is_number_type (Some s.result) then Unfit exit_at_entry place else Unfit not_linear place
result_value s moment.AtExit place = value_at moment.AtExit location.Result (Some s.result) place
result_value s moment.TakenAtEntry place = value_at moment.TakenAtEntry location.Result (Some s.result) place

-- `_Old_` stands around a parameter, `*p` or a field
abbrev pub may_be_old : SizeTree → Bool
may_be_old (Amount z place) = false
may_be_old (NullPointer place) = false
may_be_old (Identifier n place) = true
may_be_old (Target n name_place place) = true
may_be_old (Field n name_place f field_place place) = true
may_be_old (Result place) = false
may_be_old (Old of place) = false
may_be_old (Prefixed op of place) = false
may_be_old (Joined op left right place) = false
may_be_old (Other place) = false

-- no entry clause has it, and in another one it gives the value at entry
abbrev pub old_value : Moment → SizeTree → Place → Sized → Sized
old_value moment.AtEntry t place of = if may_be_old t then Unfit exit_at_entry place else Unfit not_linear place
old_value moment.AtExit t place of = if may_be_old t then of else Unfit not_linear place
old_value moment.TakenAtEntry t place of = if may_be_old t then of else Unfit not_linear place

-- ---- operators: sums, differences, multiples by a constant, and all others between constants

abbrev pub truth : Bool → ℤ
truth holds = if holds then pos 1 else pos 0

abbrev pub only_if : Bool → ℤ → Option ℤ
only_if there z = if there then Some z else None

abbrev pub least : ℤ
least = neg_ℤ (pos (2 ^ 127))

-- the least number of 128 bits has no quotient by -1
abbrev pub has_quotient : ℤ → ℤ → Bool
has_quotient a b = not (is_zero b) && (int_lt least a || (int_lt b (negsuc 0) || int_lt (negsuc 0) b))

-- by 0 to 126 bits
abbrev pub is_count : ℤ → Bool
is_count b = not (int_lt b (pos 0)) && int_lt b (pos 127)

abbrev pub number_of : NumOp → ℤ → ℤ → Option ℤ
number_of num.Add a b = Some (a +ℤ b)
number_of num.Sub a b = Some (a -ℤ b)
number_of num.Mul a b = Some (a *ℤ b)
number_of num.Div a b = only_if (has_quotient a b) (int_div a b)
number_of num.Rem a b = only_if (has_quotient a b) (int_rem a b)
number_of num.Shl a b = only_if (is_count b) (a *ℤ pos (2 ^ unsigned_abs b))
number_of num.Shr a b = only_if (is_count b) (int_shr a (unsigned_abs b))
number_of num.And a b = Some (int_bit_and w128 a b)
number_of num.Xor a b = Some (int_bit_xor w128 a b)
number_of num.Or a b = Some (int_bit_or w128 a b)

abbrev pub compares : CompareOp → ℤ → ℤ → Bool
compares compare.Less a b = int_lt a b
compares compare.AtMost a b = not (int_lt b a)
compares compare.Greater a b = int_lt b a
compares compare.AtLeast a b = not (int_lt a b)
compares compare.Equal a b = not (int_lt a b || int_lt b a)
compares compare.NotEqual a b = int_lt a b || int_lt b a

abbrev pub constant_of : SizeBinary → ℤ → ℤ → Option ℤ
constant_of (binary.Num op) a b = number_of op a b
constant_of (binary.Compare op) a b = Some (truth (compares op a b))
constant_of binary.And a b = Some (truth (not (is_zero a) && not (is_zero b)))
constant_of binary.Or a b = Some (truth (not (is_zero a) || not (is_zero b)))

abbrev pub between_constants : SizeBinary → Line → Line → Option Line
between_constants op l r = if is_constant l && is_constant r then option_map constant_line (constant_of op l.constant r.constant) else None

abbrev pub product : Line → Line → Option Line
product l r = if is_constant l then Some (scaled l.constant r) else if is_constant r then Some (scaled r.constant l) else None

abbrev pub joined_number : NumOp → Line → Line → Option Line
joined_number num.Add l r = Some (combined l (pos 1) r)
joined_number num.Sub l r = Some (combined l (negsuc 0) r)
joined_number num.Mul l r = product l r
joined_number num.Div l r = between_constants (binary.Num num.Div) l r
joined_number num.Rem l r = between_constants (binary.Num num.Rem) l r
joined_number num.Shl l r = between_constants (binary.Num num.Shl) l r
joined_number num.Shr l r = between_constants (binary.Num num.Shr) l r
joined_number num.And l r = between_constants (binary.Num num.And) l r
joined_number num.Xor l r = between_constants (binary.Num num.Xor) l r
joined_number num.Or l r = between_constants (binary.Num num.Or) l r

abbrev pub joined_lines : SizeBinary → Line → Line → Option Line
joined_lines (binary.Num op) l r = joined_number op l r
joined_lines (binary.Compare op) l r = between_constants (binary.Compare op) l r
joined_lines binary.And l r = between_constants binary.And l r
joined_lines binary.Or l r = between_constants binary.Or l r

abbrev pub prefixed_sum : SizeUnary → Place → Line → Sized
prefixed_sum unary.Plus place l = Sum l
prefixed_sum unary.Minus place l = held place (Some (scaled (negsuc 0) l))
prefixed_sum unary.Invert place l = if is_constant l then held place (Some (constant_line (int_bit_not w128 l.constant))) else Unfit not_linear place
prefixed_sum unary.Not place l = if is_constant l then held place (Some (constant_line (truth (is_zero l.constant)))) else Unfit not_linear place

abbrev pub prefixed : SizeUnary → Place → Sized → Sized
prefixed op place (Unfit number at) = Unfit number at
prefixed op place (Sum l) = prefixed_sum op place l

abbrev pub joined : SizeBinary → Place → (left right : Sized) → Sized
joined op place (Unfit number at) right = Unfit number at
joined op place (Sum l) (Unfit number at) = Unfit number at
joined op place (Sum l) (Sum r) = held place (joined_lines op l r)

-- ---- sizes

-- the pointer parameter that a tree names
abbrev pub pointer_in : Scope → SizeTree → Option ℕ
pointer_in s (Identifier n place) = pointer_named s n
pointer_in s _ = None

-- `!p` of a pointer parameter is refused as a whole, as `p` alone may be a condition
abbrev pub prefixed_tree : Option ℕ → SizeUnary → Place → Sized → Sized
prefixed_tree None op place of = prefixed op place of
prefixed_tree (Some k) unary.Plus place of = prefixed unary.Plus place of
prefixed_tree (Some k) unary.Minus place of = prefixed unary.Minus place of
prefixed_tree (Some k) unary.Invert place of = prefixed unary.Invert place of
prefixed_tree (Some k) unary.Not place of = Unfit not_linear place

-- the sum that a size stands for at a moment
unfoldable pub linear : Scope → Moment → SizeTree → Sized
linear s m (Amount z place) = held place (Some (constant_line z))
linear s m (NullPointer place) = Unfit not_linear place
linear s m (Identifier n place) = name_value s.inside s m n place
linear s m (Target n name_place place) = target_value s.inside s m n name_place place
linear s m (Field n name_place f field_place place) = field_value s.inside s m n f name_place field_place place
linear s m (Result place) = result_value s m place
linear s m (Old of place) = old_value m of place (linear s moment.TakenAtEntry of)
linear s m (Prefixed op of place) = prefixed_tree (pointer_in s of) op place (linear s m of)
linear s m (Joined op left right place) = joined op place (linear s m left) (linear s m right)
linear s m (Other place) = Unfit not_linear place

-- ---- conditions

pub data Comparison : Type 0 where
  Order : CompareOp → (left right : Line) → Comparison
  -- whether a pointer parameter is not null, or null
  Presence : (param : ℕ) → (holds : Bool) → Comparison

pub data Judged : Type 0 where
  Holds : List Comparison → Judged
  Misjudged : (number : ℕ) → Place → Judged

-- a size alone is compared with 0
abbrev pub nonzero : Sized → Judged
nonzero (Unfit number at) = Misjudged number at
nonzero (Sum l) = Holds (Order compare.NotEqual l (constant_line (pos 0)) ∷ [])

abbrev pub ordered : CompareOp → (left right : Sized) → Judged
ordered op (Unfit number at) right = Misjudged number at
ordered op (Sum l) (Unfit number at) = Misjudged number at
ordered op (Sum l) (Sum r) = Holds (Order op l r ∷ [])

abbrev pub both : (left right : Judged) → Judged
both (Misjudged number at) right = Misjudged number at
both (Holds l) (Misjudged number at) = Misjudged number at
both (Holds l) (Holds r) = Holds (l ++ r)

abbrev pub is_null : SizeTree → Bool
is_null (NullPointer place) = true
is_null _ = false

-- `==` and `!=` say of a pointer that is compared with null whether it is present
abbrev pub says_present : CompareOp → Option Bool
says_present compare.Less = None
says_present compare.AtMost = None
says_present compare.Greater = None
says_present compare.AtLeast = None
says_present compare.Equal = Some false
says_present compare.NotEqual = Some true

abbrev pub presence : Option ℕ → Option Bool → Option Comparison
presence None says = None
presence (Some k) None = None
presence (Some k) (Some holds) = Some (Presence k holds)

-- a pointer parameter on one side, and null on the other
abbrev pub null_compared : Scope → CompareOp → (left right : SizeTree) → Option Comparison
null_compared s op left right =
    if is_null right then presence (pointer_in s left) (says_present op)
    else if is_null left then presence (pointer_in s right) (says_present op)
    else None

abbrev pub one_or : Option Comparison → Judged → Judged
one_or None other = other
one_or (Some c) other = Holds (c ∷ [])

-- what a condition asks for at a moment: each of these comparisons
unfoldable pub condition : Scope → Moment → SizeTree → Judged
condition s m (Amount z place) = nonzero (linear s m (Amount z place))
condition s m (NullPointer place) = Misjudged not_linear place
condition s m (Identifier n place) = one_or (presence (pointer_named s n) (Some true)) (nonzero (linear s m (Identifier n place)))
condition s m (Target n name_place place) = nonzero (linear s m (Target n name_place place))
condition s m (Field n name_place f field_place place) = nonzero (linear s m (Field n name_place f field_place place))
condition s m (Result place) = nonzero (linear s m (Result place))
condition s m (Old of place) = nonzero (linear s m (Old of place))
condition s m (Prefixed op of place) = nonzero (linear s m (Prefixed op of place))
condition s m (Joined (binary.Num op) left right place) = nonzero (linear s m (Joined (binary.Num op) left right place))
condition s m (Joined (binary.Compare op) left right place) = one_or (null_compared s op left right) (ordered op (linear s m left) (linear s m right))
condition s m (Joined binary.And left right place) = both (condition s m left) (condition s m right)
condition s m (Joined binary.Or left right place) = nonzero (linear s m (Joined binary.Or left right place))
condition s m (Other place) = Misjudged not_linear place

-- ---- sizes in bytes

-- the first token of a tree
abbrev pub place_of : SizeTree → Place
place_of (Amount z place) = place
place_of (NullPointer place) = place
place_of (Identifier n place) = place
place_of (Target n name_place place) = place
place_of (Field n name_place f field_place place) = place
place_of (Result place) = place
place_of (Old of place) = place
place_of (Prefixed op of place) = place
place_of (Joined op left right place) = place
place_of (Other place) = place

abbrev pub in_units : (unit : ℕ) → Place → Sized → Sized
in_units unit place (Unfit number at) = Unfit number at
in_units unit place (Sum l) = held place (Some (scaled (pos unit) l))

-- so many elements of `unit` bytes
abbrev pub bytes_of : Scope → Moment → (unit : ℕ) → SizeTree → Sized
bytes_of s m unit t = in_units unit (place_of t) (linear s m t)

-- ---- what has 128 bits

abbrev pub held_if : Option ℤ → Option ℤ
held_if None = None
held_if (Some z) = held_number z
