-- What the names in the annotations of a function, and of the members of a struct that it is handed, stand for.
use Rattle.std.specs.Prelude.{ℕ, Bool, false, nat_eq, List, [], slice_get, Option, Some, None, is_some, if◌then◌else◌}
use Rattle.std.specs.List.{position}
use Rattle.std.specs.Option.{option_map, option_map_or}
use Rattle.sb_base.specs.declared.interning.Name.{Name}
use Rattle.sb_core.specs.declared.types.Kind.{Kind}
use Rattle.sb_core.specs.declared.types.Kind.TheVariants as kind
use Rattle.sb_core.specs.declared.types.Member.{Member}
use Rattle.sb_core.specs.declared.types.TypeId.{TypeId}
use Rattle.sb_core.specs.declared.program.Param.{Param}
use Rattle.sb_core.specs.Sorts.{is_number}
use Rattle.sb_linear.specs.declared.scope.Inside as declared_inside
use Rattle.sb_linear.specs.declared.scope.Scope as declared_scope

-- the members of the struct that a parameter points to
pub record Inside : Type 0 where
  pub param : ℕ
  pub members : List Member

-- the types, the names and types of the parameters, the type of the result, and in the annotations of a member the
-- struct that it is of
pub record Scope : Type 0 where
  pub types : List Kind
  pub names : List (Option Name)
  pub params : List Param
  pub result : TypeId
  pub inside : Option Inside

abbrev pub meant_inside : declared_inside.Inside → Inside
meant_inside i = record { param = i.param; members = i.members.now }

abbrev pub meant : declared_scope.Scope → Scope
meant s = record {
  types = s.types.now;
  names = s.names.now;
  params = s.params.now;
  result = s.result;
  inside = option_map meant_inside s.inside;
}

-- ---- names

abbrev pub is_named : Name → Option Name → Bool
is_named n m = option_map_or (λ k. nat_eq k.0 n.0) m false

abbrev pub param_named : Scope → Name → Option ℕ
param_named s n = position (is_named n) s.names

abbrev pub member_named : List Member → Name → Option ℕ
member_named members n = position (λ m. nat_eq m.name.0 n.0) members

-- ---- types

abbrev pub param_type : Scope → ℕ → Option TypeId
param_type s k = option_map (λ p. p.type_id) (slice_get s.params k)

abbrev pub member_type : List Member → ℕ → Option TypeId
member_type members k = option_map (λ m. m.type_id) (slice_get members k)

abbrev pub is_number_type : Option TypeId → Bool
is_number_type None = false
is_number_type (Some t) = is_number t

abbrev pub target_of_kind : Option Kind → Option TypeId
target_of_kind None = None
target_of_kind (Some kind.Void) = None
target_of_kind (Some (kind.Number bits signed)) = None
target_of_kind (Some (kind.Pointer t)) = Some t
target_of_kind (Some (kind.Array t count)) = None
target_of_kind (Some (kind.Struct tag members)) = None

-- what a pointer of that type points to
abbrev pub target_type : List Kind → Option TypeId → Option TypeId
target_type types None = None
target_type types (Some t) = target_of_kind (slice_get types t.0)

abbrev pub members_of_kind : Option Kind → List Member
members_of_kind None = []
members_of_kind (Some kind.Void) = []
members_of_kind (Some (kind.Number bits signed)) = []
members_of_kind (Some (kind.Pointer t)) = []
members_of_kind (Some (kind.Array t count)) = []
members_of_kind (Some (kind.Struct tag members)) = members.items

-- the members of a struct; a type that is none, or that is not completed, has none
abbrev pub members_of : List Kind → Option TypeId → List Member
members_of types None = []
members_of types (Some t) = members_of_kind (slice_get types t.0)

abbrev pub is_pointer_type : List Kind → Option TypeId → Bool
is_pointer_type types t = is_some (target_type types t)

abbrev pub if_pointer : Scope → Option ℕ → Option ℕ
if_pointer s None = None
if_pointer s (Some k) = if is_pointer_type s.types (param_type s k) then Some k else None

-- the pointer parameter of a name; in the annotations of a member names are those of members
abbrev pub pointer_named : Scope → Name → Option ℕ
pointer_named s n = if is_some s.inside then None else if_pointer s (param_named s n)
