-- Macros, and a table of them.
use Rattle.std.specs.Prelude.{◌≡◌, ℕ, Bool, not, List, [], ◌∷◌, ◌++◌, Option, Some, None, if◌then◌else◌, is_some, nat_eq, find, filter, position, option_and_then}
use Rattle.std.specs.List.{list_any}
use Rattle.std.specs.Prelude.{Vec}
use Rattle.std.specs.declared.alloc.Global.{Global}
use Rattle.sb_base.specs.declared.interning.Name.{Name}
use Rattle.sb_macro.specs.declared.stored.Part.{Part}
use Rattle.sb_macro.specs.declared.stored.Stored.{Stored}

-- a macro: its name, the parameters of a function-like one, and its replacement list (C99 6.10.3)
pub record Macro : Type 0 where
  pub name : Name
  pub params : Option (List Name)
  pub body : List Part

abbrev pub params_of : Option (Vec Name Global) → Option (List Name)
params_of (Some params) = Some params.items
params_of None = None

abbrev pub macro_of : Stored → Macro
macro_of m = record { name = m.name; params = params_of m.params; body = m.body.items }

abbrev pub same_name : Name → Name → Bool
same_name a b = nat_eq a.0 b.0

-- whether a name is one of these
abbrev pub holds : List Name → Name → Bool
holds names name = list_any (λ other. same_name other name) names

-- the number of the parameter of this name
abbrev pub param_of : Option (List Name) → Name → Option ℕ
param_of params name = option_and_then (position (λ param. same_name param name)) params

-- the macro of this name
abbrev pub macro_named : List Macro → Name → Option Macro
macro_named table name = find (λ m. same_name m.name name) table

-- the table once this macro is defined: an identical definition changes nothing (C99 6.10.3 paragraph 2)
abbrev pub with_macro : List Macro → Macro → List Macro
with_macro table m = if is_some (macro_named table m.name) then table else table ++ m ∷ []

-- the table once the name is no macro (C99 6.10.5)
abbrev pub without : List Macro → Name → List Macro
without table name = filter (λ m. not (same_name m.name name)) table

-- no name has two macros
abbrev pub IsDistinct : List Macro → Type 0
IsDistinct [] = Unit {0}
IsDistinct (m ∷ table) = (macro_named table m.name ≡ None) × IsDistinct table
