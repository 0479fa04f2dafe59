-- Which statements, functions and cores are well formed (C99 6.8, 6.9).
use Rattle.std.specs.Prelude.{◌≡◌, ℕ, ◌+◌, ◌<◌, ◌≤◌, ℤ, Bool, true, false, List, [], ◌∷◌, ◌++◌, length, slice_get, Option, Some, None, map, take, Vec}
use Rattle.std.specs.List.{All, Contains}
use Rattle.std.specs.declared.alloc.Global.{Global}
use Rattle.sb_base.specs.declared.interning.Name.{Name}
use Rattle.sb_core.specs.declared.types.Kind.{Kind}
use Rattle.sb_core.specs.declared.types.Kind.TheVariants as kind
use Rattle.sb_core.specs.declared.types.TypeId.{TypeId}
use Rattle.sb_core.specs.declared.program.Core.{Core}
use Rattle.sb_core.specs.declared.program.Function.{Function}
use Rattle.sb_core.specs.declared.program.Holds.{Holds}
use Rattle.sb_core.specs.declared.program.Holds.TheVariants as holds
use Rattle.sb_core.specs.declared.program.Param.{Param}
use Rattle.sb_core.specs.declared.program.Slot.{Slot}
use Rattle.sb_core.specs.declared.program.Table.{Table}
use Rattle.sb_core.specs.declared.statement.CoreStmt.{CoreStmt}
use Rattle.sb_core.specs.Beginning.{first_types}
use Rattle.sb_core.specs.Labels.{section_labels, labels_of_block, labels_of, IsBlock, IsEachOnce}
use Rattle.sb_core.specs.Layout.{Layouts, layout_of, IsFounded}
use Rattle.sb_core.specs.Looked.{base_in}
use Rattle.sb_core.specs.Plain.{plain_statement, plain_entry}
use Rattle.sb_core.specs.Sorts.{Scope, Sort, Numeric, Address, HasSort, HasSortOf, IsCondition, IsInRange, IsSize, IsSlot, IsUnit, IsValueOf}
use Rattle.sb_core.specs.Trees.{Expression, PlainEntry, Statement, Statements, Sections, SectionTree, Set, Store, Copy, Init, Call, If, Loop, Switch, Break, Continue, Goto, Return, Block, End, NoStatements, MoreStatements, NoSections, MoreSections, Section}

-- where control may go from a statement: to these labels, and out of a loop or a `switch`
pub record Jumps : Type 0 where
  pub labels : List ℕ
  pub breaks : Bool
  pub continues : Bool

abbrev pub in_loop : Jumps → Jumps
in_loop j = record { labels = j.labels; breaks = true; continues = true }

abbrev pub in_switch : Jumps → Jumps
in_switch j = record { labels = j.labels; breaks = true; continues = j.continues }

-- a statement may go to the labels behind its own section, and to those that its block may go to
abbrev pub with_labels : List ℕ → Jumps → Jumps
with_labels labels j = record { labels = labels ++ j.labels; breaks = j.breaks; continues = j.continues }

-- an entry lies inside the bytes of what it initialises, and its value is one of its type
abbrev pub IsEntry : Scope → TypeId → PlainEntry → Type 0
IsEntry s whole e = IsValueOf s e.kind e.value × (e.offset + (base_in s.layout e.kind).size ≤ (base_in s.layout whole).size)

-- an argument for each parameter, of its type
abbrev pub AreArgs : Scope → List Param → List Expression → Type 0
AreArgs s [] [] = Unit {0}
AreArgs s [] (e ∷ es) = ⊥
AreArgs s (p ∷ ps) [] = ⊥
AreArgs s (p ∷ ps) (e ∷ es) = IsValueOf s p.type_id e × AreArgs s ps es

-- the result of a call goes into a plain local of its type
abbrev pub IsInto : Scope → TypeId → Option ℕ → Type 0
IsInto s t None = Unit {0}
IsInto s t (Some local) = IsSlot s local true t

abbrev pub IsCall : Scope → ℕ → List Expression → ℕ → Option ℕ → Type 0
IsCall s function args places into =
    (f : Function) × (slice_get s.functions function ≡ Some f) × AreArgs s f.params.items args × (places ≡ length args) × IsInto s f.result into

-- a value of a `case` is one of the type of the `switch`, and each label is one of its block
abbrev pub IsCase : Scope → TypeId → List ℕ → Option ℤ × ℕ → Type 0
IsCase s t labels (None, label) = Contains labels label
IsCase s t labels (Some value, label) = IsInRange s.types t value × Contains labels label

-- `return` has a value exactly where the function is not `void`
abbrev pub IsResult : Scope → Option Expression → Type 0
IsResult s None = slice_get s.types s.result.0 ≡ Some kind.Void
IsResult s (Some value) = IsValueOf s s.result value

-- what a local has to be that a block opens, or the end of a statement names
abbrev pub IsOpened : Holds → Type 0
IsOpened holds.Param = ⊥
IsOpened holds.Local = Unit {0}
IsOpened holds.Temporary = ⊥
IsOpened (holds.Literal bytes) = ⊥
IsOpened (holds.Table table) = ⊥

abbrev pub IsTemporary : Holds → Type 0
IsTemporary holds.Param = ⊥
IsTemporary holds.Local = ⊥
IsTemporary holds.Temporary = Unit {0}
IsTemporary (holds.Literal bytes) = ⊥
IsTemporary (holds.Table table) = ⊥

abbrev pub IsHeldAs : (Holds → Type 0) → Scope → ℕ → Type 0
IsHeldAs P s local = (slot : Slot) × (slice_get s.locals local ≡ Some slot) × P slot.holds

-- a section's label is below the count of labels
abbrev pub IsLabel : Scope → Option ℕ → Type 0
IsLabel s None = Unit {0}
IsLabel s (Some label) = label < s.labels

unfoldable mutual
  -- a statement is well formed, where control may go so
  pub IsStatement : Scope → Jumps → Statement → Type 0
  IsStatement s j (Set local value) = (t : TypeId) × IsSlot s local true t × IsValueOf s t value
  IsStatement s j (Store at value t size pad place) = HasSort s at Address × IsValueOf s t value × IsSize s.layout t size
  IsStatement s j (Copy to from size to_place from_place) = HasSort s to Address × HasSort s from Address × IsUnit s.layout size
  IsStatement s j (Init local values) = (t : TypeId) × IsSlot s local false t × All (IsEntry s t) values
  IsStatement s j (Call function args places into place) = IsCall s function args (length places) into
  IsStatement s j (If test body other) = IsCondition s test × IsStatement s j body × IsStatement s j other
  IsStatement s j (Loop body_first before test body after) =
      AreStatements s j before × IsCondition s test × IsStatement s (in_loop j) body × AreStatements s j after
  IsStatement s j (Switch on cases body) =
      ((t : TypeId) × HasSort s on (Numeric t) × All (IsCase s t (labels_of_block body)) cases) × IsStatement s (in_switch j) body
  IsStatement s j Break = j.breaks ≡ true
  IsStatement s j Continue = j.continues ≡ true
  IsStatement s j (Goto label) = Contains j.labels label
  IsStatement s j (Return value place) = IsResult s value
  IsStatement s j (Block locals sections) = All (IsHeldAs IsOpened s) locals × AreSections s j sections
  IsStatement s j (End temporaries) = All (IsHeldAs IsTemporary s) temporaries

  pub AreStatements : Scope → Jumps → Statements → Type 0
  AreStatements s j NoStatements = Unit {0}
  AreStatements s j (MoreStatements first rest) = IsStatement s j first × AreStatements s j rest

  pub AreSections : Scope → Jumps → Sections → Type 0
  AreSections s j NoSections = Unit {0}
  AreSections s j (MoreSections first rest) = IsSection s (with_labels (section_labels rest) j) first × AreSections s j rest

  pub IsSection : Scope → Jumps → SectionTree → Type 0
  IsSection s j (Section label list) = IsLabel s label × AreStatements s j list

-- where a body begins, no label is open
abbrev pub at_start : Jumps
at_start = record { labels = []; breaks = false; continues = false }

-- ---- functions, tables and a core

abbrev pub IsScalar : List Kind → TypeId → Type 0
IsScalar types t = (o : Sort) × HasSortOf types t o

-- a type of the table
abbrev pub IsType : List Kind → TypeId → Type 0
IsType types t = t.0 < length types

-- a table that is named is there
abbrev pub IsHeld : Core → Holds → Type 0
IsHeld core holds.Param = Unit {0}
IsHeld core holds.Local = Unit {0}
IsHeld core holds.Temporary = Unit {0}
IsHeld core (holds.Literal bytes) = Unit {0}
IsHeld core (holds.Table table) = table < length core.tables.items

-- a local has a type of the table, and a plain one a scalar type
pub record IsLocal (core : Core) (slot : Slot) : Type 0 where
  pub known : IsType core.types.list.items slot.type_id
  pub scalar : slot.plain ≡ true → IsScalar core.types.list.items slot.type_id
  pub held : IsHeld core slot.holds

abbrev pub HasText : Core → Name → Type 0
HasText core name = (bytes : Vec ℕ Global) × Contains core.texts.items (name, bytes)

-- the local of a parameter stands at its position
abbrev pub HasParams : Function → Type 0
HasParams f = (i : ℕ) (p : Param) → slice_get f.params.items i ≡ Some p → (slot : Slot) × (slice_get f.locals.items i ≡ Some slot) × (slot.type_id ≡ p.type_id) × (slot.holds ≡ holds.Param)

abbrev pub scope_of : Layouts → Core → Function → ℕ → Scope
scope_of l core f labels = record {
  types = core.types.list.items;
  layout = l;
  functions = core.functions.items;
  locals = f.locals.items;
  result = f.result;
  labels = labels;
}

-- a body is a block whose labels stand once and are below a count
abbrev pub IsBody : Layouts → Core → Function → Option CoreStmt → Type 0
IsBody l core f None = Unit {0}
IsBody l core f (Some body) =
    HasParams f × IsBlock (plain_statement body) × IsEachOnce (labels_of (plain_statement body))
    × ((labels : ℕ) × IsStatement (scope_of l core f labels) at_start (plain_statement body))

pub record IsFunction (l : Layouts) (core : Core) (f : Function) : Type 0 where
  pub name : HasText core f.name
  pub params : All (λ p. IsScalar core.types.list.items p.type_id) f.params.items
  pub locals : All (IsLocal core) f.locals.items
  pub result : IsType core.types.list.items f.result
  pub body : IsBody l core f f.body

-- in the values of a table `At` names a table: each stands as an object
abbrev pub table_slot : Table → Slot
table_slot t = record { name = t.name; place = record { file = 0; line = 0; col = 0 }; type_id = t.type_id; plain = false; holds = holds.Table 0 }

abbrev pub scope_of_tables : Layouts → Core → Scope
scope_of_tables l core = record {
  types = core.types.list.items;
  layout = l;
  functions = core.functions.items;
  locals = map table_slot core.tables.items;
  result = record { 0 = 0 };
  labels = 0;
}

pub record IsTable (l : Layouts) (core : Core) (t : Table) : Type 0 where
  pub known : IsType core.types.list.items t.type_id
  pub values : All (λ e. IsEntry (scope_of_tables l core) t.type_id (plain_entry e)) t.values.items

-- a core with a layout of its types is well formed: the table begins with the 13 types and no type holds itself, and
-- all types, members, functions, tables, locals and labels that are named are there
pub record IsWellFormed (l : Layouts) (core : Core) : Type 0 where
  pub first : take 13 core.types.list.items ≡ first_types
  pub founded : IsFounded core.types.list.items
  pub layout : l ≡ layout_of core.types.list.items
  pub tables : All (IsTable l core) core.tables.items
  pub functions : All (IsFunction l core) core.functions.items
