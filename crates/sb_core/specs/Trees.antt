-- The core's trees as contracts speak of them: values without memory. Expressions have no effect; statements hold
-- expressions and statements; annotations hold sizes and annotations.
use Rattle.std.specs.Prelude.{ℕ, ℤ, Bool, List, Option}
use Rattle.sb_base.specs.declared.interning.Name.{Name}
use Rattle.sb_base.specs.declared.refusals.Place.{Place}
use Rattle.sb_core.specs.declared.types.TypeId.{TypeId}
use Rattle.sb_core.specs.declared.operator.SignOp.{SignOp}
use Rattle.sb_core.specs.declared.operator.NumOp.{NumOp}
use Rattle.sb_core.specs.declared.operator.CompareOp.{CompareOp}
use Rattle.sb_core.specs.declared.operator.SizeUnary.{SizeUnary}
use Rattle.sb_core.specs.declared.operator.SizeBinary.{SizeBinary}

-- an expression (C99 6.5)
pub data Expression : Type 0 where
  Number : ℤ → TypeId → Expression
  Null : Expression
  Local : (local : ℕ) → TypeId → Place → Expression
  At : (local : ℕ) → Expression
  Load : Expression → TypeId → (size : ℕ) → Place → Expression
  Unary : SignOp → Expression → TypeId → Expression
  Binary : NumOp → Expression → Expression → TypeId → Place → Expression
  Convert : Expression → TypeId → Expression
  Move : (base by : Expression) → (unit : ℤ) → Expression
  Distance : Expression → Expression → (unit : ℕ) → Place → Expression
  Compare : CompareOp → Expression → Expression → Expression
  Not : Expression → Expression
  And : Expression → Expression → Expression
  Or : Expression → Expression → Expression
  Choose : (test yes no : Expression) → Expression

-- a value at an offset (6.7.8)
pub record PlainEntry : Type 0 where
  pub offset : ℕ
  pub kind : TypeId
  pub value : Expression

mutual
  -- a statement (6.8)
  pub data Statement : Type 0 where
    Set : (local : ℕ) → Expression → Statement
    Store : (at value : Expression) → TypeId → (size pad : ℕ) → Place → Statement
    Copy : (to from : Expression) → (size : ℕ) → (to_place from_place : Place) → Statement
    Init : (local : ℕ) → List PlainEntry → Statement
    Call : (function : ℕ) → List Expression → List Place → (into : Option ℕ) → Place → Statement
    If : Expression → (yes no : Statement) → Statement
    Loop : (body_first : Bool) → (before : Statements) → (test : Expression) → (body : Statement) → (after : Statements) → Statement
    Switch : Expression → List (Option ℤ × ℕ) → Statement → Statement
    Break : Statement
    Continue : Statement
    Goto : (label : ℕ) → Statement
    Return : Option Expression → Place → Statement
    Block : (locals : List ℕ) → Sections → Statement
    End : (temporaries : List ℕ) → Statement

  pub data Statements : Type 0 where
    NoStatements : Statements
    MoreStatements : Statement → Statements → Statements

  -- statements behind labels, in order
  pub data Sections : Type 0 where
    NoSections : Sections
    MoreSections : SectionTree → Sections → Sections

  pub data SectionTree : Type 0 where
    Section : (label : Option ℕ) → Statements → SectionTree

-- the argument of an annotation
pub data SizeTree : Type 0 where
  Amount : ℤ → Place → SizeTree
  NullPointer : Place → SizeTree
  Identifier : Name → Place → SizeTree
  Target : Name → (name_place place : Place) → SizeTree
  Field : Name → (name_place : Place) → (field : Name) → (field_place place : Place) → SizeTree
  Result : Place → SizeTree
  Old : SizeTree → Place → SizeTree
  Prefixed : SizeUnary → SizeTree → Place → SizeTree
  Joined : SizeBinary → SizeTree → SizeTree → Place → SizeTree
  Other : Place → SizeTree

mutual
  -- an annotation
  pub data NoteTree : Type 0 where
    Note : (name : ℕ) → ArgTrees → Place → NoteTree

  pub data ArgTree : Type 0 where
    SizeArg : SizeTree → ArgTree
    NoteArg : NoteTree → ArgTree

  pub data ArgTrees : Type 0 where
    NoArgs : ArgTrees
    MoreArgs : ArgTree → ArgTrees → ArgTrees
