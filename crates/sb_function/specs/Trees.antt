-- The trees of code as the grammar's relation has them.
use Rattle.std.specs.Prelude.{◌≡◌, List, [], map, Result, Ok, Err, Vec}
use Rattle.sb_parse.specs.Parser.{Outcome, done}
use Rattle.sb_function.specs.declared.lexeme.Piece.{Piece}
use Rattle.sb_function.specs.declared.reading.ReadFault.{ReadFault}
use Rattle.sb_function.specs.declared.reading.ReadFault.TheVariants.{Refused, Memory}
use Rattle.sb_function.specs.Reads.{IsFault}
use Rattle.sb_function.specs.declared.syntax.Statement.{Statement}
use Rattle.sb_function.specs.declared.syntax.Statement.TheOpen.{Statement-F}
use Rattle.sb_function.specs.declared.syntax.Statement.TheFolds.{fold-Statement}
use Rattle.sb_function.specs.declared.syntax.Function.{Function}
use Rattle.sb_function.specs.Syntax.{Plain, Store, Choose, FunctionTree}
use Rattle.sb_function.specs.Statements.{in_order}

abbrev pub plain_step : Statement-F Plain → Plain
plain_step (Statement-F.Block list) = in_order list.items
plain_step (Statement-F.Store array index value place) = Store array index value place
plain_step (Statement-F.If left op right body) = Choose left op right body.value

-- a statement's tree; a block is its list
unfoldable pub plain : Statement → Plain
plain = fold-Statement Plain plain_step

-- the statements of a list
abbrev pub plains : List Statement → List Plain
plains list = map plain list

abbrev pub tree_of : Function → FunctionTree
tree_of f = record { name = f.name; place = f.place; params = f.params.items; body = in_order (plains f.body.items) }

abbrev pub trees : List Function → List FunctionTree
trees fs = map tree_of fs

-- a whole list was read
abbrev pub ReadsWhole : {Z : Type 0} → Outcome Piece (List FunctionTree) → Result (Vec Function Z) ReadFault → Type 0
ReadsWhole o (Ok v) = o ≡ done (trees v.items) []
ReadsWhole o (Err e) = IsFault o e

-- these functions were read, or memory ran out
abbrev pub IsReadAs : {Z : Type 0} → List FunctionTree → Result (Vec Function Z) ReadFault → Type 0
IsReadAs fs (Ok v) = trees v.items ≡ fs
IsReadAs fs (Err (Refused left)) = ⊥
IsReadAs fs (Err Memory) = Unit {0}
