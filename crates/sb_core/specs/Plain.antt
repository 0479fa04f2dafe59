-- The plain tree of each node in memory, by one fold for expressions, one for statements, one for sizes and one for
-- annotations.
use Rattle.std.specs.Prelude.{List, [], ◌∷◌, map}
use Rattle.std.specs.Option.{option_map}
use Rattle.sb_core.specs.declared.expression.CoreExpr.{CoreExpr, fold-CoreExpr}
use Rattle.sb_core.specs.declared.expression.CoreExpr.TheOpen as expression
use Rattle.sb_core.specs.declared.statement.Entry.{Entry}
use Rattle.sb_core.specs.declared.statement.CoreStmt.{CoreStmt, fold-CoreStmt}
use Rattle.sb_core.specs.declared.statement.Section.{Section, fold-Section}
use Rattle.sb_core.specs.declared.statement.CoreStmt.TheOpen as statement
use Rattle.sb_core.specs.declared.note.CoreSize.{CoreSize, fold-CoreSize}
use Rattle.sb_core.specs.declared.note.CoreSize.TheOpen as size
use Rattle.sb_core.specs.declared.note.CoreArg.{CoreArg, fold-CoreArg}
use Rattle.sb_core.specs.declared.note.CoreNote.{CoreNote, fold-CoreNote}
use Rattle.sb_core.specs.declared.note.CoreArg.TheOpen as note
use Rattle.sb_core.specs.Trees as core
use Rattle.sb_core.specs.Trees.{Expression, PlainEntry, Statement, Statements, Sections, SectionTree, SizeTree, NoteTree, ArgTree, ArgTrees}

-- ---- expressions

abbrev pub expression_step : expression.CoreExpr-F Expression → Expression
expression_step (expression.Number value kind) = core.Number value kind
expression_step expression.Null = core.Null
expression_step (expression.Local local kind place) = core.Local local kind place
expression_step (expression.At local) = core.At local
expression_step (expression.Load e kind size place) = core.Load e.value kind size place
expression_step (expression.Unary op e kind) = core.Unary op e.value kind
expression_step (expression.Binary op e f kind place) = core.Binary op e.value f.value kind place
expression_step (expression.Convert e kind) = core.Convert e.value kind
expression_step (expression.Move e f unit) = core.Move e.value f.value unit
expression_step (expression.Distance e f unit place) = core.Distance e.value f.value unit place
expression_step (expression.Compare op e f) = core.Compare op e.value f.value
expression_step (expression.Not e) = core.Not e.value
expression_step (expression.And e f) = core.And e.value f.value
expression_step (expression.Or e f) = core.Or e.value f.value
expression_step (expression.Choose e f g) = core.Choose e.value f.value g.value

unfoldable pub plain_expression : CoreExpr → Expression
plain_expression = fold-CoreExpr Expression expression_step

abbrev pub plain_expressions : List CoreExpr → List Expression
plain_expressions = map plain_expression

abbrev pub plain_entry : Entry → PlainEntry
plain_entry e = record { offset = e.offset; kind = e.kind; value = plain_expression e.value }

abbrev pub plain_entries : List Entry → List PlainEntry
plain_entries = map plain_entry

-- ---- statements

abbrev pub statement_list : List Statement → Statements
statement_list [] = core.NoStatements
statement_list (s ∷ ss) = core.MoreStatements s (statement_list ss)

abbrev pub section_list : List SectionTree → Sections
section_list [] = core.NoSections
section_list (s ∷ ss) = core.MoreSections s (section_list ss)

abbrev pub statement_step : statement.CoreStmt-F Statement SectionTree → Statement
statement_step (statement.Set local value) = core.Set local (plain_expression value)
statement_step (statement.Store at value kind size pad place) = core.Store (plain_expression at) (plain_expression value) kind size pad place
statement_step (statement.Copy to from size to_place from_place) = core.Copy (plain_expression to) (plain_expression from) size to_place from_place
statement_step (statement.Init local values) = core.Init local (plain_entries values.items)
statement_step (statement.Call function args places into place) = core.Call function (plain_expressions args.items) places.items into place
statement_step (statement.If test body other) = core.If (plain_expression test) body.value other.value
statement_step (statement.Loop body_first before test body after) = core.Loop body_first (statement_list before.items) (plain_expression test) body.value (statement_list after.items)
statement_step (statement.Switch on cases body) = core.Switch (plain_expression on) cases.items body.value
statement_step statement.Break = core.Break
statement_step statement.Continue = core.Continue
statement_step (statement.Goto label) = core.Goto label
statement_step (statement.Return value place) = core.Return (option_map plain_expression value) place
statement_step (statement.Block locals sections) = core.Block locals.items (section_list sections.items)
statement_step (statement.End temporaries) = core.End temporaries.items

abbrev pub section_step : statement.Section-F Statement SectionTree → SectionTree
section_step s = core.Section s.label (statement_list s.list.items)

unfoldable pub plain_statement : CoreStmt → Statement
plain_statement = fold-CoreStmt Statement SectionTree statement_step section_step

unfoldable pub plain_section : Section → SectionTree
plain_section = fold-Section Statement SectionTree statement_step section_step

abbrev pub plain_statements : List CoreStmt → List Statement
plain_statements = map plain_statement

abbrev pub plain_sections : List Section → List SectionTree
plain_sections = map plain_section

-- ---- sizes and annotations

abbrev pub size_step : size.CoreSize-F SizeTree → SizeTree
size_step (size.Number value place) = core.Amount value place
size_step (size.Null place) = core.NullPointer place
size_step (size.Name name place) = core.Identifier name place
size_step (size.Target name at place) = core.Target name at place
size_step (size.Field name at field field_at place) = core.Field name at field field_at place
size_step (size.Result place) = core.Result place
size_step (size.Old of place) = core.Old of.value place
size_step (size.Unary op of place) = core.Prefixed op of.value place
size_step (size.Binary op left right place) = core.Joined op left.value right.value place
size_step (size.Other place) = core.Other place

unfoldable pub plain_size : CoreSize → SizeTree
plain_size = fold-CoreSize SizeTree size_step

abbrev pub arg_list : List ArgTree → ArgTrees
arg_list [] = core.NoArgs
arg_list (a ∷ rest) = core.MoreArgs a (arg_list rest)

abbrev pub arg_step : note.CoreArg-F ArgTree NoteTree → ArgTree
arg_step (note.Size s) = core.SizeArg (plain_size s)
arg_step (note.Note n) = core.NoteArg n.value

abbrev pub note_step : note.CoreNote-F ArgTree NoteTree → NoteTree
note_step n = core.Note n.name (arg_list n.args.items) n.place

unfoldable pub plain_arg : CoreArg → ArgTree
plain_arg = fold-CoreArg ArgTree NoteTree arg_step note_step

unfoldable pub plain_note : CoreNote → NoteTree
plain_note = fold-CoreNote ArgTree NoteTree arg_step note_step

abbrev pub plain_args : List CoreArg → List ArgTree
plain_args = map plain_arg

abbrev pub plain_notes : List CoreNote → List NoteTree
plain_notes = map plain_note
