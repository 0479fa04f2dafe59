-- What the values of the readers in code stand for in the definitions.
use Rattle.std.specs.Prelude.{ℕ, List, Option}
use Rattle.std.specs.Option.{option_map}
use Rattle.std.specs.declared.alloc.Global.{Global}
use Rattle.std.specs.declared.boxed.Box.{Box}
use Rattle.sb_base.specs.declared.interning.Name.{Name}
use Rattle.sb_tree.specs.declared.syntax.Expr.{Expr}
use Rattle.sb_tree.specs.declared.syntax.Stmt.{Stmt}
use Rattle.sb_tree.specs.Plain.{boxed, plain_expr, plain_stmt, plain_stmts, optional_expr, optional_stmt}
use Rattle.sb_tree.specs.Trees as tree
use Rattle.sb_tree.specs.Trees.{StmtTree, OptionalExpr}
use Rattle.sb_statement.specs.Readers.{Body, First, Parts, statements}
use Rattle.sb_statement.specs.declared.values.Body as declared_body
use Rattle.sb_statement.specs.declared.values.DeclaredStatement.{DeclaredStatement}
use Rattle.sb_statement.specs.declared.values.First as declared_first

abbrev pub plain_body : declared_body.Body → Body
plain_body b = record { list = plain_stmts b.list.items; types = b.types }

abbrev pub plain_first : declared_first.First → First
plain_first f = record { first = optional_stmt (option_map plain_stmt (boxed f.statement)); types = f.types }

abbrev pub plain_declared : DeclaredStatement → StmtTree × List Name
plain_declared d = (plain_stmt d.statement, d.types)

abbrev pub plain_optional : Option Expr → OptionalExpr
plain_optional e = optional_expr (option_map plain_expr e)

abbrev pub plain_other : Option (Box Stmt Global) → tree.OptionalStmt
plain_other s = optional_stmt (option_map plain_stmt (boxed s))

-- a reader of statements by those of their parts
abbrev pub nested : {A : Type 0} → (List (List ℕ) → ℕ → Parts → A) → List (List ℕ) → ℕ → A
nested f texts below = f texts below (statements texts below)
