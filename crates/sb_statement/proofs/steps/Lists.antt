-- Lists of statements as the readers gather them.
use Rattle.std.proofs.Common.{◌≡◌, List, [], ◌∷◌, ◌++◌, refl, ap}
use Rattle.sb_tree.specs.declared.syntax.Stmt.{Stmt}
use Rattle.sb_tree.specs.Plain.{plain_stmt, plain_stmts}

pub more_stmts : (ss : List Stmt) (s : Stmt) → plain_stmts (ss ++ (s ∷ [])) ≡ plain_stmts ss ++ (plain_stmt s ∷ [])
more_stmts [] s = refl
more_stmts (t ∷ ss) s = ap (λ rest. plain_stmt t ∷ rest) (more_stmts ss s)
