-- What reading declarations comes to, in the subject's words.
use Rattle.std.specs.Prelude.{ℕ, ◌≤◌, List}
use Rattle.sb_base.specs.declared.interning.Name.{Name}
use Rattle.sb_base.specs.declared.tokens.Token.{Token}
use Rattle.sb_tree.specs.Plain.{decl_list}
use Rattle.sb_tree.specs.Trees.{depth_of_decls}
use Rattle.sb_declare.specs.Declaration.{IsDeclaration}
use Rattle.sb_specifier.specs.Readers.{Declarations}

-- a declaration in a scope whose trees are at most so deep

abbrev pub FitsDeclaration : List (List ℕ) → ℕ → List Name → List Token → Declarations → Type 0
FitsDeclaration texts left types ts ds = IsDeclaration texts types ts ds × (depth_of_decls (decl_list ds.list) ≤ left)
