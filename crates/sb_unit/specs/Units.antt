-- Which lists of tokens are a translation unit, and the trees of each (C99 6.9).
use Rattle.std.specs.Prelude.{◌≡◌, ℕ, true, false, List, [], ◌∷◌, ◌++◌}
use Rattle.sb_base.specs.declared.interning.Name.{Name}
use Rattle.sb_base.specs.declared.tokens.Token.{Token}
use Rattle.sb_tree.specs.Trees as tree
use Rattle.sb_tree.specs.Trees.{TypeTree, StmtTree, NoteTree}
use Rattle.sb_declare.specs.Declaration.{IsDeclaration, Begins, IsJudged, declared_by, declaration_of}
use Rattle.sb_specifier.specs.Declaration.{IsDeclarator}
use Rattle.sb_specifier.specs.Readers.{Declarations, Declarator}
use Rattle.sb_declare.specs.Readers.{functions_in}
use Rattle.sb_specifier.specs.Specified.{Specified, reading, declares_function}
use Rattle.sb_statement.specs.Statement.{IsBlock}

-- a declaration outside of functions, or a function with its body
pub data IsExternal (texts : List (List ℕ)) : List Name → List Token → Declarations → Type 0 where
  -- 6.9
  declares : (types : List Name) (ts : List Token) (ds : Declarations) → IsDeclaration texts types ts ds → IsExternal texts types ts ds
  -- 6.9.1
  defines : (types : List Name) (xs ys zs js us : List Token) (notes : List NoteTree) (s : Specified) (base : TypeTree) (d : Declarator) (body : StmtTree) → Begins texts types xs ys notes s base
      → IsDeclarator texts s.types (functions_in s) false zs d → declares_function d.pieces ≡ true → IsJudged true xs js
      → IsBlock texts false (declared_by s d.name d.inner) us body
      → IsExternal texts types (xs ++ (ys ++ (zs ++ (js ++ us)))) (record { list = declaration_of notes s base d tree.NoInit (tree.AStmt body) ∷ []; types = declared_by s d.name s.types })

pub data IsUnit (texts : List (List ℕ)) : List Token → Declarations → Type 0 where
  -- 6.9
  nothing : IsUnit texts [] (record { list = []; types = [] })
  -- 6.9
  external_behind : (xs ys : List Token) (ds es : Declarations) → IsUnit texts xs ds → IsExternal texts ds.types ys es → IsUnit texts (xs ++ ys) (record { list = ds.list ++ es.list; types = es.types })
