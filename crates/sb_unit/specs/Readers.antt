-- The readers of translation units, as functions on the tokens that are left.
use Rattle.std.specs.Prelude.{ℕ, Bool, true, false, ◌&&◌, List, [], ◌∷◌, ◌++◌}
use Rattle.sb_base.specs.declared.tokens.Token.{Token}
use Rattle.sb_parse.specs.Parser.{Parser, ◌>>=◌, pure, choose, looped}
use Rattle.sb_tree.specs.Trees as tree
use Rattle.sb_lexicon.specs.Tokens.{is_open_brace}
use Rattle.sb_specifier.specs.Readers.{place_of_base, Declarations, Declarator, ends_nameless}
use Rattle.sb_declare.specs.Readers as declaring
use Rattle.sb_declare.specs.Readers.{Opening}
use Rattle.sb_declarator.specs.Readers.{parts}
use Rattle.sb_specifier.specs.Specified.{reading, declares_function}
use Rattle.sb_statement.specs.Readers.{statements}

-- the depth of a tree
abbrev pub most_depth : ℕ
most_depth = 200

-- `below`: how deep the parts of a declaration may be
module _ (texts : List (List ℕ)) (below : ℕ) where
  abbrev pub defines : Declarator → Token → Bool
  defines d t = declares_function d.pieces && is_open_brace (reading texts d.inner) t

  -- the body of a function, in which its parameters hide typedef names
  unfoldable pub defined : Opening → Declarator × ℕ → Parser Token Declarations
  defined o d = (statements texts below).block false (declaring.declared_by texts below (parts texts below) o d.0.name d.0.inner) >>= (λ s.
      pure (record {
        list = declaring.declaration_of texts below (parts texts below) o o.base d.0 tree.NoInit (tree.AStmt s) ∷ [];
        types = declaring.declared_by texts below (parts texts below) o d.0.name o.specified.types;
      }))

  unfoldable pub external_behind : Opening → Declarator × ℕ → Parser Token Declarations
  external_behind o d = choose (defines d.0) (defined o d) (declaring.rest_of_declaration texts below (parts texts below) o d)

  -- a declaration, or a function with its body
  unfoldable pub external : Declarations → Parser Token Declarations
  external ds = declaring.opening texts below (parts texts below) ds.types >>= (λ o.
      choose (ends_nameless (reading texts ds.types)) (declaring.nameless texts below (parts texts below) o (place_of_base o.base))
      (declaring.declarator_in texts below (parts texts below) o o.specified.types o.base o.count >>= external_behind o)) >>= (λ new.
      pure (record { list = ds.list ++ new.list; types = new.types }))

-- a whole list of tokens
abbrev pub unit_reader : List (List ℕ) → Parser Token Declarations
unit_reader texts = looped (λ t. true) (external texts 199) (record { list = []; types = [] })
