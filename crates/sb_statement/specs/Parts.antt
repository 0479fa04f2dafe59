-- The parts of the longer readers that are functions of their own in code.
use Rattle.std.specs.Prelude.{ℕ, Bool, true, ◌&&◌, ◌||◌, not, List, []}
use Rattle.sb_base.specs.declared.interning.Name.{Name}
use Rattle.sb_base.specs.declared.tokens.Token.{Token}
use Rattle.sb_parse.specs.Parser.{Parser, choose, refuse, looped}
use Rattle.sb_sign.specs.declared.sign.Keyword.{Keyword}
use Rattle.sb_sign.specs.declared.sign.Keyword.TheVariants as keyword
use Rattle.sb_tree.specs.Trees.{StmtTree}
use Rattle.sb_lexicon.specs.Lexicon.{Lexicon, is_keyword}
use Rattle.sb_lexicon.specs.Tokens.{unexpected, too_deep, bad_arguments, is_open, is_open_brace, begins_expr}
use Rattle.sb_specifier.specs.declared.seat.Seat.TheVariants as seat
use Rattle.sb_specifier.specs.Readers.{is_close_brace, is_semicolon, barred}
use Rattle.sb_specifier.specs.Specified.{reading}
use Rattle.sb_statement.specs.Readers as spec
use Rattle.sb_statement.specs.Readers.{Body, First, Parts}

-- behind an annotation without arguments for which there is no room
abbrev pub behind_bare : {A : Type 0} → Lexicon → Parser Token A
behind_bare w = choose (is_open w) (refuse bad_arguments) (barred w seat.Scope)

-- behind an annotation with arguments for which there is no room
abbrev pub without_arguments : {A : Type 0} → Lexicon → Parser Token A
without_arguments w = choose (is_open w) (refuse too_deep) (choose (λ s. true) (refuse bad_arguments) (refuse unexpected))

-- where no block, no part of a block and no first part of a `for` has room
abbrev pub no_block : Lexicon → Parser Token StmtTree
no_block w = choose (is_open_brace w) (refuse too_deep) (refuse unexpected)

abbrev pub no_item : Lexicon → Bool → Parser Token Body
no_item w cases = spec.no_statement w cases (barred w seat.Scope)

abbrev pub no_first : Lexicon → Parser Token First
no_first w = choose (λ t. is_semicolon w t || begins_expr w t) (refuse too_deep) (barred w seat.Scope)

module _ (texts : List (List ℕ)) (below : ℕ) (part : Parts) (types : List Name) where
  abbrev word : Keyword → Token → Bool
  word k = is_keyword (reading texts types) k

  -- `case`, `default`, or an expression
  abbrev pub cased : Bool → Parser Token StmtTree
  cased cases =
      choose (λ t. cases && word keyword.Case t) (spec.nested texts below part (spec.case_of texts below part types))
      (choose (λ t. cases && word keyword.Default t) (spec.nested texts below part (spec.default_of texts below part types))
      (spec.evaluated texts below part types))

  abbrev pub jumping : Bool → Parser Token StmtTree
  jumping cases =
      choose (word keyword.Goto) (spec.gone texts below part types)
      (choose (word keyword.Break) (spec.broken texts below part types)
      (choose (word keyword.Continue) (spec.continued texts below part types)
      (choose (word keyword.Return) (spec.returned texts below part types)
      (cased cases))))

  abbrev pub iterating : Bool → Parser Token StmtTree
  iterating cases =
      choose (word keyword.While) (spec.nested texts below part (spec.repeated texts below part types))
      (choose (word keyword.Do) (spec.nested texts below part (spec.done_first texts below part types))
      (choose (word keyword.For) (spec.nested texts below part (spec.iterated texts below part types))
      (choose (word keyword.Switch) (spec.nested texts below part (spec.switched texts below part types))
      (jumping cases))))

  -- as many declarations and statements as there are before a brace
  abbrev pub more_items : Bool → Body → Parser Token Body
  more_items cases = looped (λ t. not (is_close_brace (reading texts types) t)) (part.item cases)

  abbrev pub items : Bool → Parser Token Body
  items cases = more_items cases (record { list = []; types = types })

  -- a statement that begins with no name
  abbrev pub unnamed : Bool → Parser Token StmtTree
  unnamed cases = spec.by_keyword texts below part cases types (spec.evaluated texts below part types)
