-- The parts of a declaration in a scope, and which tokens go on from each: annotations with specifiers, a declarator with what pardons the annotations, and the rest.
use Rattle.std.specs.Prelude.{◌≡◌, ℕ, suc, ◌≤◌, ◌+◌, ◌-◌, Bool, true, false, List, [], ◌∷◌, ◌++◌, length, if◌then◌else◌}
use Rattle.sb_base.specs.declared.interning.Name.{Name}
use Rattle.sb_base.specs.declared.refusals.Place.{Place}
use Rattle.sb_base.specs.declared.tokens.Token.{Token}
use Rattle.sb_sign.specs.declared.sign.Mark.TheVariants as mark
use Rattle.sb_tree.specs.Plain.{decl_list, note_list}
use Rattle.sb_tree.specs.Trees as tree
use Rattle.sb_tree.specs.Trees.{TypeTree, OptionalInit, DeclTree, depth_of_notes, depth_of_type, depth_of_decls}
use Rattle.sb_lexicon.specs.Lexicon.{Lexicon, is_mark}
use Rattle.sb_specifier.specs.Specified.{reading, again, declares_function}
use Rattle.sb_declare.specs.Declaration.{IsDeclared, IsInitialised, IsJudged, Begins, declared_by, declaration_of}
use Rattle.sb_declare.specs.Readers as reader
use Rattle.sb_declarator.specs.Readers.{no_parts}
use Rattle.sb_specifier.specs.Readers.{Declarator, Declarations}
use Rattle.sb_declare.specs.Readers.{Opening, all_stand, functions_in}
use Rattle.sb_specifier.proofs.laws.More.{is_suffix, more_specified, FitsDeclarator}

module _ (texts : List (List ℕ)) (below : ℕ) where
  abbrev plain : Lexicon
  plain = reading texts []

  -- ---- the annotations and the specifiers

  pub record FitsOpening (types : List Name) (ts : List Token) (o : Opening) : Type 0 where
    pub noted : List Token
    pub specified : List Token
    pub split : ts ≡ noted ++ specified
    pub begins : Begins texts types noted specified o.notes o.specified o.base
    pub outer_is : o.outer ≡ types
    pub noted_is : o.noted ≡ noted
    pub count_is : o.count ≡ length specified
    pub notes_deep : depth_of_notes (note_list o.notes) ≤ below
    pub base_deep : depth_of_type o.base ≤ below

  abbrev pub more_opening : Opening → Token → Bool
  more_opening o = more_specified plain o.base

  -- ---- a declarator, with what pardons the annotations that may not stand on it

  pub record FitsFirst (o : Opening) (types : List Name) (base : TypeTree) (count : ℕ) (ts : List Token) (v : Declarator × ℕ) : Type 0 where
    pub front : List Token
    pub judged : List Token
    pub split : ts ≡ front ++ judged
    pub is : FitsDeclarator texts types (functions_in o.specified) false below (below - depth_of_type base) front v.0
    pub judged_is : IsJudged (declares_function v.0.pieces) o.noted judged
    pub count_is : v.1 ≡ count + length ts

  -- behind what pardons them nothing goes on
  abbrev pub more_first : Opening → Bool → Token → Bool
  more_first o function t = if all_stand function o.noted then is_suffix plain t else false

  abbrev pub more_in : Opening → Declarator × ℕ → Token → Bool
  more_in o v = more_first o (declares_function v.0.pieces)

  -- ---- what follows a declarator up to the end of the declaration

  pub data IsRest (o : Opening) (d : Declarator) : List Token → Declarations → Type 0 where
    an_end : (ts : List Token) (init : OptionalInit) → IsInitialised (reading texts (declared_by o.specified d.name o.specified.types)) ts init
        → IsRest o d ts (record { list = declaration_of o.notes o.specified o.base d init tree.NoStmt ∷ []; types = declared_by o.specified d.name o.specified.types })
    another : (xs ys : List Token) (c : Token) (ds : Declarations) (e : DeclTree) (now : List Name) → is_mark (reading texts ds.types) mark.Comma c ≡ true → IsRest o d xs ds
        → IsDeclared texts o.noted o.notes o.specified (again o.base) ds.types ys e now → IsRest o d (xs ++ (c ∷ ys)) (record { list = ds.list ++ (e ∷ []); types = now })

  pub record FitsRest (o : Opening) (d : Declarator) (ts : List Token) (ds : Declarations) : Type 0 where
    pub front : List Token
    pub closing : Token
    pub split : ts ≡ front ++ (closing ∷ [])
    pub is : IsRest o d front ds
    pub closes : is_mark (reading texts o.specified.types) mark.Semicolon closing ≡ true
    pub deep : depth_of_decls (decl_list ds.list) ≤ suc below

  -- ---- a declaration without a name

  abbrev pub nameless_tree : Opening → Place → Declarations
  nameless_tree o place = reader.nameless_of texts below (λ k. no_parts texts) o place

  pub record FitsNameless (o : Opening) (place : Place) (ts : List Token) (ds : Declarations) : Type 0 where
    pub judged : List Token
    pub closing : Token
    pub split : ts ≡ judged ++ (closing ∷ [])
    pub judged_is : IsJudged false o.noted judged
    pub closes : is_mark (reading texts o.specified.types) mark.Semicolon closing ≡ true
    pub same : ds ≡ nameless_tree o place
