-- The parts of the readers of members and structures that are functions of their own in code.
use Rattle.std.specs.Prelude.{ℕ, suc, ◌+◌, ◌-◌, false, List, [], ◌∷◌, ◌++◌, nat_lt, Option, Some, None}
use Rattle.sb_base.specs.declared.interning.Name.{Name}
use Rattle.sb_base.specs.declared.refusals.Place.{Place}
use Rattle.sb_base.specs.declared.tokens.Token.{Token}
use Rattle.sb_parse.specs.Parser.{Parser, ◌>>=◌, pure, refuse, token, taken, choose, guard, looped}
use Rattle.sb_sign.specs.declared.sign.Keyword.TheVariants as keyword
use Rattle.sb_tree.specs.Plain.{decl_list}
use Rattle.sb_tree.specs.Trees as tree
use Rattle.sb_tree.specs.Trees.{TypeTree, DeclTree, NoteTree, depth_of_type}
use Rattle.sb_lexicon.specs.Lexicon.{is_keyword}
use Rattle.sb_lexicon.specs.Tokens.{unexpected, too_deep, is_comma, is_colon, is_open_brace}
use Rattle.sb_lexicon.specs.Words.{Whole}
use Rattle.sb_specifier.specs.Declaration.{nowhere}
use Rattle.sb_specifier.specs.Readers.{Declarations, bit_field, is_close_brace, is_semicolon, name_at}
use Rattle.sb_derivation.specs.Parts.{simple_decl}
use Rattle.sb_declarator.specs.Readers.{parts, declarators}
use Rattle.sb_specifier.specs.Specified.{Specified, reading, saying, scoped, one_if}

-- ---- specifiers

abbrev pub structure : List (List ℕ) → ℕ → Specified → Option Name → Place → Parser Token Specified
structure texts below s tag place = guard (nat_lt below (3 + one_if s.constant)) too_deep
    (token unexpected (is_open_brace (reading texts s.types)) >>= (λ o. (parts texts below (suc (one_if s.constant))).members s.types >>= (λ ds. token unexpected (is_close_brace (reading texts s.types)) >>= (λ c.
    pure (scoped ds.types (saying (Whole (tree.Struct tag (tree.Declared (decl_list ds.list)) place)) s))))))

-- a tag, and what is defined by it where a brace follows
abbrev pub tagged_structure : List (List ℕ) → ℕ → Specified → Parser Token Specified
tagged_structure texts below s = token unexpected (is_keyword (reading texts s.types) keyword.Struct) >>= (λ t.
    choose (is_open_brace (reading texts s.types)) (structure texts below s None t.place)
    (taken unexpected (name_at (reading texts s.types)) >>= (λ n. choose (is_open_brace (reading texts s.types)) (structure texts below s (Some n.0) n.1)
    (pure (saying (Whole (tree.Struct (Some n.0) tree.Undeclared n.1)) s)))))

-- ---- members of a structure

abbrev pub member_declarator : List (List ℕ) → ℕ → List NoteTree → List Name → TypeTree → Parser Token DeclTree
member_declarator texts below notes types base = choose (is_colon (reading texts types)) (refuse bit_field)
    (declarators (reading texts types) false false below (parts texts below) (below - depth_of_type base) 0 >>= (λ d. choose (is_colon (reading texts types)) (refuse bit_field) (pure (simple_decl notes base d nowhere))))

-- `later`: the type of a later declarator
abbrev pub later_member : List (List ℕ) → ℕ → List NoteTree → List Name → TypeTree → Parser Token DeclTree
later_member texts below notes types later = token unexpected (is_comma (reading texts types)) >>= (λ t. member_declarator texts below notes types later)

abbrev pub next_member : List (List ℕ) → ℕ → List NoteTree → List Name → TypeTree → List DeclTree → Parser Token (List DeclTree)
next_member texts below notes types later ds = token unexpected (is_comma (reading texts types)) >>= (λ t. member_declarator texts below notes types later >>= (λ d. pure (ds ++ (d ∷ []))))

-- the declarators of a declaration of members, behind those before it
abbrev pub declared_members : List (List ℕ) → ℕ → List NoteTree → List Name → (base later : TypeTree) → List DeclTree → Parser Token Declarations
declared_members texts below notes types base later ds = member_declarator texts below notes types base >>= (λ d.
    looped (is_comma (reading texts types)) (next_member texts below notes types later) (d ∷ []) >>= (λ list.
    token unexpected (is_semicolon (reading texts types)) >>= (λ c.
    pure (record { list = ds ++ list; types = types }))))
