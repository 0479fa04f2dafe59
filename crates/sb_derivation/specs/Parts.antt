-- The parts of the readers of members and parameters that hold no declarator.
use Rattle.std.specs.Prelude.{ℕ, List, []}
use Rattle.sb_base.specs.declared.interning.Name.{Name}
use Rattle.sb_base.specs.declared.refusals.Place.{Place}
use Rattle.sb_base.specs.declared.tokens.Token.{Token}
use Rattle.sb_parse.specs.Parser.{Outcome, done, stop}
use Rattle.sb_tree.specs.declared.syntax.Storage.TheVariants as storage
use Rattle.sb_tree.specs.Plain.{note_list}
use Rattle.sb_tree.specs.Trees as tree
use Rattle.sb_tree.specs.Trees.{TypeTree, DeclTree, NoteTree}
use Rattle.sb_operand.specs.Pieces.{typed}
use Rattle.sb_sal.specs.declared.bearer.Bearer.{Bearer}
use Rattle.sb_sal.specs.Readers.{notes_reader}
use Rattle.sb_sal.specs.Spellings.{may_stand}
use Rattle.sb_specifier.specs.Readers.{Declarator, name_in, place_in}
use Rattle.sb_specifier.specs.Specified.{reading}

-- ---- declarations

-- what a reader of a list comes to; nothing where it stops
abbrev pub list_in : {A : Type 0} → Outcome Token (List A) → List A
list_in (done a rest) = a
list_in (stop n left) = []

-- the annotations with which tokens begin
abbrev pub notes_at : List (List ℕ) → List Name → Bearer → ℕ → List Token → List NoteTree
notes_at texts types bearer below ts = list_in (notes_reader (reading texts types) below (may_stand (reading texts types) bearer) ts)

-- a member or a parameter
abbrev pub simple_decl : List NoteTree → TypeTree → Declarator → Place → DeclTree
simple_decl notes base d place = tree.Decl (note_list notes) storage.Plain (typed base d.pieces) (name_in d.name) (place_in place d.name) tree.NoInit tree.NoStmt
