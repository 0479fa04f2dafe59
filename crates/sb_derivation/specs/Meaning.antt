-- What the values of the readers of arrays, members and parameters in code stand for in the definitions, and what a reader in code owes the reader that it computes.
use Rattle.std.specs.Prelude.{◌≡◌, List, Result, Ok, Err}
use Rattle.sb_base.specs.declared.interning.Name.{Name}
use Rattle.sb_base.specs.declared.tokens.Token.{Token}
use Rattle.sb_parse.specs.Parser.{Outcome, done}
use Rattle.sb_tree.specs.Plain.{plain_decl, plain_decls, decl_list}
use Rattle.sb_tree.specs.Trees.{DeclTree, depth_of_decl, depth_of_decls}
use Rattle.sb_operand.specs.Meaning.{plain_piece, depth_of_piece}
use Rattle.sb_operand.specs.Pieces.{Piece}
use Rattle.sb_lexicon.specs.declared.reading.Read.{Read}
use Rattle.sb_lexicon.specs.declared.reading.ReadFault.{ReadFault}
use Rattle.sb_lexicon.specs.Meaning.{IsFault}
use Rattle.sb_lexicon.specs.Words.{Nothing}
use Rattle.sb_derivation.specs.declared.arrays.FoundPiece.{FoundPiece}
use Rattle.sb_derivation.specs.declared.members.Declarations as declared_declarations
use Rattle.sb_derivation.specs.declared.members.DeclList.{DeclList}
use Rattle.sb_derivation.specs.declared.members.FoundDecl.{FoundDecl}
use Rattle.sb_derivation.specs.declared.untyped.Untyped.{Untyped}
use Rattle.sb_specifier.specs.Readers.{Declarations}
use Rattle.sb_specifier.specs.Specified.{Specified}

abbrev pub ReadsPiece : Outcome Token Piece → Result FoundPiece ReadFault → Type 0
ReadsPiece o (Ok p) = (o ≡ done (plain_piece p.piece) p.rest.now) × (p.depth ≡ depth_of_piece (plain_piece p.piece))
ReadsPiece o (Err e) = IsFault o e

-- specifiers that say nothing of a type
abbrev pub plain_untyped : Untyped → Specified
plain_untyped s = record { said = Nothing; constant = s.constant; storage = s.storage; types = s.types }

abbrev pub plain_declarations : declared_declarations.Declarations → Declarations
plain_declarations ds = record { list = plain_decls ds.list.items; types = ds.types }

abbrev pub AreKnown : declared_declarations.Declarations → Type 0
AreKnown ds = ds.depth ≡ depth_of_decls (decl_list (plain_decls ds.list.items))

abbrev pub ReadsDeclarations : Outcome Token Declarations → Result (Read declared_declarations.Declarations) ReadFault → Type 0
ReadsDeclarations o (Ok r) = (o ≡ done (plain_declarations r.value) r.rest.now) × AreKnown r.value
ReadsDeclarations o (Err e) = IsFault o e

abbrev pub IsDeclKnown : FoundDecl → Type 0
IsDeclKnown d = d.depth ≡ depth_of_decl (plain_decl d.tree)

abbrev pub ReadsDecl : Outcome Token DeclTree → Result FoundDecl ReadFault → Type 0
ReadsDecl o (Ok d) = (o ≡ done (plain_decl d.tree) d.rest.now) × IsDeclKnown d
ReadsDecl o (Err e) = IsFault o e

abbrev pub IsListKnown : DeclList → Type 0
IsListKnown ds = ds.depth ≡ depth_of_decls (decl_list (plain_decls ds.list.items))

abbrev pub ReadsDecls : Outcome Token (List DeclTree) → Result DeclList ReadFault → Type 0
ReadsDecls o (Ok ds) = (o ≡ done (plain_decls ds.list.items) ds.rest.now) × IsListKnown ds
ReadsDecls o (Err e) = IsFault o e

-- the same beside the typedef names in force
abbrev pub ReadsMembers : List Name → Outcome Token Declarations → Result DeclList ReadFault → Type 0
ReadsMembers types o (Ok ds) = (o ≡ done (record { list = plain_decls ds.list.items; types = types }) ds.rest.now) × IsListKnown ds
ReadsMembers types o (Err e) = IsFault o e
