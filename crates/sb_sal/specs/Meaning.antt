-- What the values of the readers in code stand for in the definitions, and what a reader in code owes the reader that it computes.
use Rattle.std.specs.Prelude.{◌≡◌, ℕ, Bool, List, Result, Ok, Err}
use Rattle.sb_base.specs.declared.tokens.Token.{Token}
use Rattle.sb_parse.specs.Parser.{Outcome, Parser, done}
use Rattle.sb_tree.specs.Plain.{plain_expr, plain_arg, plain_args, plain_note, plain_notes, arg_list, note_list}
use Rattle.sb_tree.specs.Trees.{ExprTree, ArgTree, NoteTree, depth_of_expr, depth_of_arg, depth_of_args, depth_of_note, depth_of_notes}
use Rattle.sb_lexicon.specs.declared.reading.ReadFault.{ReadFault}
use Rattle.sb_lexicon.specs.Lexicon.{Lexicon}
use Rattle.sb_lexicon.specs.Meaning.{IsFault}
use Rattle.sb_sal.specs.declared.bearer.Bearer.{Bearer}
use Rattle.sb_sal.specs.declared.lexemes.Head as declared_head
use Rattle.sb_sal.specs.declared.trees.FoundNote.{FoundNote}
use Rattle.sb_sal.specs.declared.trees.NoteList.{NoteList}
use Rattle.sb_sal.specs.declared.trees.Argument.{Argument}
use Rattle.sb_sal.specs.declared.trees.ArgumentList.{ArgumentList}
use Rattle.sb_sal.specs.declared.trees.Location.{Location}
use Rattle.sb_sal.specs.Readers.{Head, note_reader}
use Rattle.sb_sal.specs.Spellings.{may_stand}

abbrev pub plain_head : declared_head.Head → Head
plain_head h = record { name = h.name; place = h.place; arguments = h.arguments }

-- ---- what was read

abbrev pub IsLocationKnown : Location → Type 0
IsLocationKnown l = l.depth ≡ depth_of_expr (plain_expr l.tree)

abbrev pub ReadsLocation : Outcome Token ExprTree → Result Location ReadFault → Type 0
ReadsLocation o (Ok l) = (o ≡ done (plain_expr l.tree) l.rest.now) × IsLocationKnown l
ReadsLocation o (Err e) = IsFault o e

abbrev pub IsArgumentKnown : Argument → Type 0
IsArgumentKnown a = a.depth ≡ depth_of_arg (plain_arg a.tree)

abbrev pub ReadsArgument : Outcome Token ArgTree → Result Argument ReadFault → Type 0
ReadsArgument o (Ok a) = (o ≡ done (plain_arg a.tree) a.rest.now) × IsArgumentKnown a
ReadsArgument o (Err e) = IsFault o e

abbrev pub AreArgumentsKnown : ArgumentList → Type 0
AreArgumentsKnown a = a.depth ≡ depth_of_args (arg_list (plain_args a.list.items))

abbrev pub ReadsArguments : Outcome Token (List ArgTree) → Result ArgumentList ReadFault → Type 0
ReadsArguments o (Ok a) = (o ≡ done (plain_args a.list.items) a.rest.now) × AreArgumentsKnown a
ReadsArguments o (Err e) = IsFault o e

abbrev pub IsNoteKnown : FoundNote → Type 0
IsNoteKnown n = n.depth ≡ depth_of_note (plain_note n.tree)

abbrev pub ReadsNote : Outcome Token NoteTree → Result FoundNote ReadFault → Type 0
ReadsNote o (Ok n) = (o ≡ done (plain_note n.tree) n.rest.now) × IsNoteKnown n
ReadsNote o (Err e) = IsFault o e

abbrev pub AreNotesKnown : NoteList → Type 0
AreNotesKnown ns = ns.depth ≡ depth_of_notes (note_list (plain_notes ns.list.items))

abbrev pub ReadsNotes : Outcome Token (List NoteTree) → Result NoteList ReadFault → Type 0
ReadsNotes o (Ok ns) = (o ≡ done (plain_notes ns.list.items) ns.rest.now) × AreNotesKnown ns
ReadsNotes o (Err e) = IsFault o e

-- a reader whose annotations may be so deep, of those that may stand on a declaration of this kind
abbrev pub noted : {X : Type 0} → (Lexicon → ℕ → ((Token → Bool) → Parser Token NoteTree) → (Token → Bool) → X) → Lexicon → ℕ → Bearer → X
noted f w below bearer = f w below (note_reader w below) (may_stand w bearer)
