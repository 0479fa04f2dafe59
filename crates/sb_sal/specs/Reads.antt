-- What reading annotations comes to, in the subject's words.
use Rattle.std.specs.Prelude.{◌≡◌, ℕ, ◌≤◌, Bool, true, List, drop, Result, Some}
use Rattle.std.specs.declared.alloc.Global.{Global}
use Rattle.std.specs.declared.vec.Vec.{Vec}
use Rattle.sb_base.specs.declared.refusals.Stop.{Stop}
use Rattle.sb_base.specs.declared.tokens.Token.{Token}
use Rattle.sb_tree.specs.declared.syntax.Note.{Note}
use Rattle.sb_tree.specs.Plain.{note_list, plain_notes}
use Rattle.sb_tree.specs.Trees.{NoteTree, depth_of_note, depth_of_notes}
use Rattle.sb_lexicon.specs.Lexicon.{Lexicon}
use Rattle.sb_lexicon.specs.Outcomes.{IsOutcome}
use Rattle.sb_sal.specs.declared.bearer.Bearer.TheVariants as bearer
use Rattle.sb_sign.specs.declared.spelling.Arguments.TheVariants as arguments
use Rattle.sb_sal.specs.Notes.{IsNote, AreNotes}
use Rattle.sb_sal.specs.Readers.{is_bare, notes_reader}
use Rattle.sb_sal.specs.Spellings.{arguments_of, may_stand}

-- an annotation whose tree is at most so deep
abbrev pub FitsNote : Lexicon → ℕ → (Token → Bool) → List Token → NoteTree → Type 0
FitsNote w left may ts n = IsNote w may ts n × (depth_of_note n ≤ left)

-- annotations whose trees are at most so deep
abbrev pub FitsNotes : Lexicon → ℕ → (Token → Bool) → List Token → List NoteTree → Type 0
FitsNotes w left may ts ns = AreNotes w may ts ns × (depth_of_notes (note_list ns) ≤ left)

-- some annotation without arguments may stand there
pub record HasBare (w : Lexicon) (may : Token → Bool) : Type 0 where
  pub token : Token
  pub may_stand : may token ≡ true
  pub alone : is_bare w token ≡ true

-- where an annotation may stand that takes another one, there is one without arguments to stand inside
pub record IsFillable (w : Lexicon) (may : Token → Bool) : Type 0 where
  pub note : (t : Token) → may t ≡ true → arguments_of w t ≡ Some arguments.Note → HasBare w may
  pub guarded : (t : Token) → may t ≡ true → arguments_of w t ≡ Some arguments.GuardedNote → HasBare w may

-- the annotations with which the tokens from a place on begin, or their refusal; any may stand there
abbrev pub IsNotesRead : Lexicon → List Token → (next left now : ℕ) → Result (Vec Note Global) Stop → Type 0
IsNotesRead w tokens next left now result = IsOutcome (λ ns v. ns ≡ plain_notes v.items) (notes_reader w left (may_stand w bearer.Any) (drop next tokens)) tokens now result
