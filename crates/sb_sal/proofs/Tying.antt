-- What a call answers that reads annotations, in the grammar's words.
use Rattle.std.proofs.Common.{◌≡◌, ℕ, List, drop, Result, Ok, Err, inl, false}
use Rattle.std.specs.declared.alloc.Global.{Global}
use Rattle.std.specs.declared.vec.Vec.{Vec}
use Rattle.sb_base.specs.declared.refusals.Stop.{Stop}
use Rattle.sb_base.specs.declared.refusals.Stop.TheVariants.{Refused, Memory}
use Rattle.sb_base.specs.declared.tokens.Token.{Token}
use Rattle.sb_parse.specs.Parser.{at_next}
use Rattle.sb_parse.specs.Read.{HasOneTree, IsLongest}
use Rattle.sb_tree.specs.declared.syntax.Note.{Note}
use Rattle.sb_tree.specs.Plain.{plain_notes}
use Rattle.sb_lexicon.specs.Lexicon.{Lexicon}
use Rattle.sb_lexicon.specs.Outcomes.{IsLongestRead}
use Rattle.sb_sal.specs.declared.bearer.Bearer.{Bearer}
use Rattle.sb_sal.specs.declared.bearer.Bearer.TheVariants as bearer
use Rattle.sb_sal.specs.Notes.{AreNotes}
use Rattle.sb_sal.specs.Reads.{FitsNotes, IsNotesRead}
use Rattle.sb_sal.specs.Reasons.{shows_more, HasNoteReason}
use Rattle.sb_sal.specs.Spellings.{may_stand}
use Rattle.sb_sal.proofs.Annotations.{notes_longest, notes_refused}
use Rattle.sb_sal.proofs.Filled.{filled}
use Rattle.sb_sal.proofs.NoteReasons.{notes_reason}
use Rattle.sb_sal.proofs.Unique.{one_list}
use Rattle.sb_sal.proofs.Whole.{longest_list}

module _ (w : Lexicon) where
  pub notes_read : (tokens : List Token) (next left now : ℕ) (result : Result (Vec Note Global) Stop) → IsNotesRead w tokens next left now result
      → IsLongestRead (FitsNotes w left (may_stand w bearer.Any)) (λ ns v. ns ≡ plain_notes v.items) tokens next now result
  notes_read tokens next left now (Ok v) is = (is.0, notes_longest w left (may_stand w bearer.Any) (filled w bearer.Any) (drop next tokens) is.0 (drop now tokens) is.1, is.2)
  notes_read tokens next left now (Err (Refused r)) is = (is.number, is.left, is.is, inl (notes_refused w left (may_stand w bearer.Any) (filled w bearer.Any) (drop next tokens) is.number is.left is.stops))
  notes_read tokens next left now (Err Memory) is = tt

  pub notes_have_reason : (tokens : List Token) (next left now : ℕ) (result : Result (Vec Note Global) Stop) → IsNotesRead w tokens next left now result
      → HasNoteReason w left (may_stand w bearer.Any) (λ ns v. ns ≡ plain_notes v.items) tokens next now result
  notes_have_reason tokens next left now (Ok v) is =
      let all : IsLongest (AreNotes w (may_stand w bearer.Any)) (drop next tokens) is.0 (drop now tokens) × (at_next (shows_more w is.0) (drop now tokens) ≡ false) =
      longest_list w (may_stand w bearer.Any) (filled w bearer.Any) left (drop next tokens) is.0 (drop now tokens) is.1 in
      (is.0, all.0, all.1, is.2)
  notes_have_reason tokens next left now (Err (Refused r)) is = record {
    number = is.number;
    left = is.left;
    is = is.is;
    stops = is.stops;
    refused = notes_refused w left (may_stand w bearer.Any) (filled w bearer.Any) (drop next tokens) is.number is.left is.stops;
    because = notes_reason w left (may_stand w bearer.Any) (filled w bearer.Any) (drop next tokens) is.number is.left is.stops;
  }
  notes_have_reason tokens next left now (Err Memory) is = tt

  -- no list of tokens is two lists of annotations
  pub one_list_of_notes : (b : Bearer) → HasOneTree (AreNotes w (may_stand w b))
  one_list_of_notes b = one_list w (may_stand w b)
