-- Why a list goes on badly behind the first tokens of a translation unit.
use Rattle.std.specs.Prelude.{◌≡◌, ℕ, Bool, true, false, List, [], ◌∷◌, ◌++◌}
use Rattle.sb_base.specs.declared.interning.Name.{Name}
use Rattle.sb_base.specs.declared.tokens.Token.{Token}
use Rattle.sb_parse.specs.Parser.{at_next}
use Rattle.sb_lexicon.specs.Tokens.{unexpected, too_deep, unknown_before, misplaced_before, is_open, is_colon}
use Rattle.sb_sal.specs.Spellings.{is_listed, is_unlisted}
use Rattle.sb_specifier.specs.Specified.{reading}
use Rattle.sb_specifier.specs.Reasons.{IsDeclarationReason}
use Rattle.sb_statement.specs.Readers.{begins_statement, goes_on_type, is_misplaced}

-- Behind the first tokens of a unit a list goes on badly. `now`: some typedef names, by which the tokens at the place are read.
pub data IsUnitReason (texts : List (List ℕ)) (front bad : List Token) : ℕ → Type 0 where
  in_declaration : (before behind : List Token) (n : ℕ) → front ≡ before ++ behind → IsDeclarationReason texts behind bad n → IsUnitReason texts front bad n
  -- a statement, for which there is no room; `cases`: in the block of a `switch`
  deeper : (now : List Name) (cases : Bool) (t : Token) (rest : List Token) → bad ≡ t ∷ rest → begins_statement (reading texts now) cases t ≡ true → IsUnitReason texts front bad too_deep
  -- a declaration that goes on so behind some token, or with `(` behind a listed annotation, and for which there is no room
  deeper_type : (now : List Name) (before rest : List Token) (t s : Token) → front ≡ before ++ (t ∷ []) → bad ≡ s ∷ rest → goes_on_type (reading texts now) s ≡ true → IsUnitReason texts front bad too_deep
  deeper_note : (now : List Name) (before rest : List Token) (t s : Token) → front ≡ before ++ (t ∷ []) → bad ≡ s ∷ rest → is_listed (reading texts now) t ≡ true → is_open (reading texts now) s ≡ true → IsUnitReason texts front bad too_deep
  -- a word that looks like an annotation and is none, and is no label, as no colon follows
  no_annotation : (now : List Name) (before : List Token) (t : Token) → front ≡ before ++ (t ∷ []) → is_unlisted (reading texts now) t ≡ true → at_next (is_colon (reading texts now)) bad ≡ false → IsUnitReason texts front bad unknown_before
  -- an annotation that stands on no function, and is no label
  no_place : (now : List Name) (before : List Token) (t : Token) → front ≡ before ++ (t ∷ []) → is_misplaced (reading texts now) t ≡ true → at_next (is_colon (reading texts now)) bad ≡ false → IsUnitReason texts front bad (misplaced_before 1)
  -- the end of the list, or a token with which no unit goes on, however deep: see `at_every_depth`
  no_text : IsUnitReason texts front bad unexpected
