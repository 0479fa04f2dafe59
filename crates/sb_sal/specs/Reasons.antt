-- Why a list of tokens is refused as annotations.
use Rattle.std.specs.Prelude.{◌≡◌, ℕ, Bool, true, false, ◌&&◌, ◌||◌, List, [], ◌∷◌, ◌++◌, length, drop, Option, Some, None, Result, Ok, Err}
use Rattle.sb_base.specs.declared.refusals.Refusal.{Refusal}
use Rattle.sb_base.specs.declared.refusals.Stop.{Stop}
use Rattle.sb_base.specs.declared.refusals.Stop.TheVariants.{Refused, Memory}
use Rattle.sb_base.specs.declared.tokens.Token.{Token}
use Rattle.sb_parse.specs.Parser.{stop, at_next}
use Rattle.sb_parse.specs.Read.{IsLongest, IsRefused}
use Rattle.sb_tree.specs.Trees as tree
use Rattle.sb_tree.specs.Trees.{ExprTree, NoteTree, ArgTree}
use Rattle.sb_expr.specs.Expression.{Assignment, IsExpr}
use Rattle.sb_lexicon.specs.Lexicon.{Lexicon}
use Rattle.sb_lexicon.specs.Tokens.{unexpected, too_deep, is_open, is_close, is_comma, is_star, begins_expr, bad_arguments, unknown, misplaced, bad_kind}
use Rattle.sb_lexicon.specs.Outcomes.{GoesOn, IsStop}
use Rattle.sb_lexicon.specs.Reasons.{IsReason}
use Rattle.sb_sign.specs.declared.spelling.Arguments.{Arguments}
use Rattle.sb_sign.specs.declared.spelling.Arguments.TheVariants as arguments
use Rattle.sb_sal.specs.Notes.{inside, IsLocation, IsValue, AreArguments, AreNotes}
use Rattle.sb_sal.specs.Readers.{is_bare, is_arrow, is_place_name, continues, notes_reader}
use Rattle.sb_sal.specs.Reads.{FitsNotes}
use Rattle.sb_sal.specs.Spellings.{begins_note, arguments_of, is_listed, is_unlisted, is_mem}

-- what may come next in the arguments of an annotation
pub data Expected : Type 0 where
  -- a size or a condition
  AValue : Expected
  ALocation : Expected
  -- the word `Mem`
  TheMemory : Expected
  ANote : Expected
  AComma : Expected
  AClose : Expected

abbrev pub first_of : Arguments → Expected
first_of arguments.Nothing = AClose
first_of arguments.Memory = TheMemory
first_of arguments.Note = ANote
first_of arguments.LocatedNote = ALocation
first_of _ = AValue

abbrev pub second_of : Arguments → Option Expected
second_of arguments.Sizes = Some AValue
second_of arguments.GuardedNote = Some ANote
second_of arguments.LocatedNote = Some ANote
second_of _ = None

-- the first of two arguments
pub data IsFirst (w : Lexicon) : Expected → List Token → Type 0 where
  value : (ts : List Token) (a : ArgTree) → IsValue w ts a → IsFirst w AValue ts
  location : (ts : List Token) (e : ExprTree) → IsLocation w ts e → IsFirst w ALocation ts

-- behind the parenthesis and these tokens of arguments of this kind comes that
pub data Awaits (w : Lexicon) : Arguments → List Token → Expected → Type 0 where
  first : (a : Arguments) → Awaits w a [] (first_of a)
  comma : (a : Arguments) (ts : List Token) (x : Expected) → second_of a ≡ Some x → IsFirst w (first_of a) ts → Awaits w a ts AComma
  second : (a : Arguments) (ts : List Token) (c : Token) (x : Expected) → second_of a ≡ Some x → IsFirst w (first_of a) ts → is_comma w c ≡ true → Awaits w a (ts ++ (c ∷ [])) x
  close : (may : Token → Bool) (a : Arguments) (ts : List Token) (args : List ArgTree) → AreArguments w may a ts args → Awaits w a ts AClose

-- The token shows another number or kind of arguments: an argument is missing at `)`, and one too many begins behind `,`;
-- an annotation stands for a size or a condition, and what begins an expression for a location, the word `Mem` or an annotation.
-- Right tokens pass too; that this one goes nowhere is said by `at_every_depth`.
abbrev pub shows_other : Lexicon → Expected → Token → Bool
shows_other w AValue t = is_close w t || is_listed w t
shows_other w AComma t = is_close w t
shows_other w AClose t = is_comma w t
shows_other w _ t = is_close w t || begins_expr (inside w) t

-- The first argument is no location or `Mem`: the token behind these tokens of it makes another expression.
-- Right tokens pass too, as `->` behind a name; that this one goes nowhere is said by `at_every_depth`.
pub data GoesElsewhere (w : Lexicon) : Arguments → List Token → Token → Type 0 where
  from_location : (ts : List Token) (e : ExprTree) (t : Token) → IsLocation w ts e → continues w t ≡ true → GoesElsewhere w arguments.LocatedNote ts t
  from_star : (s t : Token) → is_star w s ≡ true → is_place_name w t ≡ false → begins_expr (inside w) t ≡ true → GoesElsewhere w arguments.LocatedNote (s ∷ []) t
  from_memory : (s t : Token) → is_mem w s ≡ true → continues w t ≡ true → GoesElsewhere w arguments.Memory (s ∷ []) t

-- the token behind the front shows another number or kind of arguments
pub data IsBadArguments (w : Lexicon) (front bad : List Token) : Type 0 where
  -- `(` behind an annotation without arguments
  takes_nothing : (before rest : List Token) (t o : Token) → front ≡ before ++ (t ∷ []) → bad ≡ o ∷ rest → is_bare w t ≡ true → is_open w o ≡ true → IsBadArguments w front bad
  -- another token than `(` behind an annotation with arguments
  takes_something : (before rest : List Token) (t s : Token) → front ≡ before ++ (t ∷ []) → bad ≡ s ∷ rest → is_listed w t ≡ true → is_bare w t ≡ false → is_open w s ≡ false → IsBadArguments w front bad
  -- in the arguments of an annotation
  shown_by : (before args rest : List Token) (t o s : Token) (a : Arguments) (x : Expected) → front ≡ before ++ (t ∷ (o ∷ args)) → bad ≡ s ∷ rest → arguments_of w t ≡ Some a → is_open w o ≡ true
      → Awaits w a args x → shows_other w x s ≡ true → IsBadArguments w front bad

-- the first argument of an annotation began so many tokens before, and the token behind them shows that it is of another kind
pub record IsBadKind (w : Lexicon) (front bad : List Token) (count : ℕ) : Type 0 where
  pub before : List Token
  pub shown : List Token
  pub rest : List Token
  pub name : Token
  pub opening : Token
  pub next : Token
  pub kind : Arguments
  pub split : front ≡ before ++ (name ∷ (opening ∷ shown))
  pub counted : length shown ≡ count
  pub goes_on : bad ≡ next ∷ rest
  pub takes : arguments_of w name ≡ Some kind
  pub opens : is_open w opening ≡ true
  pub elsewhere : GoesElsewhere w kind shown next

-- Behind the first tokens of annotations, which may stand where `may` says, a list goes on badly.
pub data IsNoteReason (w : Lexicon) (may : Token → Bool) (front bad : List Token) : ℕ → Type 0 where
  -- a word that looks like an annotation and is none
  no_annotation : (t : Token) (rest : List Token) → bad ≡ t ∷ rest → is_unlisted w t ≡ true → IsNoteReason w may front bad unknown
  -- an annotation that may not stand there
  no_place : (t : Token) (rest : List Token) → bad ≡ t ∷ rest → is_listed w t ≡ true → may t ≡ false → IsNoteReason w may front bad misplaced
  other_arguments : IsBadArguments w front bad → IsNoteReason w may front bad bad_arguments
  other_kind : (count : ℕ) → IsBadKind w front bad count → IsNoteReason w may front bad (bad_kind count)
  -- behind some tokens, as in an expression
  in_expression : (before behind : List Token) (n : ℕ) → front ≡ before ++ behind → IsReason (inside w) (IsExpr (inside w) Assignment) behind bad n → IsNoteReason w may front bad n
  -- an annotation, or `*` or `->` of a location, for which there is no room
  deeper : (t : Token) (rest : List Token) → bad ≡ t ∷ rest → (is_listed w t || (is_star w t || is_arrow w t)) ≡ true → IsNoteReason w may front bad too_deep
  -- the end of the list, or a token with which no annotations go on, however deep: see `at_every_depth`
  no_text : IsNoteReason w may front bad unexpected

-- a list is refused for a reason, at the first of its last `left` tokens
pub record IsRefusedNote (w : Lexicon) (may : Token → Bool) (ts : List Token) (n left : ℕ) : Type 0 where
  pub front : List Token
  pub bad : List Token
  pub split : ts ≡ front ++ bad
  pub left_is : left ≡ length bad
  pub reason : IsNoteReason w may front bad n
  -- a refusal that is not for want of depth holds at every depth: no list goes on there, however deep
  pub at_every_depth : (n ≡ too_deep → ⊥) → GoesOn (AreNotes w may) front bad → ⊥
  -- where the tokens end, they are no list of any depth
  pub at_end : (n ≡ too_deep → ⊥) → bad ≡ [] → (ns : List NoteTree) → AreNotes w may front ns → ⊥
  -- what stands before a 31 is no list of any depth, wherever the 31 stands
  pub unfinished : n ≡ unexpected → (ns : List NoteTree) → AreNotes w may front ns → ⊥
  -- for want of depth: a deeper list goes on there
  pub at_some_depth : n ≡ too_deep → GoesOn (AreNotes w may) front bad

-- The refusal of a list of tokens whose last part `ts` is read as annotations, which are at most `room` deep: all is said of one number and one token.
pub record AreRefusedBecause (w : Lexicon) (room : ℕ) (may : Token → Bool) (tokens ts : List Token) (r : Refusal) : Type 0 where
  pub number : ℕ
  pub left : ℕ
  pub is : IsStop tokens number left r
  pub stops : notes_reader w room may ts ≡ stop number left
  pub refused : IsRefused (FitsNotes w room may) ts left
  pub because : IsRefusedNote w may ts number left

abbrev pub is_alone : NoteTree → Bool
is_alone (tree.Note name tree.NoArgs place) = true
is_alone (tree.Note name (tree.MoreArgs a rest) place) = false

-- the last of the annotations is one without arguments
abbrev pub ends_alone : List NoteTree → Bool
ends_alone [] = false
ends_alone (n ∷ []) = is_alone n
ends_alone (n ∷ (m ∷ ns)) = ends_alone (m ∷ ns)

-- another word in the place of an annotation, or `(` behind an annotation without arguments
abbrev pub shows_more : Lexicon → List NoteTree → Token → Bool
shows_more w ns t = begins_note w t || (ends_alone ns && is_open w t)

-- What a call says of annotations of any depth: its answer is the longest list of all, and no token behind it is refused; a refusal has a reason. `gives ns e`: e is how the call answers ns.
abbrev pub HasNoteReason : {E : Type 0} → Lexicon → ℕ → (Token → Bool) → (List NoteTree → E → Type 0) → List Token → (next now : ℕ) → Result E Stop → Type 0
HasNoteReason w room may gives tokens next now (Ok e) =
    (ns : List NoteTree) × IsLongest (AreNotes w may) (drop next tokens) ns (drop now tokens) × (at_next (shows_more w ns) (drop now tokens) ≡ false) × gives ns e
HasNoteReason w room may gives tokens next now (Err (Refused r)) = AreRefusedBecause w room may tokens (drop next tokens) r
HasNoteReason w room may gives tokens next now (Err Memory) = Unit {0}
