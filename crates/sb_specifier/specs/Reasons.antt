-- Why a list of tokens is refused as a declaration.
use Rattle.std.specs.Prelude.{◌≡◌, ◌≤◌, ℕ, suc, ◌+◌, Bool, true, false, ◌&&◌, ◌||◌, not, List, [], ◌∷◌, ◌++◌, length, drop, nat_eq, Result, Ok, Err, if◌then◌else◌}
use Rattle.sb_base.specs.declared.interning.Name.{Name}
use Rattle.sb_base.specs.declared.refusals.Refusal.{Refusal}
use Rattle.sb_base.specs.declared.refusals.Stop.{Stop}
use Rattle.sb_base.specs.declared.refusals.Stop.TheVariants.{Refused, Memory}
use Rattle.sb_base.specs.declared.tokens.Token.{Token}
use Rattle.sb_sign.specs.declared.sign.Keyword.TheVariants as keyword
use Rattle.sb_sign.specs.declared.sign.Mark.TheVariants as mark
use Rattle.sb_tree.specs.Trees.{NoteTree}
use Rattle.sb_expr.specs.Expression.{Level, IsExpr}
use Rattle.sb_lexicon.specs.Lexicon.{Lexicon, is_mark, is_keyword, is_type_name}
use Rattle.sb_operand.specs.Readers.{begins_abstract}
use Rattle.sb_lexicon.specs.Tokens.{unexpected, too_deep, lacks, misplaced_before, too_many_parameters, is_open, is_close, is_open_brace, is_comma, is_colon}
use Rattle.sb_lexicon.specs.Outcomes.{IsStop}
use Rattle.sb_lexicon.specs.Reasons as expression
use Rattle.sb_sal.specs.declared.bearer.Bearer.{Bearer}
use Rattle.sb_sal.specs.declared.bearer.Bearer.TheVariants as bearer
use Rattle.sb_sal.specs.Notes.{AreNotes}
use Rattle.sb_sal.specs.Reasons.{IsNoteReason}
use Rattle.sb_sal.specs.Spellings.{begins_note, is_listed, may_stand}
use Rattle.sb_specifier.specs.Specified.{reading, declares_function, bearer_of}
use Rattle.sb_specifier.specs.Declaration.{IsDeclarator, AreSome}
use Rattle.sb_specifier.specs.Readers.{Declarator, Declarations, is_assign, is_name, is_semicolon, shows_object, begins_declaration, begins_parameter, begins_designator, goes_on_void, makes_room}

-- a token that may show a feature that the profile leaves out: beside those of expressions and types bit-fields, variable arguments, definitions of the old style, designators

abbrev pub shows : Lexicon → ℕ → Token → Bool
shows w feature t =
    if nat_eq feature 3 then is_colon w t
    else (if nat_eq feature 4 then is_open w t || (is_close w t || begins_parameter w t)
    else (if nat_eq feature 6 then is_mark w mark.Ellipsis t
    else (if nat_eq feature 9 then is_close w t || (is_name w t && not (is_type_name w t || begins_note w t))
    else (if nat_eq feature 15 then begins_designator w t
    else expression.shows w feature t))))

-- with this token begins a specifier or an annotation, a declarator or a part of one, what stands in braces, or an initialiser
abbrev pub needs_room : Lexicon → Token → Bool
needs_room w t = begins_declaration w t || (begins_abstract w t || (is_open_brace w t || is_assign w t))

-- a token of the list makes room for a parameter more
abbrev pub has_room : List Token → Bool
has_room [] = false
has_room (t ∷ ts) = makes_room t || has_room ts

-- behind 32 parameters and a comma one more begins
pub record AreTooMany (texts : List (List ℕ)) (front bad : List Token) : Type 0 where
  pub before : List Token
  pub parameters : List Token
  pub comma : Token
  pub first : Token
  pub rest : List Token
  pub types : List Name
  pub trees : Declarations
  pub split : front ≡ before ++ (parameters ++ (comma ∷ []))
  pub are : AreSome texts types parameters trees
  pub full : 32 ≤ length trees.list
  -- more than 32 only in tokens that no file spells
  pub just : has_room parameters ≡ false → length trees.list ≡ 32
  pub is_one : is_comma (reading texts trees.types) comma ≡ true
  pub goes_on : bad ≡ first ∷ rest
  pub begins : begins_parameter (reading texts trees.types) first ≡ true

-- the tokens behind annotations, at their end a declarator, with the token behind it, or that token alone declare something of this kind
pub data Declares (texts : List (List ℕ)) : Bearer → List Token → List Token → Type 0 where
  a_name : (types : List Name) (functions : Bool) (before ts rest : List Token) (c : Token) (d : Declarator) → IsDeclarator texts types functions false ts d → shows_object (reading texts []) c ≡ true
      → Declares texts (bearer_of (declares_function d.pieces)) (before ++ ts) (c ∷ rest)
  no_name : (shown rest : List Token) (c : Token) → is_semicolon (reading texts []) c ≡ true → Declares texts bearer.Object shown (c ∷ rest)

-- an annotation that began so many tokens before may not stand on what is declared
pub record IsMisplaced (texts : List (List ℕ)) (front bad : List Token) (count : ℕ) : Type 0 where
  pub before : List Token
  -- the tokens of annotations: a listed word, and those before and behind it
  pub ahead : List Token
  pub note : Token
  pub others : List Token
  -- the tokens behind the annotations
  pub shown : List Token
  -- some typedef names, by which the annotations are read
  pub outer : List Name
  pub notes : List NoteTree
  pub declared : Bearer
  pub split : front ≡ before ++ ((ahead ++ (note ∷ others)) ++ shown)
  pub counted : suc (length others) + length shown ≡ count
  pub are_notes : AreNotes (reading texts outer) (may_stand (reading texts outer) bearer.Function) (ahead ++ (note ∷ others)) notes
  pub listed : is_listed (reading texts outer) note ≡ true
  pub not_there : may_stand (reading texts outer) declared note ≡ false
  pub declares : Declares texts declared shown bad

-- Behind the first tokens of declarations a list goes on badly. `now`: some typedef names, by which the token at the place is read.
pub data IsDeclarationReason (texts : List (List ℕ)) (front bad : List Token) : ℕ → Type 0 where
  in_notes : (now : List Name) (bearer : Bearer) (before behind : List Token) (n : ℕ) → front ≡ before ++ behind → IsNoteReason (reading texts now) (may_stand (reading texts now) bearer) behind bad n → IsDeclarationReason texts front bad n
  in_expression : (now : List Name) (level : Level) (before behind : List Token) (n : ℕ) → front ≡ before ++ behind → expression.IsReason (reading texts now) (IsExpr (reading texts now) level) behind bad n
      → IsDeclarationReason texts front bad n
  feature : (now : List Name) (n : ℕ) (t : Token) (rest : List Token) → bad ≡ t ∷ rest → shows (reading texts now) n t ≡ true → IsDeclarationReason texts front bad (lacks n)
  -- something for which there is no room
  deeper : (now : List Name) (t : Token) (rest : List Token) → bad ≡ t ∷ rest → needs_room (reading texts now) t ≡ true → IsDeclarationReason texts front bad too_deep
  -- a parameter of which `void` is the first specifier, and for which there is no room
  behind_void : (now : List Name) (before : List Token) (v t : Token) (rest : List Token) → front ≡ before ++ (v ∷ []) → is_keyword (reading texts now) keyword.Void v ≡ true → bad ≡ t ∷ rest → goes_on_void (reading texts now) t ≡ true
      → IsDeclarationReason texts front bad too_deep
  too_many : AreTooMany texts front bad → IsDeclarationReason texts front bad too_many_parameters
  misplaced : (count : ℕ) → IsMisplaced texts front bad count → IsDeclarationReason texts front bad (misplaced_before count)
  -- the end, or any other token; that no text goes on is a lemma
  no_text : IsDeclarationReason texts front bad unexpected

-- a list is refused for a reason, at the first of its last `left` tokens
pub record IsRefusedDeclaration (texts : List (List ℕ)) (ts : List Token) (n left : ℕ) : Type 0 where
  pub front : List Token
  pub bad : List Token
  pub split : ts ≡ front ++ bad
  pub left_is : left ≡ length bad
  pub reason : IsDeclarationReason texts front bad n

-- the refusal of a list of tokens whose last part `ts` is read as a declaration
pub record IsRefusedDeclarationBecause (texts : List (List ℕ)) (tokens ts : List Token) (r : Refusal) : Type 0 where
  pub number : ℕ
  pub left : ℕ
  pub is : IsStop tokens number left r
  pub because : IsRefusedDeclaration texts ts number left

-- a refusal that a call answers has a reason
abbrev pub HasDeclarationReason : {E : Type 0} → List (List ℕ) → List Token → ℕ → Result E Stop → Type 0
HasDeclarationReason texts tokens next (Ok e) = Unit {0}
HasDeclarationReason texts tokens next (Err (Refused r)) = IsRefusedDeclarationBecause texts tokens (drop next tokens) r
HasDeclarationReason texts tokens next (Err Memory) = Unit {0}
