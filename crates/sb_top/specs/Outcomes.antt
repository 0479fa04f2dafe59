-- which text a call writes, under which status, where nothing fails
use Rattle.std.specs.Prelude.{◌≡◌, ℕ, ◌⊎◌, List, [], nat_eq, Option, Some, None, if◌then◌else◌}
use Rattle.sb_base.specs.declared.refusals.Place.{Place}
use Rattle.sb_base.specs.declared.refusals.Refusal.{Refusal}
use Rattle.sb_base.specs.declared.tokens.Token.{Token}
use Rattle.sb_term.specs.AnswerOf.{answer_of}
use Rattle.sb_top.specs.declared.status.Status.{Status}
use Rattle.sb_top.specs.declared.status.Status.TheVariants.{Clean, Warned, Refused, Usage}
use Rattle.sb_store.specs.declared.warning.Warning.{Warning}
use Rattle.sb_function.specs.Syntax.{FunctionTree}
use Rattle.sb_judge.specs.Walks.{report}
use Rattle.sb_top.specs.Texts.{usage, refusal, count_of, report_text}
use Rattle.sb_picture.specs.Contract.{AreSafe}
use Rattle.sb_top.specs.Words.{files_of_words}
use Rattle.sb_top.specs.Sets.{most_names, Ending, Whole, Stopped, AreUnits, AreRead, IsUnreadAt}

-- a report is clean exactly where it has no warning
abbrev pub status_of : List (List Warning) → Status
status_of reports = if nat_eq (count_of reports) 0 then Clean else Warned

-- what is written of units that read: the report of their functions, whose questions the elimination answers
pub record IsReported (texts files : List (List ℕ)) (units : List (List Token)) (status : Status) (text : List ℕ) : Type 0 where
  pub functions : List FunctionTree
  pub are_read : AreRead texts units functions
  pub status_is : status ≡ status_of (report answer_of functions)
  pub text_is : text ≡ report_text files texts (report answer_of functions)

-- what is no text of the grammar that is checked, at a place, is not built yet
abbrev pub not_built_yet : Place → Refusal
not_built_yet at = record { number = 33; place = at; feature = 17 }

-- what is written of units of which one does not read
pub record IsUnread (texts files : List (List ℕ)) (units : List (List Token)) (status : Status) (text : List ℕ) : Type 0 where
  pub place : Place
  pub is_unread : IsUnreadAt texts units place
  pub status_is : status ≡ Refused
  pub text_is : text ≡ refusal files (not_built_yet place)

-- what is written of units by how they end
abbrev pub IsEndOf : List (List ℕ) → List (List ℕ) → List (List Token) → Ending → Status → List ℕ → Type 0
IsEndOf texts files units Whole status text = IsReported texts files units status text ⊎ IsUnread texts files units status text
IsEndOf texts files units (Stopped r) status text = (status ≡ Refused) × (text ≡ refusal files r)

-- what is written of some files: their units begin without names and without files
pub record IsOutcome (held : Option (List ℕ → Option (List ℕ))) (names : List (List ℕ)) (status : Status) (text : List ℕ) : Type 0 where
  pub texts : List (List ℕ)
  pub files : List (List ℕ)
  pub units : List (List Token)
  pub end : Ending
  pub are_units : AreUnits held most_names [] [] names units texts files end
  pub is_end : IsEndOf texts files units end status text

-- what is written where the words ask for these files, or are no command
abbrev pub IsAnswer : Option (List ℕ → Option (List ℕ)) → Option (List (List ℕ)) → Status → List ℕ → Type 0
IsAnswer held None status text = (status ≡ Usage) × (text ≡ usage)
IsAnswer held (Some names) status text = IsOutcome held names status text

abbrev pub IsDefined : Option (List ℕ → Option (List ℕ)) → List (List ℕ) → Status → List ℕ → Type 0
IsDefined held words status text = IsAnswer held (files_of_words words) status text

-- where a library tells its content, one text is defined, under one status
abbrev pub HasOneOutcome : (List ℕ → Option (List ℕ)) → List (List ℕ) → Type 0
HasOneOutcome held words = (status other : Status) (text more : List ℕ) → IsDefined (Some held) words status text → IsDefined (Some held) words other more → (status ≡ other) × (text ≡ more)

-- these are the functions of the files that the words ask for, as a map from names to bytes holds them
pub record IsSet (held : List ℕ → Option (List ℕ)) (words : List (List ℕ)) (functions : List FunctionTree) : Type 0 where
  pub names : List (List ℕ)
  pub texts : List (List ℕ)
  pub files : List (List ℕ)
  pub units : List (List Token)
  pub asked : files_of_words words ≡ Some names
  pub are_units : AreUnits (Some held) most_names [] [] names units texts files Whole
  pub are_read : AreRead texts units functions

-- the functions that the words ask for are there, and each is safe
abbrev pub AreSafeIn : (List ℕ → Option (List ℕ)) → List (List ℕ) → Type 0
AreSafeIn held words = (functions : List FunctionTree) × IsSet held words functions × AreSafe functions
