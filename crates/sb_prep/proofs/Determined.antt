-- what has to have one answer, so that a unit has one outcome
use Rattle.std.proofs.Common.{◌≡◌, ℕ, Bool, List, Option}
use Rattle.sb_base.specs.declared.refusals.Place.{Place}
use Rattle.sb_base.specs.Names.{IsDistinct}
use Rattle.sb_base.specs.declared.tokens.Token.{Token}
use Rattle.sb_lex.specs.Lexing.{PiecesOf, End}
use Rattle.sb_lex.specs.declared.piece.PpToken.{PpToken}
use Rattle.sb_directive.specs.declared.directive.Branch.{Branch}
use Rattle.sb_directive.specs.Conditions.{HasTruth, HasNoTruth}
use Rattle.sb_directive.specs.Ending.{Ending}
use Rattle.sb_directive.specs.Rules.{Table, IsExpansion, HasStopped, IsDefinition, IsNoDefinition}
use Rattle.sb_prep.specs.Tokens.{Converts}
use Rattle.sb_prep.specs.Unit.{Progress, HasPart, After, GoesOn, Enters, Stops}

-- no text has two numbers, nor has a file
pub record AreDistinct (s : Progress) : Type 0 where
  pub texts : IsDistinct s.texts
  pub files : IsDistinct s.files

abbrev pub IsDistinctAfter : After → Type 0
IsDistinctAfter (GoesOn given after now) = AreDistinct now
IsDistinctAfter (Enters file inner now) = AreDistinct now
IsDistinctAfter (Stops number place now) = AreDistinct now

-- one thing follows each part of a file, and the tables stay distinct
pub record HaveOneAnswer (held : Option (List ℕ → Option (List ℕ))) (limit : ℕ) : Type 0 where
  pub one : {depth file : ℕ} {bs : List Branch} {s : Progress} {ps : List PpToken} {size : ℕ} {after other : After} → AreDistinct s
      → HasPart held limit depth file bs s ps size after → HasPart held limit depth file bs s ps size other → after ≡ other
  pub kept : {depth file : ℕ} {bs : List Branch} {s : Progress} {ps : List PpToken} {size : ℕ} {after : After} → AreDistinct s
      → HasPart held limit depth file bs s ps size after → IsDistinctAfter after

-- what macros, conditions, the reading of a text and the conversion of pieces give is determined, and they keep texts distinct
pub record AreSettled (limit : ℕ) : Type 0 where
  pub expansion : (texts : List (List ℕ)) (table : Table) (room : ℕ) (list out other : List PpToken) → IsExpansion texts table room list out → IsExpansion texts table room list other → other ≡ out
  pub no_stop : (texts : List (List ℕ)) (table : Table) (room : ℕ) (list out : List PpToken) (number : ℕ) (place : Place) → IsExpansion texts table room list out → HasStopped texts table room list number place → ⊥
  pub stop : (texts : List (List ℕ)) (table : Table) (room : ℕ) (list : List PpToken) (number n : ℕ) (place p : Place) → HasStopped texts table room list number place → HasStopped texts table room list n p → (n ≡ number) × (p ≡ place)
  pub definition : (texts : List (List ℕ)) (table new other : Table) (line : List PpToken) → IsDefinition texts table line new → IsDefinition texts table line other → new ≡ other
  pub no_refusal : (texts : List (List ℕ)) (table new : Table) (line : List PpToken) (number : ℕ) (place : Place) → IsDefinition texts table line new → IsNoDefinition texts table line number place → ⊥
  pub refusal : (texts : List (List ℕ)) (table : Table) (line : List PpToken) (number n : ℕ) (place p : Place) → IsNoDefinition texts table line number place → IsNoDefinition texts table line n p → (number ≡ n) × (place ≡ p)
  pub truth : (texts later more : List (List ℕ)) (table : Table) (at : Place) (line : List PpToken) (holds other : Bool) → IsDistinct texts
      → HasTruth limit texts table at line holds later → HasTruth limit texts table at line other more → (other ≡ holds) × (later ≡ more)
  pub no_truth : (texts later : List (List ℕ)) (table : Table) (at : Place) (line : List PpToken) (holds : Bool) (number : ℕ) (place : Place) → IsDistinct texts
      → HasTruth limit texts table at line holds later → HasNoTruth limit texts table at line number place → ⊥
  pub untruth : (texts : List (List ℕ)) (table : Table) (at : Place) (line : List PpToken) (number n : ℕ) (place p : Place) → IsDistinct texts
      → HasNoTruth limit texts table at line number place → HasNoTruth limit texts table at line n p → (number ≡ n) × (place ≡ p)
  pub truth_kept : (texts later : List (List ℕ)) (table : Table) (at : Place) (line : List PpToken) (holds : Bool) → IsDistinct texts → HasTruth limit texts table at line holds later → IsDistinct later
  pub reading : (file : ℕ) (texts : List (List ℕ)) (bytes : List ℕ) {later later' : List (List ℕ)} {ps ps' : List PpToken} {end end' : End} → IsDistinct texts
      → PiecesOf file limit texts bytes ps later end → PiecesOf file limit texts bytes ps' later' end' → (ps' ≡ ps) × (later' ≡ later) × (end' ≡ end)
  pub reading_kept : (file : ℕ) (texts : List (List ℕ)) (bytes : List ℕ) {later : List (List ℕ)} {ps : List PpToken} {end : End} → IsDistinct texts → PiecesOf file limit texts bytes ps later end → IsDistinct later
  pub conversion : {texts later later' : List (List ℕ)} {ps : List PpToken} {ts ts' : List Token} {end end' : Ending} → IsDistinct texts
      → Converts limit texts ps ts later end → Converts limit texts ps ts' later' end' → (ts' ≡ ts) × (later' ≡ later) × (end' ≡ end)
