-- what the line of a directive does that includes no file
use Rattle.std.proofs.Common.{◌≡◌, ℕ, ◌<◌, ◌⊎◌, inl, inr, Bool, List, length, drop, Option, Some, None, Result, Ok, Err, MatchResult, refl, sym, ◌∙◌, ap, subst}
use Rattle.sb_base.specs.declared.interning.Name.{Name}
use Rattle.sb_base.specs.declared.refusals.Place.{Place}
use Rattle.sb_base.specs.declared.refusals.Stop.{Stop}
use Rattle.sb_base.specs.declared.refusals.Stop.TheVariants as stop
use Rattle.sb_lex.specs.declared.piece.PpToken.{PpToken}
use Rattle.sb_directive.specs.declared.asks.Asks.{Asks}
use Rattle.sb_directive.specs.declared.asks.Asks.TheVariants as asked
use Rattle.sb_directive.specs.declared.directive.Branch.{Branch}
use Rattle.sb_directive.specs.Asking.{asks, branches_after, branches_if}
use Rattle.sb_directive.specs.Conditions.{HasTruth, HasNoTruth}
use Rattle.sb_directive.specs.Lines.{place_of}
use Rattle.sb_directive.specs.Rules.{IsDefinition, IsNoDefinition, undefined}
use Rattle.sb_directive.specs.Stopping.{IsStop, IsAmong}
use Rattle.sb_prep.specs.declared.fault.UnitFault.{UnitFault}
use Rattle.sb_prep.specs.declared.fault.UnitFault.TheVariants as fault
use Rattle.sb_prep.specs.declared.including.Included.{Included}
use Rattle.sb_prep.specs.Reading.{IsHalted, IsCarried, IsIncluded, IsBarred, IsDirective, IsNoDirective}
use Rattle.sb_prep.specs.Standing.{Standing, moved_to}
use Rattle.sb_prep.specs.Stopping.{IsFault, HasCause, AreIn, fault_of_stop}
use Rattle.sb_prep.specs.Unit.{with_names, with_table, with_once, Carries, IsStuck}
use Rattle.sb_prep.proofs.Held.{among_in, drop_in}
use Rattle.sb_prep.proofs.Requests.{word_in, line_refused_in, define_has_pieces}

or_memory : {T : Type 0} (P Q : Type 0) (R : ℕ → Place → Type 0) (result : Result T Stop) → (P → Q) → MatchResult result (λ _. P) (λ halt. halt ≡ stop.Memory) → MatchResult result (λ _. Q) (IsStop R)
or_memory P Q R (Ok x) f told = f told
or_memory P Q R (Err halt) f told = rw told tt

module _ (file : ℕ) (line : List PpToken) (bs : List Branch) (old : Standing) where
  pub by_branches : (a : Asks) (after : List Branch) → asks old.at.texts old.at.table bs line ≡ a → branches_after a bs ≡ Some after → Carries old.limit file line bs old.at after old.at
  by_branches a after is some = Carries.branches after (ap (λ x. branches_after x bs) is ∙ some)

  pub by_push : {T : Type 0} (a : Asks) (after now : List Branch) (result : Result T Stop) → asks old.at.texts old.at.table bs line ≡ a → branches_after a bs ≡ Some after
      → MatchResult result (λ _. now ≡ after) (λ halt. halt ≡ stop.Memory) → IsCarried file line bs old now old result
  by_push a after now result is some told =
      or_memory (now ≡ after) (Carries old.limit file line bs old.at now old.at) (IsHalted line bs old) result (λ same. by_branches a now is (some ∙ ap Some (sym same))) told

  pub by_condition : {T : Type 0} (a : Asks) (after now : List Branch) (holds : Bool) (new : Standing) (result : Result T Stop) → asks old.at.texts old.at.table bs line ≡ a → branches_if a holds bs ≡ Some after
      → HasTruth old.limit old.at.texts old.at.table (place_of line) (drop 2 line) holds new.at.texts → new ≡ moved_to old (with_names old.at new.at.texts)
      → MatchResult result (λ _. now ≡ after) (λ halt. halt ≡ stop.Memory) → IsCarried file line bs old now new result
  by_condition a after now holds new result is some truth moved told =
      or_memory (now ≡ after) (Carries old.limit file line bs old.at now new.at) (IsHalted line bs old) result
      (λ same. subst (λ p. Carries old.limit file line bs old.at now p) (sym (ap (λ s. s.at) moved))
      (Carries.condition now holds new.at.texts (ap (λ x. branches_if x holds bs) is ∙ some ∙ ap Some (sym same)) truth)) told

  pub by_once : {T : Type 0} (new : Standing) (result : Result T Stop) → asks old.at.texts old.at.table bs line ≡ asked.Once
      → MatchResult result (λ _. new ≡ moved_to old (with_once old.at file)) (λ halt. (halt ≡ stop.Memory) × (new ≡ old)) → IsCarried file line bs old bs new result
  by_once new (Ok x) is told = subst (λ p. Carries old.limit file line bs old.at bs p) (sym (ap (λ s. s.at) told)) (Carries.once is)
  by_once new (Err halt) is told = rw told.0 tt

  pub by_undefine : (name : Name) (new : Standing) → asks old.at.texts old.at.table bs line ≡ asked.Undefines name → new ≡ moved_to old (with_table old.at (undefined old.at.table name))
      → Carries old.limit file line bs old.at bs new.at
  by_undefine name new is moved = subst (λ p. Carries old.limit file line bs old.at bs p) (sym (ap (λ s. s.at) moved)) (Carries.undefines name is)

  module _ (some : 0 < length line) (held : AreIn (length old.at.files) line) where
    pub no_truth : (a : Asks) (after : List Branch) (holds : Bool) (halt : Stop) → asks old.at.texts old.at.table bs line ≡ a → branches_if a holds bs ≡ Some after
        → IsStop (λ number place. HasNoTruth old.limit old.at.texts old.at.table (place_of line) (drop 2 line) number place × ((place ≡ place_of line) ⊎ IsAmong (drop 2 line) place)) halt
        → IsStop (IsHalted line bs old) halt
    no_truth a after holds stop.Memory is told none = tt
    no_truth a after holds (stop.Refused r) is told none = (
      (
        IsStuck.no_condition after holds r.number r.place (ap (λ x. branches_if x holds bs) is ∙ told) none.0.0,
        elim none.0.1 [
          | inl here ↦ subst (λ p. p.file < length old.at.files) (sym here) (word_in (length old.at.files) line some held)
          | inr among ↦ among_in (length old.at.files) (drop 2 line) r.place (drop_in (length old.at.files) 2 line held) among
        ],
      ),
      none.1,
    )

    pub by_define : {T : Type 0} (new : Standing) (result : Result T Stop) → asks old.at.texts old.at.table bs line ≡ asked.Defines → new ≡ moved_to old (with_table old.at new.at.table)
        → MatchResult result (λ _. IsDefinition old.at.texts old.at.table (drop 2 line) new.at.table) (IsStop (λ number place. IsNoDefinition old.at.texts old.at.table (drop 2 line) number place × (0 < length (drop 2 line) → IsAmong (drop 2 line) place)))
        → IsCarried file line bs old bs new result
    by_define new (Ok x) is moved told = subst (λ p. Carries old.limit file line bs old.at bs p) (sym (ap (λ s. s.at) moved)) (Carries.defines new.at.table is told)
    by_define new (Err stop.Memory) is moved told = tt
    by_define new (Err (stop.Refused r)) is moved told =
        ((IsStuck.no_definition r.number r.place is told.0.0, among_in (length old.at.files) (drop 2 line) r.place (drop_in (length old.at.files) 2 line held) (told.0.1 (define_has_pieces old.at.texts old.at.table bs line is))), told.1)

    pub refuses : (number : ℕ) (place : Place) → asks old.at.texts old.at.table bs line ≡ asked.Refused number place → IsHalted line bs old number place
    refuses number place is = (IsStuck.refused number place is, line_refused_in (length old.at.files) number place old.at.texts old.at.table bs line some held is)

-- ---- with the line of an `#include`

pub halted : (held : Option (List ℕ → Option (List ℕ))) (depth : ℕ) (line : List PpToken) (bs : List Branch) (old new : Standing) (halt : Stop) → new.at.files ≡ old.at.files
    → IsStop (IsHalted line bs old) halt → IsFault (IsNoDirective held depth line bs old new) (fault_of_stop halt)
halted held depth line bs old new stop.Memory files told = tt
halted held depth line bs old new (stop.Refused r) files told = (IsNoDirective.stuck r.number r.place told.0 files, told.1)

pub no_cause : (A : Type 0) (count : ℕ) (halt : Stop) → HasCause {A = A} count count (Err (fault_of_stop halt))
no_cause A count stop.Memory = refl
no_cause A count (stop.Refused r) = refl

pub includes : (held : Option (List ℕ → Option (List ℕ))) (depth file : ℕ) (line : List PpToken) (bs : List Branch) (old new : Standing) (result : Result (Option Included) UnitFault)
    → asks old.at.texts old.at.table bs line ≡ asked.Includes
    → MatchResult result (IsIncluded held depth (drop 2 line) old new) (IsFault (IsBarred held depth (drop 2 line) old new))
    → MatchResult result (IsDirective held depth file line bs old bs new) (IsFault (IsNoDirective held depth line bs old new))
includes held depth file line bs old new (Ok None) is told = inr (is, refl, told)
includes held depth file line bs old new (Ok (Some inner)) is told = (is, refl, told)
includes held depth file line bs old new (Err (fault.Refused r)) is told = (IsNoDirective.barred r.number r.place is told.0, told.1)
includes held depth file line bs old new (Err fault.Read) is told = tt
includes held depth file line bs old new (Err fault.Memory) is told = tt
