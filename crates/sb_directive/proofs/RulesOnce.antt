-- pieces have one expansion or one refusal, and the line of a `#define` one meaning or one refusal
use Rattle.std.proofs.Common.{◌≡◌, ℕ, List, ap, refl}
use Rattle.sb_base.specs.declared.refusals.Place.{Place}
use Rattle.sb_base.specs.declared.refusals.Refusal.{Refusal}
use Rattle.sb_lex.specs.declared.piece.PpToken.{PpToken}
use Rattle.sb_macro.specs.declared.ending.End.{End}
use Rattle.sb_macro.specs.declared.ending.End.TheVariants as end
use Rattle.sb_macro.specs.Expansion.{place_of_last}
use Rattle.sb_macro.specs.Halts.{refusal}
use Rattle.sb_macro.specs.Tokens.{fresh}
use Rattle.sb_macro.proofs.DefiningOnce as defining
use Rattle.sb_macro.proofs.EndingLaws.{one_text_end, text_whole, whole_text}
use Rattle.sb_macro.proofs.ExpansionLaws as expanding
use Rattle.sb_macro.proofs.OnlyAnswers.{one_text, not_both}
use Rattle.sb_directive.specs.Rules.{Table, IsExpansion, HasStopped, HasEnded, IsDefinition, IsNoDefinition, scope_of}

module _ (texts : List (List ℕ)) (table : Table) (room : ℕ) (pieces : List PpToken) where
  pub one_expansion : (out other : List PpToken) → IsExpansion texts table room pieces out → IsExpansion texts table room pieces other → out ≡ other
  unfolding IsExpansion
  one_expansion out other first second = one_text (scope_of texts table room) pieces other out second first

  pub never_both : (out : List PpToken) (number : ℕ) (place : Place) → IsExpansion texts table room pieces out → HasStopped texts table room pieces number place → ⊥
  unfolding IsExpansion HasStopped
  never_both out number place expansion stopped = not_both (scope_of texts table room) pieces out (refusal number place) expansion (stopped, refl)

  pub one_stop : (number n : ℕ) (place p : Place) → HasStopped texts table room pieces number place → HasStopped texts table room pieces n p → (number ≡ n) × (place ≡ p)
  unfolding HasStopped
  one_stop number n place p first second =
      let same = expanding.one_stop (scope_of texts table room) (place_of_last pieces) (place_of_last pieces) (fresh pieces) number n place p first second in (same.0, same.1 refl)

  -- what macros give before they stop is one list, and they stop in one way
  pub one_end : (out other : List PpToken) (how also : End) → HasEnded texts table room pieces out how → HasEnded texts table room pieces other also → (out ≡ other) × (how ≡ also)
  unfolding HasEnded
  one_end out other how also first second = one_text_end (scope_of texts table room) pieces other also second out how first

  pub whole_expands : (out : List PpToken) (how : End) → HasEnded texts table room pieces out how → how ≡ end.Whole → IsExpansion texts table room pieces out
  unfolding HasEnded IsExpansion
  whole_expands out how ended is = text_whole (scope_of texts table room) pieces out how ended is

  pub expansion_ends : (out : List PpToken) → IsExpansion texts table room pieces out → HasEnded texts table room pieces out end.Whole
  unfolding HasEnded IsExpansion
  expansion_ends out expansion = whole_text (scope_of texts table room) pieces out expansion

module _ (texts : List (List ℕ)) (table : Table) (line : List PpToken) where
  pub one_definition : (new other : Table) → IsDefinition texts table line new → IsDefinition texts table line other → new ≡ other
  unfolding IsDefinition
  one_definition new other first second = defining.one_table texts table line new other first second

  pub never_both_definitions : (new : Table) (number : ℕ) (place : Place) → IsDefinition texts table line new → IsNoDefinition texts table line number place → ⊥
  unfolding IsDefinition IsNoDefinition
  never_both_definitions new number place defines refused = defining.defined_or_refused texts table line new (refusal number place) defines refused

  pub one_no_definition : (number n : ℕ) (place p : Place) → IsNoDefinition texts table line number place → IsNoDefinition texts table line n p → (number ≡ n) × (place ≡ p)
  unfolding IsNoDefinition
  one_no_definition number n place p first second =
      let same : refusal number place ≡ refusal n p = defining.one_refusal texts table line (refusal number place) (refusal n p) first second in
      (ap (λ (r : Refusal). r.number) same, ap (λ (r : Refusal). r.place) same)
