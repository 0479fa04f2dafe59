-- a table in which no text has two numbers stays so: with one more text, and behind a condition
use Rattle.std.proofs.Common.{◌++◌, ◌∷◌, ◌≡◌, [], ℕ, Bool, List, true, false, if◌then◌else◌, refl}
use Rattle.sb_base.specs.Names.{holds_text, with_text, IsDistinct}
use Rattle.sb_base.proofs.Texts.{distinct_with_new}
use Rattle.sb_base.specs.declared.refusals.Place.{Place}
use Rattle.sb_lex.specs.declared.piece.PpToken.{PpToken}
use Rattle.sb_directive.specs.Conditions.{HasTruth}
use Rattle.sb_directive.specs.Defined.{Prepared}
use Rattle.sb_directive.specs.Ending.{Ending}
use Rattle.sb_directive.specs.Rules.{Table}

distinct_by : (texts : List (List ℕ)) (text : List ℕ) (held : Bool) → holds_text texts text ≡ held → IsDistinct texts → IsDistinct (if held then texts else (texts ++ (text ∷ [])))
distinct_by texts text true is distinct = distinct
distinct_by texts text false is distinct = distinct_with_new texts text distinct is

pub distinct_with : (texts : List (List ℕ)) (text : List ℕ) → IsDistinct texts → IsDistinct (with_text texts text)
distinct_with texts text distinct = distinct_by texts text (holds_text texts text) refl distinct

module _ (limit : ℕ) (table : Table) where
  prepared_kept : {texts later : List (List ℕ)} {line out : List PpToken} {end : Ending} → IsDistinct texts → Prepared limit table texts line out later end → IsDistinct later
  prepared_kept distinct (Prepared.ended texts) = distinct
  prepared_kept distinct (Prepared.other texts later t ts out end plain rest) = prepared_kept distinct rest
  prepared_kept distinct (Prepared.replaced texts later t ts rest out end name number digit is has digit_is some at more) = prepared_kept (distinct_with texts digit distinct) more
  prepared_kept distinct (Prepared.no_name texts t ts place is has) = distinct
  prepared_kept distinct (Prepared.no_room texts t ts rest name is has lacks) = distinct

  pub truth_kept : (texts later : List (List ℕ)) (at : Place) (line : List PpToken) (truth : Bool) → IsDistinct texts → HasTruth limit texts table at line truth later → IsDistinct later
  truth_kept texts later at line truth distinct (HasTruth.holds prepared out _ _ made expansion holds) = prepared_kept distinct made
