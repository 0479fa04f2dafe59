-- A line defines one table, or it is refused with one number at one place.
use Rattle.std.proofs.Common.{◌≡◌, ℕ, List, ◌∷◌, Option, Some, None, Result, Ok, Err, MatchResult, ap, refl, sym, ◌∙◌, subst}
use Rattle.sb_base.specs.declared.refusals.Refusal.{Refusal}
use Rattle.sb_base.specs.declared.refusals.Stop.{Stop}
use Rattle.sb_base.specs.declared.refusals.Stop.TheVariants as stop
use Rattle.sb_lex.specs.declared.piece.PpToken.{PpToken}
use Rattle.sb_macro.specs.Defines.{Defines, IsDefined, defined, IsRefused, conflicts, malformed, IsOnlyTable, RefusesLine}
use Rattle.sb_macro.specs.Macros.{Macro, with_macro}
use Rattle.sb_macro.proofs.DefiningLaws.{defines_named, defines_one, defines_read}

pub one_table : (texts : List (List ℕ)) (before : List Macro) (line : List PpToken) (now other : List Macro) → IsDefined texts before line now → IsDefined texts before line other → now ≡ other
one_table texts before line now other (defined m is same now_is) (defined n also same_too other_is) = now_is ∙ ap (with_macro before) (defines_one texts line m n is also) ∙ sym other_is

-- a macro of the name stands, or none does
some_none : {A : Type 0} {found : Option A} {a : A} → found ≡ Some a → found ≡ None → ⊥
some_none there none = absurd (let e = sym there ∙ none in cc)

pub defined_or_refused : (texts : List (List ℕ)) (before : List Macro) (line : List PpToken) (now : List Macro) (r : Refusal) → IsDefined texts before line now → IsRefused texts before line r → ⊥
defined_or_refused texts before _ now _ (defined m is same now_is) (conflicts name rest other stands differs) =
    let m_is : other ≡ m = same other (sym (defines_named texts before (name ∷ rest) m is) ∙ stands) in
    differs (subst (Defines texts (name ∷ rest)) (sym m_is) is)
defined_or_refused texts before line now _ (defined m is same now_is) (malformed _ r new reads) =
    absurd (let e : ◌≡◌ {A = Result Macro Refusal} (Ok m) (Err r) = sym (defines_read texts line m is) ∙ reads in cc)

pub one_refusal : (texts : List (List ℕ)) (before : List Macro) (line : List PpToken) (r other : Refusal) → IsRefused texts before line r → IsRefused texts before line other → r ≡ other
one_refusal texts before _ _ _ (conflicts name rest m stands differs) (conflicts _ _ n stands_too differs_too) = refl
one_refusal texts before _ _ _ (conflicts name rest m stands differs) (malformed _ r new reads) = absurd (some_none stands new)
one_refusal texts before _ _ _ (malformed _ r new reads) (conflicts name rest m stands differs) = absurd (some_none stands new)
one_refusal texts before line _ _ (malformed _ r new reads) (malformed _ other new_too reads_too) =
    let e : ◌≡◌ {A = Result Macro Refusal} (Err r) (Err other) = sym reads ∙ reads_too in cc

pub only_table : {A : Type 0} (texts : List (List ℕ)) (before : List Macro) (line : List PpToken) (result : Result A Stop) (now : List Macro)
    → MatchResult result (λ _. IsDefined texts before line now) (RefusesLine texts before line) → IsOnlyTable texts before line result now
only_table texts before line (Ok done) now is = ((λ other also. one_table texts before line other now also is), λ r refused. defined_or_refused texts before line now r is refused)
only_table texts before line (Err (stop.Refused r)) now refused = ((λ other is. defined_or_refused texts before line other r is refused), λ other also. one_refusal texts before line other r also refused)
only_table texts before line (Err stop.Memory) now refused = tt
