-- each coefficient of a term is below 2^40
use Rattle.std.proofs.Common.{◌≡◌, ℕ, zero, suc, ◌<◌, Bool, true, false, List, [], ◌∷◌, length, get_or, refl, arith}
use Rattle.std.specs.Prelude.{◌==◌, if◌then◌else◌}
use Rattle.std.proofs.lemmas.Bool.{and_parts}
use Rattle.sb_term.specs.declared.entry.Entry.{Entry}
use Rattle.sb_term.specs.Linear.{coefficient_of, is_narrow, are_narrow}

pub coefficient_of-narrow : (s : ℕ) (es : List Entry) → are_narrow es ≡ true → is_narrow (coefficient_of s es) ≡ true
coefficient_of-narrow s [] h = refl
coefficient_of-narrow s (e ∷ es) h =
    by (e.symbol == s) (coefficient_of-narrow s es (and_parts (is_narrow e.coefficient) (are_narrow es) h).1)
  where
    by : (b : Bool) → is_narrow (coefficient_of s es) ≡ true → is_narrow (if b then e.coefficient else coefficient_of s es) ≡ true
    by true r = (and_parts (is_narrow e.coefficient) (are_narrow es) h).0
    by false r = r

pub entry-narrow : (es : List Entry) (k : ℕ) (d : Entry) → are_narrow es ≡ true → k < length es → is_narrow (get_or es k d).coefficient ≡ true
entry-narrow [] k d a h = absurd (omega arith)
entry-narrow (e ∷ es) zero d a h = (and_parts (is_narrow e.coefficient) (are_narrow es) a).0
entry-narrow (e ∷ es) (suc k) d a h = entry-narrow es k d (and_parts (is_narrow e.coefficient) (are_narrow es) a).1 (omega arith)
