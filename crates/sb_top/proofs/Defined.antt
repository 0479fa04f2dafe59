-- what follows from the outcome of a call
use Rattle.std.proofs.Common.{◌≡◌, ℕ, ◌⊎◌, inl, inr, Bool, true, false, List, [], nat_eq, Option, Some, None, if◌then◌else◌, refl, subst}
use Rattle.std.proofs.lemmas.Bool.{eqb-true}
use Rattle.sb_base.specs.declared.tokens.Token.{Token}
use Rattle.sb_term.specs.AnswerOf.{answer_of}
use Rattle.sb_term.proofs.Lawful.{lawful}
use Rattle.sb_top.specs.declared.status.Status.{Status}
use Rattle.sb_top.specs.declared.status.Status.TheVariants.{Clean, Warned}
use Rattle.sb_judge.specs.Walks.{report}
use Rattle.sb_top.specs.Texts.{count_of}
use Rattle.sb_top.specs.Words.{files_of_words}
use Rattle.sb_top.specs.Sets.{most_names, Ending, Whole, Stopped, AreUnits}
use Rattle.sb_top.specs.Outcomes.{IsReported, IsUnread, IsEndOf, IsAnswer, IsDefined, AreSafeIn}
use Rattle.sb_top.proofs.Reported.{report_is_safe}

-- a clean report is of a safe set

none_counted : (n : ℕ) (b : Bool) → nat_eq n 0 ≡ b → Clean ≡ (if b then Clean else Warned) → n ≡ 0
none_counted n true test e = eqb-true n 0 test
none_counted n false test e = absurd (cc e)

read_safe : (held : List ℕ → Option (List ℕ)) (words names texts files : List (List ℕ)) (units : List (List Token)) (text : List ℕ) → files_of_words words ≡ Some names
    → AreUnits (Some held) most_names [] [] names units texts files Whole → IsReported texts files units Clean text ⊎ IsUnread texts files units Clean text → AreSafeIn held words
read_safe held words names texts files units text asked are (inl r) = (
  r.functions,
  record { names = names; texts = texts; files = files; units = units; asked = asked; are_units = are; are_read = r.are_read },
  report_is_safe answer_of lawful r.functions (none_counted (count_of (report answer_of r.functions)) (nat_eq (count_of (report answer_of r.functions)) 0) refl r.status_is),
)
read_safe held words names texts files units text asked are (inr u) = absurd (cc u.status_is)

end_safe : (held : List ℕ → Option (List ℕ)) (words names texts files : List (List ℕ)) (units : List (List Token)) (end : Ending) (text : List ℕ) → files_of_words words ≡ Some names
    → AreUnits (Some held) most_names [] [] names units texts files end → IsEndOf texts files units end Clean text → AreSafeIn held words
end_safe held words names texts files units Whole text asked are h = read_safe held words names texts files units text asked are h
end_safe held words names texts files units (Stopped r) text asked are h = absurd (cc h.0)

answer_safe : (held : List ℕ → Option (List ℕ)) (words : List (List ℕ)) (text : List ℕ) (asked : Option (List (List ℕ))) → files_of_words words ≡ asked
    → IsAnswer (Some held) asked Clean text → AreSafeIn held words
answer_safe held words text None e h = absurd (cc h.0)
answer_safe held words text (Some names) e h = end_safe held words names h.texts h.files h.units h.end text e h.are_units h.is_end

pub clean_is_safe : (held : Option (List ℕ → Option (List ℕ))) (words : List (List ℕ)) (s : Status) (text : List ℕ) → IsDefined held words s text
    → s ≡ Clean → (told : List ℕ → Option (List ℕ)) → held ≡ Some told → AreSafeIn told words
clean_is_safe held words s text defined clean told tells =
    answer_safe told words text (files_of_words words) refl
    (subst (λ h. IsAnswer h (files_of_words words) Clean text) tells (subst (λ t. IsAnswer held (files_of_words words) t text) clean defined))
