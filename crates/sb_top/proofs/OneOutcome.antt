-- over a library that tells its content, the words of a call have one answer
use Rattle.std.proofs.Common.{◌≡◌, ◌-◌, inl, inr, ℕ, List, [], ◌∷◌, ◌++◌, Option, Some, None, length, max, slice_get, refl, sym, ap, ◌∙◌, subst}
use Rattle.sb_base.specs.Names.{IsDistinct}
use Rattle.sb_base.specs.declared.refusals.Place.{Place}
use Rattle.sb_base.specs.declared.refusals.Refusal.{Refusal}
use Rattle.sb_base.specs.declared.tokens.Token.{Token}
use Rattle.sb_parse.proofs.Places.{one_place, none_is_refused}
use Rattle.sb_prep.specs.Ending.{Ended, Refused as RefusedAt}
use Rattle.sb_prep.specs.Unit.{IsUnit}
use Rattle.sb_prep.proofs.OneUnit.{one_unit, unit_keeps}
use Rattle.sb_term.specs.AnswerOf.{answer_of}
use Rattle.sb_function.specs.declared.lexeme.Piece.{Piece}
use Rattle.sb_top.specs.declared.status.Status.{Status}
use Rattle.sb_function.specs.Syntax.{FunctionTree}
use Rattle.sb_function.specs.Grammar.{IsFile}
use Rattle.sb_judge.specs.Walks.{report}
use Rattle.sb_top.specs.Texts.{refusal, report_text}
use Rattle.sb_top.specs.Words.{files_of_words}
use Rattle.sb_function.specs.Lexemes.{pieces_of}
use Rattle.sb_top.specs.Sets.{most_names, Ending, Whole, Stopped, no_feature, HasTree, IsMisread, IsRefusedUnit, AreUnits, AreRead, IsRefusedAt, IsUnreadAt}
use Rattle.sb_top.specs.Sets.IsRefusedUnit.{by_preprocessor, by_grammar}
use Rattle.sb_top.specs.Sets.AreUnits.{none, next, refused}
use Rattle.sb_top.specs.Sets.AreRead.{ended, read}
use Rattle.sb_top.specs.Sets.IsUnreadAt.{here, behind}
use Rattle.sb_top.specs.Outcomes.{IsReported, IsUnread, IsOutcome, IsEndOf, IsAnswer, HasOneOutcome, status_of, not_built_yet}
use Rattle.sb_function.proofs.Laws.Files.{one_tree}
use Rattle.sb_top.proofs.Misread.{never_misread, one_misread}

abbrev Same : Status → Status → List ℕ → List ℕ → Type 0
Same status other text more = (status ≡ other) × (text ≡ more)

no_texts_are_distinct : IsDistinct []
no_texts_are_distinct i j text is at = absurd (cc is)

-- ---- units that are whole have one set of functions, or are refused at one place

one_read : (texts : List (List ℕ)) (us vs : List (List Token)) (fs gs : List FunctionTree) → AreRead texts us fs → AreRead texts vs gs → us ≡ vs → fs ≡ gs
one_read texts _ _ _ _ ended ended e = refl
one_read texts _ _ _ _ ended (read tokens units gs more is are) e = absurd (cc e)
one_read texts _ _ _ _ (read tokens units fs more is are) ended e = absurd (cc e)
one_read texts _ _ _ _ (read tokens units fs more is are) (read others rest gs other at there) e =
    let head : tokens ≡ others = cc e in
    let tail : units ≡ rest = cc e in
    let first : fs ≡ gs = one_tree (pieces_of texts tokens) fs gs is (subst (λ z. IsFile (pieces_of texts z) gs) (sym head) at) in
    let second : more ≡ other = one_read texts units rest more other are there tail in
    ap (λ z. z ++ more) first ∙ ap (λ z. gs ++ z) second

-- a list of pieces is refused at one piece
one_refused : (pieces : List Piece) (at other : Piece) → IsRefusedAt pieces at → IsRefusedAt pieces other → at ≡ other
one_refused pieces at other one two =
    let place : one.left ≡ two.left = one_place IsFile pieces one.left two.left one.refused two.refused in
    let there : slice_get pieces (length pieces - max one.left 1) ≡ Some other = subst (λ z. slice_get pieces (length pieces - max z 1) ≡ Some other) (sym place) two.stands in
    cc (one.stands, there)

one_unread : (texts : List (List ℕ)) (us vs : List (List Token)) (place other : Place) → IsUnreadAt texts us place → IsUnreadAt texts vs other → us ≡ vs → place ≡ other
one_unread texts _ _ _ _ (here tokens units at is) (here others rest at' is') e =
    let head : tokens ≡ others = cc e in
    ap (λ z. z.place) (one_refused (pieces_of texts tokens) at at' is (subst (λ z. IsRefusedAt (pieces_of texts z) at') (sym head) is'))
one_unread texts _ _ _ _ (here tokens units at is) (behind others rest gs place file there) e =
    let head : tokens ≡ others = cc e in
    absurd (none_is_refused IsFile (pieces_of texts tokens) is.left gs is.refused (subst (λ z. IsFile (pieces_of texts z) gs) (sym head) file))
one_unread texts _ _ _ _ (behind tokens units fs place file there) (here others rest at is) e =
    let head : tokens ≡ others = cc e in
    absurd (none_is_refused IsFile (pieces_of texts others) is.left fs is.refused (subst (λ z. IsFile (pieces_of texts z) fs) head file))
one_unread texts _ _ _ _ (behind tokens units fs place file there) (behind others rest gs other at is) e =
    let tail : units ≡ rest = cc e in one_unread texts units rest place other there is tail

never_both : (texts : List (List ℕ)) (us vs : List (List Token)) (fs : List FunctionTree) (place : Place) → AreRead texts us fs → IsUnreadAt texts vs place → us ≡ vs → ⊥
never_both texts _ _ _ _ ended (here others rest at is) e = cc e
never_both texts _ _ _ _ ended (behind others rest gs place file there) e = cc e
never_both texts _ _ _ _ (read tokens units fs more file are) (here others rest at is) e =
    let head : tokens ≡ others = cc e in
    none_is_refused IsFile (pieces_of texts others) is.left fs is.refused (subst (λ z. IsFile (pieces_of texts z) fs) head file)
never_both texts _ _ _ _ (read tokens units fs more file are) (behind others rest gs place at there) e =
    let tail : units ≡ rest = cc e in never_both texts units rest more place are there tail

-- ---- the units of a told library

-- two readings of files are one: the tokens of the units, the tables of names and of files, and the ending
record SameUnits (us vs : List (List Token)) (later more last other : List (List ℕ)) (end ending : Ending) : Type 0 where
  given : vs ≡ us
  texts : more ≡ later
  files : other ≡ last
  ends : ending ≡ end

moved : (held : Option (List ℕ → Option (List ℕ))) (limit : ℕ) (name name' : List ℕ) (texts texts' files files' later last : List (List ℕ)) (ts : List Token) → name' ≡ name → texts' ≡ texts → files' ≡ files
    → IsUnit held limit name' texts' files' ts later last Ended → IsUnit held limit name texts files ts later last Ended
moved held limit name name' texts texts' files files' later last ts n t f is =
    subst (λ z. IsUnit held limit z texts files ts later last Ended) n (subst (λ z. IsUnit held limit name' z files ts later last Ended) t (subst (λ z. IsUnit held limit name' texts' z ts later last Ended) f is))

same_ending : (number number' : ℕ) (place place' : Place) → RefusedAt number' place' ≡ RefusedAt number place → no_feature number' place' ≡ no_feature number place
same_ending number number' place place' e = let numbers : number' ≡ number = cc e in let places : place' ≡ place = cc e in ap (λ z. no_feature z place') numbers ∙ ap (no_feature number) places

-- two refusals of one unit are one, with the same tables behind it
record SameRefusals (later more last other : List (List ℕ)) (r s : Refusal) : Type 0 where
  laters : more ≡ later
  lasts : other ≡ last
  refusals : s ≡ r

module _ (held : List ℕ → Option (List ℕ)) (limit : ℕ) (name : List ℕ) (texts files : List (List ℕ)) (dt : IsDistinct texts) (df : IsDistinct files) where
  -- a unit with a tree is not refused
  never_refused : (tokens : List Token) (middle between later last : List (List ℕ)) (r : Refusal) → IsUnit (Some held) limit name texts files tokens middle between Ended → HasTree middle tokens
      → IsRefusedUnit (Some held) limit name texts files later last r → ⊥
  never_refused tokens middle between later last _ is has (by_preprocessor others number place at) =
      let unit = one_unit held limit name texts files dt df is at in absurd (cc unit.ends)
  never_refused tokens middle between later last _ is has (by_grammar others r at misread) =
      let unit = one_unit held limit name texts files dt df is at in
      never_misread middle tokens r has (subst (λ z. IsMisread z tokens r) unit.laters (subst (λ z. IsMisread later z r) unit.tokens misread))

  one_refusal : (later more last other : List (List ℕ)) (r s : Refusal) → IsRefusedUnit (Some held) limit name texts files later last r → IsRefusedUnit (Some held) limit name texts files more other s
      → SameRefusals later more last other r s
  one_refusal later more last other _ _ (by_preprocessor tokens number place is) (by_preprocessor tokens' number' place' is') =
      let unit = one_unit held limit name texts files dt df is is' in
      record { laters = unit.laters; lasts = unit.lasts; refusals = same_ending number number' place place' unit.ends }
  one_refusal later more last other _ _ (by_preprocessor tokens number place is) (by_grammar tokens' r is' misread) =
      let unit = one_unit held limit name texts files dt df is is' in absurd (cc unit.ends)
  one_refusal later more last other _ _ (by_grammar tokens r is misread) (by_preprocessor tokens' number place is') =
      let unit = one_unit held limit name texts files dt df is is' in absurd (cc unit.ends)
  one_refusal later more last other _ _ (by_grammar tokens r is misread) (by_grammar tokens' s is' misread') =
      let unit = one_unit held limit name texts files dt df is is' in
      record {
        laters = unit.laters;
        lasts = unit.lasts;
        refusals = one_misread later tokens s r (subst (λ z. IsMisread z tokens s) unit.laters (subst (λ z. IsMisread more z s) unit.tokens misread')) misread;
      }

moved_refusal : (held : Option (List ℕ → Option (List ℕ))) (limit : ℕ) (name name' : List ℕ) (texts texts' files files' later last : List (List ℕ)) (r : Refusal) → name' ≡ name → texts' ≡ texts → files' ≡ files
    → IsRefusedUnit held limit name' texts' files' later last r → IsRefusedUnit held limit name texts files later last r
moved_refusal held limit name name' texts texts' files files' later last r n t f is =
    subst (λ z. IsRefusedUnit held limit z texts files later last r) n (subst (λ z. IsRefusedUnit held limit name' z files later last r) t (subst (λ z. IsRefusedUnit held limit name' texts' z later last r) f is))

-- two readings of one list of files that begin with the same tables
same_units : (held : List ℕ → Option (List ℕ)) (limit : ℕ) (texts files names later last : List (List ℕ)) (us : List (List Token)) (end : Ending) (texts' files' names' more other : List (List ℕ)) (vs : List (List Token)) (ending : Ending)
    → AreUnits (Some held) limit texts files names us later last end → AreUnits (Some held) limit texts' files' names' vs more other ending
    → texts' ≡ texts → files' ≡ files → names' ≡ names → IsDistinct texts → IsDistinct files → SameUnits us vs later more last other end ending
same_units held limit _ _ _ _ _ _ _ _ _ _ _ _ _ _ (none texts files) (none texts' files') t f n dt df = record { given = refl; texts = t; files = f; ends = refl }
same_units held limit _ _ _ _ _ _ _ _ _ _ _ _ _ _ (none texts files) (next texts' files' middle' between' later' last' names' name' tokens' units' end' is' has' are') t f n dt df = absurd (cc n)
same_units held limit _ _ _ _ _ _ _ _ _ _ _ _ _ _ (none texts files) (refused texts' files' later' last' names' name' r' is') t f n dt df = absurd (cc n)
same_units held limit _ _ _ _ _ _ _ _ _ _ _ _ _ _ (next texts files middle between later last names name tokens us end is has are) (none texts' files') t f n dt df = absurd (cc n)
same_units held limit _ _ _ _ _ _ _ _ _ _ _ _ _ _ (next texts files middle between later last names name tokens us end is has are) (next texts' files' middle' between' later' last' names' name' tokens' vs end' is' has' are') t f n dt df =
    let head : name' ≡ name = cc n in
    let tail : names' ≡ names = cc n in
    let again = moved (Some held) limit name name' texts texts' files files' middle' between' tokens' head t f is' in
    let unit = one_unit held limit name texts files dt df is again in
    let apart : IsDistinct middle × IsDistinct between = unit_keeps held limit name texts files dt df is in
    let rest : SameUnits us vs later later' last last' end end' = same_units held limit middle between names later last us end middle' between' names' later' last' vs end' are are' unit.laters unit.lasts tail apart.0 apart.1 in
    record { given = ap (λ z. z ∷ vs) unit.tokens ∙ ap (λ z. tokens ∷ z) rest.given; texts = rest.texts; files = rest.files; ends = rest.ends }
same_units held limit _ _ _ _ _ _ _ _ _ _ _ _ _ _ (next texts files middle between later last names name tokens us end is has are) (refused texts' files' later' last' names' name' r' is') t f n dt df =
    let head : name' ≡ name = cc n in
    absurd (never_refused held limit name texts files dt df tokens middle between later' last' r' is has (moved_refusal (Some held) limit name name' texts texts' files files' later' last' r' head t f is'))
same_units held limit _ _ _ _ _ _ _ _ _ _ _ _ _ _ (refused texts files later last names name r is) (none texts' files') t f n dt df = absurd (cc n)
same_units held limit _ _ _ _ _ _ _ _ _ _ _ _ _ _ (refused texts files later last names name r is) (next texts' files' middle' between' later' last' names' name' tokens' vs end' is' has' are') t f n dt df =
    let head : name' ≡ name = cc n in
    let again = moved (Some held) limit name name' texts texts' files files' middle' between' tokens' head t f is' in
    absurd (never_refused held limit name texts files dt df tokens' middle' between' later last r again has' is)
same_units held limit _ _ _ _ _ _ _ _ _ _ _ _ _ _ (refused texts files later last names name r is) (refused texts' files' later' last' names' name' r' is') t f n dt df =
    let head : name' ≡ name = cc n in
    let same : SameRefusals later later' last last' r r' = one_refusal held limit name texts files dt df later later' last last' r r' is (moved_refusal (Some held) limit name name' texts texts' files files' later' last' r' head t f is') in
    record { given = refl; texts = same.laters; files = same.lasts; ends = ap Stopped same.refusals }

-- ---- one outcome

reported_once : (texts files : List (List ℕ)) (us : List (List Token)) (status other : Status) (text more : List ℕ) → IsReported texts files us status text → IsReported texts files us other more → Same status other text more
reported_once texts files us status other text more one two =
    let functions : one.functions ≡ two.functions = one_read texts us us one.functions two.functions one.are_read two.are_read refl in (
      one.status_is ∙ ap (λ z. status_of (report answer_of z)) functions ∙ sym two.status_is,
      one.text_is ∙ ap (λ z. report_text files texts (report answer_of z)) functions ∙ sym two.text_is,
    )

unread_once : (texts files : List (List ℕ)) (us : List (List Token)) (status other : Status) (text more : List ℕ) → IsUnread texts files us status text → IsUnread texts files us other more → Same status other text more
unread_once texts files us status other text more one two =
    let place : one.place ≡ two.place = one_unread texts us us one.place two.place one.is_unread two.is_unread refl in (
      one.status_is ∙ sym two.status_is,
      one.text_is ∙ ap (λ z. refusal files (not_built_yet z)) place ∙ sym two.text_is,
    )

end_once : (texts files : List (List ℕ)) (us : List (List Token)) (end : Ending) (status other : Status) (text more : List ℕ) → IsEndOf texts files us end status text → IsEndOf texts files us end other more → Same status other text more
end_once texts files us (Stopped r) status other text more one two = (one.0 ∙ sym two.0, one.1 ∙ sym two.1)
end_once texts files us Whole status other text more (inl one) (inl two) = reported_once texts files us status other text more one two
end_once texts files us Whole status other text more (inl one) (inr two) = absurd (never_both texts us us one.functions two.place one.are_read two.is_unread refl)
end_once texts files us Whole status other text more (inr one) (inl two) = absurd (never_both texts us us two.functions one.place two.are_read one.is_unread refl)
end_once texts files us Whole status other text more (inr one) (inr two) = unread_once texts files us status other text more one two

outcome_once : (held : List ℕ → Option (List ℕ)) (names : List (List ℕ)) (status other : Status) (text more : List ℕ) → IsOutcome (Some held) names status text → IsOutcome (Some held) names other more → Same status other text more
outcome_once held names status other text more one two =
    let same : SameUnits one.units two.units one.texts two.texts one.files two.files one.end two.end =
    same_units held most_names [] [] names one.texts one.files one.units one.end [] [] names two.texts two.files two.units two.end one.are_units two.are_units refl refl refl no_texts_are_distinct no_texts_are_distinct in
    end_once one.texts one.files one.units one.end status other text more one.is_end
    (subst (λ z. IsEndOf z one.files one.units one.end other more) same.texts
    (subst (λ z. IsEndOf two.texts z one.units one.end other more) same.files
    (subst (λ z. IsEndOf two.texts two.files z one.end other more) same.given
    (subst (λ z. IsEndOf two.texts two.files two.units z other more) same.ends two.is_end))))

pub one_outcome : (held : List ℕ → Option (List ℕ)) (words : List (List ℕ)) → HasOneOutcome held words
one_outcome held words status other text more one two = go (files_of_words words) one two
  where
    go : (asked : Option (List (List ℕ))) → IsAnswer (Some held) asked status text → IsAnswer (Some held) asked other more → Same status other text more
    go None one two = (one.0 ∙ sym two.0, one.1 ∙ sym two.1)
    go (Some names) one two = outcome_once held names status other text more one two
