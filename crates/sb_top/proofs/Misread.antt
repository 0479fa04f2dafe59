-- No list of tokens is both the text of a translation unit and refused, and each is refused for one reason.
use Rattle.std.proofs.Common.{◌≡◌, ℕ, List, [], Err, sym, ap, ◌∙◌, subst}
use Rattle.sb_base.specs.declared.refusals.Refusal.{Refusal}
use Rattle.sb_base.specs.declared.refusals.Stop.{Stop}
use Rattle.sb_base.specs.declared.refusals.Stop.TheVariants.{Refused}
use Rattle.sb_base.specs.declared.tokens.Token.{Token}
use Rattle.sb_parse.specs.Parser.{Outcome, done, stop}
use Rattle.sb_tree.specs.Plain.{plain_decls}
use Rattle.sb_lexicon.specs.Outcomes.{number_of, feature_of, left_of, place_of}
use Rattle.sb_specifier.specs.Readers.{Declarations}
use Rattle.sb_unit.specs.Reads.{IsUnitRead}
use Rattle.sb_unit.proofs.laws.Units.{unit_complete}
use Rattle.sb_top.specs.Sets.{HasTree, IsMisread}

-- what `tree` refuses is misread
pub is_misread : (texts : List (List ℕ)) (seen tokens : List Token) (s : Stop) (r : Refusal) → seen ≡ tokens → s ≡ Refused r
    → IsUnitRead (λ ds t. ds.list ≡ plain_decls t) texts seen (Err s) → IsMisread texts tokens r
is_misread texts seen tokens s r tokens_are stop_is read =
    subst (λ z. IsUnitRead (λ ds t. ds.list ≡ plain_decls t) texts z (Err (Refused r))) tokens_are (subst (λ z. IsUnitRead (λ ds t. ds.list ≡ plain_decls t) texts seen (Err z)) stop_is read)

pub never_misread : (texts : List (List ℕ)) (tokens : List Token) (r : Refusal) → HasTree texts tokens → IsMisread texts tokens r → ⊥
never_misread texts tokens r has is =
    let both : Path (Outcome Token Declarations) (done has.0 []) (stop is.number is.left) = sym (unit_complete texts tokens has.0 has.1) ∙ is.stops in cc both

same_refusal : (r s : Refusal) → r.number ≡ s.number → r.place ≡ s.place → r.feature ≡ s.feature → r ≡ s
same_refusal r s number place feature =
    ap (λ z. record { number = z; place = r.place; feature = r.feature }) number
    ∙ ap (λ z. record { number = s.number; place = z; feature = r.feature }) place
    ∙ ap (λ z. record { number = s.number; place = s.place; feature = z }) feature

pub one_misread : (texts : List (List ℕ)) (tokens : List Token) (r s : Refusal) → IsMisread texts tokens r → IsMisread texts tokens s → r ≡ s
one_misread texts tokens r s one two =
    let both : Path (Outcome Token Declarations) (stop one.number one.left) (stop two.number two.left) = sym one.stops ∙ two.stops in
    let numbers : one.number ≡ two.number = cc both in
    let lefts : one.left ≡ two.left = cc both in
    same_refusal r s
    (one.is.number ∙ ap number_of numbers ∙ sym two.is.number)
    (one.is.place ∙ ap (λ n. place_of tokens (left_of n one.left)) numbers ∙ ap (λ k. place_of tokens (left_of two.number k)) lefts ∙ sym two.is.place)
    (one.is.feature ∙ ap feature_of numbers ∙ sym two.is.feature)
