-- Annotations behind what a declarator declares: they may stand on it, or a token that pardons them has to come.
use Rattle.std.proofs.Common.{◌≡◌, ◌+◌, ℕ, Bool, true, false, ◌&&◌, ◌||◌, List, [], ◌∷◌, ◌++◌, length, Option, None, if◌then◌else◌, refl, sym, ap, ◌∙◌, subst}
use Rattle.std.specs.Option.{option_map_or}
use Rattle.sb_base.specs.declared.interning.Name.{Name}
use Rattle.sb_base.specs.declared.tokens.PpKind.{PpKind}
use Rattle.sb_base.specs.declared.tokens.PpKind.TheVariants as kind
use Rattle.sb_base.specs.declared.tokens.Token.{Token}
use Rattle.sb_parse.specs.Lawful.{Lawful, IsToken, IsEmpty, Mapped}
use Rattle.sb_parse.proofs.Joining.{via, one_token, map_of, nothing}
use Rattle.sb_sign.specs.declared.sign.Keyword.{Keyword}
use Rattle.sb_sign.specs.declared.sign.Mark.{Mark}
use Rattle.sb_sign.specs.Signs as sign
use Rattle.sb_lexicon.specs.Lexicon.{Lexicon, is_mark, name_of}
use Rattle.sb_lexicon.specs.Outcomes.{nowhere}
use Rattle.sb_parse.specs.Parser.{at_next, never, pure}
use Rattle.sb_parse.proofs.Choices.{refused_first}
use Rattle.sb_sign.specs.declared.sign.Mark.TheVariants as mark
use Rattle.sb_lexicon.specs.Tokens.{unexpected, misplaced_before, is_open_brace}
use Rattle.sb_specifier.specs.Specified.{reading}
use Rattle.sb_declare.specs.Readers.{all_stand, pardoned, judged_by}
use Rattle.sb_specifier.specs.Readers.{is_assign, is_header, is_pardon, is_semicolon, shows_object}
use Rattle.sb_declare.specs.Declaration.{IsJudged, may_stand_there, is_pardoned}

-- ---- the token that pardons

pardon_token : Token
pardon_token = record { kind = kind.Header; text = record { 0 = 8589934593 }; place = nowhere; value = 0 }

pardon_token_is : is_pardon pardon_token ≡ true
unfolding pardon_token
pardon_token_is = refl

pub pardon_no_mark : (w : Lexicon) (m : Mark) (t : Token) → is_pardon t ≡ true → is_mark w m t ≡ false
pardon_no_mark w m t h = by_kind t.kind _ (sign.spelling_of w.texts t) h
  where
    by_kind : (k : PpKind) (b : Bool) (text : List ℕ) → (is_header k && b) ≡ true → option_map_or (sign.is_same_mark m) (sign.mark_by k text) false ≡ false
    by_kind kind.Header b text h = refl
    by_kind _ b text h = absurd (cc h)

pub pardon_no_keyword : (w : Lexicon) (t : Token) → is_pardon t ≡ true → sign.keyword_of w.texts t ≡ None
pardon_no_keyword w t h = by_kind t.kind _ (sign.spelling_of w.texts t) h
  where
    by_kind : (k : PpKind) (b : Bool) (text : List ℕ) → (is_header k && b) ≡ true → sign.keyword_by k text ≡ None
    by_kind kind.Header b text h = refl
    by_kind _ b text h = absurd (cc h)

pub pardon_no_name : (w : Lexicon) (t : Token) → is_pardon t ≡ true → name_of w t ≡ None
pardon_no_name w t h = by_kind t.kind _ t.text (sign.keyword_of w.texts t) h
  where
    by_kind : (k : PpKind) (b : Bool) (n : Name) (o : Option Keyword) → (is_header k && b) ≡ true → sign.name_by k n o ≡ None
    by_kind kind.Header b n o h = refl
    by_kind _ b n o h = absurd (cc h)

pub pardon_shows_nothing : (texts : List (List ℕ)) (t : Token) → is_pardon t ≡ true → shows_object (reading texts []) t ≡ false
pardon_shows_nothing texts t h =
    ap (λ b. b || (is_semicolon w t || (is_assign w t || is_open_brace w t))) (pardon_no_mark w mark.Comma t h)
    ∙ ap (λ b. b || (is_assign w t || is_open_brace w t)) (pardon_no_mark w mark.Semicolon t h)
    ∙ ap (λ b. b || is_open_brace w t) (pardon_no_mark w mark.Assign t h)
    ∙ pardon_no_mark w mark.OpenBrace t h
  where
    w : Lexicon
    w = reading texts []

-- the token that pardons them, with the value that stands there
pub pardoned_law : {A : Type 0} (texts : List (List ℕ)) (count : ℕ) (a : A) → Lawful (Mapped (λ t. a) (IsToken is_pardon)) (λ _. never) (pardoned texts count a)
pardoned_law {A} texts count a =
    refused_first (shows_object (reading texts [])) (misplaced_before count) (map_of (one_token unexpected is_pardon pardon_token pardon_token_is) (λ t. a) (λ _. never) (λ t u. refl))
    (λ ts b later m. ap (λ z. at_next (shows_object (reading texts [])) (z ++ later)) m.is.alone ∙ pardon_shows_nothing texts m.value m.is.passes)

module _ (texts : List (List ℕ)) (function : Bool) (noted : List Token) where
  -- with the value that stands there
  abbrev pub JudgedText : {A : Type 0} → A → List Token → A → Type 0
  JudgedText a ts b = IsJudged function noted ts × (b ≡ a)

  pub judged_law : {A : Type 0} (count : ℕ) (a : A) → Lawful (JudgedText a) (λ _. never) (judged_by texts function noted count a)
  judged_law {A} count a = by_case (all_stand function noted) refl
    where
      by_case : (b : Bool) → all_stand function noted ≡ b → Lawful (JudgedText a) (λ _. never) (judged_by texts function noted count a)
      by_case true k = via (nothing a) to from (judged_by texts function noted count a) (λ ts. ap (λ z. (if z then pure a else pardoned texts (length noted + count) a) ts) k)
        where
          to : (ts : List Token) (b : A) → IsEmpty a ts b → JudgedText a ts b
          to ts b e = (subst (IsJudged function noted) (sym e.none) (may_stand_there k), e.same)

          empty : (ts : List Token) → IsJudged function noted ts → ts ≡ []
          empty _ (may_stand_there h) = refl
          empty _ (is_pardoned t none h) = let both : true ≡ false = sym k ∙ none in absurd (cc both)

          from : (ts : List Token) (b : A) → JudgedText a ts b → IsEmpty a ts b
          from ts b j = record { none = empty ts j.0; same = j.1 }
      by_case false k =
          via (pardoned_law texts (length noted + count) a) to from (judged_by texts function noted count a) (λ ts. ap (λ z. (if z then pure a else pardoned texts (length noted + count) a) ts) k)
        where
          to : (ts : List Token) (b : A) → Mapped (λ t. a) (IsToken is_pardon) ts b → JudgedText a ts b
          to ts b m = (subst (IsJudged function noted) (sym m.is.alone) (is_pardoned m.value k m.is.passes), m.same)

          alone : (ts : List Token) → IsJudged function noted ts → (t : Token) × (ts ≡ t ∷ []) × (is_pardon t ≡ true)
          alone _ (may_stand_there h) = let both : true ≡ false = sym h ∙ k in absurd (cc both)
          alone _ (is_pardoned t none h) = (t, refl, h)

          from : (ts : List Token) (b : A) → JudgedText a ts b → Mapped (λ t. a) (IsToken is_pardon) ts b
          from ts b j = let it = alone ts j.0 in record { value = it.0; is = record { alone = it.1; passes = it.2 }; same = j.1 }
