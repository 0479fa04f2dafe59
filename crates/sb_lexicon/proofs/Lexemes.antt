-- What the tests of tokens say of one another: no keyword is two, no punctuator is two, and keywords, punctuators and names lie apart.
use Rattle.std.proofs.Common.{◌≡◌, ℕ, Bool, true, false, List, [], ◌∷◌, Option, Some, None, slice_get, ◌+◌, refl, sym, ap, ◌∙◌, eqb-true}
use Rattle.std.specs.Option.{option_map_or}
use Rattle.sb_base.specs.declared.interning.Name.{Name}
use Rattle.sb_base.specs.declared.tokens.PpKind.{PpKind}
use Rattle.sb_base.specs.declared.tokens.PpKind.TheVariants as kind
use Rattle.sb_base.specs.declared.tokens.Token.{Token}
use Rattle.sb_parse.specs.Parser.{at_next}
use Rattle.sb_sign.specs.declared.sign.Keyword.{Keyword}
use Rattle.sb_sign.specs.declared.sign.Keyword.TheVariants as keyword
use Rattle.sb_sign.specs.declared.sign.Mark.{Mark}
use Rattle.sb_sign.specs.declared.sign.Mark.TheVariants as mark
use Rattle.sb_sign.specs.Signs as sign
use Rattle.sb_lexicon.specs.Outcomes.{nowhere}
use Rattle.sb_parse.proofs.Ways.{and_fails}
use Rattle.sb_lexicon.specs.Lexicon.{Lexicon, is_mark, is_keyword, name_of, is_type_name, is_returned, operand_of}

-- ---- equal numbers are equal signs

keywords : List Keyword
keywords =
    keyword.Auto ∷ keyword.Break ∷ keyword.Case ∷ keyword.Char ∷ keyword.Const ∷ keyword.Continue ∷ keyword.Default ∷ keyword.Do ∷ keyword.Double ∷ keyword.Else ∷ keyword.Enum ∷
    keyword.Extern ∷ keyword.Float ∷ keyword.For ∷ keyword.Goto ∷ keyword.If ∷ keyword.Inline ∷ keyword.Int ∷ keyword.Long ∷ keyword.Register ∷ keyword.Restrict ∷ keyword.Return ∷
    keyword.Short ∷ keyword.Signed ∷ keyword.SizeOf ∷ keyword.Static ∷ keyword.Struct ∷ keyword.Switch ∷ keyword.Typedef ∷ keyword.Union ∷ keyword.Unsigned ∷ keyword.Void ∷
    keyword.Volatile ∷ keyword.While ∷ keyword.Bool ∷ keyword.Complex ∷ keyword.Imaginary ∷ []

keyword_numbered : (k : Keyword) → slice_get keywords (sign.number_of_keyword k) ≡ Some k
unfolding keywords
keyword_numbered keyword.Auto = refl
keyword_numbered _ = refl

marks : List Mark
marks =
    mark.OpenBracket ∷ mark.CloseBracket ∷ mark.OpenParenthesis ∷ mark.CloseParenthesis ∷ mark.OpenBrace ∷ mark.CloseBrace ∷ mark.Dot ∷ mark.Arrow ∷ mark.Increment ∷
    mark.Decrement ∷ mark.Ampersand ∷ mark.Star ∷ mark.Plus ∷ mark.Minus ∷ mark.Tilde ∷ mark.Exclamation ∷ mark.Slash ∷ mark.Percent ∷ mark.ShiftLeft ∷ mark.ShiftRight ∷
    mark.Less ∷ mark.Greater ∷ mark.AtMost ∷ mark.AtLeast ∷ mark.Equal ∷ mark.NotEqual ∷ mark.Caret ∷ mark.Bar ∷ mark.And ∷ mark.Or ∷ mark.Question ∷ mark.Colon ∷ mark.Semicolon ∷
    mark.Ellipsis ∷ mark.Assign ∷ mark.StarAssign ∷ mark.SlashAssign ∷ mark.PercentAssign ∷ mark.PlusAssign ∷ mark.MinusAssign ∷ mark.ShiftLeftAssign ∷ mark.ShiftRightAssign ∷
    mark.AmpersandAssign ∷ mark.CaretAssign ∷ mark.BarAssign ∷ mark.Comma ∷ []

mark_numbered : (m : Mark) → slice_get marks (sign.number_of_mark m) ≡ Some m
unfolding marks
mark_numbered mark.OpenBracket = refl
mark_numbered _ = refl

pub same_keyword : (a b : Keyword) → sign.is_same_keyword a b ≡ true → a ≡ b
same_keyword a b e =
    let number : sign.number_of_keyword a ≡ sign.number_of_keyword b = eqb-true (sign.number_of_keyword a) (sign.number_of_keyword b) e in
    let both : Some a ≡ Some b = sym (keyword_numbered a) ∙ ap (slice_get keywords) number ∙ keyword_numbered b in
    cc both

pub same_mark : (a b : Mark) → sign.is_same_mark a b ≡ true → a ≡ b
same_mark a b e =
    let number : sign.number_of_mark a ≡ sign.number_of_mark b = eqb-true (sign.number_of_mark a) (sign.number_of_mark b) e in
    let both : Some a ≡ Some b = sym (mark_numbered a) ∙ ap (slice_get marks) number ∙ mark_numbered b in
    cc both

-- ---- the kinds of tokens

found : {A : Type 0} (test : A → Bool) (o : Option A) → option_map_or test o false ≡ true → (a : A) × (o ≡ Some a) × (test a ≡ true)
found test None e = absurd (cc e)
found test (Some a) e = (a, refl, e)

module _ (w : Lexicon) where
  pub keyword_is : (k : Keyword) (t : Token) → is_keyword w k t ≡ true → sign.keyword_of w.texts t ≡ Some k
  keyword_is k t e =
      let it : (j : Keyword) × (sign.keyword_of w.texts t ≡ Some j) × (sign.is_same_keyword k j ≡ true) = found (sign.is_same_keyword k) (sign.keyword_of w.texts t) e in
      it.1 ∙ ap Some (sym (same_keyword k it.0 it.2))

  pub mark_is : (m : Mark) (t : Token) → is_mark w m t ≡ true → sign.mark_of w.texts t ≡ Some m
  mark_is m t e =
      let it : (n : Mark) × (sign.mark_of w.texts t ≡ Some n) × (sign.is_same_mark m n ≡ true) = found (sign.is_same_mark m) (sign.mark_of w.texts t) e in
      it.1 ∙ ap Some (sym (same_mark m it.0 it.2))

  -- a mark is no other mark
  pub mark_alone : (m n : Mark) (t : Token) → sign.mark_of w.texts t ≡ Some m → sign.is_same_mark n m ≡ false → is_mark w n t ≡ false
  mark_alone m n t e h = ap (λ o. option_map_or (sign.is_same_mark n) o false) e ∙ h

  mark_by_no_keyword : (k : PpKind) (text : List ℕ) (m : Mark) → sign.mark_by k text ≡ Some m → sign.keyword_by k text ≡ None
  mark_by_no_keyword kind.Punct text m e = refl
  mark_by_no_keyword _ text m e = absurd (cc e)

  pub mark_no_keyword : (m : Mark) (t : Token) → sign.mark_of w.texts t ≡ Some m → sign.keyword_of w.texts t ≡ None
  mark_no_keyword m t e = mark_by_no_keyword t.kind (sign.spelling_of w.texts t) m e

  keyword_by_no_mark : (k : PpKind) (text : List ℕ) (j : Keyword) → sign.keyword_by k text ≡ Some j → sign.mark_by k text ≡ None
  keyword_by_no_mark kind.Word text j e = refl
  keyword_by_no_mark _ text j e = absurd (cc e)

  pub keyword_no_mark : (k : Keyword) (t : Token) → sign.keyword_of w.texts t ≡ Some k → sign.mark_of w.texts t ≡ None
  keyword_no_mark k t e = keyword_by_no_mark t.kind (sign.spelling_of w.texts t) k e

  named_word : (o : Option Keyword) (name n : Name) → sign.name_by kind.Word name o ≡ Some n → o ≡ None
  named_word None name n e = refl
  named_word (Some k) name n e = absurd (cc e)

  name_by_no_keyword : (k : PpKind) (name n : Name) (text : List ℕ) → sign.name_by k name (sign.keyword_by k text) ≡ Some n → sign.keyword_by k text ≡ None
  name_by_no_keyword kind.Word name n text e = named_word (sign.keyword_in text) name n e
  name_by_no_keyword _ name n text e = refl

  pub name_no_keyword : (n : Name) (t : Token) → name_of w t ≡ Some n → sign.keyword_of w.texts t ≡ None
  name_no_keyword n t e = name_by_no_keyword t.kind t.text n (sign.spelling_of w.texts t) e

  pub type_name_no_keyword : (t : Token) → is_type_name w t ≡ true → sign.keyword_of w.texts t ≡ None
  type_name_no_keyword t e = let it = found _ (name_of w t) e in name_no_keyword it.0 t it.1

  -- ---- marks begin no expression but as operators

  punct_operand : (k : PpKind) (text : List ℕ) (m : Mark) → sign.mark_by k text ≡ Some m
      → (sign.is_number_kind k ≡ false) × (sign.is_text_kind k ≡ false) × ((name : Name) (o : Option Keyword) → sign.name_by k name o ≡ None)
  punct_operand kind.Punct text m e = (refl, refl, λ name o. refl)
  punct_operand _ text m e = absurd (cc e)

  not_returned : (m : Mark) (t : Token) → sign.mark_of w.texts t ≡ Some m → is_returned w t ≡ false
  not_returned m t e = and_fails w.in_note (is_keyword w keyword.Return t) (ap (λ o. option_map_or (sign.is_same_keyword keyword.Return) o false) (mark_no_keyword m t e))

  pub mark_no_operand : (m : Mark) (t : Token) → sign.mark_of w.texts t ≡ Some m → operand_of w t ≡ None
  mark_no_operand m t e =
      let kinds = punct_operand t.kind (sign.spelling_of w.texts t) m e in
      let named : name_of w t ≡ None = kinds.2 t.text (sign.keyword_of w.texts t) in
      rw (kinds.0, kinds.1, not_returned m t e, named) refl

  -- ---- by the first token of a list

  -- a keyword of some kind
  abbrev pub is_kind : (Keyword → Bool) → Token → Bool
  is_kind kinds t = option_map_or kinds (sign.keyword_of w.texts t) false

  pub not_same : (kinds : Keyword → Bool) (a k : Keyword) → kinds k ≡ true → kinds a ≡ false → sign.is_same_keyword a k ≡ false
  not_same kinds a k e off = by_test (sign.is_same_keyword a k) refl
    where
      by_test : (b : Bool) → sign.is_same_keyword a k ≡ b → sign.is_same_keyword a k ≡ false
      by_test false h = h
      by_test true h = absurd (let both : true ≡ false = sym e ∙ sym (ap kinds (same_keyword a k h)) ∙ off in cc both)

  -- a token of some kind of keywords is no other keyword
  pub kind_off : (kinds : Keyword → Bool) (a : Keyword) (t : Token) → kinds a ≡ false → is_kind kinds t ≡ true → is_keyword w a t ≡ false
  kind_off kinds a t off e =
      let it : (k : Keyword) × (sign.keyword_of w.texts t ≡ Some k) × (kinds k ≡ true) = found kinds (sign.keyword_of w.texts t) e in
      ap (λ o. option_map_or (sign.is_same_keyword a) o false) it.1 ∙ not_same kinds a it.0 it.2 off

  pub kind_within : (kinds wide : Keyword → Bool) (t : Token) → ((k : Keyword) → kinds k ≡ true → wide k ≡ true) → is_kind kinds t ≡ true → is_kind wide t ≡ true
  kind_within kinds wide t inside e =
      let it : (k : Keyword) × (sign.keyword_of w.texts t ≡ Some k) × (kinds k ≡ true) = found kinds (sign.keyword_of w.texts t) e in
      ap (λ o. option_map_or wide o false) it.1 ∙ inside it.0 it.2

  pub head_off : (kinds : Keyword → Bool) (a : Keyword) → kinds a ≡ false → (ts : List Token) → at_next (is_kind kinds) ts ≡ true → at_next (is_keyword w a) ts ≡ false
  head_off kinds a off [] e = refl
  head_off kinds a off (t ∷ ts) e = kind_off kinds a t off e

-- ---- tokens that there are in any case

-- past the table stand the language's own words
own : PpKind → ℕ → Token
own k n = record { kind = k; text = record { 0 = 4294967296 + n }; place = nowhere; value = 0 }

pub int_token : Token
int_token = own kind.Word 17

pub int_token_is : (w : Lexicon) → sign.keyword_of w.texts int_token ≡ Some keyword.Int
unfolding int_token own
int_token_is w = refl

pub close_token : Token
close_token = own kind.Punct 40

pub close_token_is : (w : Lexicon) → is_mark w mark.CloseParenthesis close_token ≡ true
unfolding close_token own
close_token_is w = refl

pub close_bracket_token : Token
close_bracket_token = own kind.Punct 38

pub close_bracket_token_is : (w : Lexicon) → is_mark w mark.CloseBracket close_bracket_token ≡ true
unfolding close_bracket_token own
close_bracket_token_is w = refl

pub star_token : Token
star_token = own kind.Punct 48

pub star_token_is : (w : Lexicon) → is_mark w mark.Star star_token ≡ true
unfolding star_token own
star_token_is w = refl

-- a word that is spelled as nothing is a name
pub name_token : Token
name_token = own kind.Word 1000

pub name_token_is : (w : Lexicon) → name_of w name_token ≡ Some name_token.text
unfolding name_token own
name_token_is w = refl
