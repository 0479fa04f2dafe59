-- What the tests of tokens in annotations say of one another, and tokens that there are in any case.
use Rattle.std.proofs.Common.{◌≡◌, ℕ, ◌+◌, Bool, true, false, ◌||◌, ◌&&◌, not, List, [], Option, Some, None, is_some, if◌then◌else◌, refl, ap, ◌∙◌}
use Rattle.std.specs.Option.{option_map_or}
use Rattle.sb_base.specs.declared.interning.Name.{Name}
use Rattle.sb_base.specs.declared.refusals.Place.{Place}
use Rattle.sb_base.specs.declared.tokens.PpKind.{PpKind}
use Rattle.sb_base.specs.declared.tokens.PpKind.TheVariants as kind
use Rattle.sb_base.specs.declared.tokens.Token.{Token}
use Rattle.sb_sign.specs.declared.sign.Keyword.{Keyword}
use Rattle.sb_sign.specs.declared.sign.Keyword.TheVariants as keyword
use Rattle.sb_sign.specs.declared.sign.Mark.{Mark}
use Rattle.sb_sign.specs.declared.sign.Mark.TheVariants as mark
use Rattle.sb_sign.specs.Signs as sign
use Rattle.sb_tree.specs.Trees as tree
use Rattle.sb_tree.specs.Trees.{ExprTree, depth_of_expr}
use Rattle.sb_lexicon.specs.Lexicon.{Lexicon, is_mark, name_of, is_type_name, operand_of, suffix_at, binary_at, assignment_at, by_mark}
use Rattle.sb_lexicon.specs.Tokens.{is_open, is_close, is_comma, is_star}
use Rattle.sb_lexicon.specs.Outcomes.{nowhere}
use Rattle.sb_parse.proofs.Ways.{and_fails}
use Rattle.sb_lexicon.proofs.Lexemes.{mark_is, mark_alone, name_no_keyword, mark_no_keyword}
use Rattle.sb_sign.specs.declared.spelling.Arguments.{Arguments}
use Rattle.sb_sign.specs.declared.spelling.Arguments.TheVariants as arguments
use Rattle.sb_sal.specs.Notes.{place_name}
use Rattle.sb_sal.specs.Readers.{is_nothing, is_bare, is_arrow, is_return, is_place_name, continues, named}
use Rattle.sb_sal.specs.Spellings.{begins_note, arguments_in, arguments_of, is_listed, looks_like_note, word_of}

module _ (w : Lexicon) where
  -- ---- annotations

  pub listed_with : (t : Token) (a : Arguments) → arguments_of w t ≡ Some a → is_listed w t ≡ true
  listed_with t a h = ap is_some h

  pub listed_begins : (t : Token) → is_listed w t ≡ true → begins_note w t ≡ true
  listed_begins t h = by_test (begins_note w t) h
    where
      by_test : (b : Bool) → is_some (if b then arguments_in (word_of w.texts t) else None) ≡ true → b ≡ true
      by_test true h = refl
      by_test false h = absurd (cc h)

  -- the arguments of a listed annotation
  pub has_arguments_of : (t : Token) → is_listed w t ≡ true → (a : Arguments) × (arguments_of w t ≡ Some a)
  has_arguments_of t h = by_value (arguments_of w t) refl h
    where
      by_value : (o : Option Arguments) → arguments_of w t ≡ o → is_some o ≡ true → (a : Arguments) × (arguments_of w t ≡ Some a)
      by_value None e h = absurd (cc h)
      by_value (Some a) e h = (a, e)

  pub bare_by : (t : Token) (a : Arguments) → arguments_of w t ≡ Some a → is_bare w t ≡ is_nothing a
  bare_by t a h = ap (λ o. option_map_or is_nothing o false) h

  is_nothing_alone : (a : Arguments) → is_nothing a ≡ true → a ≡ arguments.Nothing
  is_nothing_alone arguments.Nothing h = refl
  is_nothing_alone _ h = absurd (cc h)

  pub bare_takes_nothing : (t : Token) → is_bare w t ≡ true → arguments_of w t ≡ Some arguments.Nothing
  bare_takes_nothing t h = by_value (arguments_of w t) refl h
    where
      by_value : (o : Option Arguments) → arguments_of w t ≡ o → option_map_or is_nothing o false ≡ true → arguments_of w t ≡ Some arguments.Nothing
      by_value None e h = absurd (cc h)
      by_value (Some a) e h = e ∙ ap Some (is_nothing_alone a h)

  pub bare_listed : (t : Token) → is_bare w t ≡ true → is_listed w t ≡ true
  bare_listed t h = listed_with t arguments.Nothing (bare_takes_nothing t h)

  -- ---- marks

  pub close_not_comma : (t : Token) → is_close w t ≡ true → is_comma w t ≡ false
  close_not_comma t h = mark_alone w mark.CloseParenthesis mark.Comma t (mark_is w mark.CloseParenthesis t h) refl

  pub comma_not_close : (t : Token) → is_comma w t ≡ true → is_close w t ≡ false
  comma_not_close t h = mark_alone w mark.Comma mark.CloseParenthesis t (mark_is w mark.Comma t h) refl

  pub close_not_open : (t : Token) → is_close w t ≡ true → is_open w t ≡ false
  close_not_open t h = mark_alone w mark.CloseParenthesis mark.OpenParenthesis t (mark_is w mark.CloseParenthesis t h) refl

  -- what goes on from a location, by the token's mark
  abbrev continues_by : Place → Option Mark → Bool
  continues_by place o =
      is_some (option_map_or (suffix_at place) o None) || ((option_map_or (λ m. is_some (binary_at m)) o false && not (option_map_or (sign.is_same_mark mark.Comma) o false))
      || (option_map_or (sign.is_same_mark mark.Question) o false || is_some (by_mark assignment_at place o)))

  pub arrow_continues : (t : Token) → is_arrow w t ≡ true → continues w t ≡ true
  arrow_continues t h = ap (continues_by t.place) (mark_is w mark.Arrow t h)

  pub close_ends_location : (t : Token) → is_close w t ≡ true → continues w t ≡ false
  close_ends_location t h = ap (continues_by t.place) (mark_is w mark.CloseParenthesis t h)

  pub comma_ends_location : (t : Token) → is_comma w t ≡ true → continues w t ≡ false
  comma_ends_location t h = ap (continues_by t.place) (mark_is w mark.Comma t h)

  -- ---- names

  pub place_named : (t : Token) → is_place_name w t ≡ true → (n : Name) × (place_name w t ≡ Some n)
  place_named t h = by_value (place_name w t) refl h
    where
      by_value : (o : Option Name) → place_name w t ≡ o → is_some o ≡ true → (n : Name) × (place_name w t ≡ Some n)
      by_value None e h = absurd (cc h)
      by_value (Some n) e h = (n, e)

  pub named_by : (t : Token) (n : Name) → place_name w t ≡ Some n → named w t ≡ Some (tree.Identifier n t.place)
  named_by t n h = ap (λ o. option_map_or (λ n. Some (tree.Identifier n t.place)) o None) h

  pub place_is_name : (t : Token) (n : Name) → place_name w t ≡ Some n → name_of w t ≡ Some n
  place_is_name t n h = by_test (is_listed w t) h
    where
      by_test : (b : Bool) → (if b then None else name_of w t) ≡ Some n → name_of w t ≡ Some n
      by_test true h = absurd (cc h)
      by_test false h = h

  pub name_not_return : (t : Token) → is_place_name w t ≡ true → is_return w t ≡ false
  name_not_return t h =
      let it : (n : Name) × (place_name w t ≡ Some n) = place_named t h in
      ap (λ o. option_map_or (sign.is_same_keyword keyword.Return) o false) (name_no_keyword w it.0 t (place_is_name t it.0 it.1))

  pub star_not_return : (t : Token) → is_star w t ≡ true → is_return w t ≡ false
  star_not_return t h = ap (λ o. option_map_or (sign.is_same_keyword keyword.Return) o false) (mark_no_keyword w mark.Star t (mark_is w mark.Star t h))

  nameless : (k : PpKind) (name : Name) (o : Option Keyword) (text : List ℕ) (m : Mark) → sign.mark_by k text ≡ Some m → sign.name_by k name o ≡ None
  nameless kind.Punct name o text m h = refl
  nameless _ name o text m h = absurd (cc h)

  pub mark_no_name : (m : Mark) (t : Token) → is_mark w m t ≡ true → name_of w t ≡ None
  mark_no_name m t h = nameless t.kind t.text (sign.keyword_of w.texts t) (sign.spelling_of w.texts t) m (mark_is w m t h)

  pub star_not_name : (t : Token) → is_star w t ≡ true → is_place_name w t ≡ false
  star_not_name t h = by_test (is_listed w t)
    where
      by_test : (b : Bool) → is_some (if b then None else name_of w t) ≡ false
      by_test true = refl
      by_test false = ap is_some (mark_no_name mark.Star t h)

  -- a mark begins no annotation
  pub mark_no_note : (m : Mark) (t : Token) → is_mark w m t ≡ true → begins_note w t ≡ false
  mark_no_note m t h = ap (λ o. is_some o && (not (is_type_name w t) && looks_like_note (word_of w.texts t))) (mark_no_name m t h)

-- ---- tokens that there are in any case

-- past the table stand the language's own words
own : PpKind → ℕ → Token
own k n = record { kind = k; text = record { 0 = 4294967296 + n }; place = nowhere; value = 0 }

pub open_token : Token
open_token = own kind.Punct 39

pub open_token_is : (w : Lexicon) → is_open w open_token ≡ true
unfolding open_token own
open_token_is w = refl

pub comma_token : Token
comma_token = own kind.Punct 82

pub comma_token_is : (w : Lexicon) → is_comma w comma_token ≡ true
unfolding comma_token own
comma_token_is w = refl

pub return_token : Token
return_token = own kind.Word 21

pub return_token_is : (w : Lexicon) → is_return w return_token ≡ true
unfolding return_token own
return_token_is w = refl

pub number_token : Token
number_token = own kind.Number 0

pub number_tree : ExprTree
number_tree = tree.Number number_token.text 0 nowhere

pub number_token_is : (w : Lexicon) → operand_of w number_token ≡ Some number_tree
unfolding number_token number_tree own
number_token_is w = refl

pub flat_number : depth_of_expr number_tree ≡ 1
unfolding number_tree
flat_number = refl

pub number_begins_value : (w : Lexicon) → (is_close w number_token || is_listed w number_token) ≡ false
unfolding number_token own
number_begins_value w = refl

-- a word that is spelled as nothing is a name
pub name_token : Token
name_token = own kind.Word 1000

pub name_token_is : (w : Lexicon) → name_of w name_token ≡ Some name_token.text
unfolding name_token own
name_token_is w = refl

unlisted_name : (w : Lexicon) → is_listed w name_token ≡ false
unfolding name_token own
unlisted_name w = ap (λ b. is_some (if b then arguments_in [] else None)) (and_fails (not (is_type_name w name_token)) false refl)

pub place_token_is : (w : Lexicon) → place_name w name_token ≡ Some name_token.text
place_token_is w = ap (λ b. if b then None else name_of w name_token) (unlisted_name w) ∙ name_token_is w
