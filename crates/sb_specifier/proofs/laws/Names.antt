-- What the tests of names and punctuators say of one another, and tokens that there are in any case.
use Rattle.std.proofs.Common.{◌≡◌, ◌+◌, ℕ, zero, suc, Bool, true, false, ◌||◌, List, Option, Some, None, is_some, if◌then◌else◌, refl, sym, ap, ◌∙◌}
use Rattle.std.specs.Option.{option_map_or}
use Rattle.sb_base.specs.declared.interning.Name.{Name}
use Rattle.sb_base.specs.declared.refusals.Place.{Place}
use Rattle.sb_base.specs.declared.tokens.PpKind.{PpKind}
use Rattle.sb_base.specs.declared.tokens.PpKind.TheVariants as kind
use Rattle.sb_base.specs.declared.tokens.Token.{Token}
use Rattle.sb_sign.specs.declared.sign.Keyword.{Keyword}
use Rattle.sb_sign.specs.declared.sign.Mark.{Mark}
use Rattle.sb_sign.specs.declared.sign.Mark.TheVariants as mark
use Rattle.sb_sign.specs.Signs as sign
use Rattle.sb_tree.specs.Trees.{ExprTree}
use Rattle.sb_lexicon.specs.Lexicon.{Lexicon, is_mark, name_of, prefix_at, step_at, suffix_at, by_mark, of_rank}
use Rattle.sb_lexicon.specs.Tokens.{is_open, is_open_brace, is_prefix, is_step, is_size_of, is_suffix, begins_expr}
use Rattle.sb_lexicon.specs.Outcomes.{nowhere}
use Rattle.sb_expr.proofs.tokens.Begins.{mark_is_no_word}
use Rattle.sb_lexicon.proofs.Lexemes.{mark_is, mark_alone, mark_no_operand}
use Rattle.sb_lexicon.proofs.Marks.{by_its_mark}
use Rattle.sb_expr.proofs.tokens.More.{ends_in_type, more_infix, more_conditional}
use Rattle.sb_specifier.specs.Readers.{is_name, name_at, is_close_brace}

-- ---- tokens that there are in any case: past the table of names stand the language's own words

abbrev own : ℕ → Token
own n = record { kind = kind.Punct; text = record { 0 = 4294967296 + n }; place = nowhere; value = 0 }

pub close_brace_token : Token
close_brace_token = own 42

pub close_brace_token_is : (w : Lexicon) → is_close_brace w close_brace_token ≡ true
unfolding close_brace_token
close_brace_token_is w = refl

-- ---- names are no punctuators

unmarked_by : (k : PpKind) (name n : Name) (o : Option Keyword) (text : List ℕ) → sign.name_by k name o ≡ Some n → sign.mark_by k text ≡ None
unmarked_by kind.Word name n o text e = refl
unmarked_by _ name n o text e = absurd (cc e)

nameless_by : (k : PpKind) (n : Name) (o : Option Keyword) (text : List ℕ) (m : Mark) → sign.mark_by k text ≡ Some m → sign.name_by k n o ≡ None
nameless_by kind.Word n o text m e = absurd (cc e)
nameless_by _ n o text m e = refl

module _ (w : Lexicon) (t : Token) where
  pub name_no_mark : (n : Name) → name_of w t ≡ Some n → sign.mark_of w.texts t ≡ None
  name_no_mark n e = unmarked_by t.kind t.text n (sign.keyword_of w.texts t) (sign.spelling_of w.texts t) e

  pub mark_no_name : (m : Mark) → is_mark w m t ≡ true → is_name w t ≡ false
  mark_no_name m e = ap is_some (nameless_by t.kind t.text (sign.keyword_of w.texts t) (sign.spelling_of w.texts t) m (mark_is w m t e))

  pub name_is : is_name w t ≡ true → (n : Name) × (name_of w t ≡ Some n)
  name_is e = go (name_of w t) e
    where
      go : (o : Option Name) → is_some o ≡ true → (n : Name) × (o ≡ Some n)
      go None h = absurd (cc h)
      go (Some n) h = (n, refl)

  pub name_off : (m : Mark) → is_name w t ≡ true → is_mark w m t ≡ false
  name_off m e = let it : (n : Name) × (name_of w t ≡ Some n) = name_is e in ap (λ o. option_map_or (sign.is_same_mark m) o false) (name_no_mark it.0 it.1)

  pub named_at : (v : Name × Place) → name_at w t ≡ Some v → (name_of w t ≡ Some v.0) × (v.1 ≡ t.place)
  named_at v e = go (name_of w t) e
    where
      go : (o : Option Name) → option_map_or {U = Option (Name × Place)} (λ n. Some (n, t.place)) o None ≡ Some v → (o ≡ Some v.0) × (v.1 ≡ t.place)
      go None h = absurd (cc h)
      go (Some n) h =
          let value : Path (Name × Place) (n, t.place) v = cc h in
          (ap (λ p. Some p.0) value, sym (ap (λ p. p.1) value))

  pub at_name : (n : Name) → name_of w t ≡ Some n → name_at w t ≡ Some (n, t.place)
  at_name n e = ap (λ o. option_map_or {U = Option (Name × Place)} (λ n. Some (n, t.place)) o None) e

  -- ---- no expression goes on with what is no punctuator

  unmarked_infix : sign.mark_of w.texts t ≡ None → (k : ℕ) (e : ExprTree) → more_infix w k e t ≡ false
  unmarked_infix h zero e = by_test (ends_in_type e)
    where
      by_test : (b : Bool) → (if b then is_open_brace w t else is_suffix w t) ≡ false
      by_test true = ap (λ o. option_map_or (sign.is_same_mark mark.OpenBrace) o false) h
      by_test false = ap (λ o. is_some (option_map_or (suffix_at t.place) o None)) h
  unmarked_infix h (suc k) e = ap (λ o. is_some (by_mark (of_rank (suc k)) t.place o) || more_infix w k e t) h ∙ unmarked_infix h k e

  pub unmarked_conditional : sign.mark_of w.texts t ≡ None → (e : ExprTree) → more_conditional w e t ≡ false
  unmarked_conditional h e = ap (λ o. option_map_or (sign.is_same_mark mark.Question) o false || more_infix w 10 e t) h ∙ unmarked_infix h 10 e

  -- ---- punctuators that begin no expression

  pub mark_begins_none : (m : Mark) → is_mark w m t ≡ true → sign.is_same_mark mark.OpenParenthesis m ≡ false → is_some (prefix_at m) ≡ false → is_some (step_at m) ≡ false → begins_expr w t ≡ false
  mark_begins_none m e no_open no_prefix no_step =
      let it : sign.mark_of w.texts t ≡ Some m = mark_is w m t e in
      ap (λ o. is_some o || (is_open w t || (is_prefix w t || (is_step w t || is_size_of w t)))) (mark_no_operand w m t it)
      ∙ ap (λ b. b || (is_prefix w t || (is_step w t || is_size_of w t))) (mark_alone w m mark.OpenParenthesis t it no_open)
      ∙ ap (λ b. b || (is_step w t || is_size_of w t)) (by_its_mark prefix_at t.place (sign.mark_of w.texts t) m it ∙ no_prefix)
      ∙ ap (λ b. b || is_size_of w t) (by_its_mark step_at t.place (sign.mark_of w.texts t) m it ∙ no_step) ∙ (mark_is_no_word w t m it).1
