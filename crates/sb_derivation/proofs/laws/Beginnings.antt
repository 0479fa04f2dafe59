-- With which tokens declarators begin, and what goes on from them.
use Rattle.std.proofs.Common.{◌≡◌, ◌⊎◌, ℕ, Bool, true, false, ◌||◌, ◌&&◌, not, List, [], ◌∷◌, ◌++◌, Option, Some, None, is_some, if◌then◌else◌, refl, sym, ap, ◌∙◌, inl, inr}
use Rattle.std.specs.Option.{option_map_or}
use Rattle.sb_base.specs.declared.interning.Name.{Name}
use Rattle.sb_base.specs.declared.refusals.Place.{Place}
use Rattle.sb_base.specs.declared.tokens.PpKind.{PpKind}
use Rattle.sb_base.specs.declared.tokens.PpKind.TheVariants as kind
use Rattle.sb_base.specs.declared.tokens.Token.{Token}
use Rattle.sb_parse.specs.Parser.{at_next}
use Rattle.sb_parse.proofs.Heads.{head_of_append}
use Rattle.sb_sign.specs.declared.sign.Keyword.{Keyword}
use Rattle.sb_sign.specs.declared.sign.Keyword.TheVariants as keyword
use Rattle.sb_sign.specs.declared.sign.Mark.{Mark}
use Rattle.sb_sign.specs.declared.sign.Mark.TheVariants as mark
use Rattle.sb_sign.specs.Signs as sign
use Rattle.sb_lexicon.specs.Lexicon.{Lexicon, is_mark, name_of, is_among, is_type_name}
use Rattle.sb_operand.specs.Pieces.{Piece, Pointed, Arrayed, Called, Grouped}
use Rattle.sb_operand.specs.Readers.{begins_abstract}
use Rattle.sb_lexicon.specs.Tokens.{is_star, is_open, is_open_bracket, is_close, is_qualifier}
use Rattle.sb_expr.proofs.tokens.More.{behind_pointers, is_empty}
use Rattle.sb_parse.proofs.Ways.{or_first, or_second, and_fails}
use Rattle.sb_lexicon.proofs.Lexemes.{mark_is, mark_alone, mark_no_keyword, name_no_keyword}
use Rattle.sb_expr.proofs.tokens.Bracketed.{mark_unqualified}
use Rattle.sb_sal.specs.Spellings.{begins_note, looks_like_note, word_of}
use Rattle.sb_specifier.specs.Specified.{reading}
use Rattle.sb_specifier.specs.Declaration.{IsDeclarator, is_direct, is_pointer, IsDirect, is_name, is_nameless, is_in_parentheses, is_array, is_outermost, is_function_of}
use Rattle.sb_specifier.specs.Readers as reader
use Rattle.sb_specifier.specs.Readers.{Declarator}
use Rattle.sb_specifier.proofs.laws.More.{is_suffix, more_pieces, more_pointers, more_declarator}

-- neither pieces nor a name
abbrev pub is_nothing_by : Option (Name × Place) → List Piece → Bool
is_nothing_by None ps = is_empty ps
is_nothing_by (Some n) ps = false

abbrev pub is_nothing : Declarator → Bool
is_nothing d = is_nothing_by d.name d.pieces

abbrev pub begins_direct : Lexicon → Token → Bool
begins_direct w t = is_suffix w t || reader.is_name w t

abbrev pub begins_any : Lexicon → Token → Bool
begins_any w t = begins_abstract w t || reader.is_name w t

pub record Empty (ts : List Token) (d : Declarator) : Type 0 where
  pub no_token : ts ≡ []
  pub no_piece : d.pieces ≡ []
  pub no_name : d.name ≡ None

-- behind the pointers: with a name, or with pieces none of which is a pointer in front
pub record Begins (w : Lexicon) (ts : List Token) (d : Declarator) : Type 0 where
  pub head : at_next (begins_direct w) ts ≡ true
  pub some : is_nothing d ≡ false
  pub more_is : (t : Token) → more_declarator w d t ≡ is_suffix w t

pub record Starts (w : Lexicon) (ts : List Token) (d : Declarator) : Type 0 where
  pub head : at_next (begins_any w) ts ≡ true
  pub some : is_nothing d ≡ false

some_by : (n : Option (Name × Place)) (p : Piece) (ps : List Piece) → is_nothing_by n (p ∷ ps) ≡ false
some_by None p ps = refl
some_by (Some n) p ps = refl

settled : (w : Lexicon) (n : Option (Name × Place)) (p : Piece) (ps : List Piece) (t : Token) → behind_pointers (p ∷ ps) ≡ p ∷ ps → more_pieces w n (p ∷ ps) t ≡ is_suffix w t
settled w (Some n) p ps t h = refl
settled w None p ps t h = ap (λ qs. if is_empty qs then more_pointers w (p ∷ ps) t else is_suffix w t) h

in_front : (test : Token → Bool) (xs ys : List Token) (d : Declarator) (w : Lexicon) → Empty xs d ⊎ Begins w xs d → at_next (begins_direct w) ys ≡ true → at_next (begins_direct w) (xs ++ ys) ≡ true
in_front test xs ys d w (inl e) h = ap (λ l. at_next (begins_direct w) (l ++ ys)) e.no_token ∙ h
in_front test xs ys d w (inr b) h = head_of_append (begins_direct w) xs ys b.head

module _ (texts : List (List ℕ)) (types : List Name) where
  abbrev w : Lexicon
  w = reading texts types

  open_begins : (t : Token) (ts : List Token) → is_open w t ≡ true → at_next (begins_direct w) (t ∷ ts) ≡ true
  open_begins t ts h = or_first (is_suffix w t) (reader.is_name w t) (or_second (is_open_bracket w t) (is_open w t) h)

  bracket_begins : (t : Token) (ts : List Token) → is_open_bracket w t ≡ true → at_next (begins_direct w) (t ∷ ts) ≡ true
  bracket_begins t ts h = or_first (is_suffix w t) (reader.is_name w t) (or_first (is_open_bracket w t) (is_open w t) h)

  pub direct_begins : (functions may_lack : Bool) (ts : List Token) (d : Declarator) → IsDirect texts types functions may_lack ts d → Empty ts d ⊎ Begins w ts d
  direct_begins _ _ _ _ (is_name _ _ _ t n h) = inr (record { head = or_second (is_suffix w t) (reader.is_name w t) (ap is_some h); some = refl; more_is = λ u. refl })
  direct_begins _ _ _ _ (is_nameless _ _ _ h) = inl (record { no_token = refl; no_piece = refl; no_name = refl })
  direct_begins _ _ _ _ (is_in_parentheses _ _ _ o c xs d opens closes is begins) =
      inr (record { head = open_begins o (xs ++ (c ∷ [])) opens; some = some_by d.name (Grouped o.place) d.pieces; more_is = λ u. settled w d.name (Grouped o.place) d.pieces u refl })
  direct_begins _ _ _ _ (is_array _ functions may_lack o c xs ys size d opens closes no_function is fits) =
      inr (record {
        head = in_front (begins_direct w) xs (o ∷ (ys ++ (c ∷ []))) d w (direct_begins functions may_lack xs d is) (bracket_begins o (ys ++ (c ∷ [])) opens);
        some = some_by d.name (Arrayed size o.place) d.pieces;
        more_is = λ u. settled w d.name (Arrayed size o.place) d.pieces u refl;
      })
  direct_begins _ _ _ _ (is_outermost _ functions may_lack o c xs ys zs size d fixed opens closes lacks bare is words fits some) =
      inr (record {
        head = in_front (begins_direct w) xs (o ∷ ((ys ++ zs) ++ (c ∷ []))) d w (direct_begins functions may_lack xs d is) (bracket_begins o ((ys ++ zs) ++ (c ∷ [])) opens);
        some = some_by d.name (Arrayed size o.place) d.pieces;
        more_is = λ u. settled w d.name (Arrayed size o.place) d.pieces u refl;
      })
  direct_begins _ _ _ _ (is_function_of _ functions may_lack o c xs ys d ps opens closes may bare is are) =
      inr (record {
        head = in_front (begins_direct w) xs (o ∷ (ys ++ (c ∷ []))) d w (direct_begins functions may_lack xs d is) (open_begins o (ys ++ (c ∷ [])) opens);
        some = some_by d.name (Called _ o.place) d.pieces;
        more_is = λ u. settled w d.name (Called _ o.place) d.pieces u refl;
      })

  wider : (ts : List Token) → at_next (begins_direct w) ts ≡ true → at_next (begins_any w) ts ≡ true
  wider [] h = absurd (cc h)
  wider (t ∷ ts) h = by_suffix (is_open_bracket w t) (is_open w t) (is_star w t) h
    where
      by_suffix : (b o s : Bool) → ((b || o) || reader.is_name w t) ≡ true → ((s || (o || b)) || reader.is_name w t) ≡ true
      by_suffix b o true h = refl
      by_suffix b true false h = refl
      by_suffix true false false h = refl
      by_suffix false false false h = h

  pub declarator_begins : (functions may_lack : Bool) (ts : List Token) (d : Declarator) → IsDeclarator texts types functions may_lack ts d → Empty ts d ⊎ Starts w ts d
  declarator_begins _ _ _ _ (is_direct _ functions may_lack xs d is) = by_case (direct_begins functions may_lack xs d is)
    where
      by_case : Empty xs d ⊎ Begins w xs d → Empty xs d ⊎ Starts w xs d
      by_case (inl e) = inl e
      by_case (inr b) = inr (record { head = wider xs b.head; some = b.some })
  declarator_begins _ _ _ _ (is_pointer _ functions may_lack t c xs ys d star quals is) =
      inr (record { head = or_first (begins_abstract w t) (reader.is_name w t) (or_first (is_star w t) (is_open w t || is_open_bracket w t) star); some = some_by d.name (Pointed t.place) _ })

  -- nothing is read as nothing
  pub no_declarator : (functions may_lack : Bool) (ts : List Token) (d : Declarator) → IsDeclarator texts types functions may_lack ts d → is_nothing d ≡ true → ts ≡ []
  no_declarator functions may_lack ts d is none = by_case (declarator_begins functions may_lack ts d is)
    where
      by_case : Empty ts d ⊎ Starts w ts d → ts ≡ []
      by_case (inl e) = e.no_token
      by_case (inr s) = absurd (let both : true ≡ false = sym none ∙ s.some in cc both)

  pub some_begins : (functions may_lack : Bool) (ts : List Token) (d : Declarator) → IsDeclarator texts types functions may_lack ts d → is_nothing d ≡ false → at_next (begins_any w) ts ≡ true
  some_begins functions may_lack ts d is some = by_case (declarator_begins functions may_lack ts d is)
    where
      nothing_then : d.name ≡ None → d.pieces ≡ [] → is_nothing d ≡ true
      nothing_then n p = ap (λ m. is_nothing_by m d.pieces) n ∙ ap is_empty p

      by_case : Empty ts d ⊎ Starts w ts d → at_next (begins_any w) ts ≡ true
      by_case (inl e) = absurd (let both : true ≡ false = sym (nothing_then e.no_name e.no_piece) ∙ some in cc both)
      by_case (inr s) = s.head

-- ---- what begins a declarator is a mark or a name

module _ (w : Lexicon) where
  by_word_of : (test : Token → Bool) → ((m : Mark) (t : Token) → is_mark w m t ≡ true → test t ≡ false) → ((t : Token) → reader.is_name w t ≡ true → test t ≡ false)
      → (t : Token) → begins_any w t ≡ true → test t ≡ false
  by_word_of test marked named t h = by_star (is_star w t) refl h
    where
      by_bracket : (b : Bool) → is_open_bracket w t ≡ b → (b || reader.is_name w t) ≡ true → test t ≡ false
      by_bracket true k e = marked mark.OpenBracket t k
      by_bracket false k e = named t e

      by_open : (b : Bool) → is_open w t ≡ b → ((b || is_open_bracket w t) || reader.is_name w t) ≡ true → test t ≡ false
      by_open true k e = marked mark.OpenParenthesis t k
      by_open false k e = by_bracket (is_open_bracket w t) refl e

      by_star : (b : Bool) → is_star w t ≡ b → ((b || (is_open w t || is_open_bracket w t)) || reader.is_name w t) ≡ true → test t ≡ false
      by_star true k e = marked mark.Star t k
      by_star false k e = by_open (is_open w t) refl e

  some_name : (t : Token) → reader.is_name w t ≡ true → (n : Name) × (name_of w t ≡ Some n)
  some_name t h = by_value (name_of w t) refl
    where
      by_value : (o : Option Name) → name_of w t ≡ o → (n : Name) × (name_of w t ≡ Some n)
      by_value (Some n) k = (n, k)
      by_value None k = absurd (let both : false ≡ true = sym (ap is_some k) ∙ h in cc both)

  pub name_is_no_keyword : (t : Token) → reader.is_name w t ≡ true → sign.keyword_of w.texts t ≡ None
  name_is_no_keyword t h = let n = some_name t h in name_no_keyword w n.0 t n.1

  -- no word of any kind begins a declarator
  pub unworded : (kinds : Keyword → Bool) (t : Token) → begins_any w t ≡ true → option_map_or kinds (sign.keyword_of w.texts t) false ≡ false
  unworded kinds t h =
      by_word_of (λ t. option_map_or kinds (sign.keyword_of w.texts t) false) (λ m t k. ap (λ o. option_map_or kinds o false) (mark_no_keyword w m t (mark_is w m t k)))
      (λ t k. ap (λ o. option_map_or kinds o false) (name_is_no_keyword t k)) t h

  pub unqualified : (t : Token) → begins_any w t ≡ true → is_qualifier w t ≡ false
  unqualified t h =
      by_word_of (is_qualifier w) (mark_unqualified w)
      (λ t k. ap (λ o. option_map_or (sign.is_same_keyword keyword.Const) o false || (option_map_or (sign.is_same_keyword keyword.Restrict) o false || option_map_or (sign.is_same_keyword keyword.Volatile) o false)) (name_is_no_keyword t k)) t h

  pub head_fails : (goes test : Token → Bool) → ((t : Token) → goes t ≡ true → test t ≡ false) → (ts : List Token) → at_next goes ts ≡ true → at_next test ts ≡ false
  head_fails goes test step [] h = refl
  head_fails goes test step (t ∷ ts) h = step t h

  -- ---- marks are no names

  nameless : (k : PpKind) (n : Name) (o : Option Keyword) (text : List ℕ) (m : Mark) → sign.mark_by k text ≡ Some m → sign.name_by k n o ≡ None
  nameless kind.Word n o text m h = absurd (cc h)
  nameless _ n o text m h = refl

  pub mark_no_name : (m : Mark) (t : Token) → is_mark w m t ≡ true → name_of w t ≡ None
  mark_no_name m t h = nameless t.kind t.text (sign.keyword_of w.texts t) (sign.spelling_of w.texts t) m (mark_is w m t h)

  pub mark_is_no_name : (m : Mark) (t : Token) → is_mark w m t ≡ true → reader.is_name w t ≡ false
  mark_is_no_name m t h = ap is_some (mark_no_name m t h)

  pub name_is_no_mark : (m : Mark) (t : Token) (n : Name) → name_of w t ≡ Some n → is_mark w m t ≡ false
  name_is_no_mark m t n h = by_test (is_mark w m t) refl
    where
      by_test : (b : Bool) → is_mark w m t ≡ b → b ≡ false
      by_test false k = refl
      by_test true k = absurd (let both : None ≡ Some n = sym (mark_no_name m t k) ∙ h in cc both)

  pub mark_no_type_name : (m : Mark) (t : Token) → is_mark w m t ≡ true → is_type_name w t ≡ false
  mark_no_type_name m t h = ap (λ o. option_map_or (λ n. is_among n w.types) o false) (mark_no_name m t h)

  pub mark_no_note : (m : Mark) (t : Token) → is_mark w m t ≡ true → begins_note w t ≡ false
  mark_no_note m t h = ap (λ o. is_some o && (not (is_type_name w t) && looks_like_note (word_of w.texts t))) (mark_no_name m t h)

  -- ---- no declarator goes on with a closing parenthesis

  pub no_more_at_close : (d : Declarator) (t : Token) → is_close w t ≡ true → more_declarator w d t ≡ false
  no_more_at_close d t h = by_name d.name
    where
      off : (n : Mark) → sign.is_same_mark n mark.CloseParenthesis ≡ false → is_mark w n t ≡ false
      off n apart = mark_alone w mark.CloseParenthesis n t (mark_is w mark.CloseParenthesis t h) apart

      no_suffix : is_suffix w t ≡ false
      no_suffix = ap (λ b. b || is_open w t) (off mark.OpenBracket refl) ∙ off mark.OpenParenthesis refl

      none_begins : begins_abstract w t ≡ false
      none_begins = ap (λ b. b || (is_open w t || is_open_bracket w t)) (off mark.Star refl) ∙ ap (λ b. b || is_open_bracket w t) (off mark.OpenParenthesis refl) ∙ off mark.OpenBracket refl

      by_pieces : (b : Bool) → (if b then more_pointers w d.pieces t else is_suffix w t) ≡ false
      by_pieces true =
          ap (λ b. (b || reader.is_name w t) || (not (is_empty d.pieces) && is_qualifier w t)) none_begins ∙ ap (λ b. b || (not (is_empty d.pieces) && is_qualifier w t)) (mark_is_no_name mark.CloseParenthesis t h)
          ∙ and_fails (not (is_empty d.pieces)) (is_qualifier w t) (mark_unqualified w mark.CloseParenthesis t h)
      by_pieces false = no_suffix

      by_name : (n : Option (Name × Place)) → more_pieces w n d.pieces t ≡ false
      by_name (Some n) = no_suffix
      by_name None = by_pieces (is_empty (behind_pointers d.pieces))
