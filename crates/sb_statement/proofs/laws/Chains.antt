-- Choices between parts that begin with a keyword or a punctuator each, and an expression as the last.
use Rattle.std.proofs.Common.{◌≡◌, ℕ, Bool, true, false, ◌||◌, ◌&&◌, not, List, [], ◌∷◌, ◌++◌, Option, Some, None, is_some, if◌then◌else◌, refl, sym, ap, ◌∙◌, inl, inr}
use Rattle.std.specs.Option.{option_map_or}
use Rattle.sb_base.specs.declared.interning.Name.{Name}
use Rattle.sb_base.specs.declared.tokens.PpKind.{PpKind}
use Rattle.sb_base.specs.declared.tokens.PpKind.TheVariants as kind
use Rattle.sb_base.specs.declared.tokens.Token.{Token}
use Rattle.sb_parse.specs.Parser.{Parser, at_next, choose}
use Rattle.sb_parse.specs.Lawful.{OnHead, Either}
use Rattle.sb_sign.specs.declared.sign.Keyword.{Keyword}
use Rattle.sb_sign.specs.declared.sign.Keyword.TheVariants as keyword
use Rattle.sb_sign.specs.declared.sign.Mark.{Mark}
use Rattle.sb_sign.specs.declared.sign.Mark.TheVariants as mark
use Rattle.sb_sign.specs.Signs as sign
use Rattle.sb_tree.specs.Trees.{Number, Text}
use Rattle.sb_lexicon.specs.Lexicon.{Lexicon, is_mark, is_keyword, name_of, is_type_name, is_type_keyword, prefix_at, step_at, operand_of, named_operand, by_mark, is_among}
use Rattle.sb_lexicon.specs.Tokens.{is_open, is_prefix, is_step, is_size_of, begins_expr}
use Rattle.sb_lexicon.proofs.Lexemes.{not_same, keyword_is, mark_is, mark_alone, mark_no_keyword, keyword_no_mark}
use Rattle.sb_parse.proofs.Ways.{or_second}
use Rattle.sb_sal.specs.Spellings.{begins_note, looks_like_note, word_of}
use Rattle.sb_parse.proofs.Partly.{Partly, choosing}
use Rattle.sb_specifier.specs.Specified.{reading}
use Rattle.sb_specifier.specs.Readers.{is_name, is_storage_keyword, is_specifier_word, begins_declaration}
use Rattle.sb_specifier.proofs.laws.Names.{mark_no_name, mark_begins_none}

-- ---- keywords and punctuators

pub data Sign : Type 0 where
  AMark : Mark → Sign
  AWord : Keyword → Sign

abbrev pub is_sign : Lexicon → Sign → Token → Bool
is_sign w (AMark m) t = is_mark w m t
is_sign w (AWord k) t = is_keyword w k t

abbrev pub same_sign : Sign → Sign → Bool
same_sign (AMark m) (AMark n) = sign.is_same_mark m n
same_sign (AWord j) (AWord k) = sign.is_same_keyword j k
same_sign _ _ = false

-- no expression begins so
abbrev pub begins_none : Sign → Bool
begins_none (AMark m) = not (sign.is_same_mark mark.OpenParenthesis m || (is_some (prefix_at m) || is_some (step_at m)))
begins_none (AWord k) = not (sign.is_same_keyword keyword.SizeOf k)

-- no declaration begins so
abbrev pub declares_none : Sign → Bool
declares_none (AMark m) = true
declares_none (AWord k) = not (is_type_keyword k || is_storage_keyword k)

all_three : (a b c : Bool) → not (a || (b || c)) ≡ true → (a ≡ false) × (b ≡ false) × (c ≡ false)
all_three false false false h = (refl, refl, refl)
all_three true b c h = absurd (cc h)
all_three false true c h = absurd (cc h)
all_three false false true h = absurd (cc h)

pub same_as_itself : (k : Keyword) → sign.is_same_keyword k k ≡ true
same_as_itself keyword.Auto = refl
same_as_itself _ = refl

both_off : (a b : Bool) → not (a || b) ≡ true → (a ≡ false) × (b ≡ false)
both_off false false h = (refl, refl)
both_off true b h = absurd (cc h)
both_off false true h = absurd (cc h)

pub flipped : (b : Bool) → not b ≡ true → b ≡ false
flipped false h = refl
flipped true h = absurd (cc h)

word_kind : (k : PpKind) (text : List ℕ) (j : Keyword) → sign.keyword_by k text ≡ Some j → k ≡ kind.Word
word_kind kind.Word text j e = refl
word_kind _ text j e = absurd (cc e)

no_name_by : (k : PpKind) (name : Name) (j : Keyword) (o : Option Keyword) → o ≡ Some j → sign.name_by k name o ≡ None
no_name_by k name j o e = ap (sign.name_by k name) e ∙ by_kind k
  where
    by_kind : (k : PpKind) → sign.name_by k name (Some j) ≡ None
    by_kind kind.Word = refl
    by_kind _ = refl

module _ (texts : List (List ℕ)) (types : List Name) where
  abbrev w : Lexicon
  w = reading texts types

  pub keyword_no_name : (k : Keyword) (t : Token) → is_keyword w k t ≡ true → name_of w t ≡ None
  keyword_no_name k t h = no_name_by t.kind t.text k (sign.keyword_of texts t) (keyword_is w k t h)

  pub sign_no_name : (s : Sign) (t : Token) → is_sign w s t ≡ true → is_name w t ≡ false
  sign_no_name (AMark m) t h = mark_no_name w t m h
  sign_no_name (AWord k) t h = ap is_some (keyword_no_name k t h)

  keyword_no_operand : (k : Keyword) (t : Token) → is_keyword w k t ≡ true → operand_of w t ≡ None
  keyword_no_operand k t h =
      let word : t.kind ≡ kind.Word = word_kind t.kind (sign.spelling_of texts t) k (keyword_is w k t h) in
      ap (λ z. if sign.is_number_kind z then Some (Number t.text t.value t.place) else (if sign.is_text_kind z then Some (Text t.text t.place) else named_operand w t.place (name_of w t))) word
      ∙ ap (named_operand w t.place) (keyword_no_name k t h)

  keyword_begins_none : (k : Keyword) (t : Token) → is_keyword w k t ≡ true → sign.is_same_keyword keyword.SizeOf k ≡ false → begins_expr w t ≡ false
  keyword_begins_none k t h other =
      let unmarked : sign.mark_of texts t ≡ None = keyword_no_mark w k t (keyword_is w k t h) in
      ap (λ o. is_some o || (is_open w t || (is_prefix w t || (is_step w t || is_size_of w t)))) (keyword_no_operand k t h)
      ∙ ap (λ o. option_map_or (sign.is_same_mark mark.OpenParenthesis) o false || (is_prefix w t || (is_step w t || is_size_of w t))) unmarked
      ∙ ap (λ b. b || (is_step w t || is_size_of w t)) (marked_off prefix_at unmarked) ∙ ap (λ b. b || is_size_of w t) (marked_off step_at unmarked)
      ∙ ap (λ o. option_map_or (sign.is_same_keyword keyword.SizeOf) o false) (keyword_is w k t h) ∙ other
    where
      marked_off : {A : Type 0} (gives : Mark → Option A) → sign.mark_of texts t ≡ None → is_some (by_mark gives t.place (sign.mark_of texts t)) ≡ false
      marked_off gives e = ap (λ o. is_some (by_mark gives t.place o)) e

  pub sign_begins_none : (s : Sign) (t : Token) → begins_none s ≡ true → is_sign w s t ≡ true → begins_expr w t ≡ false
  sign_begins_none (AMark m) t off h =
      let none = all_three (sign.is_same_mark mark.OpenParenthesis m) (is_some (prefix_at m)) (is_some (step_at m)) off in
      mark_begins_none w t m h none.0 none.1 none.2
  sign_begins_none (AWord k) t off h = keyword_begins_none k t h (flipped (sign.is_same_keyword keyword.SizeOf k) off)

  pub sign_alone : (s other : Sign) (t : Token) → same_sign other s ≡ false → is_sign w s t ≡ true → is_sign w other t ≡ false
  sign_alone (AMark m) (AMark n) t off h = mark_alone w m n t (mark_is w m t h) off
  sign_alone (AWord j) (AWord k) t off h = ap (λ o. option_map_or (sign.is_same_keyword k) o false) (keyword_is w j t h) ∙ off
  sign_alone (AMark m) (AWord k) t off h = ap (λ o. option_map_or (sign.is_same_keyword k) o false) (mark_no_keyword w m t (mark_is w m t h))
  sign_alone (AWord j) (AMark n) t off h = ap (λ o. option_map_or (sign.is_same_mark n) o false) (keyword_no_mark w j t (keyword_is w j t h))

  -- ---- and declarations

  nameless_declares_none : (t : Token) → name_of w t ≡ None → is_specifier_word w t ≡ false → begins_declaration w t ≡ false
  nameless_declares_none t named word =
      ap (λ b. b || (is_type_name w t || begins_note w t)) word ∙ ap (λ o. option_map_or (λ n. is_among n types) o false || begins_note w t) named ∙ ap (λ o. is_some o && (not (is_type_name w t) && looks_like_note (word_of texts t))) named

  pub sign_declares_none : (s : Sign) (t : Token) → declares_none s ≡ true → is_sign w s t ≡ true → begins_declaration w t ≡ false
  sign_declares_none (AMark m) t off h =
      nameless_declares_none t (by_some (name_of w t) (mark_no_name w t m h))
      (ap (λ o. option_map_or is_type_keyword o false || option_map_or is_storage_keyword o false) (mark_no_keyword w m t (mark_is w m t h)))
    where
      by_some : (o : Option Name) → is_some o ≡ false → o ≡ None
      by_some None e = refl
      by_some (Some n) e = absurd (cc e)
  sign_declares_none (AWord k) t off h =
      let none = both_off (is_type_keyword k) (is_storage_keyword k) off in
      nameless_declares_none t (keyword_no_name k t h)
      (ap (λ o. option_map_or is_type_keyword o false || option_map_or is_storage_keyword o false) (keyword_is w k t h) ∙ ap (λ b. b || is_storage_keyword k) none.0 ∙ none.1)

-- ---- chains

-- one of these signs, or what begins an expression
abbrev pub heads_of : Lexicon → List Sign → Token → Bool
heads_of w [] t = begins_expr w t
heads_of w (s ∷ ss) t = is_sign w s t || heads_of w ss t

-- the sign is none of these, and begins no expression
abbrev pub is_new : Sign → List Sign → Bool
is_new s [] = begins_none s
is_new s (o ∷ ss) = not (same_sign s o) && is_new s ss

both_hold : (a b : Bool) → (a && b) ≡ true → (a ≡ true) × (b ≡ true)
both_hold true true h = (refl, refl)
both_hold false b h = absurd (cc h)
both_hold true false h = absurd (cc h)

module _ (texts : List (List ℕ)) (types : List Name) where
  pub new_off : (s : Sign) (ss : List Sign) (t : Token) → is_new s ss ≡ true → heads_of (reading texts types) ss t ≡ true → is_sign (reading texts types) s t ≡ false
  new_off s [] t new h = by_test (is_sign (reading texts types) s t) refl
    where
      by_test : (b : Bool) → is_sign (reading texts types) s t ≡ b → b ≡ false
      by_test false k = refl
      by_test true k = let both : true ≡ false = sym h ∙ sign_begins_none texts types s t new k in absurd (cc both)
  new_off s (o ∷ ss) t new h =
      let both = both_hold (not (same_sign s o)) (is_new s ss) new in
      by_test (is_sign (reading texts types) o t) refl (flipped (same_sign s o) both.0) (new_off s ss t both.1)
    where
      by_test : (b : Bool) → is_sign (reading texts types) o t ≡ b → same_sign s o ≡ false → (heads_of (reading texts types) ss t ≡ true → is_sign (reading texts types) s t ≡ false)
          → is_sign (reading texts types) s t ≡ false
      by_test true k apart later = sign_alone texts types o s t apart k
      by_test false k apart later = later (ap (λ b. b || heads_of (reading texts types) ss t) (sym k) ∙ h)

  -- the alternatives from some sign on: which signs begin them
  pub record Chain {A : Type 0} (ss : List Sign) (Is : List Token → A → Type 0) (more : A → Token → Bool) (p : Parser Token A) : Type 0 where
    pub law : Partly Is more p
    pub heads : (ts : List Token) (a : A) → Is ts a → at_next (heads_of (reading texts types) ss) ts ≡ true

  pub link : {A : Type 0} {First Second : List Token → A → Type 0} {more : A → Token → Bool} {p q : Parser Token A} (s : Sign) (ss : List Sign) (test : Token → Bool)
      → ((t : Token) → test t ≡ true → is_sign (reading texts types) s t ≡ true) → is_new s ss ≡ true → OnHead test First more p → Chain ss Second more q
      → Chain (s ∷ ss) (Either First Second) more (choose test p q)
  link {A = A} {First = First} {Second = Second} {more = more} s ss test within new P Q = record { law = choosing P Q.law (λ ts a rest is e. apart ts a rest (Q.heads ts a is)); heads = heads }
    where
      off : (t : Token) → heads_of (reading texts types) ss t ≡ true → test t ≡ false
      off t h = by_test (test t) refl
        where
          by_test : (b : Bool) → test t ≡ b → b ≡ false
          by_test false k = refl
          by_test true k = let both : true ≡ false = sym (within t k) ∙ new_off s ss t new h in absurd (cc both)

      apart : (ts : List Token) (a : A) (rest : List Token) → at_next (heads_of (reading texts types) ss) ts ≡ true → at_next test (ts ++ rest) ≡ false
      apart [] a rest h = absurd (cc h)
      apart (t ∷ ts) a rest h = off t h

      first : (ts : List Token) → at_next test ts ≡ true → at_next (heads_of (reading texts types) (s ∷ ss)) ts ≡ true
      first [] h = absurd (cc h)
      first (t ∷ ts) h = ap (λ b. b || heads_of (reading texts types) ss t) (within t h)

      second : (ts : List Token) → at_next (heads_of (reading texts types) ss) ts ≡ true → at_next (heads_of (reading texts types) (s ∷ ss)) ts ≡ true
      second [] h = absurd (cc h)
      second (t ∷ ts) h = or_second (is_sign (reading texts types) s t) (heads_of (reading texts types) ss t) h

      heads : (ts : List Token) (a : A) → Either First Second ts a → at_next (heads_of (reading texts types) (s ∷ ss)) ts ≡ true
      heads ts a (inl is) = first ts (P.heads ts a is)
      heads ts a (inr is) = second ts (Q.heads ts a is)

-- ---- no chain begins with a word of declarations

abbrev all_declare_none : List Sign → Bool
all_declare_none [] = true
all_declare_none (s ∷ ss) = declares_none s && all_declare_none ss

module _ (texts : List (List ℕ)) (types : List Name) where
  pub specifies_none : (t : Token) → is_name (reading texts types) t ≡ false → begins_expr (reading texts types) t ≡ true → is_specifier_word (reading texts types) t ≡ false
  specifies_none t off h = by_key (sign.keyword_of texts t) refl
    where
      by_kind : (k : Keyword) → sign.keyword_of texts t ≡ Some k → (b : Bool) → (is_type_keyword k || is_storage_keyword k) ≡ b → b ≡ false
      by_kind k e false g = refl
      by_kind k e true g =
          let other : sign.is_same_keyword keyword.SizeOf k ≡ false = not_same (reading texts types) (λ j. is_type_keyword j || is_storage_keyword j) keyword.SizeOf k g refl in
          let is : is_keyword (reading texts types) k t ≡ true = ap (λ o. option_map_or (sign.is_same_keyword k) o false) e ∙ same_as_itself k in
          absurd (let both : true ≡ false = sym h ∙ sign_begins_none texts types (AWord k) t (ap not other) is in cc both)

      by_key : (o : Option Keyword) → sign.keyword_of texts t ≡ o → (option_map_or is_type_keyword (sign.keyword_of texts t) false || option_map_or is_storage_keyword (sign.keyword_of texts t) false) ≡ false
      by_key None e = ap (λ o. option_map_or is_type_keyword o false || option_map_or is_storage_keyword o false) e
      by_key (Some k) e = ap (λ o. option_map_or is_type_keyword o false || option_map_or is_storage_keyword o false) e ∙ by_kind k e (is_type_keyword k || is_storage_keyword k) refl

  no_name : (t : Token) → is_name (reading texts types) t ≡ false → name_of (reading texts types) t ≡ None
  no_name t off = by_some (name_of (reading texts types) t) off
    where
      by_some : (o : Option Name) → is_some o ≡ false → o ≡ None
      by_some None e = refl
      by_some (Some n) e = absurd (cc e)

  pub heads_no_declaration : (ss : List Sign) → all_declare_none ss ≡ true → (t : Token) → is_name (reading texts types) t ≡ false → heads_of (reading texts types) ss t ≡ true → begins_declaration (reading texts types) t ≡ false
  heads_no_declaration [] none t off h = nameless_declares_none texts types t (no_name t off) (specifies_none t off h)
  heads_no_declaration (s ∷ ss) none t off h = by_test (is_sign (reading texts types) s t) refl (λ later k. heads_no_declaration ss later t off k)
    where
      by_test : (b : Bool) → is_sign (reading texts types) s t ≡ b → (all_declare_none ss ≡ true → heads_of (reading texts types) ss t ≡ true → begins_declaration (reading texts types) t ≡ false) → begins_declaration (reading texts types) t ≡ false
      by_test true k later = sign_declares_none texts types s t (both_hold (declares_none s) (all_declare_none ss) none).0 k
      by_test false k later = later (both_hold (declares_none s) (all_declare_none ss) none).1 (ap (λ b. b || heads_of (reading texts types) ss t) (sym k) ∙ h)
