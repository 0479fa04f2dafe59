-- What the tokens show at which readers of declarations refuse, and why none is read where no declaration has room.
use Rattle.std.proofs.Common.{◌≡◌, ℕ, Bool, true, false, ◌||◌, ◌&&◌, not, List, [], refl, ap, ◌∙◌}
use Rattle.std.specs.Option.{option_map_or}
use Rattle.sb_base.specs.declared.interning.Name.{Name}
use Rattle.sb_base.specs.declared.tokens.Token.{Token}
use Rattle.sb_parse.specs.Parser.{refuse}
use Rattle.sb_sign.specs.declared.sign.Keyword.{Keyword}
use Rattle.sb_sign.specs.declared.sign.Keyword.TheVariants as keyword
use Rattle.sb_lexicon.specs.Lexicon.{Lexicon, is_keyword, is_type_keyword, is_type_word, is_type_name, begins_type}
use Rattle.sb_lexicon.specs.Tokens as expr
use Rattle.sb_operand.specs.Readers.{begins_abstract}
use Rattle.sb_lexicon.specs.SpecifierReaders.{is_floating, is_complex, is_union, may_be_floating}
use Rattle.sb_lexicon.specs.Tokens.{unexpected, too_deep, unknown, misplaced, is_open_brace}
use Rattle.sb_lexicon.specs.Words.{Said, Nothing, is_nothing}
use Rattle.sb_lexicon.proofs.Lexemes.{keyword_is}
use Rattle.sb_parse.proofs.Ways.{or_first, or_second, and_first}
use Rattle.sb_sal.specs.Reasons.{no_annotation, no_place}
use Rattle.sb_sal.specs.Spellings.{begins_note, is_listed, is_unlisted, may_stand}
use Rattle.sb_parse.proofs.Explaining.{next_is}
use Rattle.sb_specifier.specs.declared.seat.Seat.{Seat}
use Rattle.sb_specifier.specs.declared.seat.Seat.TheVariants as seat
use Rattle.sb_specifier.specs.Specified.{reading, bearer_at}
use Rattle.sb_specifier.specs.Readers.{barred, begins_at, begins_declaration, begins_parameter, is_storage_keyword, is_storage_word, is_assign}
use Rattle.sb_specifier.specs.Reasons.{in_notes, needs_room}
use Rattle.sb_specifier.proofs.telling.Reasons.{reasons, refusing_feature, refusing_deep}
use Rattle.sb_parse.proofs.Telling.{Telling, TellingAt, choosing, refusing, stopping}

-- ---- tokens for which there is no room

module _ (w : Lexicon) where
  declaration_needs : (t : Token) → begins_declaration w t ≡ true → needs_room w t ≡ true
  declaration_needs t h = or_first (begins_declaration w t) (begins_abstract w t || (is_open_brace w t || is_assign w t)) h

  pub abstract_needs : (t : Token) → begins_abstract w t ≡ true → needs_room w t ≡ true
  abstract_needs t h = or_second (begins_declaration w t) (begins_abstract w t || (is_open_brace w t || is_assign w t)) (or_first (begins_abstract w t) (is_open_brace w t || is_assign w t) h)

  pub brace_needs : (t : Token) → is_open_brace w t ≡ true → needs_room w t ≡ true
  brace_needs t h =
      or_second (begins_declaration w t) (begins_abstract w t || (is_open_brace w t || is_assign w t)) (or_second (begins_abstract w t) (is_open_brace w t || is_assign w t) (or_first (is_open_brace w t) (is_assign w t) h))

  pub assign_needs : (t : Token) → is_assign w t ≡ true → needs_room w t ≡ true
  assign_needs t h =
      or_second (begins_declaration w t) (begins_abstract w t || (is_open_brace w t || is_assign w t)) (or_second (begins_abstract w t) (is_open_brace w t || is_assign w t) (or_second (is_open_brace w t) (is_assign w t) h))

  -- a word of specifiers begins a declaration
  word_begins : (k : Keyword) → (is_type_keyword k || is_storage_keyword k) ≡ true → (t : Token) → is_keyword w k t ≡ true → begins_declaration w t ≡ true
  word_begins k some t h =
      ap (λ o. (option_map_or is_type_keyword o false || option_map_or is_storage_keyword o false) || (is_type_name w t || begins_note w t)) (keyword_is w k t h)
      ∙ or_first (is_type_keyword k || is_storage_keyword k) (is_type_name w t || begins_note w t) some

  pub word_needs : (k : Keyword) → (is_type_keyword k || is_storage_keyword k) ≡ true → (t : Token) → is_keyword w k t ≡ true → needs_room w t ≡ true
  word_needs k some t h = declaration_needs t (word_begins k some t h)

  by_type : (word storage name note : Bool) → (word || name) ≡ true → ((word || storage) || (name || note)) ≡ true
  by_type true storage name note h = refl
  by_type false true name note h = refl
  by_type false false true note h = refl
  by_type false false false note h = absurd (cc h)

  type_needs : (t : Token) → begins_type w t ≡ true → begins_declaration w t ≡ true
  type_needs t h = by_type (is_type_word w t) (is_storage_word w t) (is_type_name w t) (begins_note w t) h

  note_needs : (t : Token) → begins_note w t ≡ true → begins_declaration w t ≡ true
  note_needs t h = or_second (is_type_word w t || is_storage_word w t) (is_type_name w t || begins_note w t) (or_second (is_type_name w t) (begins_note w t) h)

  parameter_begins : (t : Token) → begins_parameter w t ≡ true → begins_declaration w t ≡ true
  parameter_begins t h = by_first (begins_type w t) refl h
    where
      by_third : (b : Bool) → is_keyword w keyword.Inline t ≡ b → (b || begins_note w t) ≡ true → begins_declaration w t ≡ true
      by_third true k e = word_begins keyword.Inline refl t k
      by_third false k e = note_needs t e

      by_second : (b : Bool) → is_keyword w keyword.Register t ≡ b → (b || (is_keyword w keyword.Inline t || begins_note w t)) ≡ true → begins_declaration w t ≡ true
      by_second true k e = word_begins keyword.Register refl t k
      by_second false k e = by_third (is_keyword w keyword.Inline t) refl e

      by_first : (b : Bool) → begins_type w t ≡ b → (b || (is_keyword w keyword.Register t || (is_keyword w keyword.Inline t || begins_note w t))) ≡ true → begins_declaration w t ≡ true
      by_first true k e = type_needs t k
      by_first false k e = by_second (is_keyword w keyword.Register t) refl e

  begins_needs : (at : Seat) (t : Token) → begins_at w at t ≡ true → needs_room w t ≡ true
  begins_needs seat.Scope t h = declaration_needs t h
  begins_needs seat.Structure t h = declaration_needs t (by_first (begins_type w t) refl h)
    where
      by_first : (b : Bool) → begins_type w t ≡ b → (b || begins_note w t) ≡ true → begins_declaration w t ≡ true
      by_first true k e = type_needs t k
      by_first false k e = note_needs t e
  begins_needs seat.Prototype t h = declaration_needs t (parameter_begins t h)

  -- ---- features

  floating_shows : (said : Said) (t : Token) → is_floating w said t ≡ true → (is_keyword w keyword.Float t || is_keyword w keyword.Double t) ≡ true
  floating_shows said t h = by_test (is_keyword w keyword.Float t) (is_nothing said) (is_keyword w keyword.Double t) (may_be_floating said) h
    where
      by_test : (f n d m : Bool) → ((f && n) || (d && m)) ≡ true → (f || d) ≡ true
      by_test true n d m h = refl
      by_test false n true m h = refl
      by_test false n false m h = absurd (cc h)

module _ (texts : List (List ℕ)) (now : List Name) where
  abbrev w : Lexicon
  w = reading texts now

  pub floating_telling : (A : Type 0) (said : Said) → TellingAt (reasons texts) {A = A} (is_floating w said) (refuse expr.floating)
  floating_telling A said = refusing_feature texts A now (is_floating w said) 1 (λ t h. floating_shows w said t h)

  pub union_telling : (A : Type 0) (said : Said) → TellingAt (reasons texts) {A = A} (is_union w said) (refuse expr.union)
  union_telling A said = refusing_feature texts A now (is_union w said) 2 (λ t h. and_first (is_keyword w keyword.Union t) (is_nothing said) h)

  pub volatile_telling : (A : Type 0) → TellingAt (reasons texts) {A = A} (is_keyword w keyword.Volatile) (refuse expr.volatile)
  volatile_telling A = refusing_feature texts A now (is_keyword w keyword.Volatile) 7 (λ t h. h)

  pub complex_telling : (A : Type 0) (said : Said) → TellingAt (reasons texts) {A = A} (is_complex w said) (refuse expr.complex)
  complex_telling A said = refusing_feature texts A now (is_complex w said) 8 (λ t h. and_first (is_keyword w keyword.Complex t || is_keyword w keyword.Imaginary t) (may_be_floating said) h)

  -- where no declaration has room

  off_place : (l m : Bool) → (l && not m) ≡ true → (l ≡ true) × (m ≡ false)
  off_place true false h = (refl, refl)
  off_place true true h = absurd (cc h)
  off_place false m h = absurd (cc h)

  pub barred_telling : (A : Type 0) (at : Seat) → Telling (reasons texts) {A = A} (barred w at)
  barred_telling A at =
      choosing (reasons texts) (is_unlisted w) (refuse unknown) _ (λ ts h. let t = next_is (is_unlisted w) ts h in stopping (reasons texts) A unknown ts (in_notes now (bearer_at at) [] [] unknown refl (no_annotation t.0 t.1 t.2 t.3)))
      (choosing (reasons texts) (λ t. is_listed w t && not (may_stand w (bearer_at at) t)) (refuse misplaced) _ (λ ts h. let t = next_is (λ t. is_listed w t && not (may_stand w (bearer_at at) t)) ts h in
      let off = off_place (is_listed w t.0) (may_stand w (bearer_at at) t.0) t.3 in stopping (reasons texts) A misplaced ts (in_notes now (bearer_at at) [] [] misplaced refl (no_place t.0 t.1 t.2 off.0 off.1)))
      (choosing (reasons texts) (is_floating w Nothing) (refuse expr.floating) _ (floating_telling A Nothing)
      (choosing (reasons texts) (is_union w Nothing) (refuse expr.union) _ (union_telling A Nothing)
      (choosing (reasons texts) (is_keyword w keyword.Volatile) (refuse expr.volatile) _ (volatile_telling A)
      (choosing (reasons texts) (is_complex w Nothing) (refuse expr.complex) _ (complex_telling A Nothing)
      (choosing (reasons texts) (begins_at w at) (refuse too_deep) (refuse unexpected) (refusing_deep texts A now (begins_at w at) (begins_needs w at)) (refusing (reasons texts) A)))))))
