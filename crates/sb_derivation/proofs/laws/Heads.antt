-- With which tokens annotations, specifiers, parameters and members begin.
use Rattle.std.proofs.Common.{◌≡◌, ◌⊎◌, ℕ, Bool, true, false, ◌||◌, ◌&&◌, not, List, [], ◌∷◌, ◌++◌, Option, Some, None, is_some, if◌then◌else◌, refl, sym, ap, ◌∙◌, inl, inr}
use Rattle.std.specs.Option.{option_map_or}
use Rattle.sb_base.specs.declared.interning.Name.{Name}
use Rattle.sb_base.specs.declared.refusals.Place.{Place}
use Rattle.sb_base.specs.declared.tokens.Token.{Token}
use Rattle.sb_parse.specs.Parser.{at_next}
use Rattle.sb_parse.proofs.Heads.{head_of_append}
use Rattle.sb_sign.specs.declared.sign.Keyword.{Keyword}
use Rattle.sb_sign.specs.declared.sign.Keyword.TheVariants as keyword
use Rattle.sb_sign.specs.declared.sign.Mark.{Mark}
use Rattle.sb_tree.specs.declared.syntax.Storage.{Storage}
use Rattle.sb_sign.specs.Signs as sign
use Rattle.sb_tree.specs.Trees.{TypeTree, NoteTree, DeclTree}
use Rattle.sb_lexicon.specs.declared.words.TypeWords.{TypeWords}
use Rattle.sb_lexicon.specs.Lexicon.{Lexicon, is_mark, name_of, is_type_name, is_type_keyword, is_type_word}
use Rattle.sb_lexicon.specs.Words.{Said, Nothing, Words, Whole, no_words, put, worded, said_after}
use Rattle.sb_parse.proofs.Ways.{or_first, or_second}
use Rattle.sb_lexicon.proofs.Lexemes.{keyword_is, mark_is, mark_no_keyword, name_no_keyword}
use Rattle.sb_sal.specs.Notes.{IsNote, is_bare, has_arguments, AreNotes, no_notes, more_notes}
use Rattle.sb_sign.specs.declared.spelling.Arguments.{Arguments}
use Rattle.sb_sal.specs.Spellings.{begins_note, arguments_in, arguments_of, word_of}
use Rattle.sb_specifier.specs.declared.seat.Seat.{Seat}
use Rattle.sb_specifier.specs.declared.seat.Seat.TheVariants as seat
use Rattle.sb_specifier.specs.Specified.{reading, Specified, unspecified, storage_in, storage_by, is_register, base_of}
use Rattle.sb_specifier.specs.Declaration.{IsTag, is_untagged, is_tagged, IsSpecifier, is_word, is_constant, is_restricted, is_inline, is_stored, is_defined, names_structure, names_enumeration, defines_structure, defines_enumeration, AreSpecifiers, no_specifiers, more_specifiers, IsParameter, is_parameter, AreSome, first_parameter, parameter_behind, parameter_beyond, IsMember, is_member}
use Rattle.sb_specifier.specs.Readers as reader
use Rattle.sb_specifier.specs.Readers.{Declarations, begins_declaration, is_specifier_word, is_storage_word, is_storage_keyword}
use Rattle.sb_derivation.proofs.laws.Beginnings.{mark_no_type_name, mark_no_note}

-- ---- words of types and of storage

put_word : (k : Keyword) (v r : TypeWords) → put k v ≡ Some r → is_type_keyword k ≡ true
put_word keyword.Void v r e = refl
put_word keyword.Bool v r e = refl
put_word keyword.Char v r e = refl
put_word keyword.Short v r e = refl
put_word keyword.Int v r e = refl
put_word keyword.Long v r e = refl
put_word keyword.Signed v r e = refl
put_word keyword.Unsigned v r e = refl
put_word _ v r e = absurd (cc e)

some_worded : (place : Place) (o : Option TypeWords) (r : Said) → worded place o ≡ Some r → (v : TypeWords) × (o ≡ Some v)
some_worded place None r e = absurd (cc e)
some_worded place (Some v) r e = (v, refl)

pub said_word : (k : Keyword) (place : Place) (said r : Said) → said_after k place said ≡ Some r → is_type_keyword k ≡ true
said_word k place Nothing r e = let it = some_worded place (put k no_words) r e in put_word k no_words it.0 it.1
said_word k place (Words v at) r e = let it = some_worded at (put k v) r e in put_word k v it.0 it.1
said_word k place (Whole t) r e = absurd (cc e)

storage_word : (k : Keyword) (r : Storage) → storage_by k ≡ Some r → is_storage_keyword k ≡ true
storage_word keyword.Typedef r e = refl
storage_word keyword.Extern r e = refl
storage_word keyword.Static r e = refl
storage_word keyword.Register r e = refl
storage_word _ r e = absurd (cc e)

stored_word : (at : Seat) (o : Option Storage) (k : Keyword) (r : Storage) → storage_in at o k ≡ Some r → is_storage_keyword k ≡ true
stored_word seat.Scope None k r e = storage_word k r e
stored_word seat.Prototype None k r e = by_register (is_register k) e
  where
    by_register : (b : Bool) → (if b then storage_by k else None) ≡ Some r → is_storage_keyword k ≡ true
    by_register true h = storage_word k r h
    by_register false h = absurd (cc h)
stored_word seat.Scope (Some s) k r e = absurd (cc e)
stored_word seat.Prototype (Some s) k r e = absurd (cc e)
stored_word seat.Structure o k r e = absurd (cc e)

-- ---- annotations

noted : (w : Lexicon) (t : Token) (a : Arguments) → arguments_of w t ≡ Some a → begins_note w t ≡ true
noted w t a h = by_test (begins_note w t) refl h
  where
    by_test : (b : Bool) → begins_note w t ≡ b → (if b then arguments_in (word_of w.texts t) else None) ≡ Some a → begins_note w t ≡ true
    by_test true k g = k
    by_test false k g = absurd (cc g)

note_begins : (w : Lexicon) (may : Token → Bool) (ts : List Token) (n : NoteTree) → IsNote w may ts n → at_next (begins_note w) ts ≡ true
note_begins w _ _ _ (is_bare may t m h) = noted w t _ h
note_begins w _ _ _ (has_arguments may t o c a ts args m h opens closes are) = noted w t a h

-- annotations, where there are some
notes_begin : (w : Lexicon) (may : Token → Bool) (ts : List Token) (ns : List NoteTree) → AreNotes w may ts ns → (ts ≡ []) ⊎ (at_next (begins_note w) ts ≡ true)
notes_begin w may _ _ no_notes = inl refl
notes_begin w may _ _ (more_notes xs ys ns n are is) = by_case (notes_begin w may xs ns are)
  where
    by_case : (xs ≡ []) ⊎ (at_next (begins_note w) xs ≡ true) → (xs ++ ys ≡ []) ⊎ (at_next (begins_note w) (xs ++ ys) ≡ true)
    by_case (inl e) = inr (ap (λ l. at_next (begins_note w) (l ++ ys)) e ∙ note_begins w may ys n is)
    by_case (inr h) = inr (head_of_append (begins_note w) xs ys h)

-- ---- specifiers

abbrev pub begins_specifier : Lexicon → Token → Bool
begins_specifier w t = is_specifier_word w t || is_type_name w t

module _ (texts : List (List ℕ)) where
  type_word : (types : List Name) (k : Keyword) (t : Token) → sign.keyword_of texts t ≡ Some k → is_type_keyword k ≡ true → begins_specifier (reading texts types) t ≡ true
  type_word types k t h e =
      or_first (is_specifier_word (reading texts types) t) (is_type_name (reading texts types) t)
      (or_first (is_type_word (reading texts types) t) (is_storage_word (reading texts types) t) (ap (λ o. option_map_or is_type_keyword o false) h ∙ e))

  storage_first : (types : List Name) (k : Keyword) (t : Token) → sign.keyword_of texts t ≡ Some k → is_storage_keyword k ≡ true → begins_specifier (reading texts types) t ≡ true
  storage_first types k t h e =
      or_first (is_specifier_word (reading texts types) t) (is_type_name (reading texts types) t)
      (or_second (is_type_word (reading texts types) t) (is_storage_word (reading texts types) t) (ap (λ o. option_map_or is_storage_keyword o false) h ∙ e))

  tag_begins : (types : List Name) (k : Keyword) → is_type_keyword k ≡ true → (ts : List Token) (tag : Option Name) (place : Place) → IsTag (reading texts types) k ts tag place → at_next (begins_specifier (reading texts types)) ts ≡ true
  tag_begins types k e _ _ _ (is_untagged t h) = type_word types k t (keyword_is (reading texts types) k t h) e
  tag_begins types k e _ _ _ (is_tagged t n tag h named) = type_word types k t (keyword_is (reading texts types) k t h) e

  pub specifier_begins : (at : Seat) (s : Specified) (ts : List Token) (r : Specified) → IsSpecifier texts at s ts r → at_next (begins_specifier (reading texts s.types)) ts ≡ true
  specifier_begins _ _ _ _ (is_word at s t k said h e) = type_word s.types k t h (said_word k t.place s.said said e)
  specifier_begins _ _ _ _ (is_constant at s t h) = type_word s.types keyword.Const t (keyword_is (reading texts s.types) keyword.Const t h) refl
  specifier_begins _ _ _ _ (is_restricted at s t h) = type_word s.types keyword.Restrict t (keyword_is (reading texts s.types) keyword.Restrict t h) refl
  specifier_begins _ _ _ _ (is_inline at s t h e) = storage_first s.types keyword.Inline t (keyword_is (reading texts s.types) keyword.Inline t h) refl
  specifier_begins _ _ _ _ (is_stored at s t k storage h e) = storage_first s.types k t h (stored_word at s.storage k storage e)
  specifier_begins _ _ _ _ (is_defined at s t h e) = or_second (is_specifier_word (reading texts s.types) t) (is_type_name (reading texts s.types) t) h
  specifier_begins _ _ _ _ (names_structure at s ts n place e is) = tag_begins s.types keyword.Struct refl ts (Some n) place is
  specifier_begins _ _ _ _ (names_enumeration at s ts n place e is) = tag_begins s.types keyword.Enum refl ts (Some n) place is
  specifier_begins _ _ _ _ (defines_structure at s xs ys o c tag place ds e is opens closes are) =
      head_of_append (begins_specifier (reading texts s.types)) xs (o ∷ (ys ++ (c ∷ []))) (tag_begins s.types keyword.Struct refl xs tag place is)
  specifier_begins _ _ _ _ (defines_enumeration at s xs ys o c tag place is now comma e tagged opens closes are) =
      head_of_append (begins_specifier (reading texts s.types)) xs (o ∷ (ys ++ (c ∷ []))) (tag_begins s.types keyword.Enum refl xs tag place tagged)

  -- specifiers that name a type are some
  pub specifiers_begin : (at : Seat) (types : List Name) (ts : List Token) (s : Specified) (base : TypeTree) → AreSpecifiers texts at (unspecified types) ts s → base_of s ≡ Some base
      → at_next (begins_specifier (reading texts types)) ts ≡ true
  specifiers_begin _ types _ _ base (no_specifiers at _) e = absurd (cc e)
  specifiers_begin _ types _ _ base (more_specifiers at _ s r xs ys is are) e = head_of_append (begins_specifier (reading texts types)) xs ys (specifier_begins at (unspecified types) xs s is)

  -- ---- parameters and members

  pub declaration_begins : (types : List Name) (may : Token → Bool) (at : Seat) (xs ys later : List Token) (ns : List NoteTree) (s : Specified) (base : TypeTree) → AreNotes (reading texts types) may xs ns
      → AreSpecifiers texts at (unspecified types) ys s → base_of s ≡ Some base → at_next (begins_declaration (reading texts types)) (xs ++ (ys ++ later)) ≡ true
  declaration_begins types may at xs ys later ns s base noted are named = by_case (notes_begin (reading texts types) may xs ns noted)
    where
      by_note : (ts : List Token) → at_next (begins_note (reading texts types)) ts ≡ true → at_next (begins_declaration (reading texts types)) ts ≡ true
      by_note [] h = absurd (cc h)
      by_note (t ∷ ts) h =
          or_second (is_specifier_word (reading texts types) t) (is_type_name (reading texts types) t || begins_note (reading texts types) t)
          (or_second (is_type_name (reading texts types) t) (begins_note (reading texts types) t) h)

      by_specifier : (ts : List Token) → at_next (begins_specifier (reading texts types)) ts ≡ true → at_next (begins_declaration (reading texts types)) ts ≡ true
      by_specifier [] h = absurd (cc h)
      by_specifier (t ∷ ts) h = by_test (is_specifier_word (reading texts types) t) (is_type_name (reading texts types) t) h
        where
          by_test : (b c : Bool) → (b || c) ≡ true → (b || (c || begins_note (reading texts types) t)) ≡ true
          by_test true c e = refl
          by_test false true e = refl
          by_test false false e = absurd (cc e)

      by_case : (xs ≡ []) ⊎ (at_next (begins_note (reading texts types)) xs ≡ true) → at_next (begins_declaration (reading texts types)) (xs ++ (ys ++ later)) ≡ true
      by_case (inl none) =
          ap (λ l. at_next (begins_declaration (reading texts types)) (l ++ (ys ++ later))) none
          ∙ by_specifier (ys ++ later) (head_of_append (begins_specifier (reading texts types)) ys later (specifiers_begin at types ys s base are named))
      by_case (inr h) = by_note (xs ++ (ys ++ later)) (head_of_append (begins_note (reading texts types)) xs (ys ++ later) h)

  pub parameter_begins : (types now : List Name) (ts : List Token) (d : DeclTree) → IsParameter texts types ts d now → at_next (begins_declaration (reading texts types)) ts ≡ true
  parameter_begins _ _ _ _ (is_parameter types xs ys zs ns s base d noted are named is) = declaration_begins types _ seat.Prototype xs ys zs ns s base noted are named

  pub parameters_begin : (types : List Name) (ts : List Token) (ds : Declarations) → AreSome texts types ts ds → at_next (begins_declaration (reading texts types)) ts ≡ true
  parameters_begin _ _ _ (first_parameter types now ts d is) = parameter_begins types now ts d is
  parameters_begin _ _ _ (parameter_behind types now xs ys c ds d comma are few is) = head_of_append (begins_declaration (reading texts types)) xs (c ∷ ys) (parameters_begin types xs ds are)
  parameters_begin _ _ _ (parameter_beyond types now xs ys c m ds d comma are full room is) = head_of_append (begins_declaration (reading texts types)) xs (c ∷ (m ∷ ys)) (parameters_begin types xs ds are)

  pub member_begins : (types : List Name) (ts : List Token) (ds : Declarations) → IsMember texts types ts ds → at_next (begins_declaration (reading texts types)) ts ≡ true
  member_begins _ _ _ (is_member types xs ys zs c ns s base ds noted are named declared closes) = declaration_begins types _ seat.Structure xs ys (zs ++ (c ∷ [])) ns s base noted are named

  -- ---- what begins a declaration is no mark, and no name but of a type

  mark_begins_none : (types : List Name) (m : Mark) (t : Token) → is_mark (reading texts types) m t ≡ true → begins_declaration (reading texts types) t ≡ false
  mark_begins_none types m t h =
      let no_word : sign.keyword_of texts t ≡ None = mark_no_keyword (reading texts types) m t (mark_is (reading texts types) m t h) in
      ap (λ o. (option_map_or is_type_keyword o false || option_map_or is_storage_keyword o false) || (is_type_name (reading texts types) t || begins_note (reading texts types) t)) no_word
      ∙ ap (λ b. b || begins_note (reading texts types) t) (mark_no_type_name (reading texts types) m t h) ∙ mark_no_note (reading texts types) m t h

  pub declaration_no_mark : (types : List Name) (m : Mark) (t : Token) → begins_declaration (reading texts types) t ≡ true → is_mark (reading texts types) m t ≡ false
  declaration_no_mark types m t h = by_test (is_mark (reading texts types) m t) refl
    where
      by_test : (b : Bool) → is_mark (reading texts types) m t ≡ b → b ≡ false
      by_test false k = refl
      by_test true k = absurd (let both : true ≡ false = sym h ∙ mark_begins_none types m t k in cc both)

  -- a name that is no type and no annotation
  abbrev pub is_plain_name : List Name → Token → Bool
  is_plain_name types t = reader.is_name (reading texts types) t && not (is_type_name (reading texts types) t || begins_note (reading texts types) t)

  pub declaration_no_name : (types : List Name) (t : Token) → begins_declaration (reading texts types) t ≡ true → is_plain_name types t ≡ false
  declaration_no_name types t h = by_name (name_of (reading texts types) t) refl
    where
      by_rest : (b c : Bool) → (false || (b || c)) ≡ true → not (b || c) ≡ false
      by_rest true c e = refl
      by_rest false true e = refl
      by_rest false false e = absurd (cc e)

      by_name : (o : Option Name) → name_of (reading texts types) t ≡ o → is_plain_name types t ≡ false
      by_name None k = ap (λ o. is_some o && not (is_type_name (reading texts types) t || begins_note (reading texts types) t)) k
      by_name (Some n) k =
          let no_word : sign.keyword_of texts t ≡ None = name_no_keyword (reading texts types) n t k in
          let other : (false || (is_type_name (reading texts types) t || begins_note (reading texts types) t)) ≡ true =
          sym (ap (λ o. (option_map_or is_type_keyword o false || option_map_or is_storage_keyword o false) || (is_type_name (reading texts types) t || begins_note (reading texts types) t)) no_word) ∙ h in
          ap (λ o. is_some o && not (is_type_name (reading texts types) t || begins_note (reading texts types) t)) k ∙ by_rest (is_type_name (reading texts types) t) (begins_note (reading texts types) t) other
