-- The readers of the specifiers of declarations keep the laws, if those of members do.
use Rattle.std.proofs.Common.{◌≡◌, ◌≤◌, ◌+◌, ◌-◌, ℕ, suc, Bool, true, false, ◌||◌, ◌&&◌, not, List, [], ◌∷◌, ◌++◌, nat_lt, Option, Some, None, refl, sym, ap, ◌∙◌, subst, subst₂, append_assoc, append-nil, inl, inr, arith}
use Rattle.std.specs.Option.{option_map_or}
use Rattle.sb_base.specs.declared.interning.Name.{Name}
use Rattle.sb_base.specs.declared.refusals.Place.{Place}
use Rattle.sb_base.specs.declared.tokens.Token.{Token}
use Rattle.sb_parse.specs.Parser.{Outcome, Parser, done, stop, at_next, never, and_then, ◌>>=◌, pure, refuse, token, taken, choose}
use Rattle.sb_parse.specs.Lawful.{Lawful, OnHead, Follows, Joined, IsToken, IsValue, IsEmpty, Mapped, Opened, Unbarred, Either, Turns, over, turn}
use Rattle.sb_parse.proofs.Joining.{from_there, via, one_token, map_of, nothing}
use Rattle.sb_parse.proofs.Heads.{opened, opened_heads, at_head, guarded}
use Rattle.sb_parse.proofs.Looping.{looping}
use Rattle.sb_sign.specs.declared.sign.Keyword.{Keyword}
use Rattle.sb_sign.specs.declared.sign.Keyword.TheVariants as keyword
use Rattle.sb_sign.specs.declared.sign.Mark.TheVariants as mark
use Rattle.sb_tree.specs.Plain.{decl_list, item_list}
use Rattle.sb_sign.specs.Signs as sign
use Rattle.sb_tree.specs.Trees as tree
use Rattle.sb_tree.specs.Trees.{TypeTree, depth_of_type, depth_of_decls, depth_of_items}
use Rattle.sb_lexicon.specs.declared.words.TypeWords.{TypeWords}
use Rattle.sb_lexicon.specs.declared.words.Kind.TheVariants as kind
use Rattle.sb_lexicon.specs.Lexicon.{Lexicon, is_keyword, is_type_name, is_type_keyword}
use Rattle.sb_lexicon.specs.Tokens as expr
use Rattle.sb_lexicon.specs.SpecifierReaders.{may_be_floating, is_floating, is_complex, is_union}
use Rattle.sb_lexicon.specs.Tokens.{unexpected, too_deep, is_open_brace}
use Rattle.sb_lexicon.specs.Words.{Said, Nothing, Words, Whole, is_nothing, no_words, number_of_words, said_after, type_said, qualified_if, qualified}
use Rattle.sb_lexicon.proofs.Depths.{some_type_depth, within_room, room_within}
use Rattle.sb_lexicon.proofs.Lexemes.{is_kind, keyword_is, kind_off, head_off, mark_is, mark_no_keyword, int_token, int_token_is}
use Rattle.sb_lexicon.proofs.Marks.{flipped}
use Rattle.sb_parse.proofs.Ways.{second_fails, and_first, and_second, and_fails, goes_on_where, perhaps_there, either_within, refused_within, value_within, Completed, completing}
use Rattle.sb_specifier.specs.declared.seat.Seat.{Seat}
use Rattle.sb_specifier.specs.Specified.{Specified, reading, unspecified, saying, constantly, stored, base_of, depth_said, one_if, names_tag, is_tag_alone}
use Rattle.sb_specifier.specs.Declaration.{IsTag, is_untagged, is_tagged, IsSpecifier, is_word, is_constant, is_restricted, is_inline, is_stored, is_defined, names_structure, names_enumeration, defines_structure, defines_enumeration, AreSpecifiers, no_specifiers, more_specifiers}
use Rattle.sb_specifier.specs.Readers as reader
use Rattle.sb_specifier.specs.Readers.{Parts, is_structure, is_storage_keyword, is_storage_word, is_specifier_word, storage_by, storage_after, word_by, word_after, no_room_for_const, structure, enumeration, past_tag, tagless, specified, keyword_specifiers, names_type, defined, completed, specifiers}
use Rattle.sb_parse.proofs.Halting.{head_halted}
use Rattle.sb_specifier.proofs.laws.Keywords.{is_arithmetic, arithmetic_word, said_words, nothing_said, by_word, is_storing, storing_word, stores_in, by_storage, test_off, kinds_apart, type_specifies, storage_specifies, type_name_specifies_none}
use Rattle.sb_specifier.proofs.laws.More.{FitsMembers, more_members, more_specified}
use Rattle.sb_specifier.proofs.laws.Tags.{members_deep, more_tag, StructureText, structure_value, structure_head, EnumerationText, enumeration_value, enumeration_head, TaggedText, tagged_head, of_tagged, tagged_defined, tagged_alone}

-- ---- how deep the type is so far

abbrev deep : Specified → ℕ
deep s = one_if s.constant + depth_said s.said

said_deep : (said : Said) → 1 ≤ depth_said said
said_deep (Whole t) = some_type_depth t
said_deep _ = omega arith

nothing_deep : (said : Said) → said ≡ Nothing → depth_said said ≡ 1
nothing_deep said e = ap depth_said e

words_deep : (said : Said) → (v : TypeWords) × (at : Place) × (said ≡ Words v at) → depth_said said ≡ 1
words_deep said words = ap depth_said words.2

module _ (texts : List (List ℕ)) (seat : Seat) (below : ℕ) (part : ℕ → Parts) where
  abbrev plain : Lexicon
  plain = reading texts []

  abbrev struct_name : Name → Place → TypeTree
  struct_name n place = tree.Struct (Some n) tree.Undeclared place

  abbrev enum_name : Name → Place → TypeTree
  enum_name n place = tree.Enum (Some n) tree.Unlisted place

  abbrev is_inline_here : Specified → Token → Bool
  is_inline_here = reader.is_inline texts seat below part

  -- ---- one specifier that begins with a keyword

  abbrev ConstantText : Specified → List Token → Specified → Type 0
  ConstantText s = Unbarred (no_room_for_const texts seat below part s) (Mapped (λ t. constantly s) (IsToken (is_keyword plain keyword.Const)))

  abbrev RestrictedText : Specified → List Token → Specified → Type 0
  RestrictedText s = Mapped (λ t. s) (IsToken (is_keyword plain keyword.Restrict))

  abbrev InlineText : Specified → List Token → Specified → Type 0
  InlineText s = Mapped (λ t. s) (IsToken (is_inline_here s))

  abbrev StorageText : Specified → List Token → Specified → Type 0
  StorageText s = IsValue (storage_after plain seat s)

  abbrev WordText : Specified → List Token → Specified → Type 0
  WordText s = IsValue (word_after plain s)

  abbrev StoredOrWord : Specified → List Token → Specified → Type 0
  StoredOrWord s = Either (StorageText s) (WordText s)

  abbrev TaglessText : Specified → List Token → Specified → Type 0
  TaglessText s = Either (ConstantText s) (Either (RestrictedText s) (Either (InlineText s) (StoredOrWord s)))

  abbrev StructText : Specified → List Token → Specified → Type 0
  StructText s = TaggedText texts seat below part (StructureText texts seat below part s) struct_name keyword.Struct s

  abbrev EnumText : Specified → List Token → Specified → Type 0
  EnumText s = TaggedText texts seat below part (EnumerationText texts seat below part s) enum_name keyword.Enum s

  abbrev AnyText : Specified → List Token → Specified → Type 0
  AnyText s = Either (StructText s) (Either (EnumText s) (TaglessText s))

  -- ---- the kinds of keywords that texts begin with

  word_kind : (s r : Specified) (t : Token) → word_after plain s t ≡ Some r → is_kind plain is_arithmetic t ≡ true
  word_kind s r t e =
      let it = by_word t.place s r (sign.keyword_of texts t) e in
      ap (λ o. option_map_or is_arithmetic o false) it.1 ∙ (said_words it.0 t.place s.said it.2.0 it.2.1).0

  storage_kind : (s r : Specified) (t : Token) → storage_after plain seat s t ≡ Some r → is_kind plain is_storing t ≡ true
  storage_kind s r t e =
      let it = by_storage seat s r (sign.keyword_of texts t) e in
      ap (λ o. option_map_or is_storing o false) it.1 ∙ stores_in seat s.storage it.0 it.2.0 it.2.1

  word_begins : (s : Specified) (ts : List Token) (r : Specified) → WordText s ts r → at_next (is_kind plain is_arithmetic) ts ≡ true
  word_begins s ts r is = ap (at_next (is_kind plain is_arithmetic)) is.alone ∙ word_kind s r is.token is.is

  storage_begins : (s : Specified) (ts : List Token) (r : Specified) → StorageText s ts r → at_next (is_kind plain is_storing) ts ≡ true
  storage_begins s ts r is = ap (at_next (is_kind plain is_storing)) is.alone ∙ storage_kind s r is.token is.is

  token_heads : {A : Type 0} (test : Token → Bool) (f : Token → A) (ts : List Token) (a : A) → Mapped f (IsToken test) ts a → at_next test ts ≡ true
  token_heads test f ts a m = ap (at_next test) m.is.alone ∙ m.is.passes

  first_off : (test other : Token → Bool) → ((t : Token) → other t ≡ false → test t ≡ false) → (ts : List Token) → at_next other ts ≡ false → at_next test ts ≡ false
  first_off test other step [] e = refl
  first_off test other step (t ∷ ts) e = step t e

  inline_off : (s : Specified) (ts : List Token) → at_next (is_keyword plain keyword.Inline) ts ≡ false → at_next (is_inline_here s) ts ≡ false
  inline_off s ts e = first_off (is_inline_here s) (is_keyword plain keyword.Inline) (λ t h. ap (λ b. b && not (is_structure seat)) h) ts e

  -- a keyword that no storage word and no word of a type is
  plain_off : (a : Keyword) → is_arithmetic a ≡ false → is_storing a ≡ false → (s : Specified) (ts : List Token) (r : Specified) → StoredOrWord s ts r → at_next (is_keyword plain a) ts ≡ false
  plain_off a no_word no_storage s ts r (inl is) = head_off plain is_storing a no_storage ts (storage_begins s ts r is)
  plain_off a no_word no_storage s ts r (inr is) = head_off plain is_arithmetic a no_word ts (word_begins s ts r is)

  inline_begins : (s : Specified) (ts : List Token) (r : Specified) → InlineText s ts r → at_next (is_keyword plain keyword.Inline) ts ≡ true
  inline_begins s ts r m = ap (at_next (is_keyword plain keyword.Inline)) m.is.alone ∙ and_first (is_keyword plain keyword.Inline m.value) (not (is_structure seat)) m.is.passes

  behind_restrict_off : (a : Keyword) → is_arithmetic a ≡ false → is_storing a ≡ false → sign.is_same_keyword keyword.Inline a ≡ false
      → (s : Specified) (ts : List Token) (r : Specified) → Either (InlineText s) (StoredOrWord s) ts r → at_next (is_keyword plain a) ts ≡ false
  behind_restrict_off a no_word no_storage no_inline s ts r (inl m) = head_off plain (sign.is_same_keyword keyword.Inline) a no_inline ts (inline_begins s ts r m)
  behind_restrict_off a no_word no_storage no_inline s ts r (inr is) = plain_off a no_word no_storage s ts r is

  behind_const_off : (a : Keyword) → is_arithmetic a ≡ false → is_storing a ≡ false → sign.is_same_keyword keyword.Inline a ≡ false → sign.is_same_keyword keyword.Restrict a ≡ false
      → (s : Specified) (ts : List Token) (r : Specified) → Either (RestrictedText s) (Either (InlineText s) (StoredOrWord s)) ts r → at_next (is_keyword plain a) ts ≡ false
  behind_const_off a no_word no_storage no_inline no_restrict s ts r (inl m) = head_off plain (sign.is_same_keyword keyword.Restrict) a no_restrict ts (token_heads (is_keyword plain keyword.Restrict) (λ t. s) ts r m)
  behind_const_off a no_word no_storage no_inline no_restrict s ts r (inr is) = behind_restrict_off a no_word no_storage no_inline s ts r is

  tagless_off : (a : Keyword) → is_arithmetic a ≡ false → is_storing a ≡ false → sign.is_same_keyword keyword.Inline a ≡ false → sign.is_same_keyword keyword.Restrict a ≡ false → sign.is_same_keyword keyword.Const a ≡ false
      → (s : Specified) (ts : List Token) (r : Specified) → TaglessText s ts r → at_next (is_keyword plain a) ts ≡ false
  tagless_off a no_word no_storage no_inline no_restrict no_const s ts r (inl u) = head_off plain (sign.is_same_keyword keyword.Const) a no_const ts (token_heads (is_keyword plain keyword.Const) (λ t. constantly s) ts r u.is)
  tagless_off a no_word no_storage no_inline no_restrict no_const s ts r (inr is) = behind_const_off a no_word no_storage no_inline no_restrict s ts r is

  -- ---- the laws of one specifier

  keyword_specifies : (k : Keyword) → is_type_keyword k ≡ true → (t : Token) → is_keyword plain k t ≡ true → is_specifier_word plain t ≡ true
  keyword_specifies k good t h = type_specifies plain k good t (keyword_is plain k t h)

  word_head : (s : Specified) → OnHead (is_specifier_word plain) (WordText s) (λ _. never) (taken unexpected (word_after plain s))
  word_head s = value_within (is_specifier_word plain) unexpected (word_after plain s) specifies
    where
      specifies : (t : Token) (r : Specified) → word_after plain s t ≡ Some r → is_specifier_word plain t ≡ true
      specifies t r e =
          let it = by_word t.place s r (sign.keyword_of texts t) e in
          type_specifies plain it.0 (arithmetic_word it.0 (said_words it.0 t.place s.said it.2.0 it.2.1).0).0 t it.1

  complex_off : (said : Said) (t : Token) → is_kind plain is_arithmetic t ≡ true → is_complex plain said t ≡ false
  complex_off said t h =
      ap (λ b. (b || is_keyword plain keyword.Imaginary t) && may_be_floating said) (kind_off plain is_arithmetic keyword.Complex t refl h)
      ∙ ap (λ b. b && may_be_floating said) (kind_off plain is_arithmetic keyword.Imaginary t refl h)

  floating_off : (said : Said) (t : Token) → is_kind plain is_arithmetic t ≡ true → is_floating plain said t ≡ false
  floating_off said t h =
      ap (λ b. (b && is_nothing said) || (is_keyword plain keyword.Double t && may_be_floating said)) (kind_off plain is_arithmetic keyword.Float t refl h)
      ∙ ap (λ b. b && may_be_floating said) (kind_off plain is_arithmetic keyword.Double t refl h)

  union_off : (said : Said) (t : Token) → is_kind plain is_arithmetic t ≡ true → is_union plain said t ≡ false
  union_off said t h = ap (λ b. b && is_nothing said) (kind_off plain is_arithmetic keyword.Union t refl h)

  word_apart : (test : Token → Bool) → ((t : Token) → is_kind plain is_arithmetic t ≡ true → test t ≡ false) → (s : Specified) (ts : List Token) (r : Specified) → WordText s ts r → at_next test ts ≡ false
  word_apart test step s ts r is = test_off (is_kind plain is_arithmetic) test step ts (word_begins s ts r is)

  refused_head : (s : Specified) → OnHead (is_specifier_word plain) (WordText s) (λ _. never)
      (choose (is_floating plain s.said) (refuse expr.floating) (choose (is_union plain s.said) (refuse expr.union) (choose (is_keyword plain keyword.Volatile) (refuse expr.volatile) (choose (is_complex plain s.said) (refuse expr.complex) (taken unexpected (word_after plain s))))))
  refused_head s =
      refused_within (is_floating plain s.said) expr.floating
      (refused_within (is_union plain s.said) expr.union
      (refused_within (is_keyword plain keyword.Volatile) expr.volatile
      (refused_within (is_complex plain s.said) expr.complex (word_head s)
      (word_apart (is_complex plain s.said) (complex_off s.said) s))
      (word_apart (is_keyword plain keyword.Volatile) (λ t h. kind_off plain is_arithmetic keyword.Volatile t refl h) s))
      (word_apart (is_union plain s.said) (union_off s.said) s))
      (word_apart (is_floating plain s.said) (floating_off s.said) s)

  storage_head : (s : Specified) → OnHead (is_storage_word plain) (StorageText s) (λ _. never) (taken unexpected (storage_after plain seat s))
  storage_head s = value_within (is_storage_word plain) unexpected (storage_after plain seat s) stores_there
    where
      stores_there : (t : Token) (r : Specified) → storage_after plain seat s t ≡ Some r → is_storage_word plain t ≡ true
      stores_there t r e =
          let it = by_storage seat s r (sign.keyword_of texts t) e in
          ap (λ o. option_map_or is_storage_keyword o false) it.1 ∙ storing_word it.0 (stores_in seat s.storage it.0 it.2.0 it.2.1)

  -- a token that is a specifier by itself
  token_alone : (test : Token → Bool) (r : Specified) → OnHead test (Mapped (λ t. r) (IsToken test)) (λ _. never) (token unexpected test >>= (λ t. pure r))
  token_alone test r = at_head test (λ t h. map_of (one_token unexpected test t h) (λ t. r) (λ _. never) (λ a t. refl)) (token_heads test (λ t. r))

  inline_specifies : (s : Specified) (t : Token) → is_inline_here s t ≡ true → is_specifier_word plain t ≡ true
  inline_specifies s t h =
      storage_specifies plain t (ap (λ o. option_map_or is_storage_keyword o false) (keyword_is plain keyword.Inline t (and_first (is_keyword plain keyword.Inline t) (not (is_structure seat)) h)))

  tagless_head : (s : Specified) → OnHead (is_specifier_word plain) (TaglessText s) (λ _. never) (tagless texts seat below part s)
  unfolding tagless
  tagless_head s =
      either_within (guarded (no_room_for_const texts seat below part s) too_deep (λ room. token_alone (is_keyword plain keyword.Const) (constantly s)))
      (either_within (token_alone (is_keyword plain keyword.Restrict) s)
      (either_within (token_alone (is_inline_here s) s)
      (either_within (storage_head s)
      (refused_head s)
      (storage_specifies plain)
      (word_apart (is_storage_word plain) (kinds_apart plain is_arithmetic is_storage_keyword (λ k h. (arithmetic_word k h).1)) s))
      (inline_specifies s)
      (λ ts r is. inline_off s ts (plain_off keyword.Inline refl refl s ts r is)))
      (keyword_specifies keyword.Restrict refl)
      (behind_restrict_off keyword.Restrict refl refl refl s))
      (keyword_specifies keyword.Const refl)
      (behind_const_off keyword.Const refl refl refl refl s)

  tag_off : (s : Specified) (k : Keyword) (ts : List Token) → at_next (is_keyword plain k) ts ≡ false → at_next (reader.begins_tag texts seat below part s k) ts ≡ false
  tag_off s k ts e = first_off (reader.begins_tag texts seat below part s k) (is_keyword plain k) (λ t h. ap (λ b. b && is_nothing s.said) h) ts e

  tag_specifies : (s : Specified) (k : Keyword) → is_type_keyword k ≡ true → (t : Token) → reader.begins_tag texts seat below part s k t ≡ true → is_specifier_word plain t ≡ true
  tag_specifies s k good t h = keyword_specifies k good t (and_first (is_keyword plain k t) (is_nothing s.said) h)

  enum_begins : (s : Specified) (ts : List Token) (r : Specified) → EnumText s ts r → at_next (is_keyword plain keyword.Enum) ts ≡ true
  enum_begins s ts r is = ap (at_next (is_keyword plain keyword.Enum)) is.1.split ∙ is.1.passes

  struct_off : (s : Specified) (ts : List Token) (r : Specified) → Either (EnumText s) (TaglessText s) ts r → at_next (reader.begins_tag texts seat below part s keyword.Struct) ts ≡ false
  struct_off s ts r (inl is) = tag_off s keyword.Struct ts (head_off plain (sign.is_same_keyword keyword.Enum) keyword.Struct refl ts (enum_begins s ts r is))
  struct_off s ts r (inr is) = tag_off s keyword.Struct ts (tagless_off keyword.Struct refl refl refl refl refl s ts r is)

  -- ---- in the grammar's words

  abbrev Fits : Specified → Type 0
  Fits s = deep s ≤ below

  -- a specifier, which leaves the type as deep as it may be
  abbrev Specifies : Specified → List Token → Specified → Type 0
  Specifies s ts r = IsSpecifier texts seat s ts r × (Fits s → Fits r)

  flat_fits : (s : Specified) → Fits s → one_if s.constant + 1 ≤ below
  flat_fits s h = let some : 1 ≤ depth_said s.said = said_deep s.said in omega arith

  const_fits : (c : Bool) (d b : ℕ) → (not c && nat_lt b (suc d)) ≡ false → one_if c + d ≤ b → 1 + d ≤ b
  const_fits true d b room h = omega arith
  const_fits false d b room h = let le : suc d ≤ b = within_room b (suc d) room in omega arith

  of_struct : (s : Specified) (ts : List Token) (r : Specified) → StructText s ts r → Specifies s ts r
  of_struct s ts r is = of_tagged texts seat below part (StructureText texts seat below part s) struct_name keyword.Struct s (Specifies s) defines names ts r is
    where
      none : s.said ≡ Nothing
      none = nothing_said s.said is.0

      defines : (xs : List Token) (tag : Option Name) (place : Place) (ys : List Token) (r : Specified) → IsTag (reading texts s.types) keyword.Struct xs tag place → StructureText texts seat below part s tag place ys r → Specifies s (xs ++ ys) r
      defines xs tag place ys r t d =
          let o = d.is in
          let m = d.is.is in
          let it : IsSpecifier texts seat s (xs ++ (o.opening ∷ (m.is.front ++ (m.is.closing ∷ [])))) (structure_value texts seat below part s tag place m.value) =
          defines_structure seat s xs m.is.front o.opening m.is.closing tag place m.value none t o.passes m.is.passes m.is.is.0 in
          let inside : depth_of_decls (decl_list m.value.list) ≤ below - suc (one_if s.constant) = m.is.is.1 in
          let room : 3 + one_if s.constant ≤ below = within_room below (3 + one_if s.constant) d.open_way in
          rw (o.split, m.is.split, m.same) (it, λ h. omega arith)

      names : (xs : List Token) (n : Name) (place : Place) → IsTag (reading texts s.types) keyword.Struct xs (Some n) place → Specifies s xs (saying (Whole (struct_name n place)) s)
      names xs n place t = (names_structure seat s xs n place none t, flat_fits s)

  of_enum : (s : Specified) (ts : List Token) (r : Specified) → EnumText s ts r → Specifies s ts r
  of_enum s ts r is = of_tagged texts seat below part (EnumerationText texts seat below part s) enum_name keyword.Enum s (Specifies s) defines names ts r is
    where
      none : s.said ≡ Nothing
      none = nothing_said s.said is.0

      defines : (xs : List Token) (tag : Option Name) (place : Place) (ys : List Token) (r : Specified) → IsTag (reading texts s.types) keyword.Enum xs tag place → EnumerationText texts seat below part s tag place ys r → Specifies s (xs ++ ys) r
      defines xs tag place ys r t o =
          let m = o.is in
          let it : IsSpecifier texts seat s (xs ++ (o.opening ∷ (m.is.front ++ (m.is.closing ∷ [])))) (enumeration_value texts seat below part s tag place m.value) =
          defines_enumeration seat s xs m.is.front o.opening m.is.closing tag place m.value.list m.value.types m.value.more none t o.passes m.is.passes m.is.is.0 in
          let inside : depth_of_items (item_list m.value.list) ≤ below - suc (one_if s.constant) = m.is.is.1 in
          rw (o.split, m.is.split, m.same) (it, λ h. let flat : one_if s.constant + 1 ≤ below = flat_fits s h in omega arith)

      names : (xs : List Token) (n : Name) (place : Place) → IsTag (reading texts s.types) keyword.Enum xs (Some n) place → Specifies s xs (saying (Whole (enum_name n place)) s)
      names xs n place t = (names_enumeration seat s xs n place none t, flat_fits s)

  of_tagless : (s : Specified) (ts : List Token) (r : Specified) → TaglessText s ts r → Specifies s ts r
  of_tagless s ts r (inl u) = rw (u.is.is.alone, u.is.same) (is_constant seat s u.is.value u.is.is.passes, const_fits s.constant (depth_said s.said) below u.open_way)
  of_tagless s ts r (inr (inl m)) = rw (m.is.alone, m.same) (is_restricted seat s m.value m.is.passes, λ h. h)
  of_tagless s ts r (inr (inr (inl m))) =
      rw (m.is.alone, m.same) (is_inline seat s m.value (and_first (is_keyword plain keyword.Inline m.value) (not (is_structure seat)) m.is.passes) (flipped (is_structure seat) (and_second (is_keyword plain keyword.Inline m.value) (not (is_structure seat)) m.is.passes)), λ h. h)
  of_tagless s ts r (inr (inr (inr (inl v)))) =
      let it = by_storage seat s r (sign.keyword_of texts v.token) v.is in
      rw (v.alone, it.2.2) (is_stored seat s v.token it.0 it.2.0 it.1 it.2.1, λ h. h)
  of_tagless s ts r (inr (inr (inr (inr v)))) =
      let it = by_word v.token.place s r (sign.keyword_of texts v.token) v.is in
      let flat : depth_said it.2.0 ≡ 1 = words_deep it.2.0 (said_words it.0 v.token.place s.said it.2.0 it.2.1).1 in
      rw (v.alone, it.2.2) (is_word seat s v.token it.0 it.2.0 it.1 it.2.1, λ h. let least : one_if s.constant + 1 ≤ below = flat_fits s h in omega arith)

  of_text : (s : Specified) (ts : List Token) (r : Specified) → AnyText s ts r → Specifies s ts r
  of_text s ts r (inl is) = of_struct s ts r is
  of_text s ts r (inr (inl is)) = of_enum s ts r is
  of_text s ts r (inr (inr is)) = of_tagless s ts r is

  text_of : (s r : Specified) (ts : List Token) → IsSpecifier texts seat s ts r → at_next (is_specifier_word plain) ts ≡ true → Fits r → AnyText s ts r
  text_of _ _ _ (is_word at s t k said e h) begins fits =
      inr (inr (inr (inr (inr (inr (record { token = t; alone = refl; is = ap (word_by t.place s) e ∙ ap (λ o. option_map_or (λ said. Some (saying said s)) o None) h }))))))
  text_of _ _ _ (is_constant at s t e) begins fits =
      inr (inr (inl (record { open_way = and_fails (not s.constant) (nat_lt below (suc (depth_said s.said))) (room_within below (suc (depth_said s.said)) (let one : 1 + depth_said s.said ≤ below = fits in omega arith)); is = record { value = t; is = record { alone = refl; passes = e }; same = refl } })))
  text_of _ _ _ (is_restricted at s t e) begins fits = inr (inr (inr (inl (record { value = t; is = record { alone = refl; passes = e }; same = refl }))))
  text_of _ _ _ (is_inline at s t e h) begins fits =
      inr (inr (inr (inr (inl (record { value = t; is = record { alone = refl; passes = ap (λ b. b && not (is_structure seat)) e ∙ ap not h }; same = refl })))))
  text_of _ _ _ (is_stored at s t k storage e h) begins fits =
      inr (inr (inr (inr (inr (inl (record { token = t; alone = refl; is = ap (storage_by seat s) e ∙ ap (λ o. option_map_or (λ storage. Some (stored storage s)) o None) h }))))))
  text_of _ _ _ (is_defined at s t e none) begins fits = absurd (let both : false ≡ true = sym (type_name_specifies_none (reading texts s.types) t e) ∙ begins in cc both)
  text_of _ _ _ (names_structure at s ts n place none tag) begins fits = inl (tagged_alone texts seat below part (StructureText texts seat below part s) struct_name keyword.Struct s (ap is_nothing none) ts n place tag)
  text_of _ _ _ (names_enumeration at s ts n place none tag) begins fits =
      inr (inl (tagged_alone texts seat below part (EnumerationText texts seat below part s) enum_name keyword.Enum s (ap is_nothing none) ts n place tag))
  text_of _ _ _ (defines_structure at s xs ys o c tag place ds none is_tag opens closes are) begins fits =
      let least : 2 ≤ depth_of_decls (decl_list ds.list) = members_deep texts s.types ys ds are in
      let whole : one_if s.constant + suc (depth_of_decls (decl_list ds.list)) ≤ below = fits in
      inl (tagged_defined texts seat below part (StructureText texts seat below part s) struct_name keyword.Struct s (ap is_nothing none) xs tag place (o ∷ (ys ++ (c ∷ []))) (structure_value texts seat below part s tag place ds) is_tag
      (record {
        open_way = room_within below (3 + one_if s.constant) (omega arith);
        is = record { opening = o; rest = ys ++ (c ∷ []); split = refl; passes = opens; is = record { value = ds; is = record { front = ys; closing = c; split = refl; is = (are, omega arith); passes = closes }; same = refl } };
      }))
  text_of _ _ _ (defines_enumeration at s xs ys o c tag place is now comma none is_tag opens closes are) begins fits =
      let whole : one_if s.constant + suc (depth_of_items (item_list is)) ≤ below = fits in
      inr (inl (tagged_defined texts seat below part (EnumerationText texts seat below part s) enum_name keyword.Enum s (ap is_nothing none) xs tag place (o ∷ (ys ++ (c ∷ []))) (enumeration_value texts seat below part s tag place (record { list = is; types = now; more = comma })) is_tag
      (record {
        opening = o;
        rest = ys ++ (c ∷ []);
        split = refl;
        passes = opens;
        is = record { value = record { list = is; types = now; more = comma }; is = record { front = ys; closing = c; split = refl; is = (are, omega arith); passes = closes }; same = refl };
      })))

  -- ---- what the specifiers so far tell of those before

  said_flat : (k : Keyword) (place : Place) (said r : Said) → said_after k place said ≡ Some r → depth_said said ≡ 1
  said_flat k place Nothing r e = refl
  said_flat k place (Words v at) r e = refl
  said_flat k place (Whole t) r e = absurd (cc e)

  one_at_most : (c : Bool) → one_if c ≤ 1
  one_at_most true = omega arith
  one_at_most false = omega arith

  -- the type becomes no less deep
  stays_deep : (s r : Specified) (ts : List Token) → IsSpecifier texts seat s ts r → deep s ≤ deep r
  stays_deep _ _ _ (is_word at s t k said e h) = let before : depth_said s.said ≡ 1 = said_flat k t.place s.said said h in let after : 1 ≤ depth_said said = said_deep said in omega arith
  stays_deep _ _ _ (is_constant at s t e) = let one : one_if s.constant ≤ 1 = one_at_most s.constant in omega arith
  stays_deep _ _ _ (is_restricted at s t e) = omega arith
  stays_deep _ _ _ (is_inline at s t e h) = omega arith
  stays_deep _ _ _ (is_stored at s t k storage e h) = omega arith
  stays_deep _ _ _ (is_defined at s t e none) = let before : depth_said s.said ≡ 1 = nothing_deep s.said none in omega arith
  stays_deep _ _ _ (names_structure at s ts n place none tag) = let before : depth_said s.said ≡ 1 = nothing_deep s.said none in omega arith
  stays_deep _ _ _ (names_enumeration at s ts n place none tag) = let before : depth_said s.said ≡ 1 = nothing_deep s.said none in omega arith
  stays_deep _ _ _ (defines_structure at s xs ys o c tag place ds none is_tag opens closes are) = let before : depth_said s.said ≡ 1 = nothing_deep s.said none in omega arith
  stays_deep _ _ _ (defines_enumeration at s xs ys o c tag place is now comma none is_tag opens closes are) = let before : depth_said s.said ≡ 1 = nothing_deep s.said none in omega arith

  all_stay_deep : (s r : Specified) (ts : List Token) → AreSpecifiers texts seat s ts r → deep s ≤ deep r
  all_stay_deep _ _ _ (no_specifiers at s) = omega arith
  all_stay_deep _ _ _ (more_specifiers at s m r xs ys is rest) = let first : deep s ≤ deep m = stays_deep s m xs is in let last : deep m ≤ deep r = all_stay_deep m r ys rest in omega arith

  stays_said : (s r : Specified) (ts : List Token) → IsSpecifier texts seat s ts r → is_nothing s.said ≡ false → is_nothing r.said ≡ false
  stays_said _ _ _ (is_word at s t k said e h) off = let words = (said_words k t.place s.said said h).1 in ap is_nothing words.2
  stays_said _ _ _ (is_constant at s t e) off = off
  stays_said _ _ _ (is_restricted at s t e) off = off
  stays_said _ _ _ (is_inline at s t e h) off = off
  stays_said _ _ _ (is_stored at s t k storage e h) off = off
  stays_said _ _ _ _ off = refl

  all_stay_said : (s r : Specified) (ts : List Token) → AreSpecifiers texts seat s ts r → is_nothing s.said ≡ false → is_nothing r.said ≡ false
  all_stay_said _ _ _ (no_specifiers at s) off = off
  all_stay_said _ _ _ (more_specifiers at s m r xs ys is rest) off = all_stay_said m r ys rest (stays_said s m xs is off)

  are_of_turns : (s r : Specified) (ts : List Token) → Turns AnyText s ts r → AreSpecifiers texts seat s ts r × (Fits s → Fits r)
  are_of_turns _ _ _ (over s) = (no_specifiers seat s, λ h. h)
  are_of_turns _ _ _ (turn s m r xs ys v rest) =
      let first : Specifies s xs m = of_text s xs m v in
      let later : AreSpecifiers texts seat m ys r × (Fits m → Fits r) = are_of_turns m r ys rest in
      (more_specifiers seat s m r xs ys first.0 later.0, λ h. later.1 (first.1 h))

  are_append : (s m r : Specified) (xs ys : List Token) → AreSpecifiers texts seat s xs m → AreSpecifiers texts seat m ys r → AreSpecifiers texts seat s (xs ++ ys) r
  are_append _ _ _ _ _ (no_specifiers at s) are = are
  are_append _ _ r _ ys (more_specifiers at s n m us vs is rest) are = subst (λ l. AreSpecifiers texts seat s l r) (sym (append_assoc us vs ys)) (more_specifiers seat s n r us (vs ++ ys) is (are_append n m r vs ys rest are))

  -- a tag begins with a keyword
  tag_keyword : (w : Lexicon) (k : Keyword) → is_type_keyword k ≡ true → (xs ys : List Token) (tag : Option Name) (place : Place) → IsTag w k xs tag place → at_next (is_specifier_word w) (xs ++ ys) ≡ false → ⊥
  tag_keyword w k good _ ys _ _ (is_untagged t e) off = let both : true ≡ false = sym (type_specifies w k good t (keyword_is w k t e)) ∙ off in cc both
  tag_keyword w k good _ ys _ _ (is_tagged t n tag e named) off = let both : true ≡ false = sym (type_specifies w k good t (keyword_is w k t e)) ∙ off in cc both

  -- ---- a typedef name, where no type is named so far

  abbrev defined_by : Specified → Token → Specified
  defined_by s t = saying (Whole (tree.Defined t.text t.place)) s

  abbrev names : Specified → Token → Bool
  names = names_type texts seat below part

  abbrev DefinedText : Specified → List Token → Specified → Type 0
  DefinedText s = Opened (names s) (λ t. Turns AnyText (defined_by s t))

  abbrev MaybeDefined : Specified → List Token → Specified → Type 0
  MaybeDefined s = Either (DefinedText s) (IsEmpty s)

  abbrev more_words : Specified → Token → Bool
  more_words s t = is_specifier_word plain t || more_tag texts s t

  abbrev goes_on : Specified → Token → Bool
  goes_on s t = names s t || more_words s t

  said_goes_on : (s r : Specified) (ts : List Token) → Turns AnyText s ts r → is_nothing s.said ≡ false → (t : Token) → goes_on r t ≡ more_words r t
  said_goes_on s r ts turns off t = ap (λ b. (b && is_type_name (reading texts r.types) t) || more_words r t) (all_stay_said s r ts (are_of_turns s r ts turns).0 off)

  brace_specifies_none : (t : Token) → is_open_brace plain t ≡ true → is_specifier_word plain t ≡ false
  brace_specifies_none t h = ap (λ o. option_map_or is_type_keyword o false || option_map_or is_storage_keyword o false) (mark_no_keyword plain mark.OpenBrace t (mark_is plain mark.OpenBrace t h))

  word_ends : (s : Specified) (t : Token) → is_specifier_word plain t ≡ true → more_tag texts s t ≡ false
  word_ends s t h = and_fails (is_tag_alone s.said) (is_open_brace plain t) (by_test (is_open_brace plain t) refl)
    where
      by_test : (b : Bool) → is_open_brace plain t ≡ b → is_open_brace plain t ≡ false
      by_test false k = k
      by_test true k = absurd (let both : true ≡ false = sym h ∙ brace_specifies_none t k in cc both)

  named_so_far : (s : Specified) (t : Token) → names s t ≡ true → (is_nothing s.said ≡ true) × (is_type_name (reading texts s.types) t ≡ true)
  named_so_far s t h = (and_first (is_nothing s.said) (is_type_name (reading texts s.types) t) h, and_second (is_nothing s.said) (is_type_name (reading texts s.types) t) h)

  name_ends : (s : Specified) (t : Token) → names s t ≡ true → more_words s t ≡ false
  name_ends s t h =
      let named : (is_nothing s.said ≡ true) × (is_type_name (reading texts s.types) t ≡ true) = named_so_far s t h in
      ap (λ b. b || more_tag texts s t) (type_name_specifies_none (reading texts s.types) t named.1) ∙ ap (λ said. is_tag_alone said && is_open_brace plain t) (nothing_said s.said named.0)

  defined_apart : (s : Specified) (ys : List Token) (r : Specified) (rest : List Token) → MaybeDefined s ys r → at_next (goes_on r) rest ≡ false → at_next (more_words s) (ys ++ rest) ≡ false
  defined_apart s ys r rest (inl d) e = ap (λ l. at_next (more_words s) (l ++ rest)) d.split ∙ name_ends s d.opening d.passes
  defined_apart s ys r rest (inr m) e = ap (λ l. at_next (more_words s) (l ++ rest)) m.none ∙ no_more rest (sym (ap (λ z. at_next (goes_on z) rest) m.same) ∙ e)
    where
      no_more : (rest : List Token) → at_next (goes_on s) rest ≡ false → at_next (more_words s) rest ≡ false
      no_more [] e = refl
      no_more (t ∷ rest) e = second_fails (names s t) (more_words s t) e

  -- ---- all specifiers

  are_of_defined : (s r : Specified) (ts : List Token) → MaybeDefined s ts r → AreSpecifiers texts seat s ts r × (Fits s → Fits r)
  are_of_defined s r ts (inl d) =
      let named : (is_nothing s.said ≡ true) × (is_type_name (reading texts s.types) d.opening ≡ true) = named_so_far s d.opening d.passes in
      let first : IsSpecifier texts seat s (d.opening ∷ []) (defined_by s d.opening) = is_defined seat s d.opening named.1 (nothing_said s.said named.0) in
      let later : AreSpecifiers texts seat (defined_by s d.opening) d.rest r × (Fits (defined_by s d.opening) → Fits r) = are_of_turns (defined_by s d.opening) r d.rest d.is in
      rw d.split (more_specifiers seat s (defined_by s d.opening) r (d.opening ∷ []) d.rest first later.0, λ h. later.1 (flat_fits s h))
  are_of_defined s r ts (inr m) = rw (m.none, m.same) (no_specifiers seat s, λ h. h)

  to_specified : (types : List Name) → 1 ≤ below → (ts : List Token) (r : Specified) → Joined (Turns AnyText (unspecified types)) MaybeDefined ts r → AreSpecifiers texts seat (unspecified types) ts r × Fits r
  to_specified types some ts r j =
      let first = are_of_turns (unspecified types) j.value j.before j.first in
      let second = are_of_defined j.value r j.after j.second in
      let begun : Fits (unspecified types) = (let least : 0 + 1 ≤ below = some in least) in
      (subst (λ l. AreSpecifiers texts seat (unspecified types) l r) (sym j.split) (are_append (unspecified types) j.value r j.before j.after first.0 second.0), second.1 (first.1 begun))

  -- where a type is named, what follows are keywords alone
  empty_behind : (s r : Specified) (ts : List Token) → is_nothing s.said ≡ false → MaybeDefined s ts r → IsEmpty s ts r
  empty_behind s r ts off (inl d) = absurd (let both : false ≡ true = sym off ∙ (named_so_far s d.opening d.passes).0 in cc both)
  empty_behind s r ts off (inr m) = m

  -- a specifier that begins with no keyword is a typedef name
  defined_here : (s m : Specified) (xs : List Token) → IsSpecifier texts seat s xs m → at_next (is_specifier_word plain) xs ≡ false → (t : Token) × ((xs ≡ t ∷ []) × (m ≡ defined_by s t)) × (names s t ≡ true)
  defined_here _ _ _ (is_word at s t k said e h) off = absurd (let both : true ≡ false = sym (type_specifies plain k (arithmetic_word k (said_words k t.place s.said said h).0).0 t e) ∙ off in cc both)
  defined_here _ _ _ (is_constant at s t e) off = absurd (let both : true ≡ false = sym (keyword_specifies keyword.Const refl t e) ∙ off in cc both)
  defined_here _ _ _ (is_restricted at s t e) off = absurd (let both : true ≡ false = sym (keyword_specifies keyword.Restrict refl t e) ∙ off in cc both)
  defined_here _ _ _ (is_inline at s t e h) off =
      absurd (let both : true ≡ false = sym (storage_specifies plain t (ap (λ o. option_map_or is_storage_keyword o false) (keyword_is plain keyword.Inline t e))) ∙ off in cc both)
  defined_here _ _ _ (is_stored at s t k storage e h) off =
      absurd (let both : true ≡ false = sym (storage_specifies plain t (ap (λ o. option_map_or is_storage_keyword o false) e ∙ storing_word k (stores_in seat s.storage k storage h))) ∙ off in cc both)
  defined_here _ _ _ (is_defined at s t e none) off = (t, (refl, refl), ap (λ b. b && is_type_name (reading texts s.types) t) (ap is_nothing none) ∙ e)
  defined_here _ _ _ (names_structure at s ts n place none tag) off = absurd (tag_keyword (reading texts s.types) keyword.Struct refl ts [] (Some n) place tag (ap (at_next (is_specifier_word plain)) (append-nil ts) ∙ off))
  defined_here _ _ _ (names_enumeration at s ts n place none tag) off = absurd (tag_keyword (reading texts s.types) keyword.Enum refl ts [] (Some n) place tag (ap (at_next (is_specifier_word plain)) (append-nil ts) ∙ off))
  defined_here _ _ _ (defines_structure at s xs ys o c tag place ds none is_tag opens closes are) off = absurd (tag_keyword (reading texts s.types) keyword.Struct refl xs (o ∷ (ys ++ (c ∷ []))) tag place is_tag off)
  defined_here _ _ _ (defines_enumeration at s xs ys o c tag place is now comma none is_tag opens closes are) off = absurd (tag_keyword (reading texts s.types) keyword.Enum refl xs (o ∷ (ys ++ (c ∷ []))) tag place is_tag off)

  from_specified : (s r : Specified) (ts : List Token) → AreSpecifiers texts seat s ts r → Fits r → Joined (Turns AnyText s) MaybeDefined ts r
  from_specified _ _ _ (no_specifiers at s) fits = record { before = []; after = []; value = s; split = refl; first = over s; second = inr (record { none = refl; same = refl }) }
  from_specified _ _ _ (more_specifiers at s m r xs ys is rest) fits = by_test (at_next (is_specifier_word plain) xs) refl (from_specified m r ys rest fits)
    where
      inside : Fits m
      inside = let less : deep m ≤ deep r = all_stay_deep m r ys rest in let most : deep r ≤ below = fits in omega arith

      by_test : (b : Bool) → at_next (is_specifier_word plain) xs ≡ b → Joined (Turns AnyText m) MaybeDefined ys r → Joined (Turns AnyText s) MaybeDefined (xs ++ ys) r
      by_test true k j = record {
        before = xs ++ j.before;
        after = j.after;
        value = j.value;
        split = ap (λ l. xs ++ l) j.split ∙ sym (append_assoc xs j.before j.after);
        first = turn s m j.value xs j.before (text_of s m xs is k inside) j.first;
        second = j.second;
      }
      by_test false k j =
          let d : (t : Token) × ((xs ≡ t ∷ []) × (m ≡ defined_by s t)) × (names s t ≡ true) = defined_here s m xs is k in
          let off : is_nothing m.said ≡ false = ap (λ z. is_nothing z.said) d.1.1 in
          let still : is_nothing j.value.said ≡ false = all_stay_said m j.value j.before (are_of_turns m j.value j.before j.first).0 off in
          let e : IsEmpty j.value j.after r = empty_behind j.value r j.after still j.second in
          let whole : ys ≡ j.before = j.split ∙ ap (λ l. j.before ++ l) e.none ∙ append-nil j.before in
          record {
            before = [];
            after = xs ++ ys;
            value = s;
            split = refl;
            first = over s;
            second = inl (record {
              opening = d.0;
              rest = ys;
              split = ap (λ l. l ++ ys) d.1.0;
              passes = d.2;
              is = subst (λ z. Turns AnyText z ys r) d.1.1 (subst₂ (Turns AnyText m) (sym whole) (sym e.same) j.first);
            });
          }

-- ---- the type that they name

none_said : (constant : Bool) (said : Said) → qualified_if constant (type_said said) ≡ None → said ≡ Nothing
none_said constant Nothing e = refl
none_said constant (Words v place) e = absurd (cc e)
none_said constant (Whole t) e = absurd (cc e)

some_said : (constant : Bool) (said : Said) (t : TypeTree) → qualified_if constant (type_said said) ≡ Some t → is_nothing said ≡ false
some_said constant Nothing t e = absurd (cc e)
some_said constant (Words v place) t e = refl
some_said constant (Whole u) t e = refl

qualified_deep : (constant : Bool) (t : TypeTree) → depth_of_type (qualified constant t) ≡ one_if constant + depth_of_type t
qualified_deep true t = omega arith
qualified_deep false t = omega arith

qualified_tag : (constant : Bool) (t : TypeTree) → names_tag (qualified constant t) ≡ names_tag t
qualified_tag true t = refl
qualified_tag false t = refl

-- how deep it is, and whether it is a tag alone
base_said : (constant : Bool) (said : Said) (t : TypeTree) → qualified_if constant (type_said said) ≡ Some t → (depth_of_type t ≡ one_if constant + depth_said said) × (is_tag_alone said ≡ names_tag t)
base_said constant Nothing t e = absurd (cc e)
base_said constant (Words v place) t e =
    let same : qualified constant (tree.Base (number_of_words v) place) ≡ t = cc e in
    (ap depth_of_type (sym same) ∙ qualified_deep constant (tree.Base (number_of_words v) place), sym (qualified_tag constant (tree.Base (number_of_words v) place)) ∙ ap names_tag same)
base_said constant (Whole u) t e =
    let same : qualified constant u ≡ t = cc e in
    (ap depth_of_type (sym same) ∙ qualified_deep constant u, sym (qualified_tag constant u) ∙ ap names_tag same)

abbrev with_type : Specified → Option TypeTree → Option (Specified × TypeTree)
with_type s None = None
with_type s (Some t) = Some (s, t)

with_its_type : (s : Specified) (o : Option TypeTree) (v : Specified × TypeTree) → with_type s o ≡ Some v → (s ≡ v.0) × (o ≡ Some v.1)
with_its_type s None v e = absurd (cc e)
with_its_type s (Some t) v e =
    let same : Path (Specified × TypeTree) (s, t) v = cc e in
    (ap (λ p. p.0) same, ap (λ p. Some p.1) same)

untyped : (s : Specified) (o : Option TypeTree) → with_type s o ≡ None → o ≡ None
untyped s None e = refl
untyped s (Some t) e = absurd (cc e)

abbrev or_refused : Option (Specified × TypeTree) → Parser Token (Specified × TypeTree)
or_refused None = refuse unexpected
or_refused (Some v) = pure v

-- Specifiers, and the type that they name, which is at most so deep.
pub record FitsSpecifiers (texts : List (List ℕ)) (seat : Seat) (below : ℕ) (types : List Name) (ts : List Token) (v : Specified × TypeTree) : Type 0 where
  pub are : AreSpecifiers texts seat (unspecified types) ts v.0
  pub named : base_of v.0 ≡ Some v.1
  pub deep_enough : depth_of_type v.1 ≤ below

-- ---- the laws of all specifiers

module _ (texts : List (List ℕ)) (seat : Seat) (below : ℕ) (part : ℕ → Parts)
    (M : (k : ℕ) → 2 ≤ below - k → (types : List Name) → Lawful (FitsMembers texts (below - k) types) (more_members texts) ((part k).members types)) where
  abbrev words : Lexicon
  words = reading texts []

  abbrev Text : Specified → List Token → Specified → Type 0
  Text = AnyText texts seat below part

  specified_head : (s : Specified) → OnHead (is_specifier_word words) (Text s) (more_tag texts) (specified texts seat below part s)
  unfolding specified past_tag
  specified_head s =
      either_within (tagged_head texts seat below part (StructureText texts seat below part s) (struct_name texts seat below part) keyword.Struct s (structure texts seat below part s) (structure_head texts seat below part M s) (λ n place. refl))
      (either_within (tagged_head texts seat below part (EnumerationText texts seat below part s) (enum_name texts seat below part) keyword.Enum s (enumeration texts seat below part s) (enumeration_head texts seat below part s) (λ n place. refl))
      (head_halted (is_specifier_word words) (TaglessText texts seat below part s) (tagless texts seat below part s) (tagless_head texts seat below part s) (more_tag texts) unexpected)
      (tag_specifies texts seat below part s keyword.Enum refl)
      (λ ts r is. tag_off texts seat below part s keyword.Enum ts (tagless_off texts seat below part keyword.Enum refl refl refl refl refl s ts r is)))
      (tag_specifies texts seat below part s keyword.Struct refl)
      (struct_off texts seat below part s)

  keywords_law : (s : Specified) → is_tag_alone s.said ≡ false → Lawful (Turns Text s) (more_words texts seat below part) (keyword_specifiers texts seat below part s)
  unfolding keyword_specifiers
  keywords_law s off = via (looping {Turn = Text} specified_head (word_ends texts seat below part) start) to from (keyword_specifiers texts seat below part s) (λ ts. refl)
    where
      start : Lawful (IsEmpty s) (more_tag texts) (pure s)
      start = goes_on_where (nothing s) (more_tag texts) (λ ts r is t. ap (λ z. is_tag_alone z.said && is_open_brace words t) is.same ∙ ap (λ b. b && is_open_brace words t) off)

      to : (ts : List Token) (r : Specified) → Joined (IsEmpty s) (Turns Text) ts r → Turns Text s ts r
      to ts r j = subst (λ z. Turns Text z ts r) j.first.same (subst (λ l. Turns Text j.value l r) (sym (j.split ∙ ap (λ l. l ++ j.after) j.first.none)) j.second)

      from : (ts : List Token) (r : Specified) → Turns Text s ts r → Joined (IsEmpty s) (Turns Text) ts r
      from ts r is = record { before = []; after = ts; value = s; split = refl; first = record { none = refl; same = refl }; second = is }

  defined_head : (s : Specified) → OnHead (names texts seat below part s) (DefinedText texts seat below part s) (goes_on texts seat below part)
      (token unexpected (names texts seat below part s) >>= (λ t. keyword_specifiers texts seat below part (defined_by texts seat below part s t)))
  defined_head s =
      at_head (names texts seat below part s)
      (λ t h. opened {Is = λ u. Turns Text (defined_by texts seat below part s u)} {q = λ u. keyword_specifiers texts seat below part (defined_by texts seat below part s u)} unexpected (names texts seat below part s) t h
      (λ u passes. goes_on_where (keywords_law (defined_by texts seat below part s u) refl) (goes_on texts seat below part)
      (λ ts r is v. said_goes_on texts seat below part (defined_by texts seat below part s u) r ts is refl v)))
      (λ ts r o. opened_heads ts r o)

  defined_law : (s : Specified) → Follows (more_words texts seat below part s) (MaybeDefined texts seat below part s) (goes_on texts seat below part) (defined texts seat below part s)
  unfolding defined
  defined_law s = perhaps_there s (defined_head s) (λ t. refl)

  module _ (types : List Name) (some : 1 ≤ below) where
    abbrev Specifiers : List Token → Specified → Type 0
    Specifiers ts r = AreSpecifiers texts seat (unspecified types) ts r × Fits texts seat below part r

    all_reader : Parser Token Specified
    all_reader = keyword_specifiers texts seat below part (unspecified types) >>= defined texts seat below part

    all_law : Lawful Specifiers (goes_on texts seat below part) all_reader
    unfolding all_reader
    all_law =
        via (from_there {Second = MaybeDefined texts seat below part} {q = defined texts seat below part} (keywords_law (unspecified types) refl) (λ xs s is. defined_law s)
        (λ xs s ys r rest is second e. defined_apart texts seat below part s ys r rest second e))
        (to_specified texts seat below part types some) (λ ts r is. from_specified texts seat below part (unspecified types) r ts is.0 is.1) all_reader (λ ts. refl)

    abbrev type_of : Specified → Option (Specified × TypeTree)
    type_of s = with_type s (base_of s)

    abbrev int_words : TypeWords
    int_words = record { sign = no_words.sign; length = no_words.length; kind = kind.Int }

    with_int : Specified → Specified
    with_int s = saying (Words int_words int_token.place) s

    more_behind : (ts : List Token) (s : Specified) → Specifiers ts s → type_of s ≡ None → (rest : List Token) × (v : Specified × TypeTree) × Completed Specifiers type_of (ts ++ rest) v
    unfolding with_int
    more_behind ts s is none =
        let nothing_yet : s.said ≡ Nothing = none_said s.constant s.said (untyped s (base_of s) none) in
        let said : said_after keyword.Int int_token.place s.said ≡ Some (Words int_words int_token.place) = ap (said_after keyword.Int int_token.place) nothing_yet in
        let last : AreSpecifiers texts seat s (int_token ∷ []) (with_int s) =
        more_specifiers seat s (with_int s) (with_int s) (int_token ∷ []) [] (is_word seat s int_token keyword.Int (Words int_words int_token.place) (int_token_is words) said) (no_specifiers seat (with_int s)) in
        let flat : one_if s.constant + 1 ≤ below = flat_fits texts seat below part s is.1 in
        (int_token ∷ [], (with_int s, qualified s.constant (tree.Base 7 int_token.place)), record { value = with_int s; is = (are_append texts seat below part (unspecified types) s (with_int s) ts (int_token ∷ []) is.0 last, flat); gives_it = refl })

    goes_on_typed : (ts : List Token) (s : Specified) (v : Specified × TypeTree) → Specifiers ts s → type_of s ≡ Some v → (t : Token) → more_specified words v.1 t ≡ goes_on texts seat below part s t
    goes_on_typed ts s v is e t =
        let typed = with_its_type s (base_of s) v e in
        let told = base_said s.constant s.said v.1 typed.1 in
        sym (ap (λ b. (b && is_type_name (reading texts s.types) t) || more_words texts seat below part s t) (some_said s.constant s.said v.1 typed.1)
        ∙ ap (λ b. is_specifier_word words t || (b && is_open_brace words t)) told.1)

    completed_law : Lawful (Completed Specifiers type_of) (λ v. more_specified words v.1) (all_reader >>= (λ s. or_refused (type_of s)))
    completed_law = completing all_law type_of or_refused unexpected (λ v. more_specified words v.1) (λ x. refl) (λ v x. refl) goes_on_typed more_behind

    same_end : (s : Specified) (o : Option TypeTree) (ts : List Token) → completed texts seat below part s o ts ≡ or_refused (with_type s o) ts
    same_end s None ts = refl
    same_end s (Some t) ts = refl

    same_reader : (ts : List Token) → specifiers texts seat below part types ts ≡ (all_reader >>= (λ s. or_refused (type_of s))) ts
    unfolding specifiers all_reader
    same_reader ts = go ((keyword_specifiers texts seat below part (unspecified types) >>= defined texts seat below part) ts)
      where
        go : (o : Outcome Token Specified) → and_then o (λ s. completed texts seat below part s (base_of s)) ≡ and_then o (λ s. or_refused (type_of s))
        go (done s rest) = same_end s (base_of s) rest
        go (stop n left) = refl

    to_fits : (ts : List Token) (v : Specified × TypeTree) → Completed Specifiers type_of ts v → FitsSpecifiers texts seat below types ts v
    to_fits ts v c =
        let typed = with_its_type c.value (base_of c.value) v c.gives_it in
        let told = base_said c.value.constant c.value.said v.1 typed.1 in
        let most : deep c.value ≤ below = c.is.1 in
        let same : depth_of_type v.1 ≡ deep c.value = told.0 in
        record { are = subst (AreSpecifiers texts seat (unspecified types) ts) typed.0 c.is.0; named = ap base_of (sym typed.0) ∙ typed.1; deep_enough = omega arith }

    from_fits : (ts : List Token) (v : Specified × TypeTree) → FitsSpecifiers texts seat below types ts v → Completed Specifiers type_of ts v
    from_fits ts v f =
        let told = base_said v.0.constant v.0.said v.1 f.named in
        let most : depth_of_type v.1 ≤ below = f.deep_enough in
        let same : depth_of_type v.1 ≡ deep v.0 = told.0 in
        record { value = v.0; is = (f.are, omega arith); gives_it = ap (with_type v.0) f.named }

    pub specifiers_law : Lawful (FitsSpecifiers texts seat below types) (λ v. more_specified words v.1) (specifiers texts seat below part types)
    specifiers_law = via completed_law to_fits from_fits (specifiers texts seat below part types) same_reader
