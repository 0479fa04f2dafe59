-- The reader of the specifiers of a type name keeps the laws.
use Rattle.std.proofs.Common.{◌≡◌, ◌≤◌, ℕ, zero, suc, Bool, true, false, ◌||◌, ◌&&◌, List, [], ◌∷◌, ◌++◌, Option, Some, None, if◌then◌else◌, refl, sym, ap, ◌∙◌, subst, subst₂, append_assoc, append-nil, inl, inr, arith}
use Rattle.std.specs.Option.{option_map_or}
use Rattle.sb_base.specs.declared.interning.Name.{Name}
use Rattle.sb_base.specs.declared.refusals.Place.{Place}
use Rattle.sb_base.specs.declared.tokens.Token.{Token}
use Rattle.sb_parse.specs.Parser.{at_next, never, ◌>>=◌, pure, token, taken, choose, refuse}
use Rattle.sb_parse.specs.Lawful.{Lawful, OnHead, Follows, Joined, IsToken, IsValue, IsEmpty, Opened, Mapped, Unbarred, Either, Turns, over, turn}
use Rattle.sb_parse.proofs.Joining.{from_there, via, one_token, one_value, map_of}
use Rattle.sb_parse.proofs.Heads.{opened, at_head, head_via, guarded}
use Rattle.sb_sign.specs.declared.sign.Keyword.{Keyword}
use Rattle.sb_sign.specs.declared.sign.Keyword.TheVariants as keyword
use Rattle.sb_sign.specs.Signs as sign
use Rattle.sb_tree.specs.Trees as tree
use Rattle.sb_tree.specs.Trees.{TypeTree, depth_of_type}
use Rattle.sb_lexicon.specs.declared.words.TypeWords.{TypeWords}
use Rattle.sb_lexicon.specs.declared.words.Kind.TheVariants as kind
use Rattle.sb_lexicon.specs.Lexicon.{Lexicon, is_keyword, name_of, is_type_name, is_type_keyword, is_type_word}
use Rattle.sb_lexicon.specs.Words.{Said, Nothing, Words, Whole, Specifiers, unspecified, saying, constantly, is_nothing, put, no_words, number_of_words, said_after, worded, type_said, qualified_if, qualified, type_specified}
use Rattle.sb_lexicon.specs.Specifiers.{IsSpecifier, is_word, is_constant, is_restricted, is_structure, is_enumeration, is_defined, AreSpecifiers, no_specifiers, more_specifiers}
use Rattle.sb_lexicon.specs.SpecifierReaders.{is_floating, is_complex, is_union, may_be_floating, word_by, word_after, structure_named, enumeration_named, defined_by, is_tag_word, names_type, specified, keyword_specifiers, defined, completed, base_type}
use Rattle.sb_lexicon.specs.Tokens.{unexpected, floating, union, volatile, complex, too_deep, is_zero}
use Rattle.sb_parse.proofs.Ways.{second_fails, and_first, and_second, goes_on_where, perhaps_there, either_within, refused_within, value_within, turns_law, Completed, completing}
use Rattle.sb_lexicon.proofs.Lexemes.{is_kind, kind_off, kind_within, head_off, keyword_is, type_name_no_keyword, int_token, int_token_is, name_token, name_token_is}

-- ---- words of arithmetic types

abbrev is_arithmetic : Keyword → Bool
is_arithmetic keyword.Void = true
is_arithmetic keyword.Bool = true
is_arithmetic keyword.Char = true
is_arithmetic keyword.Short = true
is_arithmetic keyword.Int = true
is_arithmetic keyword.Long = true
is_arithmetic keyword.Signed = true
is_arithmetic keyword.Unsigned = true
is_arithmetic _ = false

put_arithmetic : (k : Keyword) (v r : TypeWords) → put k v ≡ Some r → is_arithmetic k ≡ true
put_arithmetic keyword.Void v r e = refl
put_arithmetic keyword.Bool v r e = refl
put_arithmetic keyword.Char v r e = refl
put_arithmetic keyword.Short v r e = refl
put_arithmetic keyword.Int v r e = refl
put_arithmetic keyword.Long v r e = refl
put_arithmetic keyword.Signed v r e = refl
put_arithmetic keyword.Unsigned v r e = refl
put_arithmetic _ v r e = absurd (cc e)

arithmetic_word : (k : Keyword) → is_arithmetic k ≡ true → is_type_keyword k ≡ true
arithmetic_word keyword.Void e = refl
arithmetic_word keyword.Bool e = refl
arithmetic_word keyword.Char e = refl
arithmetic_word keyword.Short e = refl
arithmetic_word keyword.Int e = refl
arithmetic_word keyword.Long e = refl
arithmetic_word keyword.Signed e = refl
arithmetic_word keyword.Unsigned e = refl
arithmetic_word _ e = absurd (cc e)

some_worded : (place : Place) (o : Option TypeWords) (r : Said) → worded place o ≡ Some r → (v : TypeWords) × (o ≡ Some v) × (r ≡ Words v place)
some_worded place None r e = absurd (cc e)
some_worded place (Some v) r e = (v, refl, cc e)

-- what is said after a word is words
said_words : (k : Keyword) (place : Place) (said r : Said) → said_after k place said ≡ Some r → (is_arithmetic k ≡ true) × ((v : TypeWords) × (at : Place) × (r ≡ Words v at))
said_words k place Nothing r e = let it = some_worded place (put k no_words) r e in (put_arithmetic k no_words it.0 it.1, (it.0, place, it.2))
said_words k place (Words v at) r e = let it = some_worded at (put k v) r e in (put_arithmetic k v it.0 it.1, (it.0, at, it.2))
said_words k place (Whole t) r e = absurd (cc e)

pub nothing_said : (said : Said) → is_nothing said ≡ true → said ≡ Nothing
nothing_said Nothing e = refl
nothing_said (Words v place) e = absurd (cc e)
nothing_said (Whole t) e = absurd (cc e)

pub by_word : (place : Place) (s r : Specifiers) (o : Option Keyword) → word_by place s o ≡ Some r → (k : Keyword) × (o ≡ Some k) × ((said : Said) × (said_after k place s.said ≡ Some said) × (r ≡ saying said s))
by_word place s r None e = absurd (cc e)
by_word place s r (Some k) e = by_said (said_after k place s.said) refl e
  where
    by_said : (o : Option Said) → said_after k place s.said ≡ o → option_map_or (λ said. Some (saying said s)) o None ≡ Some r
        → (j : Keyword) × (Some k ≡ Some j) × ((said : Said) × (said_after j place s.said ≡ Some said) × (r ≡ saying said s))
    by_said None h e = absurd (cc e)
    by_said (Some said) h e = (k, refl, (said, h, cc e))

pub by_name : (f : Name → Specifiers) (r : Specifiers) (o : Option Name) → option_map_or (λ tag. Some (f tag)) o None ≡ Some r → (tag : Name) × (o ≡ Some tag) × (r ≡ f tag)
by_name f r None e = absurd (cc e)
by_name f r (Some tag) e = (tag, refl, cc e)

module _ (w : Lexicon) (bar : Bool) where
  -- ---- one specifier that begins with a keyword

  abbrev ConstantText : Specifiers → List Token → Specifiers → Type 0
  ConstantText s = Unbarred bar (Mapped (λ t. constantly s) (IsToken (is_keyword w keyword.Const)))

  abbrev RestrictedText : Specifiers → List Token → Specifiers → Type 0
  RestrictedText s = Mapped (λ t. s) (IsToken (is_keyword w keyword.Restrict))

  -- `struct` or `enum` and a tag, where no type is named so far
  abbrev TaggedText : Keyword → (Specifiers → Token → Option Specifiers) → Specifiers → List Token → Specifiers → Type 0
  TaggedText k named s ts r = (is_nothing s.said ≡ true) × Opened (is_keyword w k) (λ t. IsValue (named s)) ts r

  abbrev StructureText : Specifiers → List Token → Specifiers → Type 0
  StructureText = TaggedText keyword.Struct (structure_named w)

  abbrev EnumerationText : Specifiers → List Token → Specifiers → Type 0
  EnumerationText = TaggedText keyword.Enum (enumeration_named w)

  abbrev WordText : Specifiers → List Token → Specifiers → Type 0
  WordText s = IsValue (word_after w s)

  -- the kind of keyword that a text begins with
  word_kind : (s r : Specifiers) (t : Token) → word_after w s t ≡ Some r → is_kind w is_arithmetic t ≡ true
  word_kind s r t e =
      let it = by_word t.place s r (sign.keyword_of w.texts t) e in
      ap (λ o. option_map_or is_arithmetic o false) it.1 ∙ (said_words it.0 t.place s.said it.2.0 it.2.1).0

  word_begins : (s : Specifiers) (ts : List Token) (r : Specifiers) → WordText s ts r → at_next (is_kind w is_arithmetic) ts ≡ true
  word_begins s ts r is = ap (at_next (is_kind w is_arithmetic)) is.alone ∙ word_kind s r is.token is.is

  tag_begins : (k : Keyword) (named : Specifiers → Token → Option Specifiers) (s : Specifiers) (ts : List Token) (r : Specifiers) → TaggedText k named s ts r → at_next (is_keyword w k) ts ≡ true
  tag_begins k named s ts r is = ap (at_next (is_keyword w k)) is.1.split ∙ is.1.passes

  first_off : (test : Token → Bool) (other : Token → Bool) → ((t : Token) → other t ≡ false → test t ≡ false) → (ts : List Token) → at_next other ts ≡ false → at_next test ts ≡ false
  first_off test other step [] e = refl
  first_off test other step (t ∷ ts) e = step t e

  tag_off : (said : Said) (k : Keyword) (ts : List Token) → at_next (is_keyword w k) ts ≡ false → at_next (is_tag_word w said k) ts ≡ false
  tag_off said k ts e = first_off (is_tag_word w said k) (is_keyword w k) (λ t h. ap (λ b. b && is_nothing said) h) ts e

  word_head : (s : Specifiers) → OnHead (is_type_word w) (WordText s) (λ _. never) (taken unexpected (word_after w s))
  word_head s = value_within (is_type_word w) unexpected (word_after w s) (λ t r e. kind_within w is_arithmetic is_type_keyword t arithmetic_word (word_kind s r t e))

  -- a word is no complex type's, no `volatile`, no union and no floating type's
  complex_off : (said : Said) (t : Token) → is_kind w is_arithmetic t ≡ true → is_complex w said t ≡ false
  complex_off said t h =
      ap (λ b. (b || is_keyword w keyword.Imaginary t) && may_be_floating said) (kind_off w is_arithmetic keyword.Complex t refl h)
      ∙ ap (λ b. b && may_be_floating said) (kind_off w is_arithmetic keyword.Imaginary t refl h)

  floating_off : (said : Said) (t : Token) → is_kind w is_arithmetic t ≡ true → is_floating w said t ≡ false
  floating_off said t h =
      ap (λ b. (b && is_nothing said) || (is_keyword w keyword.Double t && may_be_floating said)) (kind_off w is_arithmetic keyword.Float t refl h)
      ∙ ap (λ b. b && may_be_floating said) (kind_off w is_arithmetic keyword.Double t refl h)

  union_off : (said : Said) (t : Token) → is_kind w is_arithmetic t ≡ true → is_union w said t ≡ false
  union_off said t h = ap (λ b. b && is_nothing said) (kind_off w is_arithmetic keyword.Union t refl h)

  word_apart : (test : Token → Bool) → ((t : Token) → is_kind w is_arithmetic t ≡ true → test t ≡ false) → (s : Specifiers) (ts : List Token) (r : Specifiers) → WordText s ts r → at_next test ts ≡ false
  word_apart test step s ts r is = ap (at_next test) is.alone ∙ step is.token (word_kind s r is.token is.is)

  refused_head : (s : Specifiers) → OnHead (is_type_word w) (WordText s) (λ _. never)
      (choose (is_floating w s.said) (refuse floating) (choose (is_union w s.said) (refuse union) (choose (is_keyword w keyword.Volatile) (refuse volatile) (choose (is_complex w s.said) (refuse complex) (taken unexpected (word_after w s))))))
  refused_head s =
      refused_within (is_floating w s.said) floating
      (refused_within (is_union w s.said) union
      (refused_within (is_keyword w keyword.Volatile) volatile
      (refused_within (is_complex w s.said) complex (word_head s)
      (word_apart (is_complex w s.said) (complex_off s.said) s))
      (word_apart (is_keyword w keyword.Volatile) (λ t h. kind_off w is_arithmetic keyword.Volatile t refl h) s))
      (word_apart (is_union w s.said) (union_off s.said) s))
      (word_apart (is_floating w s.said) (floating_off s.said) s)

  -- a tag word, and a tag
  tagged_head : (k : Keyword) (named : Specifiers → Token → Option Specifiers) (s r : Specifiers) → named s name_token ≡ Some r
      → OnHead (is_tag_word w s.said k) (TaggedText k named s) (λ _. never) (token unexpected (is_keyword w k) >>= (λ t. taken unexpected (named s)))
  tagged_head k named s r good = at_head (is_tag_word w s.said k) law heads
    where
      law : (t : Token) → is_tag_word w s.said k t ≡ true → Lawful (TaggedText k named s) (λ _. never) (token unexpected (is_keyword w k) >>= (λ t. taken unexpected (named s)))
      law t h =
          via (opened {Is = λ t. IsValue (named s)} {q = λ t. taken unexpected (named s)} unexpected (is_keyword w k) t (and_first (is_keyword w k t) (is_nothing s.said) h) (λ u passes. one_value unexpected (named s) name_token r good))
          (λ ts a is. (and_second (is_keyword w k t) (is_nothing s.said) h, is)) (λ ts a is. is.1) (token unexpected (is_keyword w k) >>= (λ t. taken unexpected (named s))) (λ ts. refl)

      heads : (ts : List Token) (a : Specifiers) → TaggedText k named s ts a → at_next (is_tag_word w s.said k) ts ≡ true
      heads ts a is = ap (at_next (is_tag_word w s.said k)) is.1.split ∙ ap (λ b. b && is_nothing s.said) is.1.passes ∙ is.0

  abbrev TagOrWord : Specifiers → List Token → Specifiers → Type 0
  TagOrWord s = Either (StructureText s) (Either (EnumerationText s) (WordText s))

  abbrev AnyText : Specifiers → List Token → Specifiers → Type 0
  AnyText s = Either (ConstantText s) (Either (RestrictedText s) (TagOrWord s))

  structure_off : (s : Specifiers) (ts : List Token) (r : Specifiers) → Either (EnumerationText s) (WordText s) ts r → at_next (is_tag_word w s.said keyword.Struct) ts ≡ false
  structure_off s ts r (inl is) = tag_off s.said keyword.Struct ts (head_off w (sign.is_same_keyword keyword.Enum) keyword.Struct refl ts (tag_begins keyword.Enum (enumeration_named w) s ts r is))
  structure_off s ts r (inr is) = tag_off s.said keyword.Struct ts (head_off w is_arithmetic keyword.Struct refl ts (word_begins s ts r is))

  -- the texts of tags and words begin with no qualifier
  qualifier_off : (a : Keyword) → is_arithmetic a ≡ false → sign.is_same_keyword keyword.Struct a ≡ false → sign.is_same_keyword keyword.Enum a ≡ false
      → (s : Specifiers) (ts : List Token) (r : Specifiers) → TagOrWord s ts r → at_next (is_keyword w a) ts ≡ false
  qualifier_off a plain not_struct not_enum s ts r (inl is) = head_off w (sign.is_same_keyword keyword.Struct) a not_struct ts (tag_begins keyword.Struct (structure_named w) s ts r is)
  qualifier_off a plain not_struct not_enum s ts r (inr (inl is)) = head_off w (sign.is_same_keyword keyword.Enum) a not_enum ts (tag_begins keyword.Enum (enumeration_named w) s ts r is)
  qualifier_off a plain not_struct not_enum s ts r (inr (inr is)) = head_off w is_arithmetic a plain ts (word_begins s ts r is)

  constant_off : (s : Specifiers) (ts : List Token) (r : Specifiers) → Either (RestrictedText s) (TagOrWord s) ts r → at_next (is_keyword w keyword.Const) ts ≡ false
  constant_off s ts r (inl m) = ap (at_next (is_keyword w keyword.Const)) m.is.alone ∙ kind_off w (sign.is_same_keyword keyword.Restrict) keyword.Const m.value refl m.is.passes
  constant_off s ts r (inr is) = qualifier_off keyword.Const refl refl refl s ts r is

  type_word_by : (a : Keyword) → is_type_keyword a ≡ true → (t : Token) → is_keyword w a t ≡ true → is_type_word w t ≡ true
  type_word_by a good t h = ap (λ o. option_map_or is_type_keyword o false) (keyword_is w a t h) ∙ good

  tag_word_by : (a : Keyword) (said : Said) → is_type_keyword a ≡ true → (t : Token) → is_tag_word w said a t ≡ true → is_type_word w t ≡ true
  tag_word_by a said good t h = type_word_by a good t (and_first (is_keyword w a t) (is_nothing said) h)

  token_heads : {A : Type 0} (test : Token → Bool) (f : Token → A) (ts : List Token) (a : A) → Mapped f (IsToken test) ts a → at_next test ts ≡ true
  token_heads test f ts a m = ap (at_next test) m.is.alone ∙ m.is.passes

  -- a keyword that is a specifier by itself
  word_alone : (k : Keyword) (r : Specifiers) → OnHead (is_keyword w k) (Mapped (λ t. r) (IsToken (is_keyword w k))) (λ _. never) (token unexpected (is_keyword w k) >>= (λ t. pure r))
  word_alone k r = at_head (is_keyword w k) (λ t h. map_of (one_token unexpected (is_keyword w k) t h) (λ t. r) (λ _. never) (λ a t. refl)) (token_heads (is_keyword w k) (λ t. r))

  pub specified_head : (s : Specifiers) → OnHead (is_type_word w) (AnyText s) (λ _. never) (specified w bar s)
  unfolding specified
  specified_head s =
      either_within (guarded bar too_deep (λ room. word_alone keyword.Const (constantly s)))
      (either_within (word_alone keyword.Restrict s)
      (either_within (tagged_head keyword.Struct (structure_named w) s (saying (Whole (tree.Struct (Some name_token.text) tree.Undeclared name_token.place)) s) (ap (λ o. option_map_or (λ tag. Some (saying (Whole (tree.Struct (Some tag) tree.Undeclared name_token.place)) s)) o None) (name_token_is w)))
      (either_within (tagged_head keyword.Enum (enumeration_named w) s (saying (Whole (tree.Enum (Some name_token.text) tree.Unlisted name_token.place)) s) (ap (λ o. option_map_or (λ tag. Some (saying (Whole (tree.Enum (Some tag) tree.Unlisted name_token.place)) s)) o None) (name_token_is w)))
      (refused_head s)
      (tag_word_by keyword.Enum s.said refl)
      (λ ts r is. tag_off s.said keyword.Enum ts (head_off w is_arithmetic keyword.Enum refl ts (word_begins s ts r is))))
      (tag_word_by keyword.Struct s.said refl)
      (structure_off s))
      (type_word_by keyword.Restrict refl)
      (qualifier_off keyword.Restrict refl refl refl s))
      (type_word_by keyword.Const refl)
      (constant_off s)

  -- ---- in the grammar's words

  -- a specifier that begins with a keyword, `const` only where it has room
  record Worded (s : Specifiers) (ts : List Token) (r : Specifiers) : Type 0 where
    is : IsSpecifier w s ts r
    begins : at_next (is_type_word w) ts ≡ true
    room : at_next (is_keyword w keyword.Const) ts ≡ true → bar ≡ false

  no_room_asked : (ts : List Token) → at_next (is_keyword w keyword.Const) ts ≡ false → at_next (is_keyword w keyword.Const) ts ≡ true → bar ≡ false
  no_room_asked ts off h = absurd (let both : true ≡ false = sym h ∙ off in cc both)

  is_of_text : (s : Specifiers) (ts : List Token) (r : Specifiers) → AnyText s ts r → IsSpecifier w s ts r
  is_of_text s ts r (inl u) = subst₂ (IsSpecifier w s) (sym u.is.is.alone) (sym u.is.same) (is_constant s u.is.value u.is.is.passes)
  is_of_text s ts r (inr (inl m)) = subst₂ (IsSpecifier w s) (sym m.is.alone) (sym m.same) (is_restricted s m.value m.is.passes)
  is_of_text s ts r (inr (inr (inl g))) =
      let o = g.1 in
      let n = by_name (λ tag. saying (Whole (tree.Struct (Some tag) tree.Undeclared o.is.token.place)) s) r (name_of w o.is.token) o.is.is in
      subst₂ (IsSpecifier w s) (sym (o.split ∙ ap (λ l. o.opening ∷ l) o.is.alone)) (sym n.2) (is_structure s o.opening o.is.token n.0 o.passes (nothing_said s.said g.0) n.1)
  is_of_text s ts r (inr (inr (inr (inl g)))) =
      let o = g.1 in
      let n = by_name (λ tag. saying (Whole (tree.Enum (Some tag) tree.Unlisted o.is.token.place)) s) r (name_of w o.is.token) o.is.is in
      subst₂ (IsSpecifier w s) (sym (o.split ∙ ap (λ l. o.opening ∷ l) o.is.alone)) (sym n.2) (is_enumeration s o.opening o.is.token n.0 o.passes (nothing_said s.said g.0) n.1)
  is_of_text s ts r (inr (inr (inr (inr v)))) =
      let it = by_word v.token.place s r (sign.keyword_of w.texts v.token) v.is in
      subst₂ (IsSpecifier w s) (sym v.alone) (sym it.2.2) (is_word s v.token it.0 it.2.0 it.1 it.2.1)

  room_of_text : (s : Specifiers) (ts : List Token) (r : Specifiers) → AnyText s ts r → at_next (is_keyword w keyword.Const) ts ≡ true → bar ≡ false
  room_of_text s ts r (inl u) h = u.open_way
  room_of_text s ts r (inr is) h = no_room_asked ts (constant_off s ts r is) h

  text_of : (s : Specifiers) (ts : List Token) (r : Specifiers) → IsSpecifier w s ts r → at_next (is_type_word w) ts ≡ true → (at_next (is_keyword w keyword.Const) ts ≡ true → bar ≡ false) → AnyText s ts r
  text_of _ _ _ (is_word s t k said e h) begins room =
      inr (inr (inr (inr (record { token = t; alone = refl; is = ap (word_by t.place s) e ∙ ap (λ o. option_map_or (λ said. Some (saying said s)) o None) h }))))
  text_of _ _ _ (is_constant s t e) begins room = inl (record { open_way = room e; is = record { value = t; is = record { alone = refl; passes = e }; same = refl } })
  text_of _ _ _ (is_restricted s t e) begins room = inr (inl (record { value = t; is = record { alone = refl; passes = e }; same = refl }))
  text_of _ _ _ (is_structure s t n tag e none named) begins room =
      inr (inr (inl (
        ap is_nothing none,
        record {
          opening = t;
          rest = n ∷ [];
          split = refl;
          passes = e;
          is = record { token = n; alone = refl; is = ap (λ o. option_map_or (λ tag. Some (saying (Whole (tree.Struct (Some tag) tree.Undeclared n.place)) s)) o None) named };
        },
      )))
  text_of _ _ _ (is_enumeration s t n tag e none named) begins room =
      inr (inr (inr (inl (
        ap is_nothing none,
        record {
          opening = t;
          rest = n ∷ [];
          split = refl;
          passes = e;
          is = record { token = n; alone = refl; is = ap (λ o. option_map_or (λ tag. Some (saying (Whole (tree.Enum (Some tag) tree.Unlisted n.place)) s)) o None) named };
        },
      ))))
  text_of _ _ _ (is_defined s t e none) begins room =
      absurd (let both : false ≡ true = sym (ap (λ o. option_map_or is_type_keyword o false) (type_name_no_keyword w t e)) ∙ begins in cc both)

  worded_head : (s : Specifiers) → OnHead (is_type_word w) (Worded s) (λ _. never) (specified w bar s)
  worded_head s =
      head_via (specified_head s) (λ ts r is. record { is = is_of_text s ts r is; begins = (specified_head s).heads ts r is; room = room_of_text s ts r is })
      (λ ts r v. text_of s ts r v.is v.begins v.room) (specified w bar s) (λ ts. refl)

  keywords_law : (s : Specifiers) → Lawful (Turns Worded s) (λ r. is_type_word w) (keyword_specifiers w bar s)
  unfolding keyword_specifiers
  keywords_law s = turns_law worded_head s

  -- ---- what the specifiers so far tell of those before

  stays_said : (s r : Specifiers) (ts : List Token) → IsSpecifier w s ts r → is_nothing s.said ≡ false → is_nothing r.said ≡ false
  stays_said _ _ _ (is_word s t k said e h) off = let words = (said_words k t.place s.said said h).1 in ap is_nothing words.2
  stays_said _ _ _ (is_constant s t e) off = off
  stays_said _ _ _ (is_restricted s t e) off = off
  stays_said _ _ _ (is_structure s t n tag e none named) off = refl
  stays_said _ _ _ (is_enumeration s t n tag e none named) off = refl
  stays_said _ _ _ (is_defined s t e none) off = refl

  all_stay_said : (s r : Specifiers) (ts : List Token) → AreSpecifiers w s ts r → is_nothing s.said ≡ false → is_nothing r.said ≡ false
  all_stay_said _ _ _ (no_specifiers s) off = off
  all_stay_said _ _ _ (more_specifiers s m r xs ys is rest) off = all_stay_said m r ys rest (stays_said s m xs is off)

  stays_constant : (s r : Specifiers) (ts : List Token) → IsSpecifier w s ts r → s.constant ≡ true → r.constant ≡ true
  stays_constant _ _ _ (is_word s t k said e h) on = on
  stays_constant _ _ _ (is_constant s t e) on = refl
  stays_constant _ _ _ (is_restricted s t e) on = on
  stays_constant _ _ _ (is_structure s t n tag e none named) on = on
  stays_constant _ _ _ (is_enumeration s t n tag e none named) on = on
  stays_constant _ _ _ (is_defined s t e none) on = on

  all_stay_constant : (s r : Specifiers) (ts : List Token) → AreSpecifiers w s ts r → s.constant ≡ true → r.constant ≡ true
  all_stay_constant _ _ _ (no_specifiers s) on = on
  all_stay_constant _ _ _ (more_specifiers s m r xs ys is rest) on = all_stay_constant m r ys rest (stays_constant s m xs is on)

  constant_says : (s r : Specifiers) (ts : List Token) → IsSpecifier w s ts r → at_next (is_keyword w keyword.Const) ts ≡ true → r.constant ≡ true
  constant_says _ _ _ (is_word s t k said e h) on =
      let off : is_keyword w keyword.Const t ≡ false = kind_off w is_arithmetic keyword.Const t refl (ap (λ o. option_map_or is_arithmetic o false) e ∙ (said_words k t.place s.said said h).0) in
      absurd (let both : true ≡ false = sym on ∙ off in cc both)
  constant_says _ _ _ (is_constant s t e) on = refl
  constant_says _ _ _ (is_restricted s t e) on =
      absurd (let both : true ≡ false = sym on ∙ kind_off w (sign.is_same_keyword keyword.Restrict) keyword.Const t refl e in cc both)
  constant_says _ _ _ (is_structure s t n tag e none named) on =
      absurd (let both : true ≡ false = sym on ∙ kind_off w (sign.is_same_keyword keyword.Struct) keyword.Const t refl e in cc both)
  constant_says _ _ _ (is_enumeration s t n tag e none named) on =
      absurd (let both : true ≡ false = sym on ∙ kind_off w (sign.is_same_keyword keyword.Enum) keyword.Const t refl e in cc both)
  constant_says _ _ _ (is_defined s t e none) on =
      absurd (let both : true ≡ false = sym on ∙ ap (λ o. option_map_or (sign.is_same_keyword keyword.Const) o false) (type_name_no_keyword w t e) in cc both)

  -- a `const` has room where those read in the end have it
  room_for : (s m r : Specifiers) (xs ys : List Token) → IsSpecifier w s xs m → AreSpecifiers w m ys r → (bar ≡ true → r.constant ≡ false) → at_next (is_keyword w keyword.Const) xs ≡ true → bar ≡ false
  room_for s m r xs ys is rest room on = by_test bar refl
    where
      by_test : (b : Bool) → bar ≡ b → bar ≡ false
      by_test false k = k
      by_test true k = absurd (let both : true ≡ false = sym (all_stay_constant m r ys rest (constant_says s m xs is on)) ∙ room k in cc both)

  keeps_room : (s r : Specifiers) (ts : List Token) → IsSpecifier w s ts r → (at_next (is_keyword w keyword.Const) ts ≡ true → bar ≡ false) → bar ≡ true → s.constant ≡ false → r.constant ≡ false
  keeps_room _ _ _ (is_word s t k said e h) room on off = off
  keeps_room _ _ _ (is_constant s t e) room on off = absurd (let both : false ≡ true = sym (room e) ∙ on in cc both)
  keeps_room _ _ _ (is_restricted s t e) room on off = off
  keeps_room _ _ _ (is_structure s t n tag e none named) room on off = off
  keeps_room _ _ _ (is_enumeration s t n tag e none named) room on off = off
  keeps_room _ _ _ (is_defined s t e none) room on off = off

  are_of_turns : (s r : Specifiers) (ts : List Token) → Turns Worded s ts r → AreSpecifiers w s ts r
  are_of_turns _ _ _ (over s) = no_specifiers s
  are_of_turns _ _ _ (turn s m r xs ys v rest) = more_specifiers s m r xs ys v.is (are_of_turns m r ys rest)

  turns_keep_room : (s r : Specifiers) (ts : List Token) → Turns Worded s ts r → bar ≡ true → s.constant ≡ false → r.constant ≡ false
  turns_keep_room _ _ _ (over s) on off = off
  turns_keep_room _ _ _ (turn s m r xs ys v rest) on off = turns_keep_room m r ys rest on (keeps_room s m xs v.is v.room on off)

  pub are_append : (s m r : Specifiers) (xs ys : List Token) → AreSpecifiers w s xs m → AreSpecifiers w m ys r → AreSpecifiers w s (xs ++ ys) r
  are_append _ _ _ _ _ (no_specifiers s) are = are
  are_append _ _ r _ ys (more_specifiers s n m us vs is rest) are = subst (λ l. AreSpecifiers w s l r) (sym (append_assoc us vs ys)) (more_specifiers s n r us (vs ++ ys) is (are_append n m r vs ys rest are))

  -- ---- a typedef name, where no type is named so far

  abbrev DefinedText : Specifiers → List Token → Specifiers → Type 0
  DefinedText s ts r = (is_nothing s.said ≡ true) × Opened (is_type_name w) (λ t. Turns Worded (defined_by s t)) ts r

  abbrev MaybeDefined : Specifiers → List Token → Specifiers → Type 0
  MaybeDefined s = Either (DefinedText s) (IsEmpty s)

  abbrev goes_on : Specifiers → Token → Bool
  goes_on s t = names_type w bar s t || is_type_word w t

  said_goes_on : (s r : Specifiers) (ts : List Token) → AreSpecifiers w s ts r → is_nothing s.said ≡ false → (t : Token) → goes_on r t ≡ is_type_word w t
  said_goes_on s r ts are off t = ap (λ b. (b && is_type_name w t) || is_type_word w t) (all_stay_said s r ts are off)

  defined_head : (s : Specifiers) → OnHead (names_type w bar s) (DefinedText s) goes_on (token unexpected (is_type_name w) >>= (λ t. keyword_specifiers w bar (defined_by s t)))
  defined_head s = at_head (names_type w bar s) law heads
    where
      law : (t : Token) → names_type w bar s t ≡ true → Lawful (DefinedText s) goes_on (token unexpected (is_type_name w) >>= (λ t. keyword_specifiers w bar (defined_by s t)))
      law t h =
          via (opened {Is = λ u. Turns Worded (defined_by s u)} {q = λ u. keyword_specifiers w bar (defined_by s u)} unexpected (is_type_name w) t (and_second (is_nothing s.said) (is_type_name w t) h)
          (λ u passes. goes_on_where (keywords_law (defined_by s u)) goes_on (λ ts r is v. said_goes_on (defined_by s u) r ts (are_of_turns (defined_by s u) r ts is) refl v)))
          (λ ts a is. (and_first (is_nothing s.said) (is_type_name w t) h, is)) (λ ts a is. is.1) (token unexpected (is_type_name w) >>= (λ t. keyword_specifiers w bar (defined_by s t))) (λ ts. refl)

      heads : (ts : List Token) (r : Specifiers) → DefinedText s ts r → at_next (names_type w bar s) ts ≡ true
      heads ts r is = ap (at_next (names_type w bar s)) is.1.split ∙ ap (λ b. b && is_type_name w is.1.opening) is.0 ∙ is.1.passes

  defined_law : (s : Specifiers) → Follows (is_type_word w) (MaybeDefined s) goes_on (defined w bar s)
  unfolding defined
  defined_law s = perhaps_there s (defined_head s) (λ t. refl)

  not_a_word : (r : Specifiers) (rest : List Token) → at_next (goes_on r) rest ≡ false → at_next (is_type_word w) rest ≡ false
  not_a_word r [] e = refl
  not_a_word r (t ∷ rest) e = second_fails (names_type w bar r t) (is_type_word w t) e

  defined_apart : (s : Specifiers) (ys : List Token) (r : Specifiers) (rest : List Token) → MaybeDefined s ys r → at_next (goes_on r) rest ≡ false → at_next (is_type_word w) (ys ++ rest) ≡ false
  defined_apart s ys r rest (inl d) e =
      ap (λ l. at_next (is_type_word w) (l ++ rest)) d.1.split ∙ ap (λ o. option_map_or is_type_keyword o false) (type_name_no_keyword w d.1.opening d.1.passes)
  defined_apart s ys r rest (inr m) e = ap (λ l. at_next (is_type_word w) (l ++ rest)) m.none ∙ not_a_word r rest e

  -- ---- all specifiers

  abbrev Specified : List Token → Specifiers → Type 0
  Specified ts r = AreSpecifiers w unspecified ts r × (bar ≡ true → r.constant ≡ false)

  are_of_defined : (s r : Specifiers) (ts : List Token) → MaybeDefined s ts r → AreSpecifiers w s ts r
  are_of_defined s r ts (inl d) =
      subst (λ l. AreSpecifiers w s l r) (sym d.1.split)
      (more_specifiers s (defined_by s d.1.opening) r (d.1.opening ∷ []) d.1.rest (is_defined s d.1.opening d.1.passes (nothing_said s.said d.0)) (are_of_turns (defined_by s d.1.opening) r d.1.rest d.1.is))
  are_of_defined s r ts (inr m) = subst₂ (AreSpecifiers w s) (sym m.none) (sym m.same) (no_specifiers s)

  defined_keeps_room : (s r : Specifiers) (ts : List Token) → MaybeDefined s ts r → bar ≡ true → s.constant ≡ false → r.constant ≡ false
  defined_keeps_room s r ts (inl d) on off = turns_keep_room (defined_by s d.1.opening) r d.1.rest d.1.is on off
  defined_keeps_room s r ts (inr m) on off = ap (λ z. z.constant) m.same ∙ off

  to_specified : (ts : List Token) (r : Specifiers) → Joined (Turns Worded unspecified) MaybeDefined ts r → Specified ts r
  to_specified ts r j = (
    subst (λ l. AreSpecifiers w unspecified l r) (sym j.split) (are_append unspecified j.value r j.before j.after (are_of_turns unspecified j.value j.before j.first) (are_of_defined j.value r j.after j.second)),
    λ on. defined_keeps_room j.value r j.after j.second on (turns_keep_room unspecified j.value j.before j.first on refl),
  )

  -- where a type is named, what follows are keywords alone
  empty_behind : (s r : Specifiers) (ts : List Token) → is_nothing s.said ≡ false → MaybeDefined s ts r → IsEmpty s ts r
  empty_behind s r ts off (inl d) = absurd (let both : false ≡ true = sym off ∙ d.0 in cc both)
  empty_behind s r ts off (inr m) = m

  from_specified : (s r : Specifiers) (ts : List Token) → AreSpecifiers w s ts r → (bar ≡ true → r.constant ≡ false) → Joined (Turns Worded s) MaybeDefined ts r
  from_specified _ _ _ (no_specifiers s) room = record { before = []; after = []; value = s; split = refl; first = over s; second = inr (record { none = refl; same = refl }) }
  from_specified _ _ _ (more_specifiers s m r xs ys is rest) room = by_test (at_next (is_type_word w) xs) refl (from_specified m r ys rest room)
    where
      defined_here : (s m : Specifiers) (xs : List Token) → IsSpecifier w s xs m → at_next (is_type_word w) xs ≡ false → (t : Token) × ((xs ≡ t ∷ []) × (m ≡ defined_by s t)) × ((is_type_name w t ≡ true) × (is_nothing s.said ≡ true))
      defined_here _ _ _ (is_word s t k said e h) off =
          absurd (let both : true ≡ false = sym (ap (λ o. option_map_or is_type_keyword o false) e ∙ arithmetic_word k (said_words k t.place s.said said h).0) ∙ off in cc both)
      defined_here _ _ _ (is_constant s t e) off = absurd (let both : true ≡ false = sym (type_word_by keyword.Const refl t e) ∙ off in cc both)
      defined_here _ _ _ (is_restricted s t e) off = absurd (let both : true ≡ false = sym (type_word_by keyword.Restrict refl t e) ∙ off in cc both)
      defined_here _ _ _ (is_structure s t n tag e none named) off = absurd (let both : true ≡ false = sym (type_word_by keyword.Struct refl t e) ∙ off in cc both)
      defined_here _ _ _ (is_enumeration s t n tag e none named) off = absurd (let both : true ≡ false = sym (type_word_by keyword.Enum refl t e) ∙ off in cc both)
      defined_here _ _ _ (is_defined s t e none) off = (t, (refl, refl), (e, ap is_nothing none))

      by_test : (b : Bool) → at_next (is_type_word w) xs ≡ b → Joined (Turns Worded m) MaybeDefined ys r → Joined (Turns Worded s) MaybeDefined (xs ++ ys) r
      by_test true k j = record {
        before = xs ++ j.before;
        after = j.after;
        value = j.value;
        split = ap (λ l. xs ++ l) j.split ∙ sym (append_assoc xs j.before j.after);
        first = turn s m j.value xs j.before (record { is = is; begins = k; room = room_for s m r xs ys is rest room }) j.first;
        second = j.second;
      }
      by_test false k j =
          let d : (t : Token) × ((xs ≡ t ∷ []) × (m ≡ defined_by s t)) × ((is_type_name w t ≡ true) × (is_nothing s.said ≡ true)) = defined_here s m xs is k in
          let off : is_nothing m.said ≡ false = ap (λ z. is_nothing z.said) d.1.1 in
          let still : is_nothing j.value.said ≡ false = all_stay_said m j.value j.before (are_of_turns m j.value j.before j.first) off in
          let e : IsEmpty j.value j.after r = empty_behind j.value r j.after still j.second in
          let whole : ys ≡ j.before = j.split ∙ ap (λ l. j.before ++ l) e.none ∙ append-nil j.before in
          record {
            before = [];
            after = xs ++ ys;
            value = s;
            split = refl;
            first = over s;
            second = inl (
              d.2.1,
              record {
                opening = d.0;
                rest = ys;
                split = ap (λ l. l ++ ys) d.1.0;
                passes = d.2.0;
                is = subst (λ z. Turns Worded z ys r) d.1.1 (subst₂ (Turns Worded m) (sym whole) (sym e.same) j.first);
              },
            );
          }

  specifiers_law : Lawful Specified goes_on (keyword_specifiers w bar unspecified >>= defined w bar)
  specifiers_law =
      via (from_there {Second = MaybeDefined} {q = defined w bar} (keywords_law unspecified) (λ xs s is. defined_law s) (λ xs s ys r rest is second e. defined_apart s ys r rest second e))
      to_specified (λ ts r is. from_specified unspecified r ts is.0 is.1) (keyword_specifiers w bar unspecified >>= defined w bar) (λ ts. refl)

  -- ---- the type that they name

  none_specified : (constant : Bool) (said : Said) → qualified_if constant (type_said said) ≡ None → said ≡ Nothing
  none_specified constant Nothing e = refl
  none_specified constant (Words v place) e = absurd (cc e)
  none_specified constant (Whole t) e = absurd (cc e)

  some_specified : (constant : Bool) (said : Said) (t : TypeTree) → qualified_if constant (type_said said) ≡ Some t → is_nothing said ≡ false
  some_specified constant Nothing t e = absurd (cc e)
  some_specified constant (Words v place) t e = refl
  some_specified constant (Whole u) t e = refl

  abbrev int_words : TypeWords
  int_words = record { sign = no_words.sign; length = no_words.length; kind = kind.Int }

  with_int : Specifiers → Specifiers
  with_int s = saying (Words int_words int_token.place) s

  pub more_behind : (ts : List Token) (s : Specifiers) → Specified ts s → type_specified s ≡ None → (rest : List Token) × (t : TypeTree) × Completed Specified type_specified (ts ++ rest) t
  unfolding with_int
  more_behind ts s is none =
      let said : said_after keyword.Int int_token.place s.said ≡ Some (Words int_words int_token.place) = ap (said_after keyword.Int int_token.place) (none_specified s.constant s.said none) in
      let last : AreSpecifiers w s (int_token ∷ []) (with_int s) = more_specifiers s (with_int s) (with_int s) (int_token ∷ []) [] (is_word s int_token keyword.Int (Words int_words int_token.place) (int_token_is w) said) (no_specifiers (with_int s)) in
      (int_token ∷ [], qualified s.constant (tree.Base 7 int_token.place), record { value = with_int s; is = (are_append unspecified s (with_int s) ts (int_token ∷ []) is.0 last, is.1); gives_it = refl })

  named_law : Lawful (Completed Specified type_specified) (λ t. is_type_word w) (base_type w bar)
  unfolding base_type
  named_law =
      completing specifiers_law type_specified (completed w bar) unexpected (λ t. is_type_word w) (λ x. refl) (λ t x. refl)
      (λ ts s t is e u. sym (ap (λ b. (b && is_type_name w u) || is_type_word w u) (some_specified s.constant s.said t e))) more_behind

-- ---- how deep it is

-- what is said so far makes a type of depth 1
abbrev IsFlat : Said → Type 0
IsFlat said = (t : TypeTree) → type_said said ≡ Some t → depth_of_type t ≡ 1

stays_flat : (w : Lexicon) (s r : Specifiers) (ts : List Token) → IsSpecifier w s ts r → IsFlat s.said → IsFlat r.said
stays_flat w _ _ _ (is_word s t k said e h) flat = words_flat said (said_words k t.place s.said said h).1
  where
    words_flat : (said : Said) → (v : TypeWords) × (at : Place) × (said ≡ Words v at) → IsFlat said
    words_flat said words u g = let it : Some (tree.Base (number_of_words words.0) words.1) ≡ Some u = sym (ap type_said words.2) ∙ g in sym (ap (λ o. option_map_or depth_of_type o 1) it)
stays_flat w _ _ _ (is_constant s t e) flat = flat
stays_flat w _ _ _ (is_restricted s t e) flat = flat
stays_flat w _ _ _ (is_structure s t n tag e none named) flat = λ u g. sym (ap (λ o. option_map_or depth_of_type o 1) g)
stays_flat w _ _ _ (is_enumeration s t n tag e none named) flat = λ u g. sym (ap (λ o. option_map_or depth_of_type o 1) g)
stays_flat w _ _ _ (is_defined s t e none) flat = λ u g. sym (ap (λ o. option_map_or depth_of_type o 1) g)

all_stay_flat : (w : Lexicon) (s r : Specifiers) (ts : List Token) → AreSpecifiers w s ts r → IsFlat s.said → IsFlat r.said
all_stay_flat w _ _ _ (no_specifiers s) flat = flat
all_stay_flat w _ _ _ (more_specifiers s m r xs ys is rest) flat = all_stay_flat w m r ys rest (stays_flat w s m xs is flat)

depth_specified : (constant : Bool) (said : Said) (t : TypeTree) → IsFlat said → qualified_if constant (type_said said) ≡ Some t → depth_of_type t ≡ (if constant then 2 else 1)
depth_specified constant said t flat e = by_type (type_said said) refl e
  where
    by_type : (o : Option TypeTree) → type_said said ≡ o → qualified_if constant o ≡ Some t → depth_of_type t ≡ (if constant then 2 else 1)
    by_type None k h = absurd (cc h)
    by_type (Some u) k h = by_test constant (sym (ap (λ o. option_map_or depth_of_type o 1) h))
      where
        by_test : (b : Bool) → depth_of_type t ≡ depth_of_type (qualified b u) → depth_of_type t ≡ (if b then 2 else 1)
        by_test true g = g ∙ ap suc (flat u k)
        by_test false g = g ∙ flat u k

-- the specifiers of a type name, and their type of at most this depth
pub record FitsBase (w : Lexicon) (below : ℕ) (ts : List Token) (t : TypeTree) : Type 0 where
  pub says : Specifiers
  pub are : AreSpecifiers w unspecified ts says
  pub named : type_specified says ≡ Some t
  pub deep : depth_of_type t ≤ suc below

depth_of_base : (w : Lexicon) (ts : List Token) (s : Specifiers) (t : TypeTree) → AreSpecifiers w unspecified ts s → type_specified s ≡ Some t → depth_of_type t ≡ (if s.constant then 2 else 1)
depth_of_base w ts s t are named = depth_specified s.constant s.said t (all_stay_flat w unspecified s ts are (λ u g. absurd (cc g))) named

pub base_depth : (w : Lexicon) (below : ℕ) (ts : List Token) (t : TypeTree) → FitsBase w below ts t → 1 ≤ depth_of_type t
base_depth w below ts t is = by_test is.says.constant (depth_of_base w ts is.says t is.are is.named)
  where
    by_test : (b : Bool) → depth_of_type t ≡ (if b then 2 else 1) → 1 ≤ depth_of_type t
    by_test true e = let deep : depth_of_type t ≡ 2 = e in omega arith
    by_test false e = let deep : depth_of_type t ≡ 1 = e in omega arith

fits : (below : ℕ) (constant : Bool) (d : ℕ) → d ≡ (if constant then 2 else 1) → (is_zero below ≡ true → constant ≡ false) → d ≤ suc below
fits zero true d e room = absurd (cc (room refl))
fits zero false d e room = let deep : d ≡ 1 = e in omega arith
fits (suc below) true d e room = let deep : d ≡ 2 = e in omega arith
fits (suc below) false d e room = let deep : d ≡ 1 = e in omega arith

room_left : (below : ℕ) (constant : Bool) (d : ℕ) → d ≡ (if constant then 2 else 1) → d ≤ suc below → is_zero below ≡ true → constant ≡ false
room_left zero true d e le on = absurd (let deep : d ≡ 2 = e in omega arith)
room_left zero false d e le on = refl
room_left (suc below) constant d e le on = absurd (cc on)

pub base_law : (w : Lexicon) (below : ℕ) → Lawful (FitsBase w below) (λ t. is_type_word w) (base_type w (is_zero below))
base_law w below =
    via (named_law w (is_zero below))
    (λ ts t c. record { says = c.value; are = c.is.0; named = c.gives_it; deep = fits below c.value.constant (depth_of_type t) (depth_of_base w ts c.value t c.is.0 c.gives_it) c.is.1 })
    (λ ts t b. record { value = b.says; is = (b.are, room_left below b.says.constant (depth_of_type t) (depth_of_base w ts b.says t b.are b.named) b.deep); gives_it = b.named })
    (base_type w (is_zero below)) (λ ts. refl)
