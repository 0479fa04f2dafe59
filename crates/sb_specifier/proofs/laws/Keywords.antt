-- With which keywords the specifiers of a declaration begin, and what a word comes to.
use Rattle.std.proofs.Common.{◌≡◌, Bool, true, false, ◌||◌, List, [], ◌∷◌, Option, Some, None, if◌then◌else◌, refl, ap, ◌∙◌}
use Rattle.std.specs.Option.{option_map_or}
use Rattle.sb_base.specs.declared.refusals.Place.{Place}
use Rattle.sb_base.specs.declared.tokens.Token.{Token}
use Rattle.sb_parse.specs.Parser.{at_next}
use Rattle.sb_sign.specs.declared.sign.Keyword.{Keyword}
use Rattle.sb_sign.specs.declared.sign.Keyword.TheVariants as keyword
use Rattle.sb_tree.specs.declared.syntax.Storage.{Storage}
use Rattle.sb_sign.specs.Signs as sign
use Rattle.sb_lexicon.specs.declared.words.TypeWords.{TypeWords}
use Rattle.sb_lexicon.specs.Lexicon.{Lexicon, is_type_name, is_type_keyword}
use Rattle.sb_lexicon.specs.Words.{Said, Nothing, Words, Whole, is_nothing, put, no_words, said_after, worded}
use Rattle.sb_lexicon.proofs.Lexemes.{is_kind, type_name_no_keyword}
use Rattle.sb_specifier.specs.declared.seat.Seat.{Seat}
use Rattle.sb_specifier.specs.declared.seat.Seat.TheVariants as seat
use Rattle.sb_specifier.specs.Specified as specified
use Rattle.sb_specifier.specs.Specified.{Specified, saying, stored, storage_in, is_register}
use Rattle.sb_specifier.specs.Readers.{is_storage_keyword, is_specifier_word, storage_by, word_by}

-- ---- words of arithmetic types

abbrev pub is_arithmetic : Keyword → Bool
is_arithmetic keyword.Void = true
is_arithmetic keyword.Bool = true
is_arithmetic keyword.Char = true
is_arithmetic keyword.Short = true
is_arithmetic keyword.Int = true
is_arithmetic keyword.Long = true
is_arithmetic keyword.Signed = true
is_arithmetic keyword.Unsigned = true
is_arithmetic _ = false

put_arithmetic : (k : Keyword) (v r : TypeWords) → put k v ≡ Some r → is_arithmetic k ≡ true
put_arithmetic keyword.Void v r e = refl
put_arithmetic keyword.Bool v r e = refl
put_arithmetic keyword.Char v r e = refl
put_arithmetic keyword.Short v r e = refl
put_arithmetic keyword.Int v r e = refl
put_arithmetic keyword.Long v r e = refl
put_arithmetic keyword.Signed v r e = refl
put_arithmetic keyword.Unsigned v r e = refl
put_arithmetic _ v r e = absurd (cc e)

-- a word of an arithmetic type begins a type and stores nothing
pub arithmetic_word : (k : Keyword) → is_arithmetic k ≡ true → (is_type_keyword k ≡ true) × (is_storage_keyword k ≡ false)
arithmetic_word keyword.Void e = (refl, refl)
arithmetic_word keyword.Bool e = (refl, refl)
arithmetic_word keyword.Char e = (refl, refl)
arithmetic_word keyword.Short e = (refl, refl)
arithmetic_word keyword.Int e = (refl, refl)
arithmetic_word keyword.Long e = (refl, refl)
arithmetic_word keyword.Signed e = (refl, refl)
arithmetic_word keyword.Unsigned e = (refl, refl)
arithmetic_word _ e = absurd (cc e)

some_worded : (place : Place) (o : Option TypeWords) (r : Said) → worded place o ≡ Some r → (v : TypeWords) × (o ≡ Some v) × (r ≡ Words v place)
some_worded place None r e = absurd (cc e)
some_worded place (Some v) r e = (v, refl, cc e)

-- what is said after a word is words
pub said_words : (k : Keyword) (place : Place) (said r : Said) → said_after k place said ≡ Some r → (is_arithmetic k ≡ true) × ((v : TypeWords) × (at : Place) × (r ≡ Words v at))
said_words k place Nothing r e = let it = some_worded place (put k no_words) r e in (put_arithmetic k no_words it.0 it.1, (it.0, place, it.2))
said_words k place (Words v at) r e = let it = some_worded at (put k v) r e in (put_arithmetic k v it.0 it.1, (it.0, at, it.2))
said_words k place (Whole t) r e = absurd (cc e)

pub nothing_said : (said : Said) → is_nothing said ≡ true → said ≡ Nothing
nothing_said Nothing e = refl
nothing_said (Words v place) e = absurd (cc e)
nothing_said (Whole t) e = absurd (cc e)

pub by_word : (place : Place) (s r : Specified) (o : Option Keyword) → word_by place s o ≡ Some r → (k : Keyword) × (o ≡ Some k) × ((said : Said) × (said_after k place s.said ≡ Some said) × (r ≡ saying said s))
by_word place s r None e = absurd (cc e)
by_word place s r (Some k) e = by_said (said_after k place s.said) refl e
  where
    by_said : (o : Option Said) → said_after k place s.said ≡ o → option_map_or (λ said. Some (saying said s)) o None ≡ Some r
        → (j : Keyword) × (Some k ≡ Some j) × ((said : Said) × (said_after j place s.said ≡ Some said) × (r ≡ saying said s))
    by_said None h e = absurd (cc e)
    by_said (Some said) h e = (k, refl, (said, h, cc e))

-- ---- storage words

abbrev pub is_storing : Keyword → Bool
is_storing keyword.Typedef = true
is_storing keyword.Extern = true
is_storing keyword.Static = true
is_storing keyword.Register = true
is_storing _ = false

pub storing_word : (k : Keyword) → is_storing k ≡ true → is_storage_keyword k ≡ true
storing_word keyword.Typedef e = refl
storing_word keyword.Extern e = refl
storing_word keyword.Static e = refl
storing_word keyword.Register e = refl
storing_word _ e = absurd (cc e)

stores : (k : Keyword) (storage : Storage) → specified.storage_by k ≡ Some storage → is_storing k ≡ true
stores keyword.Typedef storage e = refl
stores keyword.Extern storage e = refl
stores keyword.Static storage e = refl
stores keyword.Register storage e = refl
stores _ storage e = absurd (cc e)

pub stores_in : (at : Seat) (o : Option Storage) (k : Keyword) (storage : Storage) → storage_in at o k ≡ Some storage → is_storing k ≡ true
stores_in seat.Scope None k storage e = stores k storage e
stores_in seat.Prototype None k storage e = by_test (is_register k) e
  where
    by_test : (b : Bool) → (if b then specified.storage_by k else None) ≡ Some storage → is_storing k ≡ true
    by_test true h = stores k storage h
    by_test false h = absurd (cc h)
stores_in _ _ k storage e = absurd (cc e)

pub by_storage : (at : Seat) (s r : Specified) (o : Option Keyword) → storage_by at s o ≡ Some r → (k : Keyword) × (o ≡ Some k) × ((storage : Storage) × (storage_in at s.storage k ≡ Some storage) × (r ≡ stored storage s))
by_storage at s r None e = absurd (cc e)
by_storage at s r (Some k) e = by_value (storage_in at s.storage k) refl e
  where
    by_value : (o : Option Storage) → storage_in at s.storage k ≡ o → option_map_or (λ storage. Some (stored storage s)) o None ≡ Some r
        → (j : Keyword) × (Some k ≡ Some j) × ((storage : Storage) × (storage_in at s.storage j ≡ Some storage) × (r ≡ stored storage s))
    by_value None h e = absurd (cc e)
    by_value (Some storage) h e = (k, refl, (storage, h, cc e))

-- ---- tokens

-- a test that fails where another one passes
pub test_off : {T : Type 0} (test other : T → Bool) → ((t : T) → test t ≡ true → other t ≡ false) → (ts : List T) → at_next test ts ≡ true → at_next other ts ≡ false
test_off test other off [] h = refl
test_off test other off (t ∷ ts) h = off t h

module _ (w : Lexicon) where
  pub kinds_apart : (kinds other : Keyword → Bool) → ((k : Keyword) → kinds k ≡ true → other k ≡ false) → (t : Token) → is_kind w kinds t ≡ true → is_kind w other t ≡ false
  kinds_apart kinds other off t e = go (sign.keyword_of w.texts t) e
    where
      go : (o : Option Keyword) → option_map_or kinds o false ≡ true → option_map_or other o false ≡ false
      go None h = absurd (cc h)
      go (Some k) h = off k h

  -- a keyword that begins a type, or one that stores, is a specifier's
  pub type_specifies : (k : Keyword) → is_type_keyword k ≡ true → (t : Token) → sign.keyword_of w.texts t ≡ Some k → is_specifier_word w t ≡ true
  type_specifies k good t e = ap (λ o. option_map_or is_type_keyword o false || option_map_or is_storage_keyword o false) e ∙ ap (λ b. b || is_storage_keyword k) good

  pub storage_specifies : (t : Token) → is_kind w is_storage_keyword t ≡ true → is_specifier_word w t ≡ true
  storage_specifies t h = go (is_kind w is_type_keyword t)
    where
      go : (b : Bool) → (b || is_kind w is_storage_keyword t) ≡ true
      go true = refl
      go false = h

  pub type_name_specifies_none : (t : Token) → is_type_name w t ≡ true → is_specifier_word w t ≡ false
  type_name_specifies_none t h = ap (λ o. option_map_or is_type_keyword o false || option_map_or is_storage_keyword o false) (type_name_no_keyword w t h)
