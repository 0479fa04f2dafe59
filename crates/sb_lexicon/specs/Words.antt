-- The words of arithmetic types in any order (C99 6.7.2 paragraph 2), and the specifiers of a type name.
use Rattle.std.specs.Prelude.{ℕ, ◌+◌, Bool, true, false, ◌&&◌, Option, Some, None, if◌then◌else◌}
use Rattle.sb_base.specs.declared.refusals.Place.{Place}
use Rattle.sb_sign.specs.declared.sign.Keyword.{Keyword}
use Rattle.sb_sign.specs.declared.sign.Keyword.TheVariants as keyword
use Rattle.sb_tree.specs.Trees.{TypeTree, Base, Const}
use Rattle.sb_lexicon.specs.declared.words.Signedness.{Signedness}
use Rattle.sb_lexicon.specs.declared.words.Signedness.TheVariants as sign
use Rattle.sb_lexicon.specs.declared.words.Length.{Length}
use Rattle.sb_lexicon.specs.declared.words.Length.TheVariants as lengths
use Rattle.sb_lexicon.specs.declared.words.Kind.{Kind}
use Rattle.sb_lexicon.specs.declared.words.Kind.TheVariants as kind
use Rattle.sb_lexicon.specs.declared.words.TypeWords.{TypeWords}

abbrev pub no_words : TypeWords
no_words = record { sign = sign.Unsaid; length = lengths.Unsaid; kind = kind.Unsaid }

abbrev pub is_no_sign : Signedness → Bool
is_no_sign sign.Unsaid = true
is_no_sign _ = false

abbrev pub is_no_length : Length → Bool
is_no_length lengths.Unsaid = true
is_no_length _ = false

abbrev pub is_no_kind : Kind → Bool
is_no_kind kind.Unsaid = true
is_no_kind _ = false

abbrev pub is_int_or_none : Kind → Bool
is_int_or_none kind.Unsaid = true
is_int_or_none kind.Int = true
is_int_or_none _ = false

abbrev pub may_be_signed : Kind → Bool
may_be_signed kind.Char = true
may_be_signed k = is_int_or_none k

abbrev pub longer : Length → Option Length
longer lengths.Unsaid = Some lengths.Long
longer lengths.Long = Some lengths.LongLong
longer _ = None

abbrev pub with_kind : Bool → Kind → TypeWords → Option TypeWords
with_kind may k v = if is_no_kind v.kind && may then Some (record { sign = v.sign; length = v.length; kind = k }) else None

abbrev pub with_sign : Signedness → TypeWords → Option TypeWords
with_sign s v = if is_no_sign v.sign && may_be_signed v.kind then Some (record { sign = s; length = v.length; kind = v.kind }) else None

abbrev pub lengthened : Option Length → TypeWords → Option TypeWords
lengthened None v = None
lengthened (Some l) v = if is_int_or_none v.kind then Some (record { sign = v.sign; length = l; kind = v.kind }) else None

-- one more word, where some type has all of them
abbrev pub put : Keyword → TypeWords → Option TypeWords
put keyword.Void v = with_kind (is_no_sign v.sign && is_no_length v.length) kind.Void v
put keyword.Bool v = with_kind (is_no_sign v.sign && is_no_length v.length) kind.Bool v
put keyword.Char v = with_kind (is_no_length v.length) kind.Char v
put keyword.Int v = with_kind true kind.Int v
put keyword.Signed v = with_sign sign.Signed v
put keyword.Unsigned v = with_sign sign.Unsigned v
put keyword.Short v = lengthened (if is_no_length v.length then Some lengths.Short else None) v
put keyword.Long v = lengthened (longer v.length) v
put _ v = None

-- a type's number: it and the one after it are the signed and the unsigned type of a length
abbrev pub number_of_length : Length → ℕ
number_of_length lengths.Short = 5
number_of_length lengths.Unsaid = 7
number_of_length lengths.Long = 9
number_of_length lengths.LongLong = 11

abbrev pub char_by : Signedness → ℕ
char_by sign.Unsaid = 2
char_by sign.Signed = 3
char_by sign.Unsigned = 4

abbrev pub integer_by : ℕ → Signedness → ℕ
integer_by n sign.Unsigned = 1 + n
integer_by n _ = n

abbrev pub number_by : Kind → TypeWords → ℕ
number_by kind.Void v = 0
number_by kind.Bool v = 1
number_by kind.Char v = char_by v.sign
number_by _ v = integer_by (number_of_length v.length) v.sign

-- `void`, `_Bool`, `char`, `signed char`, `unsigned char`, and then `short`, `int`, `long` and `long long`, each signed and unsigned, from 0
abbrev pub number_of_words : TypeWords → ℕ
number_of_words v = number_by v.kind v

-- ---- specifiers and qualifiers so far

pub data Said : Type 0 where
  Nothing : Said
  -- words of an arithmetic type, from this place on
  Words : TypeWords → Place → Said
  Whole : TypeTree → Said

pub record Specifiers : Type 0 where
  pub said : Said
  pub constant : Bool

abbrev pub unspecified : Specifiers
unspecified = record { said = Nothing; constant = false }

abbrev pub saying : Said → Specifiers → Specifiers
saying said s = record { said = said; constant = s.constant }

abbrev pub constantly : Specifiers → Specifiers
constantly s = record { said = s.said; constant = true }

abbrev pub is_nothing : Said → Bool
is_nothing Nothing = true
is_nothing _ = false

abbrev pub worded : Place → Option TypeWords → Option Said
worded place None = None
worded place (Some v) = Some (Words v place)

-- one more word of an arithmetic type
abbrev pub said_after : Keyword → Place → Said → Option Said
said_after k place Nothing = worded place (put k no_words)
said_after k place (Words v at) = worded at (put k v)
said_after k place (Whole t) = None

abbrev pub qualified : Bool → TypeTree → TypeTree
qualified constant t = if constant then Const t else t

abbrev pub type_said : Said → Option TypeTree
type_said Nothing = None
type_said (Words v place) = Some (Base (number_of_words v) place)
type_said (Whole t) = Some t

abbrev pub qualified_if : Bool → Option TypeTree → Option TypeTree
qualified_if constant None = None
qualified_if constant (Some t) = Some (qualified constant t)

-- the type that specifiers name
abbrev pub type_specified : Specifiers → Option TypeTree
type_specified s = qualified_if s.constant (type_said s.said)
