-- Which tokens are annotations (SAL 2.0), by the table of names and the typedef names in force.
use Rattle.std.specs.Prelude.{ℕ, ◌^◌, Bool, ◌&&◌, not, List, nat_eq, nat_lt, Option, None, is_some, if◌then◌else◌, codes}
use Rattle.sb_base.specs.declared.tokens.Token.{Token}
use Rattle.sb_sign.specs.Signs.{spelling_of}
use Rattle.sb_sign.specs.Spellings.{arguments_in, looks_like_note}
use Rattle.sb_sign.specs.declared.spelling.Arguments.{Arguments}
use Rattle.sb_lexicon.specs.Lexicon.{Lexicon, name_of, is_type_name}

-- an annotation of parameters, one of functions, and the word `Mem`
abbrev pub own_word : ℕ → List ℕ
own_word value = if nat_eq value 0 then codes "_In_" else (if nat_eq value 1 then codes "_Ret_notnull_" else codes "Mem")

-- How a token is spelled. Past the numbers of names stand words of the language's own, by the token's value, so that a text may go on with an annotation,
-- whatever words a table holds and whatever words a typedef has defined.
abbrev pub word_of : List (List ℕ) → Token → List ℕ
word_of texts t = if nat_lt t.text.0 (2 ^ 33) then spelling_of texts t else own_word t.value

-- a word in the place of an annotation; one that a typedef has defined is a type
abbrev pub begins_note : Lexicon → Token → Bool
begins_note w t = is_some (name_of w t) && (not (is_type_name w t) && looks_like_note (word_of w.texts t))

abbrev pub arguments_of : Lexicon → Token → Option Arguments
arguments_of w t = if begins_note w t then arguments_in (word_of w.texts t) else None

abbrev pub is_listed : Lexicon → Token → Bool
is_listed w t = is_some (arguments_of w t)

abbrev pub is_unlisted : Lexicon → Token → Bool
is_unlisted w t = begins_note w t && not (is_listed w t)
