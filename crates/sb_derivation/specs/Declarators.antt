-- What declarators in code stand for in the definitions, and the parts of their readers and of those of parameters that hold no declarator.
use Rattle.std.specs.Prelude.{◌≡◌, ◌≤◌, ◌-◌, ℕ, Bool, ◌&&◌, ◌||◌, not, List, [], ◌∷◌, ◌++◌, length, take, drop, Option, Some, None, Result, Ok, Err, if◌then◌else◌}
use Rattle.std.specs.Option.{option_map_or}
use Rattle.sb_base.specs.declared.interning.Name.{Name}
use Rattle.sb_base.specs.declared.refusals.Place.{Place}
use Rattle.sb_base.specs.declared.tokens.Token.{Token}
use Rattle.sb_parse.specs.Parser.{Outcome, Parser, done, ◌>>=◌, pure, refuse, token, taken, choose}
use Rattle.sb_sign.specs.declared.sign.Keyword.TheVariants as keyword
use Rattle.sb_lexicon.specs.declared.reading.Read.{Read}
use Rattle.sb_lexicon.specs.declared.reading.ReadFault.{ReadFault}
use Rattle.sb_lexicon.specs.Lexicon.{Lexicon, is_keyword, is_type_name}
use Rattle.sb_operand.specs.Meaning.{plain_pieces}
use Rattle.sb_lexicon.specs.Meaning.{IsFault}
use Rattle.sb_operand.specs.Pieces.{Piece, Arrayed, depth_over}
use Rattle.sb_lexicon.specs.Tokens as lexeme
use Rattle.sb_operand.specs.Readers.{begins_abstract}
use Rattle.sb_lexicon.specs.Tokens.{unexpected, too_deep, is_open, is_close, is_open_bracket, is_close_bracket, is_comma}
use Rattle.sb_sal.specs.Spellings.{begins_note, is_listed}
use Rattle.sb_derivation.specs.declared.declarator.Declarator as declared_declarator
use Rattle.sb_specifier.specs.declared.seat.Seat.TheVariants as seat
use Rattle.sb_specifier.specs.Sizes.{array_size}
use Rattle.sb_specifier.specs.Specified.{without}
use Rattle.sb_specifier.specs.Readers.{Declarator, Declarations, is_name, name_at, begins_parameter, barred}

-- ---- what was read

-- the typedef names that parameters left in force, and without parameters those before
abbrev pub names_inside : List Name → Option (List Name) → List Name
names_inside types None = types
names_inside types (Some inner) = inner

-- `types`: the typedef names in force before the declarator
abbrev pub plain_declarator : List Name → declared_declarator.Declarator → Declarator
plain_declarator types d = record { pieces = plain_pieces d.pieces.items; name = d.name; inner = names_inside types d.inner }

-- how deep the pieces make a type of no depth
abbrev pub IsDeep : declared_declarator.Declarator → Type 0
IsDeep d = d.depth ≡ depth_over 0 (plain_pieces d.pieces.items)

-- at most so many pieces, and no deeper than types of this depth
abbrev pub IsSized : (below room : ℕ) → declared_declarator.Declarator → Type 0
IsSized below room d = (length d.pieces.items ≤ room) × (d.depth ≤ below)

abbrev pub ReadsDeclarator : List Name → Outcome Token Declarator → Result (Read declared_declarator.Declarator) ReadFault → Type 0
ReadsDeclarator types o (Ok r) = (o ≡ done (plain_declarator types r.value) r.rest.now) × IsDeep r.value
ReadsDeclarator types o (Err e) = IsFault o e

-- ---- parts

-- a name that is no type and no annotation
abbrev pub is_plain_name : Lexicon → Token → Bool
is_plain_name w t = is_name w t && not (is_type_name w t || begins_note w t)

-- a name that is no type and no listed annotation
abbrev pub is_inner_name : Lexicon → Token → Bool
is_inner_name w t = is_name w t && not (is_type_name w t || is_listed w t)

abbrev pub begins_inner : Lexicon → Token → Bool
begins_inner w t = begins_abstract w t || is_inner_name w t

abbrev pub goes_on_parameters : Lexicon → Token → Bool
goes_on_parameters w t = is_close w t || begins_parameter w t

abbrev pub is_suffix : Lexicon → Token → Bool
is_suffix w t = is_open_bracket w t || is_open w t

abbrev pub unnamed : List Name → Declarator
unnamed types = record { pieces = []; name = None; inner = types }

abbrev pub named : List Name → Name × Place → Declarator
named types n = record { pieces = []; name = Some n; inner = types }

abbrev pub name_or_none : Lexicon → Bool → Parser Token Declarator
name_or_none w may_lack = if may_lack
    then choose (is_name w) (taken unexpected (name_at w) >>= (λ n. pure (named w.types n))) (pure (unnamed w.types))
    else taken unexpected (name_at w) >>= (λ n. pure (named w.types n))

-- an array under n pieces
abbrev pub array_piece : Lexicon → (outermost : Bool) → (below n : ℕ) → Parser Token Piece
array_piece w outermost below n = token unexpected (is_open_bracket w) >>= (λ o. array_size w outermost below n >>= (λ e. token unexpected (is_close_bracket w) >>= (λ c. pure (Arrayed e o.place))))

-- ---- parameter lists

abbrev pub no_parameters : Lexicon → Declarations
no_parameters w = record { list = []; types = w.types }

abbrev pub goes_on_void : Lexicon → Token → Bool
goes_on_void w t = begins_abstract w t || (is_name w t || (is_comma w t || (is_keyword w keyword.Const t || (is_keyword w keyword.Restrict t || (is_keyword w keyword.Register t || is_keyword w keyword.Inline t)))))

abbrev pub behind_void : Lexicon → Parser Token Declarations
behind_void w =
    choose (is_close w) (pure (no_parameters w))
    (choose (is_keyword w keyword.Volatile) (refuse lexeme.volatile)
    (choose (goes_on_void w) (refuse too_deep)
    (refuse unexpected)))

abbrev pub only_void : Lexicon → Parser Token Declarations
only_void w = choose (is_keyword w keyword.Void) (token unexpected (is_keyword w keyword.Void) >>= (λ t. behind_void w)) (barred w seat.Prototype)

abbrev pub void_parameters : Lexicon → Parser Token Declarations
void_parameters w = token unexpected (is_keyword w keyword.Void) >>= (λ t. pure (no_parameters w))

-- no parameter begins so, but the names of parameters of an old definition
abbrev pub begins_old : Lexicon → Token → Bool
begins_old w t = is_close w t || is_plain_name w t

-- ---- one parameter

-- the second list is the end of the first
abbrev pub IsEnd : List Token → List Token → Type 0
IsEnd ts rest = (length rest ≤ length ts) × (drop (length ts - length rest) ts ≡ rest)

abbrev pub first_in : List Token → Place
first_in [] = record { file = 0; line = 0; col = 0 }
first_in (t ∷ ts) = t.place

-- the first of the tokens before `behind` and of those between it and the rest
abbrev pub first_of : (ts behind rest : List Token) → Place
first_of ts behind rest = first_in (take (length ts - length behind) ts ++ take (length behind - length rest) behind)

abbrev pub hidden_by : Option (Name × Place) → List Name → List Name
hidden_by name types = option_map_or (λ n. without n.0 types) name types
