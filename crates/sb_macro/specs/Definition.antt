-- What the line of a `#define` defines (C99 6.10.3), and how it is refused.
use Rattle.std.specs.Prelude.{◌≡◌, ℕ, Bool, true, false, not, ◌&&◌, List, [], ◌∷◌, ◌++◌, Option, Some, None, Result, Ok, Err, if◌then◌else◌, find, map}
use Rattle.sb_base.specs.declared.interning.Name.{Name}
use Rattle.sb_base.specs.declared.refusals.Place.{Place}
use Rattle.sb_base.specs.declared.refusals.Refusal.{Refusal}
use Rattle.sb_lex.specs.declared.piece.PpToken.{PpToken}
use Rattle.sb_macro.specs.declared.halt.Halt.{Halt}
use Rattle.sb_macro.specs.declared.halt.Halt.TheVariants.{Refused, Memory}
use Rattle.sb_macro.specs.declared.lines.Expected.{Expected}
use Rattle.sb_macro.specs.declared.lines.Expected.TheVariants.{First, Next, Separator}
use Rattle.sb_macro.specs.declared.lines.Listed.{Listed}
use Rattle.sb_macro.specs.declared.lines.Listed.TheVariants.{Named, Separated, Ended, Bad}
use Rattle.sb_macro.specs.declared.marks.Mark.{Mark}
use Rattle.sb_macro.specs.declared.marks.Mark.TheVariants.{Close, Comma, Dots, Hash, Other}
use Rattle.sb_macro.specs.declared.stored.Part.{Part}
use Rattle.sb_macro.specs.Expansion.{is_word, is_open}
use Rattle.sb_macro.specs.Halts.{nowhere, refusal}
use Rattle.sb_macro.specs.Macros.{Macro, holds}
use Rattle.sb_macro.specs.Marks.{mark_of}

-- what a piece is in a list of parameters; a new name is a word that is none of the parameters before it.
-- 15 at `...` where a list has it: `F(...)`, `F(a, ...)`. 11 at any other piece with which no list goes on: at the dots of
-- `F(a...)`, at `b` of `F(a b)`, at the second `a` of `F(a, a)`, at `)` of `F(a, )`
abbrev pub listed_as : Mark → Expected → (is_new : Bool) → Listed
listed_as Dots First is_new = Bad 15
listed_as Dots Next is_new = Bad 15
listed_as Close First is_new = Ended
listed_as Close Separator is_new = Ended
listed_as Comma Separator is_new = Separated
listed_as Other First true = Named
listed_as Other Next true = Named
listed_as mark expected is_new = Bad 11

abbrev pub listed : List (List ℕ) → Expected → List Name → PpToken → Listed
listed texts expected params t = listed_as (mark_of texts t.text) expected (is_word t.kind && not (holds params t.text))

-- the parameters, and what follows their `)`
abbrev pub Listing : Type 0
Listing = Result (List Name × List PpToken) Refusal

abbrev pub listing_on : Listed → List Name → PpToken → List PpToken → (Expected → List Name → Listing) → Listing
listing_on Named params t rest more = more Separator (params ++ t.text ∷ [])
listing_on Separated params t rest more = more Next params
listing_on Ended params t rest more = Ok (params, rest)
listing_on (Bad number) params t rest more = Err (refusal number t.place)

-- the parameters of a list that goes on so, behind these parameters and a piece at `last`
abbrev pub parameters : List (List ℕ) → Expected → List Name → Place → List PpToken → Listing
parameters texts expected params last [] = Err (refusal 11 last)
parameters texts expected params last (t ∷ rest) =
    listing_on (listed texts expected params t) params t rest (λ next all. parameters texts next all t.place rest)

abbrev pub is_hash_mark : Mark → Bool
is_hash_mark Hash = true
is_hash_mark mark = false

-- the first `#` or `##`
abbrev pub first_hash : List (List ℕ) → List PpToken → Option PpToken
first_hash texts list = find (λ t. is_hash_mark (mark_of texts t.text)) list

abbrev pub part_of : Bool → PpToken → Part
part_of spaced t = record { kind = t.kind; text = t.text; spaced = spaced }

-- the pieces of a replacement list, without the white space before it
abbrev pub parts : List PpToken → List Part
parts [] = []
parts (t ∷ list) = part_of false t ∷ map (λ u. part_of u.spaced u) list

abbrev pub replacement_at : List PpToken → Option PpToken → Result (List Part) Refusal
replacement_at list None = Ok (parts list)
replacement_at list (Some t) = Err (refusal 15 t.place)

abbrev pub replacement_list : List (List ℕ) → List PpToken → Result (List Part) Refusal
replacement_list texts list = replacement_at list (first_hash texts list)

abbrev pub with_body : Name → Option (List Name) → Result (List Part) Refusal → Result Macro Refusal
with_body name params (Ok body) = Ok (record { name = name; params = params; body = body })
with_body name params (Err r) = Err r

abbrev pub with_params : List (List ℕ) → Name → Listing → Result Macro Refusal
with_params texts name (Ok listing) = with_body name (Some listing.0) (replacement_list texts listing.1)
with_params texts name (Err r) = Err r

-- whether a `(` stands directly behind the name
abbrev pub lists_params : List (List ℕ) → PpToken → Bool
lists_params texts t = is_open (mark_of texts t.text) && not t.spaced

abbrev pub definition_of : List (List ℕ) → Name → List PpToken → Result Macro Refusal
definition_of texts name [] = with_body name None (replacement_list texts [])
definition_of texts name (t ∷ rest) =
    if lists_params texts t then with_params texts name (parameters texts First [] t.place rest) else with_body name None (replacement_list texts (t ∷ rest))

-- the macro that a line defines, or the first refusal in it
abbrev pub definition : List (List ℕ) → List PpToken → Result Macro Refusal
definition texts [] = Err (refusal 11 nowhere)
definition texts (name ∷ rest) = if is_word name.kind then definition_of texts name.text rest else Err (refusal 11 name.place)

-- the refusal, or want of memory, which may come at any time
abbrev pub IsFault : {A : Type 0} → Result A Refusal → Halt → Type 0
IsFault result (Refused number place) = result ≡ Err (refusal number place)
IsFault result Memory = Unit {0}
