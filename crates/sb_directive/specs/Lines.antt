-- how the pieces of a file stand in lines: directives, and the text between them (C99 6.10)
use Rattle.std.specs.Prelude.{ℕ, suc, ◌-◌, length, Bool, true, false, ◌&&◌, ◌||◌, not, List, [], ◌∷◌, if◌then◌else◌, slice_get, codes, drop}
use Rattle.std.specs.List.{prefix_len}
use Rattle.std.specs.Str.{bytes_eq}
use Rattle.std.specs.Option.{option_map_or}
use Rattle.sb_base.specs.declared.refusals.Place.{Place}
use Rattle.sb_base.specs.declared.tokens.PpKind.{PpKind}
use Rattle.sb_base.specs.declared.tokens.PpKind.TheVariants as kind
use Rattle.sb_lex.specs.declared.piece.PpToken.{PpToken}
use Rattle.sb_directive.specs.declared.directive.Directive.{Directive}
use Rattle.sb_directive.specs.declared.directive.Directive.TheVariants.{Null, If, Ifdef, Ifndef, Elif, Else, Endif, Include, Define, Undef, Line, Error, Pragma, Unknown}

-- how a piece is spelled; a number that the table lacks spells nothing
abbrev pub spelling : List (List ℕ) → PpToken → List ℕ
spelling texts t = option_map_or (λ text. text) (slice_get texts t.text.0) []

abbrev pub is_spelled : List ℕ → List (List ℕ) → PpToken → Bool
is_spelled text texts t = bytes_eq (spelling texts t) text

abbrev pub is_word : PpToken → Bool
is_word t = is_word_kind t.kind
  where
    is_word_kind : PpKind → Bool
    is_word_kind kind.Word = true
    is_word_kind _ = false

-- a `#`, as a digraph too, that is the first piece of its line
abbrev pub opens_directive : List (List ℕ) → PpToken → Bool
opens_directive texts t = t.first && (is_spelled (codes "#") texts t || is_spelled (codes "%:") texts t)

-- how many pieces stand before the next directive
abbrev pub text_size : List (List ℕ) → List PpToken → ℕ
text_size texts ps = prefix_len (λ t. not (opens_directive texts t)) ps

-- how many pieces stand before the next line
abbrev pub rest_of_line : List PpToken → ℕ
rest_of_line ps = prefix_len (λ t. not t.first) ps

-- how many pieces the line has that begins a list
abbrev pub line_size : List PpToken → ℕ
line_size [] = 0
line_size (t ∷ ts) = suc (rest_of_line ts)

abbrev pub begins_directive : List (List ℕ) → List PpToken → Bool
begins_directive texts [] = false
begins_directive texts (t ∷ ts) = opens_directive texts t

-- how many pieces stand before the next line that is carried out by itself: all up to the next directive, or a directive's line
abbrev pub part_size : List (List ℕ) → List PpToken → ℕ
part_size texts ps = if begins_directive texts ps then line_size ps else text_size texts ps

-- the directive that a word names
abbrev pub directive_named : List ℕ → Directive
directive_named text =
    if bytes_eq text (codes "if") then If
    else (if bytes_eq text (codes "ifdef") then Ifdef
    else (if bytes_eq text (codes "ifndef") then Ifndef
    else (if bytes_eq text (codes "elif") then Elif
    else (if bytes_eq text (codes "else") then Else
    else (if bytes_eq text (codes "endif") then Endif
    else (if bytes_eq text (codes "include") then Include
    else (if bytes_eq text (codes "define") then Define
    else (if bytes_eq text (codes "undef") then Undef
    else (if bytes_eq text (codes "line") then Line
    else (if bytes_eq text (codes "error") then Error
    else (if bytes_eq text (codes "pragma") then Pragma
    else Unknown)))))))))))

-- the directive of a line, whose pieces begin with its `#`
abbrev pub directive_of : List (List ℕ) → List PpToken → Directive
directive_of texts (hash ∷ name ∷ rest) = directive_named (spelling texts name)
directive_of texts _ = Null

-- where a list ends: at its last piece; an empty one where the caller says
abbrev pub end_of : Place → List PpToken → Place
end_of at ps = option_map_or (λ t. t.place) (slice_get ps (length ps - 1)) at

-- where a list begins; an empty one where the caller says
abbrev pub begin_of : Place → List PpToken → Place
begin_of at [] = at
begin_of at (t ∷ ts) = t.place

-- the place of the word of a directive; of its `#`, where nothing stands behind it
abbrev pub place_of : List PpToken → Place
place_of line = begin_of (begin_of (record { file = 0; line = 0; col = 0 }) line) (drop 1 line)
