-- the file that an `#include` names (C99 6.10.2), and the four headers that are built in
use Rattle.std.specs.Prelude.{ℕ, ◌-◌, Bool, true, false, List, [], ◌∷◌, ◌++◌, Option, Some, None, if◌then◌else◌, length, take, drop, nat_eq, codes}
use Rattle.std.specs.Str.{bytes_eq}
use Rattle.sb_base.specs.declared.refusals.Place.{Place}
use Rattle.sb_base.specs.declared.tokens.PpKind.{PpKind}
use Rattle.sb_base.specs.declared.tokens.PpKind.TheVariants as kind
use Rattle.sb_lex.specs.declared.piece.PpToken.{PpToken}
use Rattle.sb_directive.specs.Lines.{spelling, is_spelled}

-- a header between `<` and `>`, or between quotes
pub data Header : Type 0 where
  Angle : List ℕ → Header
  Quote : List ℕ → Header

abbrev pub is_header : PpToken → Bool
is_header t = is_header_kind t.kind
  where
    is_header_kind : PpKind → Bool
    is_header_kind kind.Header = true
    is_header_kind _ = false

-- a spelling without its first and its last byte
abbrev pub inside : List ℕ → List ℕ
inside text = drop 1 (take (length text - 1) text)

-- how the pieces of a line begin, once macros are replaced
pub data Beginning : Type 0 where
  -- with a header, which they name, at the place of its first piece: `"a.h" x` at the literal, `<a.h>` at `<`
  Names : Header → Place → Beginning
  -- as no header does, which is seen at this piece: `x` at it, `<>` at `>`
  Bad : Place → Beginning
  -- as a header does, but they end before it does: `<x.h`
  Ends : Beginning

-- by the name of a header that begins at `at`, and whose last piece stands at `closing`: `""` is bad at the literal, `<>` at `>`
abbrev pub named : (List ℕ → Header) → (at closing : Place) → List ℕ → Beginning
named header at closing [] = Bad closing
named header at closing (b ∷ bs) = Names (header (b ∷ bs)) at

-- a header name as it stands, by its first byte: `<` of `<a.h>`, a quote of `"a.h"`; no piece has no byte
abbrev pub header_spelled : Place → List ℕ → Beginning
header_spelled at [] = Bad at
header_spelled at (b ∷ bs) = if nat_eq b 60 then named Angle at at (inside (b ∷ bs)) else named Quote at at (inside (b ∷ bs))

-- the spellings up to `>`, with one space where white space stood between, and the place of the `>`: of `a .h >` they are ` a .h `
-- where white space stands before `a`
abbrev pub with_space : Bool → List ℕ → List ℕ
with_space spaced text = if spaced then 32 ∷ text else text

abbrev pub before_text : List ℕ → Option (List ℕ × Place) → Option (List ℕ × Place)
before_text text None = None
before_text text (Some more) = Some (text ++ more.0, more.1)

abbrev pub up_to_angle : List (List ℕ) → List PpToken → Option (List ℕ × Place)
up_to_angle texts [] = None
up_to_angle texts (t ∷ ts) =
    if is_spelled (codes ">") texts t then Some (with_space t.spaced [], t.place) else before_text (with_space t.spaced (spelling texts t)) (up_to_angle texts ts)

-- behind a `<` that stands at `at`: `x.h` ends too early, `x.h>` names a header
abbrev pub angle_of : Place → Option (List ℕ × Place) → Beginning
angle_of at None = Ends
angle_of at (Some found) = named Angle at found.1 found.0

-- by the first piece: a header name `<a.h>`, a string literal `"a.h"`, or `<`; `>` is bad, and so is `x`. What stands behind the header is passed over
abbrev pub beginning_by : PpKind → List (List ℕ) → PpToken → List PpToken → Beginning
beginning_by kind.Header texts t ts = header_spelled t.place (spelling texts t)
beginning_by kind.Text texts t ts = named Quote t.place t.place (inside (spelling texts t))
beginning_by kind.Punct texts t ts = if is_spelled (codes "<") texts t then angle_of t.place (up_to_angle texts ts) else Bad t.place
beginning_by _ texts t ts = Bad t.place

-- where macros leave nothing, they end too early
abbrev pub beginning : List (List ℕ) → List PpToken → Beginning
beginning texts [] = Ends
beginning texts (t ∷ ts) = beginning_by t.kind texts t ts

abbrev pub line : List ℕ → List ℕ
line text = text ++ (10 ∷ [])

abbrev pub sal_text : List ℕ
sal_text = line (codes "#pragma once")

abbrev pub stddef_text : List ℕ
stddef_text = line (codes "#pragma once") ++ line (codes "typedef unsigned long long size_t;") ++ line (codes "#define NULL ((void *)0)")

abbrev pub string_text : List ℕ
string_text =
    line (codes "#pragma once") ++ line (codes "#include <stddef.h>")
    ++ line (codes "void *memcpy(_Out_writes_bytes_all_(n) void *d, _In_reads_bytes_(n) const void *s, size_t n);")
    ++ line (codes "void *memset(_Out_writes_bytes_all_(n) void *d, int c, size_t n);")
    ++ line (codes "int memcmp(_In_reads_bytes_(n) const void *a, _In_reads_bytes_(n) const void *b, size_t n);")
    ++ line (codes "size_t strlen(_In_z_ const char *s);")
    ++ line (codes "int strcmp(_In_z_ const char *a, _In_z_ const char *b);")

abbrev pub stdlib_text : List ℕ
stdlib_text =
    line (codes "#pragma once") ++ line (codes "#include <stddef.h>")
    ++ line (codes "_Ret_writes_bytes_maybenull_(n) __drv_allocatesMem(Mem) void *malloc(size_t n);")

-- the text of a header that is built in
abbrev pub built_in : List ℕ → Option (List ℕ)
built_in name =
    if bytes_eq name (codes "sal.h") then Some sal_text
    else (if bytes_eq name (codes "stddef.h") then Some stddef_text
    else (if bytes_eq name (codes "string.h") then Some string_text
    else (if bytes_eq name (codes "stdlib.h") then Some stdlib_text
    else None)))

-- where the text of a header comes from: it is built in, and its name as a file stands in `<` and `>`, or it is a file of the library
pub data Source : Type 0 where
  BuiltIn : (name text : List ℕ) → Source
  File : List ℕ → Source

abbrev pub source_by : List ℕ → Option (List ℕ) → Source
source_by name None = File name
source_by name (Some text) = BuiltIn ((60 ∷ name) ++ (62 ∷ [])) text

abbrev pub source_of : Header → Source
source_of (Angle name) = source_by name (built_in name)
source_of (Quote name) = File name

abbrev pub file_name : Source → List ℕ
file_name (BuiltIn name text) = name
file_name (File name) = name
