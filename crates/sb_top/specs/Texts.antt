-- the lines that are written
use Rattle.std.specs.Prelude.{ℕ, ◌+◌, List, [], ◌∷◌, ◌++◌, length, slice_get, nat_eq, Option, Some, None, if◌then◌else◌, codes}
use Rattle.std.specs.Fmt.{decimal, signed_decimal}
use Rattle.std.specs.Option.{option_map_or}
use Rattle.sb_base.specs.declared.refusals.Refusal.{Refusal}
use Rattle.sb_term.specs.declared.sym.Sym.{Sym}
use Rattle.sb_term.specs.declared.answer.Answer.{Answer}
use Rattle.sb_term.specs.declared.answer.Answer.TheVariants.{Proved, Refuted, LimitRows, LimitDigits}
use Rattle.sb_term.specs.Ratio.{Ratio}
use Rattle.sb_picture.specs.declared.picture.Part.{Part}
use Rattle.sb_picture.specs.declared.picture.Part.TheVariants.{Number, Present, Extent, Written}
use Rattle.sb_picture.specs.declared.picture.Label.{Label}
use Rattle.sb_store.specs.declared.warning.Warning.{Warning}
use Rattle.sb_store.specs.Reports.{number_of, text_of}

abbrev pub usage : List ℕ
usage = codes "usage: prefast COMMAND ARGUMENT...\n"

-- the name of a file, by its number in the table of files; a number that the table lacks names nothing
abbrev pub file_name : List (List ℕ) → ℕ → List ℕ
file_name files file = option_map_or (λ name. name) (slice_get files file) []

-- what each number refuses
abbrev pub refused_for : ℕ → List ℕ
refused_for number =
    if nat_eq number 1 then codes "comment not closed"
    else (if nat_eq number 2 then codes "literal not closed"
    else (if nat_eq number 3 then codes "bad byte"
    else (if nat_eq number 4 then codes "bad number"
    else (if nat_eq number 5 then codes "too many pieces in a file"
    else (if nat_eq number 11 then codes "bad definition"
    else (if nat_eq number 12 then codes "macro redefined"
    else (if nat_eq number 13 then codes "argument count"
    else (if nat_eq number 14 then codes "macro call not closed"
    else (if nat_eq number 15 then codes "outside the preprocessor profile"
    else (if nat_eq number 16 then codes "too many tokens"
    else (if nat_eq number 21 then codes "no such file"
    else (if nat_eq number 22 then codes "file too long"
    else (if nat_eq number 23 then codes "includes too deep"
    else (if nat_eq number 24 then codes "bad directive"
    else (if nat_eq number 25 then codes "conditionals not balanced"
    else (if nat_eq number 26 then codes "bad condition"
    else (if nat_eq number 27 then codes "error directive"
    else (if nat_eq number 28 then codes "too many names"
    else (if nat_eq number 31 then codes "unexpected token"
    else (if nat_eq number 32 then codes "too deep"
    else (if nat_eq number 35 then codes "bad annotation"
    else (if nat_eq number 36 then codes "unknown annotation"
    else (if nat_eq number 37 then codes "annotation place"
    else (if nat_eq number 38 then codes "too many parameters"
    else codes "outside the profile"))))))))))))))))))))))))

-- the features that are left out, from 1
abbrev pub left_out : ℕ → List ℕ
left_out feature =
    if nat_eq feature 1 then codes "floating type"
    else (if nat_eq feature 2 then codes "union"
    else (if nat_eq feature 3 then codes "bit field"
    else (if nat_eq feature 4 then codes "function pointer"
    else (if nat_eq feature 5 then codes "variable length array"
    else (if nat_eq feature 6 then codes "variable arguments"
    else (if nat_eq feature 7 then codes "volatile"
    else (if nat_eq feature 8 then codes "complex"
    else (if nat_eq feature 9 then codes "old definition"
    else (if nat_eq feature 10 then codes "backward goto"
    else (if nat_eq feature 11 then codes "goto into a block"
    else (if nat_eq feature 12 then codes "pointer cast"
    else (if nat_eq feature 13 then codes "pointer and number cast"
    else (if nat_eq feature 14 then codes "struct by value"
    else (if nat_eq feature 15 then codes "designated initialiser"
    else (if nat_eq feature 16 then codes "compound literal"
    else codes "not built yet")))))))))))))))

-- what stands behind the text of a refusal: for 33 the feature
abbrev pub detail : Refusal → List ℕ
detail r = if nat_eq r.number 33 then codes ": " ++ left_out r.feature else []

-- FILE:LINE:COL: refused N: TEXT
abbrev pub refusal : List (List ℕ) → Refusal → List ℕ
refusal files r =
    file_name files r.place.file ++ (codes ":" ++ (decimal r.place.line ++ (codes ":" ++ (decimal r.place.col ++ (codes ": refused " ++ (decimal r.number ++ (codes ": " ++ (refused_for r.number ++ (detail r ++ codes "\n")))))))))

-- the spelling of a symbol's label; `v` where it has none
abbrev pub ending_of : Part → List ℕ
ending_of Number = []
ending_of Present = codes ".present"
ending_of Extent = codes ".extent"
ending_of Written = codes ".written"

abbrev pub spelling : Option (List ℕ) → Part → List ℕ
spelling None part = codes "v"
spelling (Some name) part = name ++ ending_of part

abbrev pub label : List (List ℕ) → Option Label → List ℕ
label texts None = codes "v"
label texts (Some l) = spelling (slice_get texts l.name.0) l.part

-- a whole number, or A/B in lowest terms
abbrev pub ratio : Ratio → List ℕ
ratio r = if nat_eq r.den 1 then signed_decimal r.num else signed_decimal r.num ++ (codes "/" ++ decimal r.den)

-- LABEL.NUMBER=VALUE
abbrev pub assigned : List (List ℕ) → List Label → Sym × Ratio → List ℕ
assigned texts labels x = label texts (slice_get labels x.0.0) ++ (codes "." ++ (decimal x.0.0 ++ (codes "=" ++ ratio x.1)))

-- joined by one space; the empty assignment is `-`
abbrev pub assignment_rest : List (List ℕ) → List Label → List (Sym × Ratio) → List ℕ
assignment_rest texts labels [] = []
assignment_rest texts labels (x ∷ xs) = codes " " ++ (assigned texts labels x ++ assignment_rest texts labels xs)

abbrev pub assignment : List (List ℕ) → List Label → List (Sym × Ratio) → List ℕ
assignment texts labels [] = codes "-"
assignment texts labels (x ∷ xs) = assigned texts labels x ++ assignment_rest texts labels xs

-- the second line of a warning
abbrev pub reason : List (List ℕ) → List Label → Answer → List ℕ
reason texts labels (Proved steps) = []
reason texts labels (Refuted a) = codes "  refuted by " ++ (assignment texts labels a.list ++ codes "\n")
reason texts labels LimitRows = codes "  limit: rows\n"
reason texts labels LimitDigits = codes "  limit: digits\n"

-- FILE:LINE:COL: warning N: TEXT, and why; `files` is the table of files, `texts` that of names
abbrev pub warning : List (List ℕ) → List (List ℕ) → Warning → List ℕ
warning files texts w =
    file_name files w.place.file ++ (codes ":" ++ (decimal w.place.line ++ (codes ":" ++ (decimal w.place.col ++ (codes ": warning " ++ (decimal (number_of w.need) ++ (codes ": " ++ (text_of w.need ++ (codes "\n" ++ reason texts w.labels w.answer)))))))))

abbrev pub warnings : List (List ℕ) → List (List ℕ) → List Warning → List ℕ
warnings files texts [] = []
warnings files texts (w ∷ ws) = warning files texts w ++ warnings files texts ws

abbrev pub functions : List (List ℕ) → List (List ℕ) → List (List Warning) → List ℕ
functions files texts [] = []
functions files texts (f ∷ fs) = warnings files texts f ++ functions files texts fs

abbrev pub count_of : List (List Warning) → ℕ
count_of [] = 0
count_of (f ∷ fs) = length f + count_of fs

-- W warnings in F functions
abbrev pub last_line : ℕ → ℕ → List ℕ
last_line warnings functions = decimal warnings ++ (codes " warnings in " ++ (decimal functions ++ codes " functions\n"))

abbrev pub report_text : List (List ℕ) → List (List ℕ) → List (List Warning) → List ℕ
report_text files texts reports = functions files texts reports ++ last_line (count_of reports) (length reports)
