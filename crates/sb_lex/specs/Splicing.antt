-- the text of a file once its lines are spliced (C99 5.1.1.2, phases 1 and 2), each byte with its physical line and column
use Rattle.std.specs.Prelude.{◌≡◌, ℕ, ◌+◌, Bool, true, false, ◌&&◌, List, [], ◌∷◌, ◌++◌, nat_eq, if◌then◌else◌, map, take, drop}
use Rattle.std.specs.Str.{bytes_eq}
use Rattle.sb_lex.specs.declared.spot.Spot.{Spot}

-- a text begins with this byte
abbrev pub begins : ℕ → List Spot → Bool
begins b [] = false
begins b (x ∷ xs) = nat_eq x.byte b

-- each byte with its place: a line ends at its newline, a column counts a byte
abbrev pub placed : ℕ → ℕ → List ℕ → List Spot
placed line col [] = []
placed line col (b ∷ bs) = record { byte = b; line = line; col = col } ∷ placed (if nat_eq b 10 then line + 1 else line) (if nat_eq b 10 then 1 else col + 1) bs

-- a carriage return directly before a newline belongs to the end of the line
abbrev pub without_returns : List Spot → List Spot
without_returns [] = []
without_returns (x ∷ xs) = if nat_eq x.byte 13 && begins 10 xs then without_returns xs else x ∷ without_returns xs

-- a backslash directly before a newline joins two lines; `true`: the newline of a splice comes next
abbrev pub without_splices : Bool → List Spot → List Spot
without_splices joined [] = []
without_splices true (x ∷ xs) = without_splices false xs
without_splices false (x ∷ xs) = if nat_eq x.byte 92 && begins 10 xs then without_splices true xs else x ∷ without_splices false xs

-- the rest of a file from such a line and column on
abbrev pub spliced : ℕ → ℕ → List ℕ → List Spot
spliced line col bytes = without_splices false (without_returns (placed line col bytes))

-- the three bytes EF BB BF that may begin a file are no part of its text, and count as columns
abbrev pub has_mark : List ℕ → Bool
has_mark bytes = bytes_eq (take 3 bytes) (239 ∷ 187 ∷ 191 ∷ [])

-- the text of a file
abbrev pub text_of_file : List ℕ → List Spot
text_of_file bytes = if has_mark bytes then spliced 1 4 (drop 3 bytes) else spliced 1 1 bytes

abbrev pub bytes_of : List Spot → List ℕ
bytes_of xs = map (λ x. x.byte) xs

-- the bytes of a text do not depend on where it stands in its file
abbrev pub IsPlaceFree : Type 0
IsPlaceFree = (line col : ℕ) (bytes : List ℕ) → bytes_of (spliced line col bytes) ≡ bytes_of (spliced 1 1 bytes)

-- a splice joins what stands before it and what stands behind it, each as it is alone
abbrev pub JoinsLines : Type 0
JoinsLines = (line col : ℕ) (before behind : List ℕ) → bytes_of (spliced line col (before ++ 92 ∷ 10 ∷ behind)) ≡ bytes_of (spliced 1 1 before) ++ bytes_of (spliced 1 1 behind)
