-- the words of a command line
use Rattle.std.specs.Prelude.{ℕ, Bool, true, false, ◌&&◌, List, [], ◌∷◌, length, nat_eq, nat_le, Option, Some, None, if◌then◌else◌, codes}
use Rattle.std.specs.List.{list_all}
use Rattle.std.specs.Str.{bytes_eq}

-- a name of a file is not empty and does not begin with `-`
abbrev pub is_file_name : List ℕ → Bool
is_file_name [] = false
is_file_name (b ∷ bs) = if nat_eq b 45 then false else true

-- a set has 1 to 256 files
abbrev pub are_file_names : List (List ℕ) → Bool
are_file_names names = nat_le 1 (length names) && (nat_le (length names) 256 && list_all is_file_name names)

-- `check FILE...` is the one command
abbrev pub files_of : List ℕ → List (List ℕ) → Option (List (List ℕ))
files_of command names = if bytes_eq command (codes "check") && are_file_names names then Some names else None

abbrev pub files_of_words : List (List ℕ) → Option (List (List ℕ))
files_of_words [] = None
files_of_words (command ∷ names) = files_of command names
