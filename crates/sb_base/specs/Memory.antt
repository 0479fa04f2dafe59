-- A library and a sink in memory: what they hold, and at which calls they fail.
use Rattle.std.specs.Prelude.{ℕ, Bool, Vec, List, [], ◌∷◌, Option, Some, None, if◌then◌else◌, nat_eq, map}
use Rattle.std.specs.declared.alloc.Global.{Global}
use Rattle.std.specs.List.{list_any}
use Rattle.std.specs.Str.{bytes_eq}
use Rattle.sb_base.specs.Outside.{counted}

-- a library in memory: its files as names and contents, the numbers of the calls that fail, how many calls there
-- were, and how many of those failed
pub record MemFiles : Type 0 where
  pub files : List (List ℕ × List ℕ)
  pub failing : List ℕ
  pub calls : ℕ
  pub faults : ℕ

-- a sink in memory: the bytes written, how many more fit with no memory taken, the numbers of the calls that fail,
-- how many calls there were, and how many of those failed
pub record MemBytes : Type 0 where
  pub content : List ℕ
  pub room : ℕ
  pub failing : List ℕ
  pub calls : ℕ
  pub faults : ℕ

-- the names and the contents as lists of bytes
abbrev pub contents : List (Vec ℕ Global × Vec ℕ Global) → List (List ℕ × List ℕ)
contents = map (λ file. (file.0.items, file.1.items))

-- the content of the first file of that name
abbrev pub held_in : List (List ℕ × List ℕ) → List ℕ → Option (List ℕ)
held_in [] name = None
held_in (file ∷ files) name = if bytes_eq file.0 name then Some file.1 else held_in files name

-- whether the call of that number is one of those that fail
abbrev pub fails_at : List ℕ → ℕ → Bool
fails_at failing call = list_any (λ number. nat_eq number call) failing

-- the count of failures after the call of that number
abbrev pub faults_after : List ℕ → ℕ → ℕ → ℕ
faults_after failing call faults = if fails_at failing call then counted faults else faults

-- a library once it has been asked: its files and the calls that fail stay, and the call is counted
abbrev pub after_fetch : MemFiles → MemFiles
after_fetch library = record {
  files = library.files;
  failing = library.failing;
  calls = counted library.calls;
  faults = faults_after library.failing library.calls library.faults;
}
