-- A table of names: the texts in order of first use. The number of a text is its place in that order.
use Rattle.std.specs.Prelude.{◌≡◌, ℕ, ◌<◌, ◌≤◌, ◌^◌, Bool, List, [], ◌∷◌, ◌++◌, Some, if◌then◌else◌, length, slice_get}
use Rattle.std.specs.List.{list_any}
use Rattle.std.specs.Str.{bytes_eq}

-- the texts, and how many there may be
pub record NameTable : Type 0 where
  pub texts : List (List ℕ)
  pub limit : ℕ

-- whether the text is one of these
abbrev pub holds_text : List (List ℕ) → List ℕ → Bool
holds_text texts text = list_any (bytes_eq text) texts

-- the texts once this one has a number: it goes last if it is new
abbrev pub with_text : List (List ℕ) → List ℕ → List (List ℕ)
with_text texts text = if holds_text texts text then texts else texts ++ text ∷ []

-- no text has two numbers
abbrev pub IsDistinct : List (List ℕ) → Type 0
IsDistinct texts = (i j : ℕ) (text : List ℕ) → slice_get texts i ≡ Some text → slice_get texts j ≡ Some text → i ≡ j

-- what is true of each table: it keeps its limit, a number fits 32 bits, and no text has two numbers
pub record IsTable (texts : List (List ℕ)) (limit : ℕ) : Type 0 where
  pub within : length texts ≤ limit
  pub fits : limit < 2 ^ 32
  pub distinct : IsDistinct texts
