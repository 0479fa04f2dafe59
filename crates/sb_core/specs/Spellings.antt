-- The spellings of annotations, as positions in their table.
use Rattle.std.specs.Prelude.{◌≡◌, ◌↔◌, ℕ, List, Option, Some, slice_get}
use Rattle.std.specs.List.{position}
use Rattle.std.specs.Option.{option_map}
use Rattle.std.specs.Str.{bytes_eq}
use Rattle.sb_core.specs.declared.spelling.TheConstants.{SPELLINGS}

-- where a text stands in the table
abbrev pub position_of : List ℕ → Option ℕ
position_of text = position (λ s. bytes_eq s.now text) SPELLINGS

-- the text of a position
abbrev pub spelling_at : ℕ → Option (List ℕ)
spelling_at k = option_map (λ s. s.now) (slice_get SPELLINGS k)

-- a spelling has one position, which is found, and what has a position is spelled so
abbrev pub SpelledOnce : Type 0
SpelledOnce = (text : List ℕ) (k : ℕ) → (position_of text ≡ Some k) ↔ (spelling_at k ≡ Some text)
