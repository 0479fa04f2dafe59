-- What a spelling means to macros (C99 6.4.6, 6.10.3).
use Rattle.std.specs.Prelude.{ℕ, List, Bool, ◌||◌, if◌then◌else◌, slice_get, codes}
use Rattle.std.specs.Str.{bytes_eq}
use Rattle.std.specs.Option.{option_map_or}
use Rattle.sb_base.specs.declared.interning.Name.{Name}
use Rattle.sb_macro.specs.declared.marks.Mark.{Mark}
use Rattle.sb_macro.specs.declared.marks.Mark.TheVariants.{Open, Close, Comma, Dots, Hash, Other}

-- `#` and `##`, also as digraphs
abbrev pub is_hash : List ℕ → Bool
is_hash text = bytes_eq text (codes "#") || bytes_eq text (codes "##") || bytes_eq text (codes "%:") || bytes_eq text (codes "%:%:")

abbrev pub mark_of_text : List ℕ → Mark
mark_of_text text =
    if bytes_eq text (codes "(") then Open else
    (if bytes_eq text (codes ")") then Close else
    (if bytes_eq text (codes ",") then Comma else
    (if bytes_eq text (codes "...") then Dots else
    (if is_hash text then Hash else Other))))

-- what the text of this number means; a number that the table lacks means nothing
abbrev pub mark_of : List (List ℕ) → Name → Mark
mark_of texts name = option_map_or mark_of_text (slice_get texts name.0) Other
