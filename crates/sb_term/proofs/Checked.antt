-- the rows that steps form, by their numbers
use Rattle.std.proofs.Common.{◌≡◌, ℕ, ◌<◌, List, [], ◌∷◌, ◌++◌, length, pos, sym, ◌∙◌}
use Rattle.std.proofs.lemmas.List.{get_or_append_left}
use Rattle.std.proofs.lemmas.Option.{unwrap_or-slice_get}
use Rattle.std.proofs.Math.Seq.{get_or-append_seam}
use Rattle.sb_term.specs.Linear.{Linear, constant}
use Rattle.sb_term.specs.Steps.{row_at}

-- the row of a number stays where rows are added, and the last row is the one added
pub row_at-more : (rows : List Linear) (t : Linear) (n : ℕ) → n < length rows → row_at (rows ++ t ∷ []) n ≡ row_at rows n
row_at-more rows t n h =
    unwrap_or-slice_get (rows ++ t ∷ []) n (constant (pos 0)) ∙ get_or_append_left rows (t ∷ []) (constant (pos 0)) n h
    ∙ sym (unwrap_or-slice_get rows n (constant (pos 0)))

pub row_at-last : (rows : List Linear) (t : Linear) → row_at (rows ++ t ∷ []) (length rows) ≡ t
row_at-last rows t =
    unwrap_or-slice_get (rows ++ t ∷ []) (length rows) (constant (pos 0)) ∙ get_or-append_seam rows t [] (constant (pos 0))
