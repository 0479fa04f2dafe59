-- a row that is placed at the index where its coefficients stand
use Rattle.std.proofs.Common.{◌≡◌, ℕ, zero, suc, ◌<◌, Bool, true, List, [], ◌∷◌, ◌++◌, length, get_or, take, drop, refl, sym, ap, ◌∙◌, drop-cons, arith}
use Rattle.std.proofs.lemmas.List.{get_or_default}
use Rattle.std.specs.Prelude.{slice_set, if◌then◌else◌}
use Rattle.sb_term.specs.declared.row.Row.{Row}
use Rattle.sb_term.specs.Linear.{Linear}
use Rattle.sb_picture.specs.Pictures.{same_entries}
use Rattle.sb_picture.specs.Tidying.{tighter, placed_row, tightened}

-- a list set at an index, as what stands before it, the new item, and what stands behind it
set_parts : {A : Type 0} (xs : List A) (i : ℕ) (y : A) → i < length xs → slice_set xs i y ≡ take i xs ++ y ∷ drop (suc i) xs
set_parts [] i y h = absurd (omega arith)
set_parts (x ∷ xs) zero y h = refl
set_parts (x ∷ xs) (suc i) y h = ap (λ l. x ∷ l) (set_parts xs i y (omega arith))

pub placed_row-here : (rows : List Row) (t : Linear) (at : ℕ) (r : Row) → at < length rows → r ≡ get_or rows at r
    → same_entries r.term.entries t.entries ≡ true → tightened rows at t ≡ take at rows ++ placed_row (drop at rows) t
placed_row-here rows t at r h is same =
    let there : get_or rows at (record { term = t }) ≡ r = get_or_default rows at (record { term = t }) r h ∙ sym is in
    let front : drop at rows ≡ r ∷ drop (suc at) rows = drop-cons rows at r h ∙ ap (λ x. x ∷ drop (suc at) rows) (sym is) in
    let placed : placed_row (r ∷ drop (suc at) rows) t ≡ tighter r t ∷ drop (suc at) rows =
    ap (λ (b : Bool). if b then tighter r t ∷ drop (suc at) rows else r ∷ placed_row (drop (suc at) rows) t) same in
    set_parts rows at (tighter (get_or rows at (record { term = t })) t) h
    ∙ ap (λ x. take at rows ++ tighter x t ∷ drop (suc at) rows) there
    ∙ ap (λ l. take at rows ++ l) (sym (ap (λ l. placed_row l t) front ∙ placed))
