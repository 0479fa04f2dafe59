-- what a step of the elimination comes to, where the state is left as st
use Rattle.std.specs.Prelude.{ℕ, Bool, true, false, ◌&&◌, ◌==◌, nat_lt, length, slice_index, List, [], ◌∷◌, Option, Some, None, option_and_then, if◌then◌else◌}
use Rattle.sb_term.specs.declared.entry.Entry.{Entry}
use Rattle.sb_term.specs.declared.sym.Sym.{Sym}
use Rattle.sb_term.specs.Ratio.{Ratio, ratio_add}
use Rattle.sb_term.specs.Refutes.{product_of}
use Rattle.sb_term.specs.Elimination.{State, Progress, cheapest, going, proved, too_many_rows, too_many_digits}
use Rattle.sb_term.specs.declared.numbered.Numbered.{Numbered}
use Rattle.sb_elim.specs.declared.outcome.Outcome.{Outcome}
use Rattle.sb_elim.specs.declared.outcome.Outcome.TheVariants.{Going, Proved, TooManyRows, TooManyDigits}

abbrev pub progress : Outcome → State → Progress
progress Going st = going st
progress Proved st = proved st.steps
progress TooManyRows st = too_many_rows
progress TooManyDigits st = too_many_digits

abbrev pub has_entries : List Entry → Bool
has_entries [] = false
has_entries (e ∷ es) = true

-- the symbol that is eliminated next
abbrev pub next_of : List Numbered → List ℕ → Option ℕ
next_of rs [] = None
next_of rs (s ∷ ss) = Some (cheapest rs s ss)

-- whether the number s stands at a place of a list
abbrev pub stands_in : List ℕ → ℕ → ℕ → Bool
stands_in xs k s = nat_lt k (length xs) && (slice_index xs k == s)

-- a rational plus the product of an entry, unless it is that of symbol s
abbrev pub plus_other : List (Sym × Ratio) → ℕ → Ratio → Entry → Option Ratio
plus_other a s r e = if e.symbol == s then Some r else option_and_then (ratio_add r) (product_of a e)
