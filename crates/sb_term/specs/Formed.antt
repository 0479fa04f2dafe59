-- what a call that forms a term owes
use Rattle.std.specs.Prelude.{◌≡◌, true, false, Result, Ok, Err}
use Rattle.sb_term.specs.Linear.{Linear, is_within}
use Rattle.sb_term.specs.declared.fault.TermFault.{TermFault}
use Rattle.sb_term.specs.declared.fault.TermFault.TheVariants.{TooWide, Memory}

-- the term itself, which is within the limits, or TooWide, where it is not; want of memory is free
abbrev pub IsFormed : Linear → Result Linear TermFault → Type 0
IsFormed t (Ok u) = (u ≡ t) × (is_within t ≡ true)
IsFormed t (Err TooWide) = is_within t ≡ false
IsFormed t (Err Memory) = Unit {0}
