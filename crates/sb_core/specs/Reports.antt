-- What a report may say: the numbers of warnings and notes, and what stands beside a query that is not proved.
use Rattle.std.specs.Prelude.{◌≡◌, ℕ, List, [], ◌∷◌, map}
use Rattle.std.specs.List.{All, Contains}
use Rattle.sb_term.specs.declared.answer.Answer.{Answer}
use Rattle.sb_term.specs.declared.answer.Answer.TheVariants.{Proved, Refuted, LimitRows, LimitDigits}
use Rattle.sb_term.specs.declared.query.Query.{Query}
use Rattle.sb_term.specs.declared.sym.Sym.{Sym}
use Rattle.sb_term.specs.Refutes.{symbols_of}
use Rattle.sb_core.specs.declared.report.Label.{Label}
use Rattle.sb_core.specs.declared.report.Warning.{Warning}
use Rattle.sb_core.specs.declared.report.Noted.{Noted}
use Rattle.sb_core.specs.declared.report.FunctionReport.{FunctionReport}

-- the numbers of accesses, of calls, of exits, and of an object that has ended
abbrev pub warning_numbers : List ℕ
warning_numbers =
    101 ∷ 102 ∷ 103 ∷ 104 ∷ 105 ∷ 106
    ∷ 111 ∷ 112 ∷ 113 ∷ 114 ∷ 115 ∷ 116 ∷ 117 ∷ 118
    ∷ 121 ∷ 122 ∷ 123 ∷ 124 ∷ 127 ∷ 128
    ∷ 130 ∷ []

-- an entry that cannot hold, and a call behind which nothing can follow
abbrev pub note_numbers : List ℕ
note_numbers = 301 ∷ 302 ∷ []

abbrev pub HasLabel : List Label → Sym → Type 0
HasLabel labels s = (text : List ℕ) × Contains labels (record { sym = s; text = text })

-- the answer to a query that is not proved; where it is refuted, each symbol of the query has a value, by rising numbers,
-- and a label
abbrev pub IsOpen : Query → List Label → Answer → Type 0
IsOpen q labels (Proved steps) = ⊥
IsOpen q labels (Refuted a) = (map (λ x. x.0.0) a.list ≡ symbols_of q) × All (λ x. HasLabel labels x.0) a.list
IsOpen q labels LimitRows = Unit {0}
IsOpen q labels LimitDigits = Unit {0}

pub record IsWarning (w : Warning) : Type 0 where
  pub number : Contains warning_numbers w.number
  pub answer : IsOpen w.query w.labels w.answer

abbrev pub IsNoted : Noted → Type 0
IsNoted n = Contains note_numbers n.number

pub record IsReport (r : FunctionReport) : Type 0 where
  pub warnings : All IsWarning r.warnings
  pub notes : All IsNoted r.notes
