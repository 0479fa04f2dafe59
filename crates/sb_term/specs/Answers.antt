-- what an answer owes its query
use Rattle.sb_term.specs.Rows.{Follows}
use Rattle.sb_term.specs.Steps.{Proves, HaveSymbols}
use Rattle.sb_term.specs.Refutes.{Refutes}
use Rattle.sb_term.specs.declared.query.Query.{Query}
use Rattle.sb_term.specs.declared.answer.Answer.{Answer}
use Rattle.sb_term.specs.declared.answer.Answer.TheVariants.{Proved, Refuted, LimitRows, LimitDigits}

-- a proved query follows, and its steps prove it where each row has a symbol; a refuted one is refuted by its assignment
abbrev pub IsLawful : Query → Answer → Type 0
IsLawful q (Proved steps) = Follows q × (HaveSymbols q → Proves q steps.list)
IsLawful q (Refuted a) = Refutes q a.list
IsLawful q LimitRows = Unit {0}
IsLawful q LimitDigits = Unit {0}
