use Rattle.std.proofs.Common.{◌≡◌, ◌++◌, drop}
use Rattle.sb_term.specs.AnswerOf.{answer_of}
use Rattle.sb_function.specs.Trees.{trees}
use Rattle.sb_judge.specs.Walks.{report}
use Rattle.sb_judge.proofs.judging.reports_of.Given as goal

abbrev pub invariant-loop-function : goal.invariant-loop-function
invariant-loop-function l =
    l.reports.items ++ report answer_of (trees (drop l.function-index l.functions)) ≡ report answer_of (trees l.functions)
