use Rattle.std.proofs.Common.{◌≡◌, drop}
use Rattle.sb_function.specs.Files.{function_names}
use Rattle.sb_function.specs.Grammar.{is_among}
use Rattle.sb_function.specs.Trees.{trees}
use Rattle.sb_function.proofs.files.is_function.Given as goal

abbrev pub invariant-loop-other : goal.invariant-loop-other
invariant-loop-other l = is_among l.fn.name (function_names (trees l.fn.functions)) ≡ is_among l.fn.name (function_names (trees (drop l.other-index l.fn.functions)))
