-- None of the types before was taken.
use Rattle.std.proofs.Common.{◌≡◌, drop}
use Rattle.sb_typing.specs.Constants.{first_of_types}
use Rattle.sb_typing.proofs.constants.first_of_types.Given as goal

abbrev pub invariant-loop-t : goal.invariant-loop-t
invariant-loop-t l = first_of_types l.spelling l.value (drop l.t-index l.types) ≡ first_of_types l.spelling l.value l.types
