use Rattle.std.proofs.Common.{◌≡◌, [], length}
use Rattle.sb_macro.specs.Definition as spec
use Rattle.sb_macro.specs.declared.lines.Expected.TheVariants.{First}
use Rattle.sb_macro.proofs.lines.read_parameters.Given as goal

abbrev pub invariant-loop-token : goal.invariant-loop-token
invariant-loop-token l =
    spec.parameters l.names.texts l.expected l.params.items l.last l.rest ≡ spec.parameters l.names.texts First [] l.fn.begin l.fn.list

abbrev pub decreases-loop-token : goal.decreases-loop-token
decreases-loop-token l = length l.rest
