use Rattle.std.proofs.Common.{◌≡◌, drop}
use Rattle.sb_judge.specs.Entry.{with_params}
use Rattle.sb_judge.proofs.entry.add_params.Given as goal

abbrev pub invariant-loop-param : goal.invariant-loop-param
invariant-loop-param l = with_params (drop l.param-index l.params) l.picture ≡ with_params l.fn.params l.fn.picture
