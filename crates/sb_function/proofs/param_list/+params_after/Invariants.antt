use Rattle.std.proofs.Common.{◌+◌, ◌*◌}
use Rattle.sb_function.proofs.param_list.+params_after.Given as goal

abbrev pub decreases-params_after : goal.decreases-params_after
decreases-params_after l = 2 * l.room

abbrev pub decreases-params_behind : goal.decreases-params_behind
decreases-params_behind l = 2 * l.room + 1
