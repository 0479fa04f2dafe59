use Rattle.std.proofs.Common.{◌≡◌, ◌++◌, drop}
use Rattle.sb_macro.specs.Arguments.{needed_arguments}
use Rattle.sb_macro.specs.Tokens.{lists}
use Rattle.sb_macro.proofs.arguments.needed_arguments.Given as goal

abbrev pub invariant-loop-param : goal.invariant-loop-param
invariant-loop-param l = lists l.kept.items ++ needed_arguments l.body (drop l.param-index l.params) (lists l.args.items) ≡ needed_arguments l.body l.params (lists l.fn.args.items)
