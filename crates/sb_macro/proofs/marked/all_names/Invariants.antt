use Rattle.std.proofs.Common.{◌≡◌, take}
use Rattle.sb_macro.specs.Tokens.{all_names}
use Rattle.sb_macro.proofs.marked.all_names.Given as goal

abbrev pub invariant-loop-name : goal.invariant-loop-name
invariant-loop-name l = l.all.items ≡ all_names l.names (take l.name-index l.more)
