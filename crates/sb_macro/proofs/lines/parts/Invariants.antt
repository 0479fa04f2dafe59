use Rattle.std.proofs.Common.{◌≡◌, ◌++◌, map, take}
use Rattle.sb_macro.specs.Definition.{part_of}
use Rattle.sb_macro.proofs.lines.parts.Given as goal

abbrev pub invariant-loop-token : goal.invariant-loop-token
invariant-loop-token l = l.all.items ≡ l.initial.all.items ++ map (λ t. part_of t.spaced t) (take l.token-index l.others)
