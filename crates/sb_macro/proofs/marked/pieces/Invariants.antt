use Rattle.std.proofs.Common.{◌≡◌, map, take}
use Rattle.sb_macro.specs.Tokens.{toks}
use Rattle.sb_macro.proofs.marked.pieces.Given as goal

abbrev pub invariant-loop-marked : goal.invariant-loop-marked
invariant-loop-marked l = l.tokens.items ≡ map (λ t. t.piece) (toks (take l.marked-index l.list))
