use Rattle.std.proofs.Common.{◌≡◌, ◌++◌, map, take}
use Rattle.sb_macro.specs.Replacement.{argument_token}
use Rattle.sb_macro.specs.Tokens.{toks}
use Rattle.sb_macro.proofs.replacing.add_argument.Given as goal

abbrev pub invariant-loop-marked : goal.invariant-loop-marked
invariant-loop-marked l =
    toks l.tokens.items ≡ toks l.initial.tokens.items ++ map (λ t. argument_token l.spot.place l.spot.hidden.now t.piece.spaced t) (toks (take l.marked-index l.others))
