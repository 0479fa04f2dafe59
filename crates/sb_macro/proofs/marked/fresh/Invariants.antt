use Rattle.std.proofs.Common.{◌≡◌, take}
use Rattle.sb_macro.specs.Tokens.{toks, fresh}
use Rattle.sb_macro.proofs.marked.fresh.Given as goal

abbrev pub invariant-loop-token : goal.invariant-loop-token
invariant-loop-token l = toks l.tokens.items ≡ fresh (take l.token-index l.list)
