use Rattle.std.proofs.Common.{take}
use Rattle.sb_prep.specs.Tokens.{NameBytes}
use Rattle.sb_prep.proofs.tokens.joined_bytes.Given as goal

abbrev pub invariant-loop-literal : goal.invariant-loop-literal
invariant-loop-literal l = NameBytes l.names.texts (take l.literal-index l.literals) l.bytes.items
