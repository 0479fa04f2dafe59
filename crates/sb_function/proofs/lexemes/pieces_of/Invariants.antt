use Rattle.std.proofs.Common.{◌≡◌, map, take}
use Rattle.sb_function.specs.Lexemes.{piece_of}
use Rattle.sb_function.proofs.lexemes.pieces_of.Given as goal

abbrev pub invariant-loop-token : goal.invariant-loop-token
invariant-loop-token l = l.pieces.items ≡ map (piece_of l.names.texts) (take l.token-index l.tokens)
