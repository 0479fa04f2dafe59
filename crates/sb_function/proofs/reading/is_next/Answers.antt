use Rattle.std.proofs.Common.{◌≡◌, ◌↔◌, IsTrue, subst}
use Rattle.sb_function.proofs.Steps.Marks.{next_test}
use Rattle.sb_function.proofs.reading.is_next.Goals as goal

pub returns : goal.returns
returns c = record { next = next_test c.args.mark c.args.pieces.now c.is_same.result c.requires.bare c.requires.some (subst (λ z. IsTrue c.is_same.result ↔ (z ≡ c.args.mark)) c.peek.ensures.lexeme c.is_same.ensures.same) }
