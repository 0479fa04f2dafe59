use Rattle.std.proofs.Common.{arith}
use Rattle.sb_prep.specs.Tokens.NameBytes.{none}
use Rattle.sb_prep.proofs.Literals.{next_literal, bad_literal}
use Rattle.sb_prep.proofs.tokens.joined_bytes.Goals as goal

pub loop-literal-init : goal.loop-literal-init
loop-literal-init c = rw c.new-bytes.ensures.items none

pub returns-in_default-found : goal.returns-in_default-found
returns-in_default-found c =
    let nameless = rw (c.in_default-found.is, c.spelling.ensures.spelling) at c.in-Ok.ensures.literal in
    record { joined = bad_literal _ _ c.loop-literal.literal-index _ _ _ (omega arith) c.loop-literal.invariant nameless c.stop_at.ensures }

pub loop-literal-preserved : goal.loop-literal-preserved
loop-literal-preserved c =
    let named = rw (c.in-Some.is, c.spelling.ensures.spelling) at c.in-Ok.ensures.literal in
    rw (c.in-Ok-extend_from_slice.ensures.items, c.deref.ensures.value) (next_literal _ _ c.loop-literal.literal-index _ _ _ (omega arith) c.loop-literal.invariant named)
