use Rattle.std.proofs.Common.{arith, ◌∙◌, sym}
use Rattle.sb_layout.proofs.Knowing.{if_big, too_big_of, with_base}
use Rattle.sb_layout.proofs.order.visit.Goals as goal

pub returns-in-Err-clause-big : goal.returns-in-Err-clause-big
returns-in-Err-clause-big c =
    if_big (λ big. too_big_of c.args.types.now c.requires.founded c.args.known.now.items c.requires.part c.args.t c.index-types-t.result (omega arith) c.index-types-t.is big)
    c.in-Err.fault (rw c.deref.ensures.value at c.in-Err.ensures.big)

pub returns-in-Some-clause-part : goal.returns-in-Some-clause-part
returns-in-Some-clause-part c =
    with_base c.args.types.now c.requires.founded c.args.known.now.items c.requires.part c.args.t c.index-types-t.result c.in-Some.b (omega arith) c.index-types-t.is
    (sym (rw c.deref.ensures.value at c.in-Ok.ensures.gives) ∙ c.in-Some.is) (rw c.in-Some.is at c.in-Ok.ensures.small)
