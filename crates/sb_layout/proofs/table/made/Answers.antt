use Rattle.sb_layout.proofs.Knowing.{whole_small}
use Rattle.sb_layout.proofs.table.made.Goals as goal

pub spots_in-requires-clause-whole : goal.spots_in-requires-clause-whole
spots_in-requires-clause-whole c =
    rw (c.deref-2.ensures.value, c.in_ok-known.ensures.gives)
    (whole_small c.args.types.now c.requires.founded (rw c.in_ok-known.ensures.gives at c.in_ok-known.ensures.small))
