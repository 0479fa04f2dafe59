use Rattle.sb_core.specs.Layout.{known_of}
use Rattle.sb_layout.proofs.Fixed.{layout_is_fixed}
use Rattle.sb_layout.proofs.Knowing.{small_bases}
use Rattle.sb_layout.proofs.table.layout.Goals as goal

pub returns-in-Ok-clause-fixed : goal.returns-in-Ok-clause-fixed
returns-in-Ok-clause-fixed c =
    rw (c.in-Ok.ensures.gives, c.deref.ensures.value) (layout_is_fixed c.args.types.now.list.items c.requires.founded (rw c.deref.ensures.value at c.in-Ok.ensures.known))

pub returns-in-Ok-clause-small : goal.returns-in-Ok-clause-small
returns-in-Ok-clause-small c =
    rw (c.in-Ok.ensures.gives, c.deref.ensures.value) (small_bases (known_of c.args.types.now.list.items) (rw c.deref.ensures.value at c.in-Ok.ensures.known))
