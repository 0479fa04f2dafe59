-- The table with the pointer, and with the pointer beside its target, is one.
use Rattle.sb_core.specs.declared.types.Kind.TheVariants.{Pointer}
use Rattle.sb_types.specs.Arrays.{array_in}
use Rattle.sb_types.specs.Table.{kinds_of}
use Rattle.sb_types.proofs.Added.{pointer_added, absent_at, arrays_stay, few_more}
use Rattle.sb_types.proofs.Ordered.{ordered_more}
use Rattle.sb_types.proofs.Elements.{elements_more}
use Rattle.sb_types.proofs.table.TypeTable.pointer_to.Goals as goal

pub returns-clause-table : goal.returns-clause-table
returns-clause-table c = record {
  types =
      rw (c.in_ok-p.ensures.kinds, c.in_ok-p.ensures.bases, c.in_ok-p.ensures.pointers, c.scalar.ensures)
      (pointer_added (kinds_of c.args.self.now) c.args.self.now.bases.items c.args.self.now.pointers.items c.requires.table.types c.args.t c.in_ok-p.p
      c.requires.within c.in_ok-p.ensures.gives (absent_at c.index.result.now c.args.self.now.pointers.items c.args.t.0 c.index.ensures c.in_default.is));
  arrays =
      rw (c.in_ok-p.ensures.kinds, c.in_ok-p.ensures.arrays)
      (arrays_stay (kinds_of c.args.self.now) (Pointer c.args.t) (array_in c.args.self.now.arrays) c.requires.table.arrays (λ t n e. absurd (cc)));
  few =
      rw c.in_ok-p.ensures.kinds
      (few_more (kinds_of c.args.self.now) (Pointer c.args.t) c.in_ok-p.p.0 c.in_ok-p.ensures.gives c.in_ok-p.ensures.few);
  ordered = rw c.in_ok-p.ensures.kinds (ordered_more (kinds_of c.args.self.now) (Pointer c.args.t) c.requires.table.ordered c.requires.within);
  elements = rw c.in_ok-p.ensures.kinds (elements_more (kinds_of c.args.self.now) (Pointer c.args.t) c.requires.table.elements (λ t n e. absurd (cc)));
}
