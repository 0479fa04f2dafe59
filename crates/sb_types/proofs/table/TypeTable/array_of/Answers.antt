-- The table with the array, which is found from now on, is one.
use Rattle.std.proofs.Common.{sym, ◌∙◌}
use Rattle.sb_core.specs.declared.types.Kind.TheVariants.{Array}
use Rattle.sb_types.specs.Arrays.{array_in}
use Rattle.sb_types.specs.Table.{kinds_of}
use Rattle.sb_types.proofs.Added.{added, array_added, few_more, complete_within}
use Rattle.sb_types.proofs.Ordered.{ordered_more}
use Rattle.sb_types.proofs.Elements.{elements_more, element_complete}
use Rattle.sb_types.proofs.table.TypeTable.array_of.Goals as goal

pub returns-clause-table : goal.returns-clause-table
returns-clause-table c = record {
  types =
      rw (c.in_ok-t.ensures.kinds, c.in_ok-t.ensures.bases, c.in_ok-t.ensures.pointers)
      (added (kinds_of c.args.self.now) c.args.self.now.bases.items c.args.self.now.pointers.items c.requires.table.types (Array c.args.of c.args.count)
      c.in_ok-base.base c.in_ok-base.ensures.laid c.in_ok-base.ensures.complete (λ t e. absurd (cc)));
  arrays =
      rw c.in_ok-t.ensures.kinds
      (array_added (kinds_of c.args.self.now) (array_in c.push.new.self.arrays) (array_in c.insert.new.self) c.args.of c.in_ok-t.t c.args.count
      (rw c.in_ok-t.ensures.arrays c.requires.table.arrays) c.in_ok-insert.ensures.gives c.in_ok-t.ensures.gives
      (rw c.in_ok-t.ensures.arrays (sym c.get.ensures ∙ c.in_default.is)));
  few =
      rw c.in_ok-t.ensures.kinds
      (few_more (kinds_of c.args.self.now) (Array c.args.of c.args.count) c.in_ok-t.t.0 c.in_ok-t.ensures.gives c.in_ok-t.ensures.few);
  ordered =
      rw c.in_ok-t.ensures.kinds
      (ordered_more (kinds_of c.args.self.now) (Array c.args.of c.args.count) c.requires.table.ordered
      (complete_within (kinds_of c.args.self.now) c.args.of c.requires.element));
  elements =
      rw c.in_ok-t.ensures.kinds
      (elements_more (kinds_of c.args.self.now) (Array c.args.of c.args.count) c.requires.table.elements
      (element_complete (kinds_of c.args.self.now) c.args.of c.args.count c.requires.element));
}
