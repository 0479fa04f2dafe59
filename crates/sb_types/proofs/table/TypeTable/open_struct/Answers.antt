-- The table with the struct, of which nothing is known, is one.
use Rattle.std.proofs.Common.{List, ap, sym, None}
use Rattle.sb_core.specs.declared.types.Kind.TheVariants.{Struct}
use Rattle.sb_core.specs.declared.types.Member.{Member}
use Rattle.sb_typing.specs.Classes.{has_some}
use Rattle.sb_types.specs.Arrays.{array_in}
use Rattle.sb_types.specs.Table.{kinds_of}
use Rattle.sb_types.proofs.Added.{added, arrays_stay, few_more}
use Rattle.sb_types.proofs.Ordered.{ordered_more}
use Rattle.sb_types.proofs.Elements.{elements_more}
use Rattle.sb_types.proofs.table.TypeTable.open_struct.Goals as goal

pub returns-clause-table : goal.returns-clause-table
returns-clause-table c = record {
  types =
      rw (c.in_ok-t.ensures.kinds, c.in_ok-t.ensures.bases, c.in_ok-t.ensures.pointers)
      (added (kinds_of c.args.self.now) c.args.self.now.bases.items c.args.self.now.pointers.items c.requires.table.types (Struct c.args.tag c.new.result) None
      (λ b e. absurd (cc)) (sym (ap (λ (xs : List Member). has_some xs) c.new.ensures.items)) (λ t e. absurd (cc)));
  arrays =
      rw (c.in_ok-t.ensures.kinds, c.in_ok-t.ensures.arrays)
      (arrays_stay (kinds_of c.args.self.now) (Struct c.args.tag c.new.result) (array_in c.args.self.now.arrays) c.requires.table.arrays (λ t n e. absurd (cc)));
  few =
      rw c.in_ok-t.ensures.kinds
      (few_more (kinds_of c.args.self.now) (Struct c.args.tag c.new.result) c.in_ok-t.t.0 c.in_ok-t.ensures.gives c.in_ok-t.ensures.few);
  ordered = rw c.in_ok-t.ensures.kinds (ordered_more (kinds_of c.args.self.now) (Struct c.args.tag c.new.result) c.requires.table.ordered tt);
  elements = rw c.in_ok-t.ensures.kinds (elements_more (kinds_of c.args.self.now) (Struct c.args.tag c.new.result) c.requires.table.elements (λ t n e. absurd (cc)));
}
