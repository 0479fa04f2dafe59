-- The table with the struct completed is one.
use Rattle.std.proofs.Common.{◌≡◌, is_some, Option, sym, ap, ◌∙◌, refl}
use Rattle.sb_core.specs.declared.layout.Base.{Base}
use Rattle.sb_core.specs.declared.types.Kind.TheVariants.{Struct}
use Rattle.sb_core.specs.Layout.{base_of}
use Rattle.sb_types.specs.Arrays.{array_in}
use Rattle.sb_types.specs.Table.{kinds_of}
use Rattle.sb_types.proofs.Completed.{all_small, struct_known, got_set, got_other, completed, arrays_completed, opened_by, opened_within, few_still}
use Rattle.sb_types.proofs.Ordered.{ordered_set}
use Rattle.sb_types.proofs.Elements.{elements_set}
use Rattle.sb_types.proofs.table.TypeTable.complete.Goals as goal

pub base_of-requires : goal.base_of-requires
base_of-requires c = record {
  small = rw c.deref.ensures.value (all_small (kinds_of c.args.self.now) c.args.self.now.bases.items c.args.self.now.pointers.items c.requires.table.types);
}

pub put-requires : goal.put-requires
put-requires c = record {
  within = opened_within (kinds_of c.args.self.now) c.args.t.0 (opened_by _ c.args.tag c.requires.«open»);
  beside = c.requires.table.types.bases_beside;
}

pub returns-clause-gives : goal.returns-clause-gives
returns-clause-gives c =
    let opened = opened_by _ c.args.tag c.requires.«open» in
    rw (c.put.ensures.kinds, got_set (kinds_of c.args.self.now) (Struct c.args.tag c.args.members) opened.kind_there c.args.t.0 opened.is) (refl, refl)

pub returns-clause-others : goal.returns-clause-others
returns-clause-others c = rw c.put.ensures.kinds (λ u apart. got_other (kinds_of c.args.self.now) (Struct c.args.tag c.args.members) c.args.t.0 u apart)

pub returns-clause-table : goal.returns-clause-table
returns-clause-table c =
    let before = c.args.self.now in
    let new = Struct c.args.tag c.args.members in
    let opened = opened_by _ c.args.tag c.requires.«open» in
    let laid : c.in_ok-base.base ≡ base_of before.bases.items new = rw c.deref.ensures.value at c.in_ok-base.ensures.gives in
    record {
      types =
          rw (c.put.ensures.kinds, c.put.ensures.bases, c.put.ensures.pointers)
          (completed (kinds_of before) before.bases.items before.pointers.items c.requires.table.types c.args.t.0 opened.kind_there new c.in_ok-base.base
          opened.is opened.incomplete opened.no_pointer (λ u e. absurd (cc)) laid
          (ap (λ (o : Option Base). is_some o) laid
          ∙ struct_known (kinds_of before) before.bases.items before.pointers.items c.requires.table.types c.args.members.items c.requires.members ∙ sym c.requires.some)
          c.in_ok-base.ensures.small);
      arrays =
          rw (c.put.ensures.kinds, c.put.ensures.arrays)
          (arrays_completed (kinds_of before) (array_in before.arrays) c.requires.table.arrays c.args.t.0 opened.kind_there new opened.is opened.no_array (λ u n e. absurd (cc)));
      few = rw c.put.ensures.kinds (few_still (kinds_of before) new c.args.t.0 c.requires.table.few);
      ordered = rw c.put.ensures.kinds (ordered_set (kinds_of before) c.args.t.0 opened.kind_there new opened.is c.requires.table.ordered tt);
      elements =
          rw c.put.ensures.kinds
          (elements_set (kinds_of before) c.args.t.0 opened.kind_there new opened.is opened.incomplete (λ u n e. absurd (cc)) c.requires.table.elements);
    }
