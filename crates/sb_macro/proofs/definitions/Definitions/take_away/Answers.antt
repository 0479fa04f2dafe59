use Rattle.std.proofs.Common.{◌≡◌, None, Some, sym, ap, ◌∙◌, arith}
use Rattle.sb_macro.specs.Macros.{macro_named}
use Rattle.sb_macro.specs.Slots.{IsSlot, standing}
use Rattle.sb_macro.proofs.Slots.{none_named, emptied, emptied_kept, slot_within}
use Rattle.sb_macro.proofs.Tables.{without_none}
use Rattle.sb_macro.proofs.definitions.Definitions.take_away.Goals as goal

pub empty-requires : goal.empty-requires
empty-requires c =
    let slot : IsSlot c.self.inside.slots.items c.args.name (Some c.in-Some.place) = rw (c.in-Some.is, c.as_slice.ensures.value) at c.slot_of.ensures in
    omega (arith, slot_within c.self.inside.slots.items c.in-Some.place slot.0 slot.1)

pub invariant_of-self : goal.invariant_of-self
invariant_of-self c =
    let slot : IsSlot c.self.inside.slots.items c.args.name (Some c.in-Some.place) = rw (c.in-Some.is, c.as_slice.ensures.value) at c.slot_of.ensures in
    rw c.empty.ensures (emptied_kept c.self.inside.slots.items c.self.inside.places.items c.args.name c.in-Some.place slot.0 slot.1 slot.2 c.self.invariant)

pub returns-in-Some-clause-without : goal.returns-in-Some-clause-without
returns-in-Some-clause-without c =
    let slot : IsSlot c.self.inside.slots.items c.args.name (Some c.in-Some.place) = rw (c.in-Some.is, c.as_slice.ensures.value) at c.slot_of.ensures in
    rw (← c.self.view_is)
    (ap standing c.empty.ensures ∙ emptied c.self.inside.slots.items c.args.name c.in-Some.place slot.0 slot.1 slot.2 c.self.invariant.distinct)

pub returns-in-Some-clause-distinct : goal.returns-in-Some-clause-distinct
returns-in-Some-clause-distinct c = (invariant_of-self c).distinct

pub returns-in_default-clause-without : goal.returns-in_default-clause-without
returns-in_default-clause-without c =
    let none : IsSlot c.self.inside.slots.items c.args.name None = rw (c.in_default.is, c.as_slice.ensures.value) at c.slot_of.ensures in
    rw (← c.self.view_is) (sym (without_none c.args.name (standing c.self.inside.slots.items) (none_named c.self.inside.slots.items c.args.name none)))
