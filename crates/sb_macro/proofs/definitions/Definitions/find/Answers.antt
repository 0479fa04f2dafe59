use Rattle.std.proofs.Common.{None, Some, ap, sym, ◌∙◌, arith}
use Rattle.std.specs.Option.{option_map}
use Rattle.sb_macro.specs.Macros.{macro_of}
use Rattle.sb_macro.specs.Slots.{IsSlot, standing}
use Rattle.sb_macro.proofs.Slots.{none_named, one_named, slot_read, slot_within}
use Rattle.sb_macro.proofs.definitions.Definitions.find.Goals as goal

pub returns-in_default : goal.returns-in_default
returns-in_default c =
    let none : IsSlot c.self.inside.slots.items c.args.name None = rw (c.in_default.is, c.as_slice.ensures.value) at c.slot_of.ensures in
    rw (← c.self.view_is) (sym (none_named c.self.inside.slots.items c.args.name none))

pub index-requires : goal.index-requires
index-requires c =
    let slot : IsSlot c.self.inside.slots.items c.args.name (Some c.in-Some.place) = rw (c.in-Some.is, c.as_slice.ensures.value) at c.slot_of.ensures in
    omega (arith, slot_within c.self.inside.slots.items c.in-Some.place slot.0 slot.1)

pub returns : goal.returns
returns c =
    let slot : IsSlot c.self.inside.slots.items c.args.name (Some c.in-Some.place) = rw (c.in-Some.is, c.as_slice.ensures.value) at c.slot_of.ensures in
    let read = slot_read c.self.inside.slots.items c.in-Some.place c.index.result.now slot.0 slot.1 c.index.ensures in
    let named = one_named c.self.inside.slots.items c.args.name c.in-Some.place slot.0 slot.1 slot.2 c.self.invariant.distinct in
    rw (← c.self.view_is) (ap (option_map macro_of) (c.as_ref.ensures.value ∙ read) ∙ sym named)
