use Rattle.std.proofs.Common.{◌≡◌, ◌++◌, ◌∷◌, [], None, ap, ◌∙◌}
use Rattle.sb_macro.specs.Macros.{macro_named, macro_of}
use Rattle.sb_macro.specs.Slots.{IsKept, standing}
use Rattle.sb_macro.proofs.Slots.{longer_kept, added_kept, standing_push}
use Rattle.sb_macro.proofs.definitions.Definitions.add.Goals as goal

pub invariant_of-self : goal.invariant_of-self
invariant_of-self c = longer_kept c.self.inside.slots.items c.self.inside.places.items c.make_room.new.places.items c.make_room.ensures.keeps c.self.invariant

pub invariant_of-self-in_err-push : goal.invariant_of-self-in_err-push
invariant_of-self-in_err-push c =
    let kept = longer_kept c.self.inside.slots.items c.self.inside.places.items c.make_room.new.places.items c.make_room.ensures.keeps c.self.invariant in
    rw c.in_err-push.ensures.items kept

pub invariant_of-self-2 : goal.invariant_of-self-2
invariant_of-self-2 c =
    let slots = c.self.inside.slots.items in
    let kept = longer_kept slots c.self.inside.places.items c.make_room.new.places.items c.make_room.ensures.keeps c.self.invariant in
    let none : macro_named (standing slots) c.args.stored.name ≡ None = rw c.self.view_is c.requires in
    rw (c.in_ok-push.ensures.items, c.len-place.ensures ∙ c.self.inside.slots.ok.0) (added_kept slots c.make_room.new.places.items c.args.stored c.in_ok-make_room.ensures.within none kept)

pub returns-clause-added : goal.returns-clause-added
returns-clause-added c =
    rw (← c.self.view_is) (ap standing c.in_ok-push.ensures.items ∙ standing_push c.self.inside.slots.items c.args.stored)

pub returns-clause-distinct : goal.returns-clause-distinct
returns-clause-distinct c = (invariant_of-self-2 c).distinct
