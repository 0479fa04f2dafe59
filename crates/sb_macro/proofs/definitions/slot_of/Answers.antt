use Rattle.std.proofs.Common.{length, refl, sym, ◌∙◌}
use Rattle.std.proofs.lemmas.Option.{slice_get_past, slice_get_read}
use Rattle.sb_macro.proofs.Slots.{no_place, this_place, other_place}
use Rattle.sb_macro.proofs.definitions.slot_of.Goals as goal

pub returns-in_default : goal.returns-in_default
returns-in_default c =
    no_place c.args.slots.now c.args.places.now c.args.name c.requires (slice_get_past c.args.places.now c.args.name.0 c.in_default.ensures.lookup.3)

pub returns-then-has_name : goal.returns-then-has_name
returns-then-has_name c = this_place c.args.slots.now c.args.name c.in-Some.place.now (sym c.has_name.ensures ∙ c.if-has_name.true)

pub returns-else-has_name : goal.returns-else-has_name
returns-else-has_name c =
    let place = c.in-Some.place.now in
    let read = slice_get_read c.args.places.now (length c.args.places.now) c.args.name.0 place refl c.in-Some.ensures.lookup.3.0 c.in-Some.ensures.lookup.1 in
    other_place c.args.slots.now c.args.places.now c.args.name place c.requires read (sym c.has_name.ensures ∙ c.if-has_name.false)
