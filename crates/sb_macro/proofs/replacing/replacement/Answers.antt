use Rattle.std.proofs.Common.{◌<◌, length, false}
use Rattle.sb_base.specs.declared.tokens.PpKind.TheVariants.{Word}
use Rattle.sb_macro.specs.declared.stored.Part.{Part}
use Rattle.sb_macro.specs.Tokens.{fulls_of}
use Rattle.sb_macro.specs.Replacement.{standing}
use Rattle.sb_macro.specs.Macros.{macro_of}
use Rattle.sb_macro.proofs.Lists.{flat_map_take}
use Rattle.sb_macro.proofs.replacing.replacement.Goals as goal

pub loop-part-preserved : goal.loop-part-preserved
loop-part-preserved c =
    let stand = standing (macro_of c.args.stored.now) (fulls_of c.args.fulls.now) c.args.name.now.token.place c.as_slice-2.result.now in
    let none : Part = record { kind = Word; text = record { 0 = 0 }; spaced = false } in
    let inside : c.loop-part.part-index < length c.args.stored.now.body.items = rw (← c.deref-part-items.ensures.value) c.loop-part-test.true in
    let more = flat_map_take stand c.args.stored.now.body.items c.loop-part.part-index none inside in
    cc (c.in_ok-add_part.ensures, c.loop-part.invariant)
