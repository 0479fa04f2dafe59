use Rattle.std.proofs.Common.{◌≡◌, refl}
use Rattle.std.proofs.lemmas.Slice.Eq.{slice_eq-Decides}
use Rattle.std.specs.Bool.{Decides}
use Rattle.sb_macro.proofs.Sameness.{part_decides, name_decides, macros_same, true_where_not}
use Rattle.sb_macro.proofs.stored.Stored.is_same.Goals as goal

pub returns : goal.returns
returns c =
    let bodies : Decides c.eq.result (c.args.self.now.body.items ≡ c.args.other.now.body.items) =
    rw (← c.as_slice.ensures.value, ← c.as_slice-2.ensures.value) (slice_eq-Decides part_decides _ _ c.eq.result c.eq.ensures) in
    let names : c.args.self.now.name ≡ c.args.other.now.name = (name_decides _ _).0 (true_where_not _ c.if-ne.ensures) in
    macros_same c.args.self.now c.args.other.now c.eq.result names (c.if-not-same_params.ensures.0 refl) bodies
