use Rattle.std.proofs.Common.{◌≡◌, ◌≤◌, length, refl, arith, append-nil}
use Rattle.std.proofs.lemmas.List.{length-map}
use Rattle.std.proofs.lemmas.Option.{slice_get_past}
use Rattle.sb_macro.specs.Tokens.{fulls_of}
use Rattle.sb_macro.proofs.replacing.add_part.Goals as goal

pub returns-in-None : goal.returns-in-None
returns-in-None c =
    let same : length (fulls_of c.args.fulls.now) ≡ length c.args.fulls.now = length-map c.args.fulls.now _ in
    let past : length (fulls_of c.args.fulls.now) ≤ c.in-Some.number = omega (arith, c.in-None.ensures.lookup.3) in
    rw (← c.in-Some.ensures, slice_get_past (fulls_of c.args.fulls.now) c.in-Some.number past, append-nil) refl
