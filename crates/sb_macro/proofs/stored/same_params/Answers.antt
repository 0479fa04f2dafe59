use Rattle.std.proofs.lemmas.Slice.Eq.{slice_eq-Decides}
use Rattle.std.proofs.lemmas.Bool.Decides.{Decides-like}
use Rattle.sb_macro.proofs.Sameness.{name_decides, params_same}
use Rattle.sb_macro.proofs.stored.same_params.Goals as goal

pub returns-in-Some-Some : goal.returns-in-Some-Some
returns-in-Some-Some c =
    let same = params_same c.as_slice.result.now c.as_slice-in-Some-Some.result.now in
    rw (c.in-Some-Some.is-0, c.in-Some-Some.is-1, ← c.as_slice.ensures.value, ← c.as_slice-in-Some-Some.ensures.value)
    (Decides-like c.eq.result same.0 same.1 (slice_eq-Decides name_decides _ _ c.eq.result c.eq.ensures))
