-- what a filter leaves passes its test
use Rattle.std.proofs.Common.{◌≡◌, Bool, true, List, subst, sym}
use Rattle.std.specs.List.{All, filter}
use Rattle.std.proofs.lemmas.List.Elements.{filter_passes}

pub all_passing : {X : Type 0} (test : X → Bool) (rs xs : List X) → xs ≡ filter test rs → All (λ x. test x ≡ true) xs
all_passing {X} test rs xs e = subst (λ (ys : List X). All (λ x. test x ≡ true) ys) (sym e) (filter_passes test rs)
