use Rattle.std.proofs.Common.{◌≡◌, ◌++◌, drop, map}
use Rattle.sb_picture.specs.Tidying.{tidied}
use Rattle.sb_picture.proofs.tidying.all_tidied.Given as goal

abbrev pub invariant-loop-picture : goal.invariant-loop-picture
invariant-loop-picture l = l.all ++ map tidied (drop l.picture-index l.pictures) ≡ map tidied l.fn.pictures
