use Rattle.std.proofs.Common.{◌≡◌, ◌+◌, drop}
use Rattle.sb_function.specs.Params.{place_of}
use Rattle.sb_function.proofs.params.place_of.Given as goal

abbrev pub invariant-loop-place : goal.invariant-loop-place
invariant-loop-place l = place_of l.fn.name l.fn.names ≡ l.place + place_of l.fn.name (drop l.place l.fn.names)
