-- What is left to compare decides.
use Rattle.std.proofs.Common.{◌≡◌, ◌-◌, length}
use Rattle.sb_typing.specs.Classes.{compatible, compatible_down}
use Rattle.sb_typing.proofs.classes.compatible.Given as goal

abbrev pub invariant-loop-depth : goal.invariant-loop-depth
invariant-loop-depth l = compatible_down (length l.types - l._depth) l.types l.left l.right ≡ compatible l.types l.fn.t l.fn.u
