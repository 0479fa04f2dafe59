use Rattle.std.proofs.Common.{◌≡◌, drop, position}
use Rattle.std.specs.List.{position_from}
use Rattle.sb_picture.specs.Regions.{is_next}
use Rattle.sb_picture.proofs.regions.next_island.Given as goal

abbrev pub invariant-loop-at : goal.invariant-loop-at
invariant-loop-at l = position_from (is_next l.written) l.at (drop l.at l.islands) ≡ position (is_next l.fn.written) l.fn.islands
