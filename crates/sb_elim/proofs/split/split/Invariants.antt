use Rattle.std.proofs.Common.{◌≡◌}
use Rattle.std.specs.List.{filter}
use Rattle.sb_term.specs.Elimination.{is_positive, is_negative, is_without}
use Rattle.sb_elim.proofs.split.split.Given as goal

abbrev pub invariant-loop-row : goal.invariant-loop-row
invariant-loop-row l = record {
  positive : l.sides.positive.items ≡ filter (is_positive l.symbol) l.yielded;
  negative : l.sides.negative.items ≡ filter (is_negative l.symbol) l.yielded;
  without : l.sides.without.items ≡ filter (is_without l.symbol) l.yielded;
}
