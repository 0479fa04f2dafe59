use Rattle.std.proofs.Common.{◌+◌, ◌*◌}
use Rattle.sb_sal.proofs.nested.+annotation.Given as goal

abbrev pub decreases-note_within : goal.decreases-note_within
decreases-note_within l = 100 * l.left

abbrev pub decreases-inner : goal.decreases-inner
decreases-inner l = 100 * l.below + 10

abbrev pub decreases-one_note : goal.decreases-one_note
decreases-one_note l = 100 * l.below + 20

abbrev pub decreases-guarded : goal.decreases-guarded
decreases-guarded l = 100 * l.below + 20

abbrev pub decreases-located : goal.decreases-located
decreases-located l = 100 * l.below + 20

abbrev pub decreases-arguments_by : goal.decreases-arguments_by
decreases-arguments_by l = 100 * l.below + 30

abbrev pub decreases-in_parentheses : goal.decreases-in_parentheses
decreases-in_parentheses l = 100 * l.below + 40

abbrev pub decreases-applied : goal.decreases-applied
decreases-applied l = 100 * l.below + 50

abbrev pub decreases-annotation : goal.decreases-annotation
decreases-annotation l = 100 * l.below + 60
