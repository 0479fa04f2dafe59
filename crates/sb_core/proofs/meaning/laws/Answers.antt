use Rattle.std.proofs.Common.{refl}
use Rattle.sb_core.specs.Layout.{known_after}
use Rattle.sb_core.proofs.Beginning.{begins_formed}
use Rattle.sb_core.proofs.Rounding.{rounds_up}
use Rattle.sb_core.proofs.Sorts.{one_sort, number_type, stays_inside}
use Rattle.sb_core.proofs.Spelled.{spelled_once}
use Rattle.sb_core.proofs.meaning.laws.Goals as goal

pub returns-clause-one_sort : goal.returns-clause-one_sort
returns-clause-one_sort c = one_sort

pub returns-clause-number_type : goal.returns-clause-number_type
returns-clause-number_type c = number_type

pub returns-clause-inside : goal.returns-clause-inside
returns-clause-inside c = stays_inside

pub returns-clause-begins : goal.returns-clause-begins
returns-clause-begins c = begins_formed

pub returns-clause-rounds : goal.returns-clause-rounds
returns-clause-rounds c = rounds_up

pub returns-clause-first : goal.returns-clause-first
unfolding known_after
returns-clause-first c = (refl, refl)

pub returns-clause-padded : goal.returns-clause-padded
returns-clause-padded c = (refl, refl)

pub returns-clause-spelled : goal.returns-clause-spelled
returns-clause-spelled c = spelled_once
