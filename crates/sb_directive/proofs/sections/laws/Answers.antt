-- Each clause is a law of proofs/Groups.antt.
use Rattle.sb_directive.proofs.Groups as groups
use Rattle.sb_directive.proofs.sections.laws.Goals as goal

pub returns-clause-group : goal.returns-clause-group
returns-clause-group c = groups.group

pub returns-clause-otherwise : goal.returns-clause-otherwise
returns-clause-otherwise c = groups.otherwise

pub returns-clause-one_group : goal.returns-clause-one_group
returns-clause-one_group c = groups.one_group

pub returns-clause-or_the_last : goal.returns-clause-or_the_last
returns-clause-or_the_last c = groups.or_the_last

pub returns-clause-evaluated : goal.returns-clause-evaluated
returns-clause-evaluated c = groups.evaluated

pub returns-clause-evaluated_first : goal.returns-clause-evaluated_first
returns-clause-evaluated_first c = groups.evaluated_first

pub returns-clause-begun : goal.returns-clause-begun
returns-clause-begun c = groups.begun

pub returns-clause-accepted : goal.returns-clause-accepted
returns-clause-accepted c = groups.accepted

pub returns-clause-refused : goal.returns-clause-refused
returns-clause-refused c = groups.refused

pub returns-clause-ended : goal.returns-clause-ended
returns-clause-ended c = groups.ended

pub returns-clause-nested : goal.returns-clause-nested
returns-clause-nested c = groups.nested
