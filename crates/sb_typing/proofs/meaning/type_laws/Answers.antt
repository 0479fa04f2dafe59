use Rattle.sb_typing.proofs.TypeLaws.{with_itself, both_ways, by_parts, takes_numbers, assigns_pointer, assigns_number}
use Rattle.sb_typing.proofs.meaning.type_laws.Goals as goal

pub returns-clause-itself : goal.returns-clause-itself
returns-clause-itself c = with_itself

pub returns-clause-both_ways : goal.returns-clause-both_ways
returns-clause-both_ways c = both_ways

pub returns-clause-parts : goal.returns-clause-parts
returns-clause-parts c = by_parts

pub returns-clause-numbers : goal.returns-clause-numbers
returns-clause-numbers c = takes_numbers

pub returns-clause-pointer : goal.returns-clause-pointer
returns-clause-pointer c = assigns_pointer

pub returns-clause-number : goal.returns-clause-number
returns-clause-number c = assigns_number
