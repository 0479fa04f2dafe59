-- Each clause is a law of proofs/Reading.antt, at numbers.
use Rattle.sb_parse.specs.Read.{tested}
use Rattle.sb_parse.proofs.Places.{one_place, none_is_refused}
use Rattle.sb_parse.proofs.Reading as reading
use Rattle.sb_parse.proofs.laws.Goals as goal

pub returns-clause-one_tree : goal.returns-clause-one_tree
returns-clause-one_tree c = λ is more p P. reading.one_tree P

pub returns-clause-longest : goal.returns-clause-longest
returns-clause-longest c = λ is more p P. reading.longest P

pub returns-clause-refused : goal.returns-clause-refused
returns-clause-refused c = λ is more p P. reading.refused P

pub returns-clause-whole_read : goal.returns-clause-whole_read
returns-clause-whole_read c = λ is more p P. reading.whole_complete P

pub returns-clause-whole_refused : goal.returns-clause-whole_refused
returns-clause-whole_refused c = λ is more p P. reading.whole_refused P

pub returns-clause-one_place : goal.returns-clause-one_place
returns-clause-one_place c = λ is. one_place (tested is)

pub returns-clause-none_is_refused : goal.returns-clause-none_is_refused
returns-clause-none_is_refused c = λ is. none_is_refused (tested is)
