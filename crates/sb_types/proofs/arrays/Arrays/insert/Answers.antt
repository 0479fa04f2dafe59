use Rattle.sb_types.proofs.arrays.Arrays.insert.Goals as goal

pub returns-clause-gives : goal.returns-clause-gives
returns-clause-gives c = λ of count. c.in_ok-insert.ensures.updates.0 (of, count)
