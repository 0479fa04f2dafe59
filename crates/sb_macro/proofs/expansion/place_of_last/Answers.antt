use Rattle.sb_macro.proofs.expansion.place_of_last.Goals as goal

pub returns-in-Some : goal.returns-in-Some
returns-in-Some c = rw (← c.in-Some.ensures.value)

pub returns-in-None : goal.returns-in-None
returns-in-None c = rw (← c.in-None.ensures.value) c.nowhere.ensures
