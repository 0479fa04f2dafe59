use Rattle.sb_macro.proofs.marks.mark_of.Goals as goal

pub returns-in-Some : goal.returns-in-Some
returns-in-Some c = rw (← c.in-Some.ensures.text) c.mark_of_text.ensures

pub returns-in-None : goal.returns-in-None
returns-in-None c = rw (← c.in-None.ensures.text)
