use Rattle.sb_macro.proofs.stored.Stored.param.Goals as goal

pub returns-in-Some : goal.returns-in-Some
returns-in-Some c = rw (c.in-Some.is, ← c.deref.ensures.value) c.place_of.ensures
