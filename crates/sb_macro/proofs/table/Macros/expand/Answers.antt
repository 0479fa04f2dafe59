use Rattle.std.proofs.Common.{Ok, Err}
use Rattle.sb_macro.proofs.GivenPlaces.{expanded_among, stops_among}
use Rattle.sb_macro.proofs.OnlyAnswers.{only_answer, stops_so}
use Rattle.sb_macro.proofs.table.Macros.expand.Goals as goal

pub returns-in-Ok-clause-expanded : goal.returns-in-Ok-clause-expanded
returns-in-Ok-clause-expanded c = rw (← c.self.view_is) c.in-Ok.ensures

pub returns-in-Err-clause-expanded : goal.returns-in-Err-clause-expanded
returns-in-Err-clause-expanded c = rw (c.stop_of.ensures, ← c.self.view_is) (stops_so _ c.args.list.now c.in-Err.halt c.in-Err.ensures)

pub returns-in-Ok-clause-among : goal.returns-in-Ok-clause-among
returns-in-Ok-clause-among c = expanded_among _ c.args.list.now c.in-Ok.out.items (returns-in-Ok-clause-expanded c)

pub returns-in-Err-clause-among : goal.returns-in-Err-clause-among
returns-in-Err-clause-among c = stops_among _ c.args.list.now c.stop_of.result (returns-in-Err-clause-expanded c)

pub returns-in-Ok-clause-only : goal.returns-in-Ok-clause-only
returns-in-Ok-clause-only c = only_answer _ c.args.list.now (Ok c.in-Ok.out) (returns-in-Ok-clause-expanded c)

pub returns-in-Err-clause-only : goal.returns-in-Err-clause-only
returns-in-Err-clause-only c = only_answer _ c.args.list.now (Err c.stop_of.result) (returns-in-Err-clause-expanded c)
