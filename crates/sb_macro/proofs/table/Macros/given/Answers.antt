use Rattle.sb_macro.proofs.EndingLaws.{few_if_given, among_if_given, only_if_given}
use Rattle.sb_macro.proofs.table.Macros.given.Goals as goal

pub returns-clause-given : goal.returns-clause-given
returns-clause-given c = rw (← c.self.view_is) c.given.ensures

pub returns-clause-room : goal.returns-clause-room
returns-clause-room c = few_if_given _ c.args.list.now c.given.result (returns-clause-given c)

pub returns-clause-among : goal.returns-clause-among
returns-clause-among c = among_if_given _ c.args.list.now c.given.result (returns-clause-given c)

pub returns-clause-only : goal.returns-clause-only
returns-clause-only c = only_if_given _ c.args.list.now c.given.result (returns-clause-given c)
