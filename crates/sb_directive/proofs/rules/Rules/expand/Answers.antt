use Rattle.sb_directive.proofs.MacroWords.{expands_so}
use Rattle.sb_directive.proofs.rules.Rules.expand.Goals as goal

pub returns-clause-expansion : goal.returns-clause-expansion
returns-clause-expansion c = rw (← c.self.view_is) (expands_so c.args.names.now.texts c.self.inside.macros c.args.room c.args.list.now c.expand.result c.expand.ensures.expanded c.expand.ensures.among)
