use Rattle.sb_directive.proofs.MacroWords.{ends_so}
use Rattle.sb_directive.proofs.rules.Rules.given.Goals as goal

pub returns-clause-given : goal.returns-clause-given
returns-clause-given c = rw (← c.self.view_is) (ends_so c.args.names.now.texts c.self.inside.macros c.args.room c.args.list.now c.given.result c.given.ensures.given)
