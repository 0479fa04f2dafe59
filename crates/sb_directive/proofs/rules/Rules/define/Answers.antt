use Rattle.sb_directive.proofs.MacroWords.{defines_so}
use Rattle.sb_directive.proofs.rules.Rules.define.Goals as goal

pub returns-clause-defined : goal.returns-clause-defined
returns-clause-defined c = rw (← c.self.view_is) (defines_so c.args.names.now.texts c.self.inside.macros _ c.args.line.now c.define.result c.define.ensures.defined c.define.ensures.among)
