use Rattle.std.proofs.Common.{None, Some, ◌≡◌, ◌++◌, ◌∷◌, [], sym, subst, ap, ◌∙◌}
use Rattle.sb_macro.specs.Adding.{IsAddition}
use Rattle.sb_macro.specs.Defines.{IsDefined}
use Rattle.sb_macro.specs.Macros.{macro_of}
use Rattle.sb_macro.proofs.DefiningLaws.{nothing_added, one_added}
use Rattle.sb_macro.proofs.table.Macros.add.Goals as goal

pub returns-in_default-clause-defined : goal.returns-in_default-clause-defined
returns-in_default-clause-defined c =
    let added : IsAddition c.args.names.now.texts c.self.inside.macros c.args.line.now None = rw c.in_default.is at c.in_ok-stored.ensures in
    rw (← c.self.view_is) (nothing_added c.args.names.now.texts c.self.inside.macros c.args.line.now added)

pub returns-clause-defined : goal.returns-clause-defined
returns-clause-defined c =
    let added : IsAddition c.args.names.now.texts c.self.inside.macros c.args.line.now (Some c.in-Some.stored) = rw c.in-Some.is at c.in_ok-stored.ensures in
    rw (← c.self.view_is, c.in_ok-add.ensures.added) (one_added c.args.names.now.texts c.self.inside.macros c.args.line.now c.in-Some.stored added).1
