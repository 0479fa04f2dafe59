use Rattle.std.proofs.Common.{Ok, Err}
use Rattle.sb_macro.specs.Defines.{RefusesLine}
use Rattle.sb_macro.proofs.DefiningOnce.{only_table}
use Rattle.sb_macro.proofs.LinePlaces.{line_among}
use Rattle.sb_macro.proofs.table.Macros.define.Goals as goal

pub returns-in-Ok-clause-only : goal.returns-in-Ok-clause-only
returns-in-Ok-clause-only c = only_table c.args.names.now.texts c.args.self.now c.args.line.now (Ok c.in-Ok.field-0) c.add.new.self c.in-Ok.ensures.defined

pub returns-in-Err-clause-only : goal.returns-in-Err-clause-only
returns-in-Err-clause-only c =
    let refused : RefusesLine c.args.names.now.texts c.args.self.now c.args.line.now c.stop_of.result = rw c.stop_of.ensures c.in-Err.ensures.defined in
    only_table {A = Unit {0}} c.args.names.now.texts c.args.self.now c.args.line.now (Err c.stop_of.result) c.add.new.self refused

pub returns-in-Err-clause-among : goal.returns-in-Err-clause-among
returns-in-Err-clause-among c = rw c.stop_of.ensures (line_among _ _ c.args.line.now _ c.in-Err.ensures.defined)
