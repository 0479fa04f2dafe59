use Rattle.std.proofs.Common.{◌≤◌, arith}
use Rattle.sb_declare.proofs.steps.Readers.{no_declared, some_declared}
use Rattle.sb_declare.proofs.declarations.declaration.Goals as goal

pub returns-then-left-lt2 : goal.returns-then-left-lt2
returns-then-left-lt2 c = record { read = rw (no_declared c.args.names.now.texts c.args.left c.args.types.now c.args.tokens.now c.if-left-lt2.true) c.barred.ensures }

pub returns : goal.returns
returns c =
    let some : 2 ≤ c.args.left = omega (arith, c.if-left-lt2.false) in
    record { read = rw (some_declared c.args.names.now.texts c.args.left c.args.types.now c.args.tokens.now some) c.declaration_at.ensures.read }
