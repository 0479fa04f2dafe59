use Rattle.std.proofs.Common.{refl}
use Rattle.sb_declare.specs.Openings.{plain_opening}
use Rattle.sb_declare.proofs.steps.Sharing.{nameless_is}
use Rattle.sb_declare.proofs.declarations.nameless.Goals as goal

pub returns : goal.returns
returns c =
    let o = plain_opening c.args.names.now.texts c.args.below c.args.opening in
    let shared = c.shared-common.ensures in
    record { read = rw (nameless_is c.args.names.now.texts c.args.below o c.shared-common.result (rw (shared.outer, shared.tokens) refl) shared.noted shared.storage shared.later c.args.tokens.now refl) c.nameless_behind.ensures.read }
