use Rattle.std.proofs.Common.{sym}
use Rattle.sb_declare.specs.Openings.{plain_opening}
use Rattle.sb_declare.proofs.steps.Sharing.{declarator_is}
use Rattle.sb_declare.proofs.declarations.first_declarator.Goals as goal

pub returns : goal.returns
returns c =
    let o = plain_opening c.args.names.now.texts c.args.below c.args.opening.now in
    record {
      read = rw (
        declarator_is c.args.names.now.texts c.args.below o o.specified.types o.base o.count c.args.tokens.now,
        sym c.shared-common.ensures.noted,
        sym c.shared-common.ensures.storage,
        sym c.depth_of-depth.ensures,
      ) c.declarator_on.ensures.read;
    }
