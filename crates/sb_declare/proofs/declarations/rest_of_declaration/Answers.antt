use Rattle.std.proofs.Common.{refl, subst}
use Rattle.sb_lexicon.specs.Meaning.{GivesAs}
use Rattle.sb_declare.specs.Openings.{plain_counted, plain_declared, plain_opening, rest_behind}
use Rattle.sb_declare.proofs.steps.Sharing.{rest_is}
use Rattle.sb_declare.proofs.declarations.rest_of_declaration.Goals as goal

pub returns : goal.returns
returns c =
    let texts = c.args.names.now.texts in
    let below = c.args.below in
    let ts = c.args.tokens.now in
    let o = plain_opening texts below c.args.opening in
    let first = plain_counted c.args.opening.specified.types c.args.first in
    let shared = c.shared-common.ensures in
    record {
      read = rw (rest_is texts below o c.shared-common.result (rw (shared.outer, shared.tokens) refl) shared.noted shared.storage shared.later first ts)
          (subst (λ t. GivesAs plain_declared (rest_behind texts below c.shared-common.result t o.specified.types first ts) c.rest_behind.result) c.in_ok-base.ensures.tree c.rest_behind.ensures.read);
    }
