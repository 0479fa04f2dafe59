use Rattle.std.proofs.Common.{sym}
use Rattle.sb_derivation.specs.Declarators.{plain_declarator}
use Rattle.sb_declare.specs.Openings.{plain_opening}
use Rattle.sb_unit.proofs.steps.Bodies.{declared_as_by}
use Rattle.sb_unit.proofs.external.body_names.Goals as goal

pub returns : goal.returns
returns c =
    rw (sym (declared_as_by c.args.names.now.texts c.args.below (plain_opening c.args.names.now.texts c.args.below c.args.opening.now) c.args.first.now.declarator.name (plain_declarator c.args.opening.now.specified.types c.args.first.now.declarator).inner))
    c.names_inside.ensures
