use Rattle.std.proofs.Common.{◌∙◌, ap, sym}
use Rattle.sb_parse.specs.Parser.{done}
use Rattle.sb_tree.specs.Plain.{plain_decls}
use Rattle.sb_declare.specs.Openings.{plain_declared}
use Rattle.sb_unit.proofs.laws.Units.{unit_read}
use Rattle.sb_grammar.proofs.units.tree_of.Goals as goal

pub new-requires : goal.new-requires
new-requires c = (unit_read c.args.names.now.texts c.args.tokens.now (plain_declared c.in-Ok.found.value) c.in-Ok.found.rest.now c.in-Ok.ensures).0.1

pub returns-in-Ok : goal.returns-in-Ok
returns-in-Ok c = (
  plain_declared c.in-Ok.found.value,
  c.in-Ok.ensures ∙ ap (done (plain_declared c.in-Ok.found.value)) (unit_read c.args.names.now.texts c.args.tokens.now (plain_declared c.in-Ok.found.value) c.in-Ok.found.rest.now c.in-Ok.ensures).1,
  ap plain_decls (sym c.new.ensures),
)
