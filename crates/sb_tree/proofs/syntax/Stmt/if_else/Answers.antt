-- The plain tree of `if`, whose second branch may be absent.
use Rattle.sb_tree.proofs.Nodes.{plain_if}
use Rattle.sb_tree.proofs.syntax.Stmt.if_else.Goals as goal

pub returns : goal.returns
returns c = plain_if c.args.test c.args.yes c.args.no c.args.place
