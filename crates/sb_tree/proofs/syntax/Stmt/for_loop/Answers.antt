-- The plain tree of `for`, of whose parts three may be absent.
use Rattle.sb_tree.proofs.Nodes.{plain_for}
use Rattle.sb_tree.proofs.syntax.Stmt.for_loop.Goals as goal

pub returns : goal.returns
returns c = plain_for c.args.first c.args.test c.args.step c.args.body c.args.place
