use Rattle.sb_function.proofs.Steps.Whole as steps
use Rattle.sb_function.proofs.files.read_file.Goals as goal

pub returns-clause-tree : goal.returns-clause-tree
returns-clause-tree c = steps.tree_read c.args.pieces.now c.read_whole.result c.read_whole.ensures.read

pub returns-clause-all : goal.returns-clause-all
returns-clause-all c = steps.all_read c.args.pieces.now c.read_whole.result c.read_whole.ensures.read

pub returns-clause-refused : goal.returns-clause-refused
returns-clause-refused c = steps.refused_there c.args.pieces.now c.read_whole.result c.read_whole.ensures.read
