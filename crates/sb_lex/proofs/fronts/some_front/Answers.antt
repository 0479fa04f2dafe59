use Rattle.sb_lex.specs.Splicing.{bytes_of}
use Rattle.sb_lex.proofs.Fitting.{some_decides}
use Rattle.sb_lex.proofs.fronts.some_front.Goals as goal

pub returns : goal.returns
returns c = let same = some_decides c.args.start (bytes_of c.args.text.now) c.longest.result c.longest.ensures in cc (same, c.is_some.ensures)
