use Rattle.std.proofs.Common.{sym, ◌∙◌}
use Rattle.sb_function.proofs.Steps.Found.{found_hit, found_miss, found_end}
use Rattle.sb_function.proofs.words.found.Goals as goal

pub returns-then-is_name : goal.returns-then-is_name
returns-then-is_name c = record { found = found_hit c.args.name c.args.params.now c.loop-position.position _ c.loop-position-test.true c.loop-position.invariant (sym c.is_name.ensures.same ∙ c.if-is_name.true) }

pub loop-position-preserved : goal.loop-position-preserved
loop-position-preserved c = found_miss c.args.name c.args.params.now c.loop-position.position _ c.loop-position-test.true c.loop-position.invariant (sym c.is_name.ensures.same ∙ c.if-is_name.false)

pub returns : goal.returns
returns c = record { found = found_end c.args.name c.args.params.now c.loop-position.position c.loop-position-test.false c.loop-position.invariant }
