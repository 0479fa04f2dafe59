use Rattle.std.proofs.Common.{take, sym, subst, arith}
use Rattle.std.proofs.lemmas.Grind.{common_steps}
use Rattle.std.proofs.lemmas.List.{take_all}
use Rattle.std.proofs.lemmas.List.Elements.{All-more, All-same}
use Rattle.sb_term.specs.declared.row.Row.{Row}
use Rattle.sb_term.specs.Linear.{IsTerm}
use Rattle.sb_elim.proofs.symbols.add_rows.Goals as goal

pub loop-row-preserved : goal.loop-row-preserved
loop-row-preserved c = record {
  items = grind (arith, common_steps);
  terms =
      All-more (λ (r : Row). IsTerm r.term) c.args.rows.now c.loop-row.row-index c.row-item.result c.loop-row-test.true c.loop-row.invariant.terms
      (subst (λ (r : Row). IsTerm r.term) c.row-item.is c.entries.ensures.term);
}

pub returns-clause-terms : goal.returns-clause-terms
returns-clause-terms c =
    All-same (λ (r : Row). IsTerm r.term) c.args.rows.now (take c.loop-row.row-index c.args.rows.now)
    (sym (take_all c.loop-row.row-index c.args.rows.now c.loop-row-test.false)) c.loop-row.invariant.terms
