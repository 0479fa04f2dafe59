use Rattle.std.proofs.Common.{◌∙◌, ap}
use Rattle.sb_term.specs.declared.aside.Aside.{Aside}
use Rattle.sb_term.specs.Elimination.{is_positive, is_negative}
use Rattle.sb_elim.proofs.Passing.{all_passing}
use Rattle.sb_elim.proofs.state.State.eliminate.Goals as goal

pub combine_all-requires-clause-positive : goal.combine_all-requires-clause-positive
combine_all-requires-clause-positive c =
    all_passing (is_positive c.args.symbol) c.replace-rows.result.items c.as_slice.result.now (c.as_slice.ensures ∙ ap (λ (a : Aside). a.positive) c.in_ok-aside.ensures.aside)

pub combine_all-requires-clause-negative : goal.combine_all-requires-clause-negative
combine_all-requires-clause-negative c =
    all_passing (is_negative c.args.symbol) c.replace-rows.result.items c.as_slice-2.result.now (c.as_slice-2.ensures ∙ ap (λ (a : Aside). a.negative) c.in_ok-aside.ensures.aside)
