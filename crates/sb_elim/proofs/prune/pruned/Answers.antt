use Rattle.std.proofs.Common.{rules, ◌∙◌, arith}
use Rattle.sb_elim.proofs.Reversed.{kept_fit, pruned_from}
use Rattle.sb_elim.proofs.prune.pruned.Goals as goal

pub all_renumbered-requires : goal.all_renumbered-requires
all_renumbered-requires c =
    let newest = c.saturating_sub-newest.result in
    let fit = kept_fit c.args.base newest c.args.steps.now c.deref.result.now (c.deref.ensures.value ∙ c.in_ok-kept.ensures) in
    omega arith

pub returns : goal.returns
returns c =
    let newest = c.saturating_sub-newest.result in
    let e = pruned_from c.args.base newest c.args.steps.now c.deref.result.now (omega arith) (c.deref.ensures.value ∙ c.in_ok-kept.ensures) in
    search (rules, e)
