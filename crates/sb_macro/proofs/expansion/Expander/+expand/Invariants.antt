use Rattle.std.proofs.Common.{◌≤◌, ◌+◌, ◌*◌, ◌^◌, length}
use Rattle.sb_macro.specs.Replacing.{scope_of}
use Rattle.sb_macro.specs.Tokens.{toks, lists, fulls_of}
use Rattle.sb_macro.proofs.Expanding.{IsExpanding, AreExpanding}
use Rattle.sb_macro.proofs.expansion.Expander.+expand.Given as goal

abbrev pub decreases-expand_each : goal.decreases-expand_each
decreases-expand_each l = 3 * l.depth

abbrev pub decreases-expand_list : goal.decreases-expand_list
decreases-expand_list l = 3 * l.depth + 2

abbrev pub decreases-replace : goal.decreases-replace
decreases-replace l = 3 * l.depth + 1

abbrev pub invariant-expand_each-loop-arg : goal.invariant-expand_each-loop-arg
invariant-expand_each-loop-arg l = record {
  expanding : AreExpanding (scope_of l.self) (lists l.fn.args.items) (fulls_of l.fulls.items) (lists l.args.items);
  budget : l.budget.replacements ≤ l.fn.budget.replacements;
}

abbrev pub decreases-expand_each-loop-arg : goal.decreases-expand_each-loop-arg
decreases-expand_each-loop-arg l = length l.args.items

abbrev pub invariant-expand_list-loop-marked : goal.invariant-expand_list-loop-marked
invariant-expand_list-loop-marked l = record {
  expanding : IsExpanding (scope_of l.self) (toks l.fn.pending.items) (toks l.out.items) (toks l.pending.items);
  budget : l.budget.replacements ≤ l.fn.budget.replacements;
}

abbrev pub decreases-expand_list-loop-marked : goal.decreases-expand_list-loop-marked
decreases-expand_list-loop-marked l = l.budget.replacements * 2 ^ 64 + length l.pending.items
