use Rattle.std.proofs.Common.{◌≡◌, ◌+◌, ◌≤◌, length}
use Rattle.sb_macro.specs.Arguments.{arguments}
use Rattle.sb_macro.specs.Tokens.{toks, lists}
use Rattle.sb_macro.proofs.Splitting.{behind}
use Rattle.sb_macro.proofs.arguments.take_arguments.Given as goal

abbrev pub invariant-loop-marked : goal.invariant-loop-marked
invariant-loop-marked l = record {
  split : behind (lists l.args.items) (toks l.arg.items) (arguments l.names.texts l.depth (toks l.rest.items)) ≡ arguments l.names.texts 0 (toks l.fn.rest.items);
  small : l.depth + length l.rest.items ≤ length l.fn.rest.items;
}

abbrev pub decreases-loop-marked : goal.decreases-loop-marked
decreases-loop-marked l = length l.rest.items
