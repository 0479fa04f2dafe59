use Rattle.std.proofs.Common.{◌≡◌, drop}
use Rattle.sb_picture.specs.Asking.{with_all_met}
use Rattle.sb_picture.proofs.asking.add_symbols.Given as goal

abbrev pub invariant-loop-entry : goal.invariant-loop-entry
invariant-loop-entry l = with_all_met l.symbols (drop l.entry-index l.entries) ≡ with_all_met l.fn.symbols l.fn.entries
