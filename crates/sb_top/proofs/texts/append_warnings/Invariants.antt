use Rattle.std.proofs.Common.{◌≡◌, ◌++◌, drop}
use Rattle.sb_top.specs.Texts as text
use Rattle.sb_top.proofs.texts.append_warnings.Given as goal

abbrev pub invariant-loop-warning : goal.invariant-loop-warning
invariant-loop-warning l =
    l.out.items ++ text.warnings l.files l.names.texts (drop l.warning-index l.warnings) ≡ l.initial.out.items ++ text.warnings l.files l.names.texts l.warnings
